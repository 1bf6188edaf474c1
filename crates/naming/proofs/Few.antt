-- Names are few: bytes below 128 + n have at most n, and no bytes have more names than bytes. Assumes nothing.
-- Read first: specs/Names (collect), proofs/Collecting (variable_bytes), proofs/Renaming (Lows).
use mathlib.Core.Path.{◌≡◌, refl, ap, ap₂, ◌∙◌}
use mathlib.Core.Bool.{Bool, true, false}
use mathlib.Core.Logic.{⊎_elim}
use mathlib.Core.List.Memᴰ
use mathlib.Core.List.{List, [], ◌∷◌, ◌++◌, map}
use Prim.Native.Nat.{ℕ, ◌+◌, ◌-◌, ◌≤◌, ◌<◌}
use native.Mathlib.Omega.{arith}
use native.Mathlib.Decide.{dec_lt}
use lib.ListN.{length, length-append, length-map}
use Rattle.std.specs.Prelude.{if◌then◌else◌}
use Rattle.terms.specs.Base.{distinct}
use Rattle.terms.specs.Term.{Terms, variables_of, terms_bytes}
use Rattle.terms.proofs.Subst.{In}
use Rattle.terms.proofs.Numbers.{in_distinct, distinct_distinct}
use Rattle.terms.proofs.Limits.{distinct_below}
use Rattle.terms.proofs.Rename.{distinct_map}
use Rattle.naming.specs.Names.{added, collect}
use Rattle.naming.proofs.Collecting.{variable_bytes, vb_none, vb_symbol, vb_variable, collect_distinct}
use Rattle.naming.proofs.Renaming.{Lows, vb_terms, up_inj}

-- the bytes' variables, each below n
pub record Variables (n : ℕ) (l : List ℕ) : Type 0 where
  pub numbers : List ℕ
  pub bytes : variable_bytes l ≡ map (λ x. 128 + x) numbers
  pub low : (x : ℕ) → In x numbers → x < n

few : {n : ℕ} {l : List ℕ} → Variables n l → length (collect [] l) ≤ n
few {n} {l} v =
    let xs : List ℕ = v.numbers in
    let e : collect [] l ≡ map (λ x. 128 + x) (distinct xs) = collect_distinct l ∙ ap distinct v.bytes ∙ distinct_map (λ x. 128 + x) xs (up_inj xs) in
    let below = distinct_below n (distinct xs) (distinct_distinct xs) (λ x i. v.low x (in_distinct x xs i)) in
    omega (arith, ap length e, length-map (distinct xs) (λ x. 128 + x), below)

low_variables : (n : ℕ) (l : List ℕ) → ((b : ℕ) → In b l → b < 128 + n) → Variables n l
low_variables n [] h = record { numbers = []; bytes = vb_none; low = λ x i. absurd (Memᴰ.not-nil i) }
low_variables n (b ∷ l) h = go (dec_lt b 128) (low_variables n l (λ c i. h c (Memᴰ.tail i)))
  where
    go : Dec (b < 128) → Variables n l → Variables n (b ∷ l)
    go (yes k) v = record { numbers = v.numbers; bytes = vb_symbol b l k ∙ v.bytes; low = v.low }
    go (no k) v =
        record {
          numbers = (b - 128) ∷ v.numbers;
          bytes = vb_variable b l (omega arith) ∙ ap₂ ◌∷◌ (omega arith) v.bytes;
          low = λ x i. ⊎_elim (λ e. omega (arith, e, h b (Memᴰ.head refl))) (λ j. v.low x j) (Memᴰ.cases_cons i);
        }

pub names_few : (n : ℕ) (l : List ℕ) → ((b : ℕ) → In b l → b < 128 + n) → length (collect [] l) ≤ n
names_few n l h = few (low_variables n l h)

-- of terms with variables below n
pub terms_few : (n : ℕ) (ts : Terms) → Lows ts → ((x : ℕ) → In x (variables_of ts) → x < n) → length (collect [] (terms_bytes ts)) ≤ n
terms_few n ts w h = few (record { numbers = variables_of ts; bytes = vb_terms ts w; low = h })

-- a byte adds at most one
add_few : (p q : Bool) (b : ℕ) (ns : List ℕ) → length (if p then ns else (if q then ns else (ns ++ (b ∷ [])))) ≤ length ns + 1
add_few true q b ns = omega arith
add_few false true b ns = omega arith
add_few false false b ns = omega (arith, length-append ns (b ∷ []))

added_few : (b : ℕ) (ns : List ℕ) → length (added b ns) ≤ length ns + 1
unfolding added
added_few b ns = add_few _ _ b ns

pub collect_few : (ns l : List ℕ) → length (collect ns l) ≤ length ns + length l
unfolding collect
collect_few ns [] = omega arith
collect_few ns (b ∷ l) = omega (arith, collect_few (added b ns) l, added_few b ns)
