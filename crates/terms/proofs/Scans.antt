-- What the walk over bytes finds: a well-formed term's end; a lemma for each step and each return of the loops. Assumes nothing.
-- Read first: specs/Scan, specs/Flat.
use mathlib.Core.Path.{◌≡◌, refl, sym, ap, ◌∙◌}
use mathlib.Core.Bool.{Bool, true, false}
use mathlib.Core.List.{List, [], ◌∷◌, ◌++◌, append_assoc}
use Prim.Native.Nat.{ℕ, zero, suc, ◌+◌, ◌-◌, ◌%◌, ◌<◌, ◌≤◌}
use native.Mathlib.Omega.{arith}
use native.Mathlib.Nat.{zero-add, suc-add, mod-eq_of_lt}
use native.Mathlib.Numerals.{add-one}
use lib.Dec.{leb, ltb}
use lib.ListN.{length, get_or, drop, drop_of_length-le, get_or-eq_default}
use lib.Seq.{drop-cons}
use borrow.Author.Tests.{lt-ltb, le-ltb, le-leb, lt-leb, ltb-true, ltb-false}
use Rattle.std.specs.Prelude.{Ok, Err}
use Rattle.terms.specs.Term.{Term, var, node, Terms, nil, cons, term_bytes, terms_bytes, size, sizes, count}
use Rattle.terms.specs.Scan.{arity, owes, skip, is_node, scan}
use Rattle.terms.specs.Flat.{Wf, Wfs}

pub owes_symbol : (tab : List ℕ) (f : ℕ) → f < 16 → owes tab f ≡ arity tab f
unfolding owes
owes_symbol tab f h = rw (lt-ltb f 16 h) refl

pub owes_other : (tab : List ℕ) (b : ℕ) → 16 ≤ b → owes tab b ≡ 0
unfolding owes
owes_other tab b h = rw (le-ltb b 16 h) refl

pub owes_past : (tab : List ℕ) (b : ℕ) → length tab ≤ b + b → b < 16 → owes tab b ≡ 0
owes_past tab b h k = owes_symbol tab b k ∙ get_or-eq_default tab 0 h

-- The table is read at the remainder, which is the byte itself where that is a symbol.
pub owes_none : (tab : List ℕ) (b f : ℕ) → f ≡ b % 16 → length tab ≤ f + f → owes tab b ≡ 0
owes_none tab b f e h = go (ltb b 16) refl
  where
    go : (t : Bool) → ltb b 16 ≡ t → owes tab b ≡ 0
    go true k = let n : b < 16 = ltb-true b 16 k in let m : b % 16 ≡ b = mod-eq_of_lt n in owes_past tab b (omega arith) n
    go false k = owes_other tab b (ltb-false b 16 k)

pub owes_read : (tab : List ℕ) (b f : ℕ) → f ≡ b % 16 → b < 16 → get_or tab (f + f) 0 ≡ owes tab b
owes_read tab b f e k = let m : f ≡ b = e ∙ mod-eq_of_lt k in ap (λ x. get_or tab (x + x) 0) m ∙ sym (owes_symbol tab b k)

pub skip_none : (tab l : List ℕ) → skip tab l 0 ≡ 0
unfolding skip
skip_none tab [] = refl
skip_none tab (b ∷ l) = refl

mutual
  unfolding term_bytes size Wf count skip

  pub skip_bytes : (m : ℕ) (tab : List ℕ) (t : Term) → Wf m tab t → (rest : List ℕ) (n : ℕ) → skip tab (term_bytes t ++ rest) (suc n) ≡ size t + skip tab rest n
  skip_bytes m tab (var x) w rest n = rw (owes_other tab (0x80 + x) (omega arith), zero-add n) (omega arith)
  skip_bytes m tab (node f ts) w rest n = rw (owes_symbol tab f w.0, ← w.1) (omega (arith, skip_bytes_all m tab ts w.2 rest n))

  pub skip_bytes_all : (m : ℕ) (tab : List ℕ) (ts : Terms) → Wfs m tab ts → (rest : List ℕ) (n : ℕ) →
      skip tab (terms_bytes ts ++ rest) (count ts + n) ≡ sizes ts + skip tab rest n
  skip_bytes_all m tab nil w rest n = rw (zero-add n) (omega arith)
  skip_bytes_all m tab (cons t ts) w rest n =
      rw (append_assoc, suc-add (count ts) n)
      (omega (arith, skip_bytes m tab t w.0 (terms_bytes ts ++ rest) (count ts + n), skip_bytes_all m tab ts w.1 rest n))

-- The three steps of a loop over the bytes t whose position is i and whose debt is n.
pub skip_turn : (tab t : List ℕ) (i n k : ℕ) → i < length t → (n ≡ 0 → ⊥) → k ≡ owes tab (get_or t i 0) →
    i + 1 + skip tab (drop (i + 1) t) (n - 1 + k) ≡ i + skip tab (drop i t) n
unfolding skip
skip_turn tab t i zero k h z e = absurd (z refl)
skip_turn tab t i (suc n) k h z e =
    let m : owes tab (get_or t i 0) + n ≡ suc n - 1 + k = omega arith in
    rw (add-one i, drop-cons t i 0 h, m) (omega arith)

pub skip_done : (tab t : List ℕ) (i n : ℕ) → n ≡ 0 → i + skip tab (drop i t) n ≡ i
skip_done tab t i n e = rw e (omega (arith, skip_none tab (drop i t)))

pub skip_over : (tab t : List ℕ) (i n : ℕ) → length t ≤ i → i + skip tab (drop i t) n ≡ i
unfolding skip
skip_over tab t i n h = rw (drop_of_length-le t h) (omega arith)

pub skip_ended : (tab t : List ℕ) (i n : ℕ) → i ≡ length t → i + skip tab (drop i t) n ≡ length t
skip_ended tab t i n e = let h : length t ≤ i = omega arith in skip_over tab t i n h ∙ e

-- a byte that is a node
pub node_symbol : (tab : List ℕ) (b : ℕ) → b + b < length tab → is_node tab b ≡ true
unfolding is_node
node_symbol tab b h = rw (lt-ltb (b + b) (length tab) h) refl

pub node_gap : (tab : List ℕ) (b : ℕ) → length tab ≤ b + b → b < 128 → is_node tab b ≡ false
unfolding is_node
node_gap tab b h k = rw (le-ltb (b + b) (length tab) h, lt-leb 0x80 b k) refl

pub node_high : (tab : List ℕ) (b : ℕ) → length tab ≤ b + b → 128 ≤ b → is_node tab b ≡ leb b 143
unfolding is_node
node_high tab b h k = rw (le-ltb (b + b) (length tab) h, le-leb 0x80 b k) refl

-- the steps of the checked loop
pub scan_none : (tab l : List ℕ) (i : ℕ) → scan tab l i 0 ≡ Ok i
unfolding scan
scan_none tab [] i = refl
scan_none tab (b ∷ l) i = refl

pub scan_turn : (tab t : List ℕ) (i n k : ℕ) → i < length t → (n ≡ 0 → ⊥) → is_node tab (get_or t i 0) ≡ true → k ≡ owes tab (get_or t i 0) →
    scan tab (drop (i + 1) t) (i + 1) (n - 1 + k) ≡ scan tab (drop i t) i n
unfolding scan
scan_turn tab t i zero k h z y e = absurd (z refl)
scan_turn tab t i (suc n) k h z y e =
    let m : suc n - 1 + k ≡ owes tab (get_or t i 0) + n = omega arith in
    rw (drop-cons t i 0 h, y, m, add-one i)

pub scan_bad : (tab t : List ℕ) (i n : ℕ) → i < length t → (n ≡ 0 → ⊥) → is_node tab (get_or t i 0) ≡ false →
    Err (record { place = i }) ≡ scan tab (drop i t) i n
unfolding scan
scan_bad tab t i zero h z y = absurd (z refl)
scan_bad tab t i (suc n) h z y = rw (drop-cons t i 0 h, y)

pub scan_done : (tab t : List ℕ) (i n : ℕ) → n ≡ 0 → Ok i ≡ scan tab (drop i t) i n
scan_done tab t i n e = rw e (sym (scan_none tab (drop i t) i))

pub scan_ended : (tab t : List ℕ) (i n : ℕ) → i ≡ length t → n ≡ 0 → Ok (length t) ≡ scan tab (drop i t) i n
scan_ended tab t i n e z = ap Ok (sym e) ∙ scan_done tab t i n z

pub scan_short : (tab t : List ℕ) (i n : ℕ) → length t ≤ i → (n ≡ 0 → ⊥) → Err (record { place = i }) ≡ scan tab (drop i t) i n
unfolding scan
scan_short tab t i zero h z = absurd (z refl)
scan_short tab t i (suc n) h z = rw (drop_of_length-le t h)

pub scan_cut : (tab t : List ℕ) (i n : ℕ) → i ≡ length t → (n ≡ 0 → ⊥) → Err (record { place = length t }) ≡ scan tab (drop i t) i n
scan_cut tab t i n e z =
    let h : length t ≤ i = omega arith in
    ap (λ p. Err (record { place = p })) (sym e) ∙ scan_short tab t i n h z
