-- Terms one behind the other: two lists of them, the first k and the others, those that a node's byte begins, and variables alone. Assumes nothing.
-- Read first: specs/Flat, specs/Owed (IsNode).
use mathlib.Core.Path.{◌≡◌, refl, sym, ap, ◌∙◌}
use mathlib.Core.Logic.{⊎_elim}
use mathlib.Core.List.{List, [], ◌∷◌, ◌++◌, append_assoc}
use Prim.Native.Nat.{ℕ, zero, suc, ◌+◌, ◌-◌, ◌≤◌, ◌<◌}
use native.Mathlib.Omega.{arith}
use native.Mathlib.Nat.{le_of_suc-le-suc}
use lib.ListN.{length}
use Rattle.terms.specs.Term.{var, node, Terms, nil, cons, term_bytes, terms_bytes, sizes, count}
use Rattle.terms.specs.Scan.{owes}
use Rattle.terms.specs.Flat.{Wf, Wfs}
use Rattle.terms.specs.Owed.{IsNode}
use Rattle.terms.proofs.Scans.{owes_symbol, owes_other}

-- two lists of terms, one behind the other
unfoldable pub join : Terms → Terms → Terms
join nil us = us
join (cons t ts) us = cons t (join ts us)

pub join_bytes : (ts us : Terms) → terms_bytes (join ts us) ≡ terms_bytes ts ++ terms_bytes us
unfolding join terms_bytes
join_bytes nil us = refl
join_bytes (cons t ts) us = ap (λ l. term_bytes t ++ l) (join_bytes ts us) ∙ sym (append_assoc (term_bytes t) (terms_bytes ts) (terms_bytes us))

pub join_wf : (n : ℕ) (tab : List ℕ) (ts us : Terms) → Wfs n tab ts → Wfs n tab us → Wfs n tab (join ts us)
unfolding join Wfs
join_wf n tab nil us w v = v
join_wf n tab (cons t ts) us w v = (w.0, join_wf n tab ts us w.1 v)

pub join_count : (ts us : Terms) → count (join ts us) ≡ count ts + count us
unfolding join count
join_count nil us = omega arith
join_count (cons t ts) us = omega (arith, join_count ts us)

pub join_sizes : (ts us : Terms) → sizes (join ts us) ≡ sizes ts + sizes us
unfolding join sizes
join_sizes nil us = omega arith
join_sizes (cons t ts) us = omega (arith, join_sizes ts us)

-- the first k of some terms, and the others
pub record Split (n : ℕ) (tab : List ℕ) (k : ℕ) (ts : Terms) : Type 0 where
  pub first : Terms
  pub rest : Terms
  pub number : count first ≡ k
  pub others : count rest + k ≡ count ts
  pub bytes : terms_bytes ts ≡ terms_bytes first ++ terms_bytes rest
  pub first_wf : Wfs n tab first
  pub rest_wf : Wfs n tab rest

pub split : (n : ℕ) (tab : List ℕ) (k : ℕ) (ts : Terms) → Wfs n tab ts → k ≤ count ts → Split n tab k ts
unfolding count terms_bytes Wfs
split n tab zero ts w h = record { first = nil; rest = ts; number = refl; others = omega arith; bytes = refl; first_wf = tt; rest_wf = w }
split n tab (suc k) nil w h = absurd (omega arith)
split n tab (suc k) (cons t ts) w h =
    let s = split n tab k ts w.1 (le_of_suc-le-suc h) in
    record {
      first = cons t s.first;
      rest = s.rest;
      number = ap suc s.number;
      others = omega (arith, s.others);
      bytes = ap (λ l. term_bytes t ++ l) s.bytes ∙ sym (append_assoc (term_bytes t) (terms_bytes s.first) (terms_bytes s.rest));
      first_wf = (w.0, s.first_wf);
      rest_wf = s.rest_wf;
    }

-- so many variables
unfoldable pub fill : ℕ → Terms
fill zero = nil
fill (suc n) = cons (var 0) (fill n)

pub fill_count : (n : ℕ) → count (fill n) ≡ n
unfolding fill count
fill_count zero = refl
fill_count (suc n) = ap suc (fill_count n)

module _ (n : ℕ) (tab : List ℕ) where
  -- A node's byte and the terms ts are one term, of the byte and the first of ts, and the others.
  abbrev pub Begins : ℕ → Terms → Type 0
  Begins b ts = (us : Terms) × Wfs n tab us × (count us + owes tab b ≡ suc (count ts)) × (b ∷ terms_bytes ts ≡ terms_bytes us)

  pub begins_symbol : (b : ℕ) (ts : Terms) → b < 16 → Wfs n tab ts → owes tab b ≤ count ts → Begins b ts
  unfolding Wf Wfs count terms_bytes term_bytes
  begins_symbol b ts h w l =
      let s = split n tab (owes tab b) ts w l in
      let c = s.number ∙ owes_symbol tab b h in
      (cons (node b s.first) s.rest, ((h, c, s.first_wf), s.rest_wf), omega (arith, s.others), ap (λ x. b ∷ x) s.bytes)

  pub begins_variable : (b : ℕ) (ts : Terms) → 128 ≤ b → b < 128 + n → Wfs n tab ts → Begins b ts
  unfolding Wf Wfs count terms_bytes term_bytes
  begins_variable b ts h k w =
      let e : b ≡ 128 + (b - 128) = omega arith in
      let x : b - 128 < n = omega arith in
      (cons (var (b - 128)) ts, (x, w), omega (arith, owes_other tab b (omega arith)), ap (λ c. c ∷ terms_bytes ts) e)

  pub begins : (b : ℕ) (ts : Terms) → IsNode n b → Wfs n tab ts → owes tab b ≤ count ts → Begins b ts
  begins b ts h w l = ⊎_elim (λ s. begins_symbol b ts s w l) (λ v. begins_variable b ts v.0 v.1 w) h

  pub fill_wf : 0 < n → (m : ℕ) → Wfs n tab (fill m)
  unfolding fill Wf Wfs
  fill_wf h zero = tt
  fill_wf h (suc m) = (h, fill_wf h m)

-- only no terms have no bytes
pub no_bytes : (ts : Terms) → terms_bytes ts ≡ [] → count ts ≡ 0
unfolding terms_bytes term_bytes count
no_bytes nil e = refl
no_bytes (cons (var x) ts) e = absurd (omega (arith, ap length e))
no_bytes (cons (node f us) ts) e = absurd (omega (arith, ap length e))
