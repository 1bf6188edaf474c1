-- What is read from bytes stands there: a term that is well-formed over the table, with its bytes at the front; a side of at most 120 nodes; a pair
-- that fills the bytes. Assumes nothing.
-- Read first: specs/Forms (read_pair), proofs/Reading, terms/specs/Flat (Wf).
use mathlib.Core.Path.{◌≡◌, ap, ◌∙◌, subst}
use mathlib.Core.List.{List, ◌++◌, append-nil}
use Prim.Native.Nat.{ℕ, ◌<◌, ◌≤◌}
use native.Mathlib.Omega.{arith}
use lib.ListN.{length}
use borrow.Author.Tests.{ltb-false}
use Rattle.terms.specs.Term.{Term, var, node, Terms, nil, cons, size, term_bytes, Pair}
use Rattle.terms.specs.Flat.{Wf, Wfs}
use Rattle.terms.proofs.Lists.{nothing}
use Rattle.terms.proofs.Limits.{Made, MadeAll}
use Rattle.reading.specs.Forms.{ok, ReadPart, read_term, read_side, read_pair}
use Rattle.reading.specs.Over.{Over, OverAll}
use Rattle.reading.specs.Answers.{symbols_of, Table}
use Rattle.reading.proofs.Reading.{has_below, from_bind, passed, reads, ok_injective}
use Rattle.reading.proofs.Scanned.{arity_is}

module _ (tab : List ℕ) (T : Table tab) where
  -- terms over the symbols of a table, with variables below 16, are well-formed over it
  module _ (S : ℕ → Type 0) where
    mutual
      unfolding Over Made Wf

      over_wf : (t : Term) → Over (symbols_of tab) t → Made S (λ x. x < 16) t → Wf 16 tab t
      over_wf (var x) o m = m
      over_wf (node f ts) o m = (omega (arith, has_below (symbols_of tab) f o.0, T.even, T.small), o.1 ∙ arity_is tab T f, over_wf_all ts o.2 m.1)

      over_wf_all : (ts : Terms) → OverAll (symbols_of tab) ts → MadeAll S (λ x. x < 16) ts → Wfs 16 tab ts
      over_wf_all nil o m = tt
      over_wf_all (cons t ts) o m = (over_wf t o.0 m.0, over_wf_all ts o.1 m.1)

  pub record TermStands (bytes : List ℕ) (p : ReadPart Term) : Type 0 where
    pub wf : Wf 16 tab p.part
    pub front : bytes ≡ term_bytes p.part ++ p.rest

  pub term_stands : (depth at : ℕ) (bytes : List ℕ) (p : ReadPart Term) → read_term (symbols_of tab) depth at bytes ≡ ok p → TermStands bytes p
  term_stands depth at bytes p e =
      let r = reads (symbols_of tab) depth at bytes p e in
      record { wf = over_wf _ p.part r.over r.made; front = r.front }

  pub side_stands : (at : ℕ) (bytes : List ℕ) (p : ReadPart Term) → read_side (symbols_of tab) at bytes ≡ ok p → TermStands bytes p × (size p.part ≤ 120)
  unfolding read_side
  side_stands at bytes p e =
      from_bind _ _ p e λ t e₁ k.
      from_bind _ _ p k λ u e₂ e₃.
      subst (λ (q : ReadPart Term). TermStands bytes q × (size q.part ≤ 120)) (ok_injective e₃)
      (term_stands _ at bytes t e₁, ltb-false 120 (size t.part) (passed _ 11 at u e₂))

  pub record PairStands (bytes : List ℕ) (p : Pair) : Type 0 where
    pub left_wf : Wf 16 tab p.left
    pub right_wf : Wf 16 tab p.right
    pub left_small : size p.left ≤ 120
    pub right_small : size p.right ≤ 120
    pub filled : bytes ≡ term_bytes p.left ++ term_bytes p.right

  pub pair_stands : (at : ℕ) (bytes : List ℕ) (p : Pair) → read_pair (symbols_of tab) at bytes ≡ ok p → PairStands bytes p
  unfolding read_pair
  pair_stands at bytes p e =
      from_bind _ _ p e λ x e₁ k.
      from_bind _ _ p k λ y e₂ k'.
      from_bind _ _ p k' λ u e₃ e₄.
      let X = side_stands at bytes x e₁ in
      let Y = side_stands x.end x.rest y e₂ in
      let none = nothing y.rest (omega (arith, ltb-false 0 (length y.rest) (passed _ 10 y.end u e₃))) in
      subst (PairStands bytes) (ok_injective e₄)
      (record {
        left_wf = X.0.wf;
        right_wf = Y.0.wf;
        left_small = X.1;
        right_small = Y.1;
        filled = X.0.front
            ∙ ap (λ (m : List ℕ). term_bytes x.part ++ m) (Y.0.front
            ∙ ap (λ (m : List ℕ). term_bytes y.part ++ m) none ∙ append-nil (term_bytes y.part));
      })
