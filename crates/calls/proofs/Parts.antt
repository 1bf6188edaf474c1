-- The part that `subterm` hands back: a lemma for each return of `subterm_bounds`. Assumes nothing.
-- Read first: completion/specs/Calls (subterm_part), specs/Answers (PartAt), only_equation/specs/Places (SidesAt).
use mathlib.Core.Path.{◌≡◌, refl, ap, ap₂, sym, ◌∙◌}
use mathlib.Core.List.{List}
use mathlib.Core.Option.{Option, none, some}
use Prim.Native.Nat.{ℕ, ◌+◌, ◌-◌, ◌<◌, ◌≤◌}
use native.Mathlib.Omega.{arith}
use lib.Dec.{leb}
use lib.ListN.{length, take, drop}
use lib.Seq.{drop-drop}
use borrow.Author.Tests.{ne_eqb, le-leb, lt-leb}
use Rattle.terms.specs.Term.{Term, size, subterm_at}
use Rattle.terms.specs.Flat.{Starts}
use Rattle.terms.proofs.Places.{size_pos}
use Rattle.terms.proofs.Positions.{subterm_below, subterm_is}
use Rattle.terms.proofs.Starts.{starts_inside}
use Rattle.problem.specs.Problem.{refused}
use Rattle.completion.specs.Calls.{Single, parse_single, Part, part_of, subterm_part, subterm_call}
use Rattle.only_equation.specs.Places.{table, left_side, SidesAt}
use Rattle.calls.specs.Answers.{subterm_refused, PartAt}

-- `subterm_bounds`
module _ (l : List ℕ) (p : ℕ) where
  pub bounds_unread : (n q : ℕ) → parse_single l ≡ refused n q → PartAt l p 0 0
  unfolding subterm_part subterm_refused
  bounds_unread n q h =
      record {
        start = rw (h, subterm_part) refl;
        bytes = rw (h, subterm_part) refl;
        only = rw (h, subterm_refused) refl;
        low = omega arith;
        within = omega arith;
      }

  module _ (e a b c : ℕ) (S : Single) (A : SidesAt l e a b c S) where
    part_is : subterm_part l p ≡ part_of S.equation.first p (subterm_at (left_side S) p)
    unfolding subterm_part
    part_is = rw (A.is, subterm_part) refl

    refusal_is : subterm_refused l p ≡ leb (size (left_side S)) p
    unfolding subterm_refused
    refusal_is = rw (A.is, subterm_refused) refl

    pub bounds_past : b - a ≤ p → PartAt l p 0 0
    unfolding part_of
    bounds_past h =
        let n : subterm_at (left_side S) p ≡ none = go (subterm_at (left_side S) p) refl in
        record {
          start = sym (ap (λ (x : Part). x.start) (part_is ∙ ap (part_of S.equation.first p) n));
          bytes = sym (ap (λ (x : Part). x.bytes) (part_is ∙ ap (part_of S.equation.first p) n));
          only = sym (refusal_is ∙ le-leb (size (left_side S)) p (omega (arith, A.right_is)));
          low = omega arith;
          within = omega arith;
        }
      where
        go : (o : Option Term) → subterm_at (left_side S) p ≡ o → subterm_at (left_side S) p ≡ none
        go none q = q
        go (some u) q = absurd (omega (arith, subterm_below (left_side S) p u q, A.right_is))

    module _ (h : p < b - a) where
      found : (u : Term) × (subterm_at (left_side S) p ≡ some u)
      found = (_, subterm_is (left_side S) p (omega (arith, A.right_is)))

      pub bounds_inside : (n : ℕ) → ((x : Term) → Starts (table l e) (drop (a + p) l) x → n ≡ a + p + size x) → a + p ≤ n → n ≤ length l → PartAt l p (a + p) n
      unfolding part_of
      bounds_inside n q low high =
          let u = found.0 in
          let s : Starts (table l e) (drop (a + p) l) u = rw (drop-drop p a l)
          at (starts_inside (table l e) (drop a l) (left_side S) p u A.left found.1) in
          let z : n - (a + p) ≡ size u = omega (arith, q u s) in
          let w : S.equation.first + 3 + p ≡ a + p = omega (arith, A.left_is) in
          let f : subterm_part l p ≡ record { start = S.equation.first + 3 + p; bytes = size u } = part_is ∙ ap (part_of S.equation.first p) found.1 in
          record {
            start = sym (ap (λ (x : Part). x.start) f ∙ w);
            bytes = z ∙ sym (ap (λ (x : Part). x.bytes) f);
            only =
                ne_eqb (n - (a + p)) 0 (λ y. absurd (omega (arith, size_pos u)))
                ∙ sym (refusal_is ∙ lt-leb (size (left_side S)) p (omega (arith, A.right_is)));
            low = low;
            within = high;
          }

-- `subterm`
module _ (l : List ℕ) (p a b : ℕ) (k : PartAt l p a b) where
  pub part_bytes : take (b - a) (drop a l) ≡ subterm_call l p
  unfolding subterm_call
  part_bytes = ap₂ (λ (n i : ℕ). take n (drop i l)) k.bytes k.start
