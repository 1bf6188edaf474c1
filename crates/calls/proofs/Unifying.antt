-- `unify` lays the two sides out for `instances::common_instance`, whose answer is the definition's: a lemma for each return. Assumes
-- nothing.
-- Read first: specs/Answers (Unifies, found_told), instances/specs/Common (SidesUnify, TwoSides), only_equation/specs/Places (SidesAt).
use mathlib.Core.Path.{◌≡◌, refl, ap, sym, ◌∙◌}
use mathlib.Core.Bool.{true, false}
use mathlib.Core.List.{List, ◌++◌, append_assoc}
use Prim.Native.Nat.{ℕ, ◌-◌, ◌<◌, ◌≤◌}
use native.Mathlib.Omega.{arith}
use lib.Dec.{ltb}
use lib.ListN.{length, take, drop, length-append}
use lib.Seq.{drop-drop, drop_at, take_at}
use borrow.Author.Tests.{lt-ltb, le-ltb}
use Rattle.terms.specs.Term.{size, term_bytes}
use Rattle.terms.proofs.Flats.{widen}
use Rattle.terms.proofs.Bytes.{length_bytes}
use Rattle.unify.specs.Unify.{mgu}
use Rattle.problem.specs.Problem.{ok, refused, ◌>>=◌, refuse_if}
use Rattle.reading.proofs.Reading.{bind_ok, bind_refused}
use Rattle.completion.specs.Calls.{Single, CommonInstance, instance, no_instance, instance_too_large, parse_single, unified, enough, unify_call, after_unify}
use Rattle.completion.proofs.Accepts.{single_fits}
use Rattle.only_equation.specs.Places.{table, left_side, right_side, SidesAt}
use Rattle.instances.specs.Common.{found_of, SidesOf, TwoSides, SidesUnify}
use Rattle.instances.specs.declared.Found.{Found}
use Rattle.calls.specs.Answers.{unified_told, found_told, unify_returns, Unifies}
use Rattle.std.specs.Prelude.{Ok, Err}
use Rattle.problem.specs.declared.Reason.TheVariants.{ShortBuffer}
use Rattle.problem.specs.declared.Refusal.{Refusal}
use Rattle.problem.specs.Reasons.{number_of_reason}

-- what is found for the definition's value is told as that value is
found_returns : (u : CommonInstance) → found_told (found_of u) ≡ unify_returns (ok u)
unfolding found_told found_of unify_returns
found_returns (instance bytes) = refl
found_returns no_instance = refl
found_returns instance_too_large = refl

-- `unify`
module _ (l d : List ℕ) where
  pub unify_short : length d < 16_384 → Unifies (unify_call l (length d)) (Err (record { reason = ShortBuffer; place = 0 })) d d
  unfolding unify_call enough refuse_if ◌>>=◌ unified_told unify_returns after_unify
  unify_short h = let t : ltb (length d) 16_384 ≡ true = lt-ltb (length d) 16_384 h in rw t (record { told = refl; leaves = refl })

  module _ (room : 16_384 ≤ length d) where
    call_is : unify_call l (length d) ≡
        (parse_single l >>= λ (P : Single). ok (unified P.equation.sides.left (mgu P.equation.sides.left P.equation.sides.right)))
    unfolding unify_call enough refuse_if ◌>>=◌
    call_is = let t : ltb (length d) 16_384 ≡ false = le-ltb (length d) 16_384 room in rw t refl

    pub unify_unread : (r : Refusal) → parse_single l ≡ refused (number_of_reason r.reason) r.place → Unifies (unify_call l (length d)) (Err r) d d
    unfolding unified_told unify_returns after_unify
    unify_unread r h = rw (call_is ∙ bind_refused _ h) (record { told = refl; leaves = refl })

    module _ (e a b c : ℕ) (S : Single) (A : SidesAt l e a b c S) where
      both_bytes : take (c - a) (drop a l) ≡ term_bytes (left_side S) ++ term_bytes (right_side S)
      both_bytes =
          let s = A.left in
          let t = A.right in
          let n : length (term_bytes (left_side S) ++ term_bytes (right_side S)) ≡ c - a =
          omega (
            arith,
            length-append (term_bytes (left_side S)) (term_bytes (right_side S)),
            length_bytes (left_side S),
            length_bytes (right_side S),
            A.right_is,
            A.end_is,
          ) in
          let r : s.rest ≡ term_bytes (right_side S) ++ t.rest =
          sym (drop_at (term_bytes (left_side S)) s.rest (size (left_side S)) (length_bytes (left_side S)))
          ∙ ap (drop (size (left_side S))) (sym s.bytes)
          ∙ drop-drop (size (left_side S)) a l
          ∙ ap (λ (n : ℕ). drop n l) (sym A.right_is) ∙ t.bytes in
          ap (take (c - a)) (s.bytes
          ∙ ap (λ (x : List ℕ). term_bytes (left_side S) ++ x) r
          ∙ sym (append_assoc (term_bytes (left_side S)) (term_bytes (right_side S)) t.rest))
          ∙ take_at (term_bytes (left_side S) ++ term_bytes (right_side S)) t.rest (c - a) n

      unify_sides : SidesOf (take (c - a) (drop a l)) (table l e) (left_side S) (right_side S)
      unify_sides =
          let k = single_fits l S A.is in
          record {
            left = widen 32 128 (table l e) (left_side S) (omega arith) A.left.wf;
            right = widen 32 128 (table l e) (right_side S) (omega arith) A.right.wf;
            small_left = k.fits.left.small;
            small_right = k.fits.right.small;
            bytes = both_bytes;
          }

      begins_at : b - a ≡ size (left_side S)
      begins_at = omega (arith, A.right_is)

      pub unify_two : TwoSides (take (c - a) (drop a l)) (table l e) (b - a)
      unify_two = record { s = left_side S; t = right_side S; sides = unify_sides; begins = begins_at }

      pub unify_answers : (f : Found) (d' : List ℕ) → SidesUnify (take (c - a) (drop a l)) (table l e) (b - a) f d d' →
          Unifies (unify_call l (length d)) (Ok f) d d'
      unfolding unified_told
      unify_answers f d' h =
          let g = h.unifies (left_side S) (right_side S) unify_sides begins_at in
          rw (call_is ∙ bind_ok _ A.is)
          (record { told = ap found_told g.answer ∙ found_returns (unified (left_side S) (mgu (left_side S) (right_side S))); leaves = g.leaves })
