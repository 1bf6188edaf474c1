-- Document 01, "The result and settle": what `compare`, `unify` and `subterm` answer, by numbers and bytes. Assumes nothing.
use Rattle.std.specs.Prelude.{◌≡◌, Bool, true, List, ℕ, ◌+◌, ◌-◌, ◌≤◌, eqb, leb, length, Option, Some, None, Result, Ok, Err}
use Rattle.std.specs.Borrow.{Bor}
use Rattle.terms.specs.Term.{size}
use Rattle.problem.specs.Problem.{Reading, ok, refused}
use Rattle.rewriting.specs.Rewrite.{too_large, end_number}
use Rattle.completion.specs.Calls.{parse_single, Part, subterm_part, CommonInstance, instance, no_instance, instance_too_large, after_unify}
use Rattle.instances.specs.declared.Found.{Found}
use Rattle.instances.specs.declared.Found.TheVariants.{Instance, Nothing, TooLarge}
use Rattle.order.specs.declared.Compared.{Compared}
use Rattle.order.specs.Walk.{number_of_compared}
use Rattle.problem.specs.declared.Refusal.{Refusal}
use Rattle.problem.specs.Reasons.{number_of_reason}
use Rattle.calls.specs.declared.Bounds.{Bounds}

-- "Compare answers 1 (left above), 2 (right above), 3 (identical), 4 (neither)", or the refusal's number and place. [12.2]
unfoldable pub compared_told : Result Compared Refusal → Reading ℕ
compared_told (Ok c) = ok (number_of_compared c)
compared_told (Err r) = refused (number_of_reason r.reason) r.place

-- What unify returns: the count of result bytes, "none", a number only, or a number and a place. "a common instance over 120 nodes" has the number of
-- the run's end for a term over 120 nodes. [12.4 to 12.6]
pub data Returned : Type 0 where
  bytes_written : ℕ → Returned
  none_common : Returned
  number_only : ℕ → Returned
  number_and_place : ℕ → ℕ → Returned

-- what `instances::common_instance` answers
unfoldable pub found_told : Found → Returned
found_told (Instance count) = bytes_written count
found_told Nothing = none_common
found_told TooLarge = number_only (end_number too_large)

unfoldable pub unified_told : Result Found Refusal → Returned
unified_told (Ok found) = found_told found
unified_told (Err r) = number_and_place (number_of_reason r.reason) r.place

unfoldable pub unify_returns : Reading CommonInstance → Returned
unify_returns (ok (instance bytes)) = bytes_written (length bytes)
unify_returns (ok no_instance) = none_common
unify_returns (ok instance_too_large) = number_only (end_number too_large)
unify_returns (refused n place) = number_and_place n place

-- the answer and the result buffer, before and after, are what the definition says [4.14, 12.4 to 12.6]
pub record Unifies (u : Reading CommonInstance) (r : Result Found Refusal) (d d' : List ℕ) : Type 0 where
  pub told : unified_told r ≡ unify_returns u
  pub leaves : d' ≡ after_unify u d

-- "refused (2 to 12, or a position not below the node count)" [12.8]
unfoldable pub subterm_refused : List ℕ → ℕ → Bool
subterm_refused l p =
    elim (parse_single l) [
      | ok P ↦ leb (size P.equation.sides.left) p
      | refused n place ↦ true
    ]

-- a reference to where that part of what another refers to begins: the same block of memory, so many bytes on; the bytes are `subterm_call`
-- [12.7]
pub record IsPart (lent part : Bor (List ℕ)) (q : Part) : Type 0 where
  pub block : part.ref_ptr.0 ≡ lent.ref_ptr.0
  pub place : part.ref_ptr.1 ≡ lent.ref_ptr.1 + q.start

-- the part from a to b is the one that `subterm` hands back
pub record PartAt (l : List ℕ) (p a b : ℕ) : Type 0 where
  pub start : a ≡ (subterm_part l p).start
  pub bytes : b - a ≡ (subterm_part l p).bytes
  pub only : eqb (b - a) 0 ≡ subterm_refused l p
  pub low : a ≤ b
  pub within : b ≤ length l

-- what `subterm_bounds` answers: that part, or none, and it is the empty one in front
abbrev pub IsBounds : List ℕ → ℕ → Option Bounds → Type 0
IsBounds l p (Some b) = PartAt l p b.start b.end
IsBounds l p None = PartAt l p 0 0
