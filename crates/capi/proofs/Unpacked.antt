-- An answer for C taken apart gives back the parts that went in: for the parts that fit, and so for every answer of the calls, by the law beside each
-- call of what it comes to. Assumes nothing.
-- Read first: specs/Codes (code, answer_code, kind_in), reading/proofs/Refusals (Within), completion/proofs/Refusals, decide/proofs/Refusals.
use mathlib.Core.Path.{◌≡◌, refl}
use mathlib.Core.Bool.{Bool, true, false}
use mathlib.Core.List.{List}
use mathlib.Core.Logic.{⊎_elim}
use Prim.Native.Nat.{ℕ, ◌≤◌, ◌<◌}
use native.Mathlib.Omega.{arith}
use lib.Dec.{eqb}
use lib.ListN.{length}
use borrow.Author.Tests.{eqb-true, eqb-false, eq-eqb, ne_eqb}
use Rattle.limits.specs.Limits.{most_result, two_byte_values}
use Rattle.rewriting.specs.Rewrite.{end_number}
use Rattle.reading.proofs.Refusals.{Within, reads, refuses, refusal_few, within_also}
use Rattle.problem.specs.Problem.{Reading, ok, refused}
use Rattle.completion.specs.Calls.{complete_call, compare_call, unify_call, CommonInstance, instance, no_instance, instance_too_large, Part, subterm_part}
use Rattle.completion.proofs.Refusals.{CallWithin, complete_within, compare_within, InstanceFew, unify_within, PartWithin, part_within}
use Rattle.completion.specs.Calls.{counted}
use Rattle.rewriting.proofs.Lasting.{inner_rewrites, outer_rewrites}
use Rattle.decide.specs.Decide.{Answer, are_same, are_different, numbered, Counted, decide_call, outermost_call}
use Rattle.decide.specs.Answers.{without_units}
use Rattle.decide.proofs.Refusals.{QuestionWithin, NumberFew, AnswerFew, call_within}
use Rattle.calls.specs.Answers.{Returned, bytes_written, none_common, number_only, number_and_place, unify_returns}
use Rattle.capi.specs.Codes.{value_end, code, answer_code, unify_code, decide_code, counted_code, outermost_code, part_code}
use Rattle.capi.specs.Codes.{kind_in, number_in, value_in, start_in}

-- The answer r has this kind, this number and this value.
pub record Unpacks (r kind number value : ℕ) : Type 0 where
  pub kind_is : kind_in r ≡ kind
  pub number_is : number_in r ≡ number
  pub value_is : value_in r ≡ value

pub code_unpacks : (kind number value : ℕ) → number < two_byte_values → value < value_end → Unpacks (code kind number value) kind number value
unfolding code kind_in number_in value_in
code_unpacks kind number value h k = record { kind_is = omega arith; number_is = omega arith; value_is = omega arith }

-- a refusal of any call
pub refused_unpacks : {A : Type 0} {Q : A → Type 0} (most e : ℕ) → most < two_byte_values → e < value_end → (n at : ℕ) → Within most e Q (refused n at) →
    Unpacks (code 0 n at) 0 n at
refused_unpacks most e h k n at (refuses _ _ p q) = code_unpacks 0 n at (omega (arith, refusal_few most n p)) (omega arith)

-- complete and compare
abbrev pub UnpacksAnswer : ℕ → Reading ℕ → Type 0
UnpacksAnswer r (ok value) = Unpacks r 1 0 value
UnpacksAnswer r (refused number place) = Unpacks r 0 number place

answer_unpacks : (c : Reading ℕ) → CallWithin (λ (v : ℕ). v ≤ most_result) c → UnpacksAnswer (answer_code c) c
unfolding answer_code
answer_unpacks (ok v) (reads h) = code_unpacks 1 0 v (omega arith) (omega arith)
answer_unpacks (refused n at) h = refused_unpacks _ _ (omega arith) (omega arith) n at h

counted_within : (c : Reading (List ℕ)) → CallWithin (λ (r : List ℕ). length r ≤ most_result) c → CallWithin (λ (v : ℕ). v ≤ most_result) (counted c)
unfolding counted
counted_within (ok bytes) (reads h) = reads h
counted_within (refused n at) (refuses _ _ p q) = refuses n at p q

pub complete_unpacks : (problem : List ℕ) (buffer : ℕ) →
    UnpacksAnswer (answer_code (counted (complete_call problem buffer))) (counted (complete_call problem buffer))
complete_unpacks problem buffer = answer_unpacks _ (counted_within _ (complete_within problem buffer))

pub compare_unpacks : (problem : List ℕ) → UnpacksAnswer (answer_code (compare_call problem)) (compare_call problem)
compare_unpacks problem = answer_unpacks _ (within_also (compare_within problem) λ v _ h. omega arith)

-- unify
abbrev pub UnpacksReturned : ℕ → Returned → Type 0
UnpacksReturned r (bytes_written count) = Unpacks r 1 0 count
UnpacksReturned r none_common = Unpacks r 2 0 0
UnpacksReturned r (number_only number) = Unpacks r 3 number 0
UnpacksReturned r (number_and_place number place) = Unpacks r 0 number place

returned_unpacks : (c : Reading CommonInstance) → CallWithin InstanceFew c → UnpacksReturned (unify_code (unify_returns c)) (unify_returns c)
unfolding unify_code unify_returns end_number
returned_unpacks (ok (instance bytes)) (reads h) = code_unpacks 1 0 (length bytes) (omega arith) (omega arith)
returned_unpacks (ok no_instance) h = code_unpacks 2 0 0 (omega arith) (omega arith)
returned_unpacks (ok instance_too_large) h = code_unpacks 3 22 0 (omega arith) (omega arith)
returned_unpacks (refused n at) h = refused_unpacks _ _ (omega arith) (omega arith) n at h

pub unify_unpacks : (problem : List ℕ) (buffer : ℕ) →
    UnpacksReturned (unify_code (unify_returns (unify_call problem buffer))) (unify_returns (unify_call problem buffer))
unify_unpacks problem buffer = returned_unpacks _ (unify_within problem buffer)

-- decide
abbrev pub UnpacksDecided : ℕ → Reading Answer → Type 0
UnpacksDecided r (ok are_same) = Unpacks r 1 0 1
UnpacksDecided r (ok are_different) = Unpacks r 1 0 2
UnpacksDecided r (ok (numbered n)) = Unpacks r 3 n 0
UnpacksDecided r (refused number place) = Unpacks r 0 number place

number_few : (n : ℕ) → NumberFew (numbered n) → n < two_byte_values
number_few n h = ⊎_elim (λ e. omega arith) (λ e. omega arith) h

decided_unpacks : (a : Answer) → NumberFew a → UnpacksDecided (decide_code (ok a)) (ok a)
unfolding decide_code
decided_unpacks are_same h = code_unpacks 1 0 1 (omega arith) (omega arith)
decided_unpacks are_different h = code_unpacks 1 0 2 (omega arith) (omega arith)
decided_unpacks (numbered n) h = code_unpacks 3 n 0 (number_few n h) (omega arith)

pub decide_unpacks : (problem kept : List ℕ) →
    UnpacksDecided (decide_code (without_units (decide_call problem kept))) (without_units (decide_call problem kept))
unfolding decide_code without_units
decide_unpacks problem kept = go _ (call_within _ inner_rewrites problem kept)
  where
    go : (c : Reading Counted) → QuestionWithin AnswerFew c → UnpacksDecided (decide_code (without_units c)) (without_units c)
    go (ok c) (reads h) = decided_unpacks c.answer h.number
    go (refused n at) h = refused_unpacks _ _ (omega arith) (omega arith) n at h

-- outermost: the units are the value
abbrev pub UnpacksUnits : ℕ → Answer → ℕ → Type 0
UnpacksUnits r are_same units = Unpacks r 1 1 units
UnpacksUnits r are_different units = Unpacks r 1 2 units
UnpacksUnits r (numbered n) units = Unpacks r 3 n units

abbrev pub UnpacksCounted : ℕ → Reading Counted → Type 0
UnpacksCounted r (ok c) = UnpacksUnits r c.answer c.units
UnpacksCounted r (refused number place) = Unpacks r 0 number place

units_unpacks : (a : Answer) (units : ℕ) → NumberFew a → units < value_end → UnpacksUnits (counted_code a units) a units
unfolding counted_code
units_unpacks are_same units h k = code_unpacks 1 1 units (omega arith) k
units_unpacks are_different units h k = code_unpacks 1 2 units (omega arith) k
units_unpacks (numbered n) units h k = code_unpacks 3 n units (number_few n h) k

pub outermost_unpacks : (problem kept : List ℕ) → UnpacksCounted (outermost_code (outermost_call problem kept)) (outermost_call problem kept)
unfolding outermost_code
outermost_unpacks problem kept = go _ (call_within _ outer_rewrites problem kept)
  where
    go : (c : Reading Counted) → QuestionWithin AnswerFew c → UnpacksCounted (outermost_code c) c
    go (ok c) (reads h) = units_unpacks c.answer c.units h.number (omega (arith, h.units))
    go (refused n at) h = refused_unpacks _ _ (omega arith) (omega arith) n at h

-- subterm: the answer r has this part
pub record UnpacksPart (r : ℕ) (p : Part) : Type 0 where
  pub start_is : start_in r ≡ p.start
  pub bytes_is : value_in r ≡ p.bytes

part_unpacks : (p : Part) → PartWithin p → UnpacksPart (part_code p) p
unfolding part_code start_in value_in
part_unpacks p h = record { start_is = omega (arith, h.start_few, h.bytes_few); bytes_is = omega (arith, h.bytes_few) }

pub subterm_unpacks : (problem : List ℕ) (position : ℕ) → UnpacksPart (part_code (subterm_part problem position)) (subterm_part problem position)
subterm_unpacks problem position = part_unpacks _ (part_within problem position)

-- it is 0 exactly if the part has no byte
part_zero : (p : Part) → PartWithin p → eqb (part_code p) 0 ≡ eqb p.bytes 0
unfolding part_code
part_zero p h = go (eqb p.bytes 0) refl
  where
    go : (b : Bool) → eqb p.bytes 0 ≡ b → eqb (part_code p) 0 ≡ b
    go true e = eq-eqb (part_code p) 0 (let n = eqb-true p.bytes 0 e in omega (arith, h.empty_first n))
    go false e = ne_eqb (part_code p) 0 (λ z. eqb-false p.bytes 0 e (omega (arith, h.bytes_few)))

pub subterm_zero : (problem : List ℕ) (position : ℕ) → eqb (part_code (subterm_part problem position)) 0 ≡ eqb (subterm_part problem position).bytes 0
subterm_zero problem position = part_zero _ (part_within problem position)
