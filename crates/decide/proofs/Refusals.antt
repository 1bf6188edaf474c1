-- What the question comes to, by whichever strategy: refusals 2 to 15, not 7, at places of at most 16,384, or an answer of which a number is 21 or 22,
-- with at most 1,000,000 units. Assumes nothing.
-- Read first: record/proofs/Refusals, completion/proofs/Refusals, specs/Decide.
use mathlib.Core.Path.{◌≡◌, refl, ap}
use mathlib.Core.List.{List, [], ◌∷◌}
use mathlib.Core.Logic.{◌⊎◌}
use mathlib.Core.Option.{Option}
use Prim.Native.Nat.{ℕ, ◌≤◌}
use native.Mathlib.Omega.{arith}
use Rattle.limits.specs.Limits.{most_record, most_budget}
use Rattle.terms.specs.Base.{Every, of_cons}
use Rattle.terms.specs.Term.{Term, Pair}
use Rattle.reading.specs.Stops.{not_complete, not_above}
use Rattle.reading.proofs.Refusals.{Within, reads, within_bind, within_also, within_test, wider, never_7}
use Rattle.problem.specs.Problem.{Reading, ok, refused, Symbol}
use Rattle.rewriting.specs.Overlap.{Rule}
use Rattle.rewriting.specs.Rewrite.{Paid, done, stop}
use Rattle.rewriting.proofs.Lasting.{Rewrites}
use Rattle.completion.proofs.Accepts.{single_fits}
use Rattle.completion.proofs.Refusals.{single_within}
use Rattle.items.specs.Fields.{RuleAt}
use Rattle.record.proofs.Refusals.{record_within}
use Rattle.decide.specs.Decide.{all_above, read_question, Question, Answer, are_same, are_different, numbered, units_paid, Counted, counted, ask}
use Rattle.decide.specs.Decide.{question_call}
use Rattle.decide.specs.Answers.{without_units}
use Rattle.decide.proofs.Right.{about_rules}

abbrev pub QuestionWithin : {A : Type 0} → (A → Type 0) → Reading A → Type 0
QuestionWithin Q m = Within not_above most_record Q m

-- 15
above_within : (Σ : List Symbol) (rules : List RuleAt) → Every (λ (r : RuleAt). r.first ≤ most_record) rules →
    QuestionWithin (λ _. Unit {0}) (all_above Σ rules)
unfolding all_above
above_within Σ [] h = reads tt
above_within Σ (r ∷ rules) (of_cons k h) = within_bind _ _ (within_test _ not_above r.first refl k) λ _ _. above_within Σ rules h

pub question_within : (problem kept : List ℕ) → QuestionWithin (λ (q : Question). q.budget ≤ most_budget) (read_question problem kept)
unfolding read_question
question_within problem kept =
    within_bind _ _ (wider (omega arith) (omega arith) (within_also (single_within problem) λ S e _. (single_fits problem S e).budget_few)) λ S few.
    within_bind _ _ (wider (omega arith) (omega arith) (record_within S.symbols kept)) λ r firsts.
    within_bind _ _ (within_test _ not_complete 0 refl (omega arith)) λ _ _.
    within_bind _ _ (above_within S.symbols r.rules firsts) λ _ _. reads few

-- a number that is answered
abbrev pub NumberFew : Answer → Type 0
NumberFew are_same = Unit {0}
NumberFew are_different = Unit {0}
NumberFew (numbered n) = (n ≡ 21) ⊎ (n ≡ 22)

pub record AnswerFew (c : Counted) : Type 0 where
  pub number : NumberFew c.answer
  pub units : c.units ≤ most_budget

paid_few : (budget : ℕ) (p : Paid Pair) → budget ≤ most_budget → units_paid budget p ≤ most_budget
unfolding units_paid
paid_few budget (done forms left) h = omega arith
paid_few budget (stop e left) h = omega arith

module _ (next : List Rule → Term → Option Term) (R : (rules : List Rule) → Rewrites rules (next rules)) (problem kept : List ℕ) where
  refuses : QuestionWithin (λ (c : Counted). c.units ≤ most_budget) (question_call next problem kept)
  unfolding question_call ask counted
  refuses = within_bind _ _ (question_within problem kept) λ q few. reads (paid_few q.budget _ few)

  pub call_within : QuestionWithin AnswerFew (question_call next problem kept)
  unfolding without_units
  call_within = within_also refuses λ c e few. record { number = go c.answer (ap without_units e); units = few }
    where
      go : (a : Answer) → without_units (question_call next problem kept) ≡ ok a → NumberFew a
      go are_same e = tt
      go are_different e = tt
      go (numbered n) e = (about_rules next R problem kept).numbers n e

  -- "Refusal 7 no longer occurs." [4.7]
  pub call_never_7 : (at : ℕ) → question_call next problem kept ≡ refused 7 at → ⊥
  call_never_7 at e = never_7 call_within e
