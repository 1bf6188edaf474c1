-- Document 02, Three and Eight: whether two terms are the same, asked of a kept result, from the inside out or from the outside in: from the problem's
-- and the record's bytes to the answer and the units paid; sections 18 and 22 of docs/DEFINITION.md. Assumes nothing.
-- Read first: record/specs/Record, rewriting/specs/Rewrite (normalise_by, both_by), rewriting/specs/Outermost.
use Rattle.std.specs.Prelude.{not, List, [], ◌∷◌, ℕ, ◌-◌, eqb}
use Rattle.std.proofs.Math.Option.{Option}
use Rattle.std.specs.Prelude.{if◌then◌else◌}
use Rattle.terms.specs.Term.{Term, Pair, same}
use Rattle.order.specs.Order.{above}
use Rattle.reading.specs.Stops.{not_complete, not_above}
use Rattle.problem.specs.Problem.{Reading, ok, ◌>>=◌, refuse_if, Symbol, rank_of}
use Rattle.rewriting.specs.Overlap.{Rule}
use Rattle.rewriting.specs.Rewrite.{step, Paid, done, stop, end_number, normalise_by, both_by}
use Rattle.rewriting.specs.Outermost.{step_outer}
use Rattle.completion.specs.Calls.{parse_single}
use Rattle.items.specs.Fields.{RuleAt, rules_of}
use Rattle.record.specs.Record.{read_record}

-- 15: "when a rule's left side is not above its right side, at that field's first byte" [18.11]
unfoldable pub all_above : List Symbol → List RuleAt → Reading (Unit {0})
all_above Σ [] = ok tt
all_above Σ (r ∷ rules) = do
  _ ← refuse_if (not (above (rank_of Σ) r.rule.sides.left r.rule.sides.right)) not_above r.first
  all_above Σ rules

-- What is asked: two terms over the symbols, by a record's rules and within a budget.
pub record Question : Type 0 where
  pub symbols : List Symbol
  pub budget : ℕ
  pub sides : Pair
  pub rules : List Rule

-- "it takes a problem with one equation and a result record"; "After 2 to 12 comes 13"; "Then 14 when the record's end is not 0, place 0. Last 15".
-- [18.1, 18.2, 18.10]
unfoldable pub read_question : List ℕ → List ℕ → Reading Question
read_question problem kept = do
  S ← parse_single problem
  r ← read_record S.symbols kept
  _ ← refuse_if (not (eqb r.end 0)) not_complete 0
  _ ← all_above S.symbols r.rules
  ok (record { symbols = S.symbols; budget = S.budget; sides = S.equation.sides; rules = rules_of r.rules })

-- "answers same, different, 21 or 22": a number is that of the end with which normalising stops [18.12, 18.13]
pub data Answer : Type 0 where
  are_same : Answer
  are_different : Answer
  numbered : ℕ → Answer

unfoldable pub answer : Paid Pair → Answer
answer (done forms left) = if same forms.left forms.right then are_same else are_different
answer (stop e left) = numbered (end_number e)

-- "and adds the units it paid": of the budget, what is not left [22.5]
unfoldable pub units_paid : ℕ → Paid Pair → ℕ
units_paid budget (done forms left) = budget - left
units_paid budget (stop e left) = budget - left

pub record Counted : Type 0 where
  pub answer : Answer
  pub units : ℕ

unfoldable pub counted : ℕ → Paid Pair → Counted
counted budget p = record { answer = answer p; units = units_paid budget p }

-- "It normalises left, then right, with one unit a step.": by `next`, the step of a strategy, and one budget for both sides [18.12, 22.4]
unfoldable pub ask : (List Rule → Term → Option Term) → Question → Counted
ask next q = counted q.budget (both_by (normalise_by (next q.rules)) q.sides q.budget)

unfoldable pub question_call : (List Rule → Term → Option Term) → List ℕ → List ℕ → Reading Counted
question_call next problem kept = do
  q ← read_question problem kept
  ok (ask next q)

-- Three: from the inside out [18.12]
abbrev pub decide_call : List ℕ → List ℕ → Reading Counted
decide_call = question_call step

-- Eight: "It takes and refuses as the desk does, answers same, different, 21 or 22 by its own rewriting" [22.1]
abbrev pub outermost_call : List ℕ → List ℕ → Reading Counted
outermost_call = question_call step_outer
