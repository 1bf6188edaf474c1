-- Document 01's limits, of what a finished run leaves: the promise of complete says that its result keeps them, is renamed and goes down, so that a
-- reader of kept results rests on the promise alone. [14.12] of docs/DEFINITION.md. Assumes nothing.
-- Read first: Turn (Finished), Calls (result_bytes).
use Rattle.std.specs.Prelude.{◌≡◌, true, List, [], ◌∷◌, ℕ, ◌<◌, ◌≤◌, length}
use Rattle.limits.specs.Limits.{most_variables, most_nodes, most_number, most_budget, most_rules, most_entries, most_result}
use Rattle.terms.specs.Base.{Every}
use Rattle.terms.specs.Term.{Pair, size, pair_variables, renamed}
use Rattle.order.specs.Order.{above}
use Rattle.problem.specs.Problem.{Symbol, rank_of}
use Rattle.problem.specs.Over.{Over}
use Rattle.rewriting.specs.Overlap.{Rule}
use Rattle.rewriting.specs.Rewrite.{neither_above}
use Rattle.completion.specs.Turn.{Candidate, Finished}
use Rattle.completion.specs.Calls.{result_bytes}

-- "each at most 120 nodes"; "Variable n (0 to 15)"; "Every equation and rule held is so renamed." [2.4, 2.11, 16.3]
pub record PairKeeps (Σ : List Symbol) (e : Pair) : Type 0 where
  pub left_over : Over Σ e.left
  pub right_over : Over Σ e.right
  pub left_small : size e.left ≤ most_nodes
  pub right_small : size e.right ≤ most_nodes
  pub variables_few : Every (λ x. x < most_variables) (pair_variables e)
  pub unchanged : renamed e ≡ e

-- a rule whose number is above that of the rule before: "rule numbers 1 to 512"; its left side is above its right [9.12, 11.4, 16.11]
pub record RuleKeeps (Σ : List Symbol) (before : ℕ) (r : Rule) : Type 0 where
  pub low : before < r.number
  pub high : r.number ≤ most_number
  pub sides : PairKeeps Σ r.sides
  pub down : above (rank_of Σ) r.sides.left r.sides.right ≡ true

unfoldable pub RulesKeep : List Symbol → ℕ → List Rule → Type 0
RulesKeep Σ before [] = Unit {0}
RulesKeep Σ before (r ∷ rules) = RuleKeeps Σ before r × RulesKeep Σ r.number rules

-- with end 20 some equation waits [9.19, 11.7]
unfoldable pub OldestKeeps : List Symbol → List Candidate → Type 0
OldestKeeps Σ [] = ⊥
OldestKeeps Σ (oldest ∷ waiting) = PairKeeps Σ oldest.sides

pub record Keeps (Σ : List Symbol) (f : Finished) : Type 0 where
  pub units_few : f.units ≤ most_budget
  pub rules_few : length f.state.rules ≤ most_rules
  pub rules_keep : RulesKeep Σ 0 f.state.rules
  pub log_few : length f.state.log ≤ most_entries
  pub forms_keep : f.end ≡ neither_above → OldestKeeps Σ f.state.waiting
  pub short : length (result_bytes f) ≤ most_result
