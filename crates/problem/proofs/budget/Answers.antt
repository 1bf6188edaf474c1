-- `budget`: a lemma for each of its three returns. Assumes nothing.
-- Read first: specs/Parser (IsBudget), proofs/Fields.
use Rattle.problem.proofs.Fields.{budget_length, budget_large, budget_fine}
use Rattle.problem.proofs.budget.Goals as goal

pub returns-then-end-start-ne4 : goal.returns-then-end-start-ne4
returns-then-end-start-ne4 c = budget_length _ _ _ c.requires.0 c.requires.1 c.if-end-start-ne4.true

pub returns-then-n-gt-BUDGET : goal.returns-then-n-gt-BUDGET
returns-then-n-gt-BUDGET c = budget_large _ _ _ c.requires.0 c.requires.1 c.if-end-start-ne4.false _ c.number-n.ensures.value c.if-n-gt-BUDGET.true

pub returns : goal.returns
returns c = budget_fine _ _ _ c.requires.0 c.requires.1 c.if-end-start-ne4.false _ c.number-n.ensures.value c.if-n-gt-BUDGET.false
