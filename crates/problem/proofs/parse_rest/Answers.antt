-- `parse_rest`: what `due`, `budget` and `equations` answer, one behind the other. Assumes nothing.
-- Read first: specs/Parser (IsRest, RestAt), proofs/Parses.
use Rattle.problem.specs.Parser.{IsRest}
use Rattle.problem.proofs.Handed.{handed_on}
use Rattle.problem.proofs.Parses.{rest_not_due, rest_budget_refused, rest_equations_refused, rest_fine}
use Rattle.problem.proofs.parse_rest.Goals as goal

pub returns-in_err-end : goal.returns-in_err-end
returns-in_err-end c =
    handed_on (IsRest c.args.table.now c.args.problem.now c.args.at) _ _ c.from_residual.ensures.1
    (rest_not_due _ _ _ _ _ c.in_err-end.ensures)

pub returns-in_err-budget : goal.returns-in_err-budget
returns-in_err-budget c =
    handed_on (IsRest c.args.table.now c.args.problem.now c.args.at) _ _ c.from_residual-in_err-budget.ensures.1
    (rest_budget_refused _ _ _ _ c.in_ok-end.ensures _ _ c.in_err-budget.ensures)

pub returns-in_err-count : goal.returns-in_err-count
returns-in_err-count c =
    handed_on (IsRest c.args.table.now c.args.problem.now c.args.at) _ _ c.from_residual-in_err-count.ensures.1
    (rest_equations_refused _ _ _ _ c.in_ok-end.ensures _ c.in_ok-budget.ensures _ _ c.in_err-count.ensures)

pub returns : goal.returns
returns c = rest_fine _ _ _ _ c.in_ok-end.ensures _ c.in_ok-budget.ensures _ c.in_ok-count.ensures
