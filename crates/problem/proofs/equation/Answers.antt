-- `equation`: what `due` and `pair_at` answer, with the reasons of the refusals. Assumes nothing.
-- Read first: specs/Parser (IsEquation, FieldAt), proofs/Pairs.
use Rattle.problem.specs.Parser.{IsEquation}
use Rattle.problem.proofs.Handed.{handed_on}
use Rattle.problem.proofs.Pairs.{equation_not_due, equation_seventeenth, equation_refused, equation_fine}
use Rattle.problem.proofs.equation.Goals as goal

pub returns-in_err-end : goal.returns-in_err-end
returns-in_err-end c =
    handed_on (IsEquation c.args.table.now c.args.problem.now c.args.at c.args.count) _ _ c.from_residual.ensures.1
    (equation_not_due _ _ _ _ c.requires.at_in_bounds.0 _ _ c.in_err-end.ensures)

pub returns-then-count-eq-EQUATIONS : goal.returns-then-count-eq-EQUATIONS
returns-then-count-eq-EQUATIONS c = equation_seventeenth _ _ _ _ c.requires.at_in_bounds.0 _ c.in_ok-end.ensures c.if-count-eq-EQUATIONS.true

pub returns-in_err-pair_at : goal.returns-in_err-pair_at
returns-in_err-pair_at c =
    handed_on (IsEquation c.args.table.now c.args.problem.now c.args.at c.args.count) _ _ c.from_residual-in_err-pair_at.ensures.1
    (equation_refused _ _ _ _ c.requires.at_in_bounds.0 _ c.in_ok-end.ensures c.if-count-eq-EQUATIONS.false
    c.requires.at_in_bounds.2 _ c.in_err-pair_at.ensures)

pub returns : goal.returns
returns c =
    let p = c.in_ok-pair_at.ensures in
    equation_fine _ _ _ _ c.requires.at_in_bounds.0 _ c.in_ok-end.ensures c.if-count-eq-EQUATIONS.false
    c.requires.at_in_bounds.2 _ p.0 p.1
