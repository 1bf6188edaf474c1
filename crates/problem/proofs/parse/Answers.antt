-- `parse`: what `symbols` and `parse_rest` answer, one behind the other. Assumes nothing.
-- Read first: specs/Parser (IsParsed, ParsedAt), proofs/Parses.
use Rattle.problem.proofs.Handed.{handed_on}
use Rattle.problem.proofs.Parses.{Answer, parse_long, parse_symbols_refused, parse_rest_refused, parse_fine}
use Rattle.problem.proofs.parse.Goals as goal

pub returns-then-problem-gt-PROBLEM : goal.returns-then-problem-gt-PROBLEM
returns-then-problem-gt-PROBLEM c = parse_long _ c.if-problem-gt-PROBLEM.true

pub returns-in_err-table_end : goal.returns-in_err-table_end
returns-in_err-table_end c =
    handed_on (Answer c.args.problem.now) _ _ c.from_residual.ensures.1 (parse_symbols_refused _ c.if-problem-gt-PROBLEM.false _ c.in_err-table_end.ensures)

pub returns-in_err-rest : goal.returns-in_err-rest
returns-in_err-rest c =
    let S = c.in_ok-table_end.ensures in
    handed_on (Answer c.args.problem.now) _ _ c.from_residual-in_err-rest.ensures.1
    (parse_rest_refused _ c.if-problem-gt-PROBLEM.false _ S _ c.in_err-rest.ensures)

pub returns : goal.returns
returns c =
    let S = c.in_ok-table_end.ensures in
    let R = c.in_ok-rest.ensures in
    parse_fine _ c.if-problem-gt-PROBLEM.false _ S _ _ _ R.0 R.1
