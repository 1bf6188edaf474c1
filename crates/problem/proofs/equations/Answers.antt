-- `equations`: the invariant is that the fields before i are `count` equations; the bytes to come fall. Assumes nothing.
-- Read first: specs/Parser (IsEquations), proofs/Parses (SoFar).
use native.Mathlib.Omega.{arith}
use Rattle.problem.specs.Parser.{IsEquations}
use Rattle.problem.proofs.Handed.{handed_on}
use Rattle.problem.proofs.Parses.{fields_start, fields_turn, fields_bad, fields_end}
use Rattle.std.proofs.Common.{rules}
use Rattle.problem.proofs.equations.Goals as goal

pub loop-i-init : goal.loop-i-init
loop-i-init c = (search rules, search rules, fields_start _ _ _)

pub returns-in_err-i : goal.returns-in_err-i
returns-in_err-i c =
    handed_on (IsEquations c.args.table.now c.args.problem.now c.args.at) _ _ c.from_residual.ensures.1
    (fields_bad _ _ _ _ _ c.loop-i.invariant.2 _ _ c.in_err-i.ensures)

pub loop-i-smaller : goal.loop-i-smaller
loop-i-smaller c = let f = c.in_ok-i.ensures in omega (arith, f.low, f.within)

pub loop-i-preserved : goal.loop-i-preserved
loop-i-preserved c =
    let f = c.in_ok-i.ensures in
    (f.more, f.within, fields_turn _ _ _ _ _ c.loop-i.invariant.2 c.loop-i-test.true _ f)

pub returns : goal.returns
returns c = fields_end _ _ _ _ _ c.loop-i.invariant.2 c.loop-i-test.false
