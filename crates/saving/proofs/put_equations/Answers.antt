-- `put_equations`: the invariant is that the first k fields are put and those of the others stand from i on (`SoFar`). Assumes nothing.
-- Read first: specs/Saves (FillFields, PutsEquations), proofs/Equations.
use native.Mathlib.Omega.{arith}
use Rattle.saving.proofs.Equations.{so_far_start, so_far_more, put_stopped, put_all}
use Rattle.saving.proofs.put_equations.Goals as goal

pub loop-k-init : goal.loop-k-init
loop-k-init c = so_far_start _ _ _ _

pub put_equation-requires : goal.put_equation-requires
put_equation-requires c =
    let d = c.in-Ok.ensures in
    let s = c.loop-k.invariant in
    (omega (arith, s.puts.puts.room, s.same, c.loop-k-test.true, c.requires), d.1, d.2)

pub returns-in_default : goal.returns-in_default
returns-in_default c = put_stopped c.requires c.loop-k.invariant c.loop-k-test.true c.due.result c.due.ensures c.in_default.not-Ok

pub loop-k-preserved : goal.loop-k-preserved
loop-k-preserved c = so_far_more c.requires c.loop-k.invariant c.loop-k-test.true c.in-Ok.ensures c.put_equation.ensures

pub returns : goal.returns
returns c = put_all c.requires c.loop-k.invariant c.loop-k-test.false
