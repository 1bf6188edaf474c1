-- `fill_ends`: from the last node to the first; the invariant is that the nodes from i on have their ends. Assumes nothing.
-- Read first: specs/Result (EndAt, EndsFrom), proofs/Ending (EndsSoFar).
use Rattle.mgu.proofs.Ending.{end_node, ended_start, ended_later, ended_less, ended_all}
use native.Mathlib.Omega.{arith}
use Rattle.mgu.proofs.start.fill_ends.Goals as goal

pub loop-i-init : goal.loop-i-init
loop-i-init c = ended_start _ _ _

pub hop-requires : goal.hop-requires
hop-requires c =
    record {
      p_in_bounds = (omega (arith, c.loop-i.invariant.within, c.loop-i-test.true), c.requires.0, omega (arith, c.loop-i.invariant.long, c.requires.1));
      ends_from = ended_later _ _ _ _ _ c.loop-i.invariant c.loop-i-test.true;
    }

pub overflow_cast-ends : goal.overflow_cast-ends
overflow_cast-ends c = omega (arith, c.hop.ensures.1, c.requires.0)

pub bounds-ends-i : goal.bounds-ends-i
bounds-ends-i c = omega (arith, c.loop-i.invariant.within, c.loop-i.invariant.long, c.loop-i-test.true, c.requires.1)

pub loop-i-preserved : goal.loop-i-preserved
loop-i-preserved c =
    ended_less _ _ _ _ _ _ c.loop-i.invariant c.loop-i-test.true c.requires.1
    (end_node _ _ _ _ _ (omega (arith, c.loop-i.invariant.within, c.loop-i-test.true))
    c.owed_by-k.ensures.0 c.hop.ensures.0)

pub shape_of-ends : goal.shape_of-ends
shape_of-ends c = c.loop-i.invariant.long

pub returns : goal.returns
returns c =
    let all = ended_all _ _ _ _ _ c.loop-i.invariant (omega (arith, c.loop-i-test.false)) in
    record {
      ends_len_unchanged = all.0;
      each = all.1;
    }
