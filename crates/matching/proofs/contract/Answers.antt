-- `contract`: the invariant is that what is in the buffer and the pieces of the bytes to come are all pieces. Assumes nothing.
-- Read first: specs/Pieces (pieces, Put), proofs/Filling (PutSoFar).
use Rattle.matching.proofs.Filling.{fill_start, fill_on, fill_over, fill_done}
use Rattle.matching.proofs.contract.Goals as goal

pub loop-b-init : goal.loop-b-init
loop-b-init c = fill_start

pub returns-in_err-w : goal.returns-in_err-w
returns-in_err-w c =
    rw c.from_residual.ensures (fill_over c.loop-b.invariant c.requires.most_in_bounds.0 c.loop-b-test.true c.in_err-w.ensures _)

pub loop-b-preserved : goal.loop-b-preserved
loop-b-preserved c = fill_on c.loop-b.invariant c.requires.most_in_bounds.0 c.loop-b-test.true c.in_ok-w.ensures

pub returns : goal.returns
returns c = fill_done c.loop-b.invariant c.requires.most_in_bounds.0 c.loop-b-test.false _ c.put_run.ensures
