-- `load`: the invariant is that the first i bytes are in the cells. Assumes nothing.
-- Read first: proofs/Loading.
use mathlib.Core.Path.{refl}
use Rattle.normaliser.proofs.Loading.{load_start, load_more, load_done}
use Rattle.normaliser.proofs.load.Goals as goal

pub loop-i-init : goal.loop-i-init
loop-i-init c = load_start _ _ c.requires

pub loop-i-preserved : goal.loop-i-preserved
loop-i-preserved c = load_more c.loop-i.invariant c.loop-i-test.true c.from.ensures

pub returns : goal.returns
returns c = load_done c.loop-i.invariant refl c.loop-i-test.false
