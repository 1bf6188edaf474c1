-- `find`: the invariant is that the rules from k on decide the step as all do. Assumes nothing.
-- Read first: specs/Step (FoundRule), proofs/Choosing (Searching).
use Rattle.redex.proofs.Choosing.{search_start, search_end, search_on, search_hit}
use Rattle.slots.proofs.Layouts.{layout_less}
use native.Mathlib.Omega.{arith}
use Rattle.redex.proofs.find.Goals as goal

pub loop-k-init : goal.loop-k-init
loop-k-init c = search_start

pub fits-requires-clause-layout : goal.fits-requires-clause-layout
fits-requires-clause-layout c = layout_less (let q = c.loop-k-test.true in omega arith) c.args.system.now.laid_out

pub returns-then-fits : goal.returns-then-fits
returns-then-fits c = search_hit c.loop-k.invariant c.loop-k-test.true c.fits.ensures c.if-fits.true

pub loop-k-preserved : goal.loop-k-preserved
loop-k-preserved c = search_on c.loop-k.invariant c.loop-k-test.true c.fits.ensures c.if-fits.false

pub returns : goal.returns
returns c = search_end c.loop-k.invariant c.loop-k-test.false
