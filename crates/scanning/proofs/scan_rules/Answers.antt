-- `scan_rules`: the invariant is that what is to come from the place reached, with the units left, comes to what all places come to; `ahead` falls.
-- Assumes nothing.
-- Read first: specs/Order (to-come), proofs/Reaching (Reaching, ahead).
use Rattle.scanning.proofs.Reaching.{reach_first, reach_end, reach_stop, reach_next, next_asks, falls}
use Rattle.scanning.proofs.Going.{equal_yes, equal_no}
use Rattle.scanning.proofs.Placing.{placed, missing}
use mathlib.Core.Path.{refl}
use Rattle.scanning.proofs.scan_rules.Goals as goal
use Rattle.scanning.proofs.scan_rules.Goals.{then-possible+else-not-all_equal, else-possible}

pub loop-at-init : goal.loop-at-init
loop-at-init c = reach_first c.spot_at-at.ensures

pub possible-requires : goal.possible-requires
possible-requires c = (c.loop-at.invariant.within c.loop-at-test.true, c.loop-at-test.true)

pub scan_at-w-requires : goal.scan_at-w-requires
scan_at-w-requires c =
    record {
      layout = c.loop-at.invariant.going.kept.layout c.requires.1;
      inner_lt_count = (c.loop-at.invariant.within c.loop-at-test.true, c.loop-at-test.true, c.possible.ensures.within c.if-possible.true);
    }

pub returns-then-not-all_equal : goal.returns-then-not-all_equal
returns-then-not-all_equal c =
    let lo = c.loop-at-test.true in
    let li = c.loop-at.invariant.within lo in
    reach_stop c.loop-at.invariant (c.args.system.laid_out, c.requires.0) lo
    (placed _ li lo c.possible.ensures c.if-possible.true c.scan_at-w.ensures)
    (equal_no _ _ c.all_equal.ensures c.if-not-all_equal.true)

pub next-at-requires : goal.next-at-requires
next-at-requires c = next_asks c.loop-at.invariant (c.args.system.laid_out, c.requires.0) c.loop-at-test.true

pub loop-at-smaller : goal.loop-at-smaller
loop-at-smaller c = falls c.loop-at.invariant (c.args.system.laid_out, c.requires.0) c.loop-at-test.true _ c.next-at.ensures

pub loop-at-preserved : goal.loop-at-preserved
loop-at-preserved c =
    let lo = c.loop-at-test.true in
    let li = c.loop-at.invariant.within lo in
    let may = c.possible.ensures in
    elim c.if-possible.branch [
      | then-possible+else-not-all_equal w ↦
          reach_next c.loop-at.invariant (c.args.system.laid_out, c.requires.0) lo (placed _ li lo may w.if-possible.true w.scan_at-w.ensures)
          w.pair-is w.u-is (equal_yes _ _ w.all_equal.ensures w.if-not-all_equal.false) c.next-at.ensures
      | else-possible w ↦
          reach_next c.loop-at.invariant (c.args.system.laid_out, c.requires.0) lo (missing _ li lo may w.if-possible.false)
          w.pair-is w.u-is refl c.next-at.ensures
    ]

pub returns : goal.returns
returns c = reach_end c.loop-at.invariant c.loop-at-test.false refl
