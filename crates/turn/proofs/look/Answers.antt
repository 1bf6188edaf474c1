-- `look`: the scan, the end where every one waiting has been put back, or the oldest waiting equation. Assumes nothing.
-- Read first: proofs/Taking.
use native.Mathlib.Omega.{arith}
use Rattle.slots.proofs.Layouts.{layout_zeros}
use Rattle.turn.proofs.Taking.{look_ends, look_oldest, look_scan}
use Rattle.turn.proofs.look.Goals as goal

pub returns-then-w-eq0 : goal.returns-then-w-eq0
returns-then-w-eq0 c = look_scan c.if-w-eq0.true c.scan.ensures

pub returns-then-w : goal.returns-then-w
returns-then-w c = look_ends c.if-w-eq0.false c.if-w.true layout_zeros

pub oldest-requires : goal.oldest-requires
oldest-requires c =
    let some = c.if-w-eq0.false in
    c.requires.layout.2 (omega arith)

pub returns : goal.returns
returns c = look_oldest c.if-w-eq0.false (let h = c.if-w.false in omega arith) c.oldest.ensures
