-- `order::above`, `above_all`, `above_some` and `above_walk`, which call each other, meet their contracts. Assumes nothing.
-- Read first: proofs/Steps.
use Rattle.std.proofs.Common.{◌+◌, ◌*◌, ◌-◌, length}
use Rattle.order.proofs.+above.Given as goal

abbrev pub decreases-above : goal.decreases-above
decreases-above l = 200000 * (length l.s.now + length l.t.now)

abbrev pub decreases-above_all : goal.decreases-above_all
decreases-above_all l = 200000 * (length l.s.now + length l.t.now) + 1

abbrev pub decreases-above_some : goal.decreases-above_some
decreases-above_some l = 200000 * (length l.s.now + length l.t.now) + 1

abbrev pub decreases-above_walk : goal.decreases-above_walk
decreases-above_walk l = 200000 * (length l.s.now + length l.t.now - 1) + 2 + (length l.a.now + length l.b.now)
