-- `put_oldest`: another end, or nothing behind the live rules, puts nothing; else the pair there is put, with no head. Assumes nothing.
-- Read first: specs/Report (oldest_if), fields/specs/Adds (AddsSome), proofs/Whole.
use Rattle.std.proofs.Common.{rules, arith}
use Rattle.slots.proofs.Layouts.{layout_less}
use Rattle.report.proofs.Whole.{oldest_none, none_oldest, oldest_put}
use Rattle.report.proofs.put_oldest.Goals as goal

pub returns-in_default : goal.returns-in_default
returns-in_default c = oldest_none _ _ _ _ c.in_default.not-NeitherAbove

pub put_pair-requires : goal.put_pair-requires
put_pair-requires c =
    let some = c.if-live-count.true in
    (search rules, search rules, layout_less (omega arith) c.requires.1)

pub returns-then-live-count : goal.returns-then-live-count
returns-then-live-count c = oldest_put _ _ _ _ c.in-NeitherAbove.is c.if-live-count.true c.put_pair.ensures

pub returns-else-live-count : goal.returns-else-live-count
returns-else-live-count c = none_oldest _ _ _ _ c.in-NeitherAbove.is c.if-live-count.false
