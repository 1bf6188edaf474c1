-- `nothing_behind`: a lemma for each of its two returns. Assumes nothing.
-- Read first: specs/Reader (IsNothing), proofs/Whole.
use Rattle.record.proofs.Whole.{some_behind, none_behind}
use Rattle.record.proofs.nothing_behind.Goals as goal

pub returns-then-at-kept : goal.returns-then-at-kept
returns-then-at-kept c = some_behind _ _ c.if-at-kept.true

pub returns : goal.returns
returns c = none_behind _ _ c.if-at-kept.false
