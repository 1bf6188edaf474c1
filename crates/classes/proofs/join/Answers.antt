-- `join`: the root with the larger key goes to the other, a lemma for each outcome of the test: `joined_first`, `joined_second`. Assumes nothing.
-- Read first: specs/Steps (joined), proofs/Joining.
use Rattle.classes.proofs.Joining.{joined_first, joined_second}
use Rattle.classes.proofs.join.Goals as goal

pub returns-then-key : goal.returns-then-key
returns-then-key c = joined_first _ _ _ _ _ _ _ c.key.ensures c.key-2.ensures c.if-key.true c.relabel.ensures

pub returns-else-key : goal.returns-else-key
returns-else-key c = joined_second _ _ _ _ _ _ _ c.key.ensures c.key-2.ensures c.if-key.false c.relabel-else-key.ensures
