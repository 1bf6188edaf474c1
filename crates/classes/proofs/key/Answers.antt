-- `key`: a symbol's node is its own key (`key_first`), a variable's is raised above all symbols (`key_second`). Assumes nothing.
-- Read first: specs/Steps (key), proofs/Joining.
use Rattle.classes.proofs.Joining.{key_first, key_second}
use Rattle.classes.proofs.key.Goals as goal

pub returns-then-nodes-i-lt-VARIABLE : goal.returns-then-nodes-i-lt-VARIABLE
returns-then-nodes-i-lt-VARIABLE c = key_first _ _ _ c.from-i.ensures c.if-nodes-i-lt-VARIABLE.true

pub returns-else-nodes-i-lt-VARIABLE : goal.returns-else-nodes-i-lt-VARIABLE
returns-else-nodes-i-lt-VARIABLE c = key_second _ _ _ c.from-i.ensures c.if-nodes-i-lt-VARIABLE.false
