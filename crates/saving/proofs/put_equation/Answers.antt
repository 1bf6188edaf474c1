-- `put_equation`: the contents are longer than a pair (`field_long`), or they are put (`field_put`). Assumes nothing.
-- Read first: specs/Saves (PutsEquation), proofs/Equations.
use Rattle.saving.proofs.Equations.{field_long, field_put}
use Rattle.saving.proofs.put_equation.Goals as goal

pub returns-else-end-start-le-PAIR : goal.returns-else-end-start-le-PAIR
returns-else-end-start-le-PAIR c = field_long _ _ _ c.if-end-start-le-PAIR.false

pub returns-then-end-start-le-PAIR : goal.returns-then-end-start-le-PAIR
returns-then-end-start-le-PAIR c = field_put _ _ _ c.if-end-start-le-PAIR.true c.field.ensures
