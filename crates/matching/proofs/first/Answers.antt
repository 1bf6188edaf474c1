-- `first`: the redex loses its size (`first_zero`), any other term's cell stays (`first_later`). Assumes nothing.
-- Read first: specs/Pieces (first_cell), proofs/Filling.
use mathlib.Core.Path.{sym}
use Rattle.matching.proofs.Filling.{first_zero, first_later}
use Rattle.matching.proofs.first.Goals as goal

pub returns-then-a-eq0 : goal.returns-then-a-eq0
returns-then-a-eq0 c = sym (first_zero _ _ c.if-a-eq0.true)

pub returns-else-a-eq0 : goal.returns-else-a-eq0
returns-else-a-eq0 c = sym (first_later _ _ c.if-a-eq0.false)
