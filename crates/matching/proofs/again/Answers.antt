-- `again`: a lemma for each end: beyond the cells (`again_long`), the same cells (`again_same`), others (`again_other`). Assumes nothing.
-- Read first: specs/Held (Again), proofs/Advancing.
use mathlib.Core.Path.{refl}
use lib.Pointwise.{bytes_decides}
use Rattle.matching.proofs.Advancing.{again_long, again_same, again_other}
use Rattle.matching.proofs.again.Goals.{else-e-t-via-then-e-t+else-eq, else-e-t-via-else-e-t}
use Rattle.matching.proofs.again.Goals as goal

pub returns-then-eq : goal.returns-then-eq
returns-then-eq c =
    again_same _ _ _ _ _ c.requires.j_in_bounds.0 c.size_of-n.ensures.0 refl (bytes_decides _ _) c.eq.ensures c.if-eq.true c.if-e-t.true

pub returns : goal.returns
returns c = elim c.else-e-t.branch [
  | else-e-t-via-then-e-t+else-eq w ↦
      again_other _ _ _ _ _ c.requires.j_in_bounds.0 c.size_of-n.ensures.0 refl (bytes_decides _ _) w.eq.ensures w.if-eq.false
  | else-e-t-via-else-e-t w ↦ again_long _ _ _ _ _ c.requires.j_in_bounds.0 c.size_of-n.ensures.0 refl w.if-e-t.false
]
