-- `put_number`: the invariant is that the rest m of the number, put in the `left` bytes still free, gives the whole. Assumes nothing.
-- Read first: specs/Puts, proofs/Numbering (Numbering).
use Rattle.fields.proofs.Numbering.{numbering_start, numbering_more, numbering_end}
use Rattle.std.proofs.Common.{rules}
use Rattle.fields.proofs.put_number.Goals as goal

pub loop-left-init : goal.loop-left-init
loop-left-init c = numbering_start _ _ _ _

pub loop-left-preserved : goal.loop-left-preserved
loop-left-preserved c = numbering_more _ _ _ _ c.requires _ _ _ c.loop-left.invariant (search rules)

pub returns : goal.returns
returns c = numbering_end _ _ _ _ c.requires _ _ _ c.loop-left.invariant (search rules)
