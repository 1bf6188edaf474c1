-- `put_lines`: the invariant is that the lines of the fields from i on, put at a, give the whole text; the bytes to come fall. Assumes nothing. Bytes
-- that end inside a field are no fields, so nothing is promised of them.
-- Read first: specs/Text (Lines), proofs/Lining (Printing, Lining), reading/specs/Answers (IsField).
use native.Mathlib.Omega.{arith}
use Rattle.settle_text.proofs.Lining.{printing_start, printing_more, printing_room, printing_done}
use Rattle.settle_text.proofs.put_lines.Goals as goal

pub loop-field-init : goal.loop-field-init
loop-field-init c = printing_start _ _

pub loop-field-preserved : goal.loop-field-preserved
loop-field-preserved c =
    let F = c.in-Some.ensures in
    printing_more _ _ c.requires _ _ _ c.loop-field.invariant (omega (arith, F.starts, F.low, F.within)) _ _ _ F _ _ c.put_line-a.ensures

pub returns : goal.returns
returns c = (
  printing_room _ _ c.requires _ _ _ c.loop-field.invariant,
  printing_done _ _ c.requires _ _ _ c.loop-field.invariant c.in_default.ensures,
)
