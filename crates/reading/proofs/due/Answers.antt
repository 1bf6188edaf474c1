-- `due`: a lemma for each of its four returns. Assumes nothing.
-- Read first: specs/Answers (IsDue), proofs/Fields.
use Rattle.reading.proofs.Fields.{due_ended, due_cut, due_other_tag, due_fine}
use Rattle.reading.proofs.due.Goals as goal

pub returns-then-at-t : goal.returns-then-at-t
returns-then-at-t c = due_ended _ _ _ c.if-at-t.true

pub returns-in_default : goal.returns-in_default
returns-in_default c = due_cut _ _ _ c.if-at-t.false c.in_default.ensures

pub returns-then-field-tag : goal.returns-then-field-tag
returns-then-field-tag c = due_other_tag _ _ _ c.if-at-t.false _ _ _ c.in-Some.ensures c.if-field-tag.true

pub returns : goal.returns
returns c = due_fine _ _ _ c.if-at-t.false _ _ _ c.in-Some.ensures c.if-field-tag.false
