-- `field_at`: a lemma for each of its three returns. Assumes nothing.
-- Read first: specs/Answers (IsField), proofs/Fields.
use Rattle.reading.proofs.Fields.{field_short, field_over, field_whole}
use Rattle.reading.proofs.field_at.Goals as goal

pub returns-then-left-lt-FIELD_HEAD : goal.returns-then-left-lt-FIELD_HEAD
returns-then-left-lt-FIELD_HEAD c = field_short _ _ c.if-left-lt-FIELD_HEAD.true

pub returns-then-left-n : goal.returns-then-left-n
returns-then-left-n c = field_over _ _ _ c.if-left-lt-FIELD_HEAD.false c.number-n.ensures.value c.if-left-n.true

pub returns : goal.returns
returns c = field_whole _ _ _ c.if-left-lt-FIELD_HEAD.false c.number-n.ensures.value c.if-left-n.false c.number-n.ensures.fits
