-- `term_at`: what the walk finds in the bytes up to the end is what is read there, by `term_is`. Assumes nothing.
-- Read first: specs/Answers (IsTerm), proofs/Scanned.
use Rattle.reading.proofs.Scanned.{term_is}
use Rattle.reading.proofs.term_at.Goals as goal

pub returns : goal.returns
returns c = term_is _ c.requires.table _ _ _ c.requires.at_le_end.0 c.requires.at_le_end.1 _ c.checked_end.ensures
