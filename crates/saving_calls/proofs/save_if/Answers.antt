-- `save_if`: with end 21 what `saving::save` writes, with another end nothing. Assumes nothing.
-- Read first: specs/Leaving (SavesIf), saving/specs/Saves (Saves), proofs/Writing (saves_none, saves_spent).
use Rattle.saving_calls.proofs.Writing.{saves_none, saves_spent}
use Rattle.saving_calls.proofs.save_if.Goals as goal

pub returns-in_default : goal.returns-in_default
returns-in_default c = saves_none c.in_default.not-Spent

pub returns : goal.returns
returns c = saves_spent c.in-Spent.is c.save.ensures
