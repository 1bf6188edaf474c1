-- `due`: what `reading::due` answers, with the reasons of the refusals. Assumes nothing.
-- Read first: specs/Parser (IsDue), reading/specs/Answers (IsDue).
use Rattle.problem.proofs.due.Goals as goal

pub returns-in-Err-Cut : goal.returns-in-Err-Cut
returns-in-Err-Cut c = rw c.in-Err-Cut.field-0-is at c.in-Err-Cut.ensures

pub returns-in-Err-Other : goal.returns-in-Err-Other
returns-in-Err-Other c = rw c.in-Err-Other.field-0-is at c.in-Err-Other.ensures
