-- `end_field`: the number in the field that is due, and whether it is a listed end. Assumes nothing.
-- Read first: specs/Reader (IsEnd), items/proofs/OneField.
use mathlib.Core.Path.{sym, ◌∙◌}
use Rattle.items.proofs.OneField.{tested_bad, tested_fine, tested_broken}
use Rattle.record.specs.Record.{listed_end, read_end}
use Rattle.items.proofs.Passed.{err_passed}
use Rattle.record.proofs.end_field.Goals as goal

pub returns : goal.returns
unfolding read_end
returns c =
    let found = c.in_ok-end.ensures in
    tested_fine 0x10 1 listed_end _ 0 _ _ found (sym c.listed.ensures ∙ c.if-not-listed.false)

pub returns-in_err-end : goal.returns-in_err-end
unfolding read_end
returns-in_err-end c = rw (err_passed _ c.from_residual.ensures.1) (tested_bad 0x10 1 listed_end _ 0 _ c.in_err-end.ensures)

pub returns-then-not-listed : goal.returns-then-not-listed
unfolding read_end
returns-then-not-listed c =
    let found = c.in_ok-end.ensures in
    tested_broken 0x10 1 listed_end _ 0 _ _ found (sym c.listed.ensures ∙ c.if-not-listed.true)
