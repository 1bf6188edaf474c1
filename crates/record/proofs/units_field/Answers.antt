-- `units_field`: the number in the field that is due, and whether it is within the budget's limit. Assumes nothing.
-- Read first: specs/Reader (IsUnits), items/proofs/OneField.
use native.Mathlib.Omega.{arith}
use lib.Dec.{leb}
use borrow.Author.Tests.{le-leb, lt-leb}
use Rattle.limits.specs.Limits.{most_budget}
use Rattle.items.proofs.OneField.{tested_bad, tested_fine, tested_broken}
use Rattle.record.specs.Record.{read_units}
use Rattle.items.proofs.Passed.{err_passed}
use Rattle.record.proofs.units_field.Goals as goal

pub returns-then-units-gt-BUDGET : goal.returns-then-units-gt-BUDGET
unfolding read_units
returns-then-units-gt-BUDGET c =
    let found = c.in_ok-units.ensures in
    let n = c.in_ok-units.units in
    tested_broken 0x11 4 (λ n. leb n most_budget) _ _ _ _ found (lt-leb n most_budget (omega (arith, c.if-units-gt-BUDGET.true)))

pub returns-in_err-units : goal.returns-in_err-units
unfolding read_units
returns-in_err-units c = rw (err_passed _ c.from_residual.ensures.1) (tested_bad 0x11 4 (λ n. leb n most_budget) _ _ _ c.in_err-units.ensures)

pub returns : goal.returns
unfolding read_units
returns c =
    let found = c.in_ok-units.ensures in
    tested_fine 0x11 4 (λ n. leb n most_budget) _ _ _ _ found (le-leb _ most_budget c.if-units-gt-BUDGET.false)
