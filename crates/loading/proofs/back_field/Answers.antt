-- `back_field`: the number in the field that is due, and whether it is at most that of the equations that wait. Assumes nothing.
-- Read first: specs/Loads (IsBack), items/proofs/OneField.
use native.Mathlib.Omega.{arith}
use lib.Dec.{leb}
use borrow.Author.Tests.{le-leb, lt-leb}
use Rattle.items.proofs.OneField.{tested_bad, tested_fine, tested_broken}
use Rattle.checkpoint.specs.Checkpoint.{read_put_back}
use Rattle.items.proofs.Passed.{err_passed}
use Rattle.loading.proofs.back_field.Goals as goal

pub returns-then-back-waiting : goal.returns-then-back-waiting
unfolding read_put_back
returns-then-back-waiting c =
    let found = c.in_ok-back.ensures in
    let n = c.in_ok-back.back in
    let waiting = c.args.waiting in
    tested_broken 0x22 1 (λ n. leb n waiting) _ _ _ _ found (lt-leb n waiting (omega (arith, c.if-back-waiting.true)))

pub returns-in_err-back : goal.returns-in_err-back
unfolding read_put_back
returns-in_err-back c = rw (err_passed _ c.from_residual.ensures.1) (tested_bad 0x22 1 (λ n. leb n c.args.waiting) _ _ _ c.in_err-back.ensures)

pub returns : goal.returns
unfolding read_put_back
returns c =
    let found = c.in_ok-back.ensures in
    let waiting = c.args.waiting in
    (tested_fine 0x22 1 (λ n. leb n waiting) _ _ _ _ found (le-leb _ waiting c.if-back-waiting.false), c.if-back-waiting.false)
