-- `next_field`: the number in the field that is due, and whether it is 1 to 513. Assumes nothing.
-- Read first: specs/Loads (IsNext), proofs/Singles, items/proofs/OneField.
use native.Mathlib.Omega.{arith}
use Rattle.items.proofs.OneField.{tested_bad, tested_fine, tested_broken}
use Rattle.checkpoint.specs.Checkpoint.{read_next}
use Rattle.items.proofs.Passed.{err_passed}
use Rattle.loading.proofs.Singles.{next_fits, next_none, next_large, next_fine}
use Rattle.loading.proofs.next_field.Goals.{then-next-eq0-via-then-next-eq0, then-next-eq0-via-else-next-eq0+then-next-gt-NEXT}
use Rattle.loading.proofs.next_field.Goals as goal

pub returns-then-next-eq0 : goal.returns-then-next-eq0
unfolding read_next
returns-then-next-eq0 c =
    let n = c.in_ok-next.next in
    tested_broken 0x20 2 next_fits _ _ _ _ c.in_ok-next.ensures (elim c.then-next-eq0.branch [
      | then-next-eq0-via-then-next-eq0 w ↦ next_none n w.if-next-eq0.true
      | then-next-eq0-via-else-next-eq0+then-next-gt-NEXT w ↦ next_large n (omega (arith, w.if-next-gt-NEXT.true))
    ])

pub returns-in_err-next : goal.returns-in_err-next
unfolding read_next
returns-in_err-next c = rw (err_passed _ c.from_residual.ensures.1) (tested_bad 0x20 2 next_fits _ _ _ c.in_err-next.ensures)

pub returns : goal.returns
unfolding read_next
returns c =
    let found = c.in_ok-next.ensures in
    let some = c.if-next-eq0.false in
    let few = c.if-next-gt-NEXT.false in
    (tested_fine 0x20 2 next_fits _ _ _ _ found (next_fine _ some few), omega (arith, some), few)
