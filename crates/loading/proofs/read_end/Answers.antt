-- `read_end`: what `read_log` and `back_field` answer, one behind the other. Assumes nothing.
-- Read first: specs/Loads (read-end, IsEnd), proofs/Whole.
use mathlib.Core.Path.{sym}
use Prim.Native.Nat.{suc, ◌≤◌}
use native.Mathlib.Omega.{arith}
use lib.ListN.{length}
use Rattle.items.proofs.Passed.{err_passed}
use Rattle.loading.proofs.Whole.{end_bad, end_few, end_unread, end_more, end_fine}
use Rattle.loading.proofs.read_end.Goals as goal

pub overflow_add-entries : goal.overflow_add-entries
overflow_add-entries c =
    let L = c.in_ok-entries.ensures in omega (arith, L.1.few, L.2)

pub returns-then-entries-next : goal.returns-then-entries-next
returns-then-entries-next c =
    let L = c.in_ok-entries.ensures in
    end_few _ _ _ _ _ _ L.1 (omega (arith, L.2, c.if-entries-next.true))

pub overflow_add-behind : goal.overflow_add-behind
overflow_add-behind c =
    let L = c.in_ok-entries.ensures in
    omega (arith, L.1.within, c.requires.at_in_bounds.1)

pub returns-then-behind-saved : goal.returns-then-behind-saved
returns-then-behind-saved c =
    let found = c.in_ok-entries.ensures in
    let enough : c.args.next ≤ suc (length found.0) = let L = found in omega (arith, L.2, c.if-entries-next.false) in
    let counted = c.in_ok-back.ensures in
    end_more _ _ _ _ _ _ found.1 enough _ counted.0 c.if-behind-saved.true

pub returns-in_err-entries : goal.returns-in_err-entries
returns-in_err-entries c = rw (err_passed _ c.from_residual.ensures.1) (end_bad c.args.saved.now _ _ _ _ c.in_err-entries.ensures)

pub returns-in_err-back : goal.returns-in_err-back
returns-in_err-back c =
    let found = c.in_ok-entries.ensures in
    let enough : c.args.next ≤ suc (length found.0) = let L = found in omega (arith, L.2, c.if-entries-next.false) in
    let B = c.in_err-back.ensures in
    rw (err_passed _ c.from_residual-in_err-back.ensures.1) (end_unread _ _ _ _ _ _ found.1 enough _ B)

pub returns : goal.returns
returns c =
    let found = c.in_ok-entries.ensures in
    let enough : c.args.next ≤ suc (length found.0) = let L = found in omega (arith, L.2, c.if-entries-next.false) in
    let counted = c.in_ok-back.ensures in
    let L = found in
    record {
      entered = L.0;
      is = end_fine _ _ _ _ _ _ L.1 enough _ counted.0 c.if-behind-saved.false;
      entries_are = sym L.2;
      entries_few = omega (arith, L.1.few, L.2);
      next_few = omega (arith, L.2, enough);
      back_few = counted.1;
      log_is = L.3;
    }
