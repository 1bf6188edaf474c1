-- `load`: the record's length, then its parts, one behind the other. Assumes nothing.
-- Read first: specs/Loads (IsLoaded), proofs/Whole.
use native.Mathlib.Omega.{arith}
use Rattle.items.proofs.Passed.{err_passed}
use Rattle.loading.proofs.Whole.{too_long, first_refused, equations_refused, next_refused, front_at, behind_bad, end_refused, loaded}
use Rattle.loading.proofs.load.Goals as goal

pub returns-then-saved-gt-SAVED : goal.returns-then-saved-gt-SAVED
returns-then-saved-gt-SAVED c = too_long c.args.saved.now (omega (arith, c.if-saved-gt-SAVED.true))

pub returns-in_err-table : goal.returns-in_err-table
returns-in_err-table c = rw (err_passed _ c.from_residual.ensures.1) (first_refused _ c.if-saved-gt-SAVED.false _ c.in_err-table.ensures)

pub read_equations-requires : goal.read_equations-requires
read_equations-requires c =
    let S = c.in_ok-table.ensures.0 in
    record { table = S.table; at_in_bounds = (S.within, c.if-saved-gt-SAVED.false) }

pub returns-in_err-equations : goal.returns-in_err-equations
returns-in_err-equations c =
    rw (err_passed _ c.from_residual-in_err-equations.ensures.1)
    (equations_refused _ c.if-saved-gt-SAVED.false _ c.in_ok-table.ensures.0 _ c.in_err-equations.ensures)

pub returns-in_err-next : goal.returns-in_err-next
returns-in_err-next c =
    rw (err_passed _ c.from_residual-in_err-next.ensures.1)
    (next_refused _ c.if-saved-gt-SAVED.false _ c.in_ok-table.ensures.0 _ _ _ c.in_ok-equations.ensures.1 c.in_err-next.ensures)

pub read_pairs-requires : goal.read_pairs-requires
read_pairs-requires c =
    let N = c.in_ok-next.ensures in
    record {
      table = c.in_ok-table.ensures.0.table;
      at_in_bounds = (N.0.within, c.if-saved-gt-SAVED.false, N.1, N.2);
      most_pairs_in_bounds = c.requires.0;
    }

pub returns-in_err-pairs : goal.returns-in_err-pairs
returns-in_err-pairs c =
    let Q = c.in_ok-equations.ensures in
    let N = c.in_ok-next.ensures in
    let F = front_at _ c.if-saved-gt-SAVED.false _ c.in_ok-table.ensures.0 _ _ _ Q.1 Q.2 _ N.0 N.1 N.2 in
    rw (err_passed _ c.from_residual-in_err-pairs.ensures.1) (behind_bad _ _ F _ c.in_err-pairs.ensures)

pub read_end-requires : goal.read_end-requires
read_end-requires c =
    record {
      at_in_bounds = (c.in_ok-pairs.ensures.waiting_there.within, c.if-saved-gt-SAVED.false);
      most_entries_in_bounds = c.requires.1;
    }

pub returns-in_err-ended : goal.returns-in_err-ended
returns-in_err-ended c =
    let Q = c.in_ok-equations.ensures in
    let N = c.in_ok-next.ensures in
    let F = front_at _ c.if-saved-gt-SAVED.false _ c.in_ok-table.ensures.0 _ _ _ Q.1 Q.2 _ N.0 N.1 N.2 in
    rw (err_passed _ c.from_residual-in_err-ended.ensures.1) (end_refused _ _ F _ _ _ _ c.in_ok-pairs.ensures _ c.in_err-ended.ensures)

pub returns : goal.returns
returns c =
    let Q = c.in_ok-equations.ensures in
    let N = c.in_ok-next.ensures in
    let F = front_at _ c.if-saved-gt-SAVED.false _ c.in_ok-table.ensures.0 _ _ _ Q.1 Q.2 _ N.0 N.1 N.2 in
    loaded _ _ F _ _ _ _ c.in_ok-pairs.ensures _ _ _ c.in_ok-ended.ensures
