-- `last_field`: with another end nothing stands behind the log; with end 20 the forms do, and nothing behind them. Assumes nothing.
-- Read first: specs/Reader (IsLast), proofs/Whole.
use Rattle.items.proofs.Passed.{err_passed}
use Rattle.record.proofs.Whole.{last_without, last_bad, last_forms}
use Rattle.record.proofs.last_field.Goals as goal

pub returns-then-end-ne-NEITHER : goal.returns-then-end-ne-NEITHER
returns-then-end-ne-NEITHER c =
    let args = c.args in
    last_without args.table.now args.kept.now _ args.at c.if-end-ne-NEITHER.true c.nothing_behind.result c.nothing_behind.ensures

pub returns-in_err-behind : goal.returns-in_err-behind
returns-in_err-behind c = rw (err_passed _ c.from_residual.ensures.1) (last_bad _ _ _ _ c.if-end-ne-NEITHER.false _ c.in_err-behind.ensures)

pub returns : goal.returns
returns c =
    let f = c.in_ok-behind.ensures in
    last_forms _ _ _ _ c.if-end-ne-NEITHER.false _ _ f.1 c.nothing_behind-2.result c.nothing_behind-2.ensures
