-- `read`: a record that is too long, or what `end_field`, `units_field` and `read_behind` answer, one behind the other. Assumes nothing.
-- Read first: specs/Reader (IsRecord), proofs/Whole.
use native.Mathlib.Omega.{arith}
use Rattle.items.proofs.Passed.{err_passed}
use Rattle.record.proofs.Whole.{record_long, record_end_bad, record_units_bad, record_behind}
use Rattle.record.proofs.read.Goals as goal

pub returns-then-kept-gt-RECORD : goal.returns-then-kept-gt-RECORD
returns-then-kept-gt-RECORD c = record_long _ _ c.if-kept-gt-RECORD.true

pub read_behind-requires : goal.read_behind-requires
read_behind-requires c =
    let U = c.in_ok-units_field.ensures in
    record {
      table = c.requires.table;
      in_bounds = (U.within, omega (arith, c.if-kept-gt-RECORD.false));
      most_rules_in_bounds = c.requires.most_rules_in_bounds;
    }

pub returns-in_err-end : goal.returns-in_err-end
returns-in_err-end c = rw (err_passed _ c.from_residual.ensures.1) (record_end_bad _ _ c.if-kept-gt-RECORD.false _ c.in_err-end.ensures)

pub returns-in_err-units_field : goal.returns-in_err-units_field
returns-in_err-units_field c =
    rw (err_passed _ c.from_residual-in_err-units_field.ensures.1)
    (record_units_bad _ _ c.if-kept-gt-RECORD.false _ c.in_ok-end.ensures _ c.in_err-units_field.ensures)

pub returns : goal.returns
returns c =
    let B = c.read_behind in
    record_behind c.args.table.now _ c.if-kept-gt-RECORD.false _ c.in_ok-end.ensures _ c.in_ok-units_field.ensures B.new.slots B.result B.ensures
