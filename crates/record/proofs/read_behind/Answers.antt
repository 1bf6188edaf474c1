-- `read_behind`: what `read_rules`, `read_entries` and `last_field` answer, one behind the other. Assumes nothing.
-- Read first: specs/Reader (read-behind, IsBehind), proofs/Whole.
use mathlib.Core.Path.{refl}
use Rattle.items.proofs.Passed.{err_passed}
use Rattle.record.proofs.Whole.{behind_rules_bad, behind_entries_bad, behind_last_bad, behind_fine}
use Rattle.record.proofs.read_behind.Goals as goal

pub read_entries-requires : goal.read_entries-requires
read_entries-requires c =
    let found = c.in_ok-rules.ensures in
    found.1.within

pub last_field-requires : goal.last_field-requires
last_field-requires c =
    record {
      table = c.requires.table;
      kept_len_bound = c.requires.in_bounds.1;
    }

pub returns-in_err-rules : goal.returns-in_err-rules
returns-in_err-rules c = rw (err_passed _ c.from_residual.ensures.1) (behind_rules_bad _ c.args.kept.now _ _ c.in_err-rules.ensures)

pub returns-in_err-behind : goal.returns-in_err-behind
returns-in_err-behind c =
    let R = c.in_ok-rules.ensures in
    rw (err_passed _ c.from_residual-in_err-behind.ensures.1) (behind_entries_bad _ _ _ _ _ R.1 _ c.in_err-behind.ensures)

pub returns-in_err-last_field : goal.returns-in_err-last_field
returns-in_err-last_field c =
    let R = c.in_ok-rules.ensures in
    let L = c.in_ok-behind.ensures in
    rw (err_passed _ c.from_residual-in_err-last_field.ensures.1) (behind_last_bad _ _ _ _ _ R.1 _ _ L.1 _ c.in_err-last_field.ensures)

pub returns : goal.returns
returns c =
    let R = c.in_ok-rules.ensures in
    let L = c.in_ok-behind.ensures in
    let E = c.in_ok-last_field.ensures in
    (refl, R.0, behind_fine _ _ _ _ _ R.1 _ _ L.1 E, R.2)
