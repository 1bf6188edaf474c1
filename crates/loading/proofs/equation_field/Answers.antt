-- `equation_field`: the field that is due, and the pair that its contents hold. Assumes nothing.
-- Read first: specs/Loads (IsEquation), proofs/Singles, items/proofs/OneField.
use mathlib.Core.Path.{◌∙◌}
use native.Mathlib.Omega.{arith}
use Rattle.items.proofs.OneField.{one_undue, one_read, one_unread}
use Rattle.checkpoint.specs.Checkpoint.{read_equation}
use Rattle.loading.proofs.Singles.{equation_is, equation_unfilled}
use Rattle.loading.proofs.equation_field.Goals as goal

pub overflow_add-at : goal.overflow_add-at
overflow_add-at c =
    let d = c.in-Ok.ensures in omega (arith, d.1, d.2)

pub pair_at-requires : goal.pair_at-requires
pair_at-requires c =
    let d = c.in-Ok.ensures in
    record {
      table = c.requires.table;
      at_le_end = (d.1, d.2, omega (arith, c.requires.saved_len_bound));
    }

pub returns-in_default-pair_at : goal.returns-in_default-pair_at
returns-in_default-pair_at c =
    one_unread _ (read_equation _) _ _ _ c.in-Ok.ensures
    (equation_unfilled _ _ _ _ c.pair_at.result c.pair_at.ensures c.in_default-pair_at.not-Ok)

pub returns : goal.returns
returns c =
    let h = c.in-Ok-pair_at.ensures in
    (h.0, one_read _ (read_equation _) _ _ _ c.in-Ok.ensures h.0 (equation_is _ _ _ _ ∙ h.1.read))

pub returns-in_default : goal.returns-in_default
returns-in_default c = one_undue _ (read_equation _) _ _ c.due.result c.due.ensures c.in_default.not-Ok
