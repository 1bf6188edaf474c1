-- `forms_field`: the field that is due, and the pair that its contents hold. Assumes nothing.
-- Read first: specs/Readers (IsForms), proofs/OneField, proofs/Holding.
use mathlib.Core.Path.{◌∙◌}
use native.Mathlib.Omega.{arith}
use Rattle.items.specs.Fields.{read_forms}
use Rattle.items.proofs.OneField.{one_undue, one_read, one_unread}
use Rattle.items.proofs.Holding.{forms_are}
use Rattle.items.proofs.forms_field.Goals as goal

pub overflow_add-at : goal.overflow_add-at
overflow_add-at c =
    let d = c.in-Ok.ensures in omega (arith, d.1, d.2)

pub renamed_pair-requires : goal.renamed_pair-requires
renamed_pair-requires c =
    let d = c.in-Ok.ensures in
    record {
      table = c.requires.table;
      at_le_end = (d.1, d.2, c.requires.kept_len_bound);
    }

pub returns-in_default-renamed_pair : goal.returns-in_default-renamed_pair
returns-in_default-renamed_pair c =
    let found = c.in-Ok.ensures in
    let u = c.in_default-renamed_pair.ensures in
    one_unread _ (read_forms _) _ _ _ found (rw (forms_are _ _ _ _) u)

pub returns : goal.returns
returns c =
    let found = c.in-Ok.ensures in
    let h = c.in-Some.ensures in
    (h.0, one_read _ (read_forms _) _ _ _ found _ (forms_are _ _ _ _ ∙ h.1))

pub returns-in_default : goal.returns-in_default
returns-in_default c = one_undue _ (read_forms _) _ _ c.due.result c.due.ensures c.in_default.not-Ok
