-- `entry_field`: the field that is due, and what its kind says. Assumes nothing.
-- Read first: specs/Readers (IsEntry), proofs/OneField.
use mathlib.Core.Path.{refl}
use native.Mathlib.Omega.{arith}
use Rattle.items.specs.Fields.{read_kind}
use Rattle.items.proofs.OneField.{one_undue, one_read, one_unread, entry_length, kind_low, kind_high, kind_fine}
use Rattle.items.proofs.entry_field.Goals.{then-kind-eq0-via-then-kind-eq0, then-kind-eq0-via-else-kind-eq0+then-kind-gt-OVERLAPPING}
use Rattle.items.proofs.entry_field.Goals as goal

pub overflow_sub-e : goal.overflow_sub-e
overflow_sub-e c =
    let d = c.in-Ok.ensures in omega (arith, d.1)

pub returns-then-e-at-ne-ENTRY : goal.returns-then-e-at-ne-ENTRY
returns-then-e-at-ne-ENTRY c =
    let d = c.in-Ok.ensures in
    one_unread _ read_kind _ _ _ d (entry_length _ _ _ d.1 d.2 c.if-e-at-ne-ENTRY.true)

pub bounds-kept-at : goal.bounds-kept-at
bounds-kept-at c =
    let d = c.in-Ok.ensures in
    omega (arith, c.if-e-at-ne-ENTRY.false, d.1, d.2)

pub returns-then-kind-eq0 : goal.returns-then-kind-eq0
returns-then-kind-eq0 c =
    let d = c.in-Ok.ensures in
    one_unread _ read_kind _ _ _ d (elim c.then-kind-eq0.branch [
      | then-kind-eq0-via-then-kind-eq0 w ↦ kind_low _ _ _ d.1 d.2 c.if-e-at-ne-ENTRY.false _ refl w.if-kind-eq0.true
      | then-kind-eq0-via-else-kind-eq0+then-kind-gt-OVERLAPPING w ↦
          kind_high _ _ _ d.1 d.2 c.if-e-at-ne-ENTRY.false _ refl (omega (arith, w.if-kind-gt-OVERLAPPING.true))
    ])

pub returns : goal.returns
returns c =
    let d = c.in-Ok.ensures in
    (_, one_read _ read_kind _ _ _ d _ (kind_fine _ _ _ d.1 d.2 c.if-e-at-ne-ENTRY.false _ refl c.if-kind-eq0.false c.if-kind-gt-OVERLAPPING.false))

pub returns-in_default : goal.returns-in_default
returns-in_default c = one_undue _ read_kind _ _ c.due.result c.due.ensures c.in_default.not-Ok
