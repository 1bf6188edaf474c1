-- `entry_field`: the field that is due, its length and its origin. Assumes nothing.
-- Read first: specs/Candidates (IsEntry), proofs/Logged.
use mathlib.Core.Path.{sym, ◌∙◌}
use native.Mathlib.Omega.{arith}
use Rattle.items.proofs.OneField.{one_undue, one_read, one_unread}
use Rattle.checkpoint.specs.Checkpoint.{read_entry}
use Rattle.candidates.proofs.Logged.{entry_long, entry_unmarked, entry_fine, entry_bytes}
use Rattle.candidates.proofs.entry_field.Goals.{then-e-at-ne-ENTRY-via-then-e-at-ne-ENTRY, then-e-at-ne-ENTRY-via-else-e-at-ne-ENTRY+then-not-is_origin}
use Rattle.candidates.proofs.entry_field.Goals as goal

pub overflow_sub-e : goal.overflow_sub-e
overflow_sub-e c =
    let d = c.in-Ok.ensures in omega (arith, d.1)

pub returns-then-e-at-ne-ENTRY : goal.returns-then-e-at-ne-ENTRY
returns-then-e-at-ne-ENTRY c =
    let d = c.in-Ok.ensures in
    one_unread _ read_entry _ _ _ d (elim c.then-e-at-ne-ENTRY.branch [
      | then-e-at-ne-ENTRY-via-then-e-at-ne-ENTRY w ↦ entry_long _ _ _ d.1 d.2 w.if-e-at-ne-ENTRY.true
      | then-e-at-ne-ENTRY-via-else-e-at-ne-ENTRY+then-not-is_origin w ↦
          entry_unmarked _ _ _ d.1 d.2 w.if-e-at-ne-ENTRY.false (sym w.is_origin.ensures ∙ w.if-not-is_origin.true)
    ])

pub is_origin-requires : goal.is_origin-requires
is_origin-requires c =
    let d = c.in-Ok.ensures in
    omega (arith, c.if-e-at-ne-ENTRY.false, d.1, d.2)

pub returns : goal.returns
returns c =
    let d = c.in-Ok.ensures in
    let t = sym c.is_origin.ensures ∙ c.if-not-is_origin.false in
    let f = c.if-e-at-ne-ENTRY.false in (
      _,
      record {
        one = one_read _ read_entry _ _ _ d _ (entry_fine _ _ _ d.1 d.2 f t);
        ends = omega (arith, f, d.1);
        bytes = entry_bytes _ _ _ d.1 d.2 f t;
      },
    )

pub returns-in_default : goal.returns-in_default
returns-in_default c = one_undue _ read_entry _ _ c.due.result c.due.ensures c.in_default.not-Ok
