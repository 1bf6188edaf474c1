-- `waiting_field`: the field that is due, its origin, and the pair behind it. Assumes nothing.
-- Read first: specs/Candidates (IsWaiting), proofs/Waiting.
use mathlib.Core.Path.{◌≡◌, sym, ◌∙◌}
use native.Mathlib.Omega.{arith}
use Rattle.items.proofs.OneField.{one_undue, one_read, one_unread}
use Rattle.checkpoint.specs.Checkpoint.{read_waiting}
use Rattle.candidates.proofs.Waiting.{waiting_short, waiting_unmarked, waiting_unheld, waiting_fine, waiting_mark}
use Rattle.std.proofs.Common.{None}
use Rattle.candidates.proofs.waiting_field.Goals.{then-end-start-via-then-end-start, then-end-start-via-else-end-start+then-not-is_origin}
use Rattle.candidates.proofs.waiting_field.Goals as goal

pub overflow_add-start : goal.overflow_add-start
overflow_add-start c =
    let d = c.in-Ok.ensures in
    omega (arith, d.1, d.2, c.requires.saved_len_bound)

pub returns-then-end-start : goal.returns-then-end-start
returns-then-end-start c =
    let d = c.in-Ok.ensures in
    one_unread _ (read_waiting _) _ _ _ d (elim c.then-end-start.branch [
      | then-end-start-via-then-end-start w ↦ waiting_short _ _ _ _ d.2 w.if-end-start.true
      | then-end-start-via-else-end-start+then-not-is_origin w ↦
          waiting_unmarked _ _ _ _ d.2 w.if-end-start.false (sym w.is_origin.ensures ∙ w.if-not-is_origin.true)
    ])

pub is_origin-requires : goal.is_origin-requires
is_origin-requires c =
    let d = c.in-Ok.ensures in
    omega (arith, c.if-end-start.false, d.2)

pub renamed_pair-requires : goal.renamed_pair-requires
renamed_pair-requires c =
    record {
      table = c.requires.table;
      at_le_end = (c.if-end-start.false, c.in-Ok.ensures.2, omega (arith, c.requires.saved_len_bound));
    }

pub returns-in_err-middle : goal.returns-in_err-middle
returns-in_err-middle c =
    let d = c.in-Ok.ensures in
    let gone : c.from_residual.result ≡ None = grind arith in
    rw gone
    (one_unread _ (read_waiting _) _ _ _ d
    (waiting_unheld _ _ _ _ d.2 c.if-end-start.false (sym c.is_origin.ensures ∙ c.if-not-is_origin.false) c.in_err-middle.ensures))

pub returns : goal.returns
returns c =
    let d = c.in-Ok.ensures in
    let h = c.in_ok-middle.ensures in
    let t = sym c.is_origin.ensures ∙ c.if-not-is_origin.false in
    let f = c.if-end-start.false in (
      _,
      record {
        one = one_read _ (read_waiting _) _ _ _ d _ (waiting_fine _ _ _ _ d.2 f t _ h.1);
        held = h.2;
        mark = waiting_mark c.args.table.now _ _ _ d.2 f t;
      },
    )

pub returns-in_default : goal.returns-in_default
returns-in_default c = one_undue _ (read_waiting _) _ _ c.due.result c.due.ensures c.in_default.not-Ok
