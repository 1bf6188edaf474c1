-- `possible`: past the left side (`possible_beyond`), a variable at the position (`possible_open`), or by what `clash` answers (`possible_tested`).
-- Assumes nothing.
-- Read first: specs/Answer (Possible), proofs/Testing.
use Rattle.overlaps.proofs.Testing.{possible_beyond, possible_open, possible_tested}
use native.Mathlib.Omega.{arith}
use Rattle.slots.proofs.Layouts.{layout_less}
use Rattle.overlaps.proofs.possible.Goals as goal
use Rattle.overlaps.proofs.possible.Goals.{then-position-l2-via-then-position-l2, then-position-l2-via-else-position-l2+then-l2-position-ge-VARIABLE}

pub returns-then-position-l2 : goal.returns-then-position-l2
returns-then-position-l2 c =
    elim c.then-position-l2.branch [
      | then-position-l2-via-then-position-l2 w ↦ possible_beyond c.left-l2.ensures.result_value w.if-position-l2.true
      | then-position-l2-via-else-position-l2+then-l2-position-ge-VARIABLE w ↦
          possible_open c.left-l2.ensures.result_value (omega (arith, w.if-l2-position-ge-VARIABLE.true))
    ]

pub returns : goal.returns
returns c =
    possible_tested c.left-l2.ensures.result_value (layout_less {n = c.args.system.count} (omega arith) c.args.system.laid_out)
    c.if-position-l2.false (omega (arith, c.if-l2-position-ge-VARIABLE.false))
    c.left.ensures.result_value c.clash.result c.clash.ensures
