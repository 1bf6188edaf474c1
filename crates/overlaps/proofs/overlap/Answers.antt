-- `overlap`: no right side (`overlap_empty`), or what `meet` answers of the sides (`overlap_met`). Assumes nothing.
-- Read first: specs/Answer (Overlapped), proofs/Meeting.
use Rattle.slots.proofs.Layouts.{left_long, layout_less}
use Rattle.overlaps.proofs.Meeting.{overlap_empty, overlap_met}
use native.Mathlib.Omega.{arith}
use mathlib.Core.Path.{ap, sym}
use borrow.Author.Tests.{eqb-true, eqb-false}
use lib.ListN.{length}
use Rattle.overlaps.proofs.overlap.Goals as goal

pub returns-then-is_empty : goal.returns-then-is_empty
returns-then-is_empty c = overlap_empty c.right-r2.ensures.result_value (eqb-true _ _ (sym c.if-is_empty.ensures))

pub meet-requires : goal.meet-requires
meet-requires c =
    record {
      l1_len_bound = (
        c.left-l1.ensures.result_len_bound,
        c.right-r1.ensures.result_len_bound,
        c.left-l2.ensures.result_len_bound,
        c.right-r2.ensures.result_len_bound,
      );
      position_in_bounds = (
        omega (
          arith,
          ap length c.left-l2.ensures.result_value,
          left_long c.args.system.rules.now c.args.outer (layout_less {n = c.args.system.count} (omega arith) c.args.system.laid_out),
          c.requires.position_bound.0,
        ),
        omega (arith, eqb-false _ _ (sym c.if-is_empty.ensures)),
        c.requires.position_bound.1,
      );
    }

pub returns : goal.returns
returns c =
    overlap_met c.left-l1.ensures.result_value c.right-r1.ensures.result_value c.left-l2.ensures.result_value c.right-r2.ensures.result_value
    c.meet.ensures
