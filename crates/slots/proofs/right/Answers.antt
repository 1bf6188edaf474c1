-- `right`: the part of the list is that of the slot, which is short. Assumes nothing.
-- Read first: `right` in src/lib.rt, proofs/Reading.
use native.Mathlib.Omega.{arith}
use Rattle.slots.proofs.Reading.{right_few, right_read}
use Rattle.slots.proofs.right.Goals as goal

pub slice_bounds-result-end : goal.slice_bounds-result-end
slice_bounds-result-end c =
    let y = c.requires in
    let r = y.room in
    omega (arith, right_few c.args.slots.now c.args.k _ y c.from-n.ensures)

pub returns : goal.returns
returns c =
    let all = right_read _ _ _ c.requires c.from-n.ensures in
    record {
      result_value = all.0;
      result_len_bound = all.1;
    }
