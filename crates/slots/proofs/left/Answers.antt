-- `left`: the part of the list is that of the slot, which is short. Assumes nothing.
-- Read first: `left` in src/lib.rt, proofs/Reading.
use native.Mathlib.Omega.{arith}
use Rattle.slots.proofs.Reading.{left_few, left_read}
use Rattle.slots.proofs.left.Goals as goal

pub slice_bounds-result-end : goal.slice_bounds-result-end
slice_bounds-result-end c =
    let y = c.requires in
    let r = y.room in
    omega (arith, left_few c.args.slots.now c.args.k _ y c.from-n.ensures)

pub returns : goal.returns
returns c =
    let all = left_read _ _ _ c.requires c.from-n.ensures in
    record {
      result_value = all.0;
      result_len_bound = all.1;
    }
