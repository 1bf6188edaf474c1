-- `compose_one`: the right side is normalised, and written back if it came to a normal form: `stopped`, `composed`. Assumes nothing.
-- Read first: specs/Rights (One), proofs/Single.
use native.Mathlib.Omega.{arith}
use Rattle.slots.proofs.Layouts.{layout_less}
use Rattle.compose.proofs.Single.{stopped, composed}
use Rattle.std.proofs.Common.{rules}
use Rattle.compose.proofs.compose_one.Goals as goal

pub right-requires : goal.right-requires
right-requires c = layout_less (let q = c.requires.1 in omega arith) c.requires.0

pub slice_bounds-put_right-end : goal.slice_bounds-put_right-end
slice_bounds-put_right-end c =
    let few = rw c.in-Ok.is at c.normalise-r.ensures.small in
    let same = c.normalise-r.ensures.same in
    search rules

pub put_right-requires : goal.put_right-requires
put_right-requires c =
    let few = rw c.in-Ok.is at c.normalise-r.ensures.small in
    record {
      layout = layout_less (let q = c.requires.1 in omega arith) c.requires.0;
      right_len_bound = search rules;
    }

pub shape_of-rules-in-Ok : goal.shape_of-rules-in-Ok
shape_of-rules-in-Ok c = c.put_right.ensures.only.same

pub returns-in-Ok : goal.returns-in-Ok
returns-in-Ok c =
    composed _ _ _ _ _ _ _ _ _ c.requires.0 c.requires.1 c.right.ensures.result_value
    c.normalise-r.ensures _
    c.in-Ok.is _ c.put_right.ensures

pub returns-in-Err : goal.returns-in-Err
returns-in-Err c =
    rw c.from.ensures
    (stopped _ _ _ _ _ _ _ _ _ c.requires.0 c.requires.1 c.right.ensures.result_value
    c.normalise-r.ensures _ c.in-Err.is)
