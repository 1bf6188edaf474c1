-- `put_right`: the right side at its place, and its length. Assumes nothing.
-- Read first: `put_right` in src/lib.rt, proofs/Filling.
use native.Mathlib.Omega.{arith}
use Rattle.slots.proofs.Filling.{put_right}
use Rattle.slots.proofs.put_right.Goals as goal

pub returns : goal.returns
returns c =
    let y = c.requires.layout in
    let k = c.args.k in
    put_right c.args.slots.now k y.room c.args.right.now _ (y.short k (omega arith)).left c.requires.right_len_bound c.paste.ensures
