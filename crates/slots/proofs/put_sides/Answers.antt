-- `put_sides`: the left side with its length, then the right side with its. Assumes nothing.
-- Read first: `put_sides` in src/lib.rt, proofs/Filling.
use Rattle.slots.proofs.Filling.{put_sides}
use Rattle.slots.proofs.put_sides.Goals as goal

pub returns : goal.returns
returns c =
    let h = c.requires in
    put_sides c.args.slots.now c.args.k h.k_in_bounds
    c.args.left.now _ h.left_len_bound.0 c.paste.ensures
    c.args.right.now _ h.left_len_bound.1 c.paste-2.ensures
