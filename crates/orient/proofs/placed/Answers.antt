-- `placed`: the buffer holds left and right one after the other, and few names (`few_names`); renamed, cut again and put with the mark into a slot
-- of zeros they are the pair (`in_slot`). Assumes nothing.
-- Read first: specs/Orients (Placed), proofs/Placing.
use Rattle.orient.proofs.Placing.{few_names, in_slot}
use Rattle.std.proofs.Common.{rules}
use Rattle.orient.proofs.placed.Goals as goal

pub rename_front-requires : goal.rename_front-requires
rename_front-requires c = (
  search rules,
  search rules,
  few_names c.args.left.now c.args.right.now _ _ _ c.paste.ensures c.paste-2.ensures c.requires.left_len_bound.2,
)

pub returns : goal.returns
returns c =
    in_slot c.args.left.now c.args.right.now _ _ _ c.paste.ensures c.paste-2.ensures _
    c.rename_front.ensures _ _ _ c.put_sides.ensures c.put_mark.ensures
