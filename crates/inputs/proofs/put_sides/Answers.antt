-- `put_sides`: two calls of `side_end` find the two sides if there are such; the known bytes between have few names (`few_names`), and are cut
-- again when renamed (`sides_put`). Assumes nothing.
-- Read first: specs/Inputs (SideEnd, PutsSides), proofs/Placing.
use Rattle.inputs.proofs.Placing.{few_names, sides_put}
use Rattle.std.proofs.Common.{rules}
use Rattle.inputs.proofs.put_sides.Goals as goal

pub rename_front-requires : goal.rename_front-requires
rename_front-requires c = (
  search rules,
  search rules,
  few_names _ _ _ _ _ c.side_end-m.ensures c.side_end-e.ensures _ _ c.paste.ensures,
)

pub returns : goal.returns
returns c =
    sides_put _ _ _ _ _ c.side_end-m.ensures c.side_end-e.ensures _ _ c.paste.ensures _
    c.rename_front.ensures _ _ _ c.put_sides.ensures
