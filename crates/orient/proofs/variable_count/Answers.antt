-- `variable_count`: the set of both sides, one after the other (`see_append`), has as many ones as the pair has variables (`count_is`). Assumes
-- nothing.
-- Read first: specs/Seen (Counted), proofs/Seeing.
use Rattle.orient.proofs.Seeing.{see_append, count_is}
use Rattle.orient.proofs.variable_count.Goals as goal

pub returns : goal.returns
returns c = count_is _ _ _ (see_append _ _ _ _ _ c.with_bytes.ensures c.with_bytes-2.ensures)
