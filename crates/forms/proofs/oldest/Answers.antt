-- `oldest`: the slot of zeros gets the pair's mark, then `join`. Assumes nothing.
-- Read first: specs/Forms (OldestIs), proofs/Pairs.
use Rattle.forms.proofs.Pairs.{marked_one, oldest_walk}
use Rattle.slots.proofs.Layouts.{layout_less, layout_zeros}
use native.Mathlib.Omega.{arith}
use Rattle.forms.proofs.oldest.Goals as goal

pub join-w-requires : goal.join-w-requires
join-w-requires c = (c.requires, marked_one layout_zeros c.put_mark.ensures)

pub invariant_of-system : goal.invariant_of-system
invariant_of-system c = record { laid_out = layout_less (omega arith) c.requires }

pub returns : goal.returns
returns c = oldest_walk layout_zeros c.mark-mark.ensures c.put_mark.ensures c.join-w.ensures c.with_pair.ensures
