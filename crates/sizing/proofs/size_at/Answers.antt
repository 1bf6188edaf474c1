-- `size_at`: a root that is a variable has size 1 (`size_free`), of a symbol the arguments decide (`size_made`). Assumes nothing.
-- Read first: specs/Sizes (SizeAt), proofs/Sizing.
use Rattle.sizing.proofs.Sizing.{size_free, sized_arguments, size_made}
use Rattle.classes.proofs.Walks.{ready_within}
use Rattle.classes.specs.Steps.{at}
use Rattle.sizing.proofs.size_at.Goals as goal

pub bounds-arena-r : goal.bounds-arena-r
bounds-arena-r c = ready_within _ _ _ _ c.requires.sized.ready _ _ c.requires.i_in_bounds c.from-r.ensures

pub returns-then-f-ge-VARIABLE : goal.returns-then-f-ge-VARIABLE
returns-then-f-ge-VARIABLE c = size_free _ _ (at c.args.sizes.now) _ _ c.requires.i_in_bounds c.from-r.ensures c.if-f-ge-VARIABLE.true

pub total-requires : goal.total-requires
total-requires c =
    record {
      sized = c.requires.sized;
      spells_some =
          sized_arguments _ _ _ _ _ c.requires.sized _ _ _ c.requires.i_in_bounds c.from-r.ensures c.if-f-ge-VARIABLE.false c.owed_by-k.ensures.0;
    }

pub returns : goal.returns
returns c =
    size_made _ _ _ _ _ _ c.total.result c.requires.i_in_bounds c.from-r.ensures c.if-f-ge-VARIABLE.false
    c.owed_by-k.ensures.0 c.total.ensures
