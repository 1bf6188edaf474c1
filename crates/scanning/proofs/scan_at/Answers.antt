-- `scan_at`: no overlap there, one that is too large, or a pair to compare: `place_nothing`, `place_large`, `place_pair`. Assumes nothing.
-- Read first: specs/Walk (Walks, at-place), proofs/Placing.
use Rattle.scanning.proofs.Placing.{place_nothing, place_large, place_pair}
use Rattle.forms.proofs.Pairs.{marked_one}
use Rattle.slots.proofs.Layouts.{layout_room, layout_zeros}
use mathlib.Core.Path.{refl}
use native.Mathlib.Omega.{arith}
use Rattle.scanning.proofs.scan_at.Goals as goal

pub overlap-requires : goal.overlap-requires
overlap-requires c =
    record {
      inner_in_bounds = (c.requires.inner_lt_count.0, c.requires.inner_lt_count.1);
      position_bound = (c.requires.inner_lt_count.2, layout_zeros);
    }

pub overlapping-mark-requires : goal.overlapping-mark-requires
overlapping-mark-requires c =
    let few = (c.args.system.laid_out.short _ c.requires.inner_lt_count.1).left in
    let p = c.requires.inner_lt_count.2 in
    (layout_room c.args.system.laid_out c.requires.inner_lt_count.0, layout_room c.args.system.laid_out c.requires.inner_lt_count.1, omega arith)

pub join-requires : goal.join-requires
join-requires c = (c.overlap.ensures.kept.layout layout_zeros, marked_one c.requires.layout c.put_mark.ensures)

pub returns-in-Nothing : goal.returns-in-Nothing
returns-in-Nothing c =
    place_nothing _ c.requires.inner_lt_count.0 c.requires.inner_lt_count.1 c.overlap.ensures c.in-Nothing.is refl

pub returns-in-TooLarge : goal.returns-in-TooLarge
returns-in-TooLarge c =
    place_large _ c.requires.inner_lt_count.0 c.requires.inner_lt_count.1 c.overlap.ensures c.in-TooLarge.is refl

pub returns-in-Pair : goal.returns-in-Pair
returns-in-Pair c =
    place_pair _ c.requires.inner_lt_count.0 c.requires.inner_lt_count.1 c.overlap.ensures c.in-Pair.is
    c.overlapping-mark.ensures c.put_mark.ensures c.join.ensures
