-- `sift_one`: the pair's left side is that of the copied slot, and the test is the definition's `rewrites`. Assumes nothing.
-- Read first: specs/Sifting (SiftedOne), proofs/Siftings.
use mathlib.Core.Path.{◌≡◌, ap, ◌∙◌}
use lib.ListN.{length}
use Rattle.slots.specs.Slots.{slot_width, left_of}
use Rattle.slots.proofs.Layouts.{copied_layout}
use Rattle.collapse.proofs.Siftings.{one_goes, one_stays}
use Rattle.std.proofs.Common.{rules}
use Rattle.collapse.proofs.sift_one.Goals as goal

pub left-requires : goal.left-requires
left-requires c =
    let l : length c.copy-one.result ≡ slot_width = search rules in
    copied_layout _ _ _ _ c.requires.0 c.requires.1 c.copy-one.ensures l

pub returns-then-rewrites : goal.returns-then-rewrites
returns-then-rewrites c =
    one_goes _ _ _ _ _ _ _ (c.left.ensures.result_value ∙ ap left_of c.copy-one.ensures) c.reducible-rewrites.ensures _
    c.if-rewrites.true c.move_last.ensures

pub returns-else-rewrites : goal.returns-else-rewrites
returns-else-rewrites c =
    one_stays _ _ _ _ _ _ _ (c.left.ensures.result_value ∙ ap left_of c.copy-one.ensures) c.reducible-rewrites.ensures c.if-rewrites.false
