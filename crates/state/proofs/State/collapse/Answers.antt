-- `State::collapse`: `sift` moves the slots, and the state is changed as the definition's, by `collapse_done`. Assumes nothing.
-- Read first: specs/Steps (Collapses), collapse/specs/Sifting (Sifted), proofs/Changing.
use mathlib.Core.Path.{◌≡◌}
use native.Mathlib.Omega.{arith}
use lib.ListN.{length}
use Rattle.slots.specs.Slots.{slot_width}
use Rattle.slots.proofs.Layouts.{layout_less, copied_layout}
use Rattle.state.proofs.Changing.{collapse_done}
use Rattle.std.proofs.Common.{rules}
use Rattle.state.proofs.State.collapse.Goals as goal

pub returns : goal.returns
returns c = collapse_done _ _ c.requires.0 _ _ _ c.requires.1 c.copy-new.ensures c.sift.ensures

pub sift-requires : goal.sift-requires
sift-requires c =
    let l : length c.copy-new.result ≡ slot_width = search rules in
    let w = c.requires.0.within in
    let s = c.requires.1 in
    (layout_less (omega arith) c.requires.0.layout, s, omega arith, copied_layout _ _ _ _ c.requires.0.layout (omega arith) c.copy-new.ensures l)
