-- `write_instance`: the spelt term has at most 120 bytes, hence few names; written, renamed and put as a field: `spelt_written`. Assumes nothing.
-- Read first: specs/Common (Spelt, WritesSpelt), proofs/Instances.
use native.Mathlib.Omega.{arith}
use mathlib.Core.Path.{refl}
use lib.ListN.{length-take}
use Rattle.std.proofs.Common.{rules}
use Rattle.instances.proofs.Instances.{spelt_room, spelt_few, front_room, spelt_written}
use Rattle.instances.proofs.write_instance.Goals as goal

pub write-n-requires : goal.write-n-requires
write-n-requires c = spelt_room _ _ _ _ c.requires.spelt

pub rename_front-requires : goal.rename_front-requires
rename_front-requires c =
    let f = spelt_few _ _ _ _ c.requires.spelt _ _ _ refl c.write-n.ensures in
    front_room _ c.write-n.new.out (omega (arith, f)) f.1

pub slice_bounds-out-end : goal.slice_bounds-out-end
slice_bounds-out-end c = let f = spelt_few _ _ _ _ c.requires.spelt _ _ _ refl c.write-n.ensures in omega (arith, f)

pub slice_bounds-field-end : goal.slice_bounds-field-end
slice_bounds-field-end c =
    let f = spelt_few _ _ _ _ c.requires.spelt _ _ _ refl c.write-n.ensures in
    omega (
      arith,
      f,
      length-take c.write-n.result c.rename_front.new.out,
    )

pub field-requires : goal.field-requires
field-requires c =
    let f = spelt_few _ _ _ _ c.requires.spelt _ _ _ refl c.write-n.ensures in
    let n = length-take c.write-n.result c.rename_front.new.out in
    (omega (arith, f, n, c.requires.most_nodes_in_bounds), omega (arith, f, n))

pub returns : goal.returns
returns c =
    let named = c.field.ensures.same in
    spelt_written _ _ _ _ c.requires.spelt _ _ _ refl c.write-n.ensures _ c.rename_front.ensures _ _ _ (search rules) c.field.ensures.puts
