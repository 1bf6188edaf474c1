-- `read`: the invariant is that the first k equations are in their slots and the rest is laid out from i on. Assumes nothing.
-- Read first: specs/Inputs (InputsRead), proofs/Fields (SoFar).
use Rattle.inputs.proofs.Fields.{read_start, read_more, read_end}
use Rattle.slots.proofs.Layouts.{layout_room}
use Rattle.limits.specs.Limits.{most_pairs}
use Rattle.slots.specs.Slots.{slot_width}
use mathlib.Core.Path.{◌∙◌}
use lib.ListN.{length-replicate}
use Prim.Native.Nat.{ℕ, ◌*◌, ◌-◌}
use native.Mathlib.Omega.{arith}
use Rattle.std.proofs.Common.{rules}
use Rattle.inputs.proofs.read.Goals as goal

pub loop-k-init : goal.loop-k-init
loop-k-init c =
    (omega arith, length-replicate {A = ℕ} (most_pairs * slot_width) 0, read_start _ _ _ _ (most_pairs * slot_width) (let a = c.requires.1 in omega arith))

pub put_equation-i-requires : goal.put_equation-i-requires
put_equation-i-requires c =
    record {
      k_in_bounds = (layout_room c.loop-k.invariant.2.layout c.loop-k-test.true, (let a = c.loop-k-test.true in let b = c.requires.1 in omega arith));
      source_len_bound = c.requires.0;
    }

pub loop-k-preserved : goal.loop-k-preserved
loop-k-preserved c =
    let q = c.put_equation-i.ensures in
    (search rules, q.only.same ∙ c.loop-k.invariant.1, read_more _ _ _ _ _ _ _ _ _ c.loop-k.invariant.2 c.loop-k-test.true q)

pub returns : goal.returns
returns c =
    read_end _ _ _ _ _ _ _ c.loop-k.invariant.2 (let a = c.loop-k.invariant.0 in let b = c.loop-k-test.false in omega arith)
