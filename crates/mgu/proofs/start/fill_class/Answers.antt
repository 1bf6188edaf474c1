-- `fill_class`: the first i nodes have their first classes, and the table has the first node of each variable met. Assumes nothing.
-- Read first: specs/Result (FirstClass, Firsts), classes/proofs/Filled, proofs/Firsts.
use lib.ListN.{length-replicate}
use Rattle.mgu.proofs.Firsts.{zeros_at}
use Rattle.mgu.proofs.Starting.{classing_start, classing_more}
use Rattle.classes.proofs.Filled.{filled_end}
use Prim.Native.Nat.{ℕ}
use native.Mathlib.Omega.{arith}
use Rattle.mgu.proofs.start.fill_class.Goals as goal

pub loop-i-init : goal.loop-i-init
loop-i-init c = classing_start _ _ _ (length-replicate {A = ℕ} 256 0) (zeros_at 256)

pub slice_bounds-first_class-end : goal.slice_bounds-first_class-end
slice_bounds-first_class-end c = omega (arith, c.loop-i.invariant.seen.long)

pub first_class-c-requires : goal.first_class-c-requires
first_class-c-requires c = (omega (arith, c.loop-i-test.true), c.loop-i.invariant.seen)

pub overflow_cast-class : goal.overflow_cast-class
overflow_cast-class c = omega (arith, c.first_class-c.ensures.1, c.loop-i-test.true, c.requires.0)

pub bounds-class-i : goal.bounds-class-i
bounds-class-i c = omega (arith, c.loop-i.invariant.filled.long, c.loop-i-test.true, c.requires.1)

pub overflow_cast-firsts : goal.overflow_cast-firsts
overflow_cast-firsts c = omega (arith, c.first_class-c.ensures.1, c.loop-i-test.true, c.requires.0)

pub bounds-firsts-b : goal.bounds-firsts-b
bounds-firsts-b c = omega (arith, c.from-b.ensures)

pub loop-i-preserved : goal.loop-i-preserved
loop-i-preserved c =
    classing_more _ _ _ _ _ _ _ c.loop-i.invariant (omega (arith, c.loop-i-test.true, c.requires.1))
    c.from-b.ensures (omega (arith, c.type_inv.nodes c.loop-i.i, c.from-b.ensures)) c.first_class-c.ensures

pub shape_of-class : goal.shape_of-class
shape_of-class c = c.loop-i.invariant.filled.long

pub returns : goal.returns
returns c =
    let all = filled_end _ _ _ _ _ c.loop-i.invariant.filled c.loop-i-test.false in
    record {
      class_len_unchanged = all.0;
      each = all.1;
    }
