-- `number`: the invariant is that the bytes read so far are the number n. Assumes nothing.
-- Read first: proofs/Numbers (Counted).
use native.Mathlib.Omega.{arith}
use Rattle.reading.proofs.Numbers.{counted_start, counted_small, counted_more, counted_end, length_part}
use Rattle.reading.proofs.number.Goals as goal

pub loop-b-init : goal.loop-b-init
loop-b-init c = counted_start _

pub overflow_mul-n : goal.overflow_mul-n
overflow_mul-n c =
    let long = length_part c.args.t.now c.args.at c.args.width c.requires.0 in
    let few = counted_small _ _ _ c.loop-b.invariant c.loop-b-test.true (omega (arith, long)) in
    omega arith

pub overflow_add-n : goal.overflow_add-n
overflow_add-n c =
    let long = length_part c.args.t.now c.args.at c.args.width c.requires.0 in
    let few = counted_small _ _ _ c.loop-b.invariant c.loop-b-test.true (omega (arith, long)) in
    omega arith

pub loop-b-preserved : goal.loop-b-preserved
loop-b-preserved c = counted_more _ _ _ c.loop-b.invariant c.loop-b-test.true _ c.from.ensures (omega arith)

pub returns : goal.returns
returns c =
    let all = counted_end _ _ _ c.requires.0 _ _ c.loop-b.invariant (omega (arith, length_part c.args.t.now c.args.at c.args.width c.requires.0)) in
    record {
      value = all.0;
      fits = all.1;
    }
