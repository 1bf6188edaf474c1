-- `scan_inputs`: the invariant is that the inputs from k on, with the units left, come to what all come to; number - k falls. Assumes nothing.
-- Read first: specs/Walk (of_inputs), proofs/Going (Going), proofs/Inputs.
use mathlib.Core.Path.{refl}
use native.Mathlib.Omega.{arith}
use Rattle.scanning.proofs.Inputs.{inputs_more, inputs_over, input_walk}
use Rattle.scanning.proofs.Going.{equal_yes, equal_no, going_start, going_on, going_stop, going_end}
use Rattle.forms.proofs.Pairs.{marked_one}
use Rattle.slots.proofs.Layouts.{layout_less}
use Rattle.std.proofs.Common.{rules}
use Rattle.scanning.proofs.scan_inputs.Goals as goal

pub loop-k-init : goal.loop-k-init
loop-k-init c = going_start

pub overflow_cast-k : goal.overflow_cast-k
overflow_cast-k c = let f = c.requires.1 in let t = c.loop-k-test.true in search rules

pub put_mark-requires : goal.put_mark-requires
put_mark-requires c =
    record {
      k_in_bounds = (c.loop-k.invariant.kept.layout c.requires.2).room;
      mark_len = search rules;
    }

pub join-w-requires : goal.join-w-requires
join-w-requires c =
    let t = c.loop-k-test.true in
    let kept = c.loop-k.invariant.kept.layout c.requires.2 in
    (layout_less (omega arith) c.requires.0, marked_one kept c.put_mark.ensures)

pub returns-then-not-all_equal : goal.returns-then-not-all_equal
returns-then-not-all_equal c =
    going_stop c.loop-k.invariant (inputs_more _ c.loop-k-test.true)
    (input_walk c.loop-k-test.true c.numbered-mark.ensures c.put_mark.ensures c.join-w.ensures)
    (equal_no _ _ c.all_equal.ensures c.if-not-all_equal.true)

pub loop-k-preserved : goal.loop-k-preserved
loop-k-preserved c =
    going_on c.loop-k.invariant (inputs_more _ c.loop-k-test.true)
    (input_walk c.loop-k-test.true c.numbered-mark.ensures c.put_mark.ensures c.join-w.ensures)
    (equal_yes _ _ c.all_equal.ensures c.if-not-all_equal.false)

pub returns : goal.returns
returns c = going_end c.loop-k.invariant (inputs_over _ c.loop-k-test.false) refl
