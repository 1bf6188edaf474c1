-- `terms::same_term` meets its contract. Assumes nothing.
-- Read first: proofs/InStep.
use Rattle.std.proofs.lemmas.Slice.Zip.{zip_turn, zip_end}
use Rattle.terms.proofs.Owing.{counted_start}
use Rattle.terms.proofs.InStep.{Walked, same_ended, short, differ, walked_more}
use native.Mathlib.Omega.{arith}
use lib.ListN.{length, length-append}
use Prim.Native.Nat.{◌+◌, ◌-◌}
use mathlib.Core.Path.{refl}
use Rattle.std.proofs.Common.{rules}
use Rattle.terms.proofs.same_term.Goals as goal

pub loop-b-init : goal.loop-b-init
loop-b-init c = record {
  walked = record { counted = counted_start _ _; alike = refl; small = search rules; few = search rules };
  some = search rules;
}

pub returns-then-b-c : goal.returns-then-b-c
returns-then-b-c c =
    differ _ _ _ _ _ _ _ c.loop-b.invariant
    (zip_turn c.args.s.now c.args.t.now c.loop-b.yielded c.into_iter-b-iterator.result c.loop-b.b-iterator c.next.new.self c.next.result
    (search rules) (search rules) c.loop-b.yielded_by _ c.in-Some.is c.next.ensures.steps)
    c.if-b-c.true

pub overflow_add-owed : goal.overflow_add-owed
overflow_add-owed c =
    let inv = c.loop-b.invariant.walked in
    omega (arith, inv.few, inv.small)

pub returns-then-owed-eq0 : goal.returns-then-owed-eq0
returns-then-owed-eq0 c =
    let turn = zip_turn c.args.s.now c.args.t.now c.loop-b.yielded c.into_iter-b-iterator.result c.loop-b.b-iterator c.next.new.self c.next.result
    (search rules) (search rules) c.loop-b.yielded_by _ c.in-Some.is c.next.ensures.steps in
    let w = walked_more _ _ _ _ _ _ _ _ c.loop-b.invariant turn c.if-b-c.false c.owed_by.ensures in
    same_ended _ _ _ _ _ w.counted (omega arith) w.alike

pub loop-b-preserved : goal.loop-b-preserved
loop-b-preserved c =
    let turn = zip_turn c.args.s.now c.args.t.now c.loop-b.yielded c.into_iter-b-iterator.result c.loop-b.b-iterator c.next.new.self c.next.result
    (search rules) (search rules) c.loop-b.yielded_by _ c.in-Some.is c.next.ensures.steps in
    let w : Walked c.args.table.now c.args.s.now c.args.t.now (length c.loop-b.yielded + 1) (c.loop-b.owed - 1 + c.owed_by.result) =
    walked_more _ _ _ _ _ _ _ _ c.loop-b.invariant turn c.if-b-c.false c.owed_by.ensures in
    record { walked = rw (length-append c.loop-b.yielded _) w; some = omega arith }

pub returns : goal.returns
returns c =
    let inv = c.loop-b.invariant in
    short _ _ _ _ _ inv.walked.counted inv.some
    (zip_end c.args.s.now c.args.t.now c.loop-b.yielded c.into_iter-b-iterator.result c.loop-b.b-iterator c.next.new.self c.next.result
    (search rules) (search rules) c.loop-b.yielded_by c.in-None.is c.next.ensures.steps)
