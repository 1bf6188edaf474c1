-- `read_waiting`: the invariant is that the equations before i are read and stand behind the live rules; the bytes to come fall. Assumes nothing.
-- Read first: specs/Candidates (IsWaitings), proofs/Waiting (WaitingSoFar).
use mathlib.Core.Path.{◌≡◌, refl, ◌∙◌}
use lib.ListN.{length}
use Prim.Native.Nat.{◌-◌}
use native.Mathlib.Omega.{arith}
use Rattle.candidates.proofs.Waiting.{waiting_start, waiting_full, waiting_none, waiting_other, waiting_bad, waiting_more}
use Rattle.std.proofs.Common.{rules}
use Rattle.candidates.proofs.read_waiting.Goals as goal

pub loop-i-init : goal.loop-i-init
loop-i-init c = waiting_start _ _ _ _ _ c.requires.at_in_bounds.0 c.requires.at_in_bounds.2

pub returns-else-k-lt-PAIRS : goal.returns-else-k-lt-PAIRS
returns-else-k-lt-PAIRS c =
    let s = c.loop-i.invariant in
    waiting_full _ _ _ _ _ _ _ _ s (omega (arith, s.few, c.if-k-lt-PAIRS.false))

pub returns-else-saved-i-eq-WAITING : goal.returns-else-saved-i-eq-WAITING
returns-else-saved-i-eq-WAITING c = waiting_other _ _ _ _ _ _ _ _ c.loop-i.invariant c.loop-i-test.true c.if-saved-i-eq-WAITING.false

pub returns-in_default : goal.returns-in_default
returns-in_default c =
    waiting_bad _ _ _ _ _ _ _ _ c.loop-i.invariant c.loop-i-test.true (λ e. omega arith) c.if-saved-i-eq-WAITING.true
    c.in_default.ensures

-- its origin stands from i + 3 on, its left side from i + 9 to m, its right side from there to e
pub origin_at-mark-requires : goal.origin_at-mark-requires
origin_at-mark-requires c =
    let W = c.in-Some.ensures.1 in
    omega (arith, W.held.middle, W.held.ends, W.one.within)

pub overflow_add-i-in-loop-i : goal.overflow_add-i-in-loop-i
overflow_add-i-in-loop-i c =
    let W = c.in-Some.ensures.1 in
    omega (arith, W.held.middle, W.held.ends, W.one.within, c.requires.at_in_bounds.1)

pub hold_pair-requires : goal.hold_pair-requires
hold_pair-requires c =
    let W = c.in-Some.ensures.1 in
    let F = W.held in
    let room = c.requires.most_pairs_in_bounds in
    record {
      at_le_middle = (
        omega (arith, F.middle),
        omega (arith, F.middle, F.left_small),
        omega (arith, F.ends),
        omega (arith, F.ends, F.right_small),
        W.one.within,
      );
      mark_len = (search rules, omega (arith, room, c.loop-i.auto.slots, c.if-k-lt-PAIRS.true));
    }

pub overflow_add-k : goal.overflow_add-k
overflow_add-k c = omega arith

pub loop-i-smaller : goal.loop-i-smaller
loop-i-smaller c =
    let W = c.in-Some.ensures.1 in omega (arith, W.one.low, W.one.within)

pub loop-i-preserved : goal.loop-i-preserved
loop-i-preserved c =
    let W = c.in-Some.ensures.1 in
    waiting_more _ _ _ _ _ _ _ _ c.loop-i.invariant c.loop-i-test.true (λ e. omega arith) c.if-saved-i-eq-WAITING.true _ _ _ W _ _
    c.origin_at-mark.ensures c.hold_pair.ensures (omega (arith, c.requires.most_pairs_in_bounds, c.loop-i.auto.slots))

pub returns-after-loop-i : goal.returns-after-loop-i
returns-after-loop-i c = waiting_none _ _ _ _ _ _ _ _ c.loop-i.invariant c.loop-i-test.false
