-- `read_rules`: the invariant is that the rules before i are read and stand in the first slots; the bytes to come fall. Assumes nothing.
-- Read first: specs/Readers (IsRules), proofs/Slotted (RulesSoFar).
use mathlib.Core.Path.{◌≡◌, refl, ◌∙◌}
use lib.ListN.{length}
use native.Mathlib.Omega.{arith}
use Rattle.items.proofs.Slotted.{rules_start, rules_full, rules_none, rules_other, rules_bad, rules_more}
use Rattle.std.proofs.Common.{rules}
use Rattle.items.proofs.read_rules.Goals as goal

pub loop-i-init : goal.loop-i-init
loop-i-init c = rules_start _ _ _ _ _ _ c.requires.at_in_bounds.0

pub returns-else-count-lt-RULES : goal.returns-else-count-lt-RULES
returns-else-count-lt-RULES c =
    let s = c.loop-i.invariant in
    rules_full _ _ _ _ _ _ _ _ _ s (omega (arith, s.slotted.few, c.if-count-lt-RULES.false))

pub returns-else-kept-i-eq-RULE : goal.returns-else-kept-i-eq-RULE
returns-else-kept-i-eq-RULE c = rules_other _ _ _ _ _ _ _ _ _ c.loop-i.invariant c.loop-i-test.true c.if-kept-i-eq-RULE.false

pub returns-in_default : goal.returns-in_default
returns-in_default c =
    rules_bad _ _ _ _ _ _ _ _ _ c.loop-i.invariant c.loop-i-test.true (λ e. omega arith) c.if-kept-i-eq-RULE.true
    c.in_default.ensures

pub overflow_cast-rule : goal.overflow_cast-rule
overflow_cast-rule c =
    omega (arith, c.in-Some.ensures.1.fits)

-- its left side stands from i + 5 to m, its right side from there to e
pub overflow_add-i : goal.overflow_add-i
overflow_add-i c =
    let R = c.in-Some.ensures.1 in
    omega (arith, R.held.middle, R.held.ends, R.one.within, c.requires.at_in_bounds.1)

pub hold_pair-requires : goal.hold_pair-requires
hold_pair-requires c =
    let found = c.in-Some.ensures in
    let s = c.loop-i.invariant in
    let R = found.1 in
    let F = R.held in
    let room = c.requires.most_rules_in_bounds in
    record {
      at_le_middle = (
        omega (arith, F.middle),
        omega (arith, F.middle, F.left_small),
        omega (arith, F.ends),
        omega (arith, F.ends, F.right_small),
        R.one.within,
      );
      mark_len = (search rules, omega (arith, room, c.loop-i.auto.slots, c.if-count-lt-RULES.true));
    }

pub overflow_add-count : goal.overflow_add-count
overflow_add-count c = omega arith

pub loop-i-smaller : goal.loop-i-smaller
loop-i-smaller c =
    let R = c.in-Some.ensures.1 in omega (arith, R.one.low, R.one.within)

pub loop-i-preserved : goal.loop-i-preserved
loop-i-preserved c =
    let R = c.in-Some.ensures.1 in
    rules_more _ _ _ _ _ _ _ _ _ c.loop-i.invariant c.loop-i-test.true (λ e. omega arith) c.if-kept-i-eq-RULE.true _ _ _ _ R _ _
    c.numbered-mark.ensures c.hold_pair.ensures (omega (arith, c.requires.most_rules_in_bounds, c.loop-i.auto.slots))

pub returns-after-loop-i : goal.returns-after-loop-i
returns-after-loop-i c = rules_none _ _ _ _ _ _ _ _ _ c.loop-i.invariant c.loop-i-test.false
