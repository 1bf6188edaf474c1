-- `read_rules`: the invariant is that the rules before i are read and stand in the first slots; the bytes to come fall. Assumes nothing.
-- Read first: specs/Readers (IsRules), proofs/Slotted (RulesSoFar).
use lib.ListN.{length}
use Prim.Native.Nat.{◌-◌}
use Rattle.items.proofs.Slotted.{RulesSoFar}
use Rattle.items.proofs.read_rules.Given as goal

abbrev pub invariant-loop-i : goal.invariant-loop-i
invariant-loop-i l = RulesSoFar l.table l.ordered l.most l.kept l.at l.slots l.count l.before l.i

abbrev pub decreases-loop-i : goal.decreases-loop-i
decreases-loop-i l = length l.kept - l.i
