-- `put_decimal`: from the last digit; the invariant is that m, put in the `left` places still free, gives the whole number. Assumes nothing.
-- Read first: completion/specs/Settle (decimal), proofs/Decimal (Tens).
use Rattle.settle_text.proofs.Decimal.{Tens}
use Rattle.settle_text.proofs.put_decimal.Given as goal

abbrev pub invariant-loop-left : goal.invariant-loop-left
invariant-loop-left l = Tens l.initial.out l.at l.n l.out l.left l.m
