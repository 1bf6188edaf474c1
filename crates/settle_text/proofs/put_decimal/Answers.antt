-- `put_decimal`: from the last digit; the invariant is that m, put in the `left` places still free, gives the whole number. Assumes nothing.
-- Read first: completion/specs/Settle (decimal), proofs/Decimal (Tens).
use Rattle.settle_text.proofs.Decimal.{tens_start, tens_more, tens_end}
use Rattle.settle_text.proofs.put_decimal.Goals as goal

pub loop-left-init : goal.loop-left-init
loop-left-init c = tens_start _ _ _ _ c.digits-w.ensures

pub loop-left-preserved : goal.loop-left-preserved
loop-left-preserved c = tens_more _ _ _ c.requires _ _ _ c.loop-left.invariant c.loop-left-test.true

pub returns : goal.returns
returns c = tens_end _ _ _ c.requires _ _ _ c.loop-left.invariant _ c.digits-w.ensures c.loop-left-test.false
