-- `digits`: one more than the exponent of the power of ten below the number. Assumes nothing.
-- Read first: completion/specs/Settle (decimal), proofs/Decimal (digits_are).
use Rattle.settle_text.proofs.Decimal.{digits_are}
use Rattle.settle_text.proofs.digits.Goals as goal

pub returns : goal.returns
returns c = let p = c.ilog10.ensures in digits_are _ _ _ c.max.ensures p.power_le p.next_power_gt
