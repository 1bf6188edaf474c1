-- `digit`: a digit below 10 (`digit_low`) or a letter (`digit_high`). Assumes nothing.
-- Read first: completion/specs/Settle (hex-digit), proofs/Hex.
use Rattle.settle_text.proofs.Hex.{digit_low, digit_high}
use Rattle.settle_text.proofs.digit.Goals as goal

pub returns-then-n-lt10 : goal.returns-then-n-lt10
returns-then-n-lt10 c = digit_low _ c.if-n-lt10.true

pub returns : goal.returns
returns c = digit_high _ c.if-n-lt10.false
