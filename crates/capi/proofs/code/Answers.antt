-- `code`: the sum does not overflow 64 bits and is the definition's, the byte being widened by `u64::from`. Assumes nothing.
-- Read first: specs/Codes (code).
use mathlib.Core.Path.{ap}
use Prim.Native.Nat.{ℕ, ◌+◌, ◌*◌, ◌%◌}
use Rattle.capi.specs.Codes.{value_end, kind_unit, code}
use Rattle.capi.proofs.code.Goals as goal

pub returns : goal.returns
unfolding code
returns c = ap (λ (n : ℕ). c.args.kind * kind_unit + n * value_end + c.args.value % value_end) c.from.ensures
