-- `refused`: the reason's number, and the place. Assumes nothing.
-- Read first: specs/Codes (code), problem/specs/Reasons (number_of_reason).
use Rattle.std.proofs.Common.{ap, ◌∙◌}
use Prim.Native.Nat.{ℕ}
use Rattle.capi.specs.Codes.{code}
use Rattle.capi.proofs.refused.Goals as goal

pub returns : goal.returns
returns c = c.code.ensures ∙ ap (λ (n : ℕ). code 0 n c.args.refusal.place) c.from.ensures
