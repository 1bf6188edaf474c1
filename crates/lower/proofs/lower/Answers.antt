-- `lower`: the first, the second, or an empty part: `first_handed`, `second_handed`, `none_handed`. Assumes nothing.
-- Read first: specs/Lower (lower-call, place-of, lower-refused), proofs/Lowers.
use mathlib.Core.Path.{refl, sym, ap, ap₂, ◌∙◌}
use Rattle.std.specs.Prelude.{Some}
use Prim.Native.Nat.{ℕ}
use native.Mathlib.Omega.{arith}
use Rattle.lower.proofs.Lowers.{first_handed, second_handed, none_handed}
use Rattle.lower.proofs.lower.Goals as goal

pub returns-in-Some-First : goal.returns-in-Some-First
returns-in-Some-First c =
    let all = first_handed _ _ _ (ap Some (sym c.in-Some-First.field-0-is) ∙ sym c.in-Some-First.is ∙ c.choose.ensures) in
    record {
      bytes = all.0;
      slice = all.1.0;
      refused = all.1.1;
    }

pub returns-in-Some-Second : goal.returns-in-Some-Second
returns-in-Some-Second c =
    let all = second_handed _ _ _ (ap Some (sym c.in-Some-Second.field-0-is) ∙ sym c.in-Some-Second.is ∙ c.choose.ensures) in
    record {
      bytes = all.0;
      slice = all.1.0;
      refused = all.1.1;
    }

-- the empty part begins where the first term does, in the same block
pub returns-in-None : goal.returns-in-None
returns-in-None c =
    let H = none_handed _ _ _ (sym c.in-None.is ∙ c.choose.ensures) in
    record {
      bytes = H.0;
      slice = ap₂ (λ (block place : ℕ). (block, place)) refl (omega arith) ∙ H.1.0;
      refused = H.1.1;
    }
