-- `vb_lower`: the code of each choice is that of what `lower::choose` answered; it is 0 exactly if the lent bytes are refused (`zero_if`).
-- Assumes nothing.
-- Read first: specs/Codes (lower_code), lower/specs/Lower (which, lower_refused), lower/proofs/Lowers (choice).
use mathlib.Core.Path.{◌≡◌, refl, ap, ◌∙◌}
use mathlib.Core.Bool.{Bool, true, false}
use mathlib.Core.List.{List}
use Prim.Native.Nat.{ℕ}
use lib.Dec.{eqb}
use Rattle.std.proofs.Common.{Option, Some, None}
use Rattle.lower.specs.Lower.{which, lower_refused}
use Rattle.lower.specs.declared.Which.{Which}
use Rattle.lower.specs.declared.Which.TheVariants.{First, Second}
use Rattle.lower.proofs.Lowers.{Choice, is_first, is_second, is_refused, choice}
use Rattle.capi.specs.Codes.{lower_code}
use Rattle.capi.proofs.vb_lower.Goals as goal

zero_if : {first second : List ℕ} (w : Option Which) (r : Bool) → Choice first second w r → eqb (lower_code w) 0 ≡ r
unfolding lower_code
zero_if (Some First) true h = elim h [ ]
zero_if (Some Second) true h = elim h [ ]
zero_if None false h = elim h [ ]
zero_if (Some First) false (is_first h) = refl
zero_if (Some Second) false (is_second h) = refl
zero_if None true is_refused = refl

-- the code of a choice
refused_if : (symbols first second : List ℕ) (w : Option Which) → w ≡ which symbols first second →
    eqb (lower_code w) 0 ≡ lower_refused symbols first second
refused_if symbols first second w e = ap (λ (w : Option Which). eqb (lower_code w) 0) e ∙ zero_if _ _ (choice first second symbols)

pub returns-in-None : goal.returns-in-None
unfolding lower_code
returns-in-None c = let q = c.in-None.ensures in record { value = ap lower_code q; refused = refused_if _ _ _ None q }

pub returns-in-Some-First : goal.returns-in-Some-First
unfolding lower_code
returns-in-Some-First c =
    let q = rw c.in-Some-First.field-0-is at c.in-Some-First.ensures in
    record { value = ap lower_code q; refused = refused_if _ _ _ (Some First) q }

pub returns-in-Some-Second : goal.returns-in-Some-Second
unfolding lower_code
returns-in-Some-Second c =
    let q = rw c.in-Some-Second.field-0-is at c.in-Some-Second.ensures in
    record { value = ap lower_code q; refused = refused_if _ _ _ (Some Second) q }
