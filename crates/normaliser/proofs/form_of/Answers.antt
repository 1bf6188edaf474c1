-- `form_of`: each variant of the step, by computation. Assumes nothing.
-- Read first: specs/Settled (form_after).
use Rattle.normaliser.specs.Settled.{form_after}
use Rattle.std.specs.Prelude.{Err}
use Rattle.normaliser.specs.declared.Stop.TheVariants.{TooLarge as NoRoom}
use Rattle.redex.specs.declared.Step.{Step}
use Rattle.redex.specs.declared.Step.TheVariants.{Normal, Rewritten, Spent, TooLarge, NoTerm}
use mathlib.Core.Path.{◌≡◌, refl, sym, ap}
use Prim.Native.Nat.{ℕ}
use Rattle.normaliser.proofs.form_of.Goals as goal

-- every other variant
other : (s : Step) (n : ℕ) → (s ≡ Normal → ⊥) → (s ≡ Spent → ⊥) → Err NoRoom ≡ form_after s n
unfolding form_after
other Normal n a b = absurd (a refl)
other Rewritten n a b = refl
other Spent n a b = absurd (b refl)
other TooLarge n a b = refl
other NoTerm n a b = refl

pub returns-in-Normal : goal.returns-in-Normal
unfolding form_after
returns-in-Normal c = sym (ap (λ s. form_after s c.args.len) c.in-Normal.is)

pub returns-in-Spent : goal.returns-in-Spent
unfolding form_after
returns-in-Spent c = sym (ap (λ s. form_after s c.args.len) c.in-Spent.is)

pub returns-in_default : goal.returns-in_default
returns-in_default c = other _ _ c.in_default.not-Normal c.in_default.not-Spent
