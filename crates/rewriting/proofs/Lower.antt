-- Rewriting by rules that go down in the path order goes down, so a term above another is above what it is rewritten to. Assumes nothing.
-- Read first: proofs/PathOrder.
use mathlib.Core.Path.{◌≡◌}
use mathlib.Core.Bool.{true}
use Prim.Native.Nat.{ℕ}
use Rattle.terms.specs.Term.{Term}
use Rattle.order.proofs.PathOrder.{Above}
use Rattle.order.specs.Order.{above}
use Rattle.order.proofs.Decide.{above_dec}
use Rattle.order.proofs.Trans.{above_trans}
use Rattle.rewriting.proofs.Relations.{Star, stop, move, Rules, Step}
use Rattle.rewriting.proofs.Order.{step_down}
use Rattle.rewriting.proofs.PathOrder.{above_order}

star_lower : (rank : ℕ → ℕ) (R : Rules) → ((l r : Term) → R l r → Above rank l r) → (s : Term) {t u : Term} → Star (Step R) t u → Above rank s t →
    Above rank s u
star_lower rank R down s stop a = a
star_lower rank R down s (move x q) a = star_lower rank R down s q (above_trans rank a (step_down (above_order rank) down _ _ x))

pub above_lower : (rank : ℕ → ℕ) (R : Rules) → ((l r : Term) → R l r → above rank l r ≡ true) → (s t u : Term) → Star (Step R) t u → above rank s t ≡ true →
    above rank s u ≡ true
above_lower rank R down s t u q e =
    (above_dec rank s u).1 (star_lower rank R (λ l r ρ. (above_dec rank l r).0 (down l r ρ)) s q ((above_dec rank s t).0 e))
