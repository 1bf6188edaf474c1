-- `last_term`: the normaliser of the strategy that is asked for. Assumes nothing.
-- Read first: specs/Joins (by_strategy), normaliser/specs/Settled (Normalised).
use mathlib.Core.Path.{◌≡◌, sym, subst}
use mathlib.Core.List.{List}
use Prim.Native.Nat.{ℕ}
use Rattle.normaliser.specs.declared.Reached.{Reached}
use Rattle.normaliser.specs.Settled.{Normalised}
use Rattle.joining.specs.declared.Strategy.{Strategy}
use Rattle.joining.specs.declared.Strategy.TheVariants.{Innermost, Outermost}
use Rattle.joining.specs.Joins.{step_by, by_strategy}
use Rattle.joining.proofs.last_term.Goals as goal

-- the strategy that is asked for is b
normalised-by : {a b : Strategy} {tab rules : List ℕ} {count : ℕ} {t out out' : List ℕ} {units : ℕ} {r : Reached} → a ≡ b →
    Normalised (by_strategy b) tab rules count t out out' units r → Normalised (by_strategy a) tab rules count t out out' units r
normalised-by {tab = tab} {rules} {count} {t} {out} {out'} {units} {r} e h =
    subst (λ s. Normalised (by_strategy s) tab rules count t out out' units r) (sym e) h

pub returns-in-Innermost : goal.returns-in-Innermost
unfolding step_by
returns-in-Innermost c = normalised-by {b = Innermost} c.in-Innermost.is c.normalise.ensures

pub returns-in-Outermost : goal.returns-in-Outermost
unfolding step_by
returns-in-Outermost c = normalised-by {b = Outermost} c.in-Outermost.is c.normalise-in-Outermost.ensures
