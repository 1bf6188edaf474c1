-- A refusal that `?` hands on as it is. Assumes nothing.
use mathlib.Core.Path.{◌≡◌, sym, subst}
use Rattle.std.specs.Prelude.{Result, Ok, Err, IsErrAnd}

pub handed_on : {A E : Type 0} (P : Result A E → Type 0) (r : Result A E) (e : E) → IsErrAnd r (λ x. x ≡ e) → P (Err e) → P r
handed_on P (Ok a) e h p = absurd h
handed_on P (Err x) e h p = subst (λ x. P (Err x)) (sym h) p
