-- What the functions of the normaliser answer. Assumes nothing.
use Rattle.std.specs.Prelude.{◌≡◌, Bool, List, ◌++◌, ℕ, ◌+◌, ◌*◌, ◌/◌, ◌≤◌, ltb, length, take, Result, Ok, Err}
use Rattle.limits.specs.Limits.{most_nodes, most_apart, cell_base}
use Rattle.terms.specs.Base.{is_some}
use Rattle.terms.specs.Term.{Term, Terms, term_bytes, size, sizes, count}
use Rattle.terms.specs.Flat.{Wf, Wfs}
use Rattle.rewriting.specs.Overlap.{Rule, sides_of}
use Rattle.rewriting.specs.Rewrite.{step, End, complete, neither_above, spent, too_large, rules_full, log_full, Paid, done, stop, Paying}
use Rattle.matching.specs.Cells.{cells, cells_all}
use Rattle.redex.specs.Marks.{MarkedAll}
use Rattle.slots.specs.Slots.{Stored}
use Rattle.redex.specs.Step.{CellsHold}
use Rattle.redex.specs.declared.Out.{Out}
use Rattle.redex.specs.declared.Step.{Step}
use Rattle.redex.specs.declared.Step.TheVariants.{Normal, Rewritten, Spent, TooLarge, NoTerm}
use Rattle.normaliser.specs.Inside.{normalise_in, normalise_all}
use Rattle.normaliser.specs.declared.Reached.{Reached}
use Rattle.normaliser.specs.declared.Stop.{Stop}
use Rattle.normaliser.specs.declared.Stop.TheVariants.{Spent as NoUnit, TooLarge as NoRoom}
use Rattle.rewriting.specs.declared.End.{End as Ending}
use Rattle.rewriting.specs.declared.End.TheVariants.{Spent as EndSpent, TooLarge as EndTooLarge}

-- terms, of which some subterms are known to be normal, and then `post` are the first `len` cells
pub record CellsHoldAll (tab : List ℕ) (rs : List Rule) (t : List ℕ) (len : ℕ) (us : Terms) (post : List ℕ) : Type 0 where
  pub wfs : Wfs most_apart tab us
  pub marks : List ℕ
  pub marked : MarkedAll rs marks us
  pub text : take len t ≡ marks ++ post

-- `leave`
pub record LeftNormal (c len units : ℕ) (o : Out) : Type 0 where
  pub whole : o.len ≡ len
  pub left_over : o.units ≡ units
  pub ends : o.end ≤ o.len
  pub first : o.step ≡ Normal → 1 ≤ o.end
  pub answer : c / cell_base ≤ len → (o.step ≡ Normal) × (o.end ≡ c / cell_base)

-- which ends a walk over a term can come to: a normaliser stops with these two only
abbrev pub StepStops : End → Step → Type 0
StepStops complete s = ⊥
StepStops neither_above s = ⊥
StepStops spent s = s ≡ Spent
StepStops too_large s = s ≡ TooLarge
StepStops rules_full s = ⊥
StepStops log_full s = ⊥

-- `normalise_in` and `normalise_all`
abbrev pub EndsWith : List ℕ → List ℕ → List ℕ → Out → Paid Term → Type 0
EndsWith tab t post o (done y left) = (o.step ≡ Normal) × (o.units ≡ left) × (o.end ≡ size y) × (take o.len t ≡ cells y ++ post) × Wf most_apart tab y
EndsWith tab t post o (stop e left) = StepStops e o.step × (o.units ≡ left)

abbrev pub EndsAll : List ℕ → List ℕ → List ℕ → ℕ → Out → Paid Terms → Type 0
EndsAll tab t post n o (done ys left) =
    (o.step ≡ Normal) × (o.units ≡ left) × (o.end ≡ sizes ys) × (take o.len t ≡ cells_all ys ++ post) × Wfs most_apart tab ys × (count ys ≡ n)
EndsAll tab t post n o (stop e left) = StepStops e o.step × (o.units ≡ left)

pub record Bounds (t t' : List ℕ) (len most units : ℕ) (o : Out) : Type 0 where
  pub same : length t' ≡ length t
  pub ends : o.end ≤ o.len
  pub small : o.len ≤ most
  pub cost : 1000 * o.units + 2 * o.len ≤ 1000 * units + 2 * len

abbrev pub Limit : (ℕ → Bool) → ℕ → List ℕ → Type 0
Limit big most post = (n : ℕ) → big n ≡ ltb most (n + length post)

pub record Settled (tab rules : List ℕ) (number : ℕ) (t t' : List ℕ) (len most units : ℕ) (o : Out) : Type 0 where
  pub bounds : Bounds t t' len most units o
  pub first : o.step ≡ Normal → 1 ≤ o.end
  pub answer : (rs : List Rule) → Stored tab rules 0 (sides_of rs) → number ≡ length rs → (x : Term) (post : List ℕ) → CellsHold tab rs t len x post →
      (big : ℕ → Bool) → Limit big most post → EndsWith tab t' post o (normalise_in rs big x units)

pub record SettledAll (tab rules : List ℕ) (number : ℕ) (t t' : List ℕ) (n len most units : ℕ) (o : Out) : Type 0 where
  pub bounds : Bounds t t' len most units o
  pub answer : (rs : List Rule) → Stored tab rules 0 (sides_of rs) → number ≡ length rs → (xs : Terms) (post : List ℕ) → CellsHoldAll tab rs t len xs post →
      count xs ≡ n →
      (big : ℕ → Bool) → Limit big most post → EndsAll tab t' post n o (normalise_all rs big xs units)

-- the end of a run that stops so
abbrev pub end_of : Stop → Ending
end_of NoUnit = EndSpent
end_of NoRoom = EndTooLarge

-- `form_of`
unfoldable pub form_after : Step → ℕ → Result ℕ Stop
form_after Normal len = Ok len
form_after Rewritten len = Err NoRoom
form_after Spent len = Err NoUnit
form_after TooLarge len = Err NoRoom
form_after NoTerm len = Err NoRoom

abbrev pub FormStops : End → Result ℕ Stop → Type 0
FormStops complete f = ⊥
FormStops neither_above f = ⊥
FormStops spent f = f ≡ Err NoUnit
FormStops too_large f = f ≡ Err NoRoom
FormStops rules_full f = ⊥
FormStops log_full f = ⊥

abbrev pub SmallForm : Result ℕ Stop → Type 0
SmallForm (Ok n) = n ≤ most_nodes
SmallForm (Err e) = Unit {0}

-- how a walk over a whole term ends, by whichever strategy: with a last term's cells, or with an end
abbrev pub WholeEnds : List ℕ → List ℕ → Out → Paid Term → Type 0
WholeEnds tab t o (done y left) = (o.step ≡ Normal) × (o.units ≡ left) × (take o.len t ≡ cells y) × Wf most_apart tab y
WholeEnds tab t o (stop e left) = StepStops e o.step × (o.units ≡ left)

-- `normalise`: exactly as the definition says, which is `by`, and the units paid are those it takes
abbrev pub NormalIs : List ℕ → List ℕ → ℕ → Reached → Paid Term → Type 0
NormalIs tab out units o (done y left) =
    (o.form ≡ Ok (size y)) × (o.paid + left ≡ units) × (take (size y) out ≡ term_bytes y) × Wf most_apart tab y
NormalIs tab out units o (stop e left) = FormStops e o.form × (o.paid + left ≡ units)

pub record Normalised (by : List Rule → Term → Paying Term) (tab rules : List ℕ) (number : ℕ) (t out out' : List ℕ) (units : ℕ) (o : Reached) : Type 0 where
  pub same : length out' ≡ length out
  pub within : o.paid ≤ units
  pub small : SmallForm o.form
  pub answer : (rs : List Rule) → Stored tab rules 0 (sides_of rs) → number ≡ length rs → (x : Term) → Wf most_apart tab x → t ≡ term_bytes x →
      NormalIs tab out' units o (by rs x units)

-- `reducible`: whether the definition has a step
pub record Reducible (tab rules : List ℕ) (number : ℕ) (t : List ℕ) (r : Bool) : Type 0 where
  pub answer : (rs : List Rule) → Stored tab rules 0 (sides_of rs) → number ≡ length rs → (x : Term) → Wf most_apart tab x → t ≡ term_bytes x →
      r ≡ is_some (step rs x)
