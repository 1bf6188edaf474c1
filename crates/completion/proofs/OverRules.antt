-- Rules over the symbols whose right sides have no variable of their own, however they were found: steps by them lead from terms over the symbols to
-- such terms, and are steps in the words of document 01. Assumes nothing.
-- Read first: proofs/Words, proofs/Over.
use mathlib.Core.Path.{◌≡◌}
use mathlib.Core.Bool.{true}
use mathlib.Core.List.{List}
use Prim.Native.Nat.{ℕ}
use Rattle.terms.specs.Base.{Every}
use Rattle.terms.specs.Term.{Term, Pair}
use Rattle.order.specs.Order.{above}
use Rattle.order.proofs.Closure.{above_vars}
use Rattle.order.proofs.Decide.{above_dec}
use Rattle.rewriting.specs.Overlap.{Rule, sides_of}
use Rattle.rewriting.proofs.Relations.{Of, Star, stop, move}
use Rattle.rewriting.proofs.Covers.{of_every}
use Rattle.rewriting.proofs.Stepping.{StepBy}
use Rattle.rewriting.proofs.Variables.{Brings}
use Rattle.problem.specs.Problem.{Symbol}
use Rattle.problem.specs.Over.{Over}
use Rattle.completion.specs.Delivery.{Step, Many, stay, go}
use Rattle.completion.proofs.Words.{step_word}
use Rattle.completion.proofs.Over.{OverPair, over_step, over_star}

-- A side above another has its variables.
pub above_brings : (rank : ℕ → ℕ) (l r : Term) → above rank l r ≡ true → Brings l r
above_brings rank l r e x i = above_vars rank ((above_dec rank l r).0 e) i

module _ (Σ : List Symbol) where
  -- a rule over the symbols, whose right side has no variable of its own
  pub record OverRule (e : Pair) : Type 0 where
    pub over : OverPair Σ e
    pub brings : Brings e.left e.right

  abbrev pub OverRules : List Rule → Type 0
  OverRules rules = Every (λ (r : Rule). OverRule r.sides) rules

  module _ (rules : List Rule) (good : OverRules rules) where
    pub of_over : (l r : Term) → Of (sides_of rules) l r → Over Σ l × Over Σ r
    of_over l r i = (of_every OverRule good l r i).over

    pub of_brings : (l r : Term) → Of (sides_of rules) l r → Brings l r
    of_brings l r i = (of_every OverRule good l r i).brings

    pub raw_stays : (s t : Term) → Over Σ s → StepBy rules s t → Over Σ t
    raw_stays s t o w = over_step Σ (Of (sides_of rules)) (λ l r i. (of_over l r i).1) of_brings s t w o

    pub star_stays : {s t : Term} → Star (StepBy rules) s t → Over Σ s → Over Σ t
    star_stays m o = over_star Σ (Of (sides_of rules)) (λ l r i. (of_over l r i).1) of_brings m o

    -- from a term over the symbols, steps are steps in the words
    pub star_word : {s t : Term} → Star (StepBy rules) s t → Over Σ s → Many (Step Σ rules) s t
    star_word stop o = stay
    star_word (move w m) o = go (step_word Σ rules of_brings _ _ o w) (star_word m (raw_stays _ _ o w))
