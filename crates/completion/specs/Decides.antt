-- Demand 3, the delivery theorem, as one statement in the words of specs/Delivery: what it is that a rule set decides the buyer's equations. Every
-- term is one over the symbols, of any size and with any variables. [14.10] of docs/DEFINITION.md. Assumes nothing.
use Rattle.std.specs.Prelude.{◌≡◌, List, ◌↔◌}
use Rattle.terms.specs.Term.{Term, Pair}
use Rattle.problem.specs.Problem.{Symbol}
use Rattle.rewriting.specs.Overlap.{Rule}
use Rattle.completion.specs.Delivery.{Step, Replacement, Many, Ends, Last}
use Rattle.problem.specs.Over.{Over}

pub record Decides (Σ : List Symbol) (equations : List Pair) (rules : List Rule) : Type 0 where
  -- rewriting ends, whichever rules and nodes are chosen
  pub ends : Ends Σ rules
  -- last terms are unique: a term has one, it has no other, and every way leads on to it
  pub has_last : (s : Term) → Over Σ s → (t : Term) × Over Σ t × Last Σ rules s t
  pub one_last : (s t u : Term) → Over Σ s → Last Σ rules s t → Last Σ rules s u → t ≡ u
  pub always : (s t u : Term) → Over Σ s → Many (Step Σ rules) s t → Last Σ rules s u → Many (Step Σ rules) t u
  -- two terms have the same last term exactly when finitely many replacements of equals by equals, by the buyer's equations, lead from one to
  -- the other
  pub same_last : (s t u v : Term) → Over Σ s → Over Σ t → Last Σ rules s u → Last Σ rules t v → (u ≡ v) ↔ Many (Replacement Σ equations) s t
  -- steps and replacements lead from terms over the symbols to terms over the symbols only
  pub step_stays : (s t : Term) → Over Σ s → Step Σ rules s t → Over Σ t
  pub replacement_stays : (s t : Term) → Over Σ s → Replacement Σ equations s t → Over Σ t
