-- From a certificate to delivery, over any rules and equations: nothing here asks how the rules were found. Assumes nothing.
-- Read first: specs/Decides, proofs/Deliver (from all trees to terms over the symbols), rewriting/proofs/PathOrder (joinable overlaps give unique
-- last terms).
use mathlib.Core.Path.{◌≡◌}
use mathlib.Core.Bool.{true}
use mathlib.Core.List.{List}
use Prim.Native.Nat.{ℕ, ◌<◌}
use lib.ListN.{length}
use Rattle.terms.proofs.Subst.{VarsIn}
use Rattle.order.specs.Order.{above}
use Rattle.terms.specs.Term.{Pair}
use Rattle.rewriting.specs.Overlap.{Rule, sides_of}
use Rattle.rewriting.proofs.Relations.{Join, Conv, Step, Of}
use Rattle.rewriting.proofs.Finite.{lhs, rhs}
use Rattle.rewriting.proofs.Overlaps.{OverlapsJoin}
use Rattle.rewriting.proofs.PathOrder.{path_solves}
use Rattle.problem.specs.Problem.{Symbol, rank_of}
use Rattle.completion.specs.Decides.{Decides}
use Rattle.completion.proofs.Over.{OverEquations}
use Rattle.completion.proofs.OverRules.{OverRules}
use Rattle.completion.proofs.Deliver.{decides}

-- What must hold of rules, for whatever reason, to deliver them for the equations.
pub record Certificate (Σ : List Symbol) (es : List Pair) (rules : List Rule) : Type 0 where
  -- equations and rules are over the symbols
  pub equations_over : OverEquations Σ es
  pub rules_over : OverRules Σ rules
  -- each rule's left side is above its right, has variables below 16, and is equal to its right by the equations
  pub down : (i : ℕ) → i < length (sides_of rules) → above (rank_of Σ) (lhs (sides_of rules) i) (rhs (sides_of rules) i) ≡ true
  pub low : (i : ℕ) → i < length (sides_of rules) → VarsIn (λ (x : ℕ). x < 16) (lhs (sides_of rules) i)
  pub equal : (i : ℕ) → i < length (sides_of rules) → Conv (Step (Of es)) (lhs (sides_of rules) i) (rhs (sides_of rules) i)
  -- the two sides of each equation, and of each overlap, have a common reduct
  pub equations_join : (i : ℕ) → i < length es → Join (Step (Of (sides_of rules))) (lhs es i) (rhs es i)
  pub overlaps_join : OverlapsJoin (sides_of rules)

pub certificate_decides : (Σ : List Symbol) (es : List Pair) (rules : List Rule) → Certificate Σ es rules → Decides Σ es rules
certificate_decides Σ es rules c =
    decides Σ es rules c.equations_over c.rules_over
    (path_solves (rank_of Σ) es (sides_of rules) c.down c.low c.equal c.equations_join c.overlaps_join)
