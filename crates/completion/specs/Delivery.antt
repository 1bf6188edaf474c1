-- Document 01, "What demand 3 says": the words of the delivery theorem; section 14 of docs/DEFINITION.md. No limit of the engine applies. Assumes nothing.
use Rattle.std.specs.Prelude.{◌≡◌, ◌⊎◌, ℕ, suc}
use mathlib.Core.List.{List, Memᴰ}
use Rattle.std.proofs.Math.Option.{some}
use Rattle.terms.specs.Term.{Term, Pair, subst_term, subterm_at, replace_at}
use Rattle.problem.specs.Problem.{Symbol}
use Rattle.problem.specs.Over.{Over}
use Rattle.rewriting.specs.Overlap.{Rule}

-- "Instance of a rule or equation: each variable replaced by such a term, the same one in both sides." [14.5]
pub record Instance (Σ : List Symbol) (e : Pair) (s t : Term) : Type 0 where
  pub substitution : ℕ → Term
  pub over : (x : ℕ) → Over Σ (substitution x)
  pub left_is : s ≡ subst_term substitution e.left
  pub right_is : t ≡ subst_term substitution e.right

-- s is t but for one node, where s has u and t has v
pub record AtNode (u v s t : Term) : Type 0 where
  pub position : ℕ
  pub there : subterm_at s position ≡ some u
  pub replaced : t ≡ replace_at s position v

-- "one step replaces, at any node, the left side of a rule's instance by its right side" [14.6]
pub record Step (Σ : List Symbol) (rules : List Rule) (s t : Term) : Type 0 where
  pub rule : Rule
  pub is_rule : Memᴰ rule rules
  pub redex : Term
  pub contractum : Term
  pub instance : Instance Σ rule.sides redex contractum
  pub at_node : AtNode redex contractum s t

-- "Replacement of equals by equals: at any node, one side of an equation's instance by the other, in either direction." [14.9]
pub record Replacement (Σ : List Symbol) (equations : List Pair) (s t : Term) : Type 0 where
  pub equation : Pair
  pub is_equation : Memᴰ equation equations
  pub one : Term
  pub other : Term
  pub instance : Instance Σ equation one other ⊎ Instance Σ equation other one
  pub at_node : AtNode one other s t

-- "finitely many steps, none included" [14.8, 14.9]
pub data Many (R : Term → Term → Type 0) : Term → Term → Type 0 where
  stay : {s : Term} → Many R s s
  go : {s t u : Term} → R s t → Many R t u → Many R s u

-- "It ends: no chain of steps is endless." [14.7]
unfoldable pub Ends : List Symbol → List Rule → Type 0
Ends Σ rules = (chain : ℕ → Term) → ((n : ℕ) → Over Σ (chain n)) → ((n : ℕ) → Step Σ rules (chain n) (chain (suc n))) → ⊥

-- "Last term: reached by finitely many steps, none included, and no step leads from it." [14.8]
unfoldable pub Last : List Symbol → List Rule → Term → Term → Type 0
Last Σ rules s t = Many (Step Σ rules) s t × ((u : Term) → Step Σ rules t u → ⊥)
