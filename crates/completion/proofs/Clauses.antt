-- Document 01, "The path order": the three clauses word for word, for terms over a problem's symbols. Both arguments lists of clause 3 are as long as
-- their symbol's arity says, so `above` makes no test of that. Assumes nothing.
-- Read first: order/proofs/Clauses, problem/specs/Over.
use mathlib.Core.Path.{◌≡◌, refl, sym, ap, ◌∙◌}
use mathlib.Core.Bool.{Bool, true, false, ◌&&◌, ◌||◌}
use mathlib.Core.List.{List}
use Prim.Native.Nat.{ℕ}
use lib.Dec.{eqb, ltb}
use Rattle.terms.specs.Term.{Terms, node}
use Rattle.terms.proofs.Shape.{Says, eqb_says}
use Rattle.order.specs.Order.{above, some_reaches, first_above}
use Rattle.order.specs.Walk.{all_above}
use Rattle.order.proofs.Clauses.{clauses, differ_above, first_differ, count_len}
use Rattle.problem.specs.Problem.{Symbol, arity_of}
use Rattle.problem.specs.Over.{Over}

module _ (rank : ℕ → ℕ) (Σ : List Symbol) where
  -- clause 3: with the same root symbol there are as many arguments
  third : (f g : ℕ) (ss ts : Terms) → Over Σ (node f ss) → Over Σ (node g ts) → (b : Bool) → Says (f ≡ g) b → (every : Bool) →
      (b && every && first_above rank ss ts) ≡ (b && every && differ_above rank ss ts)
  unfolding Over
  third f g ss ts o p true e every = ap (λ d. every && d) (first_differ rank (count_len ss ts (o.1 ∙ ap (arity_of Σ) e ∙ sym p.1)))
  third f g ss ts o p false n every = refl

  pub over_clauses : (f g : ℕ) (ss ts : Terms) → Over Σ (node f ss) → Over Σ (node g ts) →
      above rank (node f ss) (node g ts) ≡
      -- 1. "some argument equals t or is above t"
      (some_reaches rank ss (node g ts)
      -- 2. "that of s has the higher rank, and s is above every argument of t"
      || ltb (rank g) (rank f) && all_above rank (node f ss) ts
      -- 3. "the same root symbol, s is above every argument of t, and at the first argument where they differ that of s is above that of t"
      || eqb f g && all_above rank (node f ss) ts && differ_above rank ss ts)
  over_clauses f g ss ts o p =
      clauses rank f g ss ts
      ∙ ap (λ b. some_reaches rank ss (node g ts) || ltb (rank g) (rank f) && all_above rank (node f ss) ts || b)
      (third f g ss ts o p (eqb f g) (eqb_says f g) (all_above rank (node f ss) ts))
