-- The run over a problem whose equations are over its symbols: every rule and every waiting pair is over them too, and the right side of a rule has
-- no variable of its own. Assumes nothing.
-- Read first: proofs/OverRules, proofs/Closed.
use mathlib.Core.Path.{◌≡◌}
use mathlib.Core.Bool.{true}
use mathlib.Core.List.{List}
use Prim.Native.Nat.{ℕ}
use Rattle.terms.specs.Term.{Term, Pair, renamed}
use Rattle.terms.proofs.Every.{every_in}
use Rattle.order.specs.Order.{above}
use Rattle.rewriting.specs.Overlap.{Rule}
use Rattle.rewriting.proofs.Holds.{Reached, reached_star}
use Rattle.rewriting.proofs.Variables.{brings_subst, star_brings}
use Rattle.problem.specs.Problem.{Symbol, rank_of, Theory}
use Rattle.problem.specs.Over.{Over}
use Rattle.completion.specs.Turn.{State}
use Rattle.completion.proofs.Over.{OverPair, OverEquations, over_renamed, over_overlap}
use Rattle.completion.proofs.OverRules.{above_brings, OverRule, OverRules, of_brings, star_stays}
use Rattle.completion.proofs.Reachable.{Reachable}
use Rattle.completion.proofs.Closed.{Closed, reachable_has}

module _ (Σ : List Symbol) where
  reached_over : (rules : List Rule) → OverRules Σ rules → (t u : Term) → Reached rules t u → Over Σ t → Over Σ u
  reached_over rules h t u s o = star_stays Σ rules h (reached_star s) o

  renamed_rule : (rank : ℕ → ℕ) (e : Pair) → OverPair Σ e → above rank e.left e.right ≡ true → OverRule Σ (renamed e)
  unfolding renamed
  renamed_rule rank e o a = record { over = over_renamed Σ e o; brings = brings_subst _ e.left e.right (above_brings rank e.left e.right a) }

  module _ (T : Theory) (given : OverEquations Σ T.equations) where
    pub over_closed : Closed T (OverRule Σ) (OverPair Σ) (OverPair Σ)
    over_closed =
        record {
          given = λ e i. over_renamed Σ e (every_in given i);
          taken = λ e o. o;
          overlapped = λ inner outer p o e small a b. over_renamed Σ o.sides (over_overlap Σ inner outer p o e a.over b.over).1;
          rewritten = λ rules h e f l r o. (reached_over rules h e.left f.left l o.0, reached_over rules h e.right f.right r o.1);
          turned = λ e o. (o.1, o.0);
          oriented = λ e o few a. renamed_rule (rank_of T.symbols) e o a;
          composed = λ rules h e r s o.
              record {
                over = (o.over.0, reached_over rules h e.right r s o.over.1);
                brings = λ x i. o.brings x (star_brings (of_brings Σ rules h) (reached_star s) x i);
              };
          put_off = λ e o. o.over;
          put_again = λ e o few. over_renamed Σ e o;
        }

    -- All rules of every state of a run.
    pub reachable_over : {s : State} → Reachable T s → OverRules Σ s.rules
    reachable_over r = (reachable_has T (OverRule Σ) (OverPair Σ) (OverPair Σ) over_closed r).rules
