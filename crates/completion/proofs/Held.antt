-- What is held to the limits: terms and pairs of at most 120 nodes with symbols and variables that have a byte, a rule with its number, the equations of
-- a theory; and what the promise of complete says of a pair. It knows nothing of a run. Assumes nothing.
-- Read first: specs/Keeps (PairKeeps), terms/proofs/Limits.
use mathlib.Core.Path.{◌≡◌, refl}
use mathlib.Core.Logic.{⊎_elim}
use mathlib.Core.List.Memᴰ
use mathlib.Core.List.{List}
use Prim.Native.Nat.{ℕ, ◌≤◌, ◌<◌}
use native.Mathlib.Omega.{arith}
use lib.ListN.{length}
use Rattle.terms.specs.Term.{Term, var, node, Terms, nil, cons, variables, variables_of, Pair, size, pair_variables, renamed}
use Rattle.terms.proofs.Subst.{In, VarsIn}
use Rattle.terms.proofs.Below.{pair_in, in_pair_left, in_pair_right}
use Rattle.terms.proofs.Every.{every_in, every_of}
use Rattle.terms.proofs.Limits.{Made, MadeAll, made_vars, made_with, variables_few, renamed_left_size, renamed_right_size, renamed_left_made}
use Rattle.terms.proofs.Limits.{renamed_right_made}
use Rattle.terms.specs.Base.{Every}
use Rattle.rewriting.specs.Overlap.{Rule}
use Rattle.problem.specs.Problem.{Symbol, Theory}
use Rattle.problem.specs.Over.{Over, OverAll}
use Rattle.problem.proofs.Reading.{has_below}
use Rattle.completion.proofs.Over.{OverPair, OverEquations}
use Rattle.completion.specs.Keeps.{PairKeeps}

-- At most 120 nodes, symbols below n, variables below v.
pub record HeldTo (n v : ℕ) (t : Term) : Type 0 where
  pub small : size t ≤ 120
  pub made : Made (λ f. f < n) (λ x. x < v) t

pub record HeldPair (n v : ℕ) (e : Pair) : Type 0 where
  pub left : HeldTo n v e.left
  pub right : HeldTo n v e.right

-- numbered from 1 on
pub record RuleFits (n made : ℕ) (r : Rule) : Type 0 where
  pub first : 1 ≤ r.number
  pub last : r.number ≤ made
  pub fits : HeldPair n 16 r.sides

-- What the theory of a problem that was accepted has.
pub record Accepted (T : Theory) : Type 0 where
  pub symbols_few : length T.symbols ≤ 16
  pub equations_few : length T.equations ≤ 16
  pub equations_fit : Every (HeldPair (length T.symbols) 16) T.equations
  pub equations_over : OverEquations T.symbols T.equations

-- More variables allowed.
pub held_wide : (n v w : ℕ) → v ≤ w → (t : Term) → HeldTo n v t → HeldTo n w t
held_wide n v w l t h =
    record {
      small = h.small;
      made = made_with _ (λ x. x < v) (λ x. x < w) t h.made
          (λ x i. let k : x < v = made_vars _ (λ x. x < v) t h.made x i in omega arith);
    }

pub pair_wide : (n v w : ℕ) → v ≤ w → (e : Pair) → HeldPair n v e → HeldPair n w e
pair_wide n v w l e h = record { left = held_wide n v w l e.left h.left; right = held_wide n v w l e.right h.right }

-- A renamed pair has variables below the count of its different ones.
pub renamed_held : (n v w : ℕ) (e : Pair) → length (pair_variables e) ≤ w → HeldPair n v e → HeldPair n w (renamed e)
renamed_held n v w e few h =
    record {
      left = record { small = rw renamed_left_size h.left.small; made = renamed_left_made _ (λ x. x < v) w e few h.left.made };
      right = record { small = rw renamed_right_size h.right.small; made = renamed_right_made _ (λ x. x < v) w e few h.right.made };
    }

pub few_variables : (n v : ℕ) (e : Pair) → HeldPair n v e → length (pair_variables e) ≤ v
few_variables n v e h = variables_few v e (made_vars _ (λ x. x < v) e.left h.left.made) (made_vars _ (λ x. x < v) e.right h.right.made)

-- A pair that is held, over the symbols and renamed keeps what the promise of complete says of a pair; and one that keeps it is held.
pub pair_keeps : (Σ : List Symbol) (e : Pair) → HeldPair (length Σ) 16 e → OverPair Σ e → renamed e ≡ e → PairKeeps Σ e
pair_keeps Σ e h o q =
    record {
      left_over = o.0;
      right_over = o.1;
      left_small = h.left.small;
      right_small = h.right.small;
      variables_few = every_of (pair_variables e)
          (λ x i. ⊎_elim (λ j. made_vars _ _ e.left h.left.made x j) (λ j. made_vars _ _ e.right h.right.made x j) (pair_in e x i));
      unchanged = q;
    }

module _ (Σ : List Symbol) (X : ℕ → Type 0) where
  mutual
    unfolding Over Made variables

    over_made : (t : Term) → Over Σ t → VarsIn X t → Made (λ f. f < length Σ) X t
    over_made (var x) o k = k x (Memᴰ.head refl)
    over_made (node f ts) o k = (has_below Σ f o.0, over_made_all ts o.2 k)

    over_made_all : (ts : Terms) → OverAll Σ ts → ((x : ℕ) → In x (variables_of ts) → X x) → MadeAll (λ f. f < length Σ) X ts
    over_made_all nil o k = tt
    over_made_all (cons t ts) o k =
        (over_made t o.0 (λ x i. k x (Memᴰ.append_left (variables_of ts) i)), over_made_all ts o.1 (λ x i. k x (Memᴰ.append_right (variables t) i)))

pub keeps_held : (Σ : List Symbol) (e : Pair) → PairKeeps Σ e → HeldPair (length Σ) 16 e
keeps_held Σ e k =
    record {
      left = record { small = k.left_small; made = over_made Σ _ e.left k.left_over (λ x i. every_in k.variables_few (in_pair_left e x i)) };
      right = record { small = k.right_small; made = over_made Σ _ e.right k.right_over (λ x i. every_in k.variables_few (in_pair_right e x i)) };
    }
