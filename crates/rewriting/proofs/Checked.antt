-- What a completion engine checks of its rules at the end, and what follows: the rules decide the equations. Assumes nothing.
-- Read first: proofs/Finite, proofs/Order, proofs/Converge.
use mathlib.Core.Path.{◌≡◌, refl, sym, ap, subst, subst₂}
use mathlib.Core.List.{List, [], ◌∷◌}
use Prim.Native.Nat.{ℕ, ◌<◌}
use lib.ListN.{length}
use Rattle.terms.specs.Term.{Term, size, variables, Pair}
use Rattle.terms.proofs.Subst.{In, VarsIn}
use Rattle.terms.proofs.Places.{place}
use Rattle.rewriting.specs.Overlap.{Rule, sides_of}
use Rattle.rewriting.proofs.Relations.{Join, Conv, Ends, LocallyConfluent, Step, Of, Solves}
use Rattle.rewriting.proofs.Abstract.{Reducible?}
use Rattle.rewriting.proofs.Critical.{PairDone, pair_peak}
use Rattle.rewriting.proofs.Finite.{lhs, rhs, IsNode, stands, finite_critical_pairs}
use Rattle.rewriting.proofs.Order.{ReductionOrder, order_ends}
use Rattle.rewriting.proofs.Converge.{solves}
use Rattle.rewriting.proofs.Stepping.{step_reducible}

-- Reducibility by a list of pairs is decided, by `step`.
as_rules : List Pair → List Rule
as_rules [] = []
as_rules (e ∷ es) = record { number = 0; sides = e } ∷ as_rules es

sides_as_rules : (es : List Pair) → sides_of (as_rules es) ≡ es
unfolding as_rules
sides_as_rules [] = refl
sides_as_rules (e ∷ es) = ap (λ l. e ∷ l) (sides_as_rules es)

pub reducible : (es : List Pair) → Reducible? (Step (Of es))
reducible es = subst (λ l. Reducible? (Step (Of l))) (sides_as_rules es) (step_reducible (as_rules es))

-- The rules `rs` for the equations `es`, below the order `gt`, with every variable below `k`.
pub record Founded (gt : Term → Term → Type 0) (k : ℕ) (es rs : List Pair) : Type 0 where
  -- each rule goes down, its left side is no variable, and its right side has no variables of its own
  pub down : (i : ℕ) → i < length rs → gt (lhs rs i) (rhs rs i)
  pub nodes : (i : ℕ) → i < length rs → IsNode (lhs rs i)
  pub vars : (i : ℕ) → i < length rs → VarsIn (λ x. In x (variables (lhs rs i))) (rhs rs i)
  pub low : (i : ℕ) → i < length rs → VarsIn (λ (x : ℕ). x < k) (lhs rs i)
  -- each rule is an equality of the equations, and each equation is joined by the rules
  pub sound : (i : ℕ) → i < length rs → Conv (Step (Of es)) (lhs rs i) (rhs rs i)
  pub complete : (i : ℕ) → i < length es → Join (Step (Of rs)) (lhs es i) (rhs es i)

-- Each critical pair is joined: of the rule `i` at the place `n` of the rule `j`; at the root only where `i` is before `j`.
abbrev pub PairsDone : ℕ → List Pair → Type 0
PairsDone k rs =
    (i j n : ℕ) → i < length rs → j < length rs → (h : n < size (lhs rs j)) → (n ≡ 0 → i < j) → IsNode (place (lhs rs j) n h).s →
    PairDone (Of rs) k (lhs rs i) (rhs rs i) (rhs rs j) (place (lhs rs j) n h).c (place (lhs rs j) n h).s

module _ {gt : Term → Term → Type 0} {k : ℕ} {es rs : List Pair} (order : ReductionOrder gt) (v : Founded gt k es rs) (pairs : PairsDone k rs) where
  low_right : (i : ℕ) → i < length rs → VarsIn (λ (x : ℕ). x < k) (rhs rs i)
  low_right i h = λ x o. v.low i h x (v.vars i h x o)

  pub checked_local : LocallyConfluent (Step (Of rs))
  checked_local =
      finite_critical_pairs rs v.nodes v.vars
      (λ i j n hi hj h o q.
      pair_peak (Of rs) k (lhs rs i) (rhs rs i) (lhs rs j) (rhs rs j) (place (lhs rs j) n h).c (place (lhs rs j) n h).s (place (lhs rs j) n h).whole
      (v.low j hj) (low_right j hj) (pairs i j n hi hj h o q))

  pub checked_ends : Ends (Step (Of rs))
  checked_ends =
      order_ends order (λ l r m.
      let a = stands l r m in
      subst₂ gt (sym a.is_l) (sym a.is_r) (v.down a.i a.below))

  -- The whole theorem.
  pub checked_solves : Solves (Of es) (Of rs)
  checked_solves =
      solves checked_ends (reducible rs) checked_local
      (λ l r m. let a = stands l r m in subst₂ (Conv (Step (Of es))) (sym a.is_l) (sym a.is_r) (v.sound a.i a.below))
      (λ l r m. let a = stands l r m in subst₂ (Join (Step (Of rs))) (sym a.is_l) (sym a.is_r) (v.complete a.i a.below))
