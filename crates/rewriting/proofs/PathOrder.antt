-- The path order is a reduction order, so rules that go down in it and whose overlaps join solve the equations. Assumes nothing.
-- Read first: proofs/Order, proofs/Overlaps, order/proofs/Closure.
use mathlib.Core.Path.{◌≡◌}
use mathlib.Core.Bool.{true}
use mathlib.Core.List.{List}
use Prim.Native.Nat.{ℕ, ◌<◌}
use lib.ListN.{length}
use Rattle.terms.specs.Term.{Term, Pair}
use Rattle.terms.proofs.Subst.{VarsIn}
use Rattle.order.proofs.PathOrder.{Above, by_arg, by_rank, by_lex}
use Rattle.order.specs.Order.{above}
use Rattle.order.proofs.WellFounded.{above_acc}
use Rattle.order.proofs.Closure.{above_subst, above_plug, above_vars}
use Rattle.order.proofs.Decide.{above_dec}
use Rattle.rewriting.proofs.Relations.{Join, Conv, Step, Of, Solves}
use Rattle.rewriting.proofs.Order.{ReductionOrder}
use Rattle.rewriting.proofs.Finite.{lhs, rhs, IsNode, is_node}
use Rattle.rewriting.proofs.Overlaps.{settled_solves, OverlapsJoin}

pub above_order : (rank : ℕ → ℕ) → ReductionOrder (Above rank)
above_order rank = record { founded = above_acc rank; on_subst = λ σ t u a. above_subst rank σ a; on_plug = λ c t u a. above_plug rank c a }

-- What is above another term is no variable.
pub above_is_node : (rank : ℕ → ℕ) {s t : Term} → Above rank s t → IsNode s
above_is_node rank (by_arg {f = f} {ss = ss} w) = is_node f ss
above_is_node rank (by_rank {f = f} {ss = ss} lt all) = is_node f ss
above_is_node rank (by_lex {f = f} {ss = ss} all x) = is_node f ss

-- The whole theorem over the executable definitions: pairs `rs` whose left sides are above their right sides, each an equality of `es`, that
-- join the pairs of `es` and all the sides that `overlap` finds, solve `es`.
pub path_solves : (rank : ℕ → ℕ) (es rs : List Pair) →
    ((i : ℕ) → i < length rs → above rank (lhs rs i) (rhs rs i) ≡ true) →
    ((i : ℕ) → i < length rs → VarsIn (λ (x : ℕ). x < 16) (lhs rs i)) →
    ((i : ℕ) → i < length rs → Conv (Step (Of es)) (lhs rs i) (rhs rs i)) →
    ((i : ℕ) → i < length es → Join (Step (Of rs)) (lhs es i) (rhs es i)) →
    OverlapsJoin rs →
    Solves (Of es) (Of rs)
path_solves rank es rs down low sound complete overlaps =
    let goes : (i : ℕ) → i < length rs → Above rank (lhs rs i) (rhs rs i) = λ i h. (above_dec rank (lhs rs i) (rhs rs i)).0 (down i h) in
    settled_solves (above_order rank)
    (record {
      down = goes;
      nodes = λ i h. above_is_node rank (goes i h);
      vars = λ i h x o. above_vars rank (goes i h) o;
      low = low;
      sound = sound;
      complete = complete;
    })
    overlaps
