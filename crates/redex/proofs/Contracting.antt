-- `contract_at` by its returns. Assumes nothing.
-- Read first: specs/Contraction (ContractedAt), matching/specs/Pieces (Put), proofs/Parts (back).
use mathlib.Core.Path.{◌≡◌, refl, sym, ◌∙◌, ap, subst₂}
use mathlib.Core.List.{List, ◌++◌}
use Prim.Native.Nat.{ℕ, ◌+◌, ◌-◌, ◌/◌, ◌<◌, ◌≤◌}
use native.Mathlib.Omega.{arith}
use lib.ListN.{length, get_or, take, drop}
use Rattle.limits.specs.Limits.{most_nodes, cell_base}
use Rattle.terms.proofs.Starts.{from, from_drop}
use Rattle.std.specs.Prelude.{Option as Optional, Some, None}
use Rattle.matching.specs.Pieces.{Put, replaced}
use Rattle.redex.specs.Contraction.{ContractedAt}
use Rattle.redex.proofs.Parts.{back, back_length, back_take}

-- the term at `at` does not end in the first `len` cells
pub contract_cut : {t : List ℕ} {len at : ℕ} {right B : List ℕ} {n : ℕ} → n ≡ get_or t at 0 / cell_base → len - at < n → at < len →
    ContractedAt t len at right B t None
contract_cut e h l = record { same = refl; small = tt; put = λ f. absurd (omega arith) }

-- the cells from `at` on were lent and came back as Q, and r was answered
pub record CameBack (t : List ℕ) (len at : ℕ) (right B Q : List ℕ) (r : Optional ℕ) : Type 0 where
  pub long : length t ≡ most_nodes
  pub below : at < most_nodes
  pub put : Put (drop at t) Q 0 (most_nodes - at) r (replaced (take (len - at) (drop at t)) B right (get_or t at 0 / cell_base))

pub came_back : {t : List ℕ} {len at : ℕ} {right B Q : List ℕ} {n : ℕ} {r : Optional ℕ} → (at < len) × (len ≤ most_nodes) × (length t ≡ most_nodes) →
    Put (from t at) Q 0 (most_nodes - at) r (replaced (take (len - at) (from t at)) B right n) → n ≡ get_or t at 0 / cell_base →
    CameBack t len at right B Q r
came_back {t} {len} {at} {right} {B} {Q} {r = r} p h e = record {
  long = p.2;
  below = omega arith;
  put = subst₂ (λ l n. Put l Q 0 (most_nodes - at) r (replaced (take (len - at) l) B right n)) (from_drop t at) e h;
}

in_range : {t : List ℕ} {len at : ℕ} {right B Q : List ℕ} {r : Optional ℕ} → CameBack t len at right B Q r → at ≤ length t
in_range g = let l = g.long in let b = g.below in omega arith

pub contract_long : {t : List ℕ} {len at : ℕ} {right B Q : List ℕ} {r : Optional ℕ} → CameBack t len at right B Q r → length (back at t Q) ≡ length t
contract_long {t} {at = at} {Q = Q} g = back_length at t Q (in_range g) (g.put.same ∙ sym (ap length (from_drop t at)))

pub contract_over : {t : List ℕ} {len at : ℕ} {right B Q : List ℕ} → CameBack t len at right B Q None → ContractedAt t len at right B (back at t Q) None
contract_over g = record {
  same = contract_long g;
  small = tt;
  put = λ f. record { same = contract_long g; is = let o = g.put.is in let b = g.below in omega arith };
}

pub contract_done : {t : List ℕ} {len at w : ℕ} {right B Q : List ℕ} → CameBack t len at right B Q (Some w) →
    ContractedAt t len at right B (back at t Q) (Some (at + w))
contract_done {t} {at = at} {w = w} {Q = Q} g = record {
  same = contract_long g;
  small = let o = g.put.is.room in let b = g.below in omega arith;
  put = λ f. record {
    same = contract_long g;
    is = record {
      room = let o = g.put.is.room in let b = g.below in omega arith;
      next = let n = g.put.is.next in omega arith;
      cells =
          let e : at + w ≡ w + at = omega arith in
          ap (λ j. take j (back at t Q)) e ∙ back_take at w t Q (in_range g) ∙ ap (λ q. take at t ++ q) g.put.is.cells;
    };
  };
}
