-- What the overlap of two stored rules answers. Assumes nothing.
use Rattle.std.specs.Prelude.{◌≡◌, Bool, true, false, List, ℕ, ◌+◌, ◌<◌, ◌≤◌, ltb, length}
use Rattle.std.proofs.Math.Option.{Option, none, some}
use Rattle.limits.specs.Limits.{most_nodes, most_variables, most_apart, arena_width}
use Rattle.terms.specs.Term.{Term, node, Terms, nil, cons, Pair, size, terms_bytes, renamed, subterm_at}
use Rattle.terms.specs.Flat.{Wfs}
use Rattle.unify.specs.Unify.{Binding, mgu, under}
use Rattle.slots.specs.Slots.{slot, left_length, Sides, PairAt, KeptSlot}
use Rattle.critical_pairs.specs.Placed.{InSlot}
use Rattle.rewriting.specs.Overlap.{Overlap, overlap}
use Rattle.overlaps.specs.declared.Roots.{Roots}
use Rattle.overlaps.specs.declared.Met.{Met}
use Rattle.overlaps.specs.declared.Met.TheVariants.{Nothing, TooLarge, Pair as Met-pair}

-- by what is too large: the peak, the left side, the right side; else the pair, renamed, is in the slot
abbrev pub PairIs : List ℕ → Met → Pair → Bool → Bool → Bool → Type 0
PairIs one r e true b c = r ≡ TooLarge
PairIs one r e false true c = r ≡ TooLarge
PairIs one r e false false true = r ≡ TooLarge
PairIs one r e false false false = (r ≡ Met-pair) × InSlot one e

abbrev pub Says : List ℕ → Met → Option Overlap → Type 0
Says one r none = r ≡ Nothing
Says one r (some v) =
    PairIs one r (renamed v.sides) (ltb most_nodes (size v.peak)) (ltb most_nodes (size v.sides.left)) (ltb most_nodes (size v.sides.right))

-- `solve`: of terms x, y, z, w, where t is the subterm of x at the outer root
abbrev pub four : Term → Term → Term → Term → Terms
four x y z w = cons x (cons y (cons z (cons w nil)))

abbrev pub instances : Term → Term → Term → Option (List Binding) → Option Overlap
instances x z w none = none
instances x z w (some m) = some (record { peak = under m x; sides = record { left = under m z; right = under m w } })

-- the roots stand among the nodes
pub record Within (l : List ℕ) (at : Roots) : Type 0 where
  pub few : length l ≤ arena_width
  pub inner : at.inner < length l
  pub outer : at.outer < length l
  pub left : at.left < length l
  pub right : at.right < length l

pub record SolvesAt (l tab : List ℕ) (at : Roots) (one one' : List ℕ) (r : Met) : Type 0 where
  pub kept : KeptSlot one one'
  pub answer : (x y z w : Term) → Wfs most_apart tab (four x y z w) → l ≡ terms_bytes (four x y z w) →
      at.inner ≡ size x → at.left ≡ at.inner + size y → at.right ≡ at.left + size z →
      (t : Term) → subterm_at x at.outer ≡ some t → Says one' r (instances x z w (mgu y t))

-- a symbol stands at position p of the term
abbrev pub AtSymbol : Term → ℕ → Type 0
AtSymbol t p = (f : ℕ) × (ts : Terms) × (subterm_at t p ≡ some (node f ts))

-- `meet`
pub record Meets (tab l₁ r₁ l₂ r₂ : List ℕ) (p : ℕ) (one one' : List ℕ) (r : Met) : Type 0 where
  pub kept : KeptSlot one one'
  pub answer : (i o : Pair) → Sides most_variables tab l₁ r₁ i → Sides most_variables tab l₂ r₂ o → AtSymbol o.left p → Says one' r (overlap i o p)

-- `possible`: where it says no there is no overlap, and where it says yes a symbol stands
pub record Possible (tab rules : List ℕ) (inner outer p : ℕ) (r : Bool) : Type 0 where
  pub within : r ≡ true → p < left_length (slot rules outer)
  pub symbol : r ≡ true → (o : Pair) → PairAt most_variables tab rules outer o → AtSymbol o.left p
  pub missing : r ≡ false → (i o : Pair) → PairAt most_variables tab rules inner i → PairAt most_variables tab rules outer o → overlap i o p ≡ none

-- `overlap`: exactly as the definition says
pub record Overlapped (tab rules : List ℕ) (inner outer p : ℕ) (one one' : List ℕ) (r : Met) : Type 0 where
  pub kept : KeptSlot one one'
  pub answer : (i o : Pair) → PairAt most_variables tab rules inner i → PairAt most_variables tab rules outer o → AtSymbol o.left p →
      Says one' r (overlap i o p)
