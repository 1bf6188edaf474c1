-- The pair of two instances, renamed, in a slot of its own, where the sizes allow it. Assumes nothing.
use Rattle.std.specs.Prelude.{◌≡◌, Bool, true, false, List, ℕ, ◌<◌, ◌≤◌, ltb, length}
use Rattle.limits.specs.Limits.{most_nodes, variables_end}
use Rattle.terms.specs.Term.{Term, Pair, size, term_bytes, renamed}
use Rattle.classes.specs.Arena.{Arena, Spells}
use Rattle.classes.specs.Steps.{at}
use Rattle.slots.specs.Slots.{slot, left_of, right_of, KeptSlot}

-- variables below 32
abbrev pub VariablesLow : List ℕ → Type 0
VariablesLow l = (i : ℕ) → i < length l → at l i < variables_end

-- the two sides of a pair are those of the first slot
abbrev pub InSlot : List ℕ → Pair → Type 0
InSlot one e = (left_of (slot one 0) ≡ term_bytes e.left) × (right_of (slot one 0) ≡ term_bytes e.right)

-- `put_pair`
abbrev pub BothSmall : Arena → (ℕ → ℕ) → ℕ → ℕ → Type 0
BothSmall A c a b = (y : Term) × (z : Term) × Spells A c a y × Spells A c b z × (size y ≤ most_nodes) × (size z ≤ most_nodes)

pub record PutPair (A : Arena) (c : ℕ → ℕ) (a b : ℕ) (one one' : List ℕ) : Type 0 where
  pub kept : KeptSlot one one'
  pub bytes : (y z : Term) → Spells A c a y → Spells A c b z → InSlot one' (renamed (record { left = y; right = z }))

-- `place`: by what is too large, the peak, the left side, the right side; else the pair of y and z, renamed, stands in the slot
abbrev pub PlacedIf : List ℕ → Bool → Term → Term → Bool → Bool → Bool → Type 0
PlacedIf one r y z true b c = r ≡ false
PlacedIf one r y z false true c = r ≡ false
PlacedIf one r y z false false true = r ≡ false
PlacedIf one r y z false false false = (r ≡ true) × InSlot one (renamed (record { left = y; right = z }))

pub record PairPlaced (A : Arena) (c : ℕ → ℕ) (a b : ℕ) (one one' : List ℕ) (r : Bool) : Type 0 where
  pub kept : KeptSlot one one'
  pub answer : (x y z : Term) → Spells A c 0 x → Spells A c a y → Spells A c b z →
      PlacedIf one' r y z (ltb most_nodes (size x)) (ltb most_nodes (size y)) (ltb most_nodes (size z))
