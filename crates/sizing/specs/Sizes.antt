-- What the steps that find the sizes of the instances answer. Assumes nothing.
use Rattle.std.specs.Prelude.{◌≡◌, Bool, true, false, List, ℕ, suc, ◌+◌, ◌<◌, ◌≤◌, min, length, Option, Some, None}
use Rattle.limits.specs.Limits.{first_variable, most_nodes}
use Rattle.terms.specs.Term.{Term, Terms, size, sizes}
use Rattle.classes.specs.Arena.{Arena, Spells, SpellsAll, Among, Descends}
use Rattle.classes.specs.Steps.{at, arena, Ready}
use Rattle.classes.specs.declared.arena.Arena.{Arena as Lent}

-- any size above the limit: 121
abbrev pub too_large : ℕ
too_large = most_nodes + 1

abbrev pub cap : ℕ → ℕ
cap n = min n too_large

-- the sizes known so far, 0 where none is
abbrev pub Measured : Arena → (ℕ → ℕ) → (ℕ → ℕ) → Type 0
Measured A c z = (i : ℕ) → i < A.nodes → (z i ≡ 0 → ⊥) → (u : Term) × Spells A c i u × (z i ≡ cap (size u))

pub record Sized (l tab ends cs zs : List ℕ) : Type 0 where
  pub ready : Ready l tab ends cs
  pub long : length l ≤ length zs
  pub measured : Measured (arena l tab ends) (at cs) (at zs)

abbrev pub Unknown : (ℕ → ℕ) → ℕ → Type 0
Unknown z i = z i ≡ 0

-- one more than the sizes of k arguments from a on, or one of them is not known
abbrev pub Total : Arena → (ℕ → ℕ) → (ℕ → ℕ) → ℕ → ℕ → Option ℕ → Type 0
Total A c z a k None = Among A (Unknown z) a k
Total A c z a k (Some r) = (us : Terms) × SpellsAll A c a k us × (r ≡ cap (suc (sizes us)))

-- node i can have no size yet
abbrev pub Lacks : Arena → (ℕ → ℕ) → (ℕ → ℕ) → ℕ → Type 0
Lacks A c z i = (A.byte (c i) < first_variable) × Among A (Unknown z) (suc (c i)) (A.arity (A.byte (c i)))

-- the size of node i, or it can have none yet
abbrev pub SizeAt : Arena → (ℕ → ℕ) → (ℕ → ℕ) → ℕ → Option ℕ → Type 0
SizeAt A c z i None = Lacks A c z i
SizeAt A c z i (Some r) = (u : Term) × Spells A c i u × (r ≡ cap (size u))

-- every size is known, or this one is not
abbrev pub SizesKnown : Arena → (ℕ → ℕ) → Bool → Type 0
SizesKnown A z true = (i : ℕ) → i < A.nodes → z i ≡ 0 → ⊥
SizesKnown A z false = (i : ℕ) × (i < A.nodes) × (z i ≡ 0)

-- what `measure` leaves: sizes that are right, each unknown one with an unknown one among its arguments, and whether every one is known
pub record SizedTo (l tab ends cs zs : List ℕ) (r : Bool) : Type 0 where
  pub sized : Sized l tab ends cs zs
  pub descends : Descends (arena l tab ends) (at cs) (Unknown (at zs))
  pub known : SizesKnown (arena l tab ends) (at zs) r

-- the same, of an arena that functions read
abbrev pub SizedIn : Lent → List ℕ → Type 0
SizedIn a zs = Sized a.nodes.now a.table.now a.ends.now a.class.now zs

abbrev pub SizedToIn : Lent → List ℕ → Bool → Type 0
SizedToIn a zs r = SizedTo a.nodes.now a.table.now a.ends.now a.class.now zs r
