-- Bytes written into a list. Assumes nothing.
use Rattle.std.specs.Prelude.{◌≡◌, List, [], ◌∷◌, ℕ, zero, suc, ◌+◌, ◌<◌, ◌≤◌, length}
use Rattle.std.proofs.lemmas.List.Edits.{sets}
use Rattle.limits.specs.Limits.{most_nodes, two_byte_values}
use Rattle.terms.specs.Base.{Every}
use Rattle.terms.specs.Term.{Term, size, term_bytes}
use Rattle.classes.specs.Arena.{Arena, Spells}
use Rattle.classes.specs.Steps.{at}

-- from place `to` on
unfoldable pub put : ℕ → List ℕ → List ℕ → List ℕ
put to bs d = sets d to bs

-- the k nodes that stand one after the other from p on, by the nodes' ends
unfoldable pub hops : List ℕ → ℕ → ℕ → List ℕ
hops ends p zero = []
hops ends p (suc k) = p ∷ hops ends (at ends p) k

abbrev pub HopsWithin : List ℕ → ℕ → ℕ → Type 0
HopsWithin ends p k = Every (λ q. (q < length ends) × (q < two_byte_values)) (hops ends p k)

-- there is room for the term that is spelt at node p
abbrev pub RoomFor : Arena → (ℕ → ℕ) → ℕ → ℕ → List ℕ → Type 0
RoomFor A c p to d = (u : Term) × Spells A c p u × (size u ≤ most_nodes) × (to + size u ≤ length d)

-- it was written into d, which is now e, and r is where it ends
pub record WritesTerm (A : Arena) (c : ℕ → ℕ) (p to : ℕ) (d : List ℕ) (r : ℕ) (e : List ℕ) : Type 0 where
  pub ends : (u : Term) → Spells A c p u → r ≡ to + size u
  pub bytes : (u : Term) → Spells A c p u → e ≡ put to (term_bytes u) d
  pub long : length e ≡ length d
