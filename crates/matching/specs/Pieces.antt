-- A right side's instance in cells: what stands for each byte, and cells put into a buffer. Assumes nothing.
use Rattle.std.specs.Prelude.{◌≡◌, List, [], ◌∷◌, ◌++◌, ℕ, zero, suc, ◌+◌, ◌-◌, ◌/◌, ◌%◌, ◌<◌, ◌≤◌, ltb, length, get_or, drop, take, Option as Optional, Some, None}
use Rattle.limits.specs.Limits.{most_variables, first_variable, cell_base}
use Rattle.std.specs.Prelude.{if◌then◌else◌}

-- an entry of the places: 0, or one more than a place
abbrev pub before : ℕ → Optional ℕ
before zero = None
before (suc k) = Some k

-- the place of a variable's term
unfoldable pub slot_of : List ℕ → ℕ → Optional ℕ
slot_of B b =
    if ltb b first_variable then None else if ltb (b - first_variable) most_variables then before (get_or B (b - first_variable) 0) else None

-- the first cell c of the term at a: at 0 stands the redex, which is not normal
unfoldable pub first_cell : ℕ → ℕ → ℕ
first_cell zero c = c % cell_base
first_cell (suc a) c = c

unfoldable pub piece_at : List ℕ → ℕ → Optional ℕ → List ℕ
piece_at T b None = b ∷ []
piece_at T b (Some a) = first_cell a (get_or T a 0) ∷ take (get_or T a 0 / cell_base - 1) (drop (suc a) T)

-- what stands for the byte b
unfoldable pub piece : List ℕ → List ℕ → ℕ → List ℕ
piece T B b = piece_at T b (slot_of B b)

unfoldable pub pieces : List ℕ → List ℕ → List ℕ → List ℕ
pieces T B [] = []
pieces T B (b ∷ l) = piece T B b ++ pieces T B l

-- the right side's instance, and what follows the redex in T, which ends at `end`
abbrev pub replaced : List ℕ → List ℕ → List ℕ → ℕ → List ℕ
replaced T B right end = pieces T B right ++ drop end T

-- p is put into the buffer at w, and r is the next place; or it would go beyond `most`
pub record PutUpTo (out out' : List ℕ) (w most r : ℕ) (p : List ℕ) : Type 0 where
  pub room : r ≤ most
  pub next : r ≡ w + length p
  pub cells : take r out' ≡ take w out ++ p

abbrev pub IsPut : List ℕ → List ℕ → ℕ → ℕ → List ℕ → Optional ℕ → Type 0
IsPut out out' w most p (Some r) = PutUpTo out out' w most r p
IsPut out out' w most p None = most < w + length p

pub record Put (out out' : List ℕ) (w most : ℕ) (r : Optional ℕ) (p : List ℕ) : Type 0 where
  pub same : length out' ≡ length out
  pub is : IsPut out out' w most p r
