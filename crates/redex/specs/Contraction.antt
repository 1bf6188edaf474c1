-- A node of a term in cells that gives way to an instance, with no word of normality, and the sizes of all cells, from back to front. Assumes nothing.
-- Read first: matching/specs/Cells, matching/specs/Pieces (Put, replaced), Marks.
use Rattle.std.specs.Prelude.{◌≡◌, List, [], ◌++◌, ℕ, ◌+◌, ◌-◌, ◌/◌, ◌<◌, ◌≤◌, length, get_or, take, drop, Option as Optional, IfSome}
use Rattle.limits.specs.Limits.{most_nodes, most_apart, cell_base}
use Rattle.terms.specs.Term.{Term, Terms, sizes, count}
use Rattle.terms.specs.Flat.{Wf, Wfs}
use Rattle.matching.specs.Cells.{cells, cells_all}
use Rattle.matching.specs.Pieces.{Put, replaced}
use Rattle.redex.specs.Marks.{Marked}

-- `terms_take`
pub record TermsTake (t : List ℕ) (n r : ℕ) : Type 0 where
  pub within : r ≤ length t
  pub is : (tab : List ℕ) (ts : Terms) (rest : List ℕ) → Wfs most_apart tab ts → count ts ≡ n → t ≡ cells_all ts ++ rest → r ≡ sizes ts

-- `open_places`: ascending places; of a term's cells, of which some subterms' have their sizes, no other is without one
pub record OpenPlaces (t places places' : List ℕ) (r : ℕ) : Type 0 where
  pub same : length places' ≡ length places
  pub few : r ≤ length t
  pub below : (j : ℕ) → j < r → get_or places' j 0 < length t
  pub ascending : (j k : ℕ) → j < k → k < r → get_or places' j 0 < get_or places' k 0
  pub all : (tab : List ℕ) (x : Term) → Wf most_apart tab x → Marked [] t x → (q : ℕ) → q < length t → get_or t q 0 < cell_base →
      (j : ℕ) × (j < r) × (get_or places' j 0 ≡ q)

-- `size_cells`: from a term's cells, of which some subterms' have their sizes (`Marked`, with no word of normality), all of them
pub record CellsSized (tab t t' : List ℕ) : Type 0 where
  pub same : length t' ≡ length t
  pub is : (x : Term) → Wf most_apart tab x → Marked [] t x → t' ≡ cells x

-- `contract_at`: where the term at `at`, by the size in its cell, ends within the first `len` cells, these from `at` on give way to what is put
pub record ContractedAt (t : List ℕ) (len at : ℕ) (right B t' : List ℕ) (r : Optional ℕ) : Type 0 where
  pub same : length t' ≡ length t
  pub small : IfSome r (λ e. e ≤ most_nodes)
  pub put : at + get_or t at 0 / cell_base ≤ len → Put t t' at most_nodes r (replaced (take (len - at) (drop at t)) B right (get_or t at 0 / cell_base))
