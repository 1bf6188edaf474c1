-- What the walk over two terms that looks for a clash answers. Assumes nothing.
use Rattle.std.specs.Prelude.{◌≡◌, Bool, true, false, List, ℕ, ◌+◌, ◌<◌, get_or, drop}
use Rattle.limits.specs.Limits.{first_variable, most_apart}
use Rattle.terms.specs.Term.{Term, term_bytes, subst_term}
use Rattle.terms.specs.Scan.{skip}
use Rattle.terms.specs.Flat.{Wf, Starts}

-- `differ`: the bytes a and b are two different symbols
abbrev pub Differ : ℕ → ℕ → Bool → Type 0
Differ a b true = (a < first_variable) × (b < first_variable) × (a ≡ b → ⊥)
Differ a b false = Unit {0}

-- `past`: from i of t one byte on where b stands there, else to the end of the subterm there
pub record Past (tab t : List ℕ) (i b r : ℕ) : Type 0 where
  pub same : get_or t i 0 ≡ b → r ≡ i + 1
  pub other : (get_or t i 0 ≡ b → ⊥) → r ≡ i + skip tab (drop i t) 1
  pub on : i < r

-- `clash`: where r is true, the term with the bytes s and the term that stands at p in t have no common instance
abbrev pub NeverOne : Term → Term → Type 0
NeverOne x y = (σ τ : ℕ → Term) → subst_term σ x ≡ subst_term τ y → ⊥

pub record Clashing (tab s t : List ℕ) (p : ℕ) (r : Bool) : Type 0 where
  pub never : r ≡ true → (x y : Term) → Wf most_apart tab x → s ≡ term_bytes x → Starts tab (drop p t) y → NeverOne x y
