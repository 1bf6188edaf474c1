-- What an array of places says of bindings, and what the code's functions answer. Assumes nothing.
use Rattle.std.specs.Prelude.{◌≡◌, Bool, true, false, List, [], ℕ, zero, suc, ◌+◌, ◌-◌, ◌/◌, ◌%◌, ◌<◌, ◌≤◌, length, get_or, Option as Optional, Some, None}
use Rattle.std.proofs.Math.Option.{Option, none, some}
use Rattle.limits.specs.Limits.{most_variables, first_variable, cell_base}
use Rattle.terms.specs.Term.{Term, term_bytes, size}
use Rattle.terms.specs.Flat.{Wf}
use Rattle.unify.specs.Unify.{Binding}
use Rattle.rewriting.specs.Rewrite.{bound, bind_to, matching}
use Rattle.matching.specs.Cells.{Stands}

-- what one of the places says of one variable: 0 that it is free, more that its term stands one before, in a term of n cells
abbrev pub Slot : List ℕ → List ℕ → ℕ → ℕ → Option Term → Type 0
Slot tab T n zero none = Unit {0}
Slot tab T n zero (some u) = ⊥
Slot tab T n (suc k) none = ⊥
Slot tab T n (suc k) (some u) = Stands tab T n k u

-- the places B hold the bindings
abbrev pub Rep : List ℕ → List ℕ → ℕ → List ℕ → List Binding → Type 0
Rep tab T n B bs = (x : ℕ) → x < most_variables → Slot tab T n (get_or B x 0) (bound bs x)

-- k is 0, or one more than a place of T whose cell has a size, by which it ends in T
pub record Spot (T : List ℕ) (k : ℕ) : Type 0 where
  pub place : k ≤ length T
  pub sized : (k ≡ 0 → ⊥) → 0 < get_or T (k - 1) 0 / cell_base
  pub inside : (k ≡ 0 → ⊥) → k - 1 + get_or T (k - 1) 0 / cell_base ≤ length T

-- the first entries of B are such
abbrev pub Within : List ℕ → List ℕ → Type 0
Within T B = (x : ℕ) → x < most_variables → Spot T (get_or B x 0)

abbrev pub Cleared : List ℕ → Type 0
Cleared B = (x : ℕ) → x < most_variables → get_or B x 0 ≡ 0

-- what `again` answers
pub record Again (T : List ℕ) (a j : ℕ) (r : Optional ℕ) : Type 0 where
  pub place : (e : ℕ) → r ≡ Some e → e ≤ length T
  pub equal : (tab : List ℕ) (n : ℕ) (u v : Term) → Stands tab T n j u → Stands tab T n a v → v ≡ u → r ≡ Some (j + size u)
  pub other : (tab : List ℕ) (n : ℕ) (u v : Term) → Stands tab T n j u → Stands tab T n a v → (v ≡ u → ⊥) → r ≡ None

-- what `advance` answers
abbrev pub BoundTo : List ℕ → List ℕ → ℕ → ℕ → Term → Optional ℕ → List ℕ → Option (List Binding) → Type 0
BoundTo tab T n j u r B none = r ≡ None
BoundTo tab T n j u r B (some bs) = (r ≡ Some (j + size u)) × Rep tab T n B bs

pub record Advanced (T : List ℕ) (b j : ℕ) (B : List ℕ) (r : Optional ℕ) (B' : List ℕ) : Type 0 where
  pub same : length B' ≡ length B
  pub within : Within T B'
  pub place : (e : ℕ) → r ≡ Some e → e ≤ length T
  pub differs : b < first_variable → r ≡ None → get_or T j 0 % cell_base ≡ b → ⊥
  pub symbol : (e : ℕ) → b < first_variable → r ≡ Some e → (get_or T j 0 % cell_base ≡ b) × (e ≡ j + 1) × (B' ≡ B)
  pub variable : (x : ℕ) → b ≡ first_variable + x → x < most_variables → (tab : List ℕ) (n : ℕ) (u : Term) → Stands tab T n j u → (bs : List Binding) →
      Rep tab T n B bs → BoundTo tab T n j u r B' (bind_to x u bs (bound bs x))

-- what `matches` answers: true exactly where `matching` answers bindings, and the places are those
abbrev pub MatchingIs : List ℕ → List ℕ → ℕ → Bool → List ℕ → Option (List Binding) → Type 0
MatchingIs tab T n r B none = r ≡ false
MatchingIs tab T n r B (some bs) = (r ≡ true) × Rep tab T n B bs

pub record Matched (left T B : List ℕ) (r : Bool) (B' : List ℕ) : Type 0 where
  pub same : length B' ≡ length B
  pub within : Within T B'
  pub answer : (tab : List ℕ) (l x : Term) → Wf most_variables tab l → left ≡ term_bytes l → Stands tab T (size x) 0 x →
      MatchingIs tab T (size x) r B' (matching l x [])
