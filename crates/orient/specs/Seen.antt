-- A set of numbers below 32 as the bits of a number, and the variables in bytes as such a set. Assumes nothing.
use Rattle.std.specs.Prelude.{◌≡◌, ◌⊎◌, ℕ, zero, suc, ◌+◌, ◌/◌, ◌%◌, ◌^◌, ◌<◌, ◌≤◌, length}
use mathlib.Core.List.{List, ◌++◌, Memᴰ}
use Rattle.limits.specs.Limits.{most_apart, first_variable, variables_end}
use Rattle.terms.specs.Term.{Pair, term_bytes, pair_variables}
use Rattle.terms.specs.Flat.{Wf}

unfoldable pub bit : ℕ → ℕ → ℕ
bit zero m = m % 2
bit (suc i) m = bit i (m / 2)

abbrev pub Has : ℕ → ℕ → Type 0
Has m i = bit i m ≡ 1

-- m₁ is m with the variables of the bytes l; a byte above all variables fills the set
pub record Seen (l : List ℕ) (m m₁ : ℕ) : Type 0 where
  pub small : m₁ < 2 ^ 32
  pub kept : (i : ℕ) → i < most_apart → Has m i → Has m₁ i
  pub seen : (i : ℕ) → i < most_apart → Memᴰ (first_variable + i) l → Has m₁ i
  pub filled : (b : ℕ) → variables_end ≤ b → Memᴰ b l → (i : ℕ) → i < most_apart → Has m₁ i
  pub only : ((b : ℕ) → Memᴰ b l → b < variables_end) → (i : ℕ) → i < most_apart → Has m₁ i → Has m i ⊎ Memᴰ (first_variable + i) l

-- the count of the different variables in two sides
pub record Counted (left right : List ℕ) (r : ℕ) : Type 0 where
  pub counts : (tab : List ℕ) (e : Pair) → Wf most_apart tab e.left → Wf most_apart tab e.right → left ≡ term_bytes e.left →
      right ≡ term_bytes e.right → r ≡ length (pair_variables e)
  pub low : r < most_apart → (b : ℕ) → Memᴰ b (left ++ right) → b < variables_end
