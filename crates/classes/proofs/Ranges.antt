-- A property of all numbers in a range, and of the number next to it. Assumes nothing.
-- Read first: nothing.
use mathlib.Core.Path.{◌≡◌, subst}
use Prim.Native.Nat.{ℕ, ◌+◌, ◌-◌, ◌≤◌, ◌<◌}
use native.Mathlib.Omega.{arith}
use native.Mathlib.Decide.{dec_lt}

-- upwards
pub below_more : (P : ℕ → Type 0) (n : ℕ) → ((i : ℕ) → i < n → P i) → P n → (i : ℕ) → i < n + 1 → P i
below_more P n f p i h = go (dec_lt i n)
  where
    go : Dec (i < n) → P i
    go (yes l) = f i l
    go (no l) = let e : n ≡ i = omega arith in subst P e p

-- downwards
pub from_less : (P : ℕ → Type 0) (i n : ℕ) → ((j : ℕ) → i ≤ j → j < n → P j) → P (i - 1) → (j : ℕ) → i - 1 ≤ j → j < n → P j
from_less P i n f p j h k = go (dec_lt j i)
  where
    go : Dec (j < i) → P j
    go (yes l) = let e : i - 1 ≡ j = omega arith in subst P e p
    go (no l) = f j (omega arith) k
