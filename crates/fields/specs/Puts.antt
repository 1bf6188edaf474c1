-- Bytes put at a place of a buffer, and a field of a tag and contents. Assumes nothing.
use Rattle.std.specs.Prelude.{◌≡◌, List, ◌++◌, ℕ, ◌+◌, ◌*◌, ◌≤◌, length, take, drop}
use Rattle.terms.specs.Base.{Field}

-- the list d with p from place `at` on
unfoldable pub patched : ℕ → List ℕ → List ℕ → List ℕ
patched at p d = take at d ++ (p ++ drop (at + length p) d)

-- the n bytes ys stand at the place `at`, all else is as it was, and r is the place behind them
pub record Puts (before : List ℕ) (at n : ℕ) (ys after : List ℕ) (r : ℕ) : Type 0 where
  pub bytes : after ≡ patched at ys before
  pub counted : length ys ≡ n
  pub next : r ≡ at + n

-- the same of k fields, each of at most `most` bytes
pub record PutsSome (most : ℕ) (before : List ℕ) (at k : ℕ) (ys after : List ℕ) (r : ℕ) : Type 0 where
  pub puts : Puts before at (length ys) ys after r
  pub room : r ≤ at + most * k

abbrev pub tagged : ℕ → List ℕ → Field
tagged tag contents = record { tag = tag; contents = contents }
