-- `ranked`: the invariant is that the first k symbols are right, so that the whole is what is read from the rest. Assumes nothing.
-- Read first: specs/Answers (check_symbols, IsRanked), proofs/Tables.
use Rattle.reading.specs.Answers.{check_symbols}
use lib.ListN.{drop}
use Prim.Native.Nat.{ℕ, ◌+◌}
use mathlib.Core.Path.{◌≡◌}
use Rattle.reading.proofs.ranked.Given as goal

abbrev pub invariant-loop-k : goal.invariant-loop-k
invariant-loop-k l = (at : ℕ) → check_symbols (at + (l.k + l.k)) (drop (l.k + l.k) l.table) ≡ check_symbols at l.table
