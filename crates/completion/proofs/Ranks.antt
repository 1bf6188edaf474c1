-- The ranks of a problem's symbols are the second bytes of its table. Assumes nothing.
-- Read first: problem/specs/Parser (Table), order/specs/Walk (rank).
use mathlib.Core.Path.{◌≡◌}
use mathlib.Core.List.{List}
use Prim.Native.Nat.{ℕ}
use Rattle.order.specs.Walk.{rank}
use Rattle.problem.specs.Problem.{rank_of}
use Rattle.problem.specs.Parser.{symbols_of, Table}
use Rattle.reading.proofs.Scanned.{rank_is}

pub ranks_are : (tab : List ℕ) → Table tab → rank_of (symbols_of tab) ≡ rank tab
unfolding rank
ranks_are tab T = λ i f. rank_is tab T f i
