-- `read_equations`: the invariant is that the equations before i are read; the bytes to come fall. Assumes nothing.
-- Read first: specs/Loads (IsEquations), items/proofs/Walking (Walked).
use mathlib.Core.Path.{◌≡◌}
use mathlib.Core.List.{List}
use mathlib.Core.Option.{Option}
use lib.ListN.{length}
use Prim.Native.Nat.{◌-◌}
use Rattle.limits.specs.Limits.{most_equations}
use Rattle.terms.specs.Term.{Pair}
use Rattle.reading.specs.Answers.{symbols_of}
use Rattle.items.proofs.Walking.{Walked}
use Rattle.checkpoint.specs.Checkpoint.{read_equation}
use Rattle.loading.proofs.read_equations.Given as goal

abbrev pub invariant-loop-i : goal.invariant-loop-i
invariant-loop-i l =
    (es : List Pair) × (last : Option Pair) × (length es ≡ l.count)
    × Walked 0x03 (λ _ f. read_equation (symbols_of l.table) f) most_equations l.saved l.at es last l.i

abbrev pub decreases-loop-i : goal.decreases-loop-i
decreases-loop-i l = length l.saved - l.i
