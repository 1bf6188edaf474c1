-- `read_entries`: the invariant is that the entries before i are read, each of this kind; the bytes to come fall. Assumes nothing.
-- Read first: specs/Readers (IsEntries), proofs/Walking (Walked).
use mathlib.Core.Path.{◌≡◌}
use mathlib.Core.List.{List}
use mathlib.Core.Option.{Option}
use lib.ListN.{length}
use Prim.Native.Nat.{ℕ, ◌-◌}
use Rattle.limits.specs.Limits.{most_entries}
use Rattle.items.specs.Fields.{read_kind}
use Rattle.items.proofs.Walking.{Walked}
use Rattle.items.proofs.read_entries.Given as goal

abbrev pub invariant-loop-i : goal.invariant-loop-i
invariant-loop-i l =
    (kinds : List ℕ) × (last : Option ℕ) × (length kinds ≡ l.count) × Walked 0x13 (λ _ f. read_kind f) most_entries l.kept l.at kinds last l.i

abbrev pub decreases-loop-i : goal.decreases-loop-i
decreases-loop-i l = length l.kept - l.i
