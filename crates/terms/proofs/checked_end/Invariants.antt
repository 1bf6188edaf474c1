-- `terms::checked_end` meets its contract. Assumes nothing.
-- Read first: specs/Owed, proofs/Scans, proofs/Owing.
use Rattle.terms.specs.Scan.{scan}
use Rattle.terms.specs.Owed.{Counted, Tested}
use lib.ListN.{length, drop}
use Prim.Native.Nat.{◌+◌, ◌*◌, ◌-◌, ◌≤◌}
use mathlib.Core.Path.{◌≡◌}
use Rattle.terms.proofs.checked_end.Given as goal

abbrev pub invariant-loop-i : goal.invariant-loop-i
invariant-loop-i l =
    Counted l.table (drop l.at l.t) (l.i - l.at) l.owed × Tested l.table (drop l.at l.t) (l.i - l.at)
    × (l.at ≤ l.i) × (l.i ≤ length l.t) × (l.owed ≤ 1 + 256 * l.i) × (scan l.table (drop l.i l.t) l.i l.owed ≡ scan l.table (drop l.at l.t) l.at 1)
