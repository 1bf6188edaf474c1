-- `terms::term_end` meets its contract. Assumes nothing.
-- Read first: specs/Owed, proofs/Scans, proofs/Owing.
use Rattle.terms.specs.Scan.{skip}
use Rattle.terms.specs.Owed.{Counted}
use lib.ListN.{length, drop}
use Prim.Native.Nat.{◌+◌, ◌*◌, ◌-◌, ◌≤◌}
use mathlib.Core.Path.{◌≡◌}
use Rattle.terms.proofs.term_end.Given as goal

abbrev pub invariant-loop-i : goal.invariant-loop-i
invariant-loop-i l =
    Counted l.table (drop l.at l.t) (l.i - l.at) l.owed
    × (l.at ≤ l.i) × (l.i ≤ length l.t) × (l.owed ≤ 1 + 256 * l.i) × (l.i + skip l.table (drop l.i l.t) l.owed ≡ l.at + skip l.table (drop l.at l.t) 1)
