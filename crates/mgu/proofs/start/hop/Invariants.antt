-- `hop`: over k subterms by their ends; the invariant is that those before q are the first ones. Assumes nothing.
-- Read first: specs/Result (EndsFrom), terms/specs/Scan (skip), proofs/Ending.
use Rattle.terms.specs.Scan.{skip}
use Prim.Native.Nat.{◌+◌, ◌≤◌}
use mathlib.Core.Path.{◌≡◌}
use lib.ListN.{length, drop}
use Rattle.mgu.proofs.start.hop.Given as goal

abbrev pub invariant-loop-left : goal.invariant-loop-left
invariant-loop-left l =
    (l.p ≤ l.q) × (l.q ≤ length l.nodes) × (l.q + skip l.table (drop l.q l.nodes) l.left ≡ l.p + skip l.table (drop l.p l.nodes) l.k)
