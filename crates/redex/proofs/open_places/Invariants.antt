-- `open_places`: the invariant is that the places before i are collected. Assumes nothing.
-- Read first: specs/Contraction (OpenPlaces), proofs/Places (Collected).
use mathlib.Core.Path.{◌≡◌}
use Prim.Native.Nat.{◌<◌, ◌≤◌, ◌+◌, ◌-◌}
use lib.ListN.{length}
use Rattle.limits.specs.Limits.{byte_values}
use Rattle.redex.proofs.Places.{Collected}
use Rattle.redex.proofs.open_places.Given as goal

abbrev pub invariant-loop-i : goal.invariant-loop-i
invariant-loop-i l =
    (length l.places ≡ length l.initial.places) × (l.count ≤ l.i) × (l.i < length l.t + byte_values) × Collected l.t l.initial.places l.places l.i l.count

abbrev pub decreases-loop-i : goal.decreases-loop-i
decreases-loop-i l = length l.t - l.i
