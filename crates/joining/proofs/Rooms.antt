-- What is answered, by its parts, and that a slot was kept and no units were added. Assumes nothing.
-- Read first: specs/Joins (WalkRoom).
use mathlib.Core.Path.{◌≡◌, ap}
use mathlib.Core.List.{List}
use Prim.Native.Nat.{ℕ, ◌≤◌}
use native.Mathlib.Omega.{arith}
use Rattle.slots.specs.Slots.{KeptSlot}
use Rattle.joining.specs.declared.Walk.{Walk}
use Rattle.std.specs.Prelude.{Result}
use Rattle.rewriting.specs.declared.End.{End}
use Rattle.joining.specs.declared.Joined.{Joined}
use Rattle.joining.specs.Joins.{WalkRoom}

module _ {f : Result Joined End} {u : ℕ} {w : Walk} (e : w ≡ record { found = f; units = u }) where
  pub found_is : w.found ≡ f
  found_is = ap (λ (v : Walk). v.found) e

  pub units_is : w.units ≡ u
  units_is = ap (λ (v : Walk). v.units) e

  pub room_is : {one one' : List ℕ} {units : ℕ} → KeptSlot one one' → u ≤ units → WalkRoom one one' units w
  room_is k l = record { kept = k; left_over = let q = units_is in omega arith }
