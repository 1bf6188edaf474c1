-- Places that are 0 say nothing, and the first 16 are so once zeros are put there. Assumes nothing.
-- Read first: specs/Held (Spot, Within, Cleared).
use mathlib.Core.Path.{◌≡◌, ◌∙◌, ap}
use mathlib.Core.List.{List, ◌++◌}
use Prim.Native.Nat.{ℕ, ◌≤◌}
use native.Mathlib.Omega.{arith}
use lib.ListN.{length, get_or, drop, take, replicate, length-append, length-drop}
use lib.Seq.{length-take-le}
use Rattle.std.proofs.lemmas.List.{get_or_append_left, get_or-replicate, length-replicate}
use Rattle.matching.specs.Held.{Spot, Within, Cleared}

pub free_spot : (T : List ℕ) (k : ℕ) → k ≡ 0 → Spot T k
free_spot T k z = record { place = omega arith; sized = λ n. absurd (n z); inside = λ n. absurd (n z) }

pub cleared_within : (T B : List ℕ) → Cleared B → Within T B
cleared_within T B c x h = free_spot T (get_or B x 0) (c x h)

-- zeros in the place of the first 16
module _ (B F : List ℕ) (l : 16 ≤ length B) (f : F ≡ replicate (length (take 16 B)) 0) where
  sixteen : length F ≡ 16
  sixteen = ap length f ∙ length-replicate (length (take 16 B)) 0 ∙ length-take-le 16 B l

  pub cleared_front : Cleared (F ++ drop 16 (drop 0 B))
  cleared_front x h = let n = sixteen in
      get_or_append_left F (drop 16 (drop 0 B)) 0 x (omega arith) ∙ ap (λ z. get_or z x 0) f
      ∙ get_or-replicate (length (take 16 B)) x 0 0 (omega (arith, length-take-le 16 B l))

  pub cleared_length : length (F ++ drop 16 (drop 0 B)) ≡ length B
  cleared_length = omega (arith, sixteen, length-append F (drop 16 (drop 0 B)), length-drop 16 (drop 0 B), length-drop 0 B)
