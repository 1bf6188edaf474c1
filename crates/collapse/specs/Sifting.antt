-- Step 6: of the older rules those that the newest one rewrites go behind all pairs. Assumes nothing.
use Rattle.std.specs.Prelude.{◌≡◌, Bool, true, false, List, [], ◌∷◌, ◌++◌, map, ℕ, ◌<◌, ◌≤◌, length}
use Rattle.limits.specs.Limits.{most_variables}
use Rattle.rewriting.specs.Overlap.{Rule}
use Rattle.slots.specs.Slots.{Layout, PairAt, Holds, MovedLast}
use Rattle.completion.specs.Turn.{Candidate, rewrites, kept, removed}
use Rattle.inputs.specs.Inputs.{marked}
use Rattle.collapse.specs.Rows.{held}

-- `sift_one`: a pair goes behind all others, or stays
abbrev pub MovedIf : List ℕ → ℕ → ℕ → List ℕ → Bool → Type 0
MovedIf slots i count slots' true = MovedLast slots i count slots'
MovedIf slots i count slots' false = slots' ≡ slots

pub record SiftedOne (tab new slots : List ℕ) (i count : ℕ) (slots' : List ℕ) (r : Bool) : Type 0 where
  pub moved : MovedIf slots i count slots' r
  pub answer : (x y : Rule) → PairAt most_variables tab new 0 x.sides → PairAt most_variables tab slots i y.sides → r ≡ rewrites x y

-- these rules, of which there are so many, stand before what waits
pub record Ruled (tab slots : List ℕ) (live count : ℕ) (rules : List Rule) (waiting : List Candidate) : Type 0 where
  pub holds : Holds tab slots 0 (map marked (held rules waiting))
  pub live_are : live ≡ length rules
  pub counted : count ≡ length (held rules waiting)

-- `sift`
pub record Sifted (tab new slots : List ℕ) (live count : ℕ) (slots' : List ℕ) (stay : ℕ) : Type 0 where
  pub layout : Layout slots' count
  pub some : 0 < stay
  pub fewer : stay ≤ live
  pub sifted : (x : Rule) (older : List Rule) (waiting : List Candidate) → PairAt most_variables tab new 0 x.sides →
      Ruled tab slots live count (older ++ (x ∷ [])) waiting →
      Ruled tab slots' stay count (kept x older ++ (x ∷ [])) (waiting ++ removed x older)
