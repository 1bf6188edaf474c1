-- Step 7 of a turn on the rules in their slots: what the functions answer. Assumes nothing.
use Rattle.std.specs.Prelude.{◌≡◌, ◌⊎◌, List, [], ◌∷◌, ◌++◌, map, ℕ, ◌+◌, ◌<◌, ◌≤◌, length, Some, None}
use Rattle.limits.specs.Limits.{most_rules}
use Rattle.terms.specs.Term.{Term}
use Rattle.rewriting.specs.Overlap.{Rule, sides_of}
use Rattle.rewriting.specs.Rewrite.{Paid, done, stop, normalise}
use Rattle.rewriting.specs.Ends.{ending}
use Rattle.rewriting.specs.declared.End.TheVariants.{RulesFull}
use Rattle.slots.specs.Slots.{slot, mark_of, Layout, Stored}
use Rattle.completion.specs.Turn.{normalise_rights}
use Rattle.compose.specs.declared.Composed.{Composed}

-- the rule `old` stands in slot k, between the rules `before` and the rules `after`
pub record Amid (tab rules : List ℕ) (k count : ℕ) (before : List Rule) (old : Rule) (after : List Rule) : Type 0 where
  pub place : length before ≡ k
  pub total : length (before ++ (old ∷ after)) ≡ count
  pub stored : Stored tab rules 0 (sides_of (before ++ (old ∷ after)))

-- marks stay, and so do the slots outside those from `a` to before `e`; each slot that was short is short
pub record RightsOnly (a e : ℕ) (slots slots' : List ℕ) : Type 0 where
  pub same : length slots' ≡ length slots
  pub marks : (i : ℕ) → mark_of (slot slots' i) ≡ mark_of (slot slots i)
  pub before : (i : ℕ) → i < a → slot slots' i ≡ slot slots i
  pub behind : (i : ℕ) → e ≤ i → slot slots' i ≡ slot slots i
  pub layout : (n : ℕ) → Layout slots n → Layout slots' n

-- `compose_one`: that rule's right side is normalised
abbrev pub OneIs : List ℕ → List ℕ → List Rule → Rule → List Rule → Composed → Paid Term → Type 0
OneIs tab rules before old after o (done y left) =
    (o.end ≡ None) × (o.units ≡ left) × Stored tab rules 0 (sides_of before ++ (record { left = old.sides.left; right = y } ∷ sides_of after))
OneIs tab rules before old after o (stop e left) = (o.end ≡ Some (ending e)) × (o.units ≡ left)

pub record One (tab rules rules' : List ℕ) (k count units : ℕ) (o : Composed) : Type 0 where
  pub only : RightsOnly k (k + 1) rules rules'
  pub left_over : o.units ≤ units
  pub answer : (before : List Rule) (old : Rule) (after : List Rule) → Amid tab rules k count before old after →
      OneIs tab rules' before old after o (normalise (before ++ (old ∷ after)) old.sides.right units)

-- `compose`: exactly as the definition says; the newest rule stands last
abbrev pub AllIs : List ℕ → List ℕ → List Rule → Composed → Paid (List Rule) → Type 0
AllIs tab rules rs o (done rs' left) =
    (o.end ≡ None) × (o.units ≡ left) × Stored tab rules 0 (sides_of rs') × (map (λ r. r.number) rs' ≡ map (λ r. r.number) rs)
AllIs tab rules rs o (stop e left) = (o.end ≡ Some (ending e)) × (o.units ≡ left)

pub record All (tab rules rules' : List ℕ) (count units : ℕ) (o : Composed) : Type 0 where
  pub only : RightsOnly 0 count rules rules'
  pub left_over : o.units ≤ units
  pub answer : (rs : List Rule) (new : Rule) → length (rs ++ (new ∷ [])) ≡ count → Stored tab rules 0 (sides_of (rs ++ (new ∷ []))) →
      AllIs tab rules' (rs ++ (new ∷ [])) o (normalise_rights [] rs new units)

-- `compose_few`: "Over 32 live: 23."
abbrev pub ComposesFew : List ℕ → ℕ → List ℕ → List ℕ → ℕ → Composed → Type 0
ComposesFew tab live pairs pairs' units c =
    ((most_rules < live) × (c ≡ record { end = Some RulesFull; units = units })) ⊎ ((live ≤ most_rules) × All tab pairs pairs' live units c)
