-- What a walk over places or over input equations comes to, and what the functions of the scan answer. Assumes nothing.
use Rattle.std.specs.Prelude.{◌≡◌, Bool, true, false, List, [], ◌∷◌, map, ℕ, ◌<◌, ◌≤◌, length, get_or, drop, take, Result, Ok, Err}
use Rattle.terms.specs.Base.{number_bytes}
use Rattle.terms.specs.Term.{var, Pair}
use Rattle.rewriting.specs.Overlap.{Rule, sides_of, overlap, Place, all_places}
use Rattle.rewriting.specs.Rewrite.{End, complete, neither_above, spent, too_large, rules_full, log_full, Paid, done, stop, ◌>>=◌}
use Rattle.completion.specs.Turn.{scanned_input, Candidate, candidates, scan_overlap, if_different_overlap, scan}
use Rattle.slots.specs.Slots.{slot, number_of, Layout, Stored}
use Rattle.joining.specs.declared.Walk.{Walk}
use Rattle.forms.specs.declared.Taken.{Taken}
use Rattle.joining.specs.declared.Joined.{Joined}
use Rattle.joining.specs.declared.Joined.TheVariants.{Equal, Different}
use Rattle.rewriting.specs.declared.End.{End as Ending}
use Rattle.rewriting.specs.declared.End.TheVariants.{Spent, TooLarge}
use Rattle.overlaps.specs.Answer.{AtSymbol}
use Rattle.forms.specs.Forms.{ScanPart, compared, Shows, Walked}
use Rattle.scanning.specs.declared.spots.Spot.{Spot}

-- one place, places, and inputs
unfoldable pub visit : List Rule → Place → ScanPart
visit rules at next = do
  forms ← scan_overlap rules (overlap at.inner.sides at.outer.sides at.position)
  if_different_overlap at forms next

unfoldable pub visits : List Rule → List Place → ScanPart
visits rules [] next = next
visits rules (at ∷ ps) next = visit rules at (visits rules ps next)

unfoldable pub visit_inputs : List Rule → List Candidate → ScanPart
visit_inputs rules [] next = next
visit_inputs rules (c ∷ cs) next = compared rules c.origin c.sides (visit_inputs rules cs next)

-- a slot that was lent: it has the mark of the last pair that was compared, and what stands in it stays short
pub record Lent (one one' : List ℕ) : Type 0 where
  pub same : length one' ≡ length one
  pub layout : Layout one 1 → Layout one' 1

-- A function that walks over the part d, of whatever it is handed that is as H says.
pub record Walks {W : Type 0} (H : W → Type 0) (d : W → ScanPart) (tab one one' : List ℕ) (units : ℕ) (w : Walk) : Type 0 where
  pub kept : Lent one one'
  pub left_over : w.units ≤ units
  pub answer : (x : W) → H x → Walked tab one' (d x) units w

-- a rule by its place
abbrev pub no_rule : Rule
no_rule = record { number = 0; sides = record { left = var 0; right = var 0 } }

abbrev pub rule_at : List Rule → ℕ → Rule
rule_at rs k = get_or rs k no_rule

-- the rules stand in the slots, with their numbers in the marks
pub record RulesIn (tab rules : List ℕ) (count : ℕ) (rs : List Rule) : Type 0 where
  pub stored : Stored tab rules 0 (sides_of rs)
  pub counted : count ≡ length rs
  pub numbered : (k : ℕ) → k < count → number_of (slot rules k) ≡ number_bytes 2 (rule_at rs k).number

-- and a symbol stands at the place
pub record OverlapsAt (tab rules : List ℕ) (count : ℕ) (at : Spot) (rs : List Rule) : Type 0 where
  pub rules_are : RulesIn tab rules count rs
  pub symbol : AtSymbol (rule_at rs at.outer).sides.left at.position

-- the parts that the functions walk over: one place; the rules from b on
unfoldable pub at_place : Spot → List Rule → ScanPart
at_place at rs = visit rs (record { inner = rule_at rs at.inner; outer = rule_at rs at.outer; position = at.position })

unfoldable pub of_rules : ℕ → List Rule → ScanPart
of_rules b rs = visits rs (all_places (take b rs) (drop b rs))

-- the rules and the input equations stand in slots
pub record World : Type 0 where
  pub rules : List Rule
  pub equations : List Pair

abbrev pub world_inputs : World → List Candidate
world_inputs x = candidates scanned_input 1 x.equations

pub record InSlots (tab rules : List ℕ) (count : ℕ) (list : List ℕ) (number : ℕ) (x : World) : Type 0 where
  pub rules_are : RulesIn tab rules count x.rules
  pub inputs : Stored tab list 0 (map (λ c. c.sides) (world_inputs x))
  pub number_is : number ≡ length x.equations

-- one input; the inputs from k on; the whole scan
abbrev pub no_candidate : Candidate
no_candidate = record { origin = scanned_input 0; sides = no_rule.sides }

unfoldable pub of_input : ℕ → World → ScanPart
of_input k x = compared x.rules (get_or (world_inputs x) k no_candidate).origin (get_or (world_inputs x) k no_candidate).sides

unfoldable pub of_inputs : ℕ → World → ScanPart
of_inputs k x = visit_inputs x.rules (drop k (world_inputs x))

unfoldable pub rules_part : World → ScanPart
rules_part x = of_rules 0 x.rules

unfoldable pub of_all : World → ScanPart
of_all x next = of_rules 0 x.rules (of_inputs 0 x next)

-- each pair so far came to equal terms
abbrev pub AllEqual : Result Joined Ending → Bool → Type 0
AllEqual f true = f ≡ Ok Equal
AllEqual f false = f ≡ Ok Equal → ⊥

-- what a scan finds where it comes to an end: "If there is none, the end is 0, complete."
abbrev pub StopsWith : End → Result Joined Ending → Type 0
StopsWith complete f = f ≡ Ok Equal
StopsWith neither_above f = ⊥
StopsWith spent f = f ≡ Err Spent
StopsWith too_large f = f ≡ Err TooLarge
StopsWith rules_full f = ⊥
StopsWith log_full f = ⊥

-- `scan`: exactly as the definition says
abbrev pub Finds : List ℕ → Taken → Paid Candidate → Type 0
Finds tab t (done c left) = (t.found ≡ Ok Different) × (t.units ≡ left) × Shows tab t.pair c
Finds tab t (stop e left) = StopsWith e t.found × (t.units ≡ left)

pub record ScanIs (tab list : List ℕ) (number : ℕ) (rules : List ℕ) (count units : ℕ) (t : Taken) : Type 0 where
  pub layout : Layout t.pair 1
  pub left_over : t.units ≤ units
  pub answer : (x : World) → InSlots tab rules count list number x → Finds tab t (scan x.rules (world_inputs x) (all_places [] x.rules) units)
