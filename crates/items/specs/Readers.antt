-- What each reader of a field answers, said by the definitions of Fields. A reader's caller gives the refusal's number: what is said here holds for
-- every one. Assumes nothing.
-- Read first: Fields, reading/specs/Answers (symbols_of, Table), slots/specs/Slots (Sides, Holds, Layout).
use Rattle.std.specs.Prelude.{Option as Maybe, Some, None, Result, Ok, Err, ◌≡◌, Bool, List, [], ◌∷◌, map, ℕ, ◌+◌, ◌-◌, ◌<◌, ◌≤◌, length, take, drop}
use Rattle.std.proofs.Math.Option.{Option, none}
use Rattle.limits.specs.Limits.{two_byte_values, most_nodes, most_variables, most_rules, most_entries}
use Rattle.terms.specs.Term.{Pair, size}
use Rattle.reading.specs.Answers.{symbols_of, between}
use Rattle.problem.specs.Problem.{Reading, ok, refused, ReadField}
use Rattle.rewriting.specs.Overlap.{Rule}
use Rattle.slots.specs.Slots.{slot, mark_of, left_of, right_of, Short, OnlySlot, Sides, Holds, Layout}
use Rattle.items.specs.Fields.{one_field, read_number, fields_there, renamed_pair, rule_sides, read_rule, RuleAt, read_rule_at, read_kind, read_forms}
use Rattle.items.specs.Written.{row}
use Rattle.items.specs.declared.BadField.{BadField}
use Rattle.items.specs.declared.RuleField.{RuleField}
use Rattle.items.specs.declared.Group.{Group}

-- refused, with whatever number and place
unfoldable pub Unread : {A : Type 0} → Reading A → Type 0
Unread (ok a) = ⊥
Unread (refused n place) = Unit {0}

-- the bytes of l from a to b, as they are lent
abbrev pub part : List ℕ → ℕ → ℕ → List ℕ
part l a b = take (b - a) (drop a l)

-- a field of l at `at` was read: what it held, and where it ends
pub record OneAt {A : Type 0} (tag : ℕ) (read : ReadField → Reading A) (l : List ℕ) (at : ℕ) (a : A) (e : ℕ) : Type 0 where
  pub is : (n : ℕ) → one_field n tag read at (drop at l) ≡ ok (record { part = a; end = e; rest = drop e l })
  pub low : at + 3 ≤ e
  pub within : e ≤ length l

-- it is refused at p
abbrev pub OneBad : {A : Type 0} → ℕ → (ReadField → Reading A) → List ℕ → ℕ → ℕ → Type 0
OneBad tag read l at p = (n : ℕ) → one_field n tag read at (drop at l) ≡ refused n p

-- `number_field`
abbrev pub IsNumber : ℕ → ℕ → List ℕ → ℕ → Result ℕ BadField → Type 0
IsNumber tag width l at (Ok n) = OneAt tag (read_number width) l at n (at + (3 + width))
IsNumber tag width l at (Err bad) = OneBad tag (read_number width) l at bad.place

-- fields of one tag, at most so many, from `at` on: these were read, and they end at e
pub record There {A : Type 0} (tag : ℕ) (read : Option A → ReadField → Reading A) (most : ℕ) (l : List ℕ) (at e : ℕ) (items : List A) : Type 0 where
  pub is : (n : ℕ) → fields_there n tag read most none at (drop at l) ≡ ok (record { part = items; end = e; rest = drop e l })
  pub few : length items ≤ most
  pub within : e ≤ length l

-- one of them is refused at p
abbrev pub ThereBad : {A : Type 0} → ℕ → (Option A → ReadField → Reading A) → ℕ → List ℕ → ℕ → ℕ → Type 0
ThereBad tag read most l at p = (n : ℕ) → fields_there n tag read most none at (drop at l) ≡ refused n p

-- two sides fill the bytes of l from `at` to `end`: the left one ends at m, where the right one begins
pub record SidesFill (tab l : List ℕ) (at end m : ℕ) (p : Pair) : Type 0 where
  pub sides : Sides most_variables tab (part l at m) (part l m end) p
  pub middle : m ≡ at + size p.left
  pub ends : end ≡ m + size p.right
  pub left_small : size p.left ≤ most_nodes
  pub right_small : size p.right ≤ most_nodes

-- they are what was read there, or nothing was
abbrev pub IsPairRead : Reading Pair → List ℕ → List ℕ → ℕ → ℕ → Maybe ℕ → Type 0
IsPairRead r tab l at end (Some m) = (p : Pair) × (r ≡ ok p) × SidesFill tab l at end m p
IsPairRead r tab l at end None = Unread r

-- `renamed_pair`, `rule_sides`
abbrev pub IsPairFound : List ℕ → List ℕ → ℕ → ℕ → Maybe ℕ → Type 0
IsPairFound tab l at end r = IsPairRead (renamed_pair (symbols_of tab) at (between l at end)) tab l at end r

abbrev pub AreRuleSides : List ℕ → Bool → List ℕ → ℕ → ℕ → Maybe ℕ → Type 0
AreRuleSides tab ordered l at end r = IsPairRead (rule_sides (symbols_of tab) ordered at (between l at end)) tab l at end r

-- `rule_field`: its number, its sides, and where it ends
pub record RuleIs (tab : List ℕ) (ordered : Bool) (most : ℕ) (l : List ℕ) (at before number m e : ℕ) (p : Pair) : Type 0 where
  pub one : OneAt 0x12 (read_rule (symbols_of tab) ordered most before) l at (record { number = number; sides = p }) e
  pub held : SidesFill tab l (at + 5) e m p
  pub fits : number < two_byte_values

abbrev pub IsRule : List ℕ → Bool → ℕ → List ℕ → ℕ → ℕ → Maybe RuleField → Type 0
IsRule tab ordered most l at before (Some r) = (p : Pair) × RuleIs tab ordered most l at before r.number r.middle r.end p
IsRule tab ordered most l at before None = OneBad 0x12 (read_rule (symbols_of tab) ordered most before) l at at

-- `entry_field`, `forms_field`: the place behind the field
abbrev pub IsEntry : List ℕ → ℕ → Result ℕ BadField → Type 0
IsEntry l at (Ok e) = (kind : ℕ) × OneAt 0x13 read_kind l at kind e
IsEntry l at (Err bad) = OneBad 0x13 read_kind l at bad.place

abbrev pub IsForms : List ℕ → List ℕ → ℕ → Result ℕ BadField → Type 0
IsForms tab l at (Ok e) = (forms : Pair) × OneAt 0x14 (read_forms (symbols_of tab)) l at forms e
IsForms tab l at (Err bad) = OneBad 0x14 (read_forms (symbols_of tab)) l at bad.place

-- `hold_pair`: a mark, and two sides
pub record HoldsPair (slots : List ℕ) (k : ℕ) (mark left right slots' : List ℕ) : Type 0 where
  pub only : OnlySlot slots k slots'
  pub mark_is : mark_of (slot slots' k) ≡ mark
  pub left_is : left_of (slot slots' k) ≡ left
  pub right_is : right_of (slot slots' k) ≡ right
  pub short : Short (slot slots' k)

-- rules with the places of their fields, one behind the other from a place on
unfoldable pub rules_at : ℕ → List Rule → List RuleAt
rules_at at [] = []
rules_at at (r ∷ rules) = record { first = at; rule = r } ∷ rules_at (at + 5 + size r.sides.left + size r.sides.right) rules

-- these rules, and no more, stand in the slots, as live rules do
pub record InSlots (tab slots : List ℕ) (count : ℕ) (rules : List Rule) : Type 0 where
  pub counted : count ≡ length rules
  pub few : count ≤ most_rules
  pub holds : Holds tab slots 0 (map row rules)
  pub layout : Layout slots count

-- `read_rules`: the rules' fields from `at` on end at e
abbrev pub IsRules : List ℕ → Bool → ℕ → List ℕ → ℕ → List ℕ → Result Group BadField → Type 0
IsRules tab ordered most l at slots (Ok g) =
    (rules : List Rule) × There 0x12 (read_rule_at (symbols_of tab) ordered most) most_rules l at g.end (rules_at at rules) × InSlots tab slots g.count rules
IsRules tab ordered most l at slots (Err bad) = ThereBad 0x12 (read_rule_at (symbols_of tab) ordered most) most_rules l at bad.place

-- `read_entries`: the place behind them
abbrev pub IsEntries : List ℕ → ℕ → Result ℕ BadField → Type 0
IsEntries l at (Ok e) = (kinds : List ℕ) × There 0x13 (λ _ f. read_kind f) most_entries l at e kinds
IsEntries l at (Err bad) = ThereBad 0x13 (λ _ f. read_kind f) most_entries l at bad.place
