-- What a turn does, and what each of its ends says of the state that it began with. Assumes nothing.
-- Read first: specs/Turn, rewriting/proofs/Holds, proofs/Sentences (`next_state`).
use mathlib.Core.Path.{◌≡◌}
use mathlib.Core.Bool.{true, false}
use mathlib.Core.Logic.{◌⊎◌}
use mathlib.Core.List.{List, [], ◌∷◌, ◌++◌, Memᴰ}
use mathlib.Core.Option.{Option, none, some}
use Prim.Native.Nat.{ℕ, suc, ◌≤◌, ◌<◌}
use lib.ListN.{length}
use Rattle.completion.proofs.Sentences.{AllPutBack, MayTake, new_rule, next_state}
use Rattle.terms.specs.Term.{Term, Pair, same, size, pair_variables, renamed}
use Rattle.terms.proofs.Shape.{zero≢one}
use Rattle.terms.proofs.Below.{swapped}
use Rattle.terms.specs.Base.{Every}
use Rattle.order.specs.Order.{above}
use Rattle.rewriting.specs.Overlap.{Rule, Overlap, overlap, Place, all_places}
use Rattle.rewriting.specs.Rewrite.{End, complete, neither_above, spent, too_large, rules_full, log_full}
use Rattle.rewriting.proofs.Covers.{HoldsAt}
use Rattle.rewriting.proofs.Holds.{Form, Forms, Outgrown}
use Rattle.problem.specs.Problem.{rank_of, Theory}
use Rattle.completion.specs.Turn.{overlapping, Candidate, scanned_input, State, Taken, candidates, kept, waits_again, settled}

-- Step 1: what is taken.
abbrev pub inputs : Theory → List Candidate
inputs T = candidates scanned_input 1 T.equations

-- an overlap that the scan comes to
pub record Scanned (s : State) (at : Place) (o : Overlap) : Type 0 where
  pub idle : s.waiting ≡ []
  pub listed : Memᴰ at (all_places [] s.rules)
  pub is : overlap at.inner.sides at.outer.sides at.position ≡ some o

pub record Small (o : Overlap) : Type 0 where
  pub peak : size o.peak ≤ 120
  pub left : size o.sides.left ≤ 120
  pub right : size o.sides.right ≤ 120

-- one normal form for both sides, of a pair and of the overlap at a place
pub record SameForm (rules : List Rule) (e : Pair) : Type 0 where
  pub to : Term
  pub left : Form rules e.left to
  pub right : Form rules e.right to

abbrev pub SameAt : List Rule → Pair → Pair → ℕ → Type 0
SameAt rules inner outer p = (o : Overlap) → overlap inner outer p ≡ some o → SameForm rules (renamed o.sides)

abbrev pub OverlapsSame : List Rule → Type 0
OverlapsSame rules = Every (HoldsAt (SameAt rules)) (all_places [] rules)

-- the pair before it is normalised, and the equations that wait behind it: the oldest of the waiting list, an overlap, an input when all overlaps
-- have one form
pub data Source (T : Theory) (s : State) : Candidate → List Candidate → Type 0 where
  of_waiting : {c : Candidate} {cs : List Candidate} → s.waiting ≡ c ∷ cs → Source T s c cs
  of_overlap : {c : Candidate} {cs : List Candidate} (at : Place) (o : Overlap) → Scanned s at o → Small o →
      c ≡ record { origin = overlapping at.inner.number at.outer.number at.position; sides = renamed o.sides } → cs ≡ [] → Source T s c cs
  of_input : {c : Candidate} {cs : List Candidate} → s.waiting ≡ [] → OverlapsSame s.rules → Memᴰ c (inputs T) → cs ≡ [] → Source T s c cs

pub none≢waiting : {c : Candidate} {cs : List Candidate} → [] ≡ c ∷ cs → ⊥
none≢waiting e = zero≢one (cc)

-- the pair as its normal forms, which differ where the scan took it
pub record Takes (T : Theory) (s : State) (t : Taken) : Type 0 where
  pub of : Candidate
  pub source : Source T s of t.waiting
  pub origin : t.pair.origin ≡ of.origin
  pub forms : Forms s.rules of.sides t.pair.sides
  pub scanned : s.waiting ≡ [] → same t.pair.sides.left t.pair.sides.right ≡ false

-- Steps 4 and 5: the upper side to the left.
pub data Oriented (T : Theory) (e : Pair) : Pair → Type 0 where
  as_taken : {f : Pair} → above (rank_of T.symbols) e.left e.right ≡ true → f ≡ renamed e → Oriented T e f
  other_way : {f : Pair} → above (rank_of T.symbols) e.right e.left ≡ true → f ≡ renamed (swapped e) → Oriented T e f

-- "neither side above"
pub record NeitherAbove (T : Theory) (e : Pair) : Type 0 where
  pub not_left : above (rank_of T.symbols) e.left e.right ≡ false
  pub not_right : above (rank_of T.symbols) e.right e.left ≡ false

-- what `orient` answers
abbrev pub OrientedAs : Theory → Pair → Option Pair → Type 0
OrientedAs T e none = NeitherAbove T e
OrientedAs T e (some f) = Oriented T e f

-- Steps 2 to 5 passed: of the pair that was taken a rule with these sides is made.
pub record Due (T : Theory) (s : State) (sides : Pair) : Type 0 where
  pub taken : Taken
  pub takes : Takes T s taken
  pub room : length s.log < 512
  pub differ : same taken.pair.sides.left taken.pair.sides.right ≡ false
  pub few : length (pair_variables taken.pair.sides) ≤ 16
  pub oriented : Oriented T taken.pair.sides sides

-- Step 7: of the older rules these were done, and these are to come.
abbrev pub with_right : Rule → Term → Rule
with_right old r = record { number = old.number; sides = record { left = old.sides.left; right = r } }

pub data Rights (new : Rule) (older : List Rule) : List Rule → List Rule → Type 0 where
  none_yet : {done later : List Rule} → done ≡ [] → later ≡ older → Rights new older done later
  one_more : {before done later : List Rule} {old : Rule} {r : Term} → Rights new older before (old ∷ later) →
      Form (before ++ (old ∷ later) ++ (new ∷ [])) old.sides.right r →
      done ≡ before ++ (with_right old r ∷ []) → Rights new older done later

abbrev pub older_rules : State → Pair → List Rule
older_rules s sides = kept (new_rule s sides) s.rules

-- The next state.
pub data Next (T : Theory) (s : State) : State → Type 0 where
  settles : {s' : State} (t : Taken) → Takes T s t → length s.log < 512 → t.pair.sides.left ≡ t.pair.sides.right → s' ≡ settled s t → Next T s s'
  makes : {s' : State} (t : Taken) → Takes T s t → length s.log < 512 → same t.pair.sides.left t.pair.sides.right ≡ false →
      length (pair_variables t.pair.sides) ≤ 16 → (sides : Pair) → Oriented T t.pair.sides sides → suc (length (older_rules s sides)) ≤ 32 →
      (done : List Rule) → Rights (new_rule s sides) (older_rules s sides) done [] → s' ≡ next_state s t sides (done ++ (new_rule s sides ∷ [])) → Next T s s'
  puts_back : {s' : State} (t : Taken) → Takes T s t → length s.log < 512 → same t.pair.sides.left t.pair.sides.right ≡ false →
      length (pair_variables t.pair.sides) ≤ 16 → NeitherAbove T t.pair.sides → MayTake s → s' ≡ waits_again s t → Next T s s'

-- 0: nothing waits, the sides of each overlap have one normal form, and so have those of each input equation.
abbrev pub SameCandidate : List Rule → Candidate → Type 0
SameCandidate rules c = SameForm rules c.sides

pub record Certified (T : Theory) (s : State) : Type 0 where
  pub idle : s.waiting ≡ []
  pub overlaps : OverlapsSame s.rules
  pub inputs_same : Every (SameCandidate s.rules) (inputs T)

-- 22: "a term over 120 nodes, or a taken pair over 16 variables"
abbrev pub SideOf : Pair → Term → Type 0
SideOf e t = (t ≡ e.left) ⊎ (t ≡ e.right)

pub data Large (T : Theory) (s : State) : Type 0 where
  in_taking : (c : Candidate) (cs : List Candidate) → Source T s c cs → (t : Term) → SideOf c.sides t → Outgrown s.rules t → Large T s
  in_overlap : (at : Place) (o : Overlap) → Scanned s at o → (t : Term) → (t ≡ o.peak) ⊎ SideOf o.sides t → 120 < size t → Large T s
  in_right : (sides : Pair) → Due T s sides → suc (length (older_rules s sides)) ≤ 32 → (done later : List Rule) (old : Rule) →
      Rights (new_rule s sides) (older_rules s sides) done (old ∷ later) →
      Outgrown (done ++ (old ∷ later) ++ (new_rule s sides ∷ [])) old.sides.right → Large T s
  variables : (t : Taken) → Takes T s t → 16 < length (pair_variables t.pair.sides) → Large T s

-- 23: "a 33rd live rule", which the pair that was taken makes
pub record RulesFull (T : Theory) (s : State) : Type 0 where
  pub sides : Pair
  pub due : Due T s sides
  pub over : 32 < suc (length (older_rules s sides))

-- 24: "when a 513th log entry is due", of the pair that was taken
pub record LogFull (T : Theory) (s : State) : Type 0 where
  pub taken : Taken
  pub takes : Takes T s taken
  pub over : 512 ≤ length s.log

-- With so many units left, a turn that began with s ended so. 20 comes when every one waiting has been put back, 21 with no unit.
unfoldable pub Because : Theory → State → End → ℕ → Type 0
Because T s complete left = Certified T s
Because T s neither_above left = AllPutBack s
Because T s spent left = left ≡ 0
Because T s too_large left = Large T s
Because T s rules_full left = RulesFull T s
Because T s log_full left = LogFull T s
