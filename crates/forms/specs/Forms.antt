-- A part of the scan, what comparing a pair's two normal forms answers of it, and what is due then. Assumes nothing.
use Rattle.std.specs.Prelude.{◌≡◌, Bool, true, false, List, ℕ, ◌≤◌, leb, length, Result, Ok, Err}
use Rattle.limits.specs.Limits.{most_variables, most_apart, most_entries}
use Rattle.std.specs.Prelude.{if◌then◌else◌}
use Rattle.terms.specs.Term.{Pair}
use Rattle.rewriting.specs.Overlap.{Rule, sides_of}
use Rattle.rewriting.specs.Rewrite.{spent, too_large, done, stop, Paying, ◌>>=◌, normalise_pair}
use Rattle.rewriting.specs.declared.End.{End as Ending}
use Rattle.rewriting.specs.declared.End.TheVariants.{Complete, Spent, TooLarge, LogFull}
use Rattle.completion.specs.Turn.{Origin, Candidate, if_different}
use Rattle.completion.specs.Calls.{origin_bytes}
use Rattle.slots.specs.Slots.{slot, mark_of, Layout, PairAt, Stored}
use Rattle.joining.specs.Joins.{WalkRoom}
use Rattle.joining.specs.declared.Walk.{Walk}
use Rattle.forms.specs.declared.Taken.{Taken}
use Rattle.joining.specs.declared.Joined.{Joined}
use Rattle.joining.specs.declared.Joined.TheVariants.{Equal, Different}
use Rattle.forms.specs.declared.Due.{Due}
use Rattle.forms.specs.declared.Due.TheVariants.{Settle, Make}

-- A part of the scan, before what follows it.
abbrev pub ScanPart : Type 0
ScanPart = Paying Candidate → Paying Candidate

-- a pair's two normal forms are compared
unfoldable pub compared : List Rule → Origin → Pair → ScanPart
compared rules origin e next = do
  forms ← normalise_pair rules e
  if_different origin forms next

-- The pair that was found stands in a slot: its forms, and where it came from.
pub record Shows (tab one : List ℕ) (c : Candidate) : Type 0 where
  pub sides : PairAt most_apart tab one 0 c.sides
  pub from : mark_of (slot one 0) ≡ origin_bytes c.origin

-- What a walk over the part d answers, that began with u units and left the slot `one`.
pub data Walked (tab one : List ℕ) (d : ScanPart) (u : ℕ) (w : Walk) : Type 0 where
  found : (c : Candidate) → w.found ≡ Ok Different → ((next : Paying Candidate) → d next u ≡ done c w.units) → Shows tab one c → Walked tab one d u w
  short : w.found ≡ Err Spent → ((next : Paying Candidate) → d next u ≡ stop spent w.units) → Walked tab one d u w
  large : w.found ≡ Err TooLarge → ((next : Paying Candidate) → d next u ≡ stop too_large w.units) → Walked tab one d u w
  on : w.found ≡ Ok Equal → ((next : Paying Candidate) → d next u ≡ next w.units) → Walked tab one d u w

-- `join`: the pair in slot k of a list
pub record PairWalk (tab list : List ℕ) (k : ℕ) (rules : List ℕ) (count : ℕ) (one one' : List ℕ) (units : ℕ) (w : Walk) : Type 0 where
  pub room : WalkRoom one one' units w
  pub answer : (rs : List Rule) → Stored tab rules 0 (sides_of rs) → count ≡ length rs →
      (o : Origin) (e : Pair) → mark_of (slot one 0) ≡ origin_bytes o → PairAt most_apart tab list k e → Walked tab one' (compared rs o e) units w

-- what was found and the units, without the pair
abbrev pub walk_of : Taken → Walk
walk_of t = record { found = t.found; units = t.units }

-- `oldest`: the pair behind the live rules
pub record OldestIs (tab pairs : List ℕ) (live units : ℕ) (t : Taken) : Type 0 where
  pub layout : Layout t.pair 1
  pub left_over : t.units ≤ units
  pub mark : mark_of (slot t.pair 0) ≡ mark_of (slot pairs live)
  pub answer : (rs : List Rule) → Stored tab pairs 0 (sides_of rs) → live ≡ length rs →
      (o : Origin) (e : Pair) → mark_of (slot pairs live) ≡ origin_bytes o → PairAt most_variables tab pairs live e →
      Walked tab t.pair (compared rs o e) units (walk_of t)

-- `with_room`, `due_after`: steps 1 to 3, from what was found. "24 when a 513th log entry is due, at step 2 of the turn."
unfoldable pub with_room : ℕ → Result Due Ending → Result Due Ending
with_room entries due = if leb most_entries entries then Err LogFull else due

unfoldable pub due_after : Result Joined Ending → Bool → ℕ → Result Due Ending
due_after (Ok Equal) true entries = with_room entries (Ok Settle)
due_after (Ok Equal) false entries = Err Complete
due_after (Ok Different) waits entries = with_room entries (Ok Make)
due_after (Err e) waits entries = Err e
