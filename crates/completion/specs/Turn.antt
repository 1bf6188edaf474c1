-- Document 01, "A turn": the run's state, the turn in its seven steps, and the run; sections 8 and 9 of docs/DEFINITION.md. Document 02, Six: an
-- equation with neither side above waits again. Assumes nothing.
use Rattle.std.specs.Prelude.{Bool, List, [], ◌∷◌, ◌++◌, ℕ, zero, suc, ◌-◌, ltb, leb, length}
use Rattle.std.proofs.Math.Option.{Option, none, some}
use Rattle.limits.specs.Limits.{most_variables, most_rules, most_entries}
use Rattle.std.specs.Prelude.{if◌then◌else◌}
use Rattle.terms.specs.Base.{is_some}
use Rattle.terms.specs.Term.{Pair, same, pair_variables, renamed}
use Rattle.problem.specs.Problem.{rank_of, Theory, Problem, theory}
use Rattle.order.specs.Order.{above}
use Rattle.rewriting.specs.Overlap.{Rule, Overlap, overlap, Place, all_places}
use Rattle.rewriting.specs.Rewrite.{step, End, complete, neither_above, spent, too_large, rules_full, log_full, done, stop, Paying, return, end_with}
use Rattle.rewriting.specs.Rewrite.{◌>>=◌, end_if, pay, hold, normalise, normalise_pair}

-- Where a pair came from: "1 waiting input, 2 waiting from a removed rule, 3 input at the scan, 4 overlap", with the numbers and the position that
-- an entry has of it. [11.6]
pub data Origin : Type 0 where
  waiting_input : ℕ → Origin
  removed_rule : ℕ → Origin
  scanned_input : ℕ → Origin
  overlapping : ℕ → ℕ → ℕ → Origin

-- an equation that waits or is taken, with where it came from
pub record Candidate : Type 0 where
  pub origin : Origin
  pub sides : Pair

-- a log entry; `made` is the "rule made .. (0 if settled)"; of an equation that was put back "its entry has ffff (hexadecimal) as the rule made" [11.5]
abbrev pub made_put_back : ℕ
made_put_back = 0xffff

pub record Entry : Type 0 where
  pub origin : Origin
  pub made : ℕ

-- "The state is the live rules (numbered 1, 2, .. as made, numbers never reused, places reused), the waiting list (at first the equations in order),
-- the log and the units." Places are the representation's.
-- The rules stand ascending and the waiting list oldest first. The units that are left go beside the state, as `Paying` hands them on.
-- `put_back` counts the equations put back "since a rule was last made or an equation settled"; proofs/PutBack says which of the waiting list they are.
-- [8.1, 8.2, 8.9]
pub record State : Type 0 where
  pub rules : List Rule
  pub made : ℕ
  pub waiting : List Candidate
  pub log : List Entry
  pub put_back : ℕ

-- "Equations are numbered from 1." "Every equation and rule held is so renamed." [2.11, 3.8]
unfoldable pub candidates : (ℕ → Origin) → ℕ → List Pair → List Candidate
candidates origin n [] = []
candidates origin n (e ∷ es) = record { origin = origin n; sides = renamed e } ∷ candidates origin (suc n) es

-- "the waiting list (at first the equations in order)" [8.3, 8.4]
unfoldable pub initial : Theory → State
initial T = record { rules = []; made = 0; waiting = candidates waiting_input 1 T.equations; log = []; put_back = 0 }

-- Step 1, the scan. "Test the size of the peak, of the left, of the right, then normalise left, then right."
-- "Every equation and rule held is so renamed": the pair is renamed first, so no answer depends on which most general unifier was found.
-- [6.8, 9.5]
unfoldable pub scan_overlap : List Rule → Option Overlap → Paying (Option Pair)
scan_overlap rules none = return none
scan_overlap rules (some o) = do
  _ ← hold o.peak
  _ ← hold o.sides.left
  _ ← hold o.sides.right
  forms ← normalise_pair rules (renamed o.sides)
  return (some forms)

unfoldable pub if_different : Origin → Pair → Paying Candidate → Paying Candidate
if_different origin forms next =
    if same forms.left forms.right then next else return (record { origin = origin; sides = forms })

unfoldable pub if_different_overlap : Place → Option Pair → Paying Candidate → Paying Candidate
if_different_overlap at none next = next
if_different_overlap at (some forms) next =
    if_different (overlapping at.inner.number at.outer.number at.position) forms next

-- "After all overlaps, normalise each input equation. The first with two different normal forms is taken, as these forms.
-- If there is none, the end is 0, complete." [9.6, 9.7]
unfoldable pub scan_inputs : List Rule → List Candidate → Paying Candidate
scan_inputs rules [] = end_with complete
scan_inputs rules (c ∷ cs) = do
  forms ← normalise_pair rules c.sides
  if_different c.origin forms (scan_inputs rules cs)

-- the overlaps in their order, then the inputs; the first with two different normal forms is taken [9.3, 9.4]
unfoldable pub scan : List Rule → List Candidate → List Place → Paying Candidate
scan rules inputs [] = scan_inputs rules inputs
scan rules inputs (at ∷ places) = do
  forms ← scan_overlap rules (overlap at.inner.sides at.outer.sides at.position)
  if_different_overlap at forms (scan rules inputs places)

-- What a turn takes: the pair, as its normal forms, and the equations that still wait.
pub record Taken : Type 0 where
  pub pair : Candidate
  pub waiting : List Candidate

-- Step 1. "Take the oldest waiting equation and normalise left, then right. If none waits, scan." [9.2, 9.3]
unfoldable pub take_pair : Theory → List Rule → List Candidate → Paying Taken
take_pair T rules [] = do
  c ← scan rules (candidates scanned_input 1 T.equations) (all_places [] rules)
  return (record { pair = c; waiting = [] })
take_pair T rules (c ∷ waiting) = do
  forms ← normalise_pair rules c.sides
  return (record { pair = record { origin = c.origin; sides = forms }; waiting = waiting })

-- Step 5. "The upper side becomes a new rule's left side." None: neither side is above. [9.12]
unfoldable pub orient : Theory → Pair → Option Pair
orient T e =
    if above (rank_of T.symbols) e.left e.right then some (renamed e)
    else if above (rank_of T.symbols) e.right e.left then some (renamed (record { left = e.right; right = e.left }))
    else none

-- Step 6. "whose left side the new rule rewrites" [9.13]
unfoldable pub rewrites : Rule → Rule → Bool
rewrites new old = is_some (step (new ∷ []) old.sides.left)

unfoldable pub kept : Rule → List Rule → List Rule
kept new [] = []
kept new (old ∷ rules) =
    let rest : List Rule = kept new rules in
    if rewrites new old then rest else (old ∷ rest)

-- "is removed, and its two sides join the waiting list" [9.13]
unfoldable pub removed : Rule → List Rule → List Candidate
removed new [] = []
removed new (old ∷ rules) =
    let rest : List Candidate = removed new rules in
    if rewrites new old then (record { origin = removed_rule old.number; sides = old.sides } ∷ rest) else rest

-- Step 7. "Each older rule still live, ascending, gets its right side normalised by the live rules as they then read." [9.15]
unfoldable pub normalise_rights : List Rule → List Rule → Rule → Paying (List Rule)
normalise_rights before [] new = return (before ++ (new ∷ []))
normalise_rights before (old ∷ rules) new = do
  r ← normalise (before ++ (old ∷ rules) ++ (new ∷ [])) old.sides.right
  let old' : Rule = record { number = old.number; sides = record { left = old.sides.left; right = r } }
  normalise_rights (before ++ (old' ∷ [])) rules new

-- Step 4. "An equation with neither side above now goes to the end of the waiting list as its two normal forms, and its entry has ffff (hexadecimal)
-- as the rule made." "An equation taken again is logged with its first kind, numbers and position": it keeps its origin. [9.11, 9.20]
unfoldable pub waits_again : State → Taken → State
waits_again s t = record {
  rules = s.rules;
  made = s.made;
  waiting = t.waiting ++ (record { origin = t.pair.origin; sides = renamed t.pair.sides } ∷ []);
  log = s.log ++ (record { origin = t.pair.origin; made = made_put_back } ∷ []);
  put_back = suc s.put_back;
}

-- Steps 5 to 7, of the new rule's sides if one side is above. "Each older rule, ascending, whose left side the new rule rewrites is removed .. Over 32
-- live: 23." [9.13 to 9.16]
unfoldable pub if_oriented : State → Taken → Option Pair → Paying State
if_oriented s t none = return (waits_again s t)
if_oriented s t (some sides) = do
  let new : Rule = record { number = suc s.made; sides = sides }
  let older = kept new s.rules
  _ ← end_if (ltb most_rules (suc (length older))) rules_full
  rules ← normalise_rights [] older new
  return (record {
    rules = rules;
    made = new.number;
    waiting = t.waiting ++ removed new s.rules;
    log = s.log ++ (record { origin = t.pair.origin; made = new.number } ∷ []);
    put_back = 0;
  })

-- Steps 4 to 7. "The taken pair has at most 16 different variables, else 22." [9.10]
unfoldable pub make_rule : Theory → State → Taken → Paying State
make_rule T s t = do
  _ ← end_if (ltb most_variables (length (pair_variables t.pair.sides))) too_large
  if_oriented s t (orient T t.pair.sides)

-- Step 3. "Equal forms: entry, settled." [9.9]
unfoldable pub settled : State → Taken → State
settled s t = record {
  rules = s.rules;
  made = s.made;
  waiting = t.waiting;
  log = s.log ++ (record { origin = t.pair.origin; made = 0 } ∷ []);
  put_back = 0;
}

-- "End 20 is given exactly when some equation waits and every one waiting has been put back since a rule was last made or an equation settled. This is
-- tested at the start of the next turn, after its unit is paid." What is put back goes behind all others, so every one waiting has been put back when
-- as many have been as wait; proofs/PutBack has the sentence itself. [9.19]
unfoldable pub end_if_all_put_back : List Candidate → ℕ → Paying (Unit {0})
end_if_all_put_back [] put_back = return tt
end_if_all_put_back (c ∷ waiting) put_back = end_if (leb (suc (length waiting)) put_back) neither_above

-- "A turn takes the run's state and hands back the next one." Step 1: "Pay a unit." Step 2: "24 when a 513th log entry is due".
-- [8.5, 9.1, 9.8, 9.19]
unfoldable pub turn : Theory → State → Paying State
turn T s = do
  _ ← pay
  _ ← end_if_all_put_back s.waiting s.put_back
  t ← take_pair T s.rules s.waiting
  _ ← end_if (leb most_entries (length s.log)) log_full
  if same t.pair.sides.left t.pair.sides.right then return (settled s t) else make_rule T s t

-- What a run leaves: its end, the units paid, and the rules and the log [8.7].
pub record Finished : Type 0 where
  pub end : End
  pub units : ℕ
  pub state : State

-- "A stop inside a turn leaves rules and log as at its beginning; the units count what was paid": of a budget, of which so many units are left. [8.7]
-- Each turn pays a unit, so one turn more than there are units left, the first number, is enough.
unfoldable pub turns : ℕ → Theory → ℕ → State → ℕ → Finished
turns zero T budget s left = record { end = spent; units = budget - left; state = s }
turns (suc n) T budget s left =
    elim (turn T s left) [
      | done s' left' ↦ turns n T budget s' left'
      | stop e left' ↦ record { end = e; units = budget - left'; state = s }
    ]

-- turns from a state, with a budget of their own
unfoldable pub run_from : Theory → State → ℕ → Finished
run_from T s budget = turns (suc budget) T budget s budget

-- turns from the first state, with the problem's budget [8.4]
unfoldable pub run : Problem → Finished
run P = run_from (theory P) (initial (theory P)) P.budget
