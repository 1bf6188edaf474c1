-- A turn case by case: what `turn` comes to, from what its steps come to, for code that follows them one after the other. No invariant is assumed.
-- Assumes nothing.
-- Read first: specs/Turn, proofs/Sentences.
use mathlib.Core.Path.{◌≡◌, refl, sym, ap, ◌∙◌}
use mathlib.Core.Bool.{true, false}
use mathlib.Core.List.{List, [], ◌∷◌}
use mathlib.Core.Option.{some}
use Prim.Native.Nat.{ℕ, zero, suc, ◌≤◌, ◌<◌, ◌-◌}
use native.Mathlib.Omega.{arith}
use lib.Dec.{leb}
use lib.ListN.{length}
use borrow.Author.Tests.{lt-leb, le-ltb}
use Rattle.std.specs.Prelude.{if◌then◌else◌}
use Rattle.terms.specs.Term.{Pair, same, pair_variables}
use Rattle.rewriting.specs.Overlap.{Rule, all_places}
use Rattle.rewriting.specs.Rewrite.{End, rules_full, log_full, done, stop, Paying, return, and_then, ◌>>=◌, end_if}
use Rattle.rewriting.specs.Rewrite.{normalise_pair}
use Rattle.problem.specs.Problem.{Theory}
use Rattle.completion.specs.Turn.{scanned_input, Candidate, State, Taken, candidates, scan, take_pair, orient, kept, normalise_rights}
use Rattle.completion.specs.Turn.{if_oriented, make_rule, settled, turn, Finished, turns, run_from}
pub use Rattle.completion.proofs.Sentences.{turn_unpaid, turn_log_full, taking, AllPutBack, taking_ends, MayTake, taking_on, new_rule, next_state}
pub use Rattle.completion.proofs.Sentences.{make_many_variables, make_waits_again, make_many_rules}
use Rattle.completion.proofs.Sentences.{turn_takes, behind_taking, make_oriented}

-- Step 1 behind its unit, and the rest of a turn.
module _ (T : Theory) (s : State) (units : ℕ) where
  pub turn_stops : (e : End) (left : ℕ) → taking T s units ≡ stop e left → turn T s (suc units) ≡ stop e left
  unfolding and_then
  turn_stops e left h = turn_takes T s units ∙ ap (λ p. and_then p (behind_taking T s)) h

  module _ (t : Taken) (left : ℕ) (h : taking T s units ≡ done t left) where
    abbrev later : Unit {0} → Paying State
    later _ = if same t.pair.sides.left t.pair.sides.right then return (settled s t) else make_rule T s t

    rest : turn T s (suc units) ≡ and_then (end_if (leb 512 (length s.log)) log_full left) later
    unfolding ◌>>=◌ and_then
    rest = turn_takes T s units ∙ ap (λ p. and_then p (behind_taking T s)) h

    past_log : length s.log < 512 →
        turn T s (suc units) ≡ (if same t.pair.sides.left t.pair.sides.right then return (settled s t) else make_rule T s t) left
    unfolding end_if return and_then
    past_log few = rest ∙ ap (λ b. and_then (end_if b log_full left) later) (lt-leb 512 (length s.log) few)

    pub turn_settles : length s.log < 512 → same t.pair.sides.left t.pair.sides.right ≡ true → turn T s (suc units) ≡ done (settled s t) left
    unfolding return
    turn_settles few e = past_log few ∙ ap (λ b. (if b then return (settled s t) else make_rule T s t) left) e

    pub turn_makes : length s.log < 512 → same t.pair.sides.left t.pair.sides.right ≡ false → turn T s (suc units) ≡ make_rule T s t left
    turn_makes few e = past_log few ∙ ap (λ b. (if b then return (settled s t) else make_rule T s t) left) e

-- Steps 5 to 7, of a pair that was oriented
module _ (T : Theory) (s : State) (t : Taken) (units : ℕ) (few : length (pair_variables t.pair.sides) ≤ 16) (sides : Pair)
    (h : orient T t.pair.sides ≡ some sides) where
  abbrev older : List Rule
  older = kept (new_rule s sides) s.rules

  -- step 7
  abbrev composed : Unit {0} → Paying State
  composed _ = normalise_rights [] older (new_rule s sides) >>= λ rules. return (next_state s t sides rules)

  past_rules : suc (length older) ≤ 32 →
      make_rule T s t units ≡ and_then (normalise_rights [] older (new_rule s sides) units) (λ rules. return (next_state s t sides rules))
  past_rules live = make_oriented T s t units few ∙ ap (λ o. if_oriented s t o units) h ∙ within
    where
      within : if_oriented s t (some sides) units
          ≡ and_then (normalise_rights [] older (new_rule s sides) units) (λ rules. return (next_state s t sides rules))
      within = unfold if_oriented ◌>>=◌ and_then end_if return in ap (λ b. and_then (end_if b rules_full units) composed) (le-ltb 32 (suc (length older)) live)

  pub make_rights_stop : suc (length older) ≤ 32 → (e : End) (now : ℕ) → normalise_rights [] older (new_rule s sides) units ≡ stop e now →
      make_rule T s t units ≡ stop e now
  unfolding and_then
  make_rights_stop live e now r = past_rules live ∙ ap (λ p. and_then p (λ rules. return (next_state s t sides rules))) r

  pub make_done : suc (length older) ≤ 32 → (rules : List Rule) (now : ℕ) → normalise_rights [] older (new_rule s sides) units ≡ done rules now →
      make_rule T s t units ≡ done (next_state s t sides rules) now
  unfolding and_then return
  make_done live rules now r = past_rules live ∙ ap (λ p. and_then p (λ rules. return (next_state s t sides rules))) r

-- Step 1: the scan, or the oldest waiting equation.
module _ (T : Theory) (rules : List Rule) (units : ℕ) where
  abbrev scanned : Candidate → Paying Taken
  scanned c = return (record { pair = c; waiting = [] })

  pub take_scan_stops : (e : End) (left : ℕ) → scan rules (candidates scanned_input 1 T.equations) (all_places [] rules) units ≡ stop e left →
      take_pair T rules [] units ≡ stop e left
  unfolding take_pair ◌>>=◌ and_then
  take_scan_stops e left h = ap (λ p. and_then p scanned) h

  pub take_scan : (c : Candidate) (left : ℕ) → scan rules (candidates scanned_input 1 T.equations) (all_places [] rules) units ≡ done c left →
      take_pair T rules [] units ≡ done (record { pair = c; waiting = [] }) left
  unfolding take_pair ◌>>=◌ and_then return
  take_scan c left h = ap (λ p. and_then p scanned) h

  module _ (c : Candidate) (cs : List Candidate) where
    abbrev oldest : Pair → Paying Taken
    oldest forms = return (record { pair = record { origin = c.origin; sides = forms }; waiting = cs })

    pub take_waiting_stops : (e : End) (left : ℕ) → normalise_pair rules c.sides units ≡ stop e left → take_pair T rules (c ∷ cs) units ≡ stop e left
    unfolding take_pair ◌>>=◌ and_then
    take_waiting_stops e left h = ap (λ p. and_then p oldest) h

    pub take_waiting : (forms : Pair) (left : ℕ) → normalise_pair rules c.sides units ≡ done forms left →
        take_pair T rules (c ∷ cs) units ≡ done (record { pair = record { origin = c.origin; sides = forms }; waiting = cs }) left
    unfolding take_pair ◌>>=◌ and_then return
    take_waiting forms left h = ap (λ p. and_then p oldest) h

-- The run on its way: from the state s, with so many units of the budget left, the turns come to f.
pub record Running (T : Theory) (budget : ℕ) (f : Finished) (s : State) (left : ℕ) : Type 0 where
  pub more : ℕ
  pub enough : left < more
  pub comes_to : turns more T budget s left ≡ f

pub run_begins : (T : Theory) (s : State) (budget : ℕ) → Running T budget (run_from T s budget) s budget
unfolding run_from
run_begins T s budget = record { more = suc budget; enough = omega arith; comes_to = refl }

pub turns_on : (n : ℕ) (T : Theory) (budget : ℕ) (s s' : State) (left left' : ℕ) → turn T s left ≡ done s' left' →
    turns (suc n) T budget s left ≡ turns n T budget s' left'
unfolding turns
turns_on n T budget s s' left left' h = rw (h, turns) refl

module _ (T : Theory) (budget : ℕ) (f : Finished) (s : State) (left : ℕ) where
  turns_end : (n : ℕ) (e : End) (left' : ℕ) → turn T s left ≡ stop e left' →
      turns (suc n) T budget s left ≡ record { end = e; units = budget - left'; state = s }
  unfolding turns
  turns_end n e left' h = rw (h, turns) refl

  pub run_goes_on : Running T budget f s left → (s' : State) (left' : ℕ) → turn T s left ≡ done s' left' → left' < left → Running T budget f s' left'
  run_goes_on r s' left' h less = go r.more r.enough r.comes_to
    where
      go : (n : ℕ) → left < n → turns n T budget s left ≡ f → Running T budget f s' left'
      go zero l e = absurd (omega arith)
      go (suc n) l e = record { more = n; enough = omega arith; comes_to = sym (turns_on n T budget s s' left left' h) ∙ e }

  pub run_ends : Running T budget f s left → (e : End) (left' : ℕ) → turn T s left ≡ stop e left' →
      f ≡ record { end = e; units = budget - left'; state = s }
  run_ends r e left' h = go r.more r.enough r.comes_to
    where
      go : (n : ℕ) → left < n → turns n T budget s left ≡ f → f ≡ record { end = e; units = budget - left'; state = s }
      go zero l q = absurd (omega arith)
      go (suc n) l q = sym q ∙ turns_end n e left' h
