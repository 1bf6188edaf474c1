-- The limits that fixed arrays rely on, for every theory that is accepted: in one place. Assumes nothing.
-- Read first: proofs/Kept, proofs/Result.
use mathlib.Core.Path.{◌≡◌, refl, subst}
use mathlib.Core.List.{List, [], ◌++◌, Memᴰ}
use mathlib.Core.Option.{some}
use Prim.Native.Nat.{ℕ, suc, ◌+◌, ◌≤◌, ◌<◌}
use native.Mathlib.Omega.{arith}
use lib.Dec.{ltb}
use lib.ListN.{length, length-append}
use borrow.Author.Tests.{ltb-false}
use Rattle.limits.specs.Limits.{most_result}
use Rattle.terms.specs.Base.{number_bytes, number_from, Every}
use Rattle.terms.specs.Term.{pair_variables}
use Rattle.terms.proofs.Limits.{made_vars, variables_few, Bytes}
use Rattle.terms.proofs.Numerals.{number_back}
use Rattle.terms.proofs.Every.{every_in}
use Rattle.rewriting.specs.Overlap.{Rule, Overlap, overlap, Place, all_places}
use Rattle.rewriting.specs.Rewrite.{End, complete, neither_above, spent, too_large, rules_full, log_full, done, end_number}
use Rattle.rewriting.proofs.Limits.{OverlapMade, MaybeOverlap, overlap_made}
use Rattle.rewriting.proofs.Holds.{Holds}
use Rattle.problem.specs.Problem.{ok, Theory, Problem, theory, parse}
use Rattle.completion.specs.Turn.{Candidate, Entry, State, Taken, take_pair, kept, removed, Finished, run}
use Rattle.completion.specs.Calls.{result_fields, result_bytes, enough, complete_call}
use Rattle.problem.proofs.Reading.{from_bind, passed}
use Rattle.completion.proofs.Held.{RuleFits, Accepted}
use Rattle.completion.proofs.Limits.{CandidateFits, EntryFits, Limits}
use Rattle.completion.proofs.Kept.{PlaceFits, all_places_fit, kept_removed, TakenFits, reachable_limits}
use Rattle.completion.proofs.Kept
use Rattle.completion.proofs.Ends.{Takes, Because}
use Rattle.completion.proofs.Traced.{takes}
use Rattle.completion.proofs.Reachable.{Reachable}
use Rattle.completion.proofs.Stopped.{Stopped, run_stops, units_within}
use Rattle.completion.proofs.Accepts.{accepts, budget_accepted}
use Rattle.completion.proofs.Widths.{FieldFits}
use Rattle.completion.proofs.Result.{fields_fit, result_length, result_is_bytes}

module _ (T : Theory) (accepted : Accepted T) where
  abbrev symbols : ℕ
  symbols = length T.symbols

  -- 1. Every state of a run.
  pub state_limits : {s : State} → Reachable T s → Limits symbols s
  state_limits r = reachable_limits T accepted r

  pub made_few : {s : State} → Reachable T s → s.made ≤ 512
  made_few {s} r =
      let l : Limits symbols s = state_limits r in
      let a : s.made ≤ length s.log = l.made_few in
      let b : length s.log ≤ 512 = l.log_few in
      omega arith

  pub rule_fits : {s : State} → Reachable T s → (r : Rule) → Memᴰ r s.rules → RuleFits symbols s.made r
  rule_fits {s} r rule i = every_in (state_limits r).rules_fit i

  pub waiting_fits : {s : State} → Reachable T s → (c : Candidate) → Memᴰ c s.waiting → CandidateFits symbols 16 s.made c
  waiting_fits {s} r c i = every_in (state_limits r).waiting_fit i

  pub entry_fits : {s : State} → Reachable T s → (e : Entry) → Memᴰ e s.log → EntryFits s.made e
  entry_fits {s} r e i = every_in (state_limits r).log_fits i

  -- 2. Overlaps, before they are held to 120 nodes: variables below 32.
  pub place_fits : {s : State} → Reachable T s → (at : Place) → Memᴰ at (all_places [] s.rules) → PlaceFits symbols s.made at
  place_fits {s} r at i = every_in (all_places_fit s.rules (state_limits r).rules_fit) i

  pub overlap_fits : {s : State} → Reachable T s → (at : Place) → Memᴰ at (all_places [] s.rules) →
      (o : Overlap) → overlap at.inner.sides at.outer.sides at.position ≡ some o → OverlapMade (λ f. f < symbols) o
  overlap_fits r at i o e =
      let f : PlaceFits symbols _ at = place_fits r at i in
      let k : MaybeOverlap (λ f. f < symbols) (overlap at.inner.sides at.outer.sides at.position) =
      overlap_made (λ f. f < symbols) at.inner.sides at.outer.sides at.position
      (f.inner_fits.fits.left.made, f.inner_fits.fits.right.made) (f.outer_fits.fits.left.made, f.outer_fits.fits.right.made) in
      rw e at k

  pub overlap_variables : (o : Overlap) → OverlapMade (λ f. f < symbols) o → length (pair_variables o.sides) ≤ 32
  overlap_variables o h =
      variables_few 32 o.sides (made_vars _ (λ x. x < 32) o.sides.left h.left_made) (made_vars _ (λ x. x < 32) o.sides.right h.right_made)

  -- what a turn takes: at most 120 nodes a side, variables below 32, and at most 32 equations wait
  pub taken_fits : {s : State} (r : Reachable T s) (now rest : ℕ) (t : Taken) → take_pair T s.rules s.waiting now ≡ done t rest →
      TakenFits T accepted s (state_limits r) t
  taken_fits {s} r now rest t e =
      Kept.taken_fits T accepted s (state_limits r) t (subst (Holds (Takes T s) (Because T s)) e ((takes T s).out now))

  -- whatever the new rule: what waits and what it removes together are at most 32, before the live rules are counted too
  pub joined_few : {s : State} (r : Reachable T s) (t : Taken) → TakenFits T accepted s (state_limits r) t → (new : Rule) →
      length (t.waiting ++ removed new s.rules) ≤ 32
  joined_few {s} r t f new =
      let a : length (t.waiting ++ removed new s.rules) ≡ length t.waiting + length (removed new s.rules) =
      length-append t.waiting (removed new s.rules) in
      let b : length (kept new s.rules) + length (removed new s.rules) ≡ length s.rules = kept_removed new s.rules in
      let c : length s.rules + suc (length t.waiting) ≤ 33 = f.room in
      omega arith

  -- 3. Rule numbers fit two bytes.
  pub number_fits_two : {s : State} → Reachable T s → (r : Rule) → Memᴰ r s.rules →
      number_from 0 (number_bytes 2 r.number) ≡ r.number
  number_fits_two r rule i = number_back 2 rule.number (let a : rule.number ≤ _ = (rule_fits r rule i).last in let b = made_few r in omega arith)

  -- 4. What turns leave: the units are within their budget and fit four bytes, and the result has at most 13,726 bytes.
  module _ (budget : ℕ) (few : budget ≤ 1_000_000) (f : Finished) (h : Stopped T budget f) where
    pub units_few : f.units ≤ 1_000_000
    units_few = omega (arith, units_within h)

    pub units_back : number_from 0 (number_bytes 4 f.units) ≡ f.units
    units_back = number_back 4 f.units (let a = units_few in omega arith)

    pub result_few : length (result_bytes f) ≤ most_result
    result_few = result_length symbols accepted.symbols_few f (state_limits h.reachable)

    pub result_bytes_fit : Bytes (result_bytes f)
    result_bytes_fit = result_is_bytes symbols accepted.symbols_few f (state_limits h.reachable)

pub problem_fields_fit : (bytes : List ℕ) (P : Problem) → parse bytes ≡ ok P → Every (FieldFits 242) (result_fields (run P))
problem_fields_fit bytes P b =
    let a = accepts bytes P b in
    fields_fit (length P.symbols) a.symbols_few (run P) (state_limits (theory P) a (run_stops P).reachable)

-- What complete writes, if it does not refuse: bytes, and fewer than its buffer holds.
pub record WritesWithin (buffer : ℕ) (r : List ℕ) : Type 0 where
  pub are_bytes : Bytes r
  pub few : length r ≤ most_result
  pub room : length r ≤ buffer

pub buffer_enough : (buffer : ℕ) (u : Unit {0}) → enough buffer ≡ ok u → 16_384 ≤ buffer
unfolding enough
buffer_enough buffer u e = ltb-false buffer 16_384 (passed (ltb buffer 16_384) 1 0 u e)

pub complete_writes : (bytes : List ℕ) (buffer : ℕ) (r : List ℕ) → complete_call bytes buffer ≡ ok r → WritesWithin buffer r
unfolding complete_call
complete_writes bytes buffer r e =
    from_bind _ _ r e λ u a e.
    from_bind _ _ r e λ P b e.
    let q : result_bytes (run P) ≡ r = cc in
    let ok = accepts bytes P b in
    let few = budget_accepted bytes P b in
    let l : length (result_bytes (run P)) ≤ most_result = result_few (theory P) ok P.budget few (run P) (run_stops P) in
    let k = buffer_enough buffer u a in
    rw (← q) (record { are_bytes = result_bytes_fit (theory P) ok P.budget few (run P) (run_stops P); few = l; room = omega arith })

-- 5. "0, complete" and the ends 20 to 24, and no other.
pub data Listed : ℕ → Type 0 where
  is_complete : {k : ℕ} → k ≡ 0 → Listed k
  is_neither_above : {k : ℕ} → k ≡ 20 → Listed k
  is_spent : {k : ℕ} → k ≡ 21 → Listed k
  is_too_large : {k : ℕ} → k ≡ 22 → Listed k
  is_rules_full : {k : ℕ} → k ≡ 23 → Listed k
  is_log_full : {k : ℕ} → k ≡ 24 → Listed k

pub end_listed : (e : End) → Listed (end_number e)
unfolding end_number
end_listed complete = is_complete refl
end_listed neither_above = is_neither_above refl
end_listed spent = is_spent refl
end_listed too_large = is_too_large refl
end_listed rules_full = is_rules_full refl
end_listed log_full = is_log_full refl
