-- The loop of turns comes to the run: the turn at hand is one on the way, from whose state the run ends as from the start. Assumes nothing.
-- Read first: completion/proofs/Turning (Running), turn/specs/Turns (Turns), specs/Runs.
use mathlib.Core.Path.{◌≡◌, refl, sym, ap, ◌∙◌, subst}
use mathlib.Core.List.{List, map, map-map}
use Prim.Native.Nat.{ℕ, ◌+◌, ◌-◌, ◌*◌, ◌<◌, ◌≤◌}
use native.Mathlib.Omega.{arith}
use Rattle.limits.specs.Limits.{most_entries}
use Rattle.problem.specs.Problem.{Theory}
use Rattle.rewriting.specs.Rewrite.{Paid, done, stop}
use Rattle.rewriting.specs.declared.End.{End as Ending}
use Rattle.std.specs.Prelude.{Option, Some, None}
use Rattle.rewriting.proofs.Verdicts.{goes≢ends, same_end}
use Rattle.completion.specs.Turn.{waiting_input, Candidate, State as RunState, Finished, turn, initial, run_from}
use Rattle.completion.proofs.Limits.{length_candidates}
use Rattle.completion.proofs.Reachable.{turn_less}
use Rattle.completion.proofs.Turning.{Running, run_begins, run_goes_on, run_ends}
use Rattle.slots.specs.Slots.{Marked, Stored}
use Rattle.slots.specs.declared.Pairs.{Pairs}
use Rattle.slots.proofs.Listing.{stored_of}
use Rattle.inputs.specs.Inputs.{marked, inputs_of}
use Rattle.state.specs.declared.State.{State}
use Rattle.state.specs.Run.{Fine, Represents, Leaves}
use Rattle.state.specs.Steps.{Initial}
use Rattle.state.specs.declared.Turned.{Turned}
use Rattle.turn.specs.Turns.{Given, TurnSafe, TurnedIs, Turns}
use Rattle.run.specs.declared.Ran.{Ran}
use Rattle.run.specs.Runs.{ended_run, Inputs, RunsFrom, Runs}

-- what is given of the input equations
given_of : (tab : List ℕ) (inputs : Pairs) (T : Theory) → Inputs tab inputs T → Given tab inputs.bytes inputs.count T
given_of tab inputs T I =
    let cs : List Candidate = inputs_of T.equations in
    record {
      ranks = I.ranks;
      stored = subst (Stored tab inputs.bytes 0) (map-map (λ (m : Marked). m.sides) marked cs)
          (stored_of tab inputs.bytes 0 (map marked cs) I.held.holds);
      counted = I.held.counted ∙ length_candidates waiting_input 1 T.equations;
    }

-- the answer of a turn on the way to f, with a budget
pub record OnTheWay (tab : List ℕ) (T : Theory) (budget : ℕ) (f : Finished) (t : Turned) : Type 0 where
  pub state : RunState
  pub units : ℕ
  pub running : Running T budget f state units
  pub turned : TurnedIs tab state t (turn T state units)

-- from the first state of a run
first_turn : {tab : List ℕ} {inputs : Pairs} {first : State} {t : Turned} → Turns tab inputs.bytes inputs.count first t → (T : Theory) →
    Inputs tab inputs T → (s : RunState) → Represents tab first s → OnTheWay tab T first.units (run_from T s first.units) t
first_turn {tab} {inputs} {first} {t} A T I s R =
    record { state = s; units = first.units; running = run_begins T s first.units; turned = A.answer T (given_of tab inputs T I) s R }

-- The loop's invariant: where the first turn is on the way of a run, so is the one at hand.
pub record Looping (tab : List ℕ) (inputs : Pairs) (t₀ t : Turned) : Type 0 where
  pub fine : Fine t.state
  pub within : t.state.units ≤ t₀.state.units
  pub way : (T : Theory) → Inputs tab inputs T → (budget : ℕ) (f : Finished) → OnTheWay tab T budget f t₀ → OnTheWay tab T budget f t

pub looping_begins : {tab : List ℕ} {inputs : Pairs} {first : State} {t : Turned} → Turns tab inputs.bytes inputs.count first t →
    Looping tab inputs t t
looping_begins A = record { fine = A.safe.fine; within = omega arith; way = λ T I budget f W. W }

-- a turn more
next_turn : (tab inputs : List ℕ) (count : ℕ) (T : Theory) (budget : ℕ) (f : Finished) (t u : Turned) → Given tab inputs count T → t.end ≡ None →
    Turns tab inputs count t.state u → OnTheWay tab T budget f t → OnTheWay tab T budget f u
next_turn tab inputs count T budget f t u G v A W = go (turn T W.state W.units) refl W.turned
  where
    go : (p : Paid RunState) → turn T W.state W.units ≡ p → TurnedIs tab W.state t p → OnTheWay tab T budget f u
    go (stop end left) e a = absurd (goes≢ends v a.0)
    go (done s left) e a =
        let r : Running T budget f s left =
        run_goes_on T budget f W.state W.units W.running s left e (turn_less T W.state s W.units left e) in
        record { state = s; units = t.state.units; running = subst (Running T budget f s) (sym a.1) r; turned = A.answer T G s a.2 }

pub loops_on : {tab : List ℕ} {inputs : Pairs} {t₀ t u : Turned} → Looping tab inputs t₀ t → t.end ≡ None →
    Turns tab inputs.bytes inputs.count t.state u → Looping tab inputs t₀ u
loops_on {tab} {inputs} {t₀} {t} {u} L v A =
    let a = L.within in
    let b = A.safe.less in
    record {
      fine = A.safe.fine;
      within = omega arith;
      way = λ T I budget f W. next_turn tab inputs.bytes inputs.count T budget f t u (given_of tab inputs T I) v A (L.way T I budget f W);
    }

-- A turn that goes on makes an entry, of at most 512; one that ends is the last.
unfoldable pub ongoing : Option Ending → ℕ
ongoing None = 1
ongoing (Some e) = 0

abbrev pub left_over : Turned → ℕ
left_over t = ongoing t.end + 2 * (most_entries - t.state.log.count)

pub loop_falls : (t u : Turned) → t.end ≡ None → TurnSafe t.state u → left_over u < left_over t
unfolding ongoing
loop_falls t u v A = go u.end refl
  where
    go : (w : Option Ending) → u.end ≡ w → left_over u < left_over t
    go None e =
        let few = A.fine.log_few in
        omega (arith, A.grows e, ap ongoing v, ap ongoing e)
    go (Some f) e =
        let same : u.state.log.count ≡ t.state.log.count = ap (λ (x : State). x.log.count) (A.stays (λ g. goes≢ends g e)) in
        omega (arith, same, ap ongoing v, ap ongoing e)

-- `run_from`
ends : (tab : List ℕ) (T : Theory) (budget : ℕ) (f : Finished) (t : Turned) (end : Ending) → t.end ≡ Some end → OnTheWay tab T budget f t →
    Leaves tab f t.state end (budget - t.state.units)
ends tab T budget f t end v W = go (turn T W.state W.units) refl W.turned
  where
    go : (p : Paid RunState) → turn T W.state W.units ≡ p → TurnedIs tab W.state t p → Leaves tab f t.state end (budget - t.state.units)
    go (done s left) e a = absurd (goes≢ends a.0 v)
    go (stop x left) e a =
        let z : f ≡ record { end = x; units = budget - left; state = W.state } = run_ends T budget f W.state W.units W.running x left e in
        subst (λ (r : Finished). Leaves tab r t.state end (budget - t.state.units)) (sym z)
        (record { state = a.2; end_is = same_end v a.0; paid_is = ap (λ u. budget - u) a.1 })

pub run_ended : {tab : List ℕ} {inputs : Pairs} {first : State} {t₀ t : Turned} {end : Ending} {o : Ran} →
    Turns tab inputs.bytes inputs.count first t₀ → Looping tab inputs t₀ t → t.end ≡ Some end → o ≡ ended_run t end first.units →
    RunsFrom tab inputs first o
run_ended {tab} {inputs} {first} {t₀} {t} {end} A L v e =
    subst (RunsFrom tab inputs first) (sym e)
    (record {
      fine = L.fine;
      within = omega arith;
      answer = λ T I s R.
          let f : Finished = run_from T s first.units in
          ends tab T first.units f t end v (L.way T I first.units f (first_turn A T I s R));
    })

-- `run`: from the state that stands for the first one
pub run_initial : {tab : List ℕ} {inputs : Pairs} {budget : ℕ} {first : State} {o : Ran} → Initial inputs budget first → RunsFrom tab inputs first o →
    Runs tab inputs budget o
run_initial {tab} {inputs} {budget} {first} {o} A R =
    let w = R.within in
    record {
      fine = R.fine;
      within = omega (arith, A.units);
      answer = λ T I.
          subst (λ b. Leaves tab (run_from T (initial T) b) o.state o.end o.paid) A.units
          (R.answer T I (initial T) (A.represents tab T I.held));
    }
