-- There is a run with no budget for every theory: a turn ends, and every turn that goes on adds an entry, of which there are at most 512. Assumes nothing.
-- Read first: proofs/Finishes, proofs/NoBudget.
use mathlib.Core.Path.{◌≡◌, refl, ap₂, ◌∙◌}
use mathlib.Core.List.{List}
use Prim.Native.Nat.{ℕ, zero, suc, ◌+◌, ◌≤◌, ◌<◌}
use native.Mathlib.Omega.{arith}
use lib.ListN.{length}
use Rattle.terms.proofs.Every.{every_map}
use Rattle.rewriting.specs.Rewrite.{End, spent, Paid, done, stop}
use Rattle.problem.specs.Problem.{rank_of, Theory}
use Rattle.completion.specs.Turn.{State, Finished, initial, turn}
use Rattle.completion.specs.Calls.{result_bytes}
use Rattle.completion.proofs.Lawful.{Other}
use Rattle.completion.proofs.Ends.{Next, settles, makes, puts_back}
use Rattle.completion.proofs.Reachable.{Reachable, from_start, by_turn, turn_next, next_entry}
use Rattle.completion.proofs.Stopped.{Stopped}
use Rattle.completion.proofs.Invariant.{reachable_good}
use Rattle.checkpoint.specs.Resume.{leaves}
use Rattle.checkpoint.specs.Wrote.{EngineRan, EngineWrote, WithNoBudget}
use Rattle.checkpoint.proofs.NoBudget.{no_budget, one_end, ran_no_budget}
use Rattle.checkpoint.proofs.Finishes.{Over, Ending, DownRules, turn_ending}

-- step 2: a turn that goes on had room in the log
room : (T : Theory) (s s' : State) → Next T s s' → length s.log < 512
room T s s' (settles t h r q e) = r
room T s s' (makes t h r d few sides o live all g e) = r
room T s s' (puts_back t h r d few n may e) = r

not_spent : (e : End) → Other e → e ≡ spent → ⊥
not_spent e o q = rw q at o

module _ (T : Theory) where
  down : {s : State} → Reachable T s → DownRules (rank_of T.symbols) s.rules
  down r = every_map (λ rule q. q.down) (reachable_good T r)

  -- Where it stops.
  record Finishes : Type 0 where
    finished : Finished
    given : ℕ
    stopped : Stopped T given finished
    otherwise : finished.end ≡ spent → ⊥

  one_turn : (s : State) → Reachable T s → (units : ℕ) (p : Paid State) → turn T s units ≡ p → Over p →
      ((s' : State) → Reachable T s' → length s'.log ≡ suc (length s.log) → length s.log < 512 → Finishes) → Finishes
  one_turn s c units (done s' left) e o k =
      let n : Next T s s' = turn_next T s s' units left e in
      k s' (by_turn units c e) (next_entry T s s' n) (room T s s' n)
  one_turn s c units (stop end left) e o k =
      record {
        finished = record { end = end; units = 0; state = s };
        given = left;
        stopped = record { left = units; reachable = c; left_over = left; stops = e; paid = omega arith };
        otherwise = not_spent end o;
      }

  finishes : (n : ℕ) (s : State) → Reachable T s → 512 ≤ length s.log + n → Finishes
  finishes zero s c l =
      let h : Ending (turn T s) = turn_ending T s (down c) in
      one_turn s c h.units (turn T s h.units) refl h.over (λ s' c' q r. absurd (omega arith))
  finishes (suc n) s c l =
      let h : Ending (turn T s) = turn_ending T s (down c) in
      one_turn s c h.units (turn T s h.units) refl h.over (λ s' c' q r. finishes n s' c' (omega arith))

  -- "the run with no budget"
  pub with_no_budget : (end : End) × (s : State) × WithNoBudget T end s
  with_no_budget =
      let f : Finishes = finishes 512 (initial T) (from_start refl) (omega arith) in
      (f.finished.end, f.finished.state, no_budget T f.given f.finished f.stopped f.otherwise)

-- "A run saved and resumed any number of times has, unless it ends with 21, the end, rules and log of the run with no budget."
pub ran_like_no_budget : {T : Theory} {f : Finished} → EngineRan T f → (f.end ≡ spent → ⊥) →
    (f.end ≡ (with_no_budget T).0) × (f.state ≡ (with_no_budget T).1)
ran_like_no_budget {T} {f} h n =
    one_end T f.end (with_no_budget T).0 f.state (with_no_budget T).1 (ran_no_budget h n) (with_no_budget T).2

-- So a result that the engine wrote with another end than 21 is that of the run with no budget, but for the units.
pub engine_result_is : (T : Theory) (f : Finished) (result : List ℕ) → EngineWrote T f result → (f.end ≡ spent → ⊥) →
    result ≡ result_bytes (record { end = (with_no_budget T).0; units = f.units; state = (with_no_budget T).1 })
unfolding leaves
engine_result_is T f result w n =
    let q = ran_like_no_budget w.ran n in
    w.bytes_are ∙ ap₂ (λ e s. result_bytes (record { end = e; units = f.units; state = s })) q.0 q.1
