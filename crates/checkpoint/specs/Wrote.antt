-- Document 02, Seven: which records count as ones that the engine wrote, what is promised of them, and the run with no budget; section 21 of
-- docs/DEFINITION.md. Assumes nothing.
-- Read first: Resume, completion/specs/Promise (Promise).
use Rattle.std.specs.Prelude.{◌≡◌, List, ℕ, ◌≤◌, ◌<◌, length}
use Rattle.rewriting.specs.Rewrite.{End, spent}
use Rattle.problem.specs.Problem.{ok, Theory, Problem, theory, parse}
use Rattle.completion.specs.Turn.{State, Finished, initial, run_from, run}
use Rattle.completion.specs.Promise.{Promise}
use Rattle.checkpoint.specs.Checkpoint.{Checkpoint}
use Rattle.checkpoint.specs.Resume.{Left, leaves, resumed, read_resumption}

-- "a run begun from a problem, resumed or not": T is the theory of the problem that it began with, and f what it leaves. It is resumed from the saved
-- record that it left itself and from no other, so it had ended with 21. [21.18]
pub data EngineRan (T : Theory) : Finished → Type 0 where
  begun : {f : Finished} (bytes : List ℕ) (P : Problem) → parse bytes ≡ ok P → theory P ≡ T → f ≡ run P → EngineRan T f
  again : {f g : Finished} (c : Checkpoint) (budget : ℕ) → EngineRan T f → read_resumption (leaves T f).saved budget ≡ ok c → g ≡ resumed c budget →
      EngineRan T g

-- "A record, saved or result, counts as one that the engine wrote only when a run begun from a problem, resumed or not, leaves those bytes; that resuming
-- wrote it from some other record isn't enough." [18.15, 21.18]
pub record EngineWrote (T : Theory) (f : Finished) (result : List ℕ) : Type 0 where
  pub ran : EngineRan T f
  pub bytes_are : result ≡ (leaves T f).result

pub record EngineSaved (T : Theory) (f : Finished) (bytes : List ℕ) : Type 0 where
  pub ran : EngineRan T f
  pub stopped : f.end ≡ spent
  pub bytes_are : bytes ≡ (leaves T f).saved

-- "the end, rules and log of the run with no budget": from some budget on, over all whole numbers, the run does not end with 21, and every one leaves the
-- same state, of which the rules and the log are parts [21.21]
pub record WithNoBudget (T : Theory) (end : End) (s : State) : Type 0 where
  pub not_spent : end ≡ spent → ⊥
  pub enough : ℕ
  pub same_end : (budget : ℕ) → enough ≤ budget → (run_from T (initial T) budget).end ≡ end
  pub same_state : (budget : ℕ) → enough ≤ budget → (run_from T (initial T) budget).state ≡ s

-- What a call leaves of a run begun from a problem, resumed or not: its result and, where there is one, its saved record count as ones that the engine
-- wrote. "For records that the engine wrote the delivery theorem holds: rules that a run resumed from one writes with end 0 count as delivered as complete
-- for the problem the run began with": all that the promise of complete says of its result. "A run saved and resumed any number of times has, unless it
-- ends with 21, the end, rules and log of the run with no budget." [21.18, 21.20, 21.21]
pub record Delivered (T : Theory) (f : Finished) (l : Left) : Type 0 where
  pub wrote : EngineWrote T f l.result
  pub saved : 0 < length l.saved → EngineSaved T f l.saved
  pub promise : Promise T f l.result
  pub no_budget : (f.end ≡ spent → ⊥) → WithNoBudget T f.end f.state
