-- What a run leaves that began with a problem, resumed or not: records that the engine wrote, with all that the promise of complete says of its result,
-- and the end and the state of the run with no budget. For problems, and for saved records that the engine wrote. Assumes nothing.
-- Read first: specs/Wrote, proofs/Saved, proofs/NoBudget, completion/proofs/Promised (Kept).
use mathlib.Core.Path.{◌≡◌, refl, sym, ap, subst, ◌∙◌}
use mathlib.Core.List.{List, []}
use mathlib.Core.Logic.{⊎_elim}
use Prim.Native.Nat.{ℕ, ◌≤◌, ◌<◌}
use native.Mathlib.Omega.{arith}
use lib.ListN.{length}
use Rattle.limits.specs.Limits.{longest_saved}
use Rattle.rewriting.specs.Rewrite.{End, spent}
use Rattle.problem.specs.Problem.{ok, Theory, Problem, theory, parse}
use Rattle.completion.specs.Turn.{Finished, run_from, run}
use Rattle.completion.proofs.Promised.{Kept, stopped_kept}
use Rattle.checkpoint.specs.Checkpoint.{Checkpoint}
use Rattle.checkpoint.specs.Resume.{Left, saved_at, leaves, resumed, read_resumption}
use Rattle.checkpoint.specs.Wrote.{EngineRan, begun, again, EngineSaved, EngineWrote, Delivered}
use Rattle.checkpoint.proofs.Again.{saved_is, saved_or_none}
use Rattle.checkpoint.proofs.RoundTrip.{checkpoint_length}
use Rattle.checkpoint.proofs.Saved.{Known, known, known_writable, resumed_from}
use Rattle.checkpoint.proofs.NoBudget.{ran_no_budget}

-- What a reader of kept results rests on, of whatever the engine wrote.
pub engine_kept : {T : Theory} {f : Finished} {result : List ℕ} → EngineWrote T f result → Kept T f result
unfolding leaves
engine_kept {T} {f} {result} w =
    let k : Known T f = known w.ran in
    subst (Kept T f) (sym w.bytes_are) (stopped_kept T k.accepted k.budget f k.stopped k.few)

-- Their saved records fit the lent buffer.
pub engine_saved_length : (T : Theory) (f : Finished) (bytes : List ℕ) → EngineSaved T f bytes → length bytes ≤ longest_saved
engine_saved_length T f bytes w =
    let l = checkpoint_length (record { theory = T; state = f.state }) (known_writable T f (known w.ran)) in
    rw (w.bytes_are ∙ saved_is T f w.stopped) l

-- where something is saved, the budget was spent
saved_spent : (e : End) (c : Checkpoint) → 0 < length (saved_at e c) → e ≡ spent
saved_spent e c h = ⊎_elim (λ q. q) (λ none. absurd (omega (arith, ap length none))) (saved_or_none e c)

-- The theorem: "For records that the engine wrote the delivery theorem holds".
pub delivered : (T : Theory) (f : Finished) → EngineRan T f → Delivered T f (leaves T f)
unfolding leaves
delivered T f r =
    let w : EngineWrote T f (leaves T f).result = record { ran = r; bytes_are = refl } in
    record {
      wrote = w;
      saved = λ h. record { ran = r; stopped = saved_spent f.end (record { theory = T; state = f.state }) h; bytes_are = refl };
      promise = (engine_kept w).promise;
      no_budget = ran_no_budget r;
    }

-- of a problem that complete accepts
pub problem_delivered : (bytes : List ℕ) (P : Problem) → parse bytes ≡ ok P → Delivered (theory P) (run P) (leaves (theory P) (run P))
problem_delivered bytes P e = delivered (theory P) (run P) (begun bytes P e refl refl)

-- of a saved record that the engine wrote: the run goes on in the state that was saved
pub resumed_delivered : (T : Theory) (f : Finished) (bytes : List ℕ) (budget : ℕ) (c : Checkpoint) → EngineSaved T f bytes →
    read_resumption bytes budget ≡ ok c →
    (c ≡ record { theory = T; state = f.state }) × Delivered T (run_from T f.state budget) (leaves T (run_from T f.state budget))
unfolding resumed
resumed_delivered T f bytes budget c w e =
    let same : c ≡ record { theory = T; state = f.state } = resumed_from T f bytes w budget c e in
    let read : read_resumption (leaves T f).saved budget ≡ ok c = ap (λ b. read_resumption b budget) (sym w.bytes_are) ∙ e in
    (same, delivered T _ (again c budget w.ran read (ap (λ d. resumed d budget) (sym same))))

-- without what was saved
pub result_only : (T : Theory) (f : Finished) (l : Left) → Delivered T f l → Delivered T f (record { result = l.result; saved = [] })
result_only T f l d = record { wrote = d.wrote; saved = λ h. absurd (omega arith); promise = d.promise; no_budget = d.no_budget }
