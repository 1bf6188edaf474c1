-- The answers of the two calls that save, from the promises of their parts: what they share is said of the call's reading; then delivery, for each.
-- Assumes nothing.
-- Read first: specs/Leaving, checkpoint/specs/Resume (complete_saving_call, resume_saving_call), checkpoint/proofs/Delivers.
use mathlib.Core.Path.{◌≡◌, refl, sym, ap, subst, subst₂, ◌∙◌}
use mathlib.Core.Bool.{Bool, true, false, ◌||◌}
use mathlib.Core.List.{List}
use Prim.Native.Nat.{ℕ, ◌<◌, ◌≤◌}
use native.Mathlib.Omega.{arith}
use lib.Dec.{ltb}
use lib.ListN.{length, take}
use borrow.Author.Tests.{lt-ltb, le-ltb, ltb-false}
use Rattle.limits.specs.Limits.{least_buffer, least_saved}
use Rattle.terms.proofs.Shape.{zero≢one}
use Rattle.reading.specs.Stops.{short_buffer}
use Rattle.reading.proofs.Reading.{bind_ok, bind_refused}
use Rattle.problem.specs.Problem.{Reading, ok, refused, ◌>>=◌, refuse_if, Theory, Problem, theory, parse}
use Rattle.problem.specs.Parser.{ParsedAt}
use Rattle.problem.proofs.Reading.{ok_injective}
use Rattle.completion.specs.Turn.{Finished, run_from, run}
use Rattle.completion.specs.Calls.{enough}
use Rattle.checkpoint.specs.Checkpoint.{Checkpoint}
use Rattle.checkpoint.specs.Resume.{Left as LeftBytes, leaves, resumed, enough_to_save, complete_saving_call, read_resumption, resume_saving_call}
use Rattle.checkpoint.specs.Resume.{after_result, after_saved}
use Rattle.checkpoint.specs.Wrote.{Delivered}
use Rattle.checkpoint.proofs.Saved.{never_16}
use Rattle.checkpoint.proofs.Delivers.{problem_delivered, resumed_delivered}
use Rattle.run.specs.declared.Ran.{Ran}
use Rattle.loading.specs.declared.Front.{Front}
use Rattle.loading.specs.declared.Counts.{Counts}
use Rattle.resume.specs.Resumes.{state_of, RunsRecord, TakenAt}
use Rattle.resume.proofs.Standing.{run_leaves}
use Rattle.resume.proofs.Answering.{writes_front}
use Rattle.saving_calls.specs.Leaving.{one_short, left_told, lengths, CountsFew, LeftFew, LeavesAs, LeavesBoth}
use Rattle.saving_calls.specs.Leaving.{RunsProblem, SavingDelivers, SavingRedelivers}
use Rattle.saving_calls.specs.declared.Left.{Left}
use Rattle.std.proofs.Common.{Result, Ok, Err}
use Rattle.problem.specs.Reasons.{number_of_reason}
use Rattle.problem.specs.declared.Reason.TheVariants.{ShortBuffer}
use Rattle.problem.specs.declared.Refusal.{Refusal}
use Rattle.saving_calls.proofs.Writing.{problem_theory, record_theory}

-- `short`
pub short_result : (result saved : ℕ) → result < least_buffer → true ≡ one_short result saved
unfolding one_short
short_result result saved h = rw (lt-ltb result least_buffer h) refl

pub short_saved : (result saved : ℕ) → least_buffer ≤ result → ltb saved least_saved ≡ one_short result saved
unfolding one_short
short_saved result saved h = rw (le-ltb result least_buffer h) refl

pub room : (result saved : ℕ) → one_short result saved ≡ false → (least_buffer ≤ result) × (least_saved ≤ saved)
unfolding one_short
room result saved h = go (ltb result least_buffer) (ltb saved least_saved) refl refl h
  where
    go : (a b : Bool) → ltb result least_buffer ≡ a → ltb saved least_saved ≡ b → (a || b) ≡ false → (least_buffer ≤ result) × (least_saved ≤ saved)
    go true b p q h = absurd (zero≢one (cc))
    go false true p q h = absurd (zero≢one (cc))
    go false false p q h = (ltb-false result least_buffer p, ltb-false saved least_saved q)

-- both calls: 1 for either buffer, and then what is read
abbrev lent : ℕ → ℕ → Reading LeftBytes → Reading LeftBytes
lent result saved m = enough result >>= λ _. enough_to_save saved >>= λ _. m

lent_short : (result saved : ℕ) (m : Reading LeftBytes) → one_short result saved ≡ true → lent result saved m ≡ refused short_buffer 0
unfolding one_short enough enough_to_save refuse_if ◌>>=◌
lent_short result saved m h = go (ltb result least_buffer) (ltb saved least_saved) h
  where
    go : (a b : Bool) → (a || b) ≡ true → (refuse_if a short_buffer 0 >>= λ _. refuse_if b short_buffer 0 >>= λ _. m) ≡ refused short_buffer 0
    go true b h = refl
    go false true h = refl
    go false false h = absurd (zero≢one (cc))

lent_enough : (result saved : ℕ) (m : Reading LeftBytes) → one_short result saved ≡ false → lent result saved m ≡ m
unfolding one_short enough enough_to_save refuse_if ◌>>=◌
lent_enough result saved m h = go (ltb result least_buffer) (ltb saved least_saved) h
  where
    go : (a b : Bool) → (a || b) ≡ false → (refuse_if a short_buffer 0 >>= λ _. refuse_if b short_buffer 0 >>= λ _. m) ≡ m
    go true b h = absurd (zero≢one (cc))
    go false true h = absurd (zero≢one (cc))
    go false false h = refl

-- The answer of a call that comes to this reading, with what is promised of the bytes that it leaves.
pub record Answered (call : Reading LeftBytes) (D : List ℕ → List ℕ → Result Left Refusal → Type 0) (before after before' after' : List ℕ)
    (r : Result Left Refusal) : Type 0 where
  pub answer : left_told r ≡ lengths call
  pub result : after ≡ after_result call before
  pub saved : after' ≡ after_saved call before'
  pub delivery : D after after' r
  pub few : LeftFew r

module _ {call : Reading LeftBytes} {D : List ℕ → List ℕ → Result Left Refusal → Type 0} {before before' : List ℕ} where
  answers_refused : {r : Refusal} → call ≡ refused (number_of_reason r.reason) r.place → D before before' (Err r) →
      Answered call D before before before' before' (Err r)
  unfolding left_told lengths after_result after_saved LeftFew
  answers_refused e d = record { answer = rw e refl; result = rw e refl; saved = rw e refl; delivery = d; few = tt }

  answers_written : {y : LeftBytes} {after after' : List ℕ} → call ≡ ok y → (r : Left) → LeavesAs y before after before' after' r → CountsFew r →
      D after after' (Ok r) → Answered call D before after before' after' (Ok r)
  unfolding left_told lengths after_result after_saved LeftFew
  answers_written e r (w, v) few d =
      record { answer = rw (e, w.count, v.count) refl; result = rw e w.bytes; saved = rw e v.bytes; delivery = d; few = few }

-- what stands at the front of the two buffers delivers
delivers : {T : Theory} {f : Finished} {y : LeftBytes} {before after before' after' : List ℕ} {r : Left} → Delivered T f y →
    LeavesAs y before after before' after' r → Delivered T f (record { result = take r.result after; saved = take r.saved after' })
delivers {T} {f} D (w, v) =
    subst₂ (λ a b. Delivered T f (record { result = a; saved = b })) (sym (writes_front w)) (sym (writes_front v)) D

-- `complete_saving`
module _ (problem before before' : List ℕ) where
  abbrev Completes : List ℕ → List ℕ → Result Left Refusal → Type 0
  Completes after after' r =
      Answered (complete_saving_call problem (length before) (length before')) (SavingDelivers problem) before after before' after' r

  pub completes_short : one_short (length before) (length before') ≡ true → Completes before before' (Err (record { reason = ShortBuffer; place = 0 }))
  unfolding complete_saving_call SavingDelivers
  completes_short h = answers_refused (lent_short _ _ _ h) tt

  module _ (enough : one_short (length before) (length before') ≡ false) where
    pub completes_refused : (r : Refusal) → parse problem ≡ refused (number_of_reason r.reason) r.place → Completes before before' (Err r)
    unfolding complete_saving_call SavingDelivers
    completes_refused r e = answers_refused (lent_enough _ _ _ enough ∙ bind_refused _ e) tt

    completion_delivers : (after after' : List ℕ) (P : Problem) → parse problem ≡ ok P → (r : Left) →
        LeavesAs (leaves (theory P) (run P)) before after before' after' r → SavingDelivers problem after after' (Ok r)
    unfolding SavingDelivers
    completion_delivers after after' P e r w = λ Q q.
        let same : P ≡ Q = ok_injective (sym e ∙ q) in
        subst (λ (Q : Problem). Delivered (theory Q) (run Q) (record { result = take r.result after; saved = take r.saved after' })) same
        (delivers (problem_delivered problem P e) w)

    pub completes_written : {e b at n : ℕ} {P : Problem} {o : Ran} {after after' : List ℕ} {r : Left} → ParsedAt problem e b at n P →
        RunsProblem problem e b at n o → LeavesBoth o problem e at n before after before' after' r → Completes after after' (Ok r)
    unfolding complete_saving_call
    completes_written {P = P} {after = after} {after' = after'} {r = r} A R L =
        let w : LeavesAs (leaves (theory P) (run P)) before after before' after' r = L.both (theory P) (run P) (problem_theory A) (R.answer P A) in
        answers_written (lent_enough _ _ _ enough ∙ bind_ok _ A.is) r w L.few (completion_delivers after after' P A.is r w)

-- `resume_saving`
module _ (kept : List ℕ) (budget : ℕ) (before before' : List ℕ) where
  abbrev Resumes : List ℕ → List ℕ → Result Left Refusal → Type 0
  Resumes after after' r =
      Answered (resume_saving_call kept budget (length before) (length before')) (SavingRedelivers kept budget) before after before' after' r

  pub resumes_short : one_short (length before) (length before') ≡ true → Resumes before before' (Err (record { reason = ShortBuffer; place = 0 }))
  unfolding resume_saving_call SavingRedelivers
  resumes_short h = answers_refused (lent_short _ _ _ h) (λ T f w e. absurd (omega (arith, e)))

  module _ (enough : one_short (length before) (length before') ≡ false) where
    pub resumes_refused : (r : Refusal) → read_resumption kept budget ≡ refused (number_of_reason r.reason) r.place → Resumes before before' (Err r)
    unfolding resume_saving_call SavingRedelivers
    resumes_refused r e = answers_refused (lent_enough _ _ _ enough ∙ bind_refused _ e) (λ T f w. never_16 T f kept w budget _ r.place e)

    -- the record was that of the run's own theory and last state
    resumption_delivers : (after after' : List ℕ) (c : Checkpoint) → read_resumption kept budget ≡ ok c → (r : Left) →
        LeavesAs (leaves c.theory (resumed c budget)) before after before' after' r → SavingRedelivers kept budget after after' (Ok r)
    unfolding SavingRedelivers resumed
    resumption_delivers after after' c e r w = λ T f saved.
        let D = resumed_delivered T f kept budget c saved e in
        let left : LeftBytes = leaves T (run_from T f.state budget) in
        let is : left ≡ leaves c.theory (resumed c budget) = ap (λ (x : Checkpoint). leaves x.theory (resumed x budget)) (sym D.0) in
        delivers (subst (Delivered T (run_from T f.state budget)) is D.1) w

    pub resumes_written : {front : Front} {slots log : List ℕ} {counts : Counts} {o : Ran} {after after' : List ℕ} {r : Left} →
        ((c : Checkpoint) × TakenAt kept budget front slots log counts c) → RunsRecord kept front (state_of front.next counts slots log budget) o →
        LeavesBoth o kept front.table front.table front.equations before after before' after' r → Resumes after after' (Ok r)
    unfolding resume_saving_call
    resumes_written {after = after} {after' = after'} {r = r} (c, A) R L =
        let w : LeavesAs (leaves c.theory (resumed c budget)) before after before' after' r =
        L.both c.theory (resumed c budget) (record_theory A.loaded) (run_leaves A.loaded budget R) in
        answers_written (lent_enough _ _ _ enough ∙ bind_ok _ A.is) r w L.few (resumption_delivers after after' c A.is r w)
