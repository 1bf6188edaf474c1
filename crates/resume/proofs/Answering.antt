-- The answers of `read_resumption` and `resume`, from the promises of their parts, and delivery for each. Assumes nothing.
-- Read first: specs/Resumes, checkpoint/specs/Resume (read_resumption, resume_call), checkpoint/proofs/Delivers (resumed_delivered).
use mathlib.Core.Path.{◌≡◌, refl, sym, ap, subst, ◌∙◌}
use mathlib.Core.List.{List, []}
use Prim.Native.Nat.{ℕ, ◌<◌, ◌≤◌}
use native.Mathlib.Omega.{arith}
use lib.ListN.{length, take}
use borrow.Author.Tests.{lt-ltb, le-ltb}
use Rattle.limits.specs.Limits.{most_budget, least_buffer}
use Rattle.reading.specs.Stops.{short_buffer, large_budget}
use Rattle.reading.proofs.Reading.{bind_ok, bind_refused, refuses}
use Rattle.problem.specs.Problem.{Reading, ok, refused, ◌>>=◌, refuse_if, Theory}
use Rattle.completion.specs.Turn.{Finished, run_from}
use Rattle.completion.specs.Calls.{result_bytes, enough, counted, after_complete, Writes}
use Rattle.completion.proofs.Writing.{written_front, room_enough}
use Rattle.checkpoint.specs.Checkpoint.{Checkpoint, read_checkpoint}
use Rattle.checkpoint.specs.Resume.{leaves, resumed, read_resumption, resume_call}
use Rattle.checkpoint.specs.Wrote.{EngineSaved, Delivered}
use Rattle.checkpoint.proofs.Saved.{never_16}
use Rattle.checkpoint.proofs.Delivers.{resumed_delivered, result_only}
use Rattle.run.specs.declared.Ran.{Ran}
use Rattle.report.specs.Report.{Reports}
use Rattle.loading.specs.declared.Front.{Front}
use Rattle.loading.specs.declared.Counts.{Counts}
use Rattle.loading.specs.Loads.{LoadedAt}
use Rattle.resume.proofs.Standing.{run_leaves}
use Rattle.resume.specs.Resumes.{state_of, RunsRecord, TakenAt, resumed_told, Redelivers, ResumedFew}
use Rattle.std.proofs.Common.{Result, Ok, Err}
use Rattle.problem.specs.Reasons.{number_of_reason}
use Rattle.problem.specs.declared.Reason.TheVariants.{ShortBuffer}
use Rattle.problem.specs.declared.Refusal.{Refusal}

-- `read_resumption`
module _ (l : List ℕ) (budget : ℕ) where
  pub taken_refused : {n p : ℕ} → read_checkpoint l ≡ refused n p → read_resumption l budget ≡ refused n p
  unfolding read_resumption
  taken_refused e = bind_refused _ e

  pub taken_large : {c : Checkpoint} → read_checkpoint l ≡ ok c → most_budget < budget → read_resumption l budget ≡ refused large_budget 0
  unfolding read_resumption
  taken_large e h = bind_ok _ e ∙ refuses _ large_budget 0 _ (lt-ltb most_budget budget h)

  pub taken_fine : {front : Front} {slots log : List ℕ} {counts : Counts} {c : Checkpoint} → LoadedAt l front slots log counts c → budget ≤ most_budget →
      TakenAt l budget front slots log counts c
  unfolding read_resumption ◌>>=◌ refuse_if
  taken_fine L h = record { is = bind_ok _ L.is ∙ rw (le-ltb most_budget budget h) refl; loaded = L; budget_few = h }

-- the bytes that were written stand at the front
pub writes_front : {before ys after : List ℕ} {r : ℕ} → Writes before ys after r → take r after ≡ ys
writes_front {before} {ys} {after} {r} w = ap (take r) w.bytes ∙ written_front ys before r (sym w.count)

-- `resume`
pub record Answered (l : List ℕ) (budget : ℕ) (before after : List ℕ) (r : Result ℕ Refusal) : Type 0 where
  pub answer : resumed_told r ≡ counted (resume_call l budget (length before))
  pub bytes : after ≡ after_complete (resume_call l budget (length before)) before
  pub delivery : Redelivers l budget after r
  pub few : ResumedFew r

module _ (l : List ℕ) (budget : ℕ) (before : List ℕ) where
  answered : {after : List ℕ} {r : Result ℕ Refusal} (c : Reading (List ℕ)) → resume_call l budget (length before) ≡ c → resumed_told r ≡ counted c →
      after ≡ after_complete c before → Redelivers l budget after r → ResumedFew r → Answered l budget before after r
  answered c e a b d few = record { answer = a ∙ ap counted (sym e); bytes = b ∙ ap (λ x. after_complete x before) (sym e); delivery = d; few = few }

  pub answers_short : length before < least_buffer → Answered l budget before before (Err (record { reason = ShortBuffer; place = 0 }))
  unfolding resumed_told counted after_complete Redelivers ResumedFew resume_call enough
  answers_short h =
      answered (refused short_buffer 0) (refuses _ short_buffer 0 _ (lt-ltb (length before) least_buffer h)) refl refl
      (λ T f w e. absurd (omega (arith, e))) tt

  -- with room the call is the resumption and its result
  with_room : least_buffer ≤ length before →
      resume_call l budget (length before) ≡ (read_resumption l budget >>= λ c. ok (result_bytes (resumed c budget)))
  unfolding resume_call
  with_room room = bind_ok _ (room_enough (length before) room)

  pub answers_refused : {r : Refusal} → least_buffer ≤ length before →
      read_resumption l budget ≡ refused (number_of_reason r.reason) r.place → Answered l budget before before (Err r)
  unfolding resumed_told counted after_complete Redelivers ResumedFew
  answers_refused {r} room e =
      answered (refused _ _) (with_room room ∙ bind_refused _ e) refl refl (λ T f w. never_16 T f l w budget _ r.place e) tt

  -- what is written delivers: the record was that of the run's own theory and last state
  delivers : {c : Checkpoint} {after : List ℕ} {r : ℕ} → read_resumption l budget ≡ ok c → Writes before (result_bytes (resumed c budget)) after r →
      (T : Theory) (f : Finished) → EngineSaved T f l → Delivered T (run_from T f.state budget) (record { result = take r after; saved = [] })
  unfolding leaves resumed
  delivers {c} {after} {r} e w T f saved =
      let D = resumed_delivered T f l budget c saved e in
      let g : Finished = run_from T f.state budget in
      let is : take r after ≡ (leaves T g).result = writes_front w ∙ ap (λ (x : Checkpoint). result_bytes (resumed x budget)) D.0 in
      subst (λ z. Delivered T g (record { result = z; saved = [] })) (sym is) (result_only T g (leaves T g) D.1)

  pub answers_written : {front : Front} {slots log : List ℕ} {counts : Counts} {o : Ran} {after : List ℕ} {r : ℕ} → least_buffer ≤ length before →
      ((c : Checkpoint) × TakenAt l budget front slots log counts c) → RunsRecord l front (state_of front.next counts slots log budget) o →
      Reports o.state o.end o.paid before after r → Answered l budget before after (Ok r)
  unfolding resumed_told counted after_complete Redelivers ResumedFew
  answers_written room (c, A) R W =
      let w = W.writes _ _ (run_leaves A.loaded budget R) in
      answered (ok (result_bytes (resumed c budget))) (with_room room ∙ bind_ok _ A.is) (ap ok w.count) w.bytes (delivers A.is w) W.few
