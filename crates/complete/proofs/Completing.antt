-- The call complete from the promises of its parts: the run's result of an accepted problem, and the three answers. Assumes nothing.
-- Read first: specs/Answer, completion/specs/Calls (complete_call, after_complete), run/specs/Runs (Runs), run/proofs/Begun, proofs/Delivering.
use mathlib.Core.Path.{◌≡◌, refl, sym, ap, ◌∙◌}
use mathlib.Core.List.{List}
use Prim.Native.Nat.{ℕ, ◌<◌, ◌≤◌}
use lib.ListN.{length}
use borrow.Author.Tests.{lt-ltb}
use Rattle.limits.specs.Limits.{least_buffer}
use Rattle.problem.specs.Problem.{Reading, ok, refused, ◌>>=◌, refuse_if, Problem, parse}
use Rattle.completion.specs.Turn.{run}
use Rattle.completion.specs.Calls.{result_bytes, enough, complete_call, counted, after_complete, Writes}
use Rattle.report.specs.Report.{Reports}
use Rattle.completion.proofs.Writing.{complete_is}
use Rattle.slots.specs.declared.Pairs.{Pairs}
use Rattle.items.specs.Readers.{part}
use Rattle.inputs.specs.Inputs.{InputsRead}
use Rattle.run.specs.Runs.{Runs}
use Rattle.run.specs.declared.Ran.{Ran}
use Rattle.run.proofs.Begun.{begun_leaves}
pub use Rattle.run.proofs.Begun.{accepted_needs}
use Rattle.complete.specs.Answer.{completed_told, Delivery, WritesProblem}
use Rattle.std.specs.Prelude.{Result, Ok, Err}
use Rattle.problem.specs.declared.Input.{Input}
use Rattle.problem.specs.declared.Reason.TheVariants.{ShortBuffer}
use Rattle.problem.specs.declared.Refusal.{Refusal}
use Rattle.problem.specs.Reasons.{number_of_reason}
use Rattle.complete.proofs.Delivering.{delivery}

-- `accepted`
pub accepted_run : (l : List ℕ) (i : Input) (inputs : Pairs) (before after : List ℕ) (o : Ran) (r : ℕ) →
    InputsRead (part l 3 i.table_end) l i.equations i.count inputs → Runs (part l 3 i.table_end) inputs i.budget o →
    Reports o.state o.end o.paid before after r → WritesProblem l i before after r
accepted_run l i inputs before after o r I R W P A =
    W.writes (part l 3 i.table_end) (run P) (begun_leaves l i.table_end i.budget i.equations i.count inputs o I R P A)

-- `complete`
pub record Answered (problem before after : List ℕ) (r : Result ℕ Refusal) : Type 0 where
  pub answer : completed_told r ≡ counted (complete_call problem (length before))
  pub bytes : after ≡ after_complete (complete_call problem (length before)) before

module _ (problem before : List ℕ) where
  refused_short : length before < least_buffer → complete_call problem (length before) ≡ refused 1 0
  unfolding complete_call enough refuse_if ◌>>=◌
  refused_short h = rw (lt-ltb (length before) least_buffer h) refl

  answered : (after : List ℕ) (r : Result ℕ Refusal) (c : Reading (List ℕ)) → complete_call problem (length before) ≡ c →
      completed_told r ≡ counted c → after ≡ after_complete c before → Answered problem before after r
  answered after r c e a b = record { answer = a ∙ ap counted (sym e); bytes = b ∙ ap (λ x. after_complete x before) (sym e) }

  pub answers_short : length before < least_buffer → Answered problem before before (Err (record { reason = ShortBuffer; place = 0 }))
  unfolding completed_told counted after_complete
  answers_short h = answered before (Err (record { reason = ShortBuffer; place = 0 })) (refused 1 0) (refused_short h) refl refl

  pub answers_refused : least_buffer ≤ length before → (r : Refusal) → parse problem ≡ refused (number_of_reason r.reason) r.place →
      Answered problem before before (Err r)
  unfolding completed_told counted after_complete ◌>>=◌
  answers_refused h r e =
      answered before (Err r) (refused (number_of_reason r.reason) r.place)
      (complete_is problem (length before) h ∙ ap (λ x. x >>= λ P. ok (result_bytes (run P))) e) refl refl

  pub answers_written : least_buffer ≤ length before → (P : Problem) → parse problem ≡ ok P → (after : List ℕ) (r : ℕ) →
      Writes before (result_bytes (run P)) after r → Answered problem before after (Ok r)
  unfolding completed_told counted after_complete ◌>>=◌
  answers_written h P e after r w =
      answered after (Ok r) (ok (result_bytes (run P))) (complete_is problem (length before) h ∙ ap (λ x. x >>= λ P. ok (result_bytes (run P))) e)
      (ap ok w.count) w.bytes

  pub delivers : (after : List ℕ) (r : Result ℕ Refusal) → Answered problem before after r → Delivery problem after r
  delivers after r a = delivery problem before after a.bytes r a.answer
