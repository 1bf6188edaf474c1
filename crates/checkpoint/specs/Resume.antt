-- Document 02, Seven: the calls that save and resume, from the bytes that they are lent to what they answer and leave; section 21 of docs/DEFINITION.md.
-- Assumes nothing.
-- Read first: Checkpoint, completion/specs/Calls (enough, written, after-complete).
use Rattle.std.specs.Prelude.{List, [], ℕ, ltb}
use Rattle.limits.specs.Limits.{most_budget, least_saved}
use Rattle.reading.specs.Stops.{short_buffer, large_budget}
use Rattle.problem.specs.Problem.{Reading, ok, refused, ◌>>=◌, refuse_if, Theory, theory, parse}
use Rattle.rewriting.specs.Rewrite.{End, complete, neither_above, spent, too_large, rules_full, log_full}
use Rattle.completion.specs.Turn.{Finished, run_from, run}
use Rattle.completion.specs.Calls.{result_bytes, enough, written}
use Rattle.checkpoint.specs.Checkpoint.{Checkpoint, checkpoint_bytes, read_checkpoint}

-- What a run leaves its caller: the result, and the saved record, "0 and nothing written on another end" than 21. The calls return the two lengths.
-- [21.2]
pub record Left : Type 0 where
  pub result : List ℕ
  pub saved : List ℕ

unfoldable pub saved_at : End → Checkpoint → List ℕ
saved_at complete c = []
saved_at neither_above c = []
saved_at spent c = checkpoint_bytes c
saved_at too_large c = []
saved_at rules_full c = []
saved_at log_full c = []

-- A stop inside a turn leaves the state as at its beginning, so the saved state is that of the turn that stopped. [8.7, 21.2, 21.10]
unfoldable pub leaves : Theory → Finished → Left
leaves T f = record { result = result_bytes f; saved = saved_at f.end (record { theory = T; state = f.state }) }

-- "Resuming takes a record and a new budget and starts with the unfinished turn"; "The units reported are those of the last resumption." [21.11]
unfoldable pub resumed : Checkpoint → ℕ → Finished
resumed c budget = run_from c.theory c.state budget

-- 1: "a second lent buffer of at least 49,152 bytes", place 0 [21.12]
unfoldable pub enough_to_save : ℕ → Reading (Unit {0})
enough_to_save lent = refuse_if (ltb lent least_saved) short_buffer 0

-- complete_saving, from the problem's bytes and the lengths of the two buffers: 1 for either, then what complete refuses [21.2, 21.12]
unfoldable pub complete_saving_call : List ℕ → ℕ → ℕ → Reading Left
complete_saving_call bytes buffer lent = do
  _ ← enough buffer
  _ ← enough_to_save lent
  P ← parse bytes
  ok (leaves (theory P) (run P))

-- 2, 16, and "17 when the new budget is above 1,000,000, with place 0, after 16" [21.12, 21.17]
unfoldable pub read_resumption : List ℕ → ℕ → Reading Checkpoint
read_resumption bytes budget = do
  c ← read_checkpoint bytes
  _ ← refuse_if (ltb most_budget budget) large_budget 0
  ok c

-- resume, from the saved record's bytes, the new budget and the result buffer's length: the result's bytes [21.11, 21.12]
unfoldable pub resume_call : List ℕ → ℕ → ℕ → Reading (List ℕ)
resume_call bytes budget buffer = do
  _ ← enough buffer
  c ← read_resumption bytes budget
  ok (result_bytes (resumed c budget))

-- resume_saving, with a second buffer too [21.11, 21.12]
unfoldable pub resume_saving_call : List ℕ → ℕ → ℕ → ℕ → Reading Left
resume_saving_call bytes budget buffer lent = do
  _ ← enough buffer
  _ ← enough_to_save lent
  c ← read_resumption bytes budget
  ok (leaves c.theory (resumed c budget))

-- What the two lent buffers hold after a call that saves: a saved record of no bytes, and a refusal, leave every byte as it was. What resume's result
-- buffer holds is `after_complete`. [4.14, 21.2]
unfoldable pub after_result : Reading Left → List ℕ → List ℕ
after_result (ok l) buffer = written l.result buffer
after_result (refused n at) buffer = buffer

unfoldable pub after_saved : Reading Left → List ℕ → List ℕ
after_saved (ok l) buffer = written l.saved buffer
after_saved (refused n at) buffer = buffer
