-- Document 02, Seven: what the calls that save answer, and what is promised of the bytes they take and leave; and what their parts hand on. Section 21 of
-- docs/DEFINITION.md. Assumes nothing.
-- Read first: checkpoint/specs/Resume, checkpoint/specs/Wrote, saving/specs/Saves, report/specs/Report.
use Rattle.std.specs.Prelude.{Result, Ok, Err, ◌≡◌, Bool, ◌||◌, List, ℕ, ◌≤◌, ltb, length, take}
use Rattle.limits.specs.Limits.{least_buffer, least_saved, most_result, longest_saved}
use Rattle.reading.specs.Stops.{wrong_saved}
use Rattle.reading.specs.Answers.{symbols_of, Table}
use Rattle.problem.specs.Problem.{Reading, ok, refused, Theory, Problem, theory, parse}
use Rattle.problem.specs.Parser.{ParsedAt}
use Rattle.completion.specs.Turn.{Finished, run_from, run}
use Rattle.completion.specs.Calls.{Writes}
use Rattle.items.specs.Readers.{part}
use Rattle.checkpoint.specs.Checkpoint.{Checkpoint}
use Rattle.checkpoint.specs.Resume.{Left as LeftBytes, saved_at, leaves}
use Rattle.checkpoint.specs.Wrote.{EngineSaved, Delivered}
use Rattle.rewriting.specs.Rewrite.{End}
use Rattle.rewriting.specs.Ends.{ending}
use Rattle.rewriting.specs.declared.End.{End as Ending}
use Rattle.state.specs.declared.State.{State}
use Rattle.state.specs.Run.{Fine, Represents, Leaves}
use Rattle.run.specs.declared.Ran.{Ran}
use Rattle.saving.specs.Saves.{FillFields}
use Rattle.saving_calls.specs.declared.Left.{Left}
use Rattle.problem.specs.Reasons.{number_of_reason}
use Rattle.problem.specs.declared.Refusal.{Refusal}

-- The two counts: of the result's bytes, and of the saved record's.
pub record Lengths : Type 0 where
  pub result : ℕ
  pub saved : ℕ

-- "its length is returned too, 0 .. on another end"; a refusal has its number and its place [21.2]
unfoldable pub left_told : Result Left Refusal → Reading Lengths
left_told (Ok r) = ok (record { result = r.result; saved = r.saved })
left_told (Err r) = refused (number_of_reason r.reason) r.place

unfoldable pub lengths : Reading LeftBytes → Reading Lengths
lengths (ok l) = ok (record { result = length l.result; saved = length l.saved })
lengths (refused number place) = refused number place

-- at most so many bytes of either, whatever is completed or taken up
abbrev pub CountsFew : Left → Type 0
CountsFew r = (r.result ≤ most_result) × (r.saved ≤ longest_saved)

unfoldable pub LeftFew : Result Left Refusal → Type 0
LeftFew (Ok r) = CountsFew r
LeftFew (Err r) = Unit {0}

-- `short`: one of two lent buffers of these lengths is too short
unfoldable pub one_short : ℕ → ℕ → Bool
one_short result saved = ltb result least_buffer || ltb saved least_saved

-- the theory stands in l: its symbols are the table's, and its equations fill fields from a place on
pub record TheoryAt (tab l : List ℕ) (from count : ℕ) (T : Theory) : Type 0 where
  pub table : Table tab
  pub symbols_are : T.symbols ≡ symbols_of tab
  pub equations : FillFields l from T.equations
  pub number : length T.equations ≡ count

-- `save_if`: of whatever theory and run
pub record SavesIf (st : State) (end : Ending) (tab l : List ℕ) (from count : ℕ) (before after : List ℕ) (r : ℕ) : Type 0 where
  pub few : r ≤ longest_saved
  pub writes : (c : Checkpoint) (e : End) → end ≡ ending e → TheoryAt tab l from count c.theory → Represents tab st c.state →
      Writes before (saved_at e c) after r

-- `leave`
abbrev pub LeavesAs : LeftBytes → List ℕ → List ℕ → List ℕ → List ℕ → Left → Type 0
LeavesAs y before after before' after' r = Writes before y.result after r.result × Writes before' y.saved after' r.saved

pub record LeavesBoth (o : Ran) (l : List ℕ) (e from count : ℕ) (before after before' after' : List ℕ) (r : Left) : Type 0 where
  pub few : CountsFew r
  pub both : (T : Theory) (f : Finished) → TheoryAt (part l 3 e) l from count T → Leaves (part l 3 e) f o.state o.end o.paid →
      LeavesAs (leaves T f) before after before' after' r

-- `begin`
pub record RunsProblem (l : List ℕ) (e b at n : ℕ) (o : Ran) : Type 0 where
  pub fine : Fine o.state
  pub answer : (P : Problem) → ParsedAt l e b at n P → Leaves (part l 3 e) (run P) o.state o.end o.paid

-- What `complete_saving` leaves of an accepted problem: of its run. [21.18 to 21.21]
unfoldable pub SavingDelivers : List ℕ → List ℕ → List ℕ → Result Left Refusal → Type 0
SavingDelivers problem result saved (Ok r) = (P : Problem) → parse problem ≡ ok P →
    Delivered (theory P) (run P) (record { result = take r.result result; saved = take r.saved saved })
SavingDelivers problem result saved (Err r) = Unit {0}

-- What `resume_saving` leaves of a record that the engine wrote, f being what its run had left: of the run that goes on in the state of f with the new
-- budget; "16 .. never for one that the engine wrote". [21.18 to 21.21]
unfoldable pub SavingRedelivers : List ℕ → ℕ → List ℕ → List ℕ → Result Left Refusal → Type 0
SavingRedelivers kept budget result saved (Ok r) = (T : Theory) (f : Finished) → EngineSaved T f kept →
    Delivered T (run_from T f.state budget) (record { result = take r.result result; saved = take r.saved saved })
SavingRedelivers kept budget result saved (Err r) = (T : Theory) (f : Finished) → EngineSaved T f kept → number_of_reason r.reason ≡ wrong_saved → ⊥
