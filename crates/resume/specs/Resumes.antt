-- Document 02, Seven: what `resume` answers, and what is promised of the bytes it takes and leaves; and what its parts hand on. Section 21 of
-- docs/DEFINITION.md. Assumes nothing.
-- Read first: checkpoint/specs/Resume, checkpoint/specs/Wrote, loading/specs/Loads (LoadedAt), run/specs/Runs (RunsFrom).
use Rattle.std.specs.Prelude.{Result, Ok, Err, ◌≡◌, List, [], ℕ, ◌-◌, ◌≤◌, length, take}
use Rattle.limits.specs.Limits.{most_budget, most_result}
use Rattle.reading.specs.Stops.{wrong_saved}
use Rattle.reading.specs.Answers.{symbols_of}
use Rattle.problem.specs.Problem.{Reading, ok, refused, Theory}
use Rattle.completion.specs.Turn.{State as RunState, Finished, run_from}
use Rattle.items.specs.Readers.{part}
use Rattle.inputs.specs.Inputs.{InFields}
use Rattle.checkpoint.specs.Checkpoint.{Checkpoint}
use Rattle.checkpoint.specs.Resume.{read_resumption}
use Rattle.checkpoint.specs.Wrote.{EngineSaved, Delivered}
use Rattle.state.specs.declared.State.{State}
use Rattle.state.specs.Run.{Fine, Represents, Leaves}
use Rattle.run.specs.declared.Ran.{Ran}
use Rattle.loading.specs.declared.Front.{Front}
use Rattle.loading.specs.declared.Counts.{Counts}
use Rattle.loading.specs.Loads.{LoadedAt}
use Rattle.loading.specs.declared.Loaded.{Loaded}
use Rattle.problem.specs.Reasons.{number_of_reason}
use Rattle.problem.specs.declared.Refusal.{Refusal}

-- `state_of`
abbrev pub state_of : ℕ → Counts → List ℕ → List ℕ → ℕ → State
state_of next counts slots log units = record {
  pairs = record { bytes = slots; count = counts.pairs };
  live = counts.live;
  made = next - 1;
  log = record { bytes = log; count = counts.entries };
  back = counts.back;
  units = units;
}

-- `go_on`: as the definition says, of the theory whose symbols and equations stand in the record
pub record RunsRecord (l : List ℕ) (front : Front) (first : State) (o : Ran) : Type 0 where
  pub fine : Fine o.state
  pub within : o.paid ≤ first.units
  pub answer : (T : Theory) → T.symbols ≡ symbols_of (part l 3 front.table) →
      InFields (part l 3 front.table) l front.table T.equations → length T.equations ≡ front.equations →
      (s : RunState) → Represents (part l 3 front.table) first s →
      Leaves (part l 3 front.table) (run_from T s first.units) o.state o.end o.paid

-- `read_resumption`: a record that is read, and a budget that is not too large
pub record TakenAt (l : List ℕ) (budget : ℕ) (front : Front) (slots log : List ℕ) (counts : Counts) (c : Checkpoint) : Type 0 where
  pub is : read_resumption l budget ≡ ok c
  pub loaded : LoadedAt l front slots log counts c
  pub budget_few : budget ≤ most_budget

abbrev pub IsTaken : List ℕ → ℕ → List ℕ → List ℕ → Result Loaded Refusal → Type 0
IsTaken l budget slots log (Ok r) = (c : Checkpoint) × TakenAt l budget r.front slots log r.counts c
IsTaken l budget slots log (Err r) = read_resumption l budget ≡ refused (number_of_reason r.reason) r.place

-- the count of result bytes, or the refusal's number and place
unfoldable pub resumed_told : Result ℕ Refusal → Reading ℕ
resumed_told (Ok count) = ok count
resumed_told (Err r) = refused (number_of_reason r.reason) r.place

-- at most so many result bytes, whatever record is taken up
unfoldable pub ResumedFew : Result ℕ Refusal → Type 0
ResumedFew (Ok count) = count ≤ most_result
ResumedFew (Err r) = Unit {0}

-- Of a record that the engine wrote for a problem's theory T, f being what that run left: "16 .. never for one that the engine wrote"; what is written is
-- the result of the run that goes on in the state of f with the new budget, and delivers for T. [21.18 to 21.21]
unfoldable pub Redelivers : List ℕ → ℕ → List ℕ → Result ℕ Refusal → Type 0
Redelivers saved budget result (Ok count) = (T : Theory) (f : Finished) → EngineSaved T f saved →
    Delivered T (run_from T f.state budget) (record { result = take count result; saved = [] })
Redelivers saved budget result (Err r) = (T : Theory) (f : Finished) → EngineSaved T f saved → number_of_reason r.reason ≡ wrong_saved → ⊥
