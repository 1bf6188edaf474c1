-- What the run answers: the last state, the end and the units paid. Assumes nothing.
use Rattle.std.specs.Prelude.{◌≡◌, List, ℕ, ◌-◌, ◌≤◌}
use Rattle.order.specs.Walk.{rank}
use Rattle.rewriting.specs.declared.End.{End as Ending}
use Rattle.problem.specs.Problem.{rank_of, Theory}
use Rattle.slots.specs.declared.Pairs.{Pairs}
use Rattle.completion.specs.Turn.{State as RunState, initial, run_from}
use Rattle.inputs.specs.Inputs.{Held, inputs_of}
use Rattle.state.specs.Run.{Fine, Represents, Leaves}
use Rattle.state.specs.declared.State.{State}
use Rattle.state.specs.declared.Turned.{Turned}
use Rattle.run.specs.declared.Ran.{Ran}

-- the end of the run, from the turn that ended it
abbrev pub ended_run : Turned → Ending → ℕ → Ran
ended_run t end budget = record { state = t.state; end = end; paid = budget - t.state.units }

-- the table gives the ranks of the theory, and its equations wait in the slots
pub record Inputs (tab : List ℕ) (inputs : Pairs) (T : Theory) : Type 0 where
  pub ranks : rank_of T.symbols ≡ rank tab
  pub held : Held tab inputs (inputs_of T.equations)

-- `run_from`: exactly as the definition says, whatever state the first one stands for
pub record RunsFrom (tab : List ℕ) (inputs : Pairs) (first : State) (o : Ran) : Type 0 where
  pub fine : Fine o.state
  -- "never above the lent budget"
  pub within : o.paid ≤ first.units
  pub answer : (T : Theory) → Inputs tab inputs T → (s : RunState) → Represents tab first s →
      Leaves tab (run_from T s first.units) o.state o.end o.paid

-- `run`
pub record Runs (tab : List ℕ) (inputs : Pairs) (budget : ℕ) (o : Ran) : Type 0 where
  pub fine : Fine o.state
  pub within : o.paid ≤ budget
  pub answer : (T : Theory) → Inputs tab inputs T → Leaves tab (run_from T (initial T) budget) o.state o.end o.paid
