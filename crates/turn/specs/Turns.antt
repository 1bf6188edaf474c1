-- What a turn answers, by cases on what the definition comes to: the next state, or an end and the state as at the turn's beginning. Assumes nothing.
use Rattle.std.specs.Prelude.{◌≡◌, Bool, true, false, List, map, ℕ, ◌+◌, ◌-◌, ◌≤◌, ltb, length, None, Some, Ok, Err}
use Rattle.limits.specs.Limits.{most_apart}
use Rattle.terms.specs.Term.{same}
use Rattle.order.specs.Walk.{rank}
use Rattle.rewriting.specs.Rewrite.{End, complete, neither_above, spent, too_large, rules_full, log_full, Paid, done, stop, ◌>>=◌}
use Rattle.rewriting.specs.Ends.{ending}
use Rattle.rewriting.specs.declared.End.TheVariants.{NeitherAbove, Spent, TooLarge}
use Rattle.problem.specs.Problem.{rank_of, Theory}
use Rattle.slots.specs.Slots.{slot, mark_of, Layout, PairAt, Stored, Holds}
use Rattle.completion.specs.Turn.{Candidate, State as RunState, Taken as TakenPair, take_pair, end_if_all_put_back, turn}
use Rattle.completion.specs.Calls.{origin_bytes}
use Rattle.inputs.specs.Inputs.{marked, inputs_of}
use Rattle.joining.specs.declared.Joined.TheVariants.{Equal, Different}
use Rattle.forms.specs.declared.Taken.{Taken}
use Rattle.state.specs.declared.State.{State}
use Rattle.collapse.specs.Rows.{held}
use Rattle.state.specs.Run.{Fine, Represents, with_units}
use Rattle.state.specs.Steps.{behind_first}
use Rattle.state.specs.declared.Turned.{Turned}
use Rattle.turn.specs.declared.Waiting.{Waiting}

-- the input equations stand renamed in their slots, and the table gives the ranks
pub record Given (tab inputs : List ℕ) (count : ℕ) (T : Theory) : Type 0 where
  pub ranks : rank_of T.symbols ≡ rank tab
  pub stored : Stored tab inputs 0 (map (λ c. c.sides) (inputs_of T.equations))
  pub counted : count ≡ length T.equations

-- behind so many live rules
abbrev pub waiting_behind : ℕ → ℕ → ℕ → Waiting
waiting_behind live pairs back = record { live = live; count = pairs - live; back = back }

-- the slots hold the rules and what waits of s, of which so many were put back
pub record PairsOf (tab pairs : List ℕ) (w : Waiting) (s : RunState) : Type 0 where
  pub holds : Holds tab pairs 0 (map marked (held s.rules s.waiting))
  pub live_is : w.live ≡ length s.rules
  pub waiting_is : w.count ≡ length s.waiting
  pub back_is : w.back ≡ s.put_back

-- `look`: step 1 behind its unit. The taken pair's forms are equal, which only a waiting equation's can be, or stand in the slot
abbrev pub FormsIn : List ℕ → Taken → Bool → Candidate → Bool → Type 0
FormsIn tab t waits c true = (t.found ≡ Ok Equal) × (waits ≡ true)
FormsIn tab t waits c false = (t.found ≡ Ok Different) × PairAt most_apart tab t.pair 0 c.sides

-- "If there is none, the end is 0, complete."
abbrev pub LookStops : End → Taken → Bool → Type 0
LookStops complete t waits = (t.found ≡ Ok Equal) × (waits ≡ false)
LookStops neither_above t waits = t.found ≡ Err NeitherAbove
LookStops spent t waits = t.found ≡ Err Spent
LookStops too_large t waits = t.found ≡ Err TooLarge
LookStops rules_full t waits = ⊥
LookStops log_full t waits = ⊥

abbrev pub LookIs : List ℕ → Taken → Bool → RunState → Paid TakenPair → Type 0
LookIs tab t waits s (done k left) =
    (t.units ≡ left) × (k.waiting ≡ behind_first s.waiting) × (mark_of (slot t.pair 0) ≡ origin_bytes k.pair.origin)
    × FormsIn tab t waits k.pair (same k.pair.sides.left k.pair.sides.right)
LookIs tab t waits s (stop e left) = (t.units ≡ left) × LookStops e t waits

pub record Looks (tab pairs : List ℕ) (w : Waiting) (inputs : List ℕ) (count units : ℕ) (t : Taken) : Type 0 where
  pub layout : Layout t.pair 1
  pub left_over : t.units ≤ units
  pub answer : (T : Theory) → Given tab inputs count T → (s : RunState) → PairsOf tab pairs w s →
      LookIs tab t (ltb 0 w.count) s ((end_if_all_put_back s.waiting s.put_back >>= λ _. take_pair T s.rules s.waiting) units)

-- what every answer of a turn from st has; a stop hands back the state as at the turn's beginning
pub record TurnSafe (st : State) (o : Turned) : Type 0 where
  pub fine : Fine o.state
  pub grows : o.end ≡ None → o.state.log.count ≡ st.log.count + 1
  pub stays : (o.end ≡ None → ⊥) → o.state ≡ with_units st o.state.units
  pub less : o.state.units ≤ st.units

-- the next state, or an end and the state as it was
abbrev pub TurnedIs : List ℕ → RunState → Turned → Paid RunState → Type 0
TurnedIs tab s o (done s' left) = (o.end ≡ None) × (o.state.units ≡ left) × Represents tab o.state s'
TurnedIs tab s o (stop f left) = (o.end ≡ Some (ending f)) × (o.state.units ≡ left) × Represents tab o.state s

-- `turn`: exactly as the definition says
pub record Turns (tab inputs : List ℕ) (count : ℕ) (st : State) (o : Turned) : Type 0 where
  pub safe : TurnSafe st o
  pub answer : (T : Theory) → Given tab inputs count T → (s : RunState) → Represents tab st s → TurnedIs tab s o (turn T s st.units)
