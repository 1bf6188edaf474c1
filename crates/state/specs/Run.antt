-- The run's state: what its values are held to, and which state of the definition it stands for. Assumes nothing.
use Rattle.std.specs.Prelude.{◌≡◌, ℕ, ◌+◌, ◌*◌, ◌≤◌, length, take, Some, None}
use mathlib.Core.List.{List, flat_map}
use Rattle.limits.specs.Limits.{most_rules, most_pairs, most_entries}
use Rattle.rewriting.specs.Ends.{ending}
use Rattle.slots.specs.Slots.{Layout}
use Rattle.completion.specs.Turn.{Entry, State as RunState, Finished}
use Rattle.items.specs.Written.{logged_width, logged}
use Rattle.inputs.specs.Inputs.{Held}
use Rattle.collapse.specs.Rows.{held}
use Rattle.rewriting.specs.declared.End.{End as Ending}
use Rattle.state.specs.declared.State.{State}
use Rattle.state.specs.declared.Turned.{Turned}
use Rattle.state.specs.declared.Log.{Log}

-- the entries es, and no more, stand in the log, oldest first
pub record Logged (log : Log) (es : List Entry) : Type 0 where
  pub bytes : take (logged_width * log.count) log.bytes ≡ flat_map logged es
  pub counted : log.count ≡ length es

-- What no bytes break: the counts, the lengths and the room. From step 5 to step 7 one live rule may be over the limit, and until a rule's entry the log
-- is one behind.
pub record FineBut (over behind : ℕ) (st : State) : Type 0 where
  pub layout : Layout st.pairs.bytes st.pairs.count
  pub within : st.live ≤ st.pairs.count
  pub together : st.pairs.count ≤ most_pairs
  pub live_few : st.live ≤ most_rules + over
  pub log_few : st.log.count ≤ most_entries
  pub made_few : st.made ≤ st.log.count + behind
  pub back_few : st.back ≤ st.log.count + most_pairs

abbrev pub Fine : State → Type 0
Fine st = FineBut 0 0 st

-- The state stands for the definition's state s, over the table tab.
pub record Represents (tab : List ℕ) (st : State) (s : RunState) : Type 0 where
  pub pairs : Held tab st.pairs (held s.rules s.waiting)
  pub live : st.live ≡ length s.rules
  pub made : st.made ≡ s.made
  pub log : Logged st.log s.log
  pub back : st.back ≡ s.put_back

-- What a run leaves, f: the state stands for its last state, and its end and the units paid are these.
pub record Leaves (tab : List ℕ) (f : Finished) (st : State) (end : Ending) (paid : ℕ) : Type 0 where
  pub state : Represents tab st f.state
  pub end_is : end ≡ ending f.end
  pub paid_is : paid ≡ f.units

-- the state with other units
abbrev pub with_units : State → ℕ → State
with_units st u = record { pairs = st.pairs; live = st.live; made = st.made; log = st.log; back = st.back; units = u }

-- `goes_on`
abbrev pub goes_on_as : State → ℕ → Turned
goes_on_as st units = record { state = with_units st units; end = None }

-- `ended`
abbrev pub ended_as : State → Ending → ℕ → Turned
ended_as st end units = record { state = with_units st units; end = Some end }
