-- A state with other units, or with other bytes in its slots, is as fine. Assumes nothing.
-- Read first: specs/Run (FineBut).
use mathlib.Core.List.{List}
use Prim.Native.Nat.{ℕ, ◌+◌, ◌≤◌}
use native.Mathlib.Omega.{arith}
use Rattle.limits.specs.Limits.{most_rules}
use Rattle.slots.specs.Slots.{Layout}
use Rattle.state.specs.declared.State.{State}
use Rattle.state.specs.Run.{FineBut, with_units}

-- the state with other bytes in its slots
abbrev pub with_slots : State → List ℕ → State
with_slots st b = record {
  pairs = record { bytes = b; count = st.pairs.count };
  live = st.live;
  made = st.made;
  log = st.log;
  back = st.back;
  units = st.units;
}

-- with bytes that are laid out as well, and with the bounds that are known by now
pub still_fine : {over behind over' behind' : ℕ} {st : State} {b : List ℕ} {u : ℕ} → FineBut over behind st → Layout b st.pairs.count →
    st.live ≤ most_rules + over' → st.made ≤ st.log.count + behind' → FineBut over' behind' (with_units (with_slots st b) u)
still_fine F layout live made =
    record {
      layout = layout;
      within = F.within;
      together = F.together;
      live_few = live;
      log_few = F.log_few;
      made_few = made;
      back_few = F.back_few;
    }

pub units_fine : {over behind : ℕ} {st : State} (u : ℕ) → FineBut over behind st → FineBut over behind (with_units st u)
units_fine u F = still_fine F F.layout F.live_few F.made_few

-- a log that is not behind may be
pub fine_but_one : {over : ℕ} {st : State} → FineBut over 0 st → FineBut over 1 st
fine_but_one F = still_fine F F.layout F.live_few (let m = F.made_few in omega arith)
