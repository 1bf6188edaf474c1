-- The fields written from the slots and the log of a state are those of the rules and of the log that it stands for. Assumes nothing.
-- Read first: specs/Run (Represents), items/proofs/Writing (rules_are, entries_are), collapse/proofs/Rows.
use mathlib.Core.Path.{◌≡◌, sym, ap, subst, ◌∙◌}
use mathlib.Core.List.{List, map}
use Prim.Native.Nat.{ℕ, ◌*◌}
use lib.ListN.{take}
use Rattle.slots.specs.Slots.{Holds}
use Rattle.completion.specs.Turn.{State as RunState}
use Rattle.completion.specs.Calls.{rule_field, entry_field}
use Rattle.inputs.specs.Inputs.{marked}
use Rattle.items.specs.Written.{logged_width, each, slot_field, logged_field}
use Rattle.items.proofs.Writing.{rules_are, entries_are}
use Rattle.collapse.proofs.Rows.{held_rows}
use Rattle.state.specs.declared.State.{State}
use Rattle.state.specs.Run.{Represents}

module _ (tab : List ℕ) (st : State) (s : RunState) (R : Represents tab st s) where
  pub rules_written : each (slot_field st.pairs.bytes) 0 st.live ≡ map rule_field s.rules
  rules_written =
      let rows = subst (Holds tab st.pairs.bytes 0) (held_rows s.rules s.waiting) R.pairs.holds in
      ap (each (slot_field st.pairs.bytes) 0) R.live ∙ rules_are tab st.pairs.bytes 0 s.rules (map marked s.waiting) rows

  pub log_written : each (logged_field st.log.bytes) 0 st.log.count ≡ map entry_field s.log
  log_written =
      let n = R.log.counted in
      ap (each (logged_field st.log.bytes) 0) n
      ∙ entries_are st.log.bytes s.log (ap (λ k. take (logged_width * k) st.log.bytes) (sym n) ∙ R.log.bytes)
