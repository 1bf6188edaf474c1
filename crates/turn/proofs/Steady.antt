-- States that differ in their units or in the right sides of their rules; and what every answer of a turn has. Assumes nothing.
-- Read first: specs/Turns (TurnSafe), state/specs/Run (FineBut, Represents), state/proofs/Steady, proofs/Holding.
use mathlib.Core.Path.{◌≡◌, refl, sym, ◌∙◌, subst}
use mathlib.Core.List.{List, map}
use Prim.Native.Nat.{ℕ, ◌+◌, ◌≤◌}
use native.Mathlib.Omega.{arith}
use lib.ListN.{length}
use Rattle.limits.specs.Limits.{most_rules}
use Rattle.rewriting.specs.Overlap.{Rule, sides_of}
use Rattle.rewriting.specs.declared.End.{End as Ending}
use Rattle.std.specs.Prelude.{None}
use Rattle.rewriting.proofs.Verdicts.{goes≢ends}
use Rattle.completion.specs.Turn.{State as RunState}
use Rattle.slots.specs.Slots.{Stored}
use Rattle.compose.specs.Rights.{RightsOnly}
use Rattle.state.specs.declared.State.{State}
use Rattle.state.specs.Run.{FineBut, Fine, Represents, with_units, ended_as}
use Rattle.state.specs.declared.Turned.{Turned}
use Rattle.turn.specs.Turns.{TurnSafe}
use Rattle.collapse.proofs.Rows.{length_held}
use Rattle.state.proofs.Steady.{with_slots, still_fine, units_fine}
use Rattle.turn.proofs.Holding.{same_many, rights_held}

pub units_represent : {tab : List ℕ} {st : State} {s : RunState} (u : ℕ) → Represents tab st s → Represents tab (with_units st u) s
units_represent u R = record { pairs = R.pairs; live = R.live; made = R.made; log = R.log; back = R.back }

pub slots_fine : {over behind n : ℕ} {st : State} {b : List ℕ} (u : ℕ) → FineBut over behind st → RightsOnly 0 n st.pairs.bytes b →
    st.live ≤ most_rules → FineBut 0 behind (with_units (with_slots st b) u)
slots_fine {st = st} u F o few = still_fine F (o.layout st.pairs.count F.layout) (omega arith) F.made_few

abbrev pub with_rules : RunState → List Rule → RunState
with_rules s rs = record { rules = rs; made = s.made; waiting = s.waiting; log = s.log; put_back = s.put_back }

pub slots_represent : {tab b : List ℕ} {st : State} {s : RunState} (rs : List Rule) → Represents tab st s → RightsOnly 0 st.live st.pairs.bytes b →
    Stored tab b 0 (sides_of rs) → map (λ r. r.number) rs ≡ map (λ r. r.number) s.rules → Represents tab (with_slots st b) (with_rules s rs)
slots_represent {tab} {b} {st} {s} rs R o h e =
    let n : length rs ≡ length s.rules = same_many s.rules rs e in
    record {
      pairs = record {
        holds = rights_held tab st.pairs.bytes b s.rules rs s.waiting
            (subst (λ z. RightsOnly 0 z st.pairs.bytes b) R.live o) e h R.pairs.holds;
        counted = omega (arith, R.pairs.counted, length_held s.rules s.waiting, length_held rs s.waiting, n);
      };
      live = R.live ∙ sym n;
      made = R.made;
      log = R.log;
      back = R.back;
    }

-- a stop, and a turn that goes on
module _ {st : State} where
  pub stop_safe : {end : Ending} {u : ℕ} → Fine st → u ≤ st.units → TurnSafe st (ended_as st end u)
  stop_safe {u = u} F l = record { fine = units_fine u F; grows = λ v. absurd (goes≢ends v refl); stays = λ _. refl; less = l }

  pub go_safe : {o : Turned} → o.end ≡ None → Fine o.state → o.state.log.count ≡ st.log.count + 1 → o.state.units ≤ st.units →
      TurnSafe st o
  go_safe v F g l = record { fine = F; grows = λ _. g; stays = λ f. absurd (f v); less = l }

  -- from the state behind the turn's unit
  pub begun_safe : {u : ℕ} {o : Turned} → u ≤ st.units → TurnSafe (with_units st u) o → TurnSafe st o
  begun_safe l T = record { fine = T.fine; grows = T.grows; stays = T.stays; less = let m = T.less in omega arith }
