-- The state that is made of a record that was read is fine and stands for the saved one, and the run from it is the definition's. Assumes nothing.
-- Read first: specs/Resumes, loading/specs/Loads (LoadedAt), run/specs/Runs (RunsFrom), state/specs/Run (Fine, Represents, Leaves).
use mathlib.Core.Path.{◌≡◌, sym, ap, subst, ◌∙◌}
use mathlib.Core.List.{List, map}
use Prim.Native.Nat.{ℕ, ◌+◌, ◌≤◌}
use native.Mathlib.Omega.{arith}
use lib.ListN.{length, length-append}
use Rattle.limits.specs.Limits.{most_equations, most_budget, most_saved}
use Rattle.problem.specs.Problem.{rank_of}
use Rattle.problem.specs.Parser.{SymbolsAt}
use Rattle.completion.proofs.Ranks.{ranks_are}
use Rattle.slots.specs.Slots.{Holds}
use Rattle.slots.specs.declared.Pairs.{Pairs}
use Rattle.items.specs.Written.{row}
use Rattle.items.specs.Readers.{part}
use Rattle.checkpoint.specs.Checkpoint.{Checkpoint}
use Rattle.checkpoint.specs.Resume.{resumed}
use Rattle.inputs.specs.Inputs.{InputsRead, marked}
use Rattle.collapse.proofs.Rows.{held_rows, length_held, length_rows, length_marked}
use Rattle.state.specs.declared.State.{State}
use Rattle.state.specs.Run.{Fine, Represents, Leaves}
use Rattle.run.specs.declared.Ran.{Ran}
use Rattle.run.specs.Runs.{RunsFrom}
use Rattle.loading.specs.declared.Front.{Front}
use Rattle.loading.specs.declared.Counts.{Counts}
use Rattle.loading.specs.Loads.{LoadedAt}
use Rattle.resume.specs.Resumes.{state_of, RunsRecord, TakenAt}

-- `go_on`
pub record_run : {l : List ℕ} {front : Front} {inputs : Pairs} {first : State} {o : Ran} → SymbolsAt l front.table →
    InputsRead (part l 3 front.table) l front.table front.equations inputs → RunsFrom (part l 3 front.table) inputs first o →
    RunsRecord l front first o
record_run {l} {front} S I R =
    record {
      fine = R.fine;
      within = R.within;
      answer = λ T symbols_are fields number s H.
          R.answer T (record {
            ranks = ap rank_of symbols_are ∙ ranks_are (part l 3 front.table) S.table;
            held = I.held T.equations fields number;
          }) s H;
    }

module _ {l : List ℕ} {front : Front} {slots log : List ℕ} {counts : Counts} {c : Checkpoint} (L : LoadedAt l front slots log counts c) where
  -- so many pairs stand in the slots
  pairs_are : counts.pairs ≡ length c.state.rules + length c.state.waiting
  pairs_are =
      let rows = L.slotted.counted in
      let split = length-append (map row c.state.rules) (map marked c.state.waiting) in
      omega (arith, length_rows c.state.rules, length_marked c.state.waiting)

  module _ (units : ℕ) where
    abbrev first : State
    first = state_of front.next counts slots log units

    state_stands : Represents (part l 3 front.table) first c.state
    state_stands =
        record {
          pairs = record {
            holds = subst (Holds (part l 3 front.table) slots 0) (sym (held_rows c.state.rules c.state.waiting)) L.slotted.holds;
            counted = pairs_are ∙ sym (length_held c.state.rules c.state.waiting);
          };
          live = L.live_is;
          made = omega (arith, L.next_is);
          log = record { bytes = L.log_is; counted = L.entries_are };
          back = L.back_is;
        }

    state_fine : Fine first
    state_fine =
        record {
          layout = L.slotted.layout;
          within = omega (arith, L.live_is, pairs_are);
          together = L.pairs_few;
          live_few = omega (arith, L.live_few);
          log_few = L.entries_few;
          made_few = omega (arith, L.next_few, L.next_is);
          back_few = omega (arith, L.back_few);
        }

    -- what the run from it leaves
    pub run_leaves : {o : Ran} → RunsRecord l front first o → Leaves (part l 3 front.table) (resumed c units) o.state o.end o.paid
    unfolding resumed
    run_leaves R = R.answer c.theory L.symbols_are L.equations_in L.number c.state state_stands

-- what its reader's caller asks of it
pub record Needs (l : List ℕ) (budget : ℕ) (front : Front) (slots log : List ℕ) (counts : Counts) : Type 0 where
  pub small : length l ≤ most_saved
  pub table : SymbolsAt l front.table
  pub equations_few : front.equations ≤ most_equations
  pub next_some : 1 ≤ front.next
  pub budget_few : budget ≤ most_budget
  pub fine : (units : ℕ) → Fine (state_of front.next counts slots log units)

pub taken_needs : {l : List ℕ} {budget : ℕ} {front : Front} {slots log : List ℕ} {counts : Counts} →
    ((c : Checkpoint) × TakenAt l budget front slots log counts c) → Needs l budget front slots log counts
taken_needs (c, A) =
    record {
      small = A.loaded.small;
      table = A.loaded.table;
      equations_few = omega (arith, A.loaded.number, A.loaded.equations_there.few);
      next_some = omega (arith, A.loaded.next_is);
      budget_few = A.budget_few;
      fine = state_fine A.loaded;
    }
