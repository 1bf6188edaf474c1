-- What the writer of a saved record promises: of whatever theory and state the lent bytes and the state of the code stand for, the record's bytes.
-- Section 21 of docs/DEFINITION.md. Assumes nothing.
-- Read first: checkpoint/specs/Checkpoint (checkpoint_bytes), reading/specs/Answers (field_at), state/specs/Run (Represents), items/specs/Written.
use Rattle.std.specs.Prelude.{◌≡◌, ℕ, ◌+◌, ◌-◌, ◌*◌, ◌≤◌, length, drop}
use mathlib.Core.List.{List, [], ◌∷◌, ◌++◌, map, flat_map}
use Rattle.limits.specs.Limits.{most_pairs, most_entries, field_head, forms_width, waiting_width, entry_width, longest_saved}
use Rattle.terms.specs.Base.{number_bytes, Field, field_bytes}
use Rattle.terms.specs.Term.{Pair}
use Rattle.fields.specs.Puts.{tagged}
use Rattle.fields.specs.Adds.{AddsSome}
use Rattle.fields.specs.declared.writer.Writer.{Writer}
use Rattle.slots.specs.Slots.{slot, mark_of}
use Rattle.reading.specs.Forms.{ok, due}
use Rattle.reading.specs.Answers.{field_at, symbols_of, Table}
use Rattle.completion.specs.Calls.{pair_bytes, Writes}
use Rattle.items.specs.Written.{each, pair_field, slot_field, logged_field}
use Rattle.items.specs.Readers.{part}
use Rattle.checkpoint.specs.Checkpoint.{Checkpoint, equation_field_of, checkpoint_bytes}
use Rattle.state.specs.declared.State.{State}
use Rattle.state.specs.Run.{Represents}

-- the equations fill fields of tag 03 from `at` on, one behind the other, each at most as long as a pair makes it; what stands behind them is of no account
unfoldable pub FillFields : List ℕ → ℕ → List Pair → Type 0
FillFields l at [] = Unit {0}
FillFields l at (p ∷ es) =
    (e : ℕ) × (due 0x03 at (drop at l) ≡ ok (field_at 0x03 l at e)) × (e ≤ at + forms_width) × (part l (at + field_head) e ≡ pair_bytes p) × FillFields l e es

-- `put_equation`: the field from `from` to `end`, if its contents have a pair's length
pub record PutsEquation (l : List ℕ) (from end : ℕ) (w w' : Writer) : Type 0 where
  pub ys : List ℕ
  pub puts : AddsSome forms_width w w' 1 ys
  pub answer : end ≤ from + forms_width → ys ≡ field_bytes (tagged 0x03 (part l (from + field_head) end))

-- `put_equations`: the fields of whatever equations fill so many there
pub record PutsEquations (l : List ℕ) (from count : ℕ) (w w' : Writer) : Type 0 where
  pub ys : List ℕ
  pub puts : AddsSome forms_width w w' count ys
  pub answer : (es : List Pair) → FillFields l from es → length es ≡ count → ys ≡ flat_map field_bytes (map equation_field_of es)

-- field 21 of the pair in slot k
unfoldable pub waiting_slot : List ℕ → ℕ → Field
waiting_slot slots k = pair_field 0x21 (mark_of (slot slots k)) slots k

-- `put_state`: what it writes, at most 13,858 bytes
unfoldable pub state_bytes : State → List ℕ
state_bytes st =
    field_bytes (tagged 0x20 (number_bytes 2 (st.made + 1)))
    ++ (flat_map field_bytes (each (slot_field st.pairs.bytes) 0 st.live)
    ++ (flat_map field_bytes (each (waiting_slot st.pairs.bytes) st.live (st.pairs.count - st.live))
    ++ (flat_map field_bytes (each (logged_field st.log.bytes) 0 st.log.count) ++ field_bytes (tagged 0x22 (number_bytes 1 st.back)))))

abbrev pub state_width : ℕ
state_width = (field_head + 2) + waiting_width * most_pairs + entry_width * most_entries + (field_head + 1)

-- `save`: at most so many bytes, whatever they are; those of the record, where theory and state stand in what is lent
pub record Saves (st : State) (tab l : List ℕ) (from count : ℕ) (before after : List ℕ) (r : ℕ) : Type 0 where
  pub few : r ≤ longest_saved
  pub writes : (c : Checkpoint) → Table tab → c.theory.symbols ≡ symbols_of tab → FillFields l from c.theory.equations →
      length c.theory.equations ≡ count → Represents tab st c.state → Writes before (checkpoint_bytes c) after r
