-- What each reader of a field with an origin answers, said by the definitions of checkpoint/specs/Checkpoint. Assumes nothing.
-- Read first: checkpoint/specs/Checkpoint, items/specs/Readers (OneAt, OneBad, There, ThereBad, SidesFill), inputs/specs/Inputs (marked).
use Rattle.std.specs.Prelude.{Option, Some, None, Result, Ok, Err, ◌≡◌, Bool, ◌&&◌, ◌||◌, ℕ, ◌+◌, ◌-◌, ◌*◌, eqb, leb, length, take, drop, get_or}
use mathlib.Core.List.{List, ◌∷◌, ◌++◌, map, flat_map}
use Rattle.limits.specs.Limits.{most_pairs, most_entries}
use Rattle.terms.specs.Base.{number_bytes, number_from}
use Rattle.reading.specs.Answers.{symbols_of}
use Rattle.slots.specs.Slots.{Marked, Holds, Layout}
use Rattle.completion.specs.Turn.{Candidate, Entry}
use Rattle.items.specs.Written.{logged_width, logged}
use Rattle.items.specs.Readers.{OneAt, OneBad, There, ThereBad, SidesFill}
use Rattle.items.specs.declared.BadField.{BadField}
use Rattle.items.specs.declared.Group.{Group}
use Rattle.checkpoint.specs.Checkpoint.{read_waiting, read_entry}
use Rattle.inputs.specs.Inputs.{marked}
use Rattle.candidates.specs.declared.WaitingField.{WaitingField}

-- `is_origin`, `origin_at`: of the bytes from a place on the first six
unfoldable pub second_in : List ℕ → ℕ
second_in m = number_from 0 (take 2 (drop 3 m))

unfoldable pub origin_test : List ℕ → Bool
origin_test m = leb 1 (get_or m 0 0) && leb (get_or m 0 0) 4 && (eqb (get_or m 0 0) 4 || eqb (second_in m + get_or m 5 0) 0)

unfoldable pub origin_copy : List ℕ → List ℕ
origin_copy m = get_or m 0 0 ∷ (number_bytes 2 (number_from 0 (take 2 (drop 1 m))) ++ number_bytes 2 (second_in m) ++ number_bytes 1 (get_or m 5 0))

-- `put_entry`: of the first eight
unfoldable pub entry_copy : List ℕ → List ℕ
entry_copy m = origin_copy m ++ number_bytes 2 (number_from 0 (take 2 (drop 6 m)))

-- `waiting_field`: its sides, its origin's bytes, and where it ends
pub record WaitingIs (tab l : List ℕ) (at m e : ℕ) (c : Candidate) : Type 0 where
  pub one : OneAt 0x21 (read_waiting (symbols_of tab)) l at c e
  pub held : SidesFill tab l (at + 9) e m c.sides
  pub mark : (marked c).mark ≡ origin_copy (drop (at + 3) l)

abbrev pub IsWaiting : List ℕ → List ℕ → ℕ → Option WaitingField → Type 0
IsWaiting tab l at (Some f) = (c : Candidate) × WaitingIs tab l at f.middle f.end c
IsWaiting tab l at None = OneBad 0x21 (read_waiting (symbols_of tab)) l at at

-- these pairs with their marks, and no more, stand in the first slots
pub record InRows (tab slots : List ℕ) (count : ℕ) (rows : List Marked) : Type 0 where
  pub counted : length rows ≡ count
  pub holds : Holds tab slots 0 rows
  pub layout : Layout slots count

-- `read_waiting`: behind what stands in the first so many slots
abbrev pub IsWaitings : List ℕ → List ℕ → ℕ → ℕ → List ℕ → List ℕ → Result Group BadField → Type 0
IsWaitings tab l at live slots slots' (Ok g) =
    (ws : List Candidate) × There 0x21 (λ _ f. read_waiting (symbols_of tab) f) (most_pairs - live) l at g.end ws
    × ((rows : List Marked) → InRows tab slots live rows → InRows tab slots' g.count (rows ++ map marked ws))
    × (g.count ≡ live + length ws)
IsWaitings tab l at live slots slots' (Err bad) = ThereBad 0x21 (λ _ f. read_waiting (symbols_of tab) f) (most_pairs - live) l at bad.place

-- `entry_field`: its bytes, and where it ends
pub record EntryIs (l : List ℕ) (at e : ℕ) (x : Entry) : Type 0 where
  pub one : OneAt 0x13 read_entry l at x e
  pub ends : e ≡ at + 11
  pub bytes : logged x ≡ entry_copy (drop (at + 3) l)

abbrev pub IsEntry : List ℕ → ℕ → Result ℕ BadField → Type 0
IsEntry l at (Ok e) = (x : Entry) × EntryIs l at e x
IsEntry l at (Err bad) = OneBad 0x13 read_entry l at bad.place

-- `read_log`
abbrev pub IsLog : List ℕ → ℕ → List ℕ → Result Group BadField → Type 0
IsLog l at log (Ok g) =
    (es : List Entry) × There 0x13 (λ _ f. read_entry f) most_entries l at g.end es × (length es ≡ g.count) × (take (logged_width * g.count) log ≡ flat_map logged es)
IsLog l at log (Err bad) = ThereBad 0x13 (λ _ f. read_entry f) most_entries l at bad.place
