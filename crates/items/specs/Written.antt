-- The fields as they are written: of the pair in a slot, of the rule in a slot, of an entry of the log. Assumes nothing.
-- Read first: completion/specs/Calls (rule-field, entry_field), slots/specs/Slots (slot).
use Rattle.std.specs.Prelude.{List, [], ◌∷◌, ◌++◌, ℕ, zero, suc, ◌+◌, ◌*◌, take, drop}
use Rattle.limits.specs.Limits.{origin_width}
use Rattle.terms.specs.Base.{Field}
use Rattle.rewriting.specs.Overlap.{Rule}
use Rattle.slots.specs.Slots.{slot, number_of, left_of, right_of, Marked, numbered_bytes}
use Rattle.fields.specs.Puts.{tagged}
use Rattle.completion.specs.Turn.{Entry}
use Rattle.completion.specs.Calls.{entry_field}

-- a live rule in its slot: the mark is the origin that it has once it is removed
abbrev pub row : Rule → Marked
row r = record { mark = numbered_bytes 2 r.number; sides = r.sides }

-- an entry in the log, the contents of its field 13: an origin, and the number of the rule made. 8 bytes
abbrev pub logged_width : ℕ
logged_width = origin_width + 2

abbrev pub logged : Entry → List ℕ
logged e = (entry_field e).contents

-- one for each of n places from k on
unfoldable pub each : {A : Type 0} → (ℕ → A) → ℕ → ℕ → List A
each f k zero = []
each f k (suc n) = f k ∷ each f (suc k) n

-- a field of the pair in slot k
unfoldable pub pair_field : ℕ → List ℕ → List ℕ → ℕ → Field
pair_field tag head slots k = tagged tag (head ++ (left_of (slot slots k) ++ right_of (slot slots k)))

-- field 12 of the rule in slot k
unfoldable pub slot_field : List ℕ → ℕ → Field
slot_field slots k = pair_field 0x12 (number_of (slot slots k)) slots k

-- field 13 of the entry at place k of the log
unfoldable pub logged_field : List ℕ → ℕ → Field
logged_field log k = tagged 0x13 (take logged_width (drop (logged_width * k) log))
