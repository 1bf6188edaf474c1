-- What each reader of a record answers, said by the definitions of Record. Assumes nothing.
-- Read first: Record, items/specs/Readers (OneAt, OneBad, rules_at, InSlots).
use Rattle.std.specs.Prelude.{Result, Ok, Err, ◌≡◌, false, List, ℕ, ◌+◌, drop}
use Rattle.std.proofs.Math.Option.{none}
use Rattle.limits.specs.Limits.{most_rules, most_number, most_entries}
use Rattle.reading.specs.Stops.{wrong_record}
use Rattle.reading.specs.Answers.{symbols_of}
use Rattle.problem.specs.Problem.{Reading, ok, refused, ◌>>=◌, Symbol}
use Rattle.rewriting.specs.Overlap.{Rule}
use Rattle.items.specs.Fields.{fields_there, read_rule_at, read_kind}
use Rattle.items.specs.Readers.{OneAt, OneBad, rules_at, InSlots}
use Rattle.items.specs.declared.BadField.{BadField}
use Rattle.record.specs.Record.{Record, read_end, read_units, nothing_behind, last_field, read_record}
use Rattle.record.specs.declared.Record.{Record as Found}

-- `end_field`, `units_field`: the end, the units
abbrev pub IsEnd : List ℕ → Result ℕ BadField → Type 0
IsEnd l (Ok end) = OneAt 0x10 read_end l 0 end 4
IsEnd l (Err bad) = OneBad 0x10 read_end l 0 bad.place

abbrev pub IsUnits : List ℕ → ℕ → Result ℕ BadField → Type 0
IsUnits l at (Ok units) = OneAt 0x11 read_units l at units (at + 7)
IsUnits l at (Err bad) = OneBad 0x11 read_units l at bad.place

-- `nothing_behind`, `last_field`
abbrev pub IsNothing : List ℕ → ℕ → Result (Unit {0}) BadField → Type 0
IsNothing l at (Ok u) = nothing_behind at (drop at l) ≡ ok tt
IsNothing l at (Err bad) = nothing_behind at (drop at l) ≡ refused wrong_record bad.place

abbrev pub IsLast : List ℕ → List ℕ → ℕ → ℕ → Result (Unit {0}) BadField → Type 0
IsLast tab l end at (Ok u) = last_field (symbols_of tab) end at (drop at l) ≡ ok tt
IsLast tab l end at (Err bad) = last_field (symbols_of tab) end at (drop at l) ≡ refused wrong_record bad.place

-- `read_record` behind its first two fields
unfoldable pub read_behind : List Symbol → ℕ → ℕ → ℕ → List ℕ → Reading Record
read_behind Σ end units at bytes = do
  rules ← fields_there wrong_record 0x12 (read_rule_at Σ false most_number) most_rules none at bytes
  log ← fields_there wrong_record 0x13 (λ _ f. read_kind f) most_entries none rules.end rules.rest
  _ ← last_field Σ end log.end log.rest
  ok (record { end = end; units = units; rules = rules.part })

-- `read_behind`, `read`: the rules' fields begin at 11
abbrev pub IsBehind : List ℕ → List ℕ → ℕ → List ℕ → Result Found BadField → Type 0
IsBehind tab l end slots (Ok r) =
    (r.end ≡ end) × (rules : List Rule)
    × ((units : ℕ) → read_behind (symbols_of tab) end units 11 (drop 11 l) ≡ ok (record { end = end; units = units; rules = rules_at 11 rules }))
    × InSlots tab slots r.count rules
IsBehind tab l end slots (Err bad) = (units : ℕ) → read_behind (symbols_of tab) end units 11 (drop 11 l) ≡ refused wrong_record bad.place

abbrev pub IsRecord : List ℕ → List ℕ → List ℕ → Result Found BadField → Type 0
IsRecord tab l slots (Ok r) =
    (units : ℕ) × (rules : List Rule)
    × (read_record (symbols_of tab) l ≡ ok (record { end = r.end; units = units; rules = rules_at 11 rules }))
    × InSlots tab slots r.count rules
IsRecord tab l slots (Err bad) = read_record (symbols_of tab) l ≡ refused wrong_record bad.place
