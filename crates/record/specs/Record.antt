-- Document 02, Three: a result record read over a problem's symbols, and refusal 13; section 18 of docs/DEFINITION.md. Assumes nothing.
-- Read first: items/specs/Fields.
use Rattle.std.specs.Prelude.{Bool, false, List, [], ◌∷◌, ℕ, eqb, ltb, leb, length}
use Rattle.std.proofs.Math.Option.{none}
use Rattle.limits.specs.Limits.{most_budget, most_rules, most_number, most_entries, most_record}
use Rattle.std.specs.Prelude.{if◌then◌else◌}
use Rattle.terms.specs.Base.{member}
use Rattle.reading.specs.Stops.{wrong_record}
use Rattle.problem.specs.Problem.{Reading, ok, ◌>>=◌, refuse_if, ReadField, Symbol}
use Rattle.items.specs.Fields.{demand, one_field, read_number, fields_there, RuleAt, read_rule_at, read_kind, read_forms}

-- What is kept of a record that was read.
pub record Record : Type 0 where
  pub end : ℕ
  pub units : ℕ
  pub rules : List RuleAt

-- "only listed ends": document 01 lists 0 and 20 to 23, document 02 adds 24 [18.6]
unfoldable pub listed_end : ℕ → Bool
listed_end n = member n (0 ∷ 20 ∷ 21 ∷ 22 ∷ 23 ∷ 24 ∷ [])

-- "tag 10, the end, one byte" [18.6]
unfoldable pub read_end : ReadField → Reading ℕ
read_end f = do
  end ← read_number 1 f
  _ ← demand (listed_end end)
  ok end

-- "11, units, four bytes"; "units up to 1,000,000" [18.6]
unfoldable pub read_units : ReadField → Reading ℕ
read_units f = do
  units ← read_number 4 f
  _ ← demand (leb units most_budget)
  ok units

-- a field behind the last one due is out of order [18.5]
unfoldable pub nothing_behind : ℕ → List ℕ → Reading (Unit {0})
nothing_behind at bytes = refuse_if (ltb 0 (length bytes)) wrong_record at

-- "14, only with end 20" [18.9]
unfoldable pub last_field : List Symbol → ℕ → ℕ → List ℕ → Reading (Unit {0})
last_field Σ end at bytes =
    let forms : Reading (Unit {0}) = one_field wrong_record 0x14 (read_forms Σ) at bytes >>= λ f. nothing_behind f.end f.rest in
    if eqb end 20 then forms else nothing_behind at bytes

-- 13: "when the record is over 16,384 bytes (place 16,384), ends where a field is due (its end), or has a field that is cut, out of order or against
-- document 01's layout, renaming and limits over the problem's symbols (.. that field's first byte)". At most 32 rules and 512 entries. Whether a rule's
-- left side is above its right side is asked later.
-- [18.3 to 18.9]
unfoldable pub read_record : List Symbol → List ℕ → Reading Record
read_record Σ bytes = do
  _ ← refuse_if (ltb most_record (length bytes)) wrong_record most_record
  e ← one_field wrong_record 0x10 read_end 0 bytes
  u ← one_field wrong_record 0x11 read_units e.end e.rest
  rules ← fields_there wrong_record 0x12 (read_rule_at Σ false most_number) most_rules none u.end u.rest
  log ← fields_there wrong_record 0x13 (λ _ f. read_kind f) most_entries none rules.end rules.rest
  _ ← last_field Σ e.part log.end log.rest
  ok (record { end = e.part; units = u.part; rules = rules.part })
