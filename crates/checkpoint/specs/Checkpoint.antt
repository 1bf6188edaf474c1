-- Document 02, Seven: the saved record's bytes, and reading it back; section 21 of docs/DEFINITION.md. Assumes nothing.
-- Read first: items/specs/Fields (one_field, fields_there, read_rule_at), completion/specs/Turn (State), completion/specs/Calls (rule_field, entry_field).
use Rattle.std.specs.Prelude.{Bool, true, ◌&&◌, ◌||◌, ℕ, suc, ◌+◌, ◌-◌, eqb, ltb, leb, length, take, drop, get_or}
use mathlib.Core.List.{List, [], ◌∷◌, ◌++◌, map, flat_map}
use Rattle.std.proofs.Math.Option.{none}
use Rattle.limits.specs.Limits.{most_equations, most_rules, most_pairs, most_entries, most_saved, most_next}
use Rattle.std.specs.Prelude.{if◌then◌else◌}
use Rattle.terms.specs.Base.{number_bytes, number_from, Field, field_bytes}
use Rattle.terms.specs.Term.{Pair}
use Rattle.reading.specs.Stops.{long_problem, wrong_saved}
use Rattle.problem.specs.Problem.{Reading, ok, ◌>>=◌, refuse_if, ReadField, Symbol, read_pair, symbol_field, Theory}
use Rattle.completion.specs.Turn.{Origin, waiting_input, removed_rule, scanned_input, overlapping, Candidate, Entry, State}
use Rattle.completion.specs.Calls.{pair_bytes, rule_field, origin_bytes, entry_field}
use Rattle.items.specs.Fields.{demand, one_field, read_number, fields_there, renamed_pair, read_rule_at, rules_of}

-- "the problem without its budget, the next rule number, the live rules, the waiting list with each equation's origin as logged, the log, and how many
-- equations were put back since the last change": a theory, and the state in which the unfinished turn began; the next rule number is one above `made`.
-- [21.3, 21.10]
pub record Checkpoint : Type 0 where
  pub theory : Theory
  pub state : State

-- 01: "two bytes a symbol, arity .. then rank" [21.4]
unfoldable pub symbol_bytes : List Symbol → List ℕ
symbol_bytes Σ = flat_map (λ s. s.arity ∷ s.rank ∷ []) Σ

-- 03: "an equation, left term then right term", as in the problem [21.4]
unfoldable pub equation_field_of : Pair → Field
equation_field_of e = record { tag = 0x03; contents = pair_bytes e }

-- 21: its origin in six bytes as logged (kind, first number, second number, position), left, right [21.7]
unfoldable pub waiting_field : Candidate → Field
waiting_field c = record { tag = 0x21; contents = origin_bytes c.origin ++ pair_bytes c.sides }

-- 01; 03 once an equation; 20, the next rule number in two bytes; 12 once a live rule; 21 once a waiting equation, oldest first; 13 once a log entry;
-- 22, how many were put back, in one byte [21.3 to 21.9]
unfoldable pub checkpoint_fields : Checkpoint → List Field
checkpoint_fields c =
    record { tag = 0x01; contents = symbol_bytes c.theory.symbols }
    ∷ (map equation_field_of c.theory.equations
    ++ (record { tag = 0x20; contents = number_bytes 2 (suc c.state.made) }
    ∷ (map rule_field c.state.rules
    ++ (map waiting_field c.state.waiting
    ++ (map entry_field c.state.log
    ++ (record { tag = 0x22; contents = number_bytes 1 c.state.put_back } ∷ []))))))

unfoldable pub checkpoint_bytes : Checkpoint → List ℕ
checkpoint_bytes c = flat_map field_bytes (checkpoint_fields c)

-- two terms over the symbols, at most 120 nodes each, nothing behind them: as in a problem, so not renamed [21.15]
unfoldable pub read_equation : List Symbol → ReadField → Reading Pair
read_equation Σ f = read_pair Σ (f.first + 3) f.contents

-- the next rule number: two bytes, 1 to 513 [21.15]
unfoldable pub read_next : ReadField → Reading ℕ
read_next f = do
  next ← read_number 2 f
  _ ← demand (leb 1 next && leb next most_next)
  ok next

-- kinds 1 to 4; second number and position 0 unless the kind is 4 [21.16]
unfoldable pub origin_with : ℕ → ℕ → ℕ → ℕ → Origin
origin_with kind first second position =
    if eqb kind 1 then waiting_input first
    else if eqb kind 2 then removed_rule first
    else if eqb kind 3 then scanned_input first
    else overlapping first second position

unfoldable pub read_origin : List ℕ → Reading Origin
read_origin bytes = do
  let kind = get_or bytes 0 0
  let second = number_from 0 (take 2 (drop 3 bytes))
  let position = get_or bytes 5 0
  _ ← demand (leb 1 kind && leb kind 4 && (eqb kind 4 || eqb (second + position) 0))
  ok (origin_with kind (number_from 0 (take 2 (drop 1 bytes))) second position)

-- a waiting equation: an origin, and two terms as those of a rule, renamed as a pair [21.15]
unfoldable pub read_waiting : List Symbol → ReadField → Reading Candidate
read_waiting Σ f = do
  origin ← read_origin f.contents
  sides ← renamed_pair Σ (f.first + 9) (drop 6 f.contents)
  ok (record { origin = origin; sides = sides })

-- an entry: eight bytes, an origin and the number of the rule made, which may be any [21.15]
unfoldable pub read_entry : ReadField → Reading Entry
read_entry f = do
  _ ← demand (eqb (length f.contents) 8)
  origin ← read_origin f.contents
  ok (record { origin = origin; made = number_from 0 (drop 6 f.contents) })

-- how many were put back: one byte, "at most the number waiting" [21.15]
unfoldable pub read_put_back : ℕ → ReadField → Reading ℕ
read_put_back waiting f = do
  n ← read_number 1 f
  _ ← demand (leb n waiting)
  ok n

-- fewer entries than the next rule number less one: each rule was made with an entry [21.14]
unfoldable pub few_entries : ℕ → ℕ → Bool
few_entries next entries = ltb (suc entries) next

-- 2 for over 49,152 bytes, at place 49,152. Then 16, "at the first bad field's first byte (the end if it stops where one is due)": whatever is wrong with
-- what is due at a place, the refusal is `wrong_saved` at that place. "rules and waiting equations at most 33 together"; the log has at least as many
-- entries as the next number less one, else an entry is due where the next field stands; bytes behind the last field are refused at their first.
-- [21.12 to 21.16]
unfoldable pub read_checkpoint : List ℕ → Reading Checkpoint
read_checkpoint bytes = do
  _ ← refuse_if (ltb most_saved (length bytes)) long_problem most_saved
  Σ ← one_field wrong_saved 0x01 symbol_field 0 bytes
  es ← fields_there wrong_saved 0x03 (λ _ f. read_equation Σ.part f) most_equations none Σ.end Σ.rest
  next ← one_field wrong_saved 0x20 read_next es.end es.rest
  rules ← fields_there wrong_saved 0x12 (read_rule_at Σ.part true (next.part - 1)) most_rules none next.end next.rest
  waiting ← fields_there wrong_saved 0x21 (λ _ f. read_waiting Σ.part f) (most_pairs - length rules.part) none rules.end rules.rest
  log ← fields_there wrong_saved 0x13 (λ _ f. read_entry f) most_entries none waiting.end waiting.rest
  _ ← refuse_if (few_entries next.part (length log.part)) wrong_saved log.end
  back ← one_field wrong_saved 0x22 (read_put_back (length waiting.part)) log.end log.rest
  _ ← refuse_if (ltb 0 (length back.rest)) wrong_saved back.end
  ok (record {
    theory = record { symbols = Σ.part; equations = es.part };
    state = record { rules = rules_of rules.part; made = next.part - 1; waiting = waiting.part; log = log.part; put_back = back.part };
  })
