-- A result that keeps the limits is read back as what was written: its end, its units, and its rules with the places of their fields. So 13 is not
-- given for it. Assumes nothing.
-- Read first: specs/Record, items/specs/Readers (rules_at), completion/specs/Keeps, items/proofs/Back.
use mathlib.Core.Path.{◌≡◌, refl, ap, ◌∙◌}
use mathlib.Core.Bool.{false, true}
use mathlib.Core.List.{List, [], ◌∷◌, ◌++◌, map, flat_map, append_assoc}
use mathlib.Core.Option.{none}
use Prim.Native.Nat.{ℕ, ◌≤◌, ◌<◌}
use native.Mathlib.Omega.{arith}
use lib.Dec.{eqb}
use lib.ListN.{length, get_or, length-map}
use borrow.Author.Tests.{le-ltb, le-leb}
use Rattle.limits.specs.Limits.{most_symbols, most_rules, most_entries, most_number, most_record, most_budget}
use Rattle.terms.specs.Base.{number_bytes, field_bytes, member, Field}
use Rattle.terms.proofs.Lists.{flat_map_append}
use Rattle.terms.proofs.Limits.{length_number_bytes}
use Rattle.reading.specs.Stops.{wrong_record}
use Rattle.reading.proofs.Reading.{bind_ok}
use Rattle.problem.specs.Problem.{ok, ◌>>=◌, refuse_if, Symbol}
use Rattle.rewriting.specs.Rewrite.{End, complete, neither_above, spent, too_large, rules_full, log_full, end_number}
use Rattle.completion.specs.Turn.{Candidate, Entry, Finished}
use Rattle.completion.specs.Calls.{rule_field, entry_field, oldest_field, forms_field, result_fields, result_bytes}
use Rattle.completion.specs.Keeps.{OldestKeeps, Keeps}
use Rattle.completion.proofs.Widths.{flat}
use Rattle.items.specs.Fields.{one_field, fields_there, number_before, read_rule_at, read_kind}
use Rattle.items.proofs.OneField.{demand_kept}
use Rattle.items.specs.Readers.{rules_at}
use Rattle.items.proofs.Walking.{OtherTag}
use Rattle.items.proofs.Back.{rules_at_back, numbers_keep, forms_back, kinds_of, kinds_back, placed, read_number_back, one_back, end_of, there_back}
use Rattle.items.proofs.Slotted.{length_rules_at}
use Rattle.record.specs.Record.{read_end, read_units, nothing_behind, last_field, listed_end, read_record}

-- 10 and 11
end_fits : (e : End) → (listed_end (end_number e) ≡ true) × (end_number e < 256)
unfolding listed_end end_number member
end_fits complete = (refl, omega arith)
end_fits neither_above = (refl, omega arith)
end_fits spent = (refl, omega arith)
end_fits too_large = (refl, omega arith)
end_fits rules_full = (refl, omega arith)
end_fits log_full = (refl, omega arith)

abbrev field_10 : End → Field
field_10 e = record { tag = 0x10; contents = number_bytes 1 (end_number e) }

abbrev field_11 : ℕ → Field
field_11 n = record { tag = 0x11; contents = number_bytes 4 n }

end_back : (e : End) (at : ℕ) (rest : List ℕ) → read_end (placed at (field_10 e) rest) ≡ ok (end_number e)
unfolding read_end
end_back e at rest = bind_ok _ (read_number_back 0x10 1 (end_number e) at rest (end_fits e).1) ∙ demand_kept _ (end_fits e).0

units_back : (n at : ℕ) (rest : List ℕ) → n ≤ most_budget → read_units (placed at (field_11 n) rest) ≡ ok n
unfolding read_units
units_back n at rest h = bind_ok _ (read_number_back 0x11 4 n at rest (omega arith)) ∙ demand_kept _ (le-leb n most_budget h)

-- 14, or nothing
abbrev from_forms : End → List Candidate → List ℕ
from_forms e waiting = flat (forms_field e waiting)

oldest_tag : (tag : ℕ) (waiting : List Candidate) → eqb 0x14 tag ≡ false → OtherTag tag (flat (oldest_field waiting))
unfolding oldest_field flat_map field_bytes
oldest_tag tag [] h = tt
oldest_tag tag (c ∷ waiting) h = h

forms_tag : (tag : ℕ) (e : End) (waiting : List Candidate) → eqb 0x14 tag ≡ false → OtherTag tag (from_forms e waiting)
unfolding forms_field flat_map
forms_tag tag complete waiting h = tt
forms_tag tag neither_above waiting h = oldest_tag tag waiting h
forms_tag tag spent waiting h = tt
forms_tag tag too_large waiting h = tt
forms_tag tag rules_full waiting h = tt
forms_tag tag log_full waiting h = tt

log_tag : (log : List Entry) (e : End) (waiting : List Candidate) → OtherTag 0x12 (flat (map entry_field log) ++ from_forms e waiting)
unfolding flat_map field_bytes entry_field
log_tag [] e waiting = forms_tag 0x12 e waiting refl
log_tag (d ∷ log) e waiting = refl

module _ (Σ : List Symbol) (few : length Σ ≤ most_symbols) where
  last_none : (end at : ℕ) → eqb end 20 ≡ false → last_field Σ end at [] ≡ ok tt
  unfolding last_field nothing_behind refuse_if
  last_none end at h = rw h refl

  last_oldest : (waiting : List Candidate) (at : ℕ) → OldestKeeps Σ waiting → last_field Σ 20 at (flat (oldest_field waiting)) ≡ ok tt
  unfolding OldestKeeps oldest_field flat_map last_field nothing_behind ◌>>=◌ refuse_if
  last_oldest [] at h = absurd h
  last_oldest (c ∷ waiting) at h = rw (forms_back Σ few wrong_record c.sides at [] h) refl

  last_back : (e : End) (waiting : List Candidate) (at : ℕ) → (e ≡ neither_above → OldestKeeps Σ waiting) →
      last_field Σ (end_number e) at (from_forms e waiting) ≡ ok tt
  unfolding forms_field flat_map end_number
  last_back complete waiting at h = last_none _ at refl
  last_back neither_above waiting at h = last_oldest waiting at (h refl)
  last_back spent waiting at h = last_none _ at refl
  last_back too_large waiting at h = last_none _ at refl
  last_back rules_full waiting at h = last_none _ at refl
  last_back log_full waiting at h = last_none _ at refl

  module _ (f : Finished) (k : Keeps Σ f) where
    -- what stands behind the units, and behind the rules
    abbrev from_log : List ℕ
    from_log = flat (map entry_field f.state.log) ++ from_forms f.end f.state.waiting

    abbrev from_rules : List ℕ
    from_rules = flat (map rule_field f.state.rules) ++ from_log

    laid : result_bytes f ≡ field_bytes (field_10 f.end) ++ (field_bytes (field_11 f.units) ++ from_rules)
    unfolding result_bytes result_fields flat_map
    laid =
        ap (λ l. field_bytes (field_10 f.end) ++ (field_bytes (field_11 f.units) ++ l))
        (flat_map_append field_bytes (map rule_field f.state.rules ++ map entry_field f.state.log) (forms_field f.end f.state.waiting)
        ∙ ap (λ l. l ++ from_forms f.end f.state.waiting)
        (flat_map_append field_bytes (map rule_field f.state.rules) (map entry_field f.state.log))
        ∙ append_assoc (flat (map rule_field f.state.rules)) (flat (map entry_field f.state.log)) (from_forms f.end f.state.waiting))

    back_10 : one_field wrong_record 0x10 read_end 0 (result_bytes f) ≡ ok
        (record { part = end_number f.end; end = 4; rest = field_bytes (field_11 f.units) ++ from_rules })
    back_10 =
        let l : length (number_bytes 1 (end_number f.end)) ≡ 1 = length_number_bytes 1 (end_number f.end) in
        let rest : List ℕ = field_bytes (field_11 f.units) ++ from_rules in
        ap (one_field wrong_record 0x10 read_end 0) laid
        ∙ one_back wrong_record read_end 0 (field_10 f.end) rest (end_number f.end) (omega arith) (end_back f.end 0 rest)
        ∙ ap (λ n. ok (record { part = end_number f.end; end = n; rest = rest })) (omega arith)

    back_11 : one_field wrong_record 0x11 read_units 4 (field_bytes (field_11 f.units) ++ from_rules) ≡ ok
        (record { part = f.units; end = 11; rest = from_rules })
    back_11 =
        let l : length (number_bytes 4 f.units) ≡ 4 = length_number_bytes 4 f.units in
        one_back wrong_record read_units 4 (field_11 f.units) from_rules f.units (omega arith) (units_back f.units 4 from_rules k.units_few)
        ∙ ap (λ n. ok (record { part = f.units; end = n; rest = from_rules })) (omega arith)

    back_12 : fields_there wrong_record 0x12 (read_rule_at Σ false most_number) most_rules none 11 from_rules ≡ ok
        (record { part = rules_at 11 f.state.rules; end = end_of 11 (map rule_field f.state.rules); rest = from_log })
    unfolding number_before
    back_12 =
        there_back wrong_record 0x12 (read_rule_at Σ false most_number)
        (rules_at_back Σ few false most_number 11 none f.state.rules k.rules_keep (numbers_keep Σ 0 f.state.rules k.rules_keep)) most_rules
        (omega (arith, length_rules_at 11 f.state.rules, k.rules_few)) from_log (log_tag f.state.log f.end f.state.waiting)

    back_13 : (at : ℕ) → fields_there wrong_record 0x13 (λ _ f. read_kind f) most_entries none at from_log ≡ ok
        (record { part = kinds_of f.state.log; end = end_of at (map entry_field f.state.log); rest = from_forms f.end f.state.waiting })
    back_13 at =
        there_back wrong_record 0x13 (λ _ f. read_kind f) (kinds_back at none f.state.log) most_entries
        (omega (arith, length-map f.state.log (λ (e : Entry). get_or (entry_field e).contents 0 0), k.log_few)) (from_forms f.end f.state.waiting)
        (forms_tag 0x13 f.end f.state.waiting refl)

    -- What was written is what is read: the rules' fields begin behind the eleven bytes of the end and the units.
    pub record_back : read_record Σ (result_bytes f) ≡ ok (record { end = end_number f.end; units = f.units; rules = rules_at 11 f.state.rules })
    unfolding read_record
    record_back =
        bind_ok _ (unfold refuse_if in rw (le-ltb most_record (length (result_bytes f)) (omega (arith, k.short))) refl)
        ∙ bind_ok _ back_10
        ∙ bind_ok _ back_11
        ∙ bind_ok _ back_12
        ∙ bind_ok _ (back_13 (end_of 11 (map rule_field f.state.rules)))
        ∙ bind_ok _ (last_back f.end f.state.waiting _ k.forms_keep)
