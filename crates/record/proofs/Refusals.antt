-- What a record's readers come to: refusal 13 at places of at most 16,384, and where the rules' fields begin. A caller's number is the caller's.
-- Assumes nothing.
-- Read first: reading/proofs/Refusals (Within, Behind), items/proofs/Refusals, specs/Record.
use mathlib.Core.Path.{refl}
use mathlib.Core.Bool.{Bool, true, false}
use mathlib.Core.List.{List}
use mathlib.Core.Option.{none}
use Prim.Native.Nat.{ℕ, ◌+◌, ◌≤◌}
use native.Mathlib.Omega.{arith}
use lib.Dec.{eqb, ltb}
use lib.ListN.{length}
use borrow.Author.Tests.{ltb-false}
use Rattle.limits.specs.Limits.{most_rules, most_number, most_entries, most_record}
use Rattle.std.specs.Prelude.{if◌then◌else◌}
use Rattle.terms.specs.Base.{Every}
use Rattle.reading.specs.Stops.{wrong_record}
use Rattle.reading.proofs.Refusals.{Within, reads, within_bind, within_also, within_test, Behind}
use Rattle.problem.specs.Problem.{Reading, ◌>>=◌, ReadField, Symbol, ReadPart}
use Rattle.items.specs.Fields.{one_field, read_forms, RuleAt, read_rule_at, read_kind}
use Rattle.items.proofs.Refusals.{one_within, there_within, rule_first}
use Rattle.record.specs.Record.{Record, read_end, read_units, nothing_behind, last_field, read_record}

-- 13
abbrev RecordWithin : {A : Type 0} → ℕ → (A → Type 0) → Reading A → Type 0
RecordWithin e Q m = Within wrong_record e Q m

one_there : {A : Type 0} {e : ℕ} (tag : ℕ) (read : ReadField → Reading A) (at : ℕ) (bytes : List ℕ) → at ≤ e →
    RecordWithin e (λ (a : ReadPart A). Behind at bytes a) (one_field wrong_record tag read at bytes)
one_there {e = e} tag read at bytes h =
    within_also (one_within (λ _. Unit {0}) wrong_record e wrong_record refl tag read (λ _ _ _ _. tt) at bytes h) λ _ _ w. w.0

nothing_within : {e : ℕ} (at : ℕ) (bytes : List ℕ) → at ≤ e → RecordWithin e (λ _. Unit {0}) (nothing_behind at bytes)
unfolding nothing_behind
nothing_within at bytes h = within_also (within_test _ wrong_record at refl h) λ _ _ _. tt

module _ (Σ : List Symbol) where
  last_within : {e : ℕ} (end at : ℕ) (bytes : List ℕ) → at + length bytes ≤ e → RecordWithin e (λ _. Unit {0}) (last_field Σ end at bytes)
  unfolding last_field
  last_within {e} end at bytes h = go (eqb end 20)
    where
      go : (t : Bool) → RecordWithin e (λ _. Unit {0})
          (if t then (one_field wrong_record 0x14 (read_forms Σ) at bytes >>= λ f. nothing_behind f.end f.rest) else nothing_behind at bytes)
      go true = within_bind _ _ (one_there 0x14 (read_forms Σ) at bytes (omega arith)) λ f w. nothing_within f.end f.rest (omega arith)
      go false = nothing_within at bytes (omega arith)

  -- a record, and where the fields of its rules begin
  pub record_within : (bytes : List ℕ) →
      RecordWithin most_record (λ (r : Record). Every (λ (a : RuleAt). a.first ≤ most_record) r.rules) (read_record Σ bytes)
  unfolding read_record
  record_within bytes =
      within_bind _ _ (within_test (ltb most_record (length bytes)) wrong_record most_record refl (omega arith)) λ u p.
      let few : length bytes ≤ most_record = ltb-false most_record (length bytes) p in
      within_bind _ _ (one_there 0x10 read_end 0 bytes (omega arith)) λ end a.
      within_bind _ _ (one_there 0x11 read_units end.end end.rest (omega arith)) λ units b.
      within_bind _ _ (there_within (λ (a : RuleAt). a.first ≤ most_record) wrong_record most_record wrong_record refl 0x12 (read_rule_at Σ false most_number)
      (rule_first Σ false most_number) most_rules none units.end units.rest (omega arith)) λ rules c.
      let after : Behind units.end units.rest rules = c.0 in
      within_bind _ _ (there_within (λ _. Unit {0}) wrong_record most_record wrong_record refl 0x13 (λ _ f. read_kind f) (λ _ _ _ _ _. tt) most_entries none
      rules.end rules.rest (omega arith)) λ log d.
      let last : Behind rules.end rules.rest log = d.0 in
      within_bind _ _ (last_within end.part log.end log.rest (omega arith)) λ _ _. reads c.1
