-- What is read of a record, whoever wrote it, is what the promise of complete reads of those bytes: the same end and the same rules. The rules are
-- over the symbols, renamed, and keep the limits of document 01. Assumes nothing.
-- Read first: specs/Record, completion/specs/Promise, completion/specs/Keeps, items/proofs/Parts.
use mathlib.Core.Path.{◌≡◌, refl, ap, subst, ◌∙◌}
use mathlib.Core.Bool.{Bool, true, false}
use mathlib.Core.List.{List, [], ◌∷◌, ◌++◌, map}
use mathlib.Core.Option.{none, some}
use Prim.Native.Nat.{ℕ, zero, suc, ◌≤◌}
use native.Mathlib.Omega.{arith}
use lib.Dec.{eqb}
use lib.ListN.{length}
use borrow.Author.Tests.{eqb-true, ltb-false}
use Rattle.limits.specs.Limits.{most_rules, most_entries, most_number}
use Rattle.terms.specs.Base.{number_from, Field, Every, of_none}
use Rattle.terms.proofs.Every.{every_one, every_append}
use Rattle.reading.specs.Stops.{wrong_record}
use Rattle.problem.specs.Problem.{ok, ReadField, Symbol}
use Rattle.problem.proofs.Reading.{from_bind, ok_injective, passed}
use Rattle.completion.specs.Promise.{fields_from, fields_of, one_byte, end_in, rules_in}
use Rattle.completion.proofs.ReadBack.{no_rules}
use Rattle.items.specs.Fields.{read_number, read_forms, rules_of, read_rule_at, read_kind}
use Rattle.items.proofs.Parts.{RuleRead, NoRule, none_rules, rules_again, demanded, plain, AreFields, OneRead, one_read, ThereRead, there_read}
use Rattle.record.specs.Record.{Record, read_end, read_units, nothing_behind, last_field, read_record}

-- the end
end_read : (f : ReadField) (end : ℕ) → read_end f ≡ ok end → one_byte f.contents ≡ some end
unfolding read_end read_number one_byte number_from
end_read f end e =
    from_bind _ _ end e λ n h e.
    from_bind _ _ n h λ u g h.
    from_bind _ _ end e λ _ _ e.
    one f.contents (eqb-true (length f.contents) 1 (demanded _ u g)) ∙ ap some (ok_injective h ∙ ok_injective e)
  where
    one : (l : List ℕ) → length l ≡ 1 → one_byte l ≡ some (number_from 0 l)
    one [] h = absurd (omega arith)
    one (b ∷ []) h = ap some (omega arith)
    one (b ∷ c ∷ l) h = absurd (omega arith)

-- no byte is left
no_fields : (at : ℕ) (bytes : List ℕ) (u : Unit {0}) → nothing_behind at bytes ≡ ok u → AreFields at bytes []
unfolding nothing_behind fields_from
no_fields at [] u e zero l = absurd (omega arith)
no_fields at [] u e (suc more) l = refl
no_fields at (b ∷ bytes) u e more l = absurd (omega (arith, ltb-false 0 (length (b ∷ bytes)) (passed _ wrong_record at u e)))

module _ (Σ : List Symbol) (few : length Σ ≤ 16) where
  -- what stands behind the log: nothing, or the forms
  record LastRead (at : ℕ) (bytes : List ℕ) : Type 0 where
    fields : List Field
    are : AreFields at bytes fields
    no_rule : Every NoRule fields

  last_read : (end at : ℕ) (bytes : List ℕ) (u : Unit {0}) → last_field Σ end at bytes ≡ ok u → LastRead at bytes
  unfolding last_field
  last_read end at bytes u e = go (eqb end 20) refl
    where
      go : (b : Bool) → eqb end 20 ≡ b → LastRead at bytes
      go false q = record { fields = []; are = no_fields at bytes u (rw q at e); no_rule = of_none }
      go true q =
          from_bind _ _ u (rw q at e) λ f h e.
          let r = one_read wrong_record 0x14 (read_forms Σ) at bytes f h in
          record {
            fields = plain r.field ∷ [];
            are = r.more_fields [] (no_fields f.end f.rest u e);
            no_rule = every_one (ap (λ n. eqb n 0x12) r.tag_is);
          }

  -- What a record that was read says, as the promise of complete reads it.
  pub record Agrees (bytes : List ℕ) (r : Record) : Type 0 where
    pub fields : List Field
    pub are_fields : fields_of bytes ≡ ok fields
    pub end_is : end_in fields ≡ some r.end
    pub rules_are : rules_in Σ fields ≡ ok (rules_of r.rules)
    pub rules_read : Every (λ a. RuleRead Σ false most_number 0 a.rule) r.rules

  pub agrees : (bytes : List ℕ) (r : Record) → read_record Σ bytes ≡ ok r → Agrees bytes r
  unfolding read_record fields_of end_in rules_in
  agrees bytes r e =
      from_bind _ _ r e λ _ _ e.
      from_bind _ _ r e λ end a e.
      from_bind _ _ r e λ units b e.
      from_bind _ _ r e λ rules c e.
      from_bind _ _ r e λ log d e.
      from_bind _ _ r e λ u k e.
      let E : OneRead 0x10 read_end 0 bytes end = one_read wrong_record 0x10 read_end 0 bytes end a in
      let U : OneRead 0x11 read_units end.end end.rest units = one_read wrong_record 0x11 read_units end.end end.rest units b in
      let R : ThereRead 0x12 (read_rule_at Σ false most_number) none units.end units.rest rules =
      there_read wrong_record 0x12 (read_rule_at Σ false most_number) most_rules none units.end units.rest rules c in
      let L : ThereRead 0x13 (λ _ f. read_kind f) none rules.end rules.rest log =
      there_read wrong_record 0x13 (λ _ f. read_kind f) most_entries none rules.end rules.rest log d in
      let Z : LastRead log.end log.rest = last_read end.part log.end log.rest u k in
      let T = rules_again Σ few false most_number R.items _ (no_rules Σ few _ (every_append (none_rules refl L.items) Z.no_rule)) in
      subst (Agrees bytes) (ok_injective e)
      (record {
        fields = plain E.field ∷ plain U.field ∷ (map plain R.fields ++ (map plain L.fields ++ Z.fields));
        are_fields = E.more_fields _ (U.more_fields _ (R.more_fields _ (L.more_fields _ Z.are))) (suc (length bytes)) (omega arith);
        end_is = rw E.tag_is (end_read E.field end.part E.is);
        rules_are = rw E.tag_is (rw U.tag_is T.0);
        rules_read = T.1;
      })
