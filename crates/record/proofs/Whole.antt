-- The record as a whole: the listed ends, what may stand behind the log, what follows the first two fields, and `read_record` itself, a lemma for each
-- return. Assumes nothing.
-- Read first: specs/Record (read_record), specs/Reader (read_behind, IsBehind, IsRecord).
use mathlib.Core.Path.{◌≡◌, refl, ◌∙◌, ap, sym}
use mathlib.Core.Bool.{false, Bool, true}
use mathlib.Core.List.{List}
use Prim.Native.Nat.{ℕ, ◌<◌, ◌≤◌, zero, suc, ◌+◌, ◌-◌}
use native.Mathlib.Omega.{arith}
use lib.ListN.{length, drop, length-drop}
use borrow.Author.Tests.{lt-ltb, le-ltb, eq-eqb, ne_eqb, leb-true, leb-false}
use lib.Dec.{leb}
use Rattle.std.proofs.Common.{Result, Ok, Err}
use Rattle.limits.specs.Limits.{most_rules, most_number, most_entries}
use Rattle.terms.specs.Base.{member, Every, of_none, of_cons}
use Rattle.terms.specs.Term.{Pair}
use Rattle.reading.specs.Answers.{symbols_of}
use Rattle.reading.proofs.Reading.{bind_ok, bind_refused}
use Rattle.problem.specs.Problem.{ok, refused, ◌>>=◌, refuse_if}
use Rattle.rewriting.specs.Overlap.{Rule}
use Rattle.items.specs.Fields.{one_field, read_forms, read_rule_at, read_kind}
use Rattle.items.specs.Readers.{OneAt, OneBad, There, ThereBad, rules_at}
use Rattle.items.specs.declared.BadField.{BadField}
use Rattle.record.specs.Record.{read_end, read_units, nothing_behind, last_field, read_record, listed_end}
use Rattle.record.specs.Reader.{IsNothing, IsLast, read_behind, IsBehind, IsRecord}
use Rattle.record.specs.declared.Record.{Record as Found}

-- `listed`: 0 and 20 to 24
pub listed_none : (n : ℕ) → n ≡ 0 → true ≡ listed_end n
unfolding listed_end member
listed_none n e = rw e refl

listed_stop : (k : ℕ) → k < 5 → true ≡ listed_end (20 + k)
unfolding listed_end member
listed_stop zero h = refl
listed_stop (suc zero) h = refl
listed_stop (suc (suc zero)) h = refl
listed_stop (suc (suc (suc zero))) h = refl
listed_stop (suc (suc (suc (suc zero)))) h = refl
listed_stop (suc (suc (suc (suc (suc k))))) h = absurd (omega arith)

-- nothing else is
not_member : (n : ℕ) {l : List ℕ} → Every (λ (m : ℕ). n ≡ m → ⊥) l → false ≡ member n l
unfolding member
not_member n of_none = refl
not_member n (of_cons {x = m} h hs) = rw (ne_eqb n m h) (not_member n hs)

unlisted : (n : ℕ) → (n ≡ 0 → ⊥) → (20 ≤ n → n ≤ 24 → ⊥) → false ≡ listed_end n
unfolding listed_end
unlisted n z f =
    not_member n
    (of_cons z (of_cons (λ e. f (omega arith) (omega arith)) (of_cons (λ e. f (omega arith) (omega arith)) (of_cons (λ e. f (omega arith) (omega arith))
    (of_cons (λ e. f (omega arith) (omega arith)) (of_cons (λ e. f (omega arith) (omega arith)) of_none))))))

pub listed_low : (n : ℕ) → (n ≡ 0 → ⊥) → n < 20 → false ≡ listed_end n
listed_low n z h = unlisted n z (λ low _. omega arith)

pub listed_high : (n : ℕ) → 20 ≤ n → leb n 24 ≡ listed_end n
listed_high n h = go (n - 20) (omega arith) (leb n 24) refl
  where
    go : (k : ℕ) → n ≡ 20 + k → (b : Bool) → leb n 24 ≡ b → leb n 24 ≡ listed_end n
    go k e true q = q ∙ listed_stop k (omega (arith, leb-true n 24 q)) ∙ ap listed_end (sym e)
    go k e false q = q ∙ unlisted n (λ z. omega arith) (λ _ high. omega (arith, leb-false n 24 q))

-- `nothing_behind`
module _ (l : List ℕ) (at : ℕ) where
  pub some_behind : at < length l → nothing_behind at (drop at l) ≡ refused 13 at
  unfolding nothing_behind refuse_if
  some_behind h = rw (lt-ltb 0 (length (drop at l)) (omega (arith, length-drop at l))) refl

  pub none_behind : length l ≤ at → nothing_behind at (drop at l) ≡ ok tt
  unfolding nothing_behind refuse_if
  none_behind h = rw (le-ltb 0 (length (drop at l)) (omega (arith, length-drop at l))) refl

-- `last_field`
module _ (tab l : List ℕ) (end at : ℕ) where
  -- as what is due at e is answered
  as_nothing : (e : ℕ) → last_field (symbols_of tab) end at (drop at l) ≡ nothing_behind e (drop e l) → (r : Result (Unit {0}) BadField) →
      IsNothing l e r → IsLast tab l end at r
  as_nothing e q (Ok u) h = q ∙ h
  as_nothing e q (Err bad) h = q ∙ h

  pub last_without : (end ≡ 20 → ⊥) → (r : Result (Unit {0}) BadField) → IsNothing l at r → IsLast tab l end at r
  unfolding last_field
  last_without h = as_nothing at (rw (ne_eqb end 20 h) refl)

  module _ (h : end ≡ 20) where
    last_is : last_field (symbols_of tab) end at (drop at l) ≡ (one_field 13 0x14 (read_forms (symbols_of tab)) at (drop at l) >>= λ f.
        nothing_behind f.end f.rest)
    unfolding last_field
    last_is = rw (eq-eqb end 20 h) refl

    pub last_bad : (p : ℕ) → OneBad 0x14 (read_forms (symbols_of tab)) l at p → last_field (symbols_of tab) end at (drop at l) ≡ refused 13 p
    last_bad p B = last_is ∙ bind_refused _ (B 13)

    pub last_forms : (forms : Pair) (e : ℕ) → OneAt 0x14 (read_forms (symbols_of tab)) l at forms e → (r : Result (Unit {0}) BadField) →
        IsNothing l e r → IsLast tab l end at r
    last_forms forms e O = as_nothing e (last_is ∙ bind_ok _ (O.is 13))

-- `read_behind`
module _ (tab l : List ℕ) (end : ℕ) where
  pub behind_rules_bad : (p : ℕ) → ThereBad 0x12 (read_rule_at (symbols_of tab) false most_number) most_rules l 11 p →
      (units : ℕ) → read_behind (symbols_of tab) end units 11 (drop 11 l) ≡ refused 13 p
  unfolding read_behind
  behind_rules_bad p B units = bind_refused _ (B 13)

  module _ (e : ℕ) (rules : List Rule) (R : There 0x12 (read_rule_at (symbols_of tab) false most_number) most_rules l 11 e (rules_at 11 rules)) where
    pub behind_entries_bad : (p : ℕ) → ThereBad 0x13 (λ _ f. read_kind f) most_entries l e p →
        (units : ℕ) → read_behind (symbols_of tab) end units 11 (drop 11 l) ≡ refused 13 p
    unfolding read_behind
    behind_entries_bad p B units = bind_ok _ (R.is 13) ∙ bind_refused _ (B 13)

    module _ (f : ℕ) (kinds : List ℕ) (L : There 0x13 (λ _ f. read_kind f) most_entries l e f kinds) where
      pub behind_last_bad : (p : ℕ) → last_field (symbols_of tab) end f (drop f l) ≡ refused 13 p →
          (units : ℕ) → read_behind (symbols_of tab) end units 11 (drop 11 l) ≡ refused 13 p
      unfolding read_behind
      behind_last_bad p B units = bind_ok _ (R.is 13) ∙ bind_ok _ (L.is 13) ∙ bind_refused _ B

      pub behind_fine : last_field (symbols_of tab) end f (drop f l) ≡ ok tt → (units : ℕ) →
          read_behind (symbols_of tab) end units 11 (drop 11 l) ≡ ok (record { end = end; units = units; rules = rules_at 11 rules })
      unfolding read_behind
      behind_fine h units = bind_ok _ (R.is 13) ∙ bind_ok _ (L.is 13) ∙ bind_ok _ h

-- `read`
module _ (tab l : List ℕ) where
  pub record_long : 16384 < length l → read_record (symbols_of tab) l ≡ refused 13 16384
  unfolding read_record ◌>>=◌ refuse_if
  record_long h = rw (lt-ltb 16384 (length l) h) refl

  module _ (h : length l ≤ 16384) where
    record_is : read_record (symbols_of tab) l ≡ (one_field 13 0x10 read_end 0 l >>= λ e.
        one_field 13 0x11 read_units e.end e.rest >>= λ u.
        read_behind (symbols_of tab) e.part u.part u.end u.rest)
    unfolding read_record ◌>>=◌ refuse_if read_behind
    record_is = rw (le-ltb 16384 (length l) h) refl

    pub record_end_bad : (p : ℕ) → OneBad 0x10 read_end l 0 p → read_record (symbols_of tab) l ≡ refused 13 p
    record_end_bad p B = record_is ∙ bind_refused _ (B 13)

    module _ (end : ℕ) (E : OneAt 0x10 read_end l 0 end 4) where
      pub record_units_bad : (p : ℕ) → OneBad 0x11 read_units l 4 p → read_record (symbols_of tab) l ≡ refused 13 p
      record_units_bad p B = record_is ∙ bind_ok _ (E.is 13) ∙ bind_refused _ (B 13)

      pub record_behind : (units : ℕ) → OneAt 0x11 read_units l 4 units 11 → (slots : List ℕ) (r : Result Found BadField) →
          IsBehind tab l end slots r → IsRecord tab l slots r
      record_behind units U slots r = go r
        where
          is : read_record (symbols_of tab) l ≡ read_behind (symbols_of tab) end units 11 (drop 11 l)
          is = record_is ∙ bind_ok _ (E.is 13) ∙ bind_ok _ (U.is 13)

          go : (r : Result Found BadField) → IsBehind tab l end slots r → IsRecord tab l slots r
          go (Ok r) B = (units, B.1, is ∙ B.2 units ∙ rw B.0 refl, B.3)
          go (Err bad) B = is ∙ B units
