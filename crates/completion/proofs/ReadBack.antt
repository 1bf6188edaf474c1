-- Fields are read back from their bytes, and a rule from its field, whoever wrote them: nothing here knows of a run. Assumes nothing.
-- Read first: specs/Promise, problem/proofs/Reading.
use mathlib.Core.Path.{◌≡◌, refl, sym, ap, ◌∙◌}
use mathlib.Core.Bool.{false}
use mathlib.Core.List.{List, [], ◌∷◌, ◌++◌, map, flat_map, append-nil}
use Prim.Native.Nat.{ℕ, zero, suc, ◌+◌, ◌/◌, ◌%◌, ◌≤◌, ◌<◌}
use native.Mathlib.Omega.{arith}
use lib.Dec.{eqb}
use lib.ListN.{length, length-append}
use Rattle.std.specs.Prelude.{if◌then◌else◌}
use Rattle.terms.specs.Base.{number_bytes, number_from, Field, field_bytes, Every, of_cons}
use Rattle.terms.specs.Term.{Term, size, term_bytes}
use Rattle.terms.proofs.Bytes.{length_bytes}
use Rattle.terms.proofs.Limits.{Made}
use Rattle.terms.proofs.Numerals.{number_back}
use Rattle.reading.proofs.Fields.{field_back}
use Rattle.problem.specs.Problem.{ok, ◌>>=◌, refuse_if, read_term, Symbol}
use Rattle.problem.specs.Over.{Over}
use Rattle.problem.proofs.Reading.{read_back}
use Rattle.rewriting.specs.Overlap.{Rule}
use Rattle.completion.specs.Calls.{pair_bytes, rule_field}
use Rattle.completion.specs.Promise.{fields_from, fields_of, rule_of, rules_in}

pub two_back : (n : ℕ) → n < 65_536 → number_from 0 ((n / 256 % 256) ∷ (n % 256) ∷ []) ≡ n
unfolding number_bytes
two_back n h = number_back 2 n h

-- so many fields, one behind the other
pub fields_back : (more at : ℕ) (fs : List Field) → Every (λ f. length f.contents < 65_536) fs → length fs < more →
    fields_from more at (flat_map field_bytes fs) ≡ ok fs
unfolding fields_from flat_map field_bytes ◌>>=◌
fields_back zero at fs h l = absurd (omega arith)
fields_back (suc more) at [] h l = refl
fields_back (suc more) at (f ∷ fs) (of_cons q h) l =
    rw (field_back at f (flat_map field_bytes fs) q) (rw (fields_back more (at + 3 + length f.contents) fs h (omega arith)) refl)

fields_few : (fs : List Field) → length fs ≤ length (flat_map field_bytes fs)
unfolding flat_map field_bytes
fields_few [] = omega arith
fields_few (f ∷ fs) =
    let a = length-append (number_bytes 2 (length f.contents) ++ f.contents) (flat_map field_bytes fs) in
    omega (arith, fields_few fs)

-- The fields that were written are the fields that are read.
pub fields_are : (fs : List Field) → Every (λ f. length f.contents < 65_536) fs → fields_of (flat_map field_bytes fs) ≡ ok fs
unfolding fields_of
fields_are fs h = fields_back (suc (length (flat_map field_bytes fs))) 0 fs h (omega (arith, fields_few fs))

module _ (Σ : List Symbol) (few : length Σ ≤ 16) where
  -- symbols of the table, and variables that have a byte each
  abbrev pub Named : Term → Type 0
  Named t = Made (λ f. f < length Σ) (λ x. x < 16) t

  -- a rule that its field can hold
  pub record Fits (r : Rule) : Type 0 where
    pub number : r.number < 65_536
    pub left_over : Over Σ r.sides.left
    pub right_over : Over Σ r.sides.right
    pub left_named : Named r.sides.left
    pub right_named : Named r.sides.right

  pub two_terms : (n high low : ℕ) (l r : Term) (bytes : List ℕ) → bytes ≡ term_bytes l ++ (term_bytes r ++ []) → number_from 0 (high ∷ low ∷ []) ≡ n →
      Over Σ l → Over Σ r → Named l → Named r → rule_of Σ (high ∷ low ∷ bytes) ≡ ok (record { number = n; sides = record { left = l; right = r } })
  unfolding rule_of ◌>>=◌ refuse_if
  two_terms n high low l r bytes b e ol or nl nr =
      let c = ap length b ∙ length-append (term_bytes l) (term_bytes r ++ []) in
      let d = length-append (term_bytes r) [] in
      let first : read_term Σ (suc (length bytes)) 2 bytes ≡ ok (record { part = l; end = 2 + size l; rest = term_bytes r ++ [] }) =
      ap (λ bs. read_term Σ (suc (length bytes)) 2 bs) b ∙ read_back Σ few l (suc (length bytes)) 2 (2 + size l) (term_bytes r ++ []) ol nl
      (omega (arith, length_bytes l)) refl in
      let second : read_term Σ (suc (length (term_bytes r ++ []))) (2 + size l) (term_bytes r ++ []) ≡ ok
      (record { part = r; end = 2 + size l + size r; rest = [] }) =
      read_back Σ few r (suc (length (term_bytes r ++ []))) (2 + size l) (2 + size l + size r) [] or nr (omega (arith, length_bytes r)) refl in
      rw (first, rule_of) (rw (second, rule_of) (rw (e, rule_of) refl))

  -- A rule is read back from its field.
  pub rule_back : (r : Rule) → Fits r → rule_of Σ (rule_field r).contents ≡ ok r
  unfolding rule_field pair_bytes number_bytes
  rule_back r f =
      let e = r.sides in
      two_terms r.number (r.number / 256 % 256) (r.number % 256) e.left e.right (term_bytes e.left ++ term_bytes e.right)
      (ap (λ l. term_bytes e.left ++ l) (sym (append-nil (term_bytes e.right)))) (two_back r.number f.number) f.left_over
      f.right_over f.left_named f.right_named

  -- fields of other tags hold no rule
  pub no_rules : (fs : List Field) → Every (λ f. eqb f.tag 0x12 ≡ false) fs → rules_in Σ fs ≡ ok []
  unfolding rules_in
  no_rules [] h = refl
  no_rules (f ∷ fs) (of_cons q h) = rw q (no_rules fs h)

  -- The rules that were written are the rules that are read.
  pub rules_back : (rules : List Rule) (fs : List Field) → Every Fits rules → rules_in Σ fs ≡ ok [] → rules_in Σ (map rule_field rules ++ fs) ≡ ok rules
  unfolding rules_in rule_field ◌>>=◌
  rules_back [] fs h e = e
  rules_back (r ∷ rules) fs (of_cons q h) e = rw (rule_back r q) (rw (rules_back rules fs h e) refl)
