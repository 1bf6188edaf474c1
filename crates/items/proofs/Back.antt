-- What was written is read back, whatever stands behind it: one field, a number, fields of one tag, two sides; then rules with the places of their
-- fields, entries and forms, where these keep the limits. Assumes nothing.
-- Read first: specs/Fields, specs/Readers (rules_at), reading/proofs/Fields (field_back), reading/proofs/Reading (read-back), completion/specs/Keeps.
use mathlib.Core.Path.{◌≡◌, refl, sym, ap, ◌∙◌, subst}
use mathlib.Core.Bool.{true, Bool, not, ◌&&◌, ◌||◌, or-true}
use mathlib.Core.List.{List, [], ◌∷◌, ◌++◌, flat_map, append_assoc, append-nil, map}
use mathlib.Core.Option.{Option, some}
use Prim.Native.Nat.{ℕ, zero, suc, ◌+◌, ◌^◌, ◌≤◌, ◌<◌}
use native.Mathlib.Omega.{arith}
use lib.Dec.{leb}
use lib.ListN.{length, length-append, get_or}
use borrow.Author.Tests.{eq-eqb, le-ltb, lt-ltb, le-leb}
use lib.Seq.{take_at, drop_at}
use Rattle.limits.specs.Limits.{most_symbols, most_nodes, two_byte_values, most_number}
use Rattle.terms.specs.Base.{number_bytes, Field, field_bytes, Every, of_none, of_cons}
use Rattle.terms.specs.Term.{Term, Pair, size, term_bytes}
use Rattle.terms.proofs.Bytes.{length_bytes}
use Rattle.terms.proofs.Limits.{length_number_bytes}
use Rattle.terms.proofs.Numerals.{number_back}
use Rattle.fields.specs.Puts.{tagged}
use Rattle.reading.proofs.Reading.{bind_ok}
use Rattle.reading.proofs.Fields.{field_back}
use Rattle.problem.specs.Problem.{Reading, ok, ◌>>=◌, refuse_if, ReadField, due, Symbol, ReadPart, read_side, read_pair, rank_of}
use Rattle.problem.specs.Over.{Over}
use Rattle.problem.proofs.Reading.{read_back}
use Rattle.completion.specs.Calls.{pair_bytes, rule_field, origin_bytes, entry_field}
use Rattle.completion.specs.Keeps.{PairKeeps, RuleKeeps, RulesKeep}
use Rattle.completion.proofs.Over.{OverPair}
use Rattle.completion.proofs.Held.{HeldTo, HeldPair, keeps_held}
use Rattle.order.specs.Order.{above}
use Rattle.rewriting.specs.Overlap.{Rule}
use Rattle.completion.specs.Turn.{Origin, waiting_input, removed_rule, scanned_input, overlapping, Entry}
use Rattle.completion.proofs.Widths.{pair_bytes_length, rule_length, entry_length}
use Rattle.items.specs.Fields.{or_refuse, one_field, read_number, fields_there, renamed_pair, rule_sides, read_rule, RuleAt, number_before}
use Rattle.items.specs.Fields.{read_rule_at, read_kind, read_forms}
use Rattle.items.specs.Readers.{rules_at}
use Rattle.items.proofs.Walking.{OtherTag, none_there, one_there}
use Rattle.items.proofs.OneField.{demand_true, demand_kept}
use Rattle.items.proofs.Parts.{renamed_dec}

-- a field at a place, with what stands behind it, as it is read
abbrev pub placed : ℕ → Field → List ℕ → ReadField
placed at f rest = record { first = at; tag = f.tag; contents = f.contents; end = at + 3 + length f.contents; rest = rest }

due_back : (at : ℕ) (f : Field) (rest : List ℕ) → length f.contents < two_byte_values → due f.tag at (field_bytes f ++ rest) ≡ ok (placed at f rest)
unfolding due field_bytes ◌>>=◌ refuse_if
due_back at f rest h = rw (field_back at f rest h) (rw (eq-eqb f.tag f.tag refl) refl)

-- one field
module _ {A : Type 0} (n : ℕ) (read : ReadField → Reading A) (at : ℕ) (f : Field) (rest : List ℕ) (a : A) where
  pub one_back : length f.contents < two_byte_values → read (placed at f rest) ≡ ok a →
      one_field n f.tag read at (field_bytes f ++ rest) ≡ ok (record { part = a; end = at + 3 + length f.contents; rest = rest })
  unfolding one_field or_refuse ◌>>=◌
  one_back h e = rw (due_back at f rest h) (rw e refl)

-- a number that fills its field
pub read_number_back : (tag width n at : ℕ) (rest : List ℕ) → n < 256 ^ width → read_number width (placed at (tagged tag (number_bytes width n)) rest) ≡ ok n
unfolding read_number
read_number_back tag width n at rest h =
    demand_kept _ (eq-eqb (length (number_bytes width n)) width (length_number_bytes width n)) ∙ ap ok (number_back width n h)

-- the place behind so many fields
unfoldable pub end_of : ℕ → List Field → ℕ
end_of at [] = at
end_of at (f ∷ fs) = end_of (at + 3 + length f.contents) fs

-- fields of one tag from a place on, and the items that are read from them there
pub data Backs {A : Type 0} (tag : ℕ) (read : Option A → ReadField → Reading A) : ℕ → Option A → List Field → List A → Type 0 where
  none_back : {at : ℕ} {before : Option A} → Backs tag read at before [] []
  one_more : {at : ℕ} {before : Option A} {f : Field} {fs : List Field} {a : A} {l : List A} → f.tag ≡ tag → length f.contents < two_byte_values →
      ((rest : List ℕ) → read before (placed at f rest) ≡ ok a) → Backs tag read (at + 3 + length f.contents) (some a) fs l →
      Backs tag read at before (f ∷ fs) (a ∷ l)

module _ {A : Type 0} (n tag : ℕ) (read : Option A → ReadField → Reading A) where
  first_back : (more : ℕ) (before : Option A) (at : ℕ) (f : Field) (a : A) (behind : List ℕ) (later : ReadPart (List A)) → f.tag ≡ tag →
      length f.contents < two_byte_values → read before (placed at f behind) ≡ ok a →
      fields_there n tag read more (some a) (at + 3 + length f.contents) behind ≡ ok later →
      fields_there n tag read (suc more) before at (field_bytes f ++ behind) ≡ ok (record { part = a ∷ later.part; end = later.end; rest = later.rest })
  unfolding field_bytes
  first_back more before at f a behind later t s h d =
      one_there tag read n more before at f.tag _ t
      ∙ bind_ok _ (ap (λ t. one_field n t (read before) at (field_bytes f ++ behind)) (sym t) ∙ one_back n (read before) at f behind a s h) ∙ bind_ok _ d

  -- The items that were written are the items that are read.
  pub there_back : {at : ℕ} {before : Option A} {fs : List Field} {l : List A} → Backs tag read at before fs l →
      (more : ℕ) → length l ≤ more → (rest : List ℕ) → OtherTag tag rest →
      fields_there n tag read more before at (flat_map field_bytes fs ++ rest) ≡ ok (record { part = l; end = end_of at fs; rest = rest })
  unfolding flat_map end_of
  there_back (none_back {at} {before}) more few rest o = none_there tag read n more before at rest o
  there_back (one_more {at} {before} {f} {fs} {a} {l} t s h k) zero few rest o = absurd (omega arith)
  there_back (one_more {at} {before} {f} {fs} {a} {l} t s h k) (suc more) few rest o =
      ap (λ bs. fields_there n tag read (suc more) before at bs) (append_assoc (field_bytes f) (flat_map field_bytes fs) rest)
      ∙ first_back more before at f a (flat_map field_bytes fs ++ rest)
      (record { part = l; end = end_of (at + 3 + length f.contents) fs; rest = rest }) t s (h _) (there_back k more (omega arith) rest o)

-- Two sides.
module _ (Σ : List Symbol) (few : length Σ ≤ most_symbols) where
  side_back : (t : Term) (at : ℕ) (rest : List ℕ) → Over Σ t → HeldTo (length Σ) 16 t →
      read_side Σ at (term_bytes t ++ rest) ≡ ok (record { part = t; end = at + size t; rest = rest })
  unfolding read_side ◌>>=◌ refuse_if
  side_back t at rest o h =
      let l = length-append (term_bytes t) rest in
      rw (read_back Σ few t (suc (length (term_bytes t ++ rest))) at (at + size t) rest o h.made (omega (arith, length_bytes t)) refl)
      (rw (le-ltb most_nodes (size t) h.small) refl)

  -- renamed or not
  pub sides_back : (e : Pair) (at : ℕ) → HeldPair (length Σ) 16 e → OverPair Σ e → read_pair Σ at (pair_bytes e) ≡ ok e
  unfolding read_pair pair_bytes ◌>>=◌ refuse_if
  sides_back e at h o =
      let b : term_bytes e.right ≡ term_bytes e.right ++ [] = sym (append-nil (term_bytes e.right)) in
      rw (side_back e.left at (term_bytes e.right) o.0 h.left)
      (rw (ap (read_side Σ (at + size e.left)) b ∙ side_back e.right (at + size e.left) [] o.1 h.right) refl)

  pub pair_back : (e : Pair) (at : ℕ) → PairKeeps Σ e → renamed_pair Σ at (pair_bytes e) ≡ ok e
  unfolding renamed_pair ◌>>=◌
  pair_back e at k = rw (sides_back e at (keeps_held Σ e k) (k.left_over, k.right_over)) (rw (demand_true _ ((renamed_dec e).1 k.unchanged)) refl)

-- Field 12: rules with numbers of at most `most`.
module _ (Σ : List Symbol) (few : length Σ ≤ most_symbols) (ordered : Bool) (most : ℕ) where
  rule_at_back : (before : Option RuleAt) (r : Rule) → RuleKeeps Σ (number_before before) r → r.number ≤ most → (at : ℕ) (rest : List ℕ) →
      read_rule_at Σ ordered most before (placed at (rule_field r) rest) ≡ ok (record { first = at; rule = r })
  unfolding read_rule_at read_rule rule_sides rule_field ◌>>=◌
  rule_at_back before r k high at rest =
      let two : length (number_bytes 2 r.number) ≡ 2 = length_number_bytes 2 r.number in
      let fits : r.number ≤ most_number = k.high in
      let down : (not ordered || above (rank_of Σ) r.sides.left r.sides.right) ≡ true = rw k.down (or-true (not ordered)) in
      rw (drop_at (number_bytes 2 r.number) (pair_bytes r.sides) 2 two)
      (rw (pair_back Σ few r.sides (at + 5) k.sides)
      (rw (demand_true _ down)
      (rw (take_at (number_bytes 2 r.number) (pair_bytes r.sides) 2 two)
      (rw (number_back 2 r.number (omega arith))
      (rw (lt-ltb (number_before before) r.number k.low, le-leb r.number most high) (rw (demand_true true refl) refl))))))

  pub rules_at_back : (at : ℕ) (before : Option RuleAt) (rules : List Rule) → RulesKeep Σ (number_before before) rules → Every (λ r. r.number ≤ most) rules →
      Backs 0x12 (read_rule_at Σ ordered most) at before (map rule_field rules) (rules_at at rules)
  unfolding rules_at rule_field number_before RulesKeep
  rules_at_back at before [] h of_none = none_back
  rules_at_back at before (r ∷ rules) h (of_cons high highs) =
      let here : RuleAt = record { first = at; rule = r } in
      let next : ℕ = at + 5 + size r.sides.left + size r.sides.right in
      let place : next ≡ at + 3 + length (rule_field r).contents = omega (arith, rule_length r) in
      one_more {f = rule_field r} refl (omega (arith, rule_length r, h.0.sides.left_small, h.0.sides.right_small))
      (rule_at_back before r h.0 high at)
      (subst (λ n. Backs 0x12 (read_rule_at Σ ordered most) n (some here) (map rule_field rules) (rules_at next rules)) place
      (rules_at_back next (some here) rules h.1 highs))

-- numbers that keep document 01's limit
pub numbers_keep : (Σ : List Symbol) (before : ℕ) (rules : List Rule) → RulesKeep Σ before rules → Every (λ r. r.number ≤ most_number) rules
unfolding RulesKeep
numbers_keep Σ before [] h = of_none
numbers_keep Σ before (r ∷ rules) h = of_cons h.0.high (numbers_keep Σ r.number rules h.1)

-- Field 14: two forms.
pub forms_back : (Σ : List Symbol) → length Σ ≤ most_symbols → (n : ℕ) (e : Pair) (at : ℕ) (rest : List ℕ) → PairKeeps Σ e →
    one_field n 0x14 (read_forms Σ) at (field_bytes (tagged 0x14 (pair_bytes e)) ++ rest) ≡ ok
    (record { part = e; end = at + 3 + length (pair_bytes e); rest = rest })
unfolding read_forms
forms_back Σ few n e at rest k =
    one_back n (read_forms Σ) at (tagged 0x14 (pair_bytes e)) rest e (omega (arith, pair_bytes_length e, k.left_small, k.right_small))
    (pair_back Σ few e (at + 3) k)

-- Field 13: the kind of an entry.
abbrev pub kinds_of : List Entry → List ℕ
kinds_of log = map (λ (e : Entry). get_or (entry_field e).contents 0 0) log

kind_known : (o : Origin) (l : List ℕ) → (leb 1 (get_or (origin_bytes o ++ l) 0 0) && leb (get_or (origin_bytes o ++ l) 0 0) 4) ≡ true
unfolding origin_bytes
kind_known (waiting_input n) l = refl
kind_known (removed_rule n) l = refl
kind_known (scanned_input n) l = refl
kind_known (overlapping i o p) l = refl

kind_back : (e : Entry) (at : ℕ) (rest : List ℕ) → read_kind (placed at (entry_field e) rest) ≡ ok (get_or (entry_field e).contents 0 0)
unfolding read_kind entry_field
kind_back e at rest =
    let eight : length (origin_bytes e.origin ++ number_bytes 2 e.made) ≡ 8 = unfold entry_field in entry_length e in
    demand_kept _ (rw eight (kind_known e.origin (number_bytes 2 e.made)))

pub kinds_back : (at : ℕ) (before : Option ℕ) (log : List Entry) → Backs 0x13 (λ _ f. read_kind f) at before (map entry_field log) (kinds_of log)
unfolding entry_field
kinds_back at before [] = none_back
kinds_back at before (e ∷ log) =
    one_more {f = entry_field e} refl (omega (arith, entry_length e)) (kind_back e at)
    (kinds_back (at + 3 + length (entry_field e).contents) (some (get_or (entry_field e).contents 0 0)) log)
