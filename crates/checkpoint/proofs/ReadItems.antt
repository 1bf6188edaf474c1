-- What is read from the fields of a saved record, whoever wrote it: rules, waiting equations, entries and numbers that keep the limits. Assumes nothing.
-- Read first: specs/Checkpoint, proofs/Items (OriginWide), items/proofs/Parts (ReadFrom), completion/specs/Promise (fields_from).
use mathlib.Core.Path.{◌≡◌, refl, sym, ap, subst, ◌∙◌}
use mathlib.Core.Bool.{Bool, true, false}
use mathlib.Core.List.{List, [], ◌∷◌, map}
use mathlib.Core.Option.{Option, some}
use Prim.Native.Nat.{ℕ, zero, suc, ◌+◌, ◌≤◌, ◌<◌}
use native.Mathlib.Omega.{arith}
use lib.Dec.{eqb, ltb, leb}
use lib.ListN.{length, take, drop, get_or, length-drop, take-append-drop}
use lib.Seq.{take_all}
use borrow.Author.Tests.{ltb-true, ltb-false, leb-true, eqb-true}
use Rattle.limits.specs.Limits.{most_number, most_next, byte_values, two_byte_values}
use Rattle.std.specs.Prelude.{if◌then◌else◌}
use Rattle.terms.specs.Base.{number_from, Field, Every, of_none, of_cons}
use Rattle.terms.specs.Term.{Pair}
use Rattle.terms.proofs.Shape.{both_true, either_has}
use Rattle.terms.proofs.Limits.{Bytes}
use Rattle.terms.proofs.Every.{every_tail, every_left, every_right}
use Rattle.rewriting.specs.Overlap.{Rule}
use Rattle.problem.specs.Problem.{Reading, ok, ReadField, read_field, ReadPart, Symbol}
use Rattle.problem.proofs.Reading.{from_bind, ok_injective, no_ok}
use Rattle.completion.specs.Turn.{Origin, waiting_input, removed_rule, scanned_input, Candidate, Entry}
use Rattle.completion.specs.Keeps.{PairKeeps, RulesKeep}
use Rattle.completion.specs.Promise.{fields_from}
use Rattle.completion.proofs.Held.{HeldPair}
use Rattle.completion.proofs.Accepts.{PairFits, pair_fits}
use Rattle.completion.proofs.Over.{OverPair}
use Rattle.items.specs.Fields.{fields_there, read_rule, RuleAt, rules_of, number_before, read_rule_at}
use Rattle.items.proofs.Parts.{demanded, plain, ReadFrom, none_from, one_from, RuleRead, pair_read}
use Rattle.checkpoint.specs.Checkpoint.{read_equation, read_next, origin_with, read_origin, read_waiting, read_entry, read_put_back, few_entries}
use Rattle.checkpoint.proofs.Items.{OriginWide, EntryWide}

-- A field's contents, and what stands behind it, are bytes of the record.
abbrev pub HasBytes : Field → Type 0
HasBytes f = Bytes f.contents

drop_bytes : (n : ℕ) (l : List ℕ) → Bytes l → Bytes (drop n l)
drop_bytes n l b = every_right (take n l) (drop n l) (subst Bytes (sym (take-append-drop n l)) b)

field_parts : (at : ℕ) (bytes : List ℕ) (f : ReadField) → read_field at bytes ≡ ok f → Bytes bytes → Bytes f.contents × Bytes f.rest
unfolding read_field
field_parts at [] f e b = absurd (no_ok e)
field_parts at (t ∷ []) f e b = absurd (no_ok e)
field_parts at (t ∷ h ∷ []) f e b = absurd (no_ok e)
field_parts at (t ∷ h ∷ l ∷ bytes) f e b =
    from_bind _ _ f e λ _ _ e.
    let n : ℕ = number_from 0 (h ∷ l ∷ []) in
    let k : Bytes bytes = every_tail (every_tail (every_tail b)) in
    subst (λ (f : ReadField). Bytes f.contents × Bytes f.rest) (ok_injective e)
    (every_left (take n bytes) (drop n bytes) (subst Bytes (sym (take-append-drop n bytes)) k), drop_bytes n bytes k)

pub fields_bytes : (more at : ℕ) (bytes : List ℕ) (fs : List Field) → fields_from more at bytes ≡ ok fs → Bytes bytes → Every HasBytes fs
unfolding fields_from
fields_bytes zero at bytes fs e b = absurd (no_ok e)
fields_bytes (suc more) at [] fs e b = subst (Every HasBytes) (ok_injective e) of_none
fields_bytes (suc more) at (c ∷ bytes) fs e b =
    from_bind _ _ fs e λ f h e.
    from_bind _ _ fs e λ later k e.
    let w = field_parts at (c ∷ bytes) f h b in
    subst (Every HasBytes) (ok_injective e) (of_cons w.0 (fields_bytes more f.end f.rest later k w.1))

module _ {A : Type 0} where
  -- items of fields that are bytes
  pub items_have : (R : A → Type 0) (tag : ℕ) (read : Option A → ReadField → Reading A) →
      ((before : Option A) (f : ReadField) (a : A) → Bytes f.contents → read before f ≡ ok a → R a) →
      {before : Option A} {fs : List ReadField} {l : List A} → ReadFrom tag read before fs l → Every HasBytes (map plain fs) → Every R l
  items_have R tag read good none_from b = of_none
  items_have R tag read good (one_from {before = before} {f = f} {a = a} t h k) (of_cons b c) = of_cons (good before f a b h) (items_have R tag read good k c)

  -- at most so many
  module _ (n tag : ℕ) (read : Option A → ReadField → Reading A) where
    none_few : (more at : ℕ) (bytes : List ℕ) (p : ReadPart (List A)) → ok (record { part = []; end = at; rest = bytes }) ≡ ok p → length p.part ≤ more
    none_few more at bytes p e = subst (λ (p : ReadPart (List A)). length p.part ≤ more) (ok_injective e) (omega arith)

    pub there_few : (more : ℕ) (before : Option A) (at : ℕ) (bytes : List ℕ) (p : ReadPart (List A)) →
        fields_there n tag read more before at bytes ≡ ok p → length p.part ≤ more
    unfolding fields_there
    there_few zero before at bytes p e = none_few zero at bytes p e
    there_few (suc more) before at [] p e = none_few (suc more) at [] p e
    there_few (suc more) before at (c ∷ bytes) p e = go (eqb c tag) refl (λ before at bytes p e. there_few more before at bytes p e)
      where
        go : (t : Bool) → eqb c tag ≡ t → ((before : Option A) (at : ℕ) (bytes : List ℕ) (p : ReadPart (List A)) →
            fields_there n tag read more before at bytes ≡ ok p → length p.part ≤ more) → length p.part ≤ suc more
        go false t ih = none_few (suc more) at (c ∷ bytes) p (rw t at e)
        go true t ih =
            from_bind _ _ p (rw t at e) λ a h e.
            from_bind _ _ p e λ later h e.
            let q : a.part ∷ later.part ≡ p.part = ap (λ (p : ReadPart (List A)). p.part) (ok_injective e) in
            let k : length later.part ≤ more = ih (some a.part) a.end a.rest later h in
            rw (← q) (omega arith)

-- Origins: their numbers have one or two bytes.
two_few : (l : List ℕ) → Bytes l → number_from 0 (take 2 l) < two_byte_values
unfolding number_from
two_few [] b = omega arith
two_few (x ∷ []) (of_cons p b) = omega arith
two_few (x ∷ y ∷ l) (of_cons p (of_cons q b)) = omega arith

byte_at : (l : List ℕ) (n : ℕ) → Bytes l → get_or l n 0 < byte_values
byte_at [] n b = omega arith
byte_at (x ∷ l) zero (of_cons p b) = p
byte_at (x ∷ l) (suc n) (of_cons p b) = byte_at l n b

origin_read : (l : List ℕ) (o : Origin) → Bytes l → read_origin l ≡ ok o → OriginWide o
unfolding read_origin origin_with OriginWide
origin_read l o b e =
    from_bind _ _ o e λ _ _ e.
    let kind : ℕ = get_or l 0 0 in
    let first : ℕ = number_from 0 (take 2 (drop 1 l)) in
    let a : first < two_byte_values = two_few (drop 1 l) (drop_bytes 1 l b) in
    subst OriginWide (ok_injective e)
    (either_has OriginWide (eqb kind 1) (waiting_input first) _ a
    (either_has OriginWide (eqb kind 2) (removed_rule first) _ a
    (either_has OriginWide (eqb kind 3) (scanned_input first) _ a (a, two_few (drop 3 l) (drop_bytes 3 l b), byte_at l 5 b))))

pub entry_read : (f : ReadField) (x : Entry) → Bytes f.contents → read_entry f ≡ ok x → EntryWide x
unfolding read_entry
entry_read f x b e =
    from_bind _ _ x e λ u g e.
    from_bind _ _ x e λ o h e.
    let l : length f.contents ≡ 8 = eqb-true (length f.contents) 8 (demanded _ u g) in
    let two : take 2 (drop 6 f.contents) ≡ drop 6 f.contents = take_all 2 (drop 6 f.contents) (omega (arith, length-drop 6 f.contents)) in
    subst EntryWide (ok_injective e)
    (record { from = origin_read f.contents o b h; last = rw (← two) (two_few (drop 6 f.contents) (drop_bytes 6 f.contents b)) })

-- numbers
pub next_read : (f : ReadField) (n : ℕ) → read_next f ≡ ok n → (1 ≤ n) × (n ≤ most_next)
unfolding read_next
next_read f n e =
    from_bind _ _ n e λ m _ e.
    from_bind _ _ n e λ u g e.
    let a = both_true (leb 1 m) (leb m most_next) (demanded _ u g) in
    subst (λ n. (1 ≤ n) × (n ≤ most_next)) (ok_injective e) (leb-true 1 m a.0, leb-true m most_next a.1)

pub put_back_read : (waiting : ℕ) (f : ReadField) (n : ℕ) → read_put_back waiting f ≡ ok n → n ≤ waiting
unfolding read_put_back
put_back_read waiting f n e =
    from_bind _ _ n e λ m _ e.
    from_bind _ _ n e λ u g e.
    subst (λ n. n ≤ waiting) (ok_injective e) (leb-true m waiting (demanded _ u g))

pub entries_read : (next entries : ℕ) → few_entries next entries ≡ false → next ≤ suc entries
unfolding few_entries
entries_read next entries h = ltb-false (suc entries) next h

module _ (Σ : List Symbol) where
  pub equation_read : (f : ReadField) (e : Pair) → read_equation Σ f ≡ ok e → HeldPair (length Σ) 16 e × OverPair Σ e
  unfolding read_equation
  equation_read f e h = let k : PairFits Σ f.contents e = pair_fits Σ (f.first + 3) f.contents e h in (k.held, k.over)

  pub waiting_read : (f : ReadField) (c : Candidate) → Bytes f.contents → read_waiting Σ f ≡ ok c → OriginWide c.origin × PairKeeps Σ c.sides
  unfolding read_waiting
  waiting_read f c b e =
      from_bind _ _ c e λ o k e.
      from_bind _ _ c e λ sides h e.
      subst (λ (c : Candidate). OriginWide c.origin × PairKeeps Σ c.sides) (ok_injective e)
      (origin_read f.contents o b k, (pair_read Σ (f.first + 9) _ sides h).0)

  -- rules: numbers ascend
  module _ (ordered : Bool) (most : ℕ) where
    low_read : (before : Option RuleAt) (f : ReadField) (a : RuleAt) → read_rule_at Σ ordered most before f ≡ ok a → number_before before < a.rule.number
    unfolding read_rule_at read_rule
    low_read before f a e =
        from_bind _ _ a e λ r d e.
        from_bind _ _ r d λ sides _ d.
        from_bind _ _ r d λ u g d.
        let number : ℕ = number_from 0 (take 2 f.contents) in
        let y = both_true (ltb (number_before before) number) (leb number most) (demanded _ u g) in
        let q : number ≡ a.rule.number = ap (λ (r : Rule). r.number) (ok_injective d) ∙ ap (λ (a : RuleAt). a.rule.number) (ok_injective e) in
        rw (← q) (ltb-true (number_before before) number y.0)

  pub rules_read : (most : ℕ) → most ≤ most_number → {before : Option RuleAt} {fs : List ReadField} {rules : List RuleAt} →
      ReadFrom 0x12 (read_rule_at Σ true most) before fs rules → Every (λ (r : RuleAt). RuleRead Σ true most 0 r.rule) rules →
      RulesKeep Σ (number_before before) (rules_of rules)
  unfolding RulesKeep number_before
  rules_read most few none_from of_none = tt
  rules_read most few (one_from {before = before} {f = f} {a = a} t h k) (of_cons q qs) = (
    record { low = low_read true most before f a h; high = omega (arith, q.high); sides = q.sides; down = q.down },
    rules_read most few k qs,
  )
