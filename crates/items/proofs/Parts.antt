-- Readings taken apart: the fields that were read, and what each field's reader was given. Then of rules: what is read is what the promise of complete
-- reads of those bytes, over the symbols, renamed, and within the limits. Assumes nothing.
-- Read first: specs/Fields, completion/specs/Promise (fields-of, rule_of, rules_in), completion/specs/Keeps.
use mathlib.Core.Path.{◌≡◌, refl, ap, ap₂, subst, ◌∙◌}
use mathlib.Core.Bool.{Bool, true, false, not, ◌||◌}
use mathlib.Core.List.{List, [], ◌∷◌, ◌++◌, map}
use mathlib.Core.Option.{Option, some}
use Prim.Native.Nat.{ℕ, zero, suc, ◌+◌, ◌<◌, ◌≤◌}
use native.Mathlib.Omega.{arith}
use lib.Dec.{eqb, ltb, leb}
use lib.ListN.{length, take, drop, length-drop, length-append}
use borrow.Author.Tests.{ltb-true, leb-true}
use Rattle.terms.specs.Base.{number_from, Field, Every, of_none, of_cons}
use Rattle.terms.specs.Term.{Pair, renamed, Term, term_bytes}
use Rattle.terms.proofs.Shape.{Decides, dec_map, dec_and, same_dec, both_true}
use Rattle.problem.specs.Problem.{Reading, ok, refused, ◌>>=◌, refuse_if, ReadField, read_field, ReadPart, Symbol, rank_of}
use Rattle.problem.proofs.Reading.{from_bind, ok_injective, no_ok}
use Rattle.reading.proofs.Fields.{due_read}
use Rattle.completion.specs.Promise.{fields_from, rule_of, rules_in}
use Rattle.terms.proofs.Bytes.{length_bytes}
use Rattle.terms.proofs.Places.{size_pos}
use Rattle.order.specs.Order.{above}
use Rattle.rewriting.specs.Overlap.{Rule}
use Rattle.completion.specs.Keeps.{PairKeeps}
use Rattle.completion.proofs.Held.{pair_keeps}
use Rattle.completion.proofs.Accepts.{PairFits, pair_fits}
use Rattle.completion.proofs.ReadBack.{two_terms}
use Rattle.items.specs.Fields.{or_refuse, demand, one_field, fields_there, is_renamed, renamed_pair, rule_sides, read_rule, RuleAt, rules_of}
use Rattle.items.specs.Fields.{number_before, read_rule_at}

-- what was demanded holds
pub demanded : (b : Bool) (u : Unit {0}) → demand b ≡ ok u → b ≡ true
unfolding demand refuse_if
demanded true u e = refl
demanded false u e = absurd (no_ok e)

-- the test says whether renaming changes the pair
pub renamed_dec : (e : Pair) → Decides (is_renamed e) (renamed e ≡ e)
unfolding is_renamed
renamed_dec e =
    dec_map (λ k. ap₂ (λ l r. record { left = l; right = r }) k.0 k.1) (λ q. (ap (λ (d : Pair). d.left) q, ap (λ (d : Pair). d.right) q))
    (dec_and (same_dec (renamed e).left e.left) (same_dec (renamed e).right e.right))

pub or_refuse_ok : {A : Type 0} (n at : ℕ) (r : Reading A) (a : A) → or_refuse n at r ≡ ok a → r ≡ ok a
unfolding or_refuse
or_refuse_ok n at (ok b) a e = e
or_refuse_ok n at (refused m p) a e = absurd (no_ok e)

-- a field without the places
abbrev pub plain : ReadField → Field
plain f = record { tag = f.tag; contents = f.contents }

-- the fields that bytes from a place on are, however many may come
abbrev pub AreFields : ℕ → List ℕ → List Field → Type 0
AreFields at bytes fs = (more : ℕ) → length bytes < more → fields_from more at bytes ≡ ok fs

shorter : (at : ℕ) (bytes : List ℕ) (f : ReadField) → read_field at bytes ≡ ok f → length f.rest < length bytes
unfolding read_field
shorter at [] f e = absurd (no_ok e)
shorter at (a ∷ []) f e = absurd (no_ok e)
shorter at (a ∷ b ∷ []) f e = absurd (no_ok e)
shorter at (a ∷ b ∷ c ∷ l) f e =
    from_bind _ _ f e λ _ _ e.
    let n : ℕ = number_from 0 (b ∷ c ∷ []) in
    let q : record { first = at; tag = a; contents = take n l; end = at + 3 + n; rest = drop n l } ≡ f = ok_injective e in
    rw (← q) (omega (arith, length-drop n l))

-- a field at the front, and the fields behind it
fields_on : (at : ℕ) (bytes : List ℕ) (f : ReadField) → read_field at bytes ≡ ok f → (fs : List Field) → AreFields f.end f.rest fs →
    AreFields at bytes (plain f ∷ fs)
unfolding fields_from ◌>>=◌
fields_on at [] f e fs h more l = absurd (omega (arith, shorter at [] f e))
fields_on at (b ∷ bytes) f e fs h zero l = absurd (omega arith)
fields_on at (b ∷ bytes) f e fs h (suc more) l = rw e (rw (h more (omega (arith, shorter at (b ∷ bytes) f e))) refl)

-- one field that was read
pub record OneRead {A : Type 0} (tag : ℕ) (read : ReadField → Reading A) (at : ℕ) (bytes : List ℕ) (p : ReadPart A) : Type 0 where
  pub field : ReadField
  pub tag_is : field.tag ≡ tag
  pub is : read field ≡ ok p.part
  pub more_fields : (fs : List Field) → AreFields p.end p.rest fs → AreFields at bytes (plain field ∷ fs)

pub one_read : {A : Type 0} (n tag : ℕ) (read : ReadField → Reading A) (at : ℕ) (bytes : List ℕ) (p : ReadPart A) →
    one_field n tag read at bytes ≡ ok p → OneRead tag read at bytes p
unfolding one_field
one_read n tag read at bytes p e =
    from_bind _ _ p (or_refuse_ok n at _ p e) λ f d e.
    from_bind _ _ p e λ a h e.
    let t = due_read tag at bytes f d in
    subst (OneRead tag read at bytes) (ok_injective e) (record { field = f; tag_is = t.1; is = h; more_fields = fields_on at bytes f t.0 })

-- items that were read from fields of one tag, one behind the other
pub data ReadFrom {A : Type 0} (tag : ℕ) (read : Option A → ReadField → Reading A) : Option A → List ReadField → List A → Type 0 where
  none_from : {before : Option A} → ReadFrom tag read before [] []
  one_from : {before : Option A} {f : ReadField} {fs : List ReadField} {a : A} {l : List A} → f.tag ≡ tag → read before f ≡ ok a →
      ReadFrom tag read (some a) fs l → ReadFrom tag read before (f ∷ fs) (a ∷ l)

pub record ThereRead {A : Type 0} (tag : ℕ) (read : Option A → ReadField → Reading A) (before : Option A) (at : ℕ) (bytes : List ℕ) (p : ReadPart (List A))
    : Type 0 where
  pub fields : List ReadField
  pub items : ReadFrom tag read before fields p.part
  pub more_fields : (fs : List Field) → AreFields p.end p.rest fs → AreFields at bytes (map plain fields ++ fs)

module _ {A : Type 0} (n tag : ℕ) (read : Option A → ReadField → Reading A) where
  -- so many fields, or fewer, are read as they stand there
  abbrev Reads : ℕ → Type 0
  Reads more = (before : Option A) (at : ℕ) (bytes : List ℕ) (p : ReadPart (List A)) → fields_there n tag read more before at bytes ≡ ok p →
      ThereRead tag read before at bytes p

  none_read : (before : Option A) (at : ℕ) (bytes : List ℕ) (p : ReadPart (List A)) → ok (record { part = []; end = at; rest = bytes }) ≡ ok p →
      ThereRead tag read before at bytes p
  none_read before at bytes p e =
      subst (ThereRead tag read before at bytes) (ok_injective e) (record { fields = []; items = none_from; more_fields = λ fs h. h })

  pub there_read : (more : ℕ) (before : Option A) (at : ℕ) (bytes : List ℕ) (p : ReadPart (List A)) →
      fields_there n tag read more before at bytes ≡ ok p → ThereRead tag read before at bytes p
  unfolding fields_there
  there_read zero before at bytes p e = none_read before at bytes p e
  there_read (suc more) before at [] p e = none_read before at [] p e
  there_read (suc more) before at (c ∷ bytes) p e = go (eqb c tag) refl (λ before at bytes p e. there_read more before at bytes p e)
    where
      go : (t : Bool) → eqb c tag ≡ t → Reads more → ThereRead tag read before at (c ∷ bytes) p
      go false t ih = none_read before at (c ∷ bytes) p (rw t at e)
      go true t ih =
          from_bind _ _ p (rw t at e) λ a h e.
          from_bind _ _ p e λ later h' e.
          let r : OneRead tag (read before) at (c ∷ bytes) a = one_read n tag (read before) at (c ∷ bytes) a h in
          let k : ThereRead tag read (some a.part) a.end a.rest later = ih (some a.part) a.end a.rest later h' in
          subst (ThereRead tag read before at (c ∷ bytes)) (ok_injective e)
          (record {
            fields = r.field ∷ k.fields;
            items = one_from r.tag_is r.is k.items;
            more_fields = λ fs g. r.more_fields _ (k.more_fields fs g);
          })

-- a rule that was read behind one of a lower number
pub record RuleRead (Σ : List Symbol) (ordered : Bool) (most before : ℕ) (r : Rule) : Type 0 where
  pub low : before < r.number
  pub high : r.number ≤ most
  pub sides : PairKeeps Σ r.sides
  pub down : (not ordered || above (rank_of Σ) r.sides.left r.sides.right) ≡ true

-- two sides that were read, and the bytes that they are
pub pair_read : (Σ : List Symbol) (at : ℕ) (bytes : List ℕ) (e : Pair) → renamed_pair Σ at bytes ≡ ok e → PairKeeps Σ e × PairFits Σ bytes e
unfolding renamed_pair
pair_read Σ at bytes e h =
    from_bind _ _ e h λ d a h.
    from_bind _ _ e h λ u g h.
    let k : PairFits Σ bytes d = pair_fits Σ at bytes d a in
    subst (λ (d : Pair). PairKeeps Σ d × PairFits Σ bytes d) (ok_injective h)
    (pair_keeps Σ d k.held k.over ((renamed_dec d).0 (demanded _ u g)), k)

sides_read : (Σ : List Symbol) (ordered : Bool) (at : ℕ) (bytes : List ℕ) (e : Pair) → rule_sides Σ ordered at bytes ≡ ok e →
    PairKeeps Σ e × PairFits Σ bytes e × ((not ordered || above (rank_of Σ) e.left e.right) ≡ true)
unfolding rule_sides
sides_read Σ ordered at bytes e h =
    from_bind _ _ e h λ d a h.
    from_bind _ _ e h λ u g h.
    let k = pair_read Σ at bytes d a in
    subst (λ (d : Pair). PairKeeps Σ d × PairFits Σ bytes d × ((not ordered || above (rank_of Σ) d.left d.right) ≡ true)) (ok_injective h)
    (k.0, k.1, demanded _ u g)

no_term : (t : Term) (l : List ℕ) → [] ≡ term_bytes t ++ l → ⊥
no_term t l e = absurd (omega (arith, ap length e, length-append (term_bytes t) l, length_bytes t, size_pos t))

-- a field that is no rule's
abbrev pub NoRule : Field → Type 0
NoRule f = eqb f.tag 0x12 ≡ false

pub none_rules : {A : Type 0} {tag : ℕ} {read : Option A → ReadField → Reading A} {before : Option A} {fs : List ReadField} {l : List A} →
    eqb tag 0x12 ≡ false → ReadFrom tag read before fs l → Every NoRule (map plain fs)
none_rules o none_from = of_none
none_rules o (one_from t h k) = of_cons (ap (λ n. eqb n 0x12) t ∙ o) (none_rules o k)

module _ (Σ : List Symbol) (few : length Σ ≤ 16) where
  -- two bytes and a pair, as the promise reads a rule
  same_rule : (bytes : List ℕ) (e : Pair) → PairFits Σ (drop 2 bytes) e → rule_of Σ bytes ≡ ok (record { number = number_from 0 (take 2 bytes); sides = e })
  same_rule [] e k = absurd (no_term e.left _ k.filled)
  same_rule (a ∷ []) e k = absurd (no_term e.left _ k.filled)
  same_rule (a ∷ b ∷ bytes) e k =
      two_terms Σ few (number_from 0 (a ∷ b ∷ [])) a b e.left e.right bytes k.filled refl k.over.0 k.over.1 k.held.left.made
      k.held.right.made

  module _ (ordered : Bool) (most : ℕ) where
    rule_again : (before : ℕ) (f : ReadField) (r : Rule) → read_rule Σ ordered most before f ≡ ok r →
        RuleRead Σ ordered most before r × (rule_of Σ f.contents ≡ ok r)
    unfolding read_rule
    rule_again before f r e =
        from_bind _ _ r e λ sides h e.
        from_bind _ _ r e λ u g e.
        let number : ℕ = number_from 0 (take 2 f.contents) in
        let k = sides_read Σ ordered (f.first + 5) (drop 2 f.contents) sides h in
        let y = both_true (ltb before number) (leb number most) (demanded _ u g) in
        let q : record { number = number; sides = sides } ≡ r = ok_injective e in
        rw (← q) (
          record { low = ltb-true before number y.0; high = leb-true number most y.1; sides = k.0; down = k.2 },
          same_rule f.contents sides k.1,
        )

    -- the rules in fields that were read as rules
    pub rules_again : {before : Option RuleAt} {fs : List ReadField} {rules : List RuleAt} → ReadFrom 0x12 (read_rule_at Σ ordered most) before fs rules →
        (gs : List Field) → rules_in Σ gs ≡ ok [] →
        (rules_in Σ (map plain fs ++ gs) ≡ ok (rules_of rules)) × Every (λ r. RuleRead Σ ordered most 0 r.rule) rules
    unfolding rules_in ◌>>=◌ read_rule_at
    rules_again none_from gs e = (e, of_none)
    rules_again (one_from {before = before} {f = f} {fs = fs} {a = a} {l = l} t h k) gs e =
        from_bind _ _ a h λ r d h.
        let q : record { first = f.first; rule = r } ≡ a = ok_injective h in
        let x = rule_again (number_before before) f r d in
        let y = rules_again k gs e in
        let w : RuleRead Σ ordered most 0 r = record { low = omega (arith, x.0.low); high = x.0.high; sides = x.0.sides; down = x.0.down } in
        (rw t (rw x.1 (rw y.0 (rw (← q) refl))), of_cons (subst (λ (b : RuleAt). RuleRead Σ ordered most 0 b.rule) q w) y.1)
