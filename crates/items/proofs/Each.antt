-- Fields of one tag that were read stand one behind the other, and each holds what its reader read of it. Assumes nothing.
-- Read first: specs/Fields (one_field, fields_there), specs/Readers (There), reading/proofs/Fields (due_at).
use mathlib.Core.Path.{◌≡◌, refl, sym, ap, subst, ◌∙◌}
use mathlib.Core.Bool.{Bool, true, false}
use mathlib.Core.List.{List, [], ◌∷◌}
use mathlib.Core.Option.{Option, none, some}
use Prim.Native.Nat.{ℕ, zero, suc, ◌+◌, ◌≤◌}
use lib.Dec.{eqb}
use lib.ListN.{length, drop}
use Rattle.reading.specs.Answers.{field_at}
use Rattle.reading.proofs.Reading.{from_bind, ok_injective}
use Rattle.reading.proofs.Fields.{due_at}
use Rattle.problem.specs.Problem.{Reading, ok, ReadField, ReadPart, due}
use Rattle.items.specs.Fields.{one_field, fields_there}
use Rattle.items.specs.Readers.{There}
use Rattle.items.proofs.Parts.{or_refuse_ok}

module _ {A : Type 0} (tag : ℕ) (read : ReadField → Reading A) (l : List ℕ) where
  -- this was read of the field at `at`, which ends at e
  pub record ReadAt (at e : ℕ) (a : A) : Type 0 where
    pub field : due tag at (drop at l) ≡ ok (field_at tag l at e)
    pub is : read (field_at tag l at e) ≡ ok a
    pub low : at + 3 ≤ e
    pub within : e ≤ length l

  unfoldable pub ReadEach : ℕ → List A → Type 0
  ReadEach at [] = Unit {0}
  ReadEach at (a ∷ items) = (e : ℕ) × ReadAt at e a × ReadEach e items

  -- the same, with what is left behind it
  record Part (at : ℕ) (p : ReadPart A) : Type 0 where
    there : ReadAt at p.end p.part
    behind : drop p.end l ≡ p.rest

  one_part : (n at : ℕ) (p : ReadPart A) → one_field n tag read at (drop at l) ≡ ok p → Part at p
  unfolding one_field field_at
  one_part n at p h =
      from_bind _ _ p (or_refuse_ok n at _ p h) λ f d h.
      from_bind _ _ p h λ a r h.
      let D = due_at tag l at f d in
      let is : record { part = a; end = D.end; rest = drop D.end l } ≡ p =
      sym (ap (λ (f : ReadField). record { part = a; end = f.end; rest = f.rest }) D.is) ∙ ok_injective h in
      let there : ReadAt at D.end a =
      record { field = d ∙ ap ok D.is; is = ap read (sym D.is) ∙ r; low = D.low; within = D.within } in
      subst (Part at) is (record { there = there; behind = refl })

  none_each : (at : ℕ) (m : List ℕ) (p : ReadPart (List A)) → ok (record { part = []; end = at; rest = m }) ≡ ok p → ReadEach at p.part
  unfolding ReadEach
  none_each at m p h = subst (λ (p : ReadPart (List A)). ReadEach at p.part) (ok_injective h) tt

  one_each : (at : ℕ) (a : ReadPart A) (items : List A) → Part at a → ReadEach a.end items → ReadEach at (a.part ∷ items)
  unfolding ReadEach
  one_each at a items h k = (a.end, h.there, k)

  -- the fields from `at` on, at most so many
  abbrev Each : ℕ → ℕ → Type 0
  Each n more = (before : Option A) (at : ℕ) (m : List ℕ) → drop at l ≡ m → (p : ReadPart (List A)) →
      fields_there n tag (λ _ f. read f) more before at m ≡ ok p → ReadEach at p.part

  fields_each : (n more : ℕ) (before : Option A) (at : ℕ) (m : List ℕ) → drop at l ≡ m → (p : ReadPart (List A)) →
      fields_there n tag (λ _ f. read f) more before at m ≡ ok p → ReadEach at p.part
  unfolding fields_there
  fields_each n zero before at m d p h = none_each at m p h
  fields_each n (suc more) before at [] d p h = none_each at [] p h
  fields_each n (suc more) before at (b ∷ m) d p h = go (eqb b tag) refl (λ before at m d p h. fields_each n more before at m d p h)
    where
      go : (t : Bool) → eqb b tag ≡ t → Each n more → ReadEach at p.part
      go false t ih = none_each at (b ∷ m) p (rw t at h)
      go true t ih =
          from_bind _ _ p (rw t at h) λ a o h.
          from_bind _ _ p h λ later r h.
          let one : Part at a = one_part n at a (ap (one_field n tag read at) d ∙ o) in
          subst (λ (p : ReadPart (List A)). ReadEach at p.part) (ok_injective h)
          (one_each at a later.part one (ih (some a.part) a.end a.rest one.behind later r))

  pub there_each : (most at e : ℕ) (items : List A) → There tag (λ _ f. read f) most l at e items → ReadEach at items
  there_each most at e items h = fields_each 0 most none at (drop at l) refl _ (h.is 0)
