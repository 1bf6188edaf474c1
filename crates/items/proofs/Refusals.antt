-- What the readers of fields come to: the caller's number, at places of at most so much; and what holds of each field that is read. Assumes nothing.
-- Read first: reading/proofs/Refusals (Within, Behind), specs/Fields.
use mathlib.Core.Path.{◌≡◌, refl, ap, ◌∙◌}
use mathlib.Core.Bool.{Bool, true, false}
use mathlib.Core.List.{List, [], ◌∷◌}
use mathlib.Core.Option.{Option, some}
use Prim.Native.Nat.{ℕ, zero, suc, ◌+◌, ◌≤◌}
use native.Mathlib.Omega.{arith}
use lib.Dec.{eqb}
use lib.ListN.{length}
use Rattle.std.specs.Prelude.{if◌then◌else◌}
use Rattle.terms.specs.Base.{Every, of_none, of_cons}
use Rattle.reading.proofs.Refusals.{is_refusal, Within, reads, refuses, within_bind, was_read, FieldWithin, Behind, due_within}
use Rattle.problem.specs.Problem.{Reading, ok, refused, ◌>>=◌, ReadField, Symbol, ReadPart}
use Rattle.problem.proofs.Reading.{from_bind, ok_injective}
use Rattle.items.specs.Fields.{or_refuse, one_field, fields_there, RuleAt, read_rule_at}

-- whatever is wrong, the number and the place are the caller's
or_refuse_within : {A : Type 0} {most e : ℕ} {Q : A → Type 0} (n at : ℕ) (m : Reading A) → is_refusal most n ≡ true → at ≤ e →
    ((a : A) → m ≡ ok a → Q a) → Within most e Q (or_refuse n at m)
unfolding or_refuse
or_refuse_within n at (ok a) p h k = reads (k a refl)
or_refuse_within n at (refused m place) p h k = refuses n at p h

module _ {A : Type 0} (R : A → Type 0) (most e n : ℕ) (p : is_refusal most n ≡ true) (tag : ℕ) where
  -- a field that is read, what stands behind it, and what holds of what it held
  pub one_within : (read : ReadField → Reading A) → ((f : ReadField) (a : A) → f.first ≤ e → read f ≡ ok a → R a) → (at : ℕ) (bytes : List ℕ) → at ≤ e →
      Within most e (λ (a : ReadPart A). Behind at bytes a × R a.part) (one_field n tag read at bytes)
  unfolding one_field
  one_within read good at bytes h =
      or_refuse_within n at _ p h λ (a : ReadPart A) q.
      from_bind _ _ a q λ f d q.
      from_bind _ _ a q λ b k q.
      let w : FieldWithin at bytes f = was_read (due_within {e = e} tag at bytes h) d in
      let r : record { part = b; end = f.end; rest = f.rest } ≡ a = ok_injective q in
      rw (← r) (w.rest, good f b (omega (arith, w.first)) k)

  -- fields of one tag
  module _ (read : Option A → ReadField → Reading A) (good : (before : Option A) (f : ReadField) (a : A) → f.first ≤ e → read before f ≡ ok a → R a) where
    abbrev Items : ℕ → List ℕ → ReadPart (List A) → Type 0
    Items at bytes a = Behind at bytes a × Every R a.part

    abbrev TheRest : ℕ → Type 0
    TheRest more =
        (before : Option A) (at : ℕ) (bytes : List ℕ) → at + length bytes ≤ e → Within most e (Items at bytes) (fields_there n tag read more before at bytes)

    pub there_within : (more : ℕ) → TheRest more
    unfolding fields_there
    there_within zero before at bytes h = reads (refl, of_none)
    there_within (suc more) before at [] h = reads (refl, of_none)
    there_within (suc more) before at (b ∷ bytes) h = go (eqb b tag) (λ before at bytes h. there_within more before at bytes h)
      where
        go : (t : Bool) → TheRest more → Within most e (Items at (b ∷ bytes))
            (if t then (one_field n tag (read before) at (b ∷ bytes) >>= λ a. fields_there n tag read more (some a.part) a.end a.rest >>= λ later.
            ok (record { part = a.part ∷ later.part; end = later.end; rest = later.rest }))
            else ok (record { part = []; end = at; rest = b ∷ bytes }))
        go true ih =
            within_bind _ _ (one_within (read before) (good before) at (b ∷ bytes) (omega arith)) λ a w.
            let v : Behind at (b ∷ bytes) a = w.0 in
            within_bind _ _ (ih (some a.part) a.end a.rest (omega arith)) λ later q. reads (q.0 ∙ v, of_cons w.1 q.1)
        go false ih = reads (refl, of_none)

-- where a rule's field begins
module _ (Σ : List Symbol) (ordered : Bool) (most : ℕ) where
  pub rule_first : {e : ℕ} (before : Option RuleAt) (f : ReadField) (a : RuleAt) → f.first ≤ e → read_rule_at Σ ordered most before f ≡ ok a → a.first ≤ e
  unfolding read_rule_at
  rule_first before f a h q =
      from_bind _ _ a q λ r _ q.
      let n : f.first ≡ a.first = ap (λ (a : RuleAt). a.first) (ok_injective q) in omega arith
