-- A field at a place, as its reader takes it: nothing is due there, the reader refuses it, or it is read. Then the kind of an entry. Assumes nothing.
-- Read first: specs/Fields (one_field, read_kind), specs/Readers (OneAt, OneBad), reading/proofs/Fields.
use mathlib.Core.Path.{◌≡◌, refl, ap, sym, subst, ◌∙◌}
use mathlib.Core.Bool.{Bool, true, false, ◌&&◌, and-false}
use mathlib.Core.List.{List}
use Prim.Native.Nat.{ℕ, ◌+◌, ◌-◌, ◌<◌, ◌≤◌}
use native.Mathlib.Nat.{add-zero}
use native.Mathlib.Omega.{arith}
use lib.ListN.{length, take, drop, get_or}
use lib.Seq.{get_or-take, get_or-drop}
use lib.Dec.{leb}
use borrow.Author.Tests.{le-leb, lt-leb, eq-eqb, ne_eqb}
use Rattle.terms.specs.Base.{number_from}
use Rattle.terms.proofs.Lists.{take_drop}
use Rattle.reading.proofs.Reading.{bind_ok, bind_refused}
use Rattle.problem.specs.Problem.{Reading, ok, refused, ◌>>=◌, refuse_if, ReadField, ReadPart, due}
use Rattle.reading.specs.Answers.{field_at, DueTo, IsDue}
use Rattle.std.proofs.Common.{Result, Ok, Err}
use Rattle.reading.specs.declared.DueError.{DueError}
use Rattle.reading.specs.declared.DueError.TheVariants.{Cut, Other}
use Rattle.reading.proofs.Fields.{contents_length, due_at}
use Rattle.items.specs.Fields.{or_refuse, demand, one_field, read_number, read_kind}
use Rattle.items.specs.Readers.{Unread, OneAt, OneBad}

-- what is refused stays refused; what a field must keep is kept, or it is refused
pub unread_is : {A : Type 0} {m : Reading A} {n p : ℕ} → m ≡ refused n p → Unread m
unfolding Unread
unread_is e = rw e tt

pub unread_bind : {A B : Type 0} (m : Reading A) (f : A → Reading B) → Unread m → Unread (m >>= f)
unfolding Unread ◌>>=◌
unread_bind (ok a) f u = absurd u
unread_bind (refused n p) f u = tt

pub unread_then : {A B : Type 0} (m : Reading A) (f : A → Reading B) → ((a : A) → Unread (f a)) → Unread (m >>= f)
unfolding Unread ◌>>=◌
unread_then (ok a) f u = u a
unread_then (refused n p) f u = tt

or_refused : {A : Type 0} (n at : ℕ) (m : Reading A) → Unread m → or_refuse n at m ≡ refused n at
unfolding Unread or_refuse
or_refused n at (ok a) u = absurd u
or_refused n at (refused m p) u = refl

pub demand_true : (b : Bool) → b ≡ true → demand b ≡ ok tt
unfolding demand refuse_if
demand_true b e = rw e refl

pub demand_kept : {A : Type 0} {b : Bool} (f : Unit {0} → Reading A) → b ≡ true → (demand b >>= f) ≡ f tt
demand_kept f e = bind_ok f (demand_true _ e)

pub demand_broken : {A : Type 0} {b : Bool} (f : Unit {0} → Reading A) → b ≡ false → Unread (demand b >>= f)
unfolding demand refuse_if ◌>>=◌ Unread
demand_broken f e = rw e tt

-- where a field's end is said in another way
pub one_ends : {A : Type 0} {tag : ℕ} {read : ReadField → Reading A} {l : List ℕ} {at : ℕ} {a : A} {e d : ℕ} → e ≡ d → OneAt tag read l at a e →
    OneAt tag read l at a d
one_ends {tag = tag} {read = read} {l = l} {at = at} {a = a} q o = subst (OneAt tag read l at a) q o

-- what is due at `at` is refused; or it is the field to e, which is read or not
module _ {A : Type 0} (tag : ℕ) (read : ReadField → Reading A) (l : List ℕ) (at : ℕ) where
  pub one_undue : (r : Result ℕ DueError) → IsDue tag l at r → ((e : ℕ) → r ≡ Ok e → ⊥) → OneBad tag read l at at
  unfolding one_field or_refuse
  one_undue (Ok e) d h = absurd (h e refl)
  one_undue (Err Cut) d h = λ n. ap (or_refuse n at) (bind_refused _ d)
  one_undue (Err Other) d h = λ n. ap (or_refuse n at) (bind_refused _ d)

  module _ (e : ℕ) (d : DueTo tag l at e) where
    one_is : (n : ℕ) → one_field n tag read at (drop at l) ≡ or_refuse n at
        (read (field_at tag l at e) >>= λ a. ok (record { part = a; end = e; rest = drop e l }))
    unfolding one_field field_at
    one_is n = ap (or_refuse n at) (bind_ok _ d.0)

    pub one_read : (a : A) → read (field_at tag l at e) ≡ ok a → OneAt tag read l at a e
    unfolding or_refuse
    one_read a h = record { is = λ n. one_is n ∙ ap (or_refuse n at) (bind_ok _ h); low = d.1; within = d.2 }

    pub one_unread : Unread (read (field_at tag l at e)) → OneBad tag read l at at
    one_unread u n = one_is n ∙ or_refused n at _ (unread_bind (read (field_at tag l at e)) _ u)

-- A reader that does more with what another one read, and with the field's place.
module _ {A B : Type 0} (tag : ℕ) (read : ReadField → Reading A) (g : ℕ → A → Reading B) (l : List ℕ) (at : ℕ) where
  abbrev read_more : ReadField → Reading B
  read_more f = read f >>= g f.first

  abbrev kept_of : {C : Type 0} → (ReadField → Reading C) → ReadField → Reading (ReadPart C)
  kept_of read f = read f >>= λ c. ok (record { part = c; end = f.end; rest = f.rest })

  abbrev with_more : ℕ → ReadPart A → Reading (ReadPart B)
  with_more n p = or_refuse n at (g at p.part >>= λ b. ok (record { part = b; end = p.end; rest = p.rest }))

  of_field : (n : ℕ) (f : ReadField) → f.first ≡ at → (r : Reading A) → read f ≡ r →
      or_refuse n at (kept_of read_more f) ≡ (or_refuse n at (kept_of read f) >>= with_more n)
  unfolding or_refuse ◌>>=◌
  of_field n f h (ok a) e = rw (e, h) refl
  of_field n f h (refused m p) e = rw e refl

  of_due : (n : ℕ) (d : Reading ReadField) → ((f : ReadField) → d ≡ ok f → f.first ≡ at) →
      or_refuse n at (d >>= kept_of read_more) ≡ (or_refuse n at (d >>= kept_of read) >>= with_more n)
  unfolding or_refuse ◌>>=◌
  of_due n (refused m p) h = refl
  of_due n (ok f) h = of_field n f (h f refl) (read f) refl

  one_then : (n : ℕ) → one_field n tag read_more at (drop at l) ≡ (one_field n tag read at (drop at l) >>= with_more n)
  unfolding one_field field_at
  one_then n = of_due n (due tag at (drop at l)) (λ f e. ap (λ (f : ReadField). f.first) (due_at tag l at f e).is)

  pub more_bad : (p : ℕ) → OneBad tag read l at p → OneBad tag read_more l at p
  more_bad p B n = one_then n ∙ bind_refused _ (B n)

  module _ (a : A) (e : ℕ) (O : OneAt tag read l at a e) where
    pub more_read : (b : B) → g at a ≡ ok b → OneAt tag read_more l at b e
    unfolding or_refuse
    more_read b h = record { is = λ n. one_then n ∙ bind_ok _ (O.is n) ∙ ap (or_refuse n at) (bind_ok _ h); low = O.low; within = O.within }

    pub more_unread : Unread (g at a) → OneBad tag read_more l at at
    more_unread u n = one_then n ∙ bind_ok _ (O.is n) ∙ or_refused n at _ (unread_bind (g at a) _ u)

-- a number, in the field from `at` to e
module _ (tag width : ℕ) (l : List ℕ) (at e : ℕ) (low : at + 3 ≤ e) (within : e ≤ length l) where
  pub number_length : (e - (at + 3) ≡ width → ⊥) → Unread (read_number width (field_at tag l at e))
  unfolding read_number
  number_length h = demand_broken _ (rw (contents_length tag l at e within) (ne_eqb (e - (at + 3)) width h))

  pub number_is : e - (at + 3) ≡ width → (n : ℕ) → n ≡ number_from 0 (take width (drop (at + 3) l)) → read_number width (field_at tag l at e) ≡ ok n
  unfolding read_number field_at
  number_is h n i =
      let q : at + 3 + width ≡ e = omega arith in
      let t : take width (drop (at + 3) l) ≡ drop (at + 3) (take e l) = take_drop (at + 3) width l ∙ rw q refl in
      demand_kept _ (rw (contents_length tag l at e within) (eq-eqb (e - (at + 3)) width h)) ∙ ap ok (sym (i ∙ ap (number_from 0) t))

-- such a number, tested
module _ (tag width : ℕ) (test : ℕ → Bool) (l : List ℕ) (at : ℕ) where
  abbrev tested : ℕ → ℕ → Reading ℕ
  tested _ n = demand (test n) >>= λ _. ok n

  abbrev tests : ReadField → Reading ℕ
  tests f = read_number width f >>= λ n. tested 0 n

  pub tested_bad : (p : ℕ) → OneBad tag (read_number width) l at p → OneBad tag tests l at p
  tested_bad = more_bad tag (read_number width) tested l at

  module _ (n e : ℕ) (O : OneAt tag (read_number width) l at n e) where
    pub tested_fine : test n ≡ true → OneAt tag tests l at n e
    tested_fine h = more_read tag (read_number width) tested l at n e O n (demand_kept _ h)

    pub tested_broken : test n ≡ false → OneBad tag tests l at at
    tested_broken h = more_unread tag (read_number width) tested l at n e O (demand_broken _ h)

-- the kind, in the field from `at` to e
module _ (l : List ℕ) (at e : ℕ) (low : at + 3 ≤ e) (within : e ≤ length l) where
  pub entry_length : (e - at ≡ 11 → ⊥) → Unread (read_kind (field_at 0x13 l at e))
  unfolding read_kind
  entry_length h = demand_broken _ (rw (contents_length 0x13 l at e within, ne_eqb (e - (at + 3)) 8 (λ k. h (omega arith))) refl)

  module _ (h : e - at ≡ 11) (k : ℕ) (i : k ≡ get_or l (at + 3) 0) where
    kind_is : read_kind (field_at 0x13 l at e) ≡ (demand (leb 1 k && leb k 4) >>= λ _. ok k)
    unfolding read_kind field_at
    kind_is =
        let q : e - (at + 3) ≡ 8 = omega arith in
        let b : get_or (drop (at + 3) (take e l)) 0 0 ≡ k =
        get_or-drop (at + 3) (take e l) 0 0 ∙ ap (λ z. get_or (take e l) z 0) (add-zero (at + 3)) ∙ get_or-take e l (at + 3) 0 (omega arith) ∙ sym i in
        rw (contents_length 0x13 l at e within, eq-eqb (e - (at + 3)) 8 q, b) refl

    pub kind_low : k ≡ 0 → Unread (read_kind (field_at 0x13 l at e))
    kind_low z = rw kind_is (demand_broken _ (rw (lt-leb 1 k (omega arith)) refl))

    pub kind_high : 4 < k → Unread (read_kind (field_at 0x13 l at e))
    kind_high z = rw kind_is (demand_broken _ (rw (lt-leb k 4 z) (and-false (leb 1 k))))

    pub kind_fine : (k ≡ 0 → ⊥) → k ≤ 4 → read_kind (field_at 0x13 l at e) ≡ ok k
    kind_fine z y = kind_is ∙ demand_kept _ (rw (le-leb k 4 y, le-leb 1 k (omega (arith, z))) refl)
