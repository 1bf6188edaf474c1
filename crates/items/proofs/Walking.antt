-- The fields of one tag that stand one behind the other from a place on, read one by one: the fields before place i are read, and those from i on are to
-- come. Whatever the fields hold, and however they are read. Assumes nothing.
-- Read first: specs/Fields (one_field, fields_there), specs/Readers (OneAt, OneBad, There, ThereBad).
use mathlib.Core.Path.{◌≡◌, refl, ap, sym, ◌∙◌}
use mathlib.Core.Bool.{false}
use mathlib.Core.List.{List, [], ◌∷◌, ◌++◌, append_assoc, append-nil}
use mathlib.Core.Option.{Option, none, some}
use Prim.Native.Nat.{ℕ, zero, suc, ◌-◌, ◌<◌, ◌≤◌}
use native.Mathlib.Omega.{arith}
use lib.Dec.{eqb}
use lib.ListN.{length, drop, get_or, length-append, drop_of_length-le}
use lib.Seq.{drop-cons}
use borrow.Author.Tests.{eq-eqb, ne_eqb}
use Rattle.reading.proofs.Reading.{bind_ok, bind_refused}
use Rattle.problem.specs.Problem.{Reading, ok, refused, ◌>>=◌, ReadField, ReadPart}
use Rattle.items.specs.Fields.{one_field, fields_there}
use Rattle.items.specs.Readers.{OneAt, OneBad, There, ThereBad}

-- what was read before what is still to read
unfoldable pub prepend : {A : Type 0} → List A → Reading (ReadPart (List A)) → Reading (ReadPart (List A))
prepend done (ok p) = ok (record { part = done ++ p.part; end = p.end; rest = p.rest })
prepend done (refused n p) = refused n p

prepend_none : {A : Type 0} (r : Reading (ReadPart (List A))) → r ≡ prepend [] r
unfolding prepend
prepend_none (ok p) = refl
prepend_none (refused n p) = refl

prepend_one : {A : Type 0} (done : List A) (a : A) (r : Reading (ReadPart (List A))) →
    prepend done (r >>= λ later. ok (record { part = a ∷ later.part; end = later.end; rest = later.rest })) ≡ prepend (done ++ (a ∷ [])) r
unfolding prepend ◌>>=◌
prepend_one done a (ok p) = ap (λ l. ok (record { part = l; end = p.end; rest = p.rest })) (sym (append_assoc done (a ∷ []) p.part))
prepend_one done a (refused n p) = refl

-- another tag, or no byte
abbrev pub OtherTag : ℕ → List ℕ → Type 0
OtherTag tag [] = Unit {0}
OtherTag tag (b ∷ bytes) = eqb b tag ≡ false

module _ {A : Type 0} (tag : ℕ) (read : Option A → ReadField → Reading A) where
  pub none_there : (n more : ℕ) (before : Option A) (i : ℕ) (m : List ℕ) → OtherTag tag m →
      fields_there n tag read more before i m ≡ ok (record { part = []; end = i; rest = m })
  unfolding fields_there
  none_there n zero before i m h = refl
  none_there n (suc more) before i [] h = refl
  none_there n (suc more) before i (b ∷ m) h = rw h refl

  pub one_there : (n more : ℕ) (before : Option A) (i b : ℕ) (m : List ℕ) → b ≡ tag →
      fields_there n tag read (suc more) before i (b ∷ m) ≡ (one_field n tag (read before) i (b ∷ m) >>= λ a.
      fields_there n tag read more (some a.part) a.end a.rest >>= λ later.
      ok (record { part = a.part ∷ later.part; end = later.end; rest = later.rest }))
  unfolding fields_there
  one_there n more before i b m t = rw (eq-eqb b tag t) refl

-- The fields from `at` on, at most so many: these were read, the last of them is what the next one is told, and the next one stands at i.
pub record Walked {A : Type 0} (tag : ℕ) (read : Option A → ReadField → Reading A) (most : ℕ) (l : List ℕ) (at : ℕ) (done : List A)
    (before : Option A) (i : ℕ) : Type 0 where
  pub few : length done ≤ most
  pub within : i ≤ length l
  pub is : (n : ℕ) → fields_there n tag read most none at (drop at l) ≡ prepend done (fields_there n tag read (most - length done) before i (drop i l))

module _ {A : Type 0} (tag : ℕ) (read : Option A → ReadField → Reading A) (most : ℕ) (l : List ℕ) (at : ℕ) where
  pub walk_start : at ≤ length l → Walked tag read most l at [] none at
  walk_start h =
      let z : most - 0 ≡ most = omega arith in
      record { few = omega arith; within = h; is = λ n. rw z (prepend_none (fields_there n tag read most none at (drop at l))) }

  module _ (done : List A) (before : Option A) (i : ℕ) (W : Walked tag read most l at done before i) where
    -- no field is there: no more may come, no byte is left, or another tag stands there
    ended : ((n : ℕ) → fields_there n tag read (most - length done) before i (drop i l) ≡ ok (record { part = []; end = i; rest = drop i l })) →
        There tag read most l at i done
    unfolding prepend
    ended h = record { is = λ n. W.is n ∙ rw (h n, append-nil done) refl; few = W.few; within = W.within }

    pub walk_full : length done ≡ most → There tag read most l at i done
    unfolding fields_there
    walk_full h = let z : most - length done ≡ 0 = omega arith in ended (λ n. rw z refl)

    pub walk_none : length l ≤ i → There tag read most l at i done
    walk_none h = ended (λ n. rw (drop_of_length-le l h) (none_there tag read n (most - length done) before i [] tt))

    module _ (h : i < length l) where
      first_is : drop i l ≡ get_or l i 0 ∷ drop (suc i) l
      first_is = drop-cons l i 0 h

      pub walk_other : (get_or l i 0 ≡ tag → ⊥) → There tag read most l at i done
      walk_other t = ended (λ n. rw first_is (none_there tag read n (most - length done) before i _ (ne_eqb (get_or l i 0) tag t)))

      -- a field is there, and one more may come
      module _ (f : length done ≡ most → ⊥) (t : get_or l i 0 ≡ tag) where
        one_is : (n : ℕ) → fields_there n tag read (most - length done) before i (drop i l) ≡ (one_field n tag (read before) i (drop i l) >>= λ a.
            fields_there n tag read (most - suc (length done)) (some a.part) a.end a.rest >>= λ later.
            ok (record { part = a.part ∷ later.part; end = later.end; rest = later.rest }))
        one_is n =
            let z : most - length done ≡ suc (most - suc (length done)) = omega (arith, f, W.few) in
            rw (z, first_is) (one_there tag read n (most - suc (length done)) before i (get_or l i 0) (drop (suc i) l) t)

        pub walk_bad : (p : ℕ) → OneBad tag (read before) l i p → ThereBad tag read most l at p
        unfolding prepend
        walk_bad p B n = W.is n ∙ ap (prepend done) (one_is n ∙ bind_refused _ (B n))

        pub walk_more : (a : A) (e : ℕ) → OneAt tag (read before) l i a e → Walked tag read most l at (done ++ (a ∷ [])) (some a) e
        walk_more a e O =
            let q : length (done ++ (a ∷ [])) ≡ suc (length done) = length-append done (a ∷ []) ∙ omega arith in
            record {
              few = omega (arith, f, W.few);
              within = O.within;
              is = λ n. W.is n ∙ ap (prepend done) (one_is n ∙ bind_ok _ (O.is n)) ∙ rw q (prepend_one done a _);
            }
