-- A field at a place: a lemma for each return of `field_at` and of `due`; a field that is read is the field of its bytes; a field that is written is
-- read back. Assumes nothing.
-- Read first: specs/Forms (read_field, due), specs/Answers (field_at, IsField, IsDue), terms/proofs/Numerals (number_back).
use mathlib.Core.Path.{◌≡◌, refl, ap, sym, ◌∙◌}
use mathlib.Core.Bool.{not}
use mathlib.Core.List.{List, [], ◌∷◌, ◌++◌}
use Prim.Native.Nat.{ℕ, ◌+◌, ◌-◌, ◌<◌, ◌≤◌}
use native.Mathlib.Omega.{arith}
use native.Mathlib.Nat.{add-zero}
use lib.Dec.{eqb}
use lib.ListN.{length, take, drop, get_or, length-take, length-drop, length-append, drop_of_length-le}
use lib.Seq.{take_at, drop_at, drop-drop, get_or-drop}
use borrow.Author.Tests.{lt-ltb, le-ltb, ltb-false, eq-eqb, ne_eqb, eqb-true, not-false}
use Rattle.terms.specs.Base.{number_bytes, number_from, Field, field_bytes}
use Rattle.terms.proofs.Lists.{take_drop}
use Rattle.terms.proofs.Numerals.{number_back}
use Rattle.reading.specs.Forms.{ok, refused, ◌>>=◌, refuse_if, ReadField, read_field, due}
use Rattle.reading.specs.Answers.{field_at, WholeAt, DueTo}
use Rattle.reading.proofs.Reading.{from_bind, passed, no_ok, ok_injective, bind_ok, bind_refused}

-- the length that the header says: m is what is left at `at`
abbrev said : List ℕ → ℕ
said m = number_from 0 (take 2 (drop 1 m))

module _ (at : ℕ) where
  short : (m : List ℕ) → length m < 3 → read_field at m ≡ refused 3 at
  unfolding read_field
  short [] k = refl
  short (a ∷ []) k = refl
  short (a ∷ b ∷ []) k = refl
  short (a ∷ b ∷ d ∷ m) k = absurd (omega arith)

  over : (m : List ℕ) → 3 ≤ length m → length m - 3 < said m → read_field at m ≡ refused 3 at
  unfolding read_field ◌>>=◌ refuse_if
  over [] h k = absurd (omega arith)
  over (a ∷ []) h k = absurd (omega arith)
  over (a ∷ b ∷ []) h k = absurd (omega arith)
  over (a ∷ b ∷ d ∷ m) h k = rw (lt-ltb (length m) (said (a ∷ b ∷ d ∷ m)) (omega arith)) refl

  whole : (m : List ℕ) → 3 ≤ length m → said m ≤ length m - 3 →
      read_field at m ≡ ok (record {
        first = at;
        tag = get_or m 0 0;
        contents = take (said m) (drop 3 m);
        end = at + 3 + said m;
        rest = drop (said m) (drop 3 m);
      })
  unfolding read_field ◌>>=◌ refuse_if
  whole [] h k = absurd (omega arith)
  whole (a ∷ []) h k = absurd (omega arith)
  whole (a ∷ b ∷ []) h k = absurd (omega arith)
  whole (a ∷ b ∷ d ∷ m) h k = rw (le-ltb (length m) (said (a ∷ b ∷ d ∷ m)) (omega arith)) refl

module _ (l : List ℕ) (at : ℕ) where
  pub field_short : length l - at < 3 → read_field at (drop at l) ≡ refused 3 at
  field_short k = short at (drop at l) (omega (arith, length-drop at l))

  module _ (n : ℕ) (h : 3 ≤ length l - at) (i : n ≡ number_from 0 (take 2 (drop (at + 1) l))) where
    said_is : said (drop at l) ≡ n
    said_is = ap (λ (m : List ℕ). number_from 0 (take 2 m)) (drop-drop 1 at l) ∙ sym i

    pub field_over : length l - at - 3 < n → read_field at (drop at l) ≡ refused 3 at
    field_over k = over at (drop at l) (omega (arith, length-drop at l)) (omega (arith, length-drop at l, said_is))

    module _ (k : n ≤ length l - at - 3) where
      reads : read_field at (drop at l) ≡ ok (field_at (get_or l at 0) l at (at + 3 + n))
      unfolding field_at
      reads =
          whole at (drop at l) (omega (arith, length-drop at l)) (omega (arith, length-drop at l, said_is))
          ∙ rw (said_is, get_or-drop at l 0 0, add-zero at, drop-drop 3 at l, take_drop (at + 3) n l, drop-drop n (at + 3) l) refl

      pub field_whole : n < 65536 → WholeAt l at (get_or l at 0) (at + 3) (at + 3 + n)
      field_whole f = record { read = reads; starts = refl; low = omega arith; within = omega arith; short = omega arith }

-- what is read is the field of the bytes from its first place to its end
pub record FieldIs (l : List ℕ) (at : ℕ) (f : ReadField) : Type 0 where
  pub tag : ℕ
  pub end : ℕ
  pub is : f ≡ field_at tag l at end
  pub low : at + 3 ≤ end
  pub within : end ≤ length l

pub field_is : (l : List ℕ) (at : ℕ) (f : ReadField) → read_field at (drop at l) ≡ ok f → FieldIs l at f
unfolding read_field
field_is l at f h = go (drop at l) refl h
  where
    go : (m : List ℕ) → drop at l ≡ m → read_field at m ≡ ok f → FieldIs l at f
    go [] e k = absurd (no_ok k)
    go (a ∷ []) e k = absurd (no_ok k)
    go (a ∷ b ∷ []) e k = absurd (no_ok k)
    go (a ∷ b ∷ d ∷ m) e k =
        from_bind _ _ f k λ u p _.
        let n : ℕ = number_from 0 (b ∷ d ∷ []) in
        let fits : n ≤ length m = ltb-false (length m) n (passed _ 3 at u p) in
        let long : length (drop at l) ≡ 3 + length m = ap length e ∙ omega arith in
        let i : n ≡ number_from 0 (take 2 (drop (at + 1) l)) = sym (ap (λ (z : List ℕ). number_from 0 (take 2 z)) (sym (drop-drop 1 at l) ∙ ap (drop 1) e)) in
        let w = reads l at n (omega (arith, length-drop at l)) i (omega (arith, length-drop at l)) in
        record { tag = get_or l at 0; end = at + 3 + n; is = ok_injective (sym h ∙ w); low = omega arith; within = omega (arith, length-drop at l) }

pub contents_length : (tag : ℕ) (l : List ℕ) (at e : ℕ) → e ≤ length l → length (field_at tag l at e).contents ≡ e - (at + 3)
unfolding field_at
contents_length tag l at e h = length-drop (at + 3) (take e l) ∙ omega (arith, length-take e l)

-- where a byte is left, a field is read before its tag is tested
due_some : (tag at : ℕ) (m : List ℕ) → (length m ≡ 0 → ⊥) → due tag at m ≡ (read_field at m >>= λ f. refuse_if (not (eqb f.tag tag)) 4 at >>= λ _. ok f)
unfolding due
due_some tag at [] h = absurd (h refl)
due_some tag at (b ∷ m) h = refl

-- a field that was due is read, and has the tag
pub due_read : (tag at : ℕ) (m : List ℕ) (f : ReadField) → due tag at m ≡ ok f → (read_field at m ≡ ok f) × (f.tag ≡ tag)
unfolding due
due_read tag at [] f h = absurd (no_ok h)
due_read tag at (b ∷ m) f h =
    from_bind _ _ f h λ g e₁ k.
    from_bind _ _ f k λ u e₂ e₃.
    let q : g ≡ f = ok_injective e₃ in
    (e₁ ∙ e₃, sym (ap (λ (f : ReadField). f.tag) q) ∙ eqb-true _ _ (not-false _ (passed _ 4 at u e₂)))

-- it is the field of the bytes from its first place to its end
pub record DueAt (tag : ℕ) (l : List ℕ) (at : ℕ) (f : ReadField) : Type 0 where
  pub end : ℕ
  pub is : f ≡ field_at tag l at end
  pub low : at + 3 ≤ end
  pub within : end ≤ length l

pub due_at : (tag : ℕ) (l : List ℕ) (at : ℕ) (f : ReadField) → due tag at (drop at l) ≡ ok f → DueAt tag l at f
unfolding field_at
due_at tag l at f h =
    let r = due_read tag at (drop at l) f h in
    let G = field_is l at f r.0 in
    let t : G.tag ≡ tag = sym (ap (λ (f : ReadField). f.tag) G.is) ∙ r.1 in
    record { end = G.end; is = G.is ∙ ap (λ n. field_at n l at G.end) t; low = G.low; within = G.within }

-- `due` returns
module _ (tag : ℕ) (l : List ℕ) (at : ℕ) where
  pub due_ended : length l ≤ at → due tag at (drop at l) ≡ refused 4 at
  unfolding due
  due_ended h = rw (drop_of_length-le l h) refl

  module _ (h : at < length l) where
    due_is : due tag at (drop at l) ≡ (read_field at (drop at l) >>= λ f. refuse_if (not (eqb f.tag tag)) 4 at >>= λ _. ok f)
    due_is = due_some tag at (drop at l) (λ e. omega (arith, length-drop at l))

    pub due_cut : read_field at (drop at l) ≡ refused 3 at → due tag at (drop at l) ≡ refused 3 at
    due_cut e = due_is ∙ bind_refused _ e

    module _ (found start e : ℕ) (F : WholeAt l at found start e) where
      pub due_other_tag : (found ≡ tag → ⊥) → due tag at (drop at l) ≡ refused 4 at
      unfolding field_at ◌>>=◌ refuse_if
      due_other_tag t = due_is ∙ bind_ok _ F.read ∙ rw (ne_eqb found tag t) refl

      pub due_fine : found ≡ tag → DueTo tag l at e
      unfolding field_at ◌>>=◌ refuse_if
      due_fine t = (due_is ∙ bind_ok _ F.read ∙ rw (t, eq-eqb tag tag refl) refl, omega (arith, F.starts, F.low), F.within)

-- a field that is written is read back, whatever stands behind it
pub field_back : (at : ℕ) (f : Field) (more : List ℕ) → length f.contents < 65_536 →
    read_field at (field_bytes f ++ more) ≡ ok (record { first = at; tag = f.tag; contents = f.contents; end = at + 3 + length f.contents; rest = more })
unfolding field_bytes number_bytes
field_back at f more h =
    let n : ℕ = length f.contents in
    let b : said (field_bytes f ++ more) ≡ n = number_back 2 n h in
    whole at (field_bytes f ++ more) (omega arith) (omega (arith, b, length-append f.contents more))
    ∙ rw (b, take_at f.contents more n refl, drop_at f.contents more n refl) refl
