-- What is read as a whole, and what `is_term` and `choose` find of it. Assumes nothing.
-- Read first: specs/Lower (whole), reading/specs/Answers (SideAt), problem/specs/Parser (SymbolsAt), reading/proofs/Standing.
use mathlib.Core.Path.{◌≡◌, refl, ap, sym, ◌∙◌}
use mathlib.Core.Bool.{false}
use mathlib.Core.List.{List, [], ◌∷◌}
use mathlib.Core.Option.{Option, none, some}
use Prim.Native.Nat.{ℕ, ◌-◌, ◌<◌, ◌≤◌}
use native.Mathlib.Omega.{arith}
use lib.Dec.{eqb}
use lib.ListN.{length, take, drop, length-append, length-drop}
use lib.Seq.{take-length}
use borrow.Author.Tests.{eq-eqb, ne_eqb}
use Rattle.std.specs.Prelude.{Err}
use Rattle.terms.specs.Base.{is_some}
use Rattle.terms.specs.Term.{Term, size, term_bytes}
use Rattle.terms.specs.Flat.{Starts}
use Rattle.terms.proofs.Bytes.{length_bytes}
use Rattle.terms.proofs.Flats.{widen}
use Rattle.terms.proofs.Shape.{none≢some, some_inj}
use Rattle.reading.specs.Answers.{symbols_of, Table, between, SideAt, IsSide}
use Rattle.reading.specs.declared.SideError.{SideError}
use Rattle.reading.specs.declared.SideError.TheVariants.{Wrong, Large}
use Rattle.reading.proofs.Reading.{bind_ok, bind_refused}
use Rattle.reading.proofs.Standing.{side_stands}
use Rattle.problem.specs.Problem.{Reading, ok, refused, ◌>>=◌, ReadField, ReadPart, due, symbol_field, read_side}
use Rattle.problem.specs.Parser.{field_at, SymbolsAt}
use Rattle.lower.specs.Lower.{whole, read_table, whole_table, whole_term}

pub record IsWhole {A : Type 0} (r : Reading (ReadPart A)) (a : A) : Type 0 where
  pub end : ℕ
  pub read : r ≡ ok (record { part = a; end = end; rest = [] })

pub from_whole : {A : Type 0} (r : Reading (ReadPart A)) (a : A) → whole r ≡ some a → IsWhole r a
unfolding whole
from_whole {A} (ok p) a h = go p.rest refl
  where
    go : (m : List ℕ) → p.rest ≡ m → IsWhole (ok p) a
    go [] e =
        let q : p.part ≡ a = some_inj (rw (e, whole) at h) in
        record { end = p.end; read = λ i. ok (record { part = q i; end = p.end; rest = e i }) }
    go (b ∷ m) e = absurd (none≢some (rw (e, whole) at h))
from_whole (refused n at) a h = absurd (none≢some h)

module _ {A : Type 0} (a : A) (e : ℕ) where
  pub whole_behind : (m : List ℕ) → 0 < length m → whole (ok (record { part = a; end = e; rest = m })) ≡ none
  unfolding whole
  whole_behind [] h = absurd (omega arith)
  whole_behind (b ∷ m) h = refl

  pub whole_alone : (m : List ℕ) → length m ≡ 0 → whole (ok (record { part = a; end = e; rest = m })) ≡ some a
  unfolding whole
  whole_alone [] h = refl
  whole_alone (b ∷ m) h = absurd (omega arith)

-- `is_term`
module _ (tab t : List ℕ) where
  all : between t 0 (length t) ≡ t
  all = take-length t

  not_read : (n p : ℕ) → read_side (symbols_of tab) 0 (between t 0 (length t)) ≡ refused n p → false ≡ is_some (whole_term (symbols_of tab) t)
  unfolding whole is_some
  not_read n p h = sym (ap (λ (r : Reading (ReadPart Term)). is_some (whole r)) (rw all at h))

  pub not_side : (e : SideError) → IsSide tab t 0 (length t) (Err e) → false ≡ is_some (whole_term (symbols_of tab) t)
  not_side (Wrong p) h = not_read _ p h
  not_side Large h = not_read _ 0 h

  pub to_its_end : (e : ℕ) (x : Term) → SideAt tab t 0 (length t) e x → eqb e (length t) ≡ is_some (whole_term (symbols_of tab) t)
  unfolding whole is_some
  to_its_end e x A = go (drop e t) refl ∙ sym (ap (λ (r : Reading (ReadPart Term)). is_some (whole r)) (rw all at A.read))
    where
      go : (m : List ℕ) → drop e t ≡ m → eqb e (length t) ≡ is_some (whole (ok (record { part = x; end = e; rest = drop e t })))
      go [] h = rw (h, whole, is_some) (eq-eqb e (length t) (omega (arith, ap length h, length-drop e t, A.within)))
      go (b ∷ m) h = rw (h, whole, is_some) (ne_eqb e (length t) (λ z. absurd (omega (arith, ap length h, length-drop e t))))

module _ (tab : List ℕ) (T : Table tab) (t : List ℕ) where
  abbrev Found : Option Term
  Found = whole_term (symbols_of tab) t

  -- a term that is whole, and alone in its bytes
  pub record Alone (x : Term) : Type 0 where
    pub starts : Starts tab t x
    pub short : length t ≤ 120

  pub alone : (x : Term) → Found ≡ some x → Alone x
  alone x h =
      let r = from_whole _ x h in
      let s = side_stands tab T 0 t _ r.read in
      let n : length t ≡ size x = ap length s.0.front ∙ length-append (term_bytes x) [] ∙ omega (arith, length_bytes x) in
      record { starts = record { wf = widen 16 32 tab x (omega arith) s.0.wf; rest = []; bytes = s.0.front }; short = omega (arith, s.1) }

  pub not_long : 120 < length t → false ≡ is_some Found
  unfolding is_some
  not_long h = go Found refl
    where
      go : (o : Option Term) → Found ≡ o → false ≡ is_some o
      go none e = refl
      go (some x) e = absurd (omega (arith, (alone x e).short))

-- `choose`
module _ (l : List ℕ) where
  pub table_unread : (n p : ℕ) → (due 0x01 0 l >>= symbol_field) ≡ refused n p → whole_table l ≡ none
  unfolding whole read_table
  table_unread n p h = go (due 0x01 0 l) refl
    where
      go : (r : Reading ReadField) → due 0x01 0 l ≡ r → whole_table l ≡ none
      go (ok f) e = ap whole (bind_ok _ e ∙ bind_refused _ (sym (bind_ok symbol_field e) ∙ h))
      go (refused m q) e = ap whole (bind_refused _ e)

  module _ (e : ℕ) (A : SymbolsAt l e) where
    abbrev TableBytes : List ℕ
    TableBytes = take (e - 3) (drop 3 l)

    read : read_table l ≡ ok (record { part = symbols_of TableBytes; end = e; rest = drop e l })
    unfolding read_table field_at
    read = bind_ok _ A.field ∙ bind_ok _ A.read

    pub table_behind : e < length l → whole_table l ≡ none
    table_behind h = ap whole read ∙ whole_behind _ e (drop e l) (omega (arith, length-drop e l))

    pub table_alone : length l ≤ e → whole_table l ≡ some (symbols_of TableBytes)
    table_alone h = ap whole read ∙ whole_alone _ e (drop e l) (omega (arith, length-drop e l))
