-- Origins, entries, numbers, equations and waiting equations of a saved record are read back from their fields, wherever these stand; so are the symbols
-- of an accepted problem. Assumes nothing.
-- Read first: specs/Checkpoint, items/proofs/Back (placed, pair_back).
use mathlib.Core.Path.{◌≡◌, refl, sym, ap, ◌∙◌}
use mathlib.Core.Bool.{Bool, true, false, ◌&&◌, ◌||◌}
use mathlib.Core.List.{List, [], ◌∷◌, ◌++◌, flat_map}
use Prim.Native.Nat.{ℕ, suc, ◌+◌, ◌%◌, ◌≤◌, ◌<◌}
use native.Mathlib.Omega.{arith}
use lib.Dec.{eqb, ltb, leb}
use lib.ListN.{length}
use lib.Seq.{drop_at}
use borrow.Author.Tests.{le-ltb, le-leb, eqb-false}
use Rattle.limits.specs.Limits.{most_symbols, most_number, most_next, byte_values, two_byte_values}
use Rattle.std.specs.Prelude.{if◌then◌else◌}
use Rattle.terms.specs.Base.{number_bytes}
use Rattle.terms.specs.Term.{Pair}
use Rattle.terms.proofs.Numerals.{number_back}
use Rattle.terms.proofs.Shape.{zero≢one}
use Rattle.reading.specs.Answers.{symbols_of}
use Rattle.reading.proofs.Reading.{bind_ok}
use Rattle.reading.proofs.Tables.{read_is}
use Rattle.problem.specs.Problem.{ok, ReadField, Symbol, symbol_field}
use Rattle.problem.proofs.Reading.{from_bind, ok_injective, passed}
use Rattle.completion.specs.Turn.{Origin, waiting_input, removed_rule, scanned_input, overlapping, Candidate, Entry}
use Rattle.completion.specs.Calls.{pair_bytes, origin_bytes, entry_field}
use Rattle.completion.specs.Keeps.{PairKeeps}
use Rattle.completion.proofs.Held.{HeldPair}
use Rattle.completion.proofs.Over.{OverPair}
use Rattle.completion.proofs.ReadBack.{two_back}
use Rattle.completion.proofs.Widths.{origin_bytes_length, entry_length}
use Rattle.fields.specs.Puts.{tagged}
use Rattle.items.proofs.OneField.{demand_kept}
use Rattle.items.proofs.Back.{placed, read_number_back, sides_back, pair_back}
use Rattle.checkpoint.specs.Checkpoint.{symbol_bytes, equation_field_of, waiting_field, read_equation, read_next, origin_with}
use Rattle.checkpoint.specs.Checkpoint.{read_origin, read_waiting, read_entry, read_put_back, few_entries}

-- What fits the bytes of an origin, and of an entry, whatever rules were made.
unfoldable pub OriginWide : Origin → Type 0
OriginWide (waiting_input k) = k < two_byte_values
OriginWide (removed_rule k) = k < two_byte_values
OriginWide (scanned_input k) = k < two_byte_values
OriginWide (overlapping i o p) = (i < two_byte_values) × (o < two_byte_values) × (p < byte_values)

pub record EntryWide (e : Entry) : Type 0 where
  pub from : OriginWide e.origin
  pub last : e.made < two_byte_values

-- "Where a pair came from": six bytes, whatever stands behind them.
origin_four : (kind n second p : ℕ) (rest : List ℕ) → n < two_byte_values → second < two_byte_values → p < byte_values →
    (leb 1 kind && leb kind 4 && (eqb kind 4 || eqb (second + p) 0)) ≡ true →
    read_origin (kind ∷ (number_bytes 2 n ++ number_bytes 2 second ++ number_bytes 1 p) ++ rest) ≡ ok (origin_with kind n second p)
unfolding read_origin number_bytes
origin_four kind n second p rest a b c known =
    let q : p % 256 ≡ p = omega arith in
    rw (two_back second b, two_back n a, q) (demand_kept _ known)

pub origin_back : (o : Origin) → OriginWide o → (rest : List ℕ) → read_origin (origin_bytes o ++ rest) ≡ ok o
unfolding OriginWide origin_bytes origin_with
origin_back (waiting_input n) h rest = origin_four 1 n 0 0 rest h (omega arith) (omega arith) refl
origin_back (removed_rule n) h rest = origin_four 2 n 0 0 rest h (omega arith) (omega arith) refl
origin_back (scanned_input n) h rest = origin_four 3 n 0 0 rest h (omega arith) (omega arith) refl
origin_back (overlapping i o p) h rest = origin_four 4 i o p rest h.0 h.1 h.2 refl

-- 13
pub entry_back : (e : Entry) → EntryWide e → (at : ℕ) (rest : List ℕ) → read_entry (placed at (entry_field e) rest) ≡ ok e
unfolding read_entry entry_field
entry_back e h at rest =
    let six : length (origin_bytes e.origin) ≡ 6 = origin_bytes_length e.origin in
    let eight : length (origin_bytes e.origin ++ number_bytes 2 e.made) ≡ 8 = unfold entry_field in entry_length e in
    demand_kept _ (rw eight refl) ∙ bind_ok _ (origin_back e.origin h.from (number_bytes 2 e.made))
    ∙ rw (drop_at (origin_bytes e.origin) (number_bytes 2 e.made) 6 six) (rw (number_back 2 e.made h.last) refl)

-- 20 and 22
pub next_back : (n : ℕ) → n ≤ most_number → (at : ℕ) (rest : List ℕ) → read_next (placed at (tagged 0x20 (number_bytes 2 (suc n))) rest) ≡ ok (suc n)
unfolding read_next
next_back n h at rest =
    bind_ok _ (read_number_back 0x20 2 (suc n) at rest (omega arith))
    ∙ demand_kept _ (rw (le-leb 1 (suc n) (omega arith), le-leb (suc n) most_next (omega arith)) refl)

pub put_back_back : (waiting n : ℕ) → n ≤ waiting → n < byte_values → (at : ℕ) (rest : List ℕ) →
    read_put_back waiting (placed at (tagged 0x22 (number_bytes 1 n)) rest) ≡ ok n
unfolding read_put_back
put_back_back waiting n h k at rest = bind_ok _ (read_number_back 0x22 1 n at rest (omega arith)) ∙ demand_kept _ (le-leb n waiting h)

-- enough entries for the rules made
pub entries_enough : (made entries : ℕ) → made ≤ entries → few_entries (suc made) entries ≡ false
unfolding few_entries
entries_enough made entries h = le-ltb (suc entries) (suc made) (omega arith)

module _ (Σ : List Symbol) (few : length Σ ≤ most_symbols) where
  -- 03
  pub equation_back : (e : Pair) → HeldPair (length Σ) 16 e × OverPair Σ e → (at : ℕ) (rest : List ℕ) →
      read_equation Σ (placed at (equation_field_of e) rest) ≡ ok e
  unfolding read_equation equation_field_of
  equation_back e h at rest = sides_back Σ few e (at + 3) h.0 h.1

  -- 21
  pub waiting_back : (c : Candidate) → OriginWide c.origin → PairKeeps Σ c.sides → (at : ℕ) (rest : List ℕ) →
      read_waiting Σ (placed at (waiting_field c) rest) ≡ ok c
  unfolding read_waiting waiting_field
  waiting_back c h k at rest =
      bind_ok _ (origin_back c.origin h (pair_bytes c.sides))
      ∙ rw (drop_at (origin_bytes c.origin) (pair_bytes c.sides) 6 (origin_bytes_length c.origin)) (bind_ok _ (pair_back Σ few c.sides (at + 9) k))

-- 01: the bytes of the symbols of a table, whose length is not odd, are the table.
pub table_bytes : (tab : List ℕ) → (length tab % 2 ≡ 1 → ⊥) → symbol_bytes (symbols_of tab) ≡ tab
unfolding symbols_of symbol_bytes flat_map
table_bytes [] n = refl
table_bytes (a ∷ []) n = absurd (n refl)
table_bytes (a ∷ r ∷ tab) n = ap (λ l. a ∷ r ∷ l) (table_bytes tab (λ e. n (omega arith)))

middle_of : (a b c : Bool) → (a || b || c) ≡ false → b ≡ false
middle_of true b c h = absurd (zero≢one (cc))
middle_of false true c h = absurd (zero≢one (cc))
middle_of false false c h = refl

-- the symbols are read from their bytes, at the record's front
abbrev pub SymbolsRead : List Symbol → Type 0
SymbolsRead Σ = (end : ℕ) (rest : List ℕ) →
    symbol_field (record { first = 0; tag = 0x01; contents = symbol_bytes Σ; end = end; rest = rest }) ≡ ok Σ

-- those that were read there are
pub symbols_back : (f : ReadField) (Σ : List Symbol) → f.first ≡ 0 → symbol_field f ≡ ok Σ → SymbolsRead Σ
unfolding symbol_field
symbols_back f Σ z e end rest =
    let n : ℕ = length f.contents in
    let q : symbol_bytes Σ ≡ f.contents =
    from_bind _ _ Σ e λ u t h.
    from_bind _ _ Σ (sym (read_is (f.first + 3) f.contents) ∙ h) λ _ _ h.
    ap symbol_bytes (sym (ok_injective h))
    ∙ table_bytes f.contents (eqb-false (n % 2) 1 (middle_of (eqb n 0) (eqb (n % 2) 1) (ltb 32 n) (passed _ 5 f.first u t))) in
    rw q (rw z at e)
