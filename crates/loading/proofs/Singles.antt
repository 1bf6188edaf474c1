-- Single fields of a saved record: the symbols, an equation, the next rule number. Assumes nothing.
-- Read first: specs/Loads (IsFirst, IsEquation, IsNext), items/proofs/OneField (one_read, tested-fine).
use mathlib.Core.Path.{◌≡◌, refl, ap, ◌∙◌}
use mathlib.Core.Bool.{Bool, true, false, ◌&&◌, and-false}
use mathlib.Core.List.{List}
use Prim.Native.Nat.{ℕ, ◌+◌, ◌<◌, ◌≤◌}
use native.Mathlib.Omega.{arith}
use lib.Dec.{leb}
use borrow.Author.Tests.{le-leb, lt-leb}
use Rattle.limits.specs.Limits.{most_next}
use Rattle.reading.specs.Answers.{symbols_of, between, field_at, IsPair}
use Rattle.std.proofs.Common.{Result, Ok, Err}
use Rattle.reading.specs.declared.PairError.{PairError}
use Rattle.reading.specs.declared.PairError.TheVariants.{Wrong, Large}
use Rattle.reading.proofs.Reading.{bind_refused}
use Rattle.problem.specs.Problem.{Reading, ok, refused, ◌>>=◌, ReadField, ReadPart, due, Symbol, symbol_field, read_pair}
use Rattle.problem.specs.Parser.{SymbolsAt, IsSymbols}
use Rattle.problem.specs.declared.Refusal.{Refusal}
use Rattle.items.specs.Fields.{or_refuse, one_field}
use Rattle.items.specs.Readers.{Unread, part, OneAt, OneBad}
use Rattle.items.proofs.OneField.{unread_is, one_read}
use Rattle.checkpoint.specs.Checkpoint.{read_equation}

-- 01: whatever refuses it, and wherever, as a problem's field
first_due : (n : ℕ) (d : Reading ReadField) (m p : ℕ) → (d >>= symbol_field) ≡ refused m p →
    or_refuse {A = ReadPart (List Symbol)} n 0 (d >>= λ f. symbol_field f >>= λ a. ok (record { part = a; end = f.end; rest = f.rest })) ≡ refused n 0
unfolding ◌>>=◌ or_refuse
first_due n (ok f) m p h = ap (or_refuse n 0) (bind_refused _ h)
first_due n (refused k q) m p h = refl

pub first_bad : (l : List ℕ) (r : Result ℕ Refusal) → IsSymbols l r → ((e : ℕ) → r ≡ Ok e → ⊥) → OneBad 0x01 symbol_field l 0 0
unfolding one_field
first_bad l (Ok e) h none = absurd (none e refl)
first_bad l (Err r) h none = λ n. first_due n (due 0x01 0 l) _ _ h

pub first_one : (l : List ℕ) (e : ℕ) → SymbolsAt l e → OneAt 0x01 symbol_field l 0 (symbols_of (part l 3 e)) e
first_one l e S = one_read 0x01 symbol_field l 0 e (S.field, omega (arith, S.low), S.within) _ S.read

-- 03: the pair that its contents hold
pub equation_is : (tab l : List ℕ) (at e : ℕ) →
    read_equation (symbols_of tab) (field_at 0x03 l at e) ≡ read_pair (symbols_of tab) (at + 3) (between l (at + 3) e)
unfolding read_equation field_at
equation_is tab l at e = refl

pub equation_unfilled : (tab l : List ℕ) (at e : ℕ) (r : Result ℕ PairError) → IsPair tab l (at + 3) e r → ((m : ℕ) → r ≡ Ok m → ⊥) →
    Unread (read_equation (symbols_of tab) (field_at 0x03 l at e))
equation_unfilled tab l at e (Ok m) h none = absurd (none m refl)
equation_unfilled tab l at e (Err (Wrong p)) h none = unread_is (equation_is tab l at e ∙ h)
equation_unfilled tab l at e (Err (Large p)) h none = unread_is (equation_is tab l at e ∙ h)

-- 20: the test of the number
abbrev pub next_fits : ℕ → Bool
next_fits n = leb 1 n && leb n most_next

pub next_none : (n : ℕ) → n ≡ 0 → next_fits n ≡ false
next_none n z = rw (lt-leb 1 n (omega arith)) refl

pub next_large : (n : ℕ) → most_next < n → next_fits n ≡ false
next_large n h = rw (lt-leb n most_next h) (and-false (leb 1 n))

pub next_fine : (n : ℕ) → (n ≡ 0 → ⊥) → n ≤ most_next → next_fits n ≡ true
next_fine n z h = rw (le-leb n most_next h, le-leb 1 n (omega (arith, z))) refl
