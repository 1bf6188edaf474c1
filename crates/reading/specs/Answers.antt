-- What each reader answers, said by the definitions of Forms. Assumes nothing.
use Rattle.std.specs.Prelude.{◌≡◌, Bool, true, false, ◌||◌, List, [], ◌∷◌, ◌++◌, ℕ, suc, ◌+◌, ◌*◌, ◌%◌, ◌≤◌, ◌<◌, eqb, ltb, length, take, drop}
use Rattle.limits.specs.Limits.{most_symbols, most_arity, most_rank, two_byte_values}
use Rattle.std.specs.Prelude.{if◌then◌else◌, Option, None, Some, Result, Ok, Err}
use Rattle.terms.specs.Term.{Term, size, term_bytes, Pair, renamed}
use Rattle.terms.specs.Flat.{Wf}
use Rattle.terms.specs.declared.BadTerm.{BadTerm}
use Rattle.reading.specs.Stops.{cut_field, wrong_tag, wrong_arity_or_rank, wrong_term, large_side}
use Rattle.reading.specs.Forms.{Reading, ok, refused, ◌>>=◌, refuse_if, ReadField, read_field, due, Symbol, read_symbols, read_term, read_side, read_pair}
use Rattle.reading.specs.declared.Field.{Field}
use Rattle.reading.specs.declared.DueError.{DueError}
use Rattle.reading.specs.declared.DueError.TheVariants.{Cut, Other}
use Rattle.reading.specs.declared.SymbolsError.{SymbolsError}
use Rattle.reading.specs.declared.SymbolsError.TheVariants.{WrongLength, WrongByte}
use Rattle.reading.specs.declared.SideError.{SideError}
use Rattle.reading.specs.declared.SideError.TheVariants.{Wrong, Large}
use Rattle.reading.specs.declared.PairError.{PairError}
use Rattle.reading.specs.declared.PairError.TheVariants.{Wrong as Pair-wrong, Large as Pair-large}

-- the field of l from `at` to e
unfoldable pub field_at : ℕ → List ℕ → ℕ → ℕ → ReadField
field_at tag l at e = record { first = at; tag = tag; contents = drop (at + 3) (take e l); end = e; rest = drop e l }

-- a whole field of l at `at`, whose contents start at `start` and end at e
pub record WholeAt (l : List ℕ) (at tag start e : ℕ) : Type 0 where
  pub read : read_field at (drop at l) ≡ ok (field_at tag l at e)
  pub starts : start ≡ at + 3
  pub low : start ≤ e
  pub within : e ≤ length l
  pub short : e < start + two_byte_values

abbrev pub IsField : List ℕ → ℕ → Option Field → Type 0
IsField l at None = read_field at (drop at l) ≡ refused cut_field at
IsField l at (Some f) = WholeAt l at f.tag f.start f.end

-- the field that is due at `at` ends at e
abbrev pub DueTo : ℕ → List ℕ → ℕ → ℕ → Type 0
DueTo tag l at e = (due tag at (drop at l) ≡ ok (field_at tag l at e)) × (at + 3 ≤ e) × (e ≤ length l)

abbrev pub IsDue : ℕ → List ℕ → ℕ → Result ℕ DueError → Type 0
IsDue tag l at (Ok e) = DueTo tag l at e
IsDue tag l at (Err Cut) = due tag at (drop at l) ≡ refused cut_field at
IsDue tag l at (Err Other) = due tag at (drop at l) ≡ refused wrong_tag at

-- a table: two bytes a symbol, its arity and its rank
unfoldable pub symbols_of : List ℕ → List Symbol
symbols_of [] = []
symbols_of (arity ∷ []) = []
symbols_of (arity ∷ rank ∷ l) = record { arity = arity; rank = rank } ∷ symbols_of l

pub record Table (tab : List ℕ) : Type 0 where
  pub even : length (symbols_of tab) + length (symbols_of tab) ≡ length tab
  pub small : length tab ≤ 2 * most_symbols

-- `read_symbols` without the symbols
unfoldable pub check_symbols : ℕ → List ℕ → Reading (Unit {0})
check_symbols at [] = ok tt
check_symbols at (arity ∷ []) = ok tt
check_symbols at (arity ∷ rank ∷ l) = do
  _ ← refuse_if (ltb most_arity arity) wrong_arity_or_rank at
  _ ← refuse_if (ltb most_rank rank) wrong_arity_or_rank (at + 1)
  check_symbols (at + 2) l

-- symbols whose bytes begin at any place: a place in the answer counts from there
abbrev pub IsRanked : List ℕ → Result (Unit {0}) SymbolsError → Type 0
IsRanked tab (Ok _) = (at : ℕ) → check_symbols at tab ≡ ok tt
IsRanked tab (Err WrongLength) = ⊥
IsRanked tab (Err (WrongByte p)) = (p < length tab) × ((at : ℕ) → check_symbols at tab ≡ refused wrong_arity_or_rank (at + p))

-- "symbol field's length 0, odd or over 32"
abbrev pub wrong_length : ℕ → Bool
wrong_length n = eqb n 0 || eqb (n % 2) 1 || ltb (2 * most_symbols) n

pub record SymbolsAre (tab : List ℕ) (r : (at : ℕ) → Reading (List Symbol)) : Type 0 where
  pub right : wrong_length (length tab) ≡ false
  pub table : Table tab
  pub some : 2 ≤ length tab
  pub read : (at : ℕ) → read_symbols at tab ≡ r at

abbrev pub IsSymbols : List ℕ → Result (Unit {0}) SymbolsError → Type 0
IsSymbols tab (Ok _) = SymbolsAre tab (λ at. ok (symbols_of tab))
IsSymbols tab (Err WrongLength) = wrong_length (length tab) ≡ true
IsSymbols tab (Err (WrongByte p)) = (p < length tab) × SymbolsAre tab (λ at. refused wrong_arity_or_rank (at + p))

-- the bytes of l from `at` to `end`
abbrev pub between : List ℕ → ℕ → ℕ → List ℕ
between l at end = drop at (take end l)

-- a term of l at `at`, in the bytes up to `end`: it ends at e
pub record TermAt (tab l : List ℕ) (at end e : ℕ) (x : Term) : Type 0 where
  pub read : read_term (symbols_of tab) (suc (length (between l at end))) at (between l at end) ≡ ok (record { part = x; end = e; rest = between l e end })
  pub ends : e ≡ at + size x
  pub within : e ≤ end

abbrev pub IsTerm : List ℕ → List ℕ → ℕ → ℕ → Result ℕ BadTerm → Type 0
IsTerm tab l at end (Ok e) = (x : Term) × TermAt tab l at end e x
IsTerm tab l at end (Err b) = read_term (symbols_of tab) (suc (length (between l at end))) at (between l at end) ≡ refused wrong_term b.place

pub record SideAt (tab l : List ℕ) (at end e : ℕ) (x : Term) : Type 0 where
  pub read : read_side (symbols_of tab) at (between l at end) ≡ ok (record { part = x; end = e; rest = between l e end })
  pub ends : e ≡ at + size x
  pub within : e ≤ end

abbrev pub IsSide : List ℕ → List ℕ → ℕ → ℕ → Result ℕ SideError → Type 0
IsSide tab l at end (Ok e) = (x : Term) × SideAt tab l at end e x
IsSide tab l at end (Err (Wrong p)) = read_side (symbols_of tab) at (between l at end) ≡ refused wrong_term p
IsSide tab l at end (Err Large) = read_side (symbols_of tab) at (between l at end) ≡ refused large_side at

-- the left side ends at m, where the right one begins
pub record PairAt (tab l : List ℕ) (at end m : ℕ) (p : Pair) : Type 0 where
  pub read : read_pair (symbols_of tab) at (between l at end) ≡ ok p
  pub middle : m ≡ at + size p.left
  pub ends : end ≡ m + size p.right

abbrev pub IsPair : List ℕ → List ℕ → ℕ → ℕ → Result ℕ PairError → Type 0
IsPair tab l at end (Ok m) = (p : Pair) × PairAt tab l at end m p
IsPair tab l at end (Err (Pair-wrong p)) = read_pair (symbols_of tab) at (between l at end) ≡ refused wrong_term p
IsPair tab l at end (Err (Pair-large p)) = read_pair (symbols_of tab) at (between l at end) ≡ refused large_side p

-- what a pair is refused for whose side is: that side begins at `first`
abbrev pub of_pair : SideError → ℕ → PairError
of_pair (Wrong p) first = Pair-wrong p
of_pair Large first = Pair-large first

-- the byte of the next variable, behind the byte b, and bytes whose variables come in order
unfoldable pub next_after : ℕ → ℕ → ℕ
next_after next b = if eqb b next then suc next else next

unfoldable pub ordered : ℕ → List ℕ → Bool
ordered next [] = true
ordered next (b ∷ l) =
    let later : Bool = ordered (next_after next b) l in
    if ltb next b then false else later

-- is the pair that fills the bytes renamed
abbrev pub IsRenamed : List ℕ → ℕ → ℕ → Bool → Type 0
IsRenamed l at end r =
    (n : ℕ) (tab : List ℕ) (p : Pair) → Wf n tab p.left → Wf n tab p.right → between l at end ≡ term_bytes p.left ++ term_bytes p.right →
    (r ≡ true → renamed p ≡ p) × (renamed p ≡ p → r ≡ true)
