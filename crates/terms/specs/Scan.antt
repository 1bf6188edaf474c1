-- Terms on their bytes: the walk that counts the subterms still owed, as a function of lists. Assumes nothing.
use Rattle.std.specs.Prelude.{Bool, ◌&&◌, ◌||◌, List, [], ◌∷◌, ℕ, zero, suc, ◌+◌, ltb, leb, length, get_or}
use Rattle.limits.specs.Limits.{most_symbols, first_variable, last_variable}
use Rattle.std.specs.Prelude.{if◌then◌else◌, Result, Ok, Err}
use Rattle.terms.specs.declared.BadTerm.{BadTerm}

-- A table has two bytes a symbol: its arity and its rank [3.3].
abbrev pub arity : List ℕ → ℕ → ℕ
arity tab f = get_or tab (f + f) 0

-- how many subterms follow the byte b [2.5]
unfoldable pub owes : List ℕ → ℕ → ℕ
owes tab b = if ltb b most_symbols then arity tab b else 0

-- how many bytes the next n subterms take, or all where the bytes end first
unfoldable pub skip : List ℕ → List ℕ → ℕ → ℕ
skip tab [] n = 0
skip tab (b ∷ l) zero = 0
skip tab (b ∷ l) (suc n) = suc (skip tab l (owes tab b + n))

-- "Symbol n (0 to 15) is byte n. Variable n (0 to 15) is byte 80 + n.", over the symbols of the table [2.3, 2.4]
unfoldable pub is_node : List ℕ → ℕ → Bool
is_node tab b = ltb (b + b) (length tab) || leb first_variable b && leb b last_variable

-- the end of the next n subterms, or the place of a byte that is no node; where the bytes end first, their end [2.9, 4.10]
unfoldable pub scan : List ℕ → List ℕ → ℕ → ℕ → Result ℕ BadTerm
scan tab [] i zero = Ok i
scan tab [] i (suc n) = Err (record { place = i })
scan tab (b ∷ l) i zero = Ok i
scan tab (b ∷ l) i (suc n) =
    let more : Result ℕ BadTerm = scan tab l (i + 1) (owes tab b + n) in
    if is_node tab b then more else Err (record { place = i })
