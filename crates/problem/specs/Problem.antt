-- Document 01, "The problem's fields" and "Stops and what they leave", 2 to 12: a problem's bytes read front to back. Assumes nothing.
-- Read first: reading/specs/Forms (a field, a field that is due, symbols, a term, a side, a pair).
use Rattle.std.specs.Prelude.{not, ◌||◌, List, [], ◌∷◌, map, ℕ, zero, suc, ◌+◌, ◌%◌, ◌*◌, eqb, ltb, length}
use Rattle.limits.specs.Limits.{most_symbols, most_budget, most_problem, most_equations}
use Rattle.terms.specs.Base.{number_from}
use Rattle.terms.specs.Term.{Pair}
use Rattle.reading.specs.Stops.{long_problem, wrong_symbol_field, wrong_budget, many_equations, not_one_equation}
pub use Rattle.reading.specs.Forms.{Reading, ok, refused, ReadField, Symbol, Has, Byte, symbol, variable, neither, ReadPart}
unfoldable pub use Rattle.reading.specs.Forms.{◌>>=◌, refuse_if, read_field, due, has, arity_of, rank_of, read_symbols}
unfoldable pub use Rattle.reading.specs.Forms.{byte_of, read_terms, read_term, read_side, read_pair}

-- 5: "symbol field's length 0, odd or over 32", at the "field's first byte" [3.4, 4.5]
unfoldable pub symbol_field : ReadField → Reading (List Symbol)
symbol_field f = do
  let n = length f.contents
  _ ← refuse_if (eqb n 0 || eqb (n % 2) 1 || ltb (2 * most_symbols) n) wrong_symbol_field f.first
  read_symbols (f.first + 3) f.contents

-- "the budget, four bytes, high byte first, 0 to 1,000,000"; 8: "budget field not 4 bytes, or above 1,000,000" [3.6, 4.8]
unfoldable pub budget_field : ReadField → Reading ℕ
budget_field f = do
  _ ← refuse_if (not (eqb (length f.contents) 4)) wrong_budget f.first
  let budget = number_from 0 f.contents
  _ ← refuse_if (ltb most_budget budget) wrong_budget f.first
  ok budget

-- An input equation, with the place of its field's first byte.
pub record Equation : Type 0 where
  pub first : ℕ
  pub sides : Pair

-- "an equation, left term then right term" [3.7, 4.18]
unfoldable pub equation_field : List Symbol → ReadField → Reading Equation
equation_field Σ f = do
  e ← read_pair Σ (f.first + 3) f.contents
  ok (record { first = f.first; sides = e })

-- "tag 03, 0 to 16 times"; 9: "seventeenth equation field", at the "field's first byte". The first number says how many may still come.
-- [3.2, 3.8, 4.9, 4.16, 4.19]
unfoldable pub equation_fields : List Symbol → ℕ → ℕ → List ℕ → Reading (List Equation)
equation_fields Σ zero at [] = ok []
equation_fields Σ zero at (b ∷ bytes) = do
  _ ← due 0x03 at (b ∷ bytes)
  refused many_equations at
equation_fields Σ (suc more) at [] = ok []
equation_fields Σ (suc more) at (b ∷ bytes) = do
  f ← due 0x03 at (b ∷ bytes)
  e ← equation_field Σ f
  es ← equation_fields Σ more f.end f.rest
  ok (e ∷ es)

-- What a run is of: symbols and equations between terms over them.
pub record Theory : Type 0 where
  pub symbols : List Symbol
  pub equations : List Pair

pub record Problem : Type 0 where
  pub symbols : List Symbol
  pub budget : ℕ
  pub equations : List Equation

-- A problem's theory: neither its budget, nor where its equations stand in its bytes.
abbrev pub sides_all : List Equation → List Pair
sides_all es = map (λ (e : Equation). e.sides) es

abbrev pub theory : Problem → Theory
theory P = record { symbols = P.symbols; equations = sides_all P.equations }

-- 2: "problem over 8,192 bytes", place 8,192. "Order: 1, 2, then front to back through the problem." [3.2, 3.9, 4.2, 4.15]
unfoldable pub parse : List ℕ → Reading Problem
parse bytes = do
  _ ← refuse_if (ltb most_problem (length bytes)) long_problem most_problem
  s ← due 0x01 0 bytes
  Σ ← symbol_field s
  b ← due 0x02 s.end s.rest
  budget ← budget_field b
  es ← equation_fields Σ most_equations b.end b.rest
  ok (record { symbols = Σ; budget = budget; equations = es })

-- 12: "compare, unify, subterm: equation fields are not exactly one", at "the end if none, else second field's first byte" [4.12]
unfoldable pub only_equation : ℕ → List Equation → Reading Equation
only_equation end [] = refused not_one_equation end
only_equation end (e ∷ []) = ok e
only_equation end (e ∷ e' ∷ es) = refused not_one_equation e'.first
