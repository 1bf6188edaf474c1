-- What each function of the parser answers, said by `parse` of Problem and its parts. Assumes nothing.
-- Read first: Problem, reading/specs/Answers (field_at, symbols_of, Table).
use Rattle.std.specs.Prelude.{◌≡◌, List, [], ◌∷◌, ℕ, ◌+◌, ◌-◌, ◌≤◌, length, take, drop}
use Rattle.limits.specs.Limits.{field_head, most_equations, most_problem}
use Rattle.problem.specs.Problem.{Reading, ok, refused, ◌>>=◌, due, Symbol, symbol_field, budget_field, Equation, equation_field, equation_fields}
use Rattle.problem.specs.Problem.{Problem, parse}
use Rattle.std.specs.Prelude.{Result, Ok, Err}
use Rattle.problem.specs.Reasons.{number_of_reason}
use Rattle.problem.specs.declared.Input.{Input}
use Rattle.problem.specs.declared.Refusal.{Refusal}
use Rattle.problem.specs.declared.Rest.{Rest}
use Rattle.reading.specs.Answers.{DueTo}
unfoldable pub use Rattle.reading.specs.Answers.{field_at, symbols_of}
pub use Rattle.reading.specs.Answers.{Table}

abbrev pub IsDue : ℕ → List ℕ → ℕ → Result ℕ Refusal → Type 0
IsDue tag l at (Ok e) = DueTo tag l at e
IsDue tag l at (Err r) = due tag at (drop at l) ≡ refused (number_of_reason r.reason) r.place

pub record SymbolsAt (l : List ℕ) (e : ℕ) : Type 0 where
  pub field : due 0x01 0 l ≡ ok (field_at 0x01 l 0 e)
  pub read : symbol_field (field_at 0x01 l 0 e) ≡ ok (symbols_of (take (e - 3) (drop 3 l)))
  pub table : Table (take (e - 3) (drop 3 l))
  pub low : 5 ≤ e
  pub high : e ≤ 35
  pub within : e ≤ length l

abbrev pub IsSymbols : List ℕ → Result ℕ Refusal → Type 0
IsSymbols l (Ok e) = SymbolsAt l e
IsSymbols l (Err r) = (due 0x01 0 l >>= symbol_field) ≡ refused (number_of_reason r.reason) r.place

abbrev pub IsBudget : List ℕ → ℕ → ℕ → Result ℕ Refusal → Type 0
IsBudget l at e (Ok b) = budget_field (field_at 0x02 l at e) ≡ ok b
IsBudget l at e (Err r) = budget_field (field_at 0x02 l at e) ≡ refused (number_of_reason r.reason) r.place

-- one more equation field, at `at`, behind so many others
pub record FieldAt (tab l : List ℕ) (at count e : ℕ) : Type 0 where
  pub equation : Equation
  pub field : due 0x03 at (drop at l) ≡ ok (field_at 0x03 l at e)
  pub read : equation_field (symbols_of tab) (field_at 0x03 l at e) ≡ ok equation
  pub more : count + 1 ≤ most_equations
  pub low : at + 3 ≤ e
  pub within : e ≤ length l

abbrev pub IsEquation : List ℕ → List ℕ → ℕ → ℕ → Result ℕ Refusal → Type 0
IsEquation tab l at count (Ok e) = FieldAt tab l at count e
IsEquation tab l at count (Err r) = equation_fields (symbols_of tab) (most_equations - count) at (drop at l) ≡ refused (number_of_reason r.reason) r.place

abbrev pub IsEquations : List ℕ → List ℕ → ℕ → Result ℕ Refusal → Type 0
IsEquations tab l at (Ok n) = (es : List Equation) × (equation_fields (symbols_of tab) most_equations at (drop at l) ≡ ok es) × (length es ≡ n)
IsEquations tab l at (Err r) = equation_fields (symbols_of tab) most_equations at (drop at l) ≡ refused (number_of_reason r.reason) r.place

-- `parse` behind the symbol field, over given symbols
unfoldable pub parse_rest : List Symbol → ℕ → List ℕ → Reading Problem
parse_rest Σ at bytes = do
  b ← due 0x02 at bytes
  budget ← budget_field b
  es ← equation_fields Σ most_equations b.end b.rest
  ok (record { symbols = Σ; budget = budget; equations = es })

-- the rest of a problem from `at` on: its budget field, which ends at e, its budget, and n equations from e on
pub record RestAt (tab l : List ℕ) (at b e n : ℕ) (P : Problem) : Type 0 where
  pub is : parse_rest (symbols_of tab) at (drop at l) ≡ ok P
  pub symbols_are : P.symbols ≡ symbols_of tab
  pub budget_is : P.budget ≡ b
  pub field : due 0x02 at (drop at l) ≡ ok (field_at 0x02 l at e)
  pub within : e ≤ length l
  pub equations_are : equation_fields (symbols_of tab) most_equations e (drop e l) ≡ ok P.equations
  pub number : length P.equations ≡ n

abbrev pub IsRest : List ℕ → List ℕ → ℕ → Result Rest Refusal → Type 0
IsRest tab l at (Ok x) = (P : Problem) × RestAt tab l at x.budget x.equations x.count P
IsRest tab l at (Err r) = parse_rest (symbols_of tab) at (drop at l) ≡ refused (number_of_reason r.reason) r.place

-- a problem that is read: its table ends at e, its budget is b, and n equations begin at `at`
pub record ParsedAt (l : List ℕ) (e b at n : ℕ) (P : Problem) : Type 0 where
  pub is : parse l ≡ ok P
  pub small : length l ≤ most_problem
  pub table : SymbolsAt l e
  pub symbols_are : P.symbols ≡ symbols_of (take (e - 3) (drop 3 l))
  pub budget_is : P.budget ≡ b
  pub within : at ≤ length l
  pub equations_are : equation_fields (symbols_of (take (e - 3) (drop 3 l))) most_equations at (drop at l) ≡ ok P.equations
  pub number : length P.equations ≡ n

abbrev pub IsParsed : List ℕ → Result Input Refusal → Type 0
IsParsed l (Ok i) = (P : Problem) × ParsedAt l i.table_end i.budget i.equations i.count P
IsParsed l (Err r) = parse l ≡ refused (number_of_reason r.reason) r.place

-- where the equations of a problem begin: at the first one's field, or at the problem's end
unfoldable pub begins_at : ℕ → List Equation → ℕ
begins_at end [] = end
begins_at end (q ∷ qs) = q.first

-- the same in one equation, of a problem with so many bytes: the symbol field has its head and 2 bytes a symbol
unfoldable pub parsed_of : ℕ → Reading Problem → Reading Input
parsed_of end (ok P) = ok (record {
  table_end = field_head + (length P.symbols + length P.symbols);
  budget = P.budget;
  equations = begins_at end P.equations;
  count = length P.equations;
})
parsed_of end (refused n p) = refused n p

-- what the parser answers, with the refusal's number
abbrev pub told : Result Input Refusal → Reading Input
told (Ok i) = ok i
told (Err r) = refused (number_of_reason r.reason) r.place
