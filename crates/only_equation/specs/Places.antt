-- Where the sides of a problem's only equation stand, with its budget, or why the problem is refused. Assumes nothing.
use Rattle.std.specs.Prelude.{◌≡◌, List, ℕ, ◌+◌, ◌-◌, ◌≤◌, length, take, drop}
use Rattle.limits.specs.Limits.{field_head, most_problem}
use Rattle.terms.specs.Term.{Term, size}
use Rattle.terms.specs.Flat.{Starts}
use Rattle.reading.specs.Answers.{symbols_of, Table}
use Rattle.problem.specs.Problem.{ok, refused}
use Rattle.completion.specs.Calls.{Single, parse_single}
use Rattle.only_equation.specs.declared.Equation.{Equation}
use Rattle.problem.specs.Reasons.{number_of_reason}
use Rattle.problem.specs.declared.Refusal.{Refusal}
use Rattle.std.specs.Prelude.{Result, Ok, Err}

-- the table of a problem, and the two sides of its only equation
abbrev pub table : List ℕ → ℕ → List ℕ
table l e = take (e - field_head) (drop field_head l)

abbrev pub left_side : Single → Term
left_side S = S.equation.sides.left

abbrev pub right_side : Single → Term
right_side S = S.equation.sides.right

-- a problem with one equation field, whose table ends at e: its sides begin at a and b, and the second ends at c
pub record SidesAt (l : List ℕ) (e a b c : ℕ) (S : Single) : Type 0 where
  pub is : parse_single l ≡ ok S
  pub small : length l ≤ most_problem
  pub symbols_are : S.symbols ≡ symbols_of (table l e)
  pub known : Table (table l e)
  pub low : 5 ≤ e
  pub table_within : e ≤ length l
  pub left_is : a ≡ S.equation.first + field_head
  pub right_is : b ≡ a + size (left_side S)
  pub end_is : c ≡ b + size (right_side S)
  pub within : c ≤ length l
  pub left : Starts (table l e) (drop a l) (left_side S)
  pub right : Starts (table l e) (drop b l) (right_side S)

-- what is found where nothing is refused: the equation, and its places in order
pub record Found (l : List ℕ) (e a b c : ℕ) : Type 0 where
  pub single : Single
  pub stand : SidesAt l e a b c single
  pub order : (field_head ≤ e) × (e ≤ length l) × (a ≤ b) × (b ≤ c) × (c ≤ length l) × (length l ≤ most_problem)

abbrev pub IsSides : List ℕ → Result Equation Refusal → Type 0
IsSides l (Ok q) = (S : Single) × SidesAt l q.table_end q.left q.right q.end S × (S.budget ≡ q.budget)
IsSides l (Err r) = parse_single l ≡ refused (number_of_reason r.reason) r.place
