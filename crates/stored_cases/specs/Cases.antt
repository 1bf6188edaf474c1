-- A stored case: a byte that says what is asked, the length of its name in a byte, that of its problem in two, the name, the problem. Assumes nothing.
use Rattle.std.specs.Prelude.{List, ℕ, ◌+◌, ltb, length, take, drop, get_or, Option, None, Some, if◌then◌else◌}
use Rattle.terms.specs.Base.{number_from}
use Rattle.std.specs.Prelude.{◌≡◌}
use Rattle.std.specs.Prelude.{MatchOption}
use Rattle.stored_cases.specs.declared.Case.{Case}
use Rattle.stored_cases.specs.declared.Asked.{Asked}
use Rattle.stored_cases.specs.declared.Cases.{Cases}

-- where the name, the problem and the case end, of a case with its head whole
abbrev pub problem_at : List ℕ → ℕ → ℕ
problem_at l at = at + 4 + number_from 0 (take 1 (drop (at + 1) l))

abbrev pub end_at : List ℕ → ℕ → ℕ
end_at l at = problem_at l at + number_from 0 (take 2 (drop (at + 2) l))

abbrev pub case_of : ℕ → ℕ → ℕ → ℕ → Case
case_of asked name problem end = record { asked = asked; name = name; problem = problem; end = end }

-- the case at this place, if a whole one is there
unfoldable pub case_at : List ℕ → ℕ → Option Case
case_at l at =
    if ltb (length l) (at + 4) then None
    else if ltb (length l) (end_at l at) then None
    else Some (case_of (get_or l at 0) (at + 4) (problem_at l at) (end_at l at))

-- an iterator over the cases of a text: the rest of one call, what it gives, and the iterator behind it
pub record GivesCase (s : Cases) (x : Asked) (t : Cases) : Type 0 where
  pub case : Case
  pub stands : case_at s.text.now s.at ≡ Some case
  pub asked : x.asked ≡ case.asked
  pub name : x.name.now ≡ drop case.name (take case.problem s.text.now)
  pub problem : x.problem.now ≡ drop case.problem (take case.end s.text.now)
  pub behind : t.at ≡ case.end
  pub same : t.text ≡ s.text

abbrev pub Gives : Cases → Option Asked → Cases → Type 0
Gives s r t = MatchOption r (case_at s.text.now s.at ≡ None) (λ x. GivesCase s x t)
