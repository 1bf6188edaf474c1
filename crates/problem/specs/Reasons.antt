-- The numbers of the refusals that the code names, and the refusal of an equation whose pair is refused. Assumes nothing.
-- Read first: reading/specs/Stops.
use Rattle.std.specs.Prelude.{ℕ}
use Rattle.reading.specs.Stops.{short_buffer, long_problem, cut_field, wrong_tag, wrong_symbol_field, wrong_arity_or_rank, wrong_budget}
use Rattle.reading.specs.Stops.{many_equations, wrong_term, large_side, not_one_equation, wrong_record, not_complete, not_above}
use Rattle.reading.specs.Stops.{wrong_saved, large_budget}
use Rattle.reading.specs.declared.PairError.{PairError}
use Rattle.reading.specs.declared.PairError.TheVariants.{Wrong, Large}
use Rattle.problem.specs.declared.Reason.{Reason}
use Rattle.problem.specs.declared.Reason.TheVariants.{ShortBuffer, LongProblem, CutField, WrongTag, WrongSymbolField, WrongArityOrRank, WrongBudget}
use Rattle.problem.specs.declared.Reason.TheVariants.{ManyEquations, WrongTerm, LargeSide, NotOneEquation, WrongRecord, NotComplete, NotAbove}
use Rattle.problem.specs.declared.Reason.TheVariants.{WrongSaved, LargeBudget}
use Rattle.problem.specs.declared.Refusal.{Refusal}

abbrev pub number_of_reason : Reason → ℕ
number_of_reason ShortBuffer = short_buffer
number_of_reason LongProblem = long_problem
number_of_reason CutField = cut_field
number_of_reason WrongTag = wrong_tag
number_of_reason WrongSymbolField = wrong_symbol_field
number_of_reason WrongArityOrRank = wrong_arity_or_rank
number_of_reason WrongBudget = wrong_budget
number_of_reason ManyEquations = many_equations
number_of_reason WrongTerm = wrong_term
number_of_reason LargeSide = large_side
number_of_reason NotOneEquation = not_one_equation
number_of_reason WrongRecord = wrong_record
number_of_reason NotComplete = not_complete
number_of_reason NotAbove = not_above
number_of_reason WrongSaved = wrong_saved
number_of_reason LargeBudget = large_budget

abbrev pub refusal_of_pair : PairError → Refusal
refusal_of_pair (Wrong p) = record { reason = WrongTerm; place = p }
refusal_of_pair (Large p) = record { reason = LargeSide; place = p }
