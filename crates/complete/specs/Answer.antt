-- Document 01, "The result and settle": what `complete` answers, and demand 3 of the bytes it takes and leaves. Assumes nothing.
use Rattle.std.specs.Prelude.{List, ℕ, take, Result, Ok, Err}
use Rattle.problem.specs.Problem.{Reading, ok, refused, Problem}
use Rattle.problem.specs.Parser.{ParsedAt}
use Rattle.completion.specs.Turn.{run}
use Rattle.completion.specs.Calls.{result_bytes, Writes}
use Rattle.completion.specs.Promise.{Delivers}
use Rattle.problem.specs.declared.Input.{Input}
use Rattle.problem.specs.declared.Refusal.{Refusal}
use Rattle.problem.specs.Reasons.{number_of_reason}

-- "Complete and unify return the count of result bytes"; a refusal has its number and its place.
unfoldable pub completed_told : Result ℕ Refusal → Reading ℕ
completed_told (Ok count) = ok count
completed_told (Err r) = refused (number_of_reason r.reason) r.place

-- "a promise of complete about the bytes it takes and leaves": the written result delivers
unfoldable pub Delivery : List ℕ → List ℕ → Result ℕ Refusal → Type 0
Delivery problem result (Ok count) = Delivers problem (take count result)
Delivery problem result (Err r) = Unit {0}

-- `accepted`
abbrev pub WritesProblem : List ℕ → Input → List ℕ → List ℕ → ℕ → Type 0
WritesProblem l i before after r =
    (P : Problem) → ParsedAt l i.table_end i.budget i.equations i.count P → Writes before (result_bytes (run P)) after r
