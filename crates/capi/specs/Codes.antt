-- The calls' answers as one number for C: a kind times 2 ^ 48, document 01's number times 2 ^ 32, and below it a value of 32 bits; an answer taken
-- apart; and demand 3 of the bytes that C takes and leaves; section 15 of docs/DEFINITION.md. Assumes nothing.
use Rattle.std.specs.Prelude.{◌≡◌, List, [], ◌↔◌, ℕ, ◌+◌, ◌*◌, ◌/◌, ◌%◌, take, Option, Some, None}
use Rattle.limits.specs.Limits.{two_byte_values}
use Rattle.reading.specs.Stops.{wrong_saved}
use Rattle.problem.specs.Problem.{Reading, ok, refused, Theory, Problem, theory, parse}
use Rattle.completion.specs.Turn.{Finished, run_from, run}
use Rattle.completion.specs.Calls.{Part}
use Rattle.completion.specs.Promise.{Delivers}
use Rattle.checkpoint.specs.Resume.{Left}
use Rattle.checkpoint.specs.Wrote.{EngineSaved, Delivered}
use Rattle.saving_calls.specs.Leaving.{Lengths}
use Rattle.decide.specs.Decide.{Answer, are_same, are_different, numbered, Counted}
use Rattle.decide.specs.Answers.{WroteFor, Leads}
use Rattle.lower.specs.declared.Which.{Which}
use Rattle.lower.specs.declared.Which.TheVariants.{First, Second}
use Rattle.calls.specs.Answers.{Returned, bytes_written, none_common, number_only, number_and_place}

-- A value has 32 bits, and a number the 16 above it: a value is below 2 ^ 32, which is what a number counts, and a kind counts 2 ^ 48. [15.1]
abbrev pub value_end : ℕ
value_end = 4_294_967_296

abbrev pub kind_unit : ℕ
kind_unit = 281_474_976_710_656

-- [15.1]
unfoldable pub code : ℕ → ℕ → ℕ → ℕ
code kind number value = kind * kind_unit + number * value_end + value % value_end

-- compare and complete: kind 1 with 1 to 4, or with the count of result bytes; or kind 0 with the refusal's number and place
-- [15.2]
unfoldable pub answer_code : Reading ℕ → ℕ
answer_code (ok n) = code 1 0 n
answer_code (refused n at) = code 0 n at

-- unify: kind 1 with the count of result bytes, kind 2 for "none", kind 3 for a number only, or kind 0 with the refusal's number and place
-- [15.3]
unfoldable pub unify_code : Returned → ℕ
unify_code (bytes_written count) = code 1 0 count
unify_code none_common = code 2 0 0
unify_code (number_only n) = code 3 n 0
unify_code (number_and_place n at) = code 0 n at

-- decide: kind 1 with 1 for "same" or 2 for "different", kind 3 with the number 21 or 22, or kind 0 with the refusal's number and place [15.6]
unfoldable pub decide_code : Reading Answer → ℕ
decide_code (ok are_same) = code 1 0 1
decide_code (ok are_different) = code 1 0 2
decide_code (ok (numbered n)) = code 3 n 0
decide_code (refused n at) = code 0 n at

-- outermost: kind 1 with the number 1 for "same" or 2 for "different", kind 3 with the number 21 or 22, and the units as the value; or kind 0 with the
-- refusal's number and place [15.10]
unfoldable pub counted_code : Answer → ℕ → ℕ
counted_code are_same units = code 1 1 units
counted_code are_different units = code 1 2 units
counted_code (numbered n) units = code 3 n units

unfoldable pub outermost_code : Reading Counted → ℕ
outermost_code (ok c) = counted_code c.answer c.units
outermost_code (refused n at) = code 0 n at

-- complete_saving and resume_saving: kind 1 with the count of result bytes as the value and that of the saved record's as the number, or kind 0 with the
-- refusal's number and place [15.9]
unfoldable pub left_code : Reading Lengths → ℕ
left_code (ok l) = code 1 (l.saved % two_byte_values) l.result
left_code (refused n at) = code 0 n at

-- lower: 1 for the first, 2 for the second, 0 for a refusal [15.8]
unfoldable pub lower_code : Option Which → ℕ
lower_code (Some First) = 1
lower_code (Some Second) = 2
lower_code None = 0

-- subterm: the part's first byte times 2 ^ 32, and how many bytes it has; 0 for a refusal [15.4]
unfoldable pub part_code : Part → ℕ
part_code p = p.start % value_end * value_end + p.bytes % value_end

-- An answer's kind, number and value, and a part's first byte, as include/vigilbarn.h unpacks them: a shift to the right is a quotient by a power
-- of 2, the low bits are the remainder. The count of a part's bytes is the answer's value.
unfoldable pub kind_in : ℕ → ℕ
kind_in r = r / kind_unit

unfoldable pub number_in : ℕ → ℕ
number_in r = r / value_end % two_byte_values

unfoldable pub value_in : ℕ → ℕ
value_in r = r % value_end

unfoldable pub start_in : ℕ → ℕ
start_in r = r / value_end

-- Demand 3 for C, of the problem's bytes, the result's at exit and the answer: where its kind is 1, as many of the result's bytes as its value says
-- deliver. [15.5]
unfoldable pub CodeDelivers : List ℕ → List ℕ → ℕ → Type 0
CodeDelivers problem result r = kind_in r ≡ 1 → Delivers problem (take (value_in r) result)

-- What an answer is right about, for C: of a record that the engine wrote for a problem with the same symbol field, where the kind is 1, `said` is 1
-- exactly if that problem's equations lead from one side to the other, and 2 exactly if they do not. It is the value of decide's answer [15.7] and the
-- number of outermost's [15.11].
pub record CodeDecides (said : ℕ → ℕ) (problem kept : List ℕ) (r : ℕ) : Type 0 where
  pub exactly : (w : WroteFor problem kept) → kind_in r ≡ 1 →
      ((said r ≡ 1) ↔ Leads w.theory w.asked) × ((said r ≡ 2) ↔ (Leads w.theory w.asked → ⊥))

-- Of such a record d, decide's answer, and o, outermost's, say the same where the kind of both is 1. [15.12]
unfoldable pub CodesAgree : List ℕ → List ℕ → ℕ → ℕ → Type 0
CodesAgree problem kept d o = WroteFor problem kept → kind_in d ≡ 1 → kind_in o ≡ 1 → value_in d ≡ number_in o

-- What the calls that save and resume leave, for C: where the kind is 1, of as many bytes of the result as the value says and as many of the saved record
-- as the number says. Of a saved record that the engine wrote the answer is not refusal 16. [15.9]
unfoldable pub CodeSaves : List ℕ → List ℕ → List ℕ → ℕ → Type 0
CodeSaves problem result saved r = kind_in r ≡ 1 → (P : Problem) → parse problem ≡ ok P →
    Delivered (theory P) (run P) (record { result = take (value_in r) result; saved = take (number_in r) saved })

-- f is what the run left that wrote the record
unfoldable pub CodeLeaves : List ℕ → ℕ → Left → ℕ → Type 0
CodeLeaves kept budget l r = (T : Theory) (f : Finished) → EngineSaved T f kept →
    (kind_in r ≡ 1 → Delivered T (run_from T f.state budget) l) × (kind_in r ≡ 0 → number_in r ≡ wrong_saved → ⊥)

unfoldable pub CodeResumes : List ℕ → ℕ → List ℕ → ℕ → Type 0
CodeResumes kept budget result r = CodeLeaves kept budget (record { result = take (value_in r) result; saved = [] }) r

unfoldable pub CodeResumesSaving : List ℕ → ℕ → List ℕ → List ℕ → ℕ → Type 0
CodeResumesSaving kept budget result saved r =
    CodeLeaves kept budget (record { result = take (value_in r) result; saved = take (number_in r) saved }) r
