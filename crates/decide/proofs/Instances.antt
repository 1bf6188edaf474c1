-- The question of Three and Eight on small problems and records: a table of decide's answers, one of where the two strategies part, and one of refusals,
-- each line by computation. Assumes nothing.
-- Read first: specs/Decide, record/proofs/Computes, completion/proofs/Instances (the group's symbols, and the bytes of problems).
use mathlib.Core.Path.{◌≡◌, refl}
use mathlib.Core.List.{List, [], ◌∷◌, ◌++◌, flat_map}
use Prim.Native.Nat.{ℕ}
use Rattle.terms.specs.Base.{number_bytes, count_from}
use Rattle.terms.specs.Term.{Term}
use Rattle.problem.specs.Problem.{Reading, ok, refused}
use Rattle.rewriting.specs.Outermost.{step_outer}
use Rattle.completion.specs.Calls.{complete_call}
use Rattle.completion.proofs.Instances.{group, e, x, y, i, ◌*◌, ◌≈◌, field, problem}
use Rattle.record.proofs.Computes.{record_computes}
use Rattle.decide.specs.Decide.{all_above, read_question, are_same, are_different, numbered, answer, units_paid, Counted, counted, ask, question_call}
use Rattle.decide.specs.Decide.{decide_call, outermost_call}

-- the parts of what complete writes for i(i(x)) = x
abbrev end_0 : List ℕ
end_0 = number_bytes 4 0x10_0001_00

abbrev units_3 : List ℕ
units_3 = number_bytes 7 0x11_0004_00000003

abbrev start : List ℕ
start = end_0 ++ units_3

abbrev twice : List ℕ
twice = number_bytes 9 0x12_0006_000101018080

abbrev entry : List ℕ
entry = number_bytes 11 0x13_0008_0100010000000001

abbrev kept : List ℕ
kept = start ++ twice ++ entry

-- the question whether two terms are the same, within a budget: from the inside out, and from the outside in
abbrev inner : ℕ → Term → Term → List ℕ → Reading Counted
inner budget s t bytes = decide_call (problem group budget ((s ≈ t) ∷ [])) bytes

abbrev outer : ℕ → Term → Term → List ℕ → Reading Counted
outer budget s t bytes = outermost_call (problem group budget ((s ≈ t) ∷ [])) bytes

-- an answer and its units
abbrev same : ℕ → Reading Counted
same n = ok (record { answer = are_same; units = n })

abbrev different : ℕ → Reading Counted
different n = ok (record { answer = are_different; units = n })

abbrev ends : ℕ → ℕ → Reading Counted
ends number n = ok (record { answer = numbered number; units = n })

-- a question that no rule answers: only the record matters
abbrev read : List ℕ → Reading Counted
read bytes = inner 9 x x bytes

-- 16,385 bytes
abbrev doubled : List ℕ → List ℕ
doubled l = l ++ l

abbrev kilobyte : List ℕ
kilobyte = doubled (doubled (doubled (doubled (doubled (doubled (number_bytes 16 0))))))

abbrev too_long : List ℕ
too_long = 0 ∷ doubled (doubled (doubled (doubled kilobyte)))

-- i(i(x)) to x so many times, with the numbers 1, 2 ..; so many entries; a rule of i so many times over x to x
abbrev rules : ℕ → List ℕ
rules n = flat_map (λ k. field 0x12 (number_bytes 2 k ++ number_bytes 4 0x01018080)) (count_from 1 n)

abbrev entries : ℕ → List ℕ
entries n = flat_map (λ _. entry) (count_from 1 n)

abbrev tower : ℕ → List ℕ
tower n = field 0x12 (number_bytes 2 1 ++ flat_map (λ _. number_bytes 1 0x01) (count_from 1 n) ++ number_bytes 2 0x8080)

-- e*x to e, with the number 2
abbrev erases : List ℕ
erases = number_bytes 9 0x12_0006_000202008000

-- i(i(x)) to x, e*x to e, i(x)*x to e
abbrev falling : List ℕ
falling = start ++ twice ++ erases ++ number_bytes 10 0x12_0007_00030201808000

-- i(x) to x*x, e*x to e
abbrev growing : List ℕ
growing = start ++ number_bytes 10 0x12_0007_00010180028080 ++ erases

-- i(i(x)) to x, i(x) to x*x: no run leaves these
abbrev parting : List ℕ
parting = start ++ twice ++ number_bytes 10 0x12_0007_00020180028080

abbrev seven : Term
seven = i (i (i (i (i (i (i x))))))

pub answers :
    -- the record is the engine's
    (complete_call (problem group 9 ((i (i x) ≈ x) ∷ [])) 16_384 ≡ ok kept)
    -- i(i(i(x))) and i(x): one step, then the same
    × (inner 1 (i (i (i x))) (i x) kept ≡ same 1)
    × (inner 1 (i x) x kept ≡ different 0)
    -- a unit due and the budget spent, on the right side too
    × (inner 0 (i (i x)) x kept ≡ ends 21 0)
    × (inner 1 (i (i x)) (i (i x)) kept ≡ ends 21 1)
    × (inner 2 (i (i x)) (i (i x)) kept ≡ same 2)
    -- i seven times over x grows past 120 nodes with the sixth step
    × (inner 100 seven e growing ≡ ends 22 6)
    -- a side of 120 nodes; 32 rules; 512 entries
    × (read (start ++ tower 119) ≡ same 0)
    × (read (start ++ rules 32) ≡ same 0)
    × (read (start ++ entries 512) ≡ same 0)
unfolding record_computes all_above read_question answer units_paid counted ask question_call
answers = (refl, refl, refl, refl, refl, refl, refl, refl, refl, refl)

pub strategies :
    -- the step at the root erases the redex below, for which decide pays first: the same, different, and within a budget of 1
    ((inner 9 (e * i (i x)) e falling ≡ same 2) × (outer 9 (e * i (i x)) e falling ≡ same 1))
    × ((inner 9 (e * i (i x)) x falling ≡ different 2) × (outer 9 (e * i (i x)) x falling ≡ different 1))
    × ((inner 1 (e * i (i x)) e falling ≡ ends 21 1) × (outer 1 (e * i (i x)) e falling ≡ same 1))
    -- and below it decide grows past 120 nodes
    × ((inner 9 (e * seven) e growing ≡ ends 22 6) × (outer 9 (e * seven) e growing ≡ same 1))
    -- i(x)*i(i(x)) is an i(x)*x only behind the step below it; outermost then takes it before the redex i(i(y)) to its right, which e*i(i(y)) erases
    × ((inner 9 (i x * i (i x) * i (i y)) e falling ≡ same 4) × (outer 9 (i x * i (i x) * i (i y)) e falling ≡ same 3))
    -- the step at the root copies the redex below, and outermost pays for both; so it is past 120 nodes with the 55th step only
    × ((inner 9 (i (i x)) (x * x * (x * x)) growing ≡ same 2) × (outer 9 (i (i x)) (x * x * (x * x)) growing ≡ same 3))
    × (outer 100 seven e growing ≡ ends 22 55)
    -- a unit due on the right side
    × (outer 1 (i (i x)) (i (i x)) kept ≡ ends 21 1)
    -- by rules that no run leaves the two last terms may differ
    × ((inner 9 (i (i x)) x parting ≡ different 2) × (outer 9 (i (i x)) x parting ≡ same 1))
unfolding record_computes step_outer all_above read_question answer units_paid counted ask question_call
strategies =
    ((refl, refl), (refl, refl), (refl, refl), (refl, refl), (refl, refl), (refl, refl), refl, refl, (refl, refl))

pub refusals :
    -- 12 before 13
    (decide_call (problem group 9 []) [] ≡ refused 12 16)
    -- 13: a record over 16,384 bytes; it ends where a field is due
    × (read too_long ≡ refused 13 16_384)
    × (read [] ≡ refused 13 0)
    × (read end_0 ≡ refused 13 4)
    -- 13: ends that are not listed, 1 and 25; a cut field; units above 1,000,000
    × (read (number_bytes 4 0x10_0001_01 ++ units_3) ≡ refused 13 0)
    × (read (number_bytes 4 0x10_0001_19 ++ units_3) ≡ refused 13 0)
    × (read (end_0 ++ number_bytes 6 0x11_0004_000000) ≡ refused 13 4)
    × (read (end_0 ++ number_bytes 7 0x11_0004_000f4241) ≡ refused 13 4)
    -- 13: rule number 0, or 513; a number twice; a rule that is not renamed; a byte behind its right side; a side of 121 nodes
    × (read (start ++ number_bytes 9 0x12_0006_000001018080) ≡ refused 13 11)
    × (read (start ++ number_bytes 9 0x12_0006_020101018080) ≡ refused 13 11)
    × (read (start ++ twice ++ twice) ≡ refused 13 20)
    × (read (start ++ number_bytes 9 0x12_0006_000101018181) ≡ refused 13 11)
    × (read (start ++ number_bytes 10 0x12_0007_00010101808080) ≡ refused 13 11)
    × (read (start ++ tower 120) ≡ refused 13 11)
    -- 13: the 33rd rule; the 513th entry
    × (read (start ++ rules 33) ≡ refused 13 299)
    × (read (start ++ entries 513) ≡ refused 13 5643)
    -- 13: an entry of kind 5; a rule behind an entry; field 14 with end 0; end 20 without field 14
    × (read (start ++ number_bytes 11 0x13_0008_0500010000000001) ≡ refused 13 11)
    × (read (start ++ entry ++ twice) ≡ refused 13 22)
    × (read (kept ++ number_bytes 5 0x14_0002_8080) ≡ refused 13 31)
    × (read (number_bytes 4 0x10_0001_14 ++ units_3) ≡ refused 13 11)
    -- 14: end 20 with field 14; end 24; before 15
    × (read (number_bytes 20 0x10_0001_14_11_0004_00000001_14_0006_028081028180) ≡ refused 14 0)
    × (read (number_bytes 4 0x10_0001_18 ++ units_3) ≡ refused 14 0)
    × (read (number_bytes 4 0x10_0001_15 ++ units_3 ++ number_bytes 11 0x12_0008_0001_028081028180) ≡ refused 14 0)
    -- 15 at the second rule
    × (read (start ++ twice ++ number_bytes 11 0x12_0008_0002_028081028180) ≡ refused 15 20)
unfolding record_computes all_above read_question answer units_paid counted ask question_call
refusals =
    (refl, refl, refl, refl, refl, refl, refl, refl, refl, refl, refl, refl, refl, refl, refl, refl, refl, refl, refl, refl, refl, refl, refl, refl)
