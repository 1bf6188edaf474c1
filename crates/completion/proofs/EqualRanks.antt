-- Document 02, "Let two symbols hold one rank": worked instances, each line by computation. Assumes nothing.
-- Read first: proofs/Instances. The order's laws are over any ranks (order/proofs), and so is the delivery theorem (proofs/Delivered).
use mathlib.Core.Path.{◌≡◌, refl}
use mathlib.Core.List.{List, [], ◌∷◌, ◌++◌, flat_map}
use Prim.Native.Nat.{ℕ}
use Rattle.terms.specs.Base.{number_bytes}
use Rattle.terms.specs.Term.{Term, node, nil, cons}
use Rattle.problem.specs.Problem.{ok}
use Rattle.completion.specs.Calls.{complete_call, compare_call}
use Rattle.completion.specs.Promise.{Delivers}
use Rattle.completion.proofs.Instances.{x, y, ◌≈◌, field, problem}
use Rattle.completion.proofs.Computes.{computes}
use Rattle.completion.proofs.Promised.{promised}

-- 0: symbol 0, arity 0, rank 0; s: 1, arity 1, rank 1; p: 2, arity 1, rank 1; +: 3, arity 2, rank 2; -: 4, arity 2, rank 2.
abbrev unranked : List ℕ
unranked = 0 ∷ 0 ∷ 1 ∷ 1 ∷ 1 ∷ 1 ∷ 2 ∷ 2 ∷ 2 ∷ 2 ∷ []

abbrev o : Term
o = node 0 nil

abbrev s : Term → Term
s t = node 1 (cons t nil)

abbrev p : Term → Term
p t = node 2 (cons t nil)

infixl 40 ◌plus◌ ◌minus◌
abbrev ◌plus◌ : Term → Term → Term
t plus u = node 3 (cons t (cons u nil))

abbrev ◌minus◌ : Term → Term → Term
t minus u = node 4 (cons t (cons u nil))

abbrev both : Term → Term → List ℕ
both t u = problem unranked 9 ((t ≈ u) ∷ [])

-- "For two different symbols of equal rank, clause 2 of the path order now holds for neither." [5.5]
pub compared :
    (compare_call (both (s x) (p x)) ≡ ok 4)
    × (compare_call (both (p x) (s x)) ≡ ok 4)
    -- clause 3 asks for one symbol
    × (compare_call (both (s (s x)) (p x)) ≡ ok 4)
    × (compare_call (both (s x plus y) (x minus y)) ≡ ok 4)
    -- clause 1 may hold, and the other clauses over other symbols
    × (compare_call (both (s (p x)) (p x)) ≡ ok 1)
    × (compare_call (both (x minus y) (s (p x))) ≡ ok 1)
    × (compare_call (both (x minus s y) (x minus y)) ≡ ok 1)
unfolding computes
compared = (refl, refl, refl, refl, refl, refl, refl)

-- "Our buyers' tables don't rank + against -." Nor s against p: end 0, units 55, eight rules.
abbrev sums : List ℕ
sums = problem unranked 99
    ((x plus o ≈ x) ∷ (x plus s y ≈ s (x plus y)) ∷ (x minus o ≈ x) ∷ (x minus s y ≈ p (x minus y)) ∷ (p (s x) ≈ x) ∷ (s (p x) ≈ x) ∷ [])

abbrev sums_end : List ℕ
sums_end = number_bytes 11 0x10_0001_00_11_0004_00000037

-- x+0 to x, x+s(y) to s(x+y), x-0 to x, x-s(y) to p(x-y), p(s(x)) to x, s(p(x)) to x, x+p(y) to p(x+y), x-p(y) to s(x-y)
abbrev sums_rules : List ℕ
sums_rules =
    number_bytes 9 0x12_0006_0001_03800080
    ++ number_bytes 13 0x12_000a_0002_0380018101038081
    ++ number_bytes 9 0x12_0006_0003_04800080
    ++ number_bytes 13 0x12_000a_0004_0480018102048081
    ++ number_bytes 9 0x12_0006_0005_02018080
    ++ number_bytes 9 0x12_0006_0006_01028080
    ++ number_bytes 13 0x12_000a_000b_0380028102038081
    ++ number_bytes 13 0x12_000a_000c_0480028101048081

abbrev entry : ℕ → List ℕ
entry n = field 0x13 (number_bytes 8 n)

abbrev sums_log : List ℕ
sums_log =
    flat_map entry (
    0x01_0001_0000_00_0001 ∷ 0x01_0002_0000_00_0002 ∷ 0x01_0003_0000_00_0003 ∷ 0x01_0004_0000_00_0004 ∷ 0x01_0005_0000_00_0005 ∷ 0x01_0006_0000_00_0006
    ∷ 0x04_0006_0002_02_0007 ∷ 0x04_0006_0004_02_0008 ∷ 0x04_0007_0002_02_0009 ∷ 0x04_0007_0004_02_000a ∷ 0x04_0007_0005_01_000b
    ∷ 0x02_0007_0000_00_0000 ∷ 0x02_0009_0000_00_0000 ∷ 0x02_000a_0000_00_0000 ∷ 0x04_0008_0006_01_000c ∷ 0x02_0008_0000_00_0000 ∷ [])

pub sums_complete : complete_call sums 16_384 ≡ ok (sums_end ++ sums_rules ++ sums_log)
unfolding computes
sums_complete = refl

-- "The delivery theorem covers such tables too."
pub sums_delivered : Delivers sums (sums_end ++ sums_rules ++ sums_log)
sums_delivered = promised sums 16_384 (sums_end ++ sums_rules ++ sums_log) sums_complete

-- x-y = x+n(y), budget 9, with n of rank 0 and + of rank 1: - of rank 1 too, end 20; - of rank 2, end 0.
abbrev difference : ℕ → List ℕ
difference rank = problem (1 ∷ 0 ∷ 2 ∷ 1 ∷ 2 ∷ rank ∷ []) 9 (
    (node 2 (cons x (cons y nil)) ≈ node 1 (cons x (cons (node 0 (cons y nil)) nil))) ∷ [])

pub differences :
    (complete_call (difference 1) 16_384
    ≡ ok (number_bytes 32 0x10_0001_14_11_0004_00000002_13_0008_010001000000ffff_14_0007_02808101800081))
    × (complete_call (difference 2) 16_384
    ≡ ok (number_bytes 34 0x10_0001_00_11_0004_00000003_12_0009_0001_02808101800081_13_0008_0100010000000001))
unfolding computes
differences = (refl, refl)
