-- Document 01, "Worked instances, all thirteen to be proved": one table, each line by computation. Assumes nothing.
-- Read first: specs/Calls, specs/Settle, proofs/Computes.
use mathlib.Core.Path.{◌≡◌, refl}
use mathlib.Core.List.{List, [], ◌∷◌, ◌++◌, flat_map}
use mathlib.Core.Option.{Option, none, some}
use Prim.Native.Nat.{ℕ}
use Rattle.terms.specs.Base.{number_bytes, field_bytes}
use Rattle.terms.specs.Term.{Term, var, node, nil, cons, Pair, renamed, term_bytes}
use Rattle.problem.specs.Problem.{ok}
use Rattle.rewriting.specs.Overlap.{Overlap, overlap}
use Rattle.completion.specs.Calls.{pair_bytes, complete_call, compare_call, unify_call, instance, no_instance}
use Rattle.completion.specs.Settle.{ascii, settle}
use Rattle.completion.proofs.Computes.{computes}

-- "e: symbol 0, arity 0, rank 0; i: 1, arity 1, rank 2; *: 2, arity 2, rank 1."
abbrev pub group : List ℕ
group = 0 ∷ 0 ∷ 1 ∷ 2 ∷ 2 ∷ 1 ∷ []

abbrev pub e : Term
e = node 0 nil

abbrev pub x : Term
x = var 0

abbrev pub y : Term
y = var 1

abbrev pub z : Term
z = var 2

abbrev pub i : Term → Term
i t = node 1 (cons t nil)

infixl 40 ◌*◌
abbrev pub ◌*◌ : Term → Term → Term
s * t = node 2 (cons s (cons t nil))

infix 5 ◌≈◌
abbrev pub ◌≈◌ : Term → Term → Pair
s ≈ t = record { left = s; right = t }

-- The bytes of a field, and of a problem.
abbrev pub field : ℕ → List ℕ → List ℕ
field tag contents = field_bytes (record { tag = tag; contents = contents })

abbrev pub problem : List ℕ → ℕ → List Pair → List ℕ
problem symbols budget es =
    field 0x01 symbols
    ++ field 0x02 (number_bytes 4 budget)
    ++ flat_map (λ p. field 0x03 (pair_bytes p)) es

abbrev pub two : Term → Term → List ℕ
two s t = problem group 0 ((s ≈ t) ∷ [])

abbrev sides : Option Overlap → Option Pair
sides none = none
sides (some o) = some (renamed o.sides)

abbrev settle_input : List ℕ
settle_input = number_bytes 21 0x01_0004_00000101_02_0004_00000064_03_0004_01018080

pub instances :
    -- 1. x*y and y*x: 4.
    (compare_call (two (x * y) (y * x)) ≡ ok 4)
    -- 2. i(x*y) above i(y)*i(x).
    × (compare_call (two (i (x * y)) (i y * i x)) ≡ ok 1)
    -- 3. (x*y)*z above x*(y*z).
    × (compare_call (two (x * y * z) (x * (y * z))) ≡ ok 1)
    -- 4. i(x) and y: 4.
    × (compare_call (two (i x) y) ≡ ok 4)
    -- 5. i(u)*u to e inside (x*y)*z to x*(y*z) at 1: left e*z, right i(u)*(u*z).
    × (sides (overlap (i x * x ≈ e) (x * y * z ≈ x * (y * z)) 1) ≡ some (e * x ≈ i y * (y * x)))
    -- 6. i(i(x)) to x on itself at 1: both i(x).
    × (sides (overlap (i (i x) ≈ x) (i (i x) ≈ x) 1) ≡ some (i x ≈ i x))
    -- 7. x and i(x) have no common instance.
    × (unify_call (two x (i x)) 16_384 ≡ ok no_instance)
    -- 8. With 0, s, +: x+(0+s(y)) and s(z)+(0+x) give s(z)+(0+s(z)).
    × (unify_call (two (x * (e * i y)) (i z * (e * x))) 16_384 ≡ ok (instance (field 0x15 (term_bytes (i x * (e * i x))))))
    -- 9. The settle input: 31 result bytes, as above.
    × (complete_call settle_input 16_384 ≡ ok (number_bytes 31 0x10_0001_00_11_0004_00000003_12_0006_000101018080_13_0008_0100010000000001))
    -- 10. The same, budget 2: end 21, units 2, rule 1.
    × (complete_call (number_bytes 21 0x01_0004_00000101_02_0004_00000002_03_0004_01018080) 16_384
    ≡ ok (number_bytes 31 0x10_0001_15_11_0004_00000002_12_0006_000101018080_13_0008_0100010000000001))
    -- 11. No equation, budget 9: end 0, units 1.
    × (complete_call (problem group 9 []) 16_384 ≡ ok (number_bytes 11 0x10_0001_00_11_0004_00000001))
    -- 12. x*y = y*x, budget 9: end 20, field 14 holds 02 80 81 02 81 80; document 02, Six: "two turns and two units", one entry with ffff.
    × (complete_call (problem group 9 ((x * y ≈ y * x) ∷ [])) 16_384
    ≡ ok (number_bytes 31 0x10_0001_14_11_0004_00000002_13_0008_010001000000ffff_14_0006_028081028180))
    -- 13. x = x, budget 9: end 0, units 2, one settled entry.
    × (complete_call (problem group 9 ((x ≈ x) ∷ [])) 16_384 ≡ ok (number_bytes 22 0x10_0001_00_11_0004_00000002_13_0008_0100010000000000))
unfolding computes
instances = (refl, refl, refl, refl, refl, refl, refl, refl, refl, refl, refl, refl, refl)

-- The settle input's lines, and "an empty problem (4 at 0)".
pub settle_prints :
    (settle settle_input ≡ ascii "10 1 00\n11 4 00000003\n12 6 000101018080\n13 8 0100010000000001\n")
    × (settle [] ≡ ascii "refused 4 at 0\n")
unfolding computes
settle_prints = (refl, refl)

-- "Traps": clause 3 without "above every argument" would pass f(g(x),y) over f(x,h(y)), with h ranked over f. Here f is *, g is i and h is a
-- symbol 3 of arity 1, ranks: e 0, i 1, * 2, h 3.
pub traps : compare_call (problem (0 ∷ 0 ∷ 1 ∷ 1 ∷ 2 ∷ 2 ∷ 1 ∷ 3 ∷ []) 0 ((i x * y ≈ x * node 3 (cons y nil)) ∷ [])) ≡ ok 4
unfolding computes
traps = refl
