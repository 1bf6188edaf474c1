-- Four on small cases: a table of the lower ones and one of refusals, each line by computation. Assumes nothing.
-- Read first: specs/Lower, completion/proofs/Instances (the group's symbols).
use mathlib.Core.Path.{◌≡◌, refl}
use mathlib.Core.List.{List, [], ◌∷◌, ◌++◌, flat_map}
use Prim.Native.Nat.{ℕ}
use Rattle.terms.specs.Base.{number_bytes, count_from}
use Rattle.terms.specs.Term.{Term, node, nil, term_bytes}
use Rattle.completion.proofs.Computes.{computes}
use Rattle.completion.proofs.Instances.{group, e, x, y, z, i, ◌*◌, field}
use Rattle.lower.specs.Lower.{whole, read_table, lower_of, which}
use Rattle.lower.specs.declared.Which.{Which}
use Rattle.lower.specs.declared.Which.TheVariants.{First, Second}
use Rattle.std.specs.Prelude.{Option as Chosen, Some, None}

-- two terms over a field's symbols, and over the group's
abbrev over : List ℕ → Term → Term → Chosen Which
over symbols s t = which symbols (term_bytes s) (term_bytes t)

abbrev lower : Term → Term → Chosen Which
lower s t = over (field 0x01 group) s t

-- two constants of one rank
abbrev one_rank : List ℕ
one_rank = field 0x01 (number_bytes 4 0x00_00_00_00)

abbrev a : Term
a = node 0 nil

abbrev b : Term
b = node 1 nil

-- i so many times over x
abbrev tower : ℕ → List ℕ
tower n = flat_map (λ _. number_bytes 1 0x01) (count_from 1 n) ++ number_bytes 1 0x80

pub lowers :
    -- one above the other, either way round
    (lower ((x * y) * z) (x * (y * z)) ≡ Some Second)
    × (lower (x * (y * z)) ((x * y) * z) ≡ Some First)
    × (lower (i (x * y)) (i y * i x) ≡ Some Second)
    × (lower x (i x) ≡ Some First)
    × (lower (i x) x ≡ Some Second)
    -- of 120 nodes
    × (which (field 0x01 group) (tower 119) (tower 118) ≡ Some Second)
    -- neither above: the first; so for equal terms
    × (lower (x * y) (y * x) ≡ Some First)
    × (lower (y * x) (x * y) ≡ Some First)
    × (lower x y ≡ Some First)
    × (lower y x ≡ Some First)
    × (lower x (i y) ≡ Some First)
    × (lower (i y) x ≡ Some First)
    × (over one_rank a b ≡ Some First)
    × (over one_rank b a ≡ Some First)
    × (lower (i x) (i x) ≡ Some First)
    × (lower e e ≡ Some First)
unfolding computes whole read_table lower_of which
lowers = (refl, refl, refl, refl, refl, refl, refl, refl, refl, refl, refl, refl, refl, refl, refl, refl)

-- refused are: the field, over two terms that are fine
abbrev under : List ℕ → Chosen Which
under symbols = over symbols x x

-- a term, as the first and as the second
abbrev first : List ℕ → Chosen Which
first bytes = which (field 0x01 group) bytes (term_bytes x)

abbrev second : List ℕ → Chosen Which
second bytes = which (field 0x01 group) (term_bytes x) bytes

abbrev both_ways : List ℕ → Type 0
both_ways bytes = (first bytes ≡ None) × (second bytes ≡ None)

pub refusals :
    -- 3: the field's header, its contents
    (under (number_bytes 2 0x01_00) ≡ None)
    × (under (number_bytes 8 0x01_0006_0000010202) ≡ None)
    -- 4: no field, another tag
    × (under [] ≡ None)
    × (under (field 0x02 group) ≡ None)
    -- 5: length 0, odd, over 32
    × (under (field 0x01 []) ≡ None)
    × (under (field 0x01 (0 ∷ [])) ≡ None)
    × (under (field 0x01 (number_bytes 34 0)) ≡ None)
    -- 6: an arity of 5, a rank of 16
    × (under (field 0x01 (5 ∷ 0 ∷ [])) ≡ None)
    × (under (field 0x01 (0 ∷ 16 ∷ [])) ≡ None)
    -- a byte behind the field
    × (under (field 0x01 group ++ 0 ∷ []) ≡ None)
    -- 10: no byte, no symbol and no variable, an argument missing
    × both_ways []
    × both_ways (0x03 ∷ [])
    × both_ways (0x90 ∷ [])
    × both_ways (0x02 ∷ 0x80 ∷ [])
    -- 11: 121 nodes
    × both_ways (tower 120)
    -- a byte behind a term
    × both_ways (0x80 ∷ 0x80 ∷ [])
unfolding computes whole read_table lower_of which
refusals =
    (refl, refl, refl, refl, refl, refl, refl, refl, refl, refl, (refl, refl), (refl, refl), (refl, refl), (refl, refl), (refl, refl), (refl, refl))
