-- Five on a small case: the count over i(x)*(x*y), and what completes the bytes read. Assumes nothing.
-- Read first: specs/Owed, proofs/Owing.
use mathlib.Core.Path.{refl}
use mathlib.Core.Logic.{inl}
use mathlib.Core.List.{List, [], ◌∷◌}
use Prim.Native.Nat.{ℕ}
use native.Mathlib.Omega.{arith}
use Rattle.terms.specs.Base.{of_none, of_cons}
use Rattle.terms.specs.Term.{var, nil, cons, count}
use Rattle.terms.specs.Scan.{owes}
use Rattle.terms.specs.Flat.{Wfs}
use Rattle.terms.specs.Owed.{Completes, Owed, Counted}
use Rattle.terms.proofs.Owing.{counted_start, counted_turn}

-- e, i and *: their arities, and ranks
abbrev group : List ℕ
group = 0 ∷ 0 ∷ 1 ∷ 1 ∷ 2 ∷ 2 ∷ []

abbrev bytes : List ℕ
bytes = 2 ∷ 1 ∷ 0x80 ∷ 2 ∷ 0x80 ∷ 0x81 ∷ []

pub counts :
    Counted group bytes 0 1
    × Counted group bytes 1 2
    × Counted group bytes 2 2
    × Counted group bytes 3 1
    × Counted group bytes 4 2
    × Counted group bytes 5 1
    × Counted group bytes 6 0
unfolding owes
counts =
    let c₀ = counted_start group bytes in
    let c₁ : Counted group bytes 1 2 = counted_turn group bytes 0 1 2 (omega arith) (λ z. omega arith) refl c₀ in
    let c₂ : Counted group bytes 2 2 = counted_turn group bytes 1 2 1 (omega arith) (λ z. omega arith) refl c₁ in
    let c₃ : Counted group bytes 3 1 = counted_turn group bytes 2 2 0 (omega arith) (λ z. omega arith) refl c₂ in
    let c₄ : Counted group bytes 4 2 = counted_turn group bytes 3 1 2 (omega arith) (λ z. omega arith) refl c₃ in
    let c₅ : Counted group bytes 5 1 = counted_turn group bytes 4 2 0 (omega arith) (λ z. omega arith) refl c₄ in
    let c₆ : Counted group bytes 6 0 = counted_turn group bytes 5 1 0 (omega arith) (λ z. omega arith) refl c₅ in
    (c₀, c₁, c₂, c₃, c₄, c₅, c₆)

-- after the two first bytes
abbrev front : List ℕ
front = 2 ∷ 1 ∷ []

two_owed : Owed 16 group front 2
two_owed = counts.2.exactly 16 (omega arith) (of_cons (inl (omega arith)) (of_cons (inl (omega arith)) of_none))

pub completes :
    Completes 16 group front (cons (var 0) (cons (var 1) nil))
    × (Completes 16 group front (cons (var 0) nil) → ⊥)
unfolding Wfs count
completes = (
  (two_owed (cons (var 0) (cons (var 1) nil)) (omega arith, (omega arith, tt))).1 refl,
  λ c. omega (arith, (two_owed (cons (var 0) nil) (omega arith, tt)).0 c),
)
