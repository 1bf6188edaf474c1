-- Where the equations of an accepted problem lie: field behind field, each with the bytes of its two sides. Assumes nothing.
-- Read first: specs/Parser, proofs/Sides.
use mathlib.Core.Path.{◌≡◌, refl, ap, sym, ◌∙◌}
use mathlib.Core.List.{List, [], ◌∷◌}
use Prim.Native.Nat.{ℕ, zero, suc, ◌+◌, ◌-◌, ◌≤◌}
use native.Mathlib.Omega.{arith}
use lib.ListN.{length, take, drop, length-drop}
use Rattle.problem.specs.Problem.{ok, ReadField, due, Equation, equation_field, equation_fields, Problem}
use Rattle.problem.specs.Parser.{field_at, symbols_of, Table, ParsedAt}
use Rattle.reading.proofs.Reading.{from_bind, no_ok, ok_injective}
use Rattle.reading.proofs.Fields.{due_at}
use Rattle.problem.proofs.Sides.{Both, both_sides, first_of}

module _ (tab : List ℕ) (T : Table tab) (l : List ℕ) where
  -- The equations from `at` on: each field starts where the one before it ends.
  unfoldable pub Laid : ℕ → List Equation → Type 0
  Laid at [] = length l ≤ at
  Laid at (q ∷ qs) = (e : ℕ) × (due 0x03 at (drop at l) ≡ ok (field_at 0x03 l at e)) × (at + 3 ≤ e) × (e ≤ length l) × Both tab T l at e q × Laid e qs

  ends_there : (more at : ℕ) (m : List ℕ) → equation_fields (symbols_of tab) more at m ≡ ok [] → length m ≡ 0
  unfolding equation_fields
  ends_there more at [] h = refl
  ends_there zero at (b ∷ m) h = from_bind _ _ [] h λ _ _ k. absurd (no_ok k)
  ends_there (suc more) at (b ∷ m) h =
      from_bind _ _ [] h λ f e₁ k.
      from_bind _ _ [] k λ q e₂ k'.
      from_bind _ _ [] k' λ qs e₃ e₄.
      absurd (let e : q ∷ qs ≡ [] = ok_injective e₄ in let z : ◌≡◌ {A = ℕ} 0 1 = cc in omega arith)

  none_more : (at : ℕ) (m : List ℕ) (q : Equation) (qs : List Equation) → equation_fields (symbols_of tab) zero at m ≡ ok (q ∷ qs) → ⊥
  unfolding equation_fields
  none_more at [] q qs h = let e : [] ≡ q ∷ qs = ok_injective h in let z : ◌≡◌ {A = ℕ} 0 1 = cc in omega arith
  none_more at (b ∷ m) q qs h = from_bind _ _ (q ∷ qs) h λ _ _ k. no_ok k

  pub laid : (more at : ℕ) (qs : List Equation) → equation_fields (symbols_of tab) more at (drop at l) ≡ ok qs → Laid at qs
  unfolding Laid field_at
  laid more at [] h = let z = ends_there more at (drop at l) h in omega (arith, length-drop at l)
  laid zero at (q ∷ qs) h = absurd (none_more at (drop at l) q qs h)
  laid (suc more) at (q ∷ qs) h =
      let F = first_of (symbols_of tab) more at (drop at l) q qs h in
      let D = due_at 0x03 l at F.field F.due_is in
      let r : equation_fields (symbols_of tab) more D.end (drop D.end l) ≡ ok qs =
      ap (λ (f : ReadField). equation_fields (symbols_of tab) more f.end f.rest) (sym D.is) ∙ F.rest_is in
      let e : equation_field (symbols_of tab) (field_at 0x03 l at D.end) ≡ ok q = ap (equation_field (symbols_of tab)) (sym D.is) ∙ F.read_is in
      (D.end, F.due_is ∙ ap ok D.is, D.low, D.within, both_sides tab T l at D.end D.low D.within q e, laid more D.end qs r)

-- The equations of an accepted problem, from the end of its budget field on.
pub parsed_laid : (l : List ℕ) (e b at n : ℕ) (P : Problem) → (A : ParsedAt l e b at n P) →
    Laid (take (e - 3) (drop 3 l)) A.table.table l at P.equations
parsed_laid l e b at n P A = laid (take (e - 3) (drop 3 l)) A.table.table l 16 at P.equations A.equations_are
