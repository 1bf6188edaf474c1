-- What a problem's readers come to: refusals 2 to 12, not 7, at places of at most 8,192, and where the fields that were read begin. Assumes nothing.
-- Read first: reading/proofs/Refusals (Within), specs/Problem.
use mathlib.Core.Path.{refl}
use mathlib.Core.List.{List, [], ◌∷◌}
use Prim.Native.Nat.{ℕ, zero, suc, ◌+◌, ◌≤◌}
use native.Mathlib.Omega.{arith}
use lib.Dec.{ltb}
use lib.ListN.{length}
use borrow.Author.Tests.{ltb-false}
use Rattle.limits.specs.Limits.{most_problem, most_equations}
use Rattle.terms.specs.Base.{Every, of_none, of_cons}
use Rattle.terms.proofs.Every.{every_head, every_tail}
use Rattle.reading.specs.Stops.{long_problem, wrong_symbol_field, wrong_budget, many_equations, large_side, not_one_equation}
use Rattle.reading.proofs.Refusals.{Within, reads, refuses, within_bind, within_test, symbols_within, pair_within}
use Rattle.reading.proofs.Refusals.{due_within}
use Rattle.problem.specs.Problem.{ReadField, Symbol, symbol_field, budget_field, Equation, equation_field, equation_fields, Problem, parse}
use Rattle.problem.specs.Problem.{only_equation}

pub symbol_field_within : {e : ℕ} (f : ReadField) → f.first + 3 + length f.contents ≤ e → Within large_side e (λ _. Unit {0}) (symbol_field f)
unfolding symbol_field
symbol_field_within f h =
    within_bind _ _ (within_test _ wrong_symbol_field f.first refl (omega arith)) λ _ _. symbols_within (f.first + 3) f.contents h

pub budget_within : {e : ℕ} (f : ReadField) → f.first ≤ e → Within large_side e (λ _. Unit {0}) (budget_field f)
unfolding budget_field
budget_within f h =
    within_bind _ _ (within_test _ wrong_budget f.first refl h) λ _ _.
    within_bind _ _ (within_test _ wrong_budget f.first refl h) λ _ _. reads tt

module _ (Σ : List Symbol) (e : ℕ) where
  -- an equation whose field begins by e
  abbrev pub Begins : Equation → Type 0
  Begins q = q.first ≤ e

  pub equation_within : (f : ReadField) → f.first + 3 + length f.contents ≤ e → Within large_side e Begins (equation_field Σ f)
  unfolding equation_field
  equation_within f k =
      let low : f.first ≤ e = omega arith in
      within_bind _ _ (pair_within Σ e (f.first + 3) f.contents k) λ _ _. reads low

  pub equations_within : (more at : ℕ) (bytes : List ℕ) → at + length bytes ≤ e → Within large_side e (Every Begins) (equation_fields Σ more at bytes)
  unfolding equation_fields
  equations_within zero at [] k = reads of_none
  equations_within zero at (b ∷ bytes) k =
      within_bind _ _ (due_within 0x03 at (b ∷ bytes) (omega arith)) λ _ _. refuses many_equations at refl (omega arith)
  equations_within (suc more) at [] k = reads of_none
  equations_within (suc more) at (b ∷ bytes) k =
      within_bind _ _ (due_within 0x03 at (b ∷ bytes) (omega arith)) λ f d.
      within_bind _ _ (equation_within f (omega (arith, d.first, d.contents, d.rest))) λ _ q.
      within_bind _ _ (equations_within more f.end f.rest (omega (arith, d.rest))) λ _ qs. reads (of_cons q qs)

-- a problem that was read
pub record ProblemWithin (bytes : List ℕ) (P : Problem) : Type 0 where
  pub short : length bytes ≤ most_problem
  pub firsts : Every (λ (q : Equation). q.first ≤ most_problem) P.equations

pub parse_within : (bytes : List ℕ) → Within large_side most_problem (ProblemWithin bytes) (parse bytes)
unfolding parse
parse_within bytes =
    within_bind _ _ (within_test (ltb most_problem (length bytes)) long_problem most_problem refl (omega arith)) λ u p.
    let few : length bytes ≤ most_problem = ltb-false most_problem (length bytes) p in
    within_bind _ _ (due_within 0x01 0 bytes (omega arith)) λ s a.
    within_bind _ _ (symbol_field_within s (omega (arith, a.first, a.contents, a.rest))) λ Σ _.
    within_bind _ _ (due_within 0x02 s.end s.rest (omega (arith, a.rest))) λ b c.
    within_bind _ _ (budget_within b (omega (arith, a.rest, c.first))) λ _ _.
    within_bind _ _ (equations_within Σ most_problem most_equations b.end b.rest (omega (arith, a.rest, c.rest))) λ es q.
    reads (record { short = few; firsts = q })

pub only_within : {e : ℕ} (end : ℕ) (es : List Equation) → end ≤ e → Every (λ (q : Equation). q.first ≤ e) es →
    Within not_one_equation e (λ (q : Equation). q.first ≤ e) (only_equation end es)
unfolding only_equation
only_within end [] h k = refuses not_one_equation end refl h
only_within end (d ∷ []) h k = reads (every_head k)
only_within end (d ∷ d' ∷ es) h k = refuses not_one_equation d'.first refl (every_head (every_tail k))
