-- The equations of an accepted problem fill their fields, and so do those of a saved record that was read. Assumes nothing.
-- Read first: specs/Saves (FillFields), problem/proofs/Laid, reading/proofs/Standing (PairStands), items/proofs/Each (ReadEach).
use mathlib.Core.Path.{◌≡◌, ap, ap₂, ◌∙◌}
use mathlib.Core.List.{List, [], ◌∷◌, ◌++◌}
use Prim.Native.Nat.{ℕ, ◌+◌, ◌-◌, ◌≤◌}
use native.Mathlib.Omega.{arith}
use lib.ListN.{length, take, drop, length-take, length-drop, length-append}
use lib.Seq.{take_at, take-add, drop-drop}
use Rattle.limits.specs.Limits.{most_equations, forms_width}
use Rattle.terms.specs.Base.{Every, of_none, of_cons}
use Rattle.terms.specs.Term.{Pair, size, term_bytes}
use Rattle.terms.proofs.Lists.{take_drop}
use Rattle.terms.proofs.Bytes.{length_bytes}
use Rattle.reading.specs.Answers.{field_at, symbols_of, Table, between}
use Rattle.reading.proofs.Standing.{PairStands, pair_stands}
use Rattle.problem.specs.Problem.{Equation, sides_all, Problem, theory}
use Rattle.problem.specs.Parser.{ParsedAt}
use Rattle.problem.proofs.Sides.{Both}
use Rattle.problem.proofs.Laid.{Laid, parsed_laid}
use Rattle.completion.specs.Calls.{pair_bytes}
use Rattle.completion.proofs.Held.{HeldPair}
use Rattle.completion.proofs.Accepts.{accepts}
use Rattle.items.specs.Readers.{part, There}
use Rattle.items.proofs.Each.{ReadAt, ReadEach, there_each}
use Rattle.checkpoint.specs.Checkpoint.{read_equation}
use Rattle.saving.specs.Saves.{FillFields}

-- A problem's: the fields lie one behind the other, each with the bytes of its two sides.
module _ (tab : List ℕ) (T : Table tab) (l : List ℕ) where
  both_fill : (at e : ℕ) (q : Equation) → Both tab T l at e q → part l (at + 3) e ≡ pair_bytes q.sides
  unfolding pair_bytes
  both_fill at e q b =
      let x : ℕ = size q.sides.left in
      let y : ℕ = size q.sides.right in
      let n : e - (at + 3) ≡ x + y = omega (arith, b.end_is) in
      let left : take x (drop (at + 3) l) ≡ term_bytes q.sides.left =
      ap (take x) b.left.bytes ∙ take_at (term_bytes q.sides.left) b.left.rest x (length_bytes q.sides.left) in
      let right : take y (drop (at + 3 + x) l) ≡ term_bytes q.sides.right =
      ap (take y) b.right.bytes ∙ take_at (term_bytes q.sides.right) b.right.rest y (length_bytes q.sides.right) in
      ap (λ (z : ℕ). take z (drop (at + 3) l)) n ∙ take-add x y (drop (at + 3) l) ∙ ap₂ ◌++◌ left (ap (take y) (drop-drop x (at + 3) l) ∙ right)

  laid_fill : (n at : ℕ) (qs : List Equation) → Laid tab T l at qs → Every (HeldPair n 16) (sides_all qs) → FillFields l at (sides_all qs)
  unfolding Laid FillFields
  laid_fill n at [] h of_none = tt
  laid_fill n at (q ∷ qs) h (of_cons k ks) =
      let small : h.0 ≤ at + forms_width = omega (arith, h.4.end_is, k.left.small, k.right.small) in
      (h.0, h.1, small, both_fill at h.0 q h.4, laid_fill n h.0 qs h.5 ks)

pub problem_filled : (l : List ℕ) (e b at n : ℕ) (P : Problem) → ParsedAt l e b at n P → FillFields l at (theory P).equations
problem_filled l e b at n P A =
    laid_fill (take (e - 3) (drop 3 l)) A.table.table l (length P.symbols) at P.equations (parsed_laid l e b at n P A)
    (accepts l P A.is).equations_fit

-- A saved record's: each field that was read holds a pair and nothing behind it.
module _ (tab : List ℕ) (T : Table tab) (l : List ℕ) where
  pair_filled : (at e : ℕ) (p : Pair) → at + 3 ≤ e → e ≤ length l → PairStands tab T (between l (at + 3) e) p →
      (e ≤ at + forms_width) × (part l (at + 3) e ≡ pair_bytes p)
  unfolding pair_bytes
  pair_filled at e p low within s =
      let whole : at + 3 + (e - (at + 3)) ≡ e = omega arith in (
        omega (
          arith,
          s.left_small,
          s.right_small,
          ap length s.filled,
          length-append (term_bytes p.left) (term_bytes p.right),
          length_bytes p.left,
          length_bytes p.right,
          length-drop (at + 3) (take e l),
          length-take e l,
        ),
        take_drop (at + 3) (e - (at + 3)) l ∙ ap (λ (z : ℕ). drop (at + 3) (take z l)) whole ∙ s.filled,
      )

  field_filled : (at e : ℕ) (p : Pair) → ReadAt 0x03 (read_equation (symbols_of tab)) l at e p →
      (e ≤ at + forms_width) × (part l (at + 3) e ≡ pair_bytes p)
  unfolding read_equation field_at
  field_filled at e p h = pair_filled at e p h.low h.within (pair_stands tab T (at + 3) (between l (at + 3) e) p h.is)

  each_filled : (at : ℕ) (es : List Pair) → ReadEach 0x03 (read_equation (symbols_of tab)) l at es → FillFields l at es
  unfolding ReadEach FillFields
  each_filled at [] h = tt
  each_filled at (p ∷ es) h =
      let f = field_filled at h.0 p h.1 in
      (h.0, h.1.field, f.0, f.1, each_filled h.0 es h.2)

  pub record_filled : (at e : ℕ) (es : List Pair) → There 0x03 (λ _ f. read_equation (symbols_of tab) f) most_equations l at e es → FillFields l at es
  record_filled at e es h = each_filled at es (there_each 0x03 (read_equation (symbols_of tab)) l most_equations at e es h)
