-- A law for each return of `case_at`, and that the parts of a case stand in their order. Assumes nothing.
-- Read first: specs/Cases.
use mathlib.Core.Path.{◌≡◌, refl, sym, ap₂, ◌∙◌}
use mathlib.Core.Bool.{Bool, true, false}
use mathlib.Core.List.{List}
use Prim.Native.Nat.{ℕ, ◌+◌, ◌≤◌, ◌<◌}
use native.Mathlib.Omega.{arith}
use lib.Dec.{ltb}
use lib.ListN.{length, get_or}
use borrow.Author.Tests.{lt-ltb, le-ltb, ltb-false}
use Rattle.std.specs.Prelude.{if◌then◌else◌}
use Rattle.terms.proofs.Shape.{zero≢one}
use Rattle.std.specs.Prelude.{None, Some}
use Rattle.stored_cases.specs.declared.Case.{Case}
use Rattle.stored_cases.specs.Cases.{problem_at, end_at, case_of, case_at}

module _ (l : List ℕ) (at : ℕ) where
  pub no_head : length l < at + 4 → None ≡ case_at l at
  unfolding case_at
  no_head h = rw (lt-ltb (length l) (at + 4) h) refl

  module _ (head : at + 4 ≤ length l) where
    pub cut_behind : length l < end_at l at → None ≡ case_at l at
    unfolding case_at
    cut_behind h = rw (le-ltb (length l) (at + 4) head, lt-ltb (length l) (end_at l at) h) refl

    pub whole : (problem end : ℕ) → problem ≡ problem_at l at → end ≡ end_at l at → end ≤ length l →
        Some (case_of (get_or l at 0) (at + 4) problem end) ≡ case_at l at
    unfolding case_at
    whole problem end p e h =
        ap₂ (λ (z w : ℕ). Some (case_of (get_or l at 0) (at + 4) z w)) p e
        ∙ sym (rw (le-ltb (length l) (at + 4) head, le-ltb (length l) (end_at l at) (omega arith)) refl)

-- from the place on: name, problem, the case's end, all within the text
pub record InOrder (l : List ℕ) (at : ℕ) (c : Case) : Type 0 where
  pub name_after : at < c.name
  pub problem_after : c.name ≤ c.problem
  pub end_after : c.problem ≤ c.end
  pub within : c.end ≤ length l

pub in_order : (l : List ℕ) (at : ℕ) (c : Case) → case_at l at ≡ Some c → InOrder l at c
unfolding case_at
in_order l at c h = go (ltb (length l) (at + 4)) (ltb (length l) (end_at l at)) refl h
  where
    go : (a b : Bool) → ltb (length l) (end_at l at) ≡ b →
        (if a then None else if b then None else Some (case_of (get_or l at 0) (at + 4) (problem_at l at) (end_at l at))) ≡ Some c →
        InOrder l at c
    go true b e h = absurd (zero≢one (cc))
    go false true e h = absurd (zero≢one (cc))
    go false false e h =
        let n : at + 4 ≡ c.name = cc in
        let p : problem_at l at ≡ c.problem = cc in
        let q : end_at l at ≡ c.end = cc in
        let w = ltb-false (length l) (end_at l at) e in
        record { name_after = omega arith; problem_after = omega arith; end_after = omega arith; within = omega arith }
