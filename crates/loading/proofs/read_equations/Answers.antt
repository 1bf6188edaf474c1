-- `read_equations`: the invariant is that the equations before i are read; the bytes to come fall. Assumes nothing.
-- Read first: specs/Loads (IsEquations), items/proofs/Walking (Walked).
use mathlib.Core.Path.{refl, ◌∙◌}
use mathlib.Core.List.{[], ◌∷◌, ◌++◌}
use mathlib.Core.Option.{none, some}
use lib.ListN.{length-append}
use Prim.Native.Nat.{◌-◌}
use native.Mathlib.Omega.{arith}
use Rattle.items.proofs.Passed.{err_passed}
use Rattle.items.proofs.Walking.{walk_start, walk_full, walk_none, walk_other, walk_bad, walk_more}
use Rattle.loading.proofs.read_equations.Goals as goal

pub loop-i-init : goal.loop-i-init
loop-i-init c = ([], none, refl, walk_start _ _ _ _ _ c.requires.at_in_bounds.0)

pub returns-else-count-lt-EQUATIONS : goal.returns-else-count-lt-EQUATIONS
returns-else-count-lt-EQUATIONS c =
    let s = c.loop-i.invariant in
    (s.0, walk_full _ _ _ _ _ _ _ _ s.3 (omega (arith, s.2, s.3.few, c.if-count-lt-EQUATIONS.false)), s.2)

pub returns-else-saved-i-eq-EQUATION_TAG : goal.returns-else-saved-i-eq-EQUATION_TAG
returns-else-saved-i-eq-EQUATION_TAG c =
    let s = c.loop-i.invariant in
    (s.0, walk_other _ _ _ _ _ _ _ _ s.3 c.loop-i-test.true c.if-saved-i-eq-EQUATION_TAG.false, s.2)

pub equation_field-requires : goal.equation_field-requires
equation_field-requires c =
    record {
      table = c.requires.table;
      saved_len_bound = c.requires.at_in_bounds.1;
    }

pub returns-in_err-i : goal.returns-in_err-i
returns-in_err-i c =
    let s = c.loop-i.invariant in
    let t = c.if-count-lt-EQUATIONS.true in
    rw (err_passed _ c.from_residual.ensures.1)
    (walk_bad _ _ _ _ _ _ _ _ s.3 c.loop-i-test.true (λ e. omega (arith, s.2, t)) c.if-saved-i-eq-EQUATION_TAG.true _ c.in_err-i.ensures)

pub loop-i-smaller : goal.loop-i-smaller
loop-i-smaller c =
    let f = c.in_ok-i.ensures in
    omega (arith, f.1.low, f.1.within)

pub loop-i-preserved : goal.loop-i-preserved
loop-i-preserved c =
    let s = c.loop-i.invariant in
    let t = c.if-count-lt-EQUATIONS.true in
    let f = c.in_ok-i.ensures in (
      s.0 ++ (f.0 ∷ []),
      some f.0,
      length-append s.0 (f.0 ∷ []) ∙ omega (arith, s.2),
      walk_more _ _ _ _ _ _ _ _ s.3 c.loop-i-test.true (λ e. omega (arith, s.2, t)) c.if-saved-i-eq-EQUATION_TAG.true _ _ f.1,
    )

pub returns-after-loop-i : goal.returns-after-loop-i
returns-after-loop-i c =
    let s = c.loop-i.invariant in
    (s.0, walk_none _ _ _ _ _ _ _ _ s.3 c.loop-i-test.false, s.2)
