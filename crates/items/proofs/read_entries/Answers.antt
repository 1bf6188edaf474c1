-- `read_entries`: the invariant is that the entries before i are read, each of this kind; the bytes to come fall. Assumes nothing.
-- Read first: specs/Readers (IsEntries), proofs/Walking (Walked).
use mathlib.Core.Path.{refl, ◌∙◌}
use mathlib.Core.List.{[], ◌∷◌, ◌++◌}
use mathlib.Core.Option.{none, some}
use lib.ListN.{length-append}
use native.Mathlib.Omega.{arith}
use Rattle.items.proofs.Passed.{err_passed}
use Rattle.items.proofs.Walking.{walk_start, walk_full, walk_none, walk_other, walk_bad, walk_more}
use Rattle.items.proofs.read_entries.Goals as goal

pub loop-i-init : goal.loop-i-init
loop-i-init c = ([], none, refl, walk_start _ _ _ _ _ c.requires)

pub returns-else-count-lt-ENTRIES : goal.returns-else-count-lt-ENTRIES
returns-else-count-lt-ENTRIES c =
    let s = c.loop-i.invariant in
    (s.0, walk_full _ _ _ _ _ _ _ _ s.3 (omega (arith, s.2, s.3.few, c.if-count-lt-ENTRIES.false)))

pub returns-else-kept-i-eq-ENTRY : goal.returns-else-kept-i-eq-ENTRY
returns-else-kept-i-eq-ENTRY c =
    let s = c.loop-i.invariant in
    (s.0, walk_other _ _ _ _ _ _ _ _ s.3 c.loop-i-test.true c.if-kept-i-eq-ENTRY.false)

pub returns-in_err-i : goal.returns-in_err-i
returns-in_err-i c =
    let s = c.loop-i.invariant in
    let t = c.if-count-lt-ENTRIES.true in
    rw (err_passed _ c.from_residual.ensures.1)
    (walk_bad _ _ _ _ _ _ _ _ s.3 c.loop-i-test.true (λ e. omega (arith, s.2, t)) c.if-kept-i-eq-ENTRY.true _ c.in_err-i.ensures)

pub overflow_add-count : goal.overflow_add-count
overflow_add-count c =
    let s = c.loop-i.invariant in
    omega (arith, s.2, s.3.few)

pub loop-i-smaller : goal.loop-i-smaller
loop-i-smaller c =
    let f = c.in_ok-i.ensures in
    omega (arith, f.1.low, f.1.within)

pub loop-i-preserved : goal.loop-i-preserved
loop-i-preserved c =
    let s = c.loop-i.invariant in
    let t = c.if-count-lt-ENTRIES.true in
    let f = c.in_ok-i.ensures in (
      s.0 ++ (f.0 ∷ []),
      some f.0,
      length-append s.0 (f.0 ∷ []) ∙ omega (arith, s.2),
      walk_more _ _ _ _ _ _ _ _ s.3 c.loop-i-test.true (λ e. omega (arith, s.2, t)) c.if-kept-i-eq-ENTRY.true _ _ f.1,
    )

pub returns-after-loop-i : goal.returns-after-loop-i
returns-after-loop-i c =
    let s = c.loop-i.invariant in
    (s.0, walk_none _ _ _ _ _ _ _ _ s.3 c.loop-i-test.false)
