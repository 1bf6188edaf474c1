-- `read_log`: the invariant is that the entries before i are read and stand in the log; the bytes to come fall. Assumes nothing.
-- Read first: specs/Candidates (IsLog), proofs/Logged (LogSoFar).
use mathlib.Core.Path.{◌≡◌, refl, ◌∙◌}
use lib.ListN.{length}
use Prim.Native.Nat.{◌-◌}
use native.Mathlib.Omega.{arith}
use Rattle.items.proofs.Passed.{err_passed}
use Rattle.candidates.proofs.Logged.{log_start, log_few, log_full, log_none, log_other, log_bad, log_on}
use Rattle.candidates.proofs.read_log.Goals as goal

pub loop-i-init : goal.loop-i-init
loop-i-init c = log_start _ _ _ c.requires.at_in_bounds

pub returns-else-count-lt-ENTRIES : goal.returns-else-count-lt-ENTRIES
returns-else-count-lt-ENTRIES c =
    let s = c.loop-i.invariant in
    log_full _ _ _ _ _ s (omega (arith, log_few _ _ _ _ _ s, c.if-count-lt-ENTRIES.false))

pub returns-else-saved-i-eq-ENTRY : goal.returns-else-saved-i-eq-ENTRY
returns-else-saved-i-eq-ENTRY c = log_other _ _ _ _ _ c.loop-i.invariant c.loop-i-test.true c.if-saved-i-eq-ENTRY.false

pub returns-in_err-end : goal.returns-in_err-end
returns-in_err-end c =
    rw (err_passed _ c.from_residual.ensures.1)
    (log_bad _ _ _ _ _ c.loop-i.invariant c.loop-i-test.true (λ e. omega arith) c.if-saved-i-eq-ENTRY.true _ c.in_err-end.ensures)

pub put_entry-requires : goal.put_entry-requires
put_entry-requires c =
    let found = c.in_ok-end.ensures in
    let s = c.loop-i.invariant in
    let few = log_few _ _ _ _ _ s in
    let E = found.1 in (
      omega (arith, E.ends, E.one.within),
      omega (arith, c.loop-i.auto.log, few, c.if-count-lt-ENTRIES.true, c.requires.most_entries_in_bounds),
      few,
    )

pub overflow_add-count : goal.overflow_add-count
overflow_add-count c = omega (arith, log_few _ _ _ _ _ c.loop-i.invariant)

pub loop-i-smaller : goal.loop-i-smaller
loop-i-smaller c =
    let E = c.in_ok-end.ensures.1 in omega (arith, E.one.low, E.one.within)

pub loop-i-preserved : goal.loop-i-preserved
loop-i-preserved c =
    let E = c.in_ok-end.ensures.1 in
    log_on _ _ _ _ _ c.loop-i.invariant c.loop-i-test.true (λ e. omega arith) c.if-saved-i-eq-ENTRY.true _ _ E _
    c.put_entry.ensures (omega (arith, c.requires.most_entries_in_bounds, c.loop-i.auto.log))

pub returns-after-loop-i : goal.returns-after-loop-i
returns-after-loop-i c = log_none _ _ _ _ _ c.loop-i.invariant c.loop-i-test.false
