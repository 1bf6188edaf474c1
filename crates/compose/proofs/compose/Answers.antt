-- `compose`: the invariant is that k right sides are done and the run is that of the others with the units left. Assumes nothing.
-- Read first: specs/Rights (All), proofs/Sweep (SweptTo, Midway).
use Prim.Native.Nat.{◌+◌, ◌<◌, ◌≤◌}
use native.Mathlib.Omega.{arith}
use Rattle.rewriting.proofs.Verdicts.{goes≢ends}
use Rattle.compose.proofs.Sweep.{sweep_start, sweep_on, sweep_stop, sweep_end}
use Rattle.compose.proofs.compose.Goals as goal

pub loop-k-init : goal.loop-k-init
loop-k-init c = sweep_start _ _ _ _

pub compose_one-r-requires : goal.compose_one-r-requires
compose_one-r-requires c =
    let more = c.loop-k-test.true in
    let s = c.saturating_sub-k-end.ensures in
    (c.loop-k.invariant.only.layout _ c.requires, omega arith)

pub returns-in_default : goal.returns-in_default
returns-in_default c =
    let more : c.loop-k.k + 1 < c.args.count = let t = c.loop-k-test.true in let s = c.saturating_sub-k-end.ensures in omega arith in
    sweep_stop _ _ _ _ _ _ _ c.loop-k.invariant more _ _ c.compose_one-r.ensures
    (λ v. goes≢ends v c.in_default.is)

pub loop-k-preserved : goal.loop-k-preserved
loop-k-preserved c =
    let more : c.loop-k.k + 1 < c.args.count = let t = c.loop-k-test.true in let s = c.saturating_sub-k-end.ensures in omega arith in
    sweep_on _ _ _ _ _ _ _ c.loop-k.invariant more _ _ c.compose_one-r.ensures c.in-None.is

pub returns : goal.returns
returns c =
    let over : c.args.count ≤ c.loop-k.k + 1 = let t = c.loop-k-test.false in let s = c.saturating_sub-k-end.ensures in omega arith in
    sweep_end _ _ _ _ _ _ _ c.loop-k.invariant over
