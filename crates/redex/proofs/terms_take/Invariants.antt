-- `terms_take`: the invariant is that the terms to come are left behind so many cells. Assumes nothing.
-- Read first: specs/Contraction (TermsTake), proofs/Sizing (Taking).
use Prim.Native.Nat.{◌<◌, ◌+◌, ◌-◌}
use lib.ListN.{length}
use Rattle.limits.specs.Limits.{byte_values}
use Rattle.redex.proofs.Sizing.{Taking}
use Rattle.redex.proofs.terms_take.Given as goal

abbrev pub invariant-loop : goal.invariant-loop
invariant-loop l = (l.e < length l.t + byte_values) × Taking l.t l.n (l.n - l.counter) l.e
