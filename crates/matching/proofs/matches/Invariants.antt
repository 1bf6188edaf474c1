-- `matches`: the invariant is that what is left of both, with the bindings so far, matches as the whole does. Assumes nothing.
-- Read first: specs/Held (Matched), proofs/Walking (Here, Going).
use Rattle.matching.proofs.Walking.{Here}
use Rattle.matching.proofs.matches.Given as goal

abbrev pub invariant-loop-b : goal.invariant-loop-b
invariant-loop-b l = Here l.left l.t l.fn.binds l.binds l.b-index l.j
