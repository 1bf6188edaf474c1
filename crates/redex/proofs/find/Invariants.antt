-- `find`: the invariant is that the rules from k on decide the step as all do. Assumes nothing.
-- Read first: specs/Step (FoundRule), proofs/Choosing (Searching).
use Rattle.redex.proofs.Choosing.{Searching}
use Rattle.redex.proofs.find.Given as goal

abbrev pub invariant-loop-k : goal.invariant-loop-k
invariant-loop-k l = Searching l.system.rules.now l.t l.system.count l.k l.initial.binds l.binds
