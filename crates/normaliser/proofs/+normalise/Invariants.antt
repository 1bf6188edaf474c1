-- `normalise_in` and `normalise_all` call each other; 1000 times the units and twice the cells in use (and 1 for `normalise_all`) fall. Assumes nothing.
-- The loop of `normalise_in`: the term at hand comes to what was asked; the units fall. That of `normalise_all`: the terms still to do.
-- Read first: specs/Settled (Settled), proofs/Settling, proofs/Together.
use Rattle.std.proofs.Common.{◌+◌, ◌*◌}
use Rattle.normaliser.proofs.Settling.{Turning}
use Rattle.normaliser.proofs.Together.{Row}
use Rattle.normaliser.proofs.+normalise.Given as goal

abbrev pub decreases-normalise_all : goal.decreases-normalise_all
decreases-normalise_all l = 1000 * l.units + 2 * l.len + 1

abbrev pub decreases-normalise_in : goal.decreases-normalise_in
decreases-normalise_in l = 1000 * l.units + 2 * l.len

abbrev pub invariant-normalise_all-loop : goal.invariant-normalise_all-loop
invariant-normalise_all-loop l =
    Row l.system.table.now l.system.rules.now l.system.count l.initial.t l.n l.len l.most l.units l.t l.counter l.p l.l l.u

abbrev pub invariant-normalise_in-loop-l : goal.invariant-normalise_in-loop-l
invariant-normalise_in-loop-l l = Turning l.system.table.now l.system.rules.now l.system.count l.initial.t l.len l.most l.units l.t l.l l.u

abbrev pub decreases-normalise_in-loop-l : goal.decreases-normalise_in-loop-l
decreases-normalise_in-loop-l l = l.u
