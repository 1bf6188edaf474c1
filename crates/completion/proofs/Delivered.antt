-- The delivery theorem: a rule set delivered as complete settles the equations of its theory. Turns leave it that began in any state of a run, with any
-- budget, and ended with 0. Assumes nothing.
-- Read first: specs/Decides, proofs/AtEnd, proofs/Stopped.
use mathlib.Core.Path.{◌≡◌}
use Prim.Native.Nat.{ℕ}
use Rattle.problem.specs.Problem.{Theory}
use Rattle.rewriting.specs.Rewrite.{complete}
use Rattle.completion.specs.Turn.{Finished}
use Rattle.completion.specs.Decides.{Decides}
use Rattle.completion.proofs.Over.{OverEquations}
use Rattle.completion.proofs.Stopped.{Stopped}
use Rattle.completion.proofs.AtEnd.{stop_delivered}

pub delivered : (T : Theory) → OverEquations T.symbols T.equations → {budget : ℕ} {f : Finished} → Stopped T budget f → f.end ≡ complete →
    Decides T.symbols T.equations f.state.rules
delivered T given {budget} {f} h e = stop_delivered T given f.state h.reachable h.left h.left_over f.end h.stops e
