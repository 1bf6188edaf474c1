-- `solve_in`: bytes of no terms (`solve_bad`), no unifier (`solve_never`), or by what `place` answers of the instances (`solve_placed`). Assumes
-- nothing.
-- Read first: specs/Answer (SolvesAt), proofs/Solving.
use Rattle.overlaps.proofs.Solving.{met, tested_out, tested_low, solve_bad, solve_never, solve_placed}
use Rattle.mgu.specs.Result.{Solved}
use Rattle.mgu.proofs.Verdict.{outcome_solved}
use native.Mathlib.Omega.{arith}
use mathlib.Core.Path.{ap}
use Rattle.overlaps.proofs.solve_in.Goals as goal

pub returns-then-not-laid_out : goal.returns-then-not-laid_out
returns-then-not-laid_out c = solve_bad c.laid_out.ensures (c.if-not-laid_out.true)

pub unify-requires : goal.unify-requires
unify-requires c =
    let within = c.requires.within.0 in
    record {
      nodes_len_bound = (within.few, c.requires.nodes_in_bounds.0, c.requires.nodes_in_bounds.1, c.requires.nodes_in_bounds.2);
      laid_out = (tested_out c.laid_out.ensures (c.if-not-laid_out.false), within.inner, within.outer);
    }

pub returns-then-not-unify : goal.returns-then-not-unify
returns-then-not-unify c = solve_never c.unify.ensures.decided (c.if-not-unify.true)

pub invariant_of-arena : goal.invariant_of-arena
invariant_of-arena c =
    let solved : Solved c.args.nodes.now c.args.table.now c.args.at.inner c.args.at.outer c.unify.new.ends c.unify.new.class c.unify.new.sizes =
    outcome_solved _ _ _ _ _ _ _ c.unify.result c.unify.ensures.solved_if (c.if-not-unify.false) in
    record { ready = solved.sized.ready }

pub place-requires : goal.place-requires
place-requires c =
    let solved : Solved c.args.nodes.now c.args.table.now c.args.at.inner c.args.at.outer c.unify.new.ends c.unify.new.class c.unify.new.sizes =
    outcome_solved _ _ _ _ _ _ _ c.unify.result c.unify.ensures.solved_if (c.if-not-unify.false) in
    let within = c.requires.within.0 in
    let k = solved in
    record {
      sized = (k.sized, k.known, tested_low c.laid_out.ensures (c.if-not-laid_out.false));
      nodes_nonzero = (omega (arith, within.left), within.left, within.right);
      layout = c.requires.within.1;
    }

pub returns-then-place : goal.returns-then-place
returns-then-place c =
    let solved : Solved c.args.nodes.now c.args.table.now c.args.at.inner c.args.at.outer c.unify.new.ends c.unify.new.class c.unify.new.sizes =
    outcome_solved _ _ _ _ _ _ _ c.unify.result c.unify.ensures.solved_if (c.if-not-unify.false) in
    solve_placed solved c.place.ensures (ap met c.if-place.true)

pub returns-else-place : goal.returns-else-place
returns-else-place c =
    let solved : Solved c.args.nodes.now c.args.table.now c.args.at.inner c.args.at.outer c.unify.new.ends c.unify.new.class c.unify.new.sizes =
    outcome_solved _ _ _ _ _ _ _ c.unify.result c.unify.ensures.solved_if (c.if-not-unify.false) in
    solve_placed solved c.place.ensures (ap met c.if-place.false)
