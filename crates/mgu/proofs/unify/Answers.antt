-- `unify`: the two terms are joined and the classes closed; a clash, or a size that stays unknown, means no unifier, else it is solved. Assumes
-- nothing.
-- Read first: specs/Result (Joined, Decided, SolvedIf), proofs/Verdict.
use Rattle.mgu.proofs.Verdict.{begun_never, begun_answer}
use Rattle.mgu.proofs.unify.Goals as goal

pub begin-requires : goal.begin-requires
begin-requires c =
    record {
      nodes_len_bound = (c.requires.nodes_len_bound.0, c.requires.nodes_len_bound.1, c.requires.nodes_len_bound.2);
      laid_out = c.requires.laid_out;
    }

pub close-requires : goal.close-requires
close-requires c = c.begin.ensures.ready

pub invariant_of-measure : goal.invariant_of-measure
invariant_of-measure c = record { ready = c.close.ensures.ready }

pub measure-requires : goal.measure-requires
measure-requires c = c.requires.nodes_len_bound.3

pub returns-then-not-close : goal.returns-then-not-close
returns-then-not-close c =
    let all = begun_never _ _ _ _ c.requires.laid_out.1 c.requires.laid_out.2 _ _ c.begin.ensures c.close.new.class c.args.sizes.now c.close.result
    c.close.ensures.closed_to c.if-not-close.true in
    record {
      decided = all.0;
      solved_if = all.1;
    }

pub returns : goal.returns
returns c =
    let all = begun_answer _ _ _ _ c.requires.laid_out.1 c.requires.laid_out.2 _ _ c.begin.ensures c.close.new.class c.close.result
    c.close.ensures.closed_to c.if-not-close.false _ c.measure.result c.measure.ensures in
    record {
      decided = all.0;
      solved_if = all.1;
    }
