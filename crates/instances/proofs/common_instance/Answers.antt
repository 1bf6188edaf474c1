-- `common_instance`: `unifier::unify` decides; too large by the size of node 0, else its term is written: a lemma for each return. Assumes nothing.
-- Read first: specs/Common (TwoSides, SidesUnify), proofs/Unifying.
use Rattle.instances.proofs.Unifying.{unify_asks, outcome_solved, solved_spelt, answers_none, answers_large, answers_instance}
use Rattle.instances.proofs.common_instance.Goals as goal

pub unify-requires : goal.unify-requires
unify-requires c =
    let all = unify_asks _ _ _ c.requires.two_sides in
    record {
      nodes_len_bound = all.0;
      laid_out = all.1;
    }

pub returns-then-not-unify : goal.returns-then-not-unify
returns-then-not-unify c = answers_none _ _ _ c.unify.result _ c.unify.ensures.decided c.if-not-unify.true

pub returns-then-from-gt-NODES : goal.returns-then-from-gt-NODES
returns-then-from-gt-NODES c =
    let h = outcome_solved _ _ _ _ _ _ c.unify.result c.unify.ensures.solved_if c.if-not-unify.false in
    answers_large _ _ _ _ _ _ h c.unify.result c.unify.ensures.decided c.if-not-unify.false
    (rw c.from.ensures at c.if-from-gt-NODES.true) _

pub invariant_of-arena : goal.invariant_of-arena
invariant_of-arena c =
    let h = outcome_solved _ _ _ _ _ _ c.unify.result c.unify.ensures.solved_if c.if-not-unify.false in
    record { ready = h.sized.ready }

pub write_instance-requires : goal.write_instance-requires
write_instance-requires c =
    let h = outcome_solved _ _ _ _ _ _ c.unify.result c.unify.ensures.solved_if c.if-not-unify.false in
    record {
      spelt = solved_spelt _ _ _ _ _ _ h (rw c.from.ensures at c.if-from-gt-NODES.false) (unify_asks _ _ _ c.requires.two_sides).1.1;
      most_nodes_in_bounds = c.requires.most_nodes_in_bounds;
    }

pub returns : goal.returns
returns c =
    let h = outcome_solved _ _ _ _ _ _ c.unify.result c.unify.ensures.solved_if c.if-not-unify.false in
    answers_instance _ _ _ _ _ _ h c.unify.result c.unify.ensures.decided c.if-not-unify.false
    (rw c.from.ensures at c.if-from-gt-NODES.false) (unify_asks _ _ _ c.requires.two_sides).1.1 _ _ _ c.write_instance.ensures
