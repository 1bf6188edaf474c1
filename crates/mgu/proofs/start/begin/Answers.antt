-- `begin`: from right ends and first classes, with two of them joined, unification can go on (`begun`). Assumes nothing.
-- Read first: specs/Result (Joined), proofs/Starting.
use Rattle.mgu.proofs.Starting.{begin_requires, begun}
use native.Mathlib.Omega.{arith}
use Rattle.mgu.proofs.start.begin.Goals as goal

pub join-requires : goal.join-requires
join-requires c =
    let all = begin_requires _ _ _ _ c.requires.laid_out.0 c.requires.laid_out.1 c.requires.laid_out.2 c.fill_ends.new.ends c.fill_class.new.class
    c.fill_ends.ensures.each c.fill_class.ensures.each c.requires.nodes_len_bound.0
    (omega (arith, c.fill_class.ensures.class_len_unchanged, c.requires.nodes_len_bound.2)) in
    record {
      a_in_bounds = all.0;
      a_in_bounds_2 = all.1;
    }

pub returns : goal.returns
returns c =
    begun _ _ _ _ c.requires.laid_out.0 c.requires.laid_out.1 c.requires.laid_out.2 c.fill_ends.new.ends
    c.fill_class.new.class c.fill_ends.ensures.each c.fill_class.ensures.each
    c.requires.nodes_len_bound.0 (omega (arith, c.fill_ends.ensures.ends_len_unchanged, c.requires.nodes_len_bound.1))
    (omega (arith, c.fill_class.ensures.class_len_unchanged, c.requires.nodes_len_bound.2)) c.join.new.class
    c.join.ensures
