-- `join`: the left side comes to no last term, or the rest is `join_right`. Assumes nothing.
-- Read first: specs/Joins (SidesJoined), proofs/Joining.
use Rattle.joining.proofs.Joining.{left_ends, left_form}
use Rattle.normaliser.proofs.Outcomes.{few_bytes, few_taken}
use Rattle.std.proofs.Common.{rules}
use Rattle.joining.proofs.join.Goals as goal

pub slice_bounds-join_right-end : goal.slice_bounds-join_right-end
slice_bounds-join_right-end c =
    let a = few_bytes c.last_term-l.ensures c.in-Ok.is in
    let b = c.last_term-l.ensures.same in
    search rules

pub join_right-requires : goal.join_right-requires
join_right-requires c =
    record {
      layout = c.requires.layout;
      first_len_bound = (few_taken c.last_term-l.ensures c.in-Ok.is, c.requires.left_len_bound.1);
    }

pub returns-in-Ok : goal.returns-in-Ok
returns-in-Ok c = left_form c.last_term-l.ensures c.in-Ok.is c.join_right.ensures

pub returns-in-Err : goal.returns-in-Err
returns-in-Err c = left_ends c.last_term-l.ensures _ c.in-Err.is c.stopped.ensures
