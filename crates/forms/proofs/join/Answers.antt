-- `join`: the pair's two sides, joined (`pair_walk`). Assumes nothing.
-- Read first: specs/Forms (PairWalk), joining/specs/Joins (SidesJoined), proofs/Pairs.
use Rattle.forms.proofs.Pairs.{pair_walk}
use Rattle.forms.proofs.join.Goals as goal

pub join-requires : goal.join-requires
join-requires c =
    record {
      layout = c.requires.1;
      left_len_bound = (c.left-left.ensures.result_len_bound, c.right-right.ensures.result_len_bound);
    }

pub returns : goal.returns
returns c = pair_walk c.left-left.ensures.result_value c.right-right.ensures.result_value c.join.ensures
