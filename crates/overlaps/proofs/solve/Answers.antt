-- `solve`: parts of its buffers as long as the nodes are enough for `solve_in`, whose answer it passes on. Assumes nothing.
-- Read first: specs/Answer (SolvesAt), proofs/Solving.
use Rattle.overlaps.proofs.Solving.{part_long}
use Rattle.overlaps.proofs.solve.Goals as goal

pub solve_in-requires : goal.solve_in-requires
solve_in-requires c =
    let h = part_long _ c.requires.0.few in
    record {
      within = c.requires;
      nodes_in_bounds = (h, h, h);
    }

pub shape_of-pair : goal.shape_of-pair
shape_of-pair c = c.solve_in.ensures.kept.same

pub returns : goal.returns
returns c = c.solve_in.ensures
