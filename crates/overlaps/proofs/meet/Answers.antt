-- `meet`: the four terms that are laid out are those that `solve` is asked of (`meet_found`). Assumes nothing.
-- Read first: specs/Answer (Meets), proofs/Meeting, overlap_terms/proofs/Layers.
use Rattle.overlaps.proofs.Meeting.{meet_within, meet_found}
use Rattle.overlap_terms.proofs.Layers.{laid_parts}
use native.Mathlib.Omega.{arith}
use Rattle.overlaps.proofs.meet.Goals as goal

pub overflow_sub-at : goal.overflow_sub-at
overflow_sub-at c = omega (arith, laid_parts _ _ _ _ _ _ _ _ _ c.lay_four-end.ensures)

pub solve-requires : goal.solve-requires
solve-requires c =
    (meet_within c.lay_four-end.ensures c.requires.position_in_bounds.0 c.requires.position_in_bounds.1, c.requires.position_in_bounds.2)

pub returns : goal.returns
returns c = meet_found c.lay_four-end.ensures c.solve.ensures
