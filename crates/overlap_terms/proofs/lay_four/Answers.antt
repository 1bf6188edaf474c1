-- `lay_four`: six calls of `lay`, each behind the last, lay the four terms, by `lays_four`. Assumes nothing.
-- Read first: specs/Layout (LaysFour), proofs/Layers.
use native.Mathlib.Omega.{arith}
use Rattle.overlap_terms.proofs.Layers.{room_five, room_six, lays_four}
use Rattle.overlap_terms.proofs.lay_four.Goals as goal

pub lay-f-requires : goal.lay-f-requires
lay-f-requires c = (
  room_five _ _ _ _ c.args.r2.now _ _ c.term_end-e.ensures.bytes c.requires.position_in_bounds.0
      c.term_end-e.ensures.within.0 c.term_end-e.ensures.within.1 _ _ _ _ _ _ _ _ _ _ _
      c.lay-a.ensures c.lay-b.ensures c.lay-c.ensures c.lay-d.ensures c.requires.l1_len_bound.0
      c.requires.l1_len_bound.1 c.requires.l1_len_bound.2 c.requires.l1_len_bound.3 c.requires.position_in_bounds.1,
  omega arith,
)

pub lay-requires : goal.lay-requires
lay-requires c = (
  room_six _ _ _ _ c.args.r2.now _ _ c.term_end-e.ensures.bytes c.requires.position_in_bounds.0
      c.term_end-e.ensures.within.0 c.term_end-e.ensures.within.1 _ _ _ _ _ _ _ _ _ _ _
      c.lay-a.ensures c.lay-b.ensures c.lay-c.ensures c.lay-d.ensures c.requires.l1_len_bound.0
      c.requires.l1_len_bound.1 c.requires.l1_len_bound.2 c.requires.l1_len_bound.3 c.requires.position_in_bounds.1 _ _ c.lay-f.ensures,
  omega arith,
)

pub returns : goal.returns
returns c =
    lays_four _ _ _ _ _ _ _ c.term_end-e.ensures.bytes c.requires.position_in_bounds.0 c.term_end-e.ensures.within.0
    c.term_end-e.ensures.within.1 _ _ _ _ _ _ _ _ _ _ _ _ _ c.lay-a.ensures c.lay-b.ensures
    c.lay-c.ensures c.lay-d.ensures c.lay-f.ensures c.lay.ensures
    c.requires.l1_len_bound.0 c.requires.l1_len_bound.1 c.requires.l1_len_bound.2 c.requires.l1_len_bound.3 c.requires.position_in_bounds.1
