-- `put_piece`: a byte for itself (`piece_byte`), or a bound term, its first cell and then the others (`piece_run`). Assumes nothing.
-- Read first: specs/Pieces (piece, Put), proofs/Filling.
use Rattle.matching.proofs.Filling.{slot_placed, put_as, put_over_cell, put_two, piece_byte, piece_run}
use mathlib.Core.Path.{refl}
use Rattle.std.proofs.Common.{rules}
use Rattle.matching.proofs.put_piece.Goals as goal

pub returns-in_default : goal.returns-in_default
returns-in_default c = put_as (piece_byte _ _ _ c.in_default.ensures) (rw c.from.ensures at c.put_cell.ensures)

pub offset_bounds-t-k : goal.offset_bounds-t-k
offset_bounds-t-k c = let d = slot_placed _ _ _ _ c.requires.t_len_bound.2 c.in-Some.ensures in let p = d.place in search rules

pub bounds-t-k : goal.bounds-t-k
bounds-t-k c = (slot_placed _ _ _ _ c.requires.t_len_bound.2 c.in-Some.ensures).place

pub returns-in_err-v : goal.returns-in_err-v
returns-in_err-v c =
    rw c.from_residual.ensures
    (put_as (piece_run _ _ _ _ _ _ c.in-Some.ensures c.first.ensures refl) (put_over_cell _ c.in_err-v.ensures))

pub overflow_add-k : goal.overflow_add-k
overflow_add-k c = let d = slot_placed _ _ _ _ c.requires.t_len_bound.2 c.in-Some.ensures in let p = d.place in search rules

pub offset_bounds-t-k-2 : goal.offset_bounds-t-k-2
offset_bounds-t-k-2 c = let d = slot_placed _ _ _ _ c.requires.t_len_bound.2 c.in-Some.ensures in let p = d.place in search rules

pub slice_bounds-put_run-count : goal.slice_bounds-put_run-count
slice_bounds-put_run-count c = let d = slot_placed _ _ _ _ c.requires.t_len_bound.2 c.in-Some.ensures in let n = d.sized in search rules

pub slice_bounds-put_run-start : goal.slice_bounds-put_run-start
slice_bounds-put_run-start c =
    let d = slot_placed _ _ _ _ c.requires.t_len_bound.2 c.in-Some.ensures in
    let p = d.place in
    search rules

pub slice_bounds-put_run-end : goal.slice_bounds-put_run-end
slice_bounds-put_run-end c =
    let d = slot_placed _ _ _ _ c.requires.t_len_bound.2 c.in-Some.ensures in
    let p = d.place in
    let i = d.inside in
    search rules

pub returns : goal.returns
returns c =
    put_as (piece_run _ _ _ _ _ _ c.in-Some.ensures c.first.ensures c.size_of.ensures.0) (put_two c.in_ok-v.ensures c.put_run.ensures)
