-- `save`: the symbols' field, the equations' and the state's, one behind the other (`wrote_saved`), are the saved record (`saved`). Assumes nothing.
-- Read first: specs/Saves (Saves), proofs/Putting, proofs/Meaning.
use Rattle.std.proofs.Common.{arith, refl, rules}
use Rattle.saving.proofs.Putting.{equations_room, last_room, saved_few, wrote_saved}
use Rattle.saving.proofs.Meaning.{saved}
use Rattle.saving.proofs.save.Goals as goal

pub put_equations-requires : goal.put_equations-requires
put_equations-requires c =
    let h = c.requires in
    omega (arith, h.table_len_bound.1, equations_room _ refl h.longest_saved_in_bounds h.table_len_bound.0 c.field.ensures)

pub put_state-requires-clause-state_width_in_bounds : goal.put_state-requires-clause-state_width_in_bounds
put_state-requires-clause-state_width_in_bounds c =
    let h = c.requires in
    last_room _ refl h.longest_saved_in_bounds h.table_len_bound.0 c.field.ensures h.table_len_bound.1 c.put_equations.ensures.puts

pub returns : goal.returns
returns c =
    let h = c.requires in
    let p = c.field.ensures in
    let q = c.put_equations.ensures in
    let s = c.put_state.ensures in
    let first = p.same in
    let second = q.puts.same in
    let third = s.same in
    saved c.put_state.new.w q (search rules) (saved_few _ _ _ refl h.longest_saved_in_bounds h.table_len_bound.0 h.table_len_bound.1 p q.puts s)
    (wrote_saved _ _ _ refl h.longest_saved_in_bounds h.table_len_bound.0 h.table_len_bound.1 p q.puts s)
