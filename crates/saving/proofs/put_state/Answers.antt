-- `put_state`: the five parts fit the bytes that are left and stand one behind the other (`puts_state`). Assumes nothing.
-- Read first: specs/Saves (state_bytes, state_width), proofs/Putting.
use Rattle.std.proofs.Common.{arith}
use Rattle.saving.proofs.Putting.{rules_room, waiting_room, log_room, back_room, puts_state}
use Rattle.saving.proofs.put_state.Goals as goal

pub put_rules-requires-clause-count_in_bounds : goal.put_rules-requires-clause-count_in_bounds
put_rules-requires-clause-count_in_bounds c = omega (arith, rules_room c.requires.fine c.requires.state_width_in_bounds c.number_field.ensures)

pub put_waiting-requires-clause-count_in_bounds : goal.put_waiting-requires-clause-count_in_bounds
put_waiting-requires-clause-count_in_bounds c =
    omega (arith, waiting_room c.requires.fine c.requires.state_width_in_bounds c.number_field.ensures c.put_rules.ensures)

pub put_log-requires-clause-count_in_bounds : goal.put_log-requires-clause-count_in_bounds
put_log-requires-clause-count_in_bounds c =
    let room = log_room c.requires.fine c.requires.state_width_in_bounds c.number_field.ensures c.put_rules.ensures c.put_waiting.ensures in
    omega (arith, room, c.requires.fine.log_few)

pub number_field-requires-2 : goal.number_field-requires-2
number_field-requires-2 c =
    let few = c.requires.fine.log_few in
    let b = c.requires.state_width_in_bounds in (
      omega (arith, back_room c.requires.fine b c.number_field.ensures c.put_rules.ensures c.put_waiting.ensures c.put_log.ensures (omega (arith, few))),
      omega arith,
    )

pub returns : goal.returns
returns c =
    puts_state c.requires.fine c.requires.state_width_in_bounds c.number_field.ensures c.put_rules.ensures c.put_waiting.ensures c.put_log.ensures
    c.number_field-2.ensures
