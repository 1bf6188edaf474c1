-- `put_pair`: tag, length, head and the two sides of slot k are a field, by `puts_pair`. Assumes nothing.
-- Read first: specs/Written (pair_field), fields/specs/Adds (AddsSome), proofs/Writing.
use Rattle.std.proofs.Common.{arith}
use Rattle.fields.proofs.Writing.{writes_room}
use Rattle.items.proofs.Writing.{head_room, sides_room, puts_pair}
use Rattle.items.proofs.put_pair.Goals as goal

pub bytes-requires : goal.bytes-requires
bytes-requires c =
    let l = c.left-left.ensures in
    let r = c.right-right.ensures in
    omega (arith, head_room _ _ _ _ _ _ l.result_value r.result_value l.result_len_bound r.result_len_bound c.requires.0 c.head.ensures)

pub bytes-requires-2 : goal.bytes-requires-2
bytes-requires-2 c =
    let l = c.left-left.ensures in
    let r = c.right-right.ensures in
    omega (
      arith,
      l.result_len_bound,
      sides_room _ _ _ _ _ _ l.result_value r.result_value l.result_len_bound r.result_len_bound c.requires.0 c.head.ensures
          c.bytes.ensures,
    )

pub bytes-requires-3 : goal.bytes-requires-3
bytes-requires-3 c =
    let l = c.left-left.ensures in
    let r = c.right-right.ensures in
    let room = sides_room _ _ _ _ _ _ l.result_value r.result_value l.result_len_bound r.result_len_bound c.requires.0 c.head.ensures c.bytes.ensures in
    writes_room (omega (arith, l.result_len_bound)) c.bytes-2.ensures _ (omega (arith, l.result_len_bound, r.result_len_bound))

pub returns : goal.returns
returns c =
    let l = c.left-left.ensures in
    let r = c.right-right.ensures in
    puts_pair _ _ _ _ _ _ l.result_value r.result_value l.result_len_bound r.result_len_bound c.requires.0 c.head.ensures
    c.bytes.ensures c.bytes-2.ensures c.bytes-3.ensures
