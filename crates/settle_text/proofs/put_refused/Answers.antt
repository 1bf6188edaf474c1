-- `put_refused`: two words and two numbers, of at most twenty digits each, one behind the other. Assumes nothing.
-- Read first: specs/Text (Refusal), proofs/Hex, proofs/Decimal.
use native.Mathlib.Omega.{arith}
use Rattle.settle_text.proofs.Decimal.{twenty_digits}
use Rattle.settle_text.proofs.Hex.{puts_refused}
use Rattle.std.proofs.Common.{rules}
use Rattle.settle_text.proofs.put_refused.Goals as goal

pub put_decimal-a-requires : goal.put_decimal-a-requires
put_decimal-a-requires c = omega (arith, twenty_digits c.args.number (search rules))

pub paste-requires-2 : goal.paste-requires-2
paste-requires-2 c = omega (arith, twenty_digits c.args.number (search rules))

pub overflow_add-a : goal.overflow_add-a
overflow_add-a c = omega (arith, twenty_digits c.args.number (search rules))

pub put_decimal-b-requires : goal.put_decimal-b-requires
put_decimal-b-requires c = omega (arith, twenty_digits c.args.number (search rules), twenty_digits c.args.place (search rules))

pub put_byte-requires : goal.put_byte-requires
put_byte-requires c = omega (arith, twenty_digits c.args.number (search rules), twenty_digits c.args.place (search rules))

pub returns : goal.returns
returns c =
    puts_refused _ _ _ _ _ _ _ _ _ _ _ c.requires (search rules) (search rules) c.paste.ensures
    c.put_decimal-a.ensures c.paste-2.ensures c.put_decimal-b.ensures
    c.put_byte.ensures
