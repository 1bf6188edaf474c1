-- `put_line`: tag, length and contents with a space between and the line's end; a length has at most five digits. Assumes nothing.
-- Read first: completion/specs/Settle (line), proofs/Hex, proofs/Decimal.
use native.Mathlib.Omega.{arith}
use Rattle.settle_text.proofs.Decimal.{few_digits}
use Rattle.settle_text.proofs.Hex.{puts_line}
use Rattle.settle_text.proofs.put_line.Goals as goal

pub put_decimal-c-requires : goal.put_decimal-c-requires
put_decimal-c-requires c = omega (arith, few_digits _ c.requires.1)

pub put_byte-d-requires : goal.put_byte-d-requires
put_byte-d-requires c = omega (arith, few_digits _ c.requires.1)

pub put_hexes-e-requires : goal.put_hexes-e-requires
put_hexes-e-requires c = omega (arith, few_digits _ c.requires.1)

pub put_byte-requires : goal.put_byte-requires
put_byte-requires c = omega (arith, few_digits _ c.requires.1)

pub returns : goal.returns
returns c =
    puts_line _ _ _ _ _ _ _ c.args.contents.now _ _ _ _ _ _ _ _ c.requires.0 c.requires.1
    c.put_hex-a.ensures c.put_byte-b.ensures c.put_decimal-c.ensures
    c.put_byte-d.ensures c.put_hexes-e.ensures c.put_byte.ensures
