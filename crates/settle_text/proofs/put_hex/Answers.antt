-- `put_hex`: two digits one behind the other are the byte in hexadecimal, by `puts_hex`. Assumes nothing.
-- Read first: completion/specs/Settle (hex-byte), fields/specs/Puts (Puts), proofs/Hex.
use Rattle.settle_text.proofs.Hex.{puts_hex}
use Rattle.settle_text.proofs.put_hex.Goals as goal

pub returns : goal.returns
returns c =
    puts_hex _ _ _ _ _ _ _ _ _ c.requires c.digit.ensures c.digit-2.ensures
    c.put_byte-a.ensures c.put_byte.ensures
