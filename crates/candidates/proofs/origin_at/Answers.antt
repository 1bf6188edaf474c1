-- `origin_at`: the kind and the numbers are put one behind the other, by `origin_put`. Assumes nothing.
-- Read first: specs/Candidates (origin-copy), proofs/Origins.
use mathlib.Core.Path.{refl}
use Rattle.candidates.proofs.Origins.{origin_put}
use Rattle.candidates.proofs.origin_at.Goals as goal

pub returns : goal.returns
returns c =
    origin_put c.args.saved.now c.args.at _ _ _ _ refl c.number-first.ensures.value c.number-second.ensures.value
    c.from-position.ensures _ _ _ _ refl c.put_number.ensures.bytes c.put_number-2.ensures.bytes
    c.put_number-3.ensures.bytes
