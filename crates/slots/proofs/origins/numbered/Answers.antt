-- `numbered`: the number's two bytes are those of the definition by computation. Assumes nothing.
-- Read first: `numbered` in src/origins.rt.
use Rattle.terms.specs.Base.{number_bytes}
use mathlib.Core.Path.{refl}
use Rattle.slots.proofs.origins.numbered.Goals as goal

pub returns : goal.returns
unfolding number_bytes
returns c = rw c.to_be_bytes.ensures refl
