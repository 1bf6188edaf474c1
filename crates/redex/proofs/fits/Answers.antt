-- `fits`: another root symbol rules a match out (`fits_not`), else `matches` decides (`fits_by`). Assumes nothing.
-- Read first: specs/Step (Fitted), proofs/Choosing.
use Rattle.redex.proofs.Choosing.{fits_by, fits_not}
use mathlib.Core.Path.{◌∙◌}
use Rattle.redex.proofs.fits.Goals as goal

pub returns-then-byte_of-b : goal.returns-then-byte_of-b
returns-then-byte_of-b c = fits_not c.left_root-b.ensures c.if-b-lt-VARIABLE.true (λ e. c.if-byte_of-b.true (c.byte_of.ensures ∙ e))

pub returns : goal.returns
returns c = fits_by c.left.ensures.result_value c.matches.ensures
