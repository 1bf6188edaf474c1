-- `paste`: what is copied into the part from `at` on is the list patched there, by `patched_back`. Assumes nothing.
-- Read first: specs/Puts (patched), proofs/Patching.
use Rattle.fields.proofs.Patching.{patched_back}
use Rattle.fields.proofs.paste.Goals as goal

pub returns : goal.returns
returns c = patched_back _ _ _ _ c.copy_from_slice.ensures.after
