-- `with_room`: the test is the definition's. Assumes nothing.
-- Read first: proofs/Entries.
use native.Mathlib.Omega.{arith}
use Rattle.forms.proofs.Entries.{no_room, has_room}
use Rattle.forms.proofs.with_room.Goals as goal

pub returns-then-entries-ge-ENTRIES : goal.returns-then-entries-ge-ENTRIES
returns-then-entries-ge-ENTRIES c = let full = c.if-entries-ge-ENTRIES.true in no_room _ _ (omega arith)

pub returns : goal.returns
returns c = let few = c.if-entries-ge-ENTRIES.false in has_room _ _ (omega arith)
