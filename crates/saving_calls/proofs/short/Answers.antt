-- `short`: one test for each buffer. Assumes nothing.
-- Read first: proofs/Answering (short_result, short_saved).
use mathlib.Core.Path.{◌∙◌}
use borrow.Author.Tests.{lt-ltb}
use Rattle.saving_calls.proofs.Answering.{short_result, short_saved}
use Rattle.saving_calls.proofs.short.Goals as goal

pub returns-then-res-lt-BUFFER : goal.returns-then-res-lt-BUFFER
returns-then-res-lt-BUFFER c = lt-ltb _ _ c.if-res-lt-BUFFER.true ∙ short_result _ c.args.saved c.if-res-lt-BUFFER.true

pub returns-else-res-lt-BUFFER : goal.returns-else-res-lt-BUFFER
returns-else-res-lt-BUFFER c = short_saved _ c.args.saved c.if-res-lt-BUFFER.false
