-- `moved`: a symbol stays, a variable moves up, a byte that cannot be moved stays: a lemma for each way. Assumes nothing.
-- Read first: specs/Layout (moved), proofs/Moving.
use mathlib.Core.Logic.{⊎_elim}
use Rattle.overlap_terms.proofs.Moving.{moved_symbol, moved_variable, moved_high}
use Rattle.overlap_terms.proofs.moved.Goals as goal

pub returns-then-b-lt-MOVABLE_END : goal.returns-then-b-lt-MOVABLE_END
returns-then-b-lt-MOVABLE_END c = moved_variable _ _ c.if-b-ge-VARIABLE.true c.if-b-lt-MOVABLE_END.true

pub returns-else-b-ge-VARIABLE : goal.returns-else-b-ge-VARIABLE
returns-else-b-ge-VARIABLE c =
    ⊎_elim (λ h. moved_high _ _ h.0 h.1) (λ h. moved_symbol _ _ h) c.else-b-ge-VARIABLE.either
