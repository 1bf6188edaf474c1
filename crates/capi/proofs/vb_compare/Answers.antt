-- `vb_compare`: the code of each answer is that of what `calls::compare` told. Assumes nothing.
-- Read first: specs/Codes (answer_code), calls/specs/Answers (compared_told).
use mathlib.Core.Path.{ap, ◌∙◌}
use Prim.Native.Nat.{ℕ}
use Rattle.calls.specs.Answers.{compared_told}
use Rattle.capi.specs.Codes.{code, answer_code}
use Rattle.capi.proofs.vb_compare.Goals as goal

pub returns-in-Ok-LeftAbove : goal.returns-in-Ok-LeftAbove
unfolding compared_told answer_code
returns-in-Ok-LeftAbove c = c.code.ensures ∙ ap answer_code (rw c.in-Ok-LeftAbove.field-0-is at c.in-Ok-LeftAbove.ensures)

pub returns-in-Ok-RightAbove : goal.returns-in-Ok-RightAbove
unfolding compared_told answer_code
returns-in-Ok-RightAbove c = c.code-in-Ok-RightAbove.ensures ∙ ap answer_code (rw c.in-Ok-RightAbove.field-0-is at c.in-Ok-RightAbove.ensures)

pub returns-in-Ok-Identical : goal.returns-in-Ok-Identical
unfolding compared_told answer_code
returns-in-Ok-Identical c = c.code-in-Ok-Identical.ensures ∙ ap answer_code (rw c.in-Ok-Identical.field-0-is at c.in-Ok-Identical.ensures)

pub returns-in-Ok-Neither : goal.returns-in-Ok-Neither
unfolding compared_told answer_code
returns-in-Ok-Neither c = c.code-in-Ok-Neither.ensures ∙ ap answer_code (rw c.in-Ok-Neither.field-0-is at c.in-Ok-Neither.ensures)

pub returns-in-Err : goal.returns-in-Err
unfolding compared_told answer_code
returns-in-Err c = c.code-in-Err.ensures ∙ ap (λ (n : ℕ). code 0 n c.in-Err.refusal.place) c.from.ensures ∙ ap answer_code c.in-Err.ensures
