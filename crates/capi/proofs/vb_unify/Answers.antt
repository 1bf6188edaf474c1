-- `vb_unify`: the code of each answer is that of what `calls::unify` told; the buffer is as that call leaves it. Assumes nothing.
-- Read first: specs/Codes (unify_code), calls/specs/Answers (unified_told, Unifies).
use mathlib.Core.Path.{ap, ◌∙◌}
use Prim.Native.Nat.{ℕ}
use Rattle.rewriting.specs.Rewrite.{end_number}
use Rattle.rewriting.specs.Ends.{number_of}
use Rattle.calls.specs.Answers.{found_told, unified_told}
use Rattle.capi.specs.Codes.{code, unify_code}
use Rattle.capi.proofs.vb_unify.Goals as goal

pub returns-in-Ok-Instance : goal.returns-in-Ok-Instance
unfolding unified_told found_told unify_code
returns-in-Ok-Instance c =
    let q = rw c.in-Ok-Instance.field-0-is at c.in-Ok-Instance.ensures in
    record { value = c.code.ensures ∙ ap unify_code q.told; res_after = q.leaves }

pub returns-in-Ok-Nothing : goal.returns-in-Ok-Nothing
unfolding unified_told found_told unify_code
returns-in-Ok-Nothing c =
    let q = rw c.in-Ok-Nothing.field-0-is at c.in-Ok-Nothing.ensures in
    record { value = c.code-in-Ok-Nothing.ensures ∙ ap unify_code q.told; res_after = q.leaves }

pub returns-in-Ok-TooLarge : goal.returns-in-Ok-TooLarge
unfolding unified_told found_told unify_code end_number number_of
returns-in-Ok-TooLarge c =
    let q = rw c.in-Ok-TooLarge.field-0-is at c.in-Ok-TooLarge.ensures in
    record { value = c.code-in-Ok-TooLarge.ensures ∙ ap (λ (n : ℕ). code 3 n 0) c.from.ensures ∙ ap unify_code q.told; res_after = q.leaves }

pub returns-in-Err : goal.returns-in-Err
unfolding unified_told found_told unify_code
returns-in-Err c =
    let q = c.in-Err.ensures in
    record { value = c.refused.ensures ∙ ap unify_code q.told; res_after = q.leaves }
