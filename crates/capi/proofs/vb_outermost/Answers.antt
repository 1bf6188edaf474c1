-- `vb_outermost`: the code of each answer, with its units, is that of what `decide::outermost` told; what it is right about, and that it does not
-- contradict decide's, follows from that call's promises (`outermost_promises`). Assumes nothing.
-- Read first: specs/Codes (outermost_code, CodeDecides, CodesAgree), decide/specs/Answers (decided_told), proofs/Deciding.
use mathlib.Core.Path.{ap, ◌∙◌}
use Prim.Native.Nat.{ℕ}
use Rattle.rewriting.specs.Ends.{number_of}
use Rattle.decide.specs.Answers.{decided_told}
use Rattle.capi.specs.Codes.{code, counted_code, outermost_code}
use Rattle.capi.proofs.Deciding.{outermost_promises}
use Rattle.capi.proofs.vb_outermost.Goals as goal

pub returns-in-Ok-Same : goal.returns-in-Ok-Same
unfolding decided_told outermost_code counted_code
returns-in-Ok-Same c =
    let q = rw c.in-Ok-Same.field-0-is at c.in-Ok-Same.ensures in
    let told = outermost_promises _ _ _ q.equations q.agrees _ q.answer c.code.ensures in
    record { value = told.0; equations = told.1.0; agrees = told.1.1 }

pub returns-in-Ok-Different : goal.returns-in-Ok-Different
unfolding decided_told outermost_code counted_code
returns-in-Ok-Different c =
    let q = rw c.in-Ok-Different.field-0-is at c.in-Ok-Different.ensures in
    let told = outermost_promises _ _ _ q.equations q.agrees _ q.answer c.code-in-Ok-Different.ensures in
    record { value = told.0; equations = told.1.0; agrees = told.1.1 }

pub returns-in-Ok-Spent : goal.returns-in-Ok-Spent
unfolding decided_told outermost_code counted_code number_of
returns-in-Ok-Spent c =
    let q = rw c.in-Ok-Spent.field-0-is at c.in-Ok-Spent.ensures in
    let told =
    outermost_promises _ _ _ q.equations q.agrees _ q.answer
    (c.code-in-Ok-Spent.ensures ∙ ap (λ (n : ℕ). code 3 n c.in-Ok-Spent.units) c.from.ensures) in
    record { value = told.0; equations = told.1.0; agrees = told.1.1 }

pub returns-in-Ok-TooLarge : goal.returns-in-Ok-TooLarge
unfolding decided_told outermost_code counted_code number_of
returns-in-Ok-TooLarge c =
    let q = rw c.in-Ok-TooLarge.field-0-is at c.in-Ok-TooLarge.ensures in
    let told =
    outermost_promises _ _ _ q.equations q.agrees _ q.answer
    (c.code-in-Ok-TooLarge.ensures ∙ ap (λ (n : ℕ). code 3 n c.in-Ok-TooLarge.units) c.from-in-Ok-TooLarge.ensures) in
    record { value = told.0; equations = told.1.0; agrees = told.1.1 }

pub returns-in-Err : goal.returns-in-Err
unfolding decided_told outermost_code counted_code
returns-in-Err c =
    let q = c.in-Err.ensures in
    let told = outermost_promises _ _ _ q.equations q.agrees _ q.answer c.refused.ensures in
    record { value = told.0; equations = told.1.0; agrees = told.1.1 }
