-- `vb_decide`: the code of each answer is that of what `decide::decide` told; what it is right about, and that outermost's does not contradict it, follows
-- from that call's promises (`decide_promises`). Assumes nothing.
-- Read first: specs/Codes (decide_code, CodeDecides, CodesAgree), decide/specs/Answers (decided_told), proofs/Deciding.
use mathlib.Core.Path.{ap, ◌∙◌}
use Prim.Native.Nat.{ℕ}
use Rattle.rewriting.specs.Ends.{number_of}
use Rattle.decide.specs.Answers.{decided_told, without_units}
use Rattle.capi.specs.Codes.{code, decide_code}
use Rattle.capi.proofs.Deciding.{decide_promises}
use Rattle.capi.proofs.vb_decide.Goals as goal

pub returns-in-Ok-Same : goal.returns-in-Ok-Same
unfolding decided_told without_units decide_code
returns-in-Ok-Same c =
    let q = rw c.in-Ok-Same.field-0-is at c.in-Ok-Same.ensures in
    let told = decide_promises _ _ _ q.equations q.agrees _ q.answer c.code.ensures in
    record { value = told.0; equations = told.1.0; agrees = told.1.1 }

pub returns-in-Ok-Different : goal.returns-in-Ok-Different
unfolding decided_told without_units decide_code
returns-in-Ok-Different c =
    let q = rw c.in-Ok-Different.field-0-is at c.in-Ok-Different.ensures in
    let told = decide_promises _ _ _ q.equations q.agrees _ q.answer c.code-in-Ok-Different.ensures in
    record { value = told.0; equations = told.1.0; agrees = told.1.1 }

pub returns-in-Ok-Spent : goal.returns-in-Ok-Spent
unfolding decided_told without_units decide_code number_of
returns-in-Ok-Spent c =
    let q = rw c.in-Ok-Spent.field-0-is at c.in-Ok-Spent.ensures in
    let told = decide_promises _ _ _ q.equations q.agrees _ q.answer (c.code-in-Ok-Spent.ensures ∙ ap (λ (n : ℕ). code 3 n 0) c.from.ensures) in
    record { value = told.0; equations = told.1.0; agrees = told.1.1 }

pub returns-in-Ok-TooLarge : goal.returns-in-Ok-TooLarge
unfolding decided_told without_units decide_code number_of
returns-in-Ok-TooLarge c =
    let q = rw c.in-Ok-TooLarge.field-0-is at c.in-Ok-TooLarge.ensures in
    let told =
    decide_promises _ _ _ q.equations q.agrees _ q.answer
    (c.code-in-Ok-TooLarge.ensures ∙ ap (λ (n : ℕ). code 3 n 0) c.from-in-Ok-TooLarge.ensures) in
    record { value = told.0; equations = told.1.0; agrees = told.1.1 }

pub returns-in-Err : goal.returns-in-Err
unfolding decided_told without_units decide_code
returns-in-Err c =
    let q = c.in-Err.ensures in
    let told = decide_promises _ _ _ q.equations q.agrees _ q.answer c.refused.ensures in
    record { value = told.0; equations = told.1.0; agrees = told.1.1 }
