-- The calls that save and resume, for C: an answer taken apart gives back what went in, and what the calls promise holds of as many bytes as it says.
-- Assumes nothing.
-- Read first: specs/Codes (left_code, CodeSaves, CodeResumes), saving_calls/specs/Leaving, resume/specs/Resumes, proofs/Unpacked.
use mathlib.Core.Path.{◌≡◌, sym, subst, subst₂, ◌∙◌}
use mathlib.Core.List.{List, []}
use Prim.Native.Nat.{ℕ, ◌%◌}
use native.Mathlib.Omega.{arith}
use lib.ListN.{take}
use Rattle.limits.specs.Limits.{most_saved, two_byte_values}
use Rattle.reading.specs.Stops.{large_budget}
use Rattle.problem.specs.Problem.{Reading, ok, refused, theory}
use Rattle.problem.proofs.Reading.{no_ok}
use Rattle.completion.specs.Turn.{run_from, run}
use Rattle.completion.specs.Calls.{counted}
use Rattle.checkpoint.specs.Resume.{Left as LeftBytes, resume_call, complete_saving_call, resume_saving_call}
use Rattle.checkpoint.specs.Wrote.{Delivered}
use Rattle.checkpoint.proofs.Refusals.{SavingWithin, resume_within, complete_saving_within, resume_saving_within}
use Rattle.resume.specs.Resumes.{resumed_told, ResumedFew, Redelivers}
use Rattle.std.proofs.Common.{Result, Ok, Err}
use Rattle.problem.specs.declared.Refusal.{Refusal}
use Rattle.problem.specs.Reasons.{number_of_reason}
use Rattle.saving_calls.specs.Leaving.{Lengths, left_told, lengths, LeftFew, SavingDelivers, SavingRedelivers}
use Rattle.saving_calls.specs.declared.Left.{Left}
use Rattle.capi.specs.Codes.{code, answer_code, left_code, CodeSaves, CodeLeaves, CodeResumes, CodeResumesSaving}
use Rattle.capi.proofs.Unpacked.{Unpacks, code_unpacks, refused_unpacks, UnpacksAnswer}

-- a refusal of these calls
saving_refused : {A B : Type 0} {Q : A → Type 0} (m place n at : ℕ) → ◌≡◌ {A = Reading B} (refused n at) (refused m place) →
    SavingWithin Q (refused m place) → Unpacks (code 0 n at) 0 n at
saving_refused m place n at e h =
    let p : n ≡ m = cc in
    let q : at ≡ place = cc in
    rw (p, q) (refused_unpacks large_budget most_saved (omega arith) (omega arith) m place h)

-- What was told of a call is refused only where the call is.
refused_counted : {Q : List ℕ → Type 0} (c : Reading (List ℕ)) → SavingWithin Q c → (n at : ℕ) → refused n at ≡ counted c → Unpacks (code 0 n at) 0 n at
unfolding counted
refused_counted (ok bytes) h n at e = absurd (no_ok e)
refused_counted (refused m place) h n at e = saving_refused m place n at e h

refused_lengths : {Q : LeftBytes → Type 0} (c : Reading LeftBytes) → SavingWithin Q c → (n at : ℕ) → refused n at ≡ lengths c → Unpacks (code 0 n at) 0 n at
unfolding lengths
refused_lengths (ok l) h n at e = absurd (no_ok e)
refused_lengths (refused m place) h n at e = saving_refused m place n at e h

-- resume
resume_unpacks : (kept : List ℕ) (budget buffer : ℕ) (a : Result ℕ Refusal) → resumed_told a ≡ counted (resume_call kept budget buffer) → ResumedFew a →
    UnpacksAnswer (answer_code (resumed_told a)) (resumed_told a)
unfolding resumed_told answer_code ResumedFew
resume_unpacks kept budget buffer (Ok n) t h = code_unpacks 1 0 n (omega arith) (omega arith)
resume_unpacks kept budget buffer (Err e) t h =
    refused_counted (resume_call kept budget buffer) (resume_within kept budget buffer) (number_of_reason e.reason) e.place t

code_of_resumed : (kept : List ℕ) (budget : ℕ) (after : List ℕ) (r : ℕ) (a : Result ℕ Refusal) → UnpacksAnswer r (resumed_told a) →
    Redelivers kept budget after a → CodeResumes kept budget after r
unfolding resumed_told Redelivers CodeResumes CodeLeaves
code_of_resumed kept budget after r (Ok n) u d = λ T f w. (
  λ k. subst (λ (m : ℕ). Delivered T (run_from T f.state budget) (record { result = take m after; saved = [] })) (sym u.value_is) (d T f w),
  λ k. absurd (omega (arith, u.kind_is)),
)
code_of_resumed kept budget after r (Err e) u d = λ T f w. (
  λ k. absurd (omega (arith, u.kind_is)),
  λ k q. d T f w (sym u.number_is ∙ q),
)

pub code_resumes : (kept : List ℕ) (budget buffer : ℕ) (after : List ℕ) (a : Result ℕ Refusal) (r : ℕ) →
    resumed_told a ≡ counted (resume_call kept budget buffer) → ResumedFew a → Redelivers kept budget after a →
    r ≡ answer_code (counted (resume_call kept budget buffer)) → CodeResumes kept budget after r
code_resumes kept budget buffer after a r t h d q =
    code_of_resumed kept budget after r a (rw (q, ← t) (resume_unpacks kept budget buffer a t h)) d

-- the calls that save
abbrev UnpacksLeft : ℕ → Reading Lengths → Type 0
UnpacksLeft r (ok l) = Unpacks r 1 l.saved l.result
UnpacksLeft r (refused number place) = Unpacks r 0 number place

left_unpacks : (c : Reading LeftBytes) → SavingWithin (λ _. Unit {0}) c → (a : Result Left Refusal) → left_told a ≡ lengths c → LeftFew a →
    UnpacksLeft (left_code (left_told a)) (left_told a)
unfolding left_told left_code LeftFew
left_unpacks c w (Ok l) t h =
    let q : l.saved % two_byte_values ≡ l.saved = omega (arith, h.1) in
    rw q (code_unpacks 1 l.saved l.result (omega (arith, h.1)) (omega (arith, h.0)))
left_unpacks c w (Err e) t h = refused_lengths c w (number_of_reason e.reason) e.place t

code_of_saved : (problem after after' : List ℕ) (r : ℕ) (a : Result Left Refusal) → UnpacksLeft r (left_told a) → SavingDelivers problem after after' a →
    CodeSaves problem after after' r
unfolding left_told SavingDelivers CodeSaves
code_of_saved problem after after' r (Ok l) u d = λ k P q.
    subst₂ (λ (x y : ℕ). Delivered (theory P) (run P) (record { result = take x after; saved = take y after' }))
    (sym u.value_is) (sym u.number_is) (d P q)
code_of_saved problem after after' r (Err e) u d = λ k. absurd (omega (arith, u.kind_is))

code_of_both : (kept : List ℕ) (budget : ℕ) (after after' : List ℕ) (r : ℕ) (a : Result Left Refusal) → UnpacksLeft r (left_told a) →
    SavingRedelivers kept budget after after' a → CodeResumesSaving kept budget after after' r
unfolding left_told SavingRedelivers CodeResumesSaving CodeLeaves
code_of_both kept budget after after' r (Ok l) u d = λ T f w. (
  λ k. subst₂ (λ (x y : ℕ). Delivered T (run_from T f.state budget) (record { result = take x after; saved = take y after' }))
      (sym u.value_is) (sym u.number_is) (d T f w),
  λ k. absurd (omega (arith, u.kind_is)),
)
code_of_both kept budget after after' r (Err e) u d = λ T f w. (
  λ k. absurd (omega (arith, u.kind_is)),
  λ k q. d T f w (sym u.number_is ∙ q),
)

pub code_saves : (problem : List ℕ) (buffer lent : ℕ) (after after' : List ℕ) (a : Result Left Refusal) (r : ℕ) →
    left_told a ≡ lengths (complete_saving_call problem buffer lent) → LeftFew a → SavingDelivers problem after after' a →
    r ≡ left_code (lengths (complete_saving_call problem buffer lent)) → CodeSaves problem after after' r
code_saves problem buffer lent after after' a r t h d q =
    code_of_saved problem after after' r a (rw (q, ← t) (left_unpacks _ (complete_saving_within problem buffer lent) a t h)) d

pub code_resumes_saving : (kept : List ℕ) (budget buffer lent : ℕ) (after after' : List ℕ) (a : Result Left Refusal) (r : ℕ) →
    left_told a ≡ lengths (resume_saving_call kept budget buffer lent) → LeftFew a → SavingRedelivers kept budget after after' a →
    r ≡ left_code (lengths (resume_saving_call kept budget buffer lent)) → CodeResumesSaving kept budget after after' r
code_resumes_saving kept budget buffer lent after after' a r t h d q =
    code_of_both kept budget after after' r a (rw (q, ← t) (left_unpacks _ (resume_saving_within kept budget buffer lent) a t h)) d
