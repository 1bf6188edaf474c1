-- Demand 3 of the answer that C is given: the count it holds is the one that was written. Assumes nothing.
-- Read first: specs/Codes (CodeDelivers), complete/specs/Answer (completed_told, Delivery), proofs/Unpacked.
use mathlib.Core.Path.{◌≡◌, sym, subst}
use mathlib.Core.List.{List}
use Prim.Native.Nat.{ℕ}
use native.Mathlib.Omega.{arith}
use lib.ListN.{take}
use Rattle.completion.specs.Calls.{complete_call, counted}
use Rattle.completion.specs.Promise.{Delivers}
use Rattle.complete.specs.Answer.{completed_told, Delivery}
use Rattle.std.proofs.Common.{Result, Ok, Err}
use Rattle.problem.specs.declared.Refusal.{Refusal}
use Rattle.capi.specs.Codes.{answer_code, CodeDelivers}
use Rattle.capi.proofs.Unpacked.{UnpacksAnswer, complete_unpacks}

unpacked_delivers : (problem after : List ℕ) (r : ℕ) (a : Result ℕ Refusal) → UnpacksAnswer r (completed_told a) → Delivery problem after a →
    CodeDelivers problem after r
unfolding completed_told Delivery CodeDelivers
unpacked_delivers problem after r (Ok n) u d = λ k. subst (λ (m : ℕ). Delivers problem (take m after)) (sym u.value_is) d
unpacked_delivers problem after r (Err e) u d = λ k. absurd (omega (arith, u.kind_is))

pub code_delivers : (problem after : List ℕ) (buffer : ℕ) (a : Result ℕ Refusal) (r : ℕ) →
    completed_told a ≡ counted (complete_call problem buffer) → Delivery problem after a →
    r ≡ answer_code (counted (complete_call problem buffer)) → CodeDelivers problem after r
code_delivers problem after buffer a r t d q = unpacked_delivers problem after r a (rw (q, t) (complete_unpacks problem buffer)) d
