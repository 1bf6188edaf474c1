-- What settle prints, from the answer of `complete` and the bytes that it leaves in the buffer. Assumes nothing.
-- Read first: complete/specs/Answer (completed_told, counted), specs/Text, proofs/Settling.
use mathlib.Core.Path.{◌≡◌, refl, sym, ap, ◌∙◌, subst}
use mathlib.Core.List.{List}
use Prim.Native.Nat.{ℕ, ◌-◌, ◌≤◌}
use native.Mathlib.Omega.{arith}
use lib.ListN.{length, take}
use Rattle.limits.specs.Limits.{most_result}
use Rattle.completion.proofs.Writing.{written_front}
use Rattle.problem.specs.Problem.{Reading, ok, refused}
use Rattle.reading.proofs.Reading.{no_ok, ok_injective}
use Rattle.completion.specs.Calls.{complete_call, counted, after_complete, Writes}
use Rattle.completion.specs.Settle.{settle}
use Rattle.completion.proofs.Capacity.{complete_writes}
use Rattle.complete.specs.Answer.{completed_told}
use Rattle.std.specs.Prelude.{Result, Ok, Err}
use Rattle.problem.specs.Reasons.{number_of_reason}
use Rattle.problem.specs.declared.Refusal.{Refusal as Refused}
use Rattle.settle_text.specs.Text.{Lines, Refusal}
use Rattle.settle_text.proofs.Settling.{settle_lines, settle_refused}

-- the result stands in the first n bytes of the buffer, and is short
pub record Got (problem : List ℕ) (buffer n : ℕ) (after : List ℕ) : Type 0 where
  pub is : complete_call problem buffer ≡ ok (take (n - 0) after)
  pub few : n ≤ most_result

pub got : (problem before after : List ℕ) (r : Result ℕ Refused) (n buffer : ℕ) → r ≡ Ok n → completed_told r ≡ counted (complete_call problem buffer) →
    after ≡ after_complete (complete_call problem buffer) before → Got problem buffer n after
unfolding completed_told counted after_complete
got problem before after r n buffer w a b = go (complete_call problem buffer) refl (sym (ap completed_told w) ∙ a) b
  where
    go : (c : Reading (List ℕ)) → complete_call problem buffer ≡ c → ok n ≡ counted c → after ≡ after_complete c before → Got problem buffer n after
    go (refused k at) e a b = absurd (no_ok (sym a))
    go (ok bytes) e a b =
        let q : n ≡ length bytes = ok_injective a in
        let f : take (n - 0) after ≡ bytes = ap (take (n - 0)) b ∙ written_front bytes before (n - 0) (omega arith) in
        record { is = e ∙ ap ok (sym f); few = omega (arith, q, (complete_writes problem buffer bytes e).few) }

pub prints_lines : (problem after : List ℕ) (n buffer : ℕ) (out out' : List ℕ) (r : ℕ) → Got problem buffer n after → 16_384 ≤ buffer →
    Lines (take (n - 0) after) out out' r → Writes out (settle problem) out' r
prints_lines problem after n buffer out out' r G big h = settle_lines problem buffer big (take (n - 0) after) out out' r G.is h

pub prints_refused : (problem : List ℕ) (c : Result ℕ Refused) (r : Refused) (n' buffer : ℕ) (out out' : List ℕ) (m : ℕ) → c ≡ Err r →
    completed_told c ≡ counted (complete_call problem buffer) → n' ≡ number_of_reason r.reason → 16_384 ≤ buffer → Refusal n' r.place out out' m →
    Writes out (settle problem) out' m
unfolding completed_told counted after_complete
prints_refused problem c r n' buffer out out' m w a told big h = go (complete_call problem buffer) refl (sym (ap completed_told w) ∙ a)
  where
    n : ℕ
    n = number_of_reason r.reason

    go : (d : Reading (List ℕ)) → complete_call problem buffer ≡ d → refused n r.place ≡ counted d → Writes out (settle problem) out' m
    go (ok bytes) e a = absurd (no_ok a)
    go (refused k place) e a =
        let q : ◌≡◌ {A = Reading ℕ} (refused n r.place) (refused k place) = a in
        let x : k ≡ n = cc in
        let y : place ≡ r.place = cc in
        let z : complete_call problem buffer ≡ refused n r.place = e ∙ ap (λ u. refused u place) x ∙ ap (λ u. refused n u) y in
        settle_refused problem buffer big n r.place out out' m z (subst (λ u. Refusal u r.place out out' m) told h)
