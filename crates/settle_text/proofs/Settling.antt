-- The two texts, of the result's lines and of a refusal, are what the definition says that settle prints. Assumes nothing.
-- Read first: specs/Text (Lines, Refusal), completion/specs/Settle (settle).
use mathlib.Core.Path.{◌≡◌, refl, sym, ◌∙◌}
use mathlib.Core.List.{List}
use Prim.Native.Nat.{ℕ, ◌≤◌}
use native.Mathlib.Omega.{arith}
use lib.ListN.{length}
use Rattle.completion.proofs.Writing.{complete_is}
use Rattle.terms.proofs.Every.{every_map}
use Rattle.problem.specs.Problem.{Reading, ok, refused, ◌>>=◌, Problem, parse}
use Rattle.reading.proofs.Reading.{no_ok, ok_injective}
use Rattle.completion.specs.Turn.{run}
use Rattle.completion.specs.Calls.{result_fields, result_bytes, complete_call, Writes}
use Rattle.completion.specs.Settle.{settle}
use Rattle.completion.proofs.Capacity.{problem_fields_fit}
use Rattle.settle_text.specs.Text.{Lines, Refusal}

module _ (problem : List ℕ) (buffer : ℕ) (big : 16_384 ≤ buffer) where
  pub settle_lines : (result before after : List ℕ) (r : ℕ) → complete_call problem buffer ≡ ok result → Lines result before after r →
      Writes before (settle problem) after r
  unfolding ◌>>=◌ settle result_bytes
  settle_lines result before after r e h = go (parse problem) refl (sym (complete_is problem buffer big) ∙ e)
    where
      go : (m : Reading Problem) → parse problem ≡ m → (parse problem >>= λ P. ok (result_bytes (run P))) ≡ ok result → Writes before (settle problem) after r
      go (ok P) p q =
          let q' : ok (result_bytes (run P)) ≡ ok result = rw p at q in
          rw (p, settle)
          (h (result_fields (run P))
          (every_map (λ f k. let l : length f.contents ≤ 242 = k.length_fits in omega arith) (problem_fields_fit problem P p))
          (sym (ok_injective q')))
      go (refused n at) p q = absurd (no_ok (rw p at q))

  pub settle_refused : (n at : ℕ) (before after : List ℕ) (r : ℕ) → complete_call problem buffer ≡ refused n at →
      Refusal n at before after r → Writes before (settle problem) after r
  unfolding ◌>>=◌ settle
  settle_refused n at before after r e h = go (parse problem) refl (sym (complete_is problem buffer big) ∙ e)
    where
      go : (m : Reading Problem) → parse problem ≡ m → (parse problem >>= λ P. ok (result_bytes (run P))) ≡ refused n at →
          Writes before (settle problem) after r
      go (ok P) p q = let q' : ok (result_bytes (run P)) ≡ refused n at = rw p at q in absurd (no_ok (sym q'))
      go (refused m place) p q =
          let q' : ◌≡◌ {A = Reading (List ℕ)} (refused m place) (refused n at) = rw p at q in
          let a : m ≡ n = cc in
          let b : place ≡ at = cc in
          rw (p, settle) (rw (a, b) h)
