-- A number's bytes put from the last to the first: what is still to put is the rest of the number in the bytes left. Assumes nothing.
-- Read first: terms/specs/Base (number_bytes), specs/Puts, proofs/Appending.
use mathlib.Core.Path.{◌≡◌, refl, sym, ap, ◌∙◌}
use mathlib.Core.List.{List, [], ◌∷◌}
use Prim.Native.Nat.{ℕ, suc, ◌+◌, ◌-◌, ◌/◌, ◌%◌, ◌≤◌, ◌<◌}
use native.Mathlib.Omega.{arith}
use lib.ListN.{length, set, length-set}
use Rattle.terms.specs.Base.{number_bytes}
use Rattle.terms.proofs.Limits.{length_number_bytes}
use Rattle.fields.specs.Puts.{patched, Puts}
use Rattle.fields.proofs.Appending.{patched_none, patched_before, patched_one}

-- what is still to put is the number m in so many bytes as are left
pub record Numbering (out₀ : List ℕ) (at width n : ℕ) (out : List ℕ) (left m : ℕ) : Type 0 where
  pub within : left ≤ width
  pub same : length out ≡ length out₀
  pub to_do : patched at (number_bytes left m) out ≡ patched at (number_bytes width n) out₀

pub numbering_start : (out : List ℕ) (at width n : ℕ) → Numbering out at width n out width n
numbering_start out at width n = record { within = omega arith; same = refl; to_do = refl }

module _ (out₀ : List ℕ) (at width n : ℕ) (room : at + width ≤ length out₀) (out : List ℕ) (left m : ℕ) (h : Numbering out₀ at width n out left m) where
  one_byte_less : (k : ℕ) → left ≡ suc k → patched at (number_bytes k (m / 256)) (set out (at + k) (m % 256)) ≡ patched at (number_bytes left m) out
  unfolding number_bytes
  one_byte_less k e =
      let w : length (number_bytes k (m / 256)) ≡ k = length_number_bytes k (m / 256) in
      let s : length out ≡ length out₀ = h.same in
      let l : left ≤ width = h.within in
      rw (e, patched_one (at + k) (m % 256) out (omega arith))
      (ap (λ (z : ℕ). patched at (number_bytes k (m / 256)) (patched (at + z) ((m % 256) ∷ []) out)) (sym w)
      ∙ patched_before at (number_bytes k (m / 256)) ((m % 256) ∷ []) out (omega arith))

  pub numbering_more : 0 < left → Numbering out₀ at width n (set out (at + (left - 1)) (m % 256)) (left - 1) (m / 256)
  numbering_more l =
      let i : left ≤ width = h.within in
      record {
        within = omega arith;
        same = length-set out (at + (left - 1)) (m % 256) ∙ h.same;
        to_do = one_byte_less (left - 1) (omega arith) ∙ h.to_do;
      }

  pub numbering_end : left ≤ 0 → Puts out₀ at width (number_bytes width n) out (at + width)
  unfolding number_bytes
  numbering_end l =
      let z : left ≡ 0 = omega arith in
      record {
        bytes = sym (patched_none at out) ∙ ap (λ k. patched at (number_bytes k m) out) (sym z) ∙ h.to_do;
        counted = length_number_bytes width n;
        next = refl;
      }
