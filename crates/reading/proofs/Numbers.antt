-- A number read byte by byte: what the first bytes are, and what one more makes of it. Assumes nothing.
-- Read first: terms/specs/Base (number_from), terms/proofs/Numerals.
use mathlib.Core.Path.{◌≡◌, refl, ap, ap₂, sym, ◌∙◌}
use mathlib.Core.List.{List}
use Prim.Native.Nat.{ℕ, zero, suc, ◌+◌, ◌-◌, ◌*◌, ◌^◌, ◌≤◌, ◌<◌}
use native.Mathlib.Omega.{arith}
use native.Mathlib.Nat.{pow-suc}
use native.Mathlib.Numerals.{add-one}
use lib.ListN.{length, take, drop, get_or, length-take, length-drop}
use lib.Seq.{take-length}
use Rattle.terms.specs.Base.{number_from}
use Rattle.terms.proofs.Numerals.{number_more}

-- the first i of the bytes s are the number n
pub record Counted (s : List ℕ) (n i : ℕ) : Type 0 where
  pub is : n ≡ number_from 0 (take i s)
  pub fits : n < 256 ^ i

pub counted_start : (s : List ℕ) → Counted s 0 0
unfolding number_from
counted_start s = record { is = refl; fits = omega arith }

fits_four : (i n : ℕ) → i < 4 → n < 256 ^ i → n < 16_777_216
fits_four zero n h k = omega arith
fits_four (suc zero) n h k = omega arith
fits_four (suc (suc zero)) n h k = omega arith
fits_four (suc (suc (suc zero))) n h k = omega arith
fits_four (suc (suc (suc (suc i)))) n h k = absurd (omega arith)

module _ (s : List ℕ) (n i : ℕ) (c : Counted s n i) (h : i < length s) where
  pub counted_small : length s ≤ 4 → n < 16_777_216
  counted_small w = fits_four i n (omega arith) c.fits

  pub counted_more : (b : ℕ) → b ≡ get_or s i 0 → b < 256 → Counted s (n * 256 + b) (i + 1)
  counted_more b e low =
      let f : n < 256 ^ i = c.fits in
      let p : 256 ^ (i + 1) ≡ 256 ^ i * 256 = rw (add-one i) (pow-suc 256 i) in
      record {
        is = ap₂ (λ x y. x * 256 + y) c.is e ∙ sym (rw (add-one i) (number_more i s h));
        fits = omega arith;
      }

-- the bytes of t from `at` on, of which there are so many
module _ (t : List ℕ) (at width : ℕ) (room : at + width ≤ length t) where
  abbrev part : List ℕ
  part = take (at + width - at) (drop at t)

  pub length_part : length part ≡ width
  length_part = length-take (at + width - at) (drop at t) ∙ omega (arith, length-drop at t)

  pub counted_end : (n i : ℕ) → Counted part n i → i ≡ width → (n ≡ number_from 0 (take width (drop at t))) × (n < 256 ^ width)
  counted_end n i c e =
      let w : at + width - at ≡ width = omega arith in
      let p : part ≡ take width (drop at t) = ap (λ k. take k (drop at t)) w in
      let all : take i part ≡ part = ap (λ k. take k part) (e ∙ sym length_part) ∙ take-length part in
      (c.is ∙ ap (number_from 0) (all ∙ p), rw e at c.fits)
