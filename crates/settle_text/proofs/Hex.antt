-- Bytes in hexadecimal, and from them a field's line and the text of a refusal, part behind part. Assumes nothing.
-- Read first: completion/specs/Settle (hex_byte, line), fields/specs/Puts, fields/proofs/Putting, proofs/Decimal.
use mathlib.Core.Path.{◌≡◌, refl, sym, ap, ap₂, ◌∙◌}
use mathlib.Core.List.{List, [], ◌∷◌, ◌++◌, flat_map}
use Prim.Native.Nat.{ℕ, ◌+◌, ◌*◌, ◌/◌, ◌%◌, ◌≤◌, ◌<◌}
use native.Mathlib.Omega.{arith}
use native.Mathlib.Numerals.{add-one}
use lib.ListN.{length, get_or, drop, drop_of_length-le}
use lib.Seq.{drop-cons}
use borrow.Author.Tests.{lt-ltb, le-ltb}
use Rattle.completion.specs.Calls.{written}
use Rattle.completion.specs.Settle.{ascii, hex_digit, hex_byte, decimal, line}
use Rattle.fields.specs.Puts.{patched, Puts, PutsSome, tagged}
use Rattle.fields.proofs.Appending.{patched_none, patched_behind, patched_front}
use Rattle.fields.proofs.Putting.{puts_length, puts_then, puts_counted}
use Rattle.settle_text.specs.Text.{Refusal}
use Rattle.settle_text.proofs.Decimal.{few_digits, twenty_digits}

-- `digit`
pub digit_low : (n : ℕ) → n < 10 → 48 + n ≡ hex_digit n
unfolding hex_digit
digit_low n h = rw (lt-ltb n 10 h) refl

pub digit_high : (n : ℕ) → 10 ≤ n → 87 + n ≡ hex_digit n
unfolding hex_digit
digit_high n h = rw (le-ltb n 10 h) refl

-- `put_hex`
pub puts_hex : (l l₁ l₂ : List ℕ) (at b x y a r : ℕ) → at + 2 ≤ length l → x ≡ hex_digit (b / 16) → y ≡ hex_digit (b % 16) →
    Puts l at 1 (x ∷ []) l₁ a → Puts l₁ a 1 (y ∷ []) l₂ r → Puts l at 2 (hex_byte b) l₂ r
unfolding hex_byte
puts_hex l l₁ l₂ at b x y a r room ex ey p q = rw (← ex, ← ey) (puts_then l at 1 1 (x ∷ []) (y ∷ []) l₁ l₂ a r (omega arith) p q)

-- `put_hexes`
pub record Hexing (from out₀ : List ℕ) (at : ℕ) (out : List ℕ) (i a : ℕ) : Type 0 where
  pub within : i ≤ length from
  pub same : length out ≡ length out₀
  pub place : a ≡ at + 2 * i
  pub to_do : patched a (flat_map hex_byte (drop i from)) out ≡ patched at (flat_map hex_byte from) out₀

pub hexing_start : (from out : List ℕ) (at : ℕ) → Hexing from out at out 0 at
hexing_start from out at = record { within = omega arith; same = refl; place = omega arith; to_do = refl }

hexes_length : (l : List ℕ) → length (flat_map hex_byte l) ≡ 2 * length l
unfolding flat_map hex_byte
hexes_length [] = refl
hexes_length (b ∷ l) = omega (arith, hexes_length l)

no_hex : (l : List ℕ) → l ≡ [] → flat_map hex_byte l ≡ []
unfolding flat_map
no_hex l e = rw e refl

next_hex : (from : List ℕ) (i : ℕ) → i < length from → flat_map hex_byte (drop i from) ≡ hex_byte (get_or from i 0) ++ flat_map hex_byte (drop (i + 1) from)
unfolding flat_map
next_hex from i h = rw (add-one i, drop-cons from i 0 h) refl

module _ (from out₀ : List ℕ) (at : ℕ) (room : at + 2 * length from ≤ length out₀) (out : List ℕ) (i a : ℕ) (h : Hexing from out₀ at out i a) where
  pub hexing_more : (out' : List ℕ) (r : ℕ) → i < length from → Puts out a 2 (hex_byte (get_or from i 0)) out' r → Hexing from out₀ at out' (i + 1) r
  hexing_more out' r l p =
      let x : List ℕ = hex_byte (get_or from i 0) in
      let s : length out ≡ length out₀ = h.same in
      let w : a ≡ at + 2 * i = h.place in
      let n : r ≡ a + 2 = p.next in
      let c : length x ≡ 2 = p.counted in
      let m : r ≡ a + length x = omega arith in
      record {
        within = omega arith;
        same = puts_length out a 2 x out' r (omega arith) p ∙ s;
        place = omega arith;
        to_do =
            ap₂ (λ (k : ℕ) (z : List ℕ). patched k (flat_map hex_byte (drop (i + 1) from)) z) m p.bytes
            ∙ patched_behind a x (flat_map hex_byte (drop (i + 1) from)) out (omega arith)
            ∙ ap (λ (z : List ℕ). patched a z out) (sym (next_hex from i l))
            ∙ h.to_do;
      }

  pub hexing_end : length from ≤ i → Puts out₀ at (2 * length from) (flat_map hex_byte from) out a
  hexing_end l =
      let k : i ≤ length from = h.within in
      let w : a ≡ at + 2 * i = h.place in
      let z : flat_map hex_byte (drop i from) ≡ [] = no_hex (drop i from) (drop_of_length-le from l) in
      record {
        bytes = sym (patched_none a out) ∙ ap (λ (b : List ℕ). patched a b out) (sym z) ∙ h.to_do;
        counted = hexes_length from;
        next = omega arith;
      }

-- `put_line`
module _ (l l₁ l₂ l₃ l₄ l₅ l₆ cs : List ℕ) (at tag a b c d e r : ℕ) (room : at + (10 + 2 * length cs) ≤ length l) (short : length cs < 65_536)
    (p₁ : Puts l at 2 (hex_byte tag) l₁ a) (p₂ : Puts l₁ a 1 (32 ∷ []) l₂ b) (p₃ : Puts l₂ b (length (decimal (length cs))) (decimal (length cs)) l₃ c)
    (p₄ : Puts l₃ c 1 (32 ∷ []) l₄ d) (p₅ : Puts l₄ d (2 * length cs) (flat_map hex_byte cs) l₅ e) (p₆ : Puts l₅ e 1 (10 ∷ []) l₆ r) where
  pub puts_line : PutsSome (10 + 2 * length cs) l at 1 (line (tagged tag cs)) l₆ r
  unfolding line ascii
  puts_line =
      let five : length (decimal (length cs)) ≤ 5 = few_digits (length cs) short in
      let n₁ : a ≡ at + 2 = p₁.next in
      let n₂ : b ≡ a + 1 = p₂.next in
      let n₃ : c ≡ b + length (decimal (length cs)) = p₃.next in
      let n₄ : d ≡ c + 1 = p₄.next in
      let n₅ : e ≡ d + 2 * length cs = p₅.next in
      let n₆ : r ≡ e + 1 = p₆.next in
      let q₂ = puts_then l at 2 1 (hex_byte tag) (32 ∷ []) l₁ l₂ a b (omega arith) p₁ p₂ in
      let q₃ = puts_then l at _ _ _ _ l₂ l₃ b c (omega arith) q₂ p₃ in
      let q₄ = puts_then l at _ _ _ _ l₃ l₄ c d (omega arith) q₃ p₄ in
      let q₅ = puts_then l at _ _ _ _ l₄ l₅ d e (omega arith) q₄ p₅ in
      let q₆ = puts_then l at _ _ _ _ l₅ l₆ e r (omega arith) q₅ p₆ in
      record { puts = puts_counted l at _ _ l₆ r q₆; room = omega arith }

-- `put_refused`
module _ (l l₁ l₂ l₃ l₄ l₅ : List ℕ) (number place a b r : ℕ) (room : 64 ≤ length l) (n_few : number < 18_446_744_073_709_551_616)
    (p_few : place < 18_446_744_073_709_551_616)
    (e₁ : l₁ ≡ patched 0 (114 ∷ 101 ∷ 102 ∷ 117 ∷ 115 ∷ 101 ∷ 100 ∷ 32 ∷ []) l) (p₂ : Puts l₁ 8 (length (decimal number)) (decimal number) l₂ a)
    (e₃ : l₃ ≡ patched a (32 ∷ 97 ∷ 116 ∷ 32 ∷ []) l₂) (p₄ : Puts l₃ (a + 4) (length (decimal place)) (decimal place) l₄ b)
    (p₅ : Puts l₄ b 1 (10 ∷ []) l₅ r) where
  pub puts_refused : (r ≤ 64) × Refusal number place l l₅ r
  unfolding ascii written
  puts_refused =
      let one : length (decimal number) ≤ 20 = twenty_digits number n_few in
      let other : length (decimal place) ≤ 20 = twenty_digits place p_few in
      let n₂ : a ≡ 8 + length (decimal number) = p₂.next in
      let n₄ : b ≡ a + 4 + length (decimal place) = p₄.next in
      let n₅ : r ≡ b + 1 = p₅.next in
      let p₁ : Puts l 0 8 (114 ∷ 101 ∷ 102 ∷ 117 ∷ 115 ∷ 101 ∷ 100 ∷ 32 ∷ []) l₁ 8 = record { bytes = e₁; counted = refl; next = refl } in
      let p₃ : Puts l₂ a 4 (32 ∷ 97 ∷ 116 ∷ 32 ∷ []) l₃ (a + 4) = record { bytes = e₃; counted = refl; next = refl } in
      let q₂ = puts_then l 0 8 (length (decimal number)) (114 ∷ 101 ∷ 102 ∷ 117 ∷ 115 ∷ 101 ∷ 100 ∷ 32 ∷ []) (decimal number) l₁ l₂ 8 a (omega arith) p₁ p₂ in
      let q₃ = puts_then l 0 _ _ _ _ l₂ l₃ a (a + 4) (omega arith) q₂ p₃ in
      let q₄ = puts_then l 0 _ _ _ _ l₃ l₄ (a + 4) b (omega arith) q₃ p₄ in
      let q₅ = puts_then l 0 _ _ _ _ l₄ l₅ b r (omega arith) q₄ p₅ in
      (omega arith, record { bytes = q₅.bytes ∙ patched_front _ l; count = omega (arith, q₅.next, q₅.counted) })
