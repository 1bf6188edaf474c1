-- What the functions that read a slot answer: its parts, by the places of its bytes in the list. Assumes nothing.
-- Read first: specs/Slots (slot, left_of, mark_of), proofs/Parts.
use mathlib.Core.Path.{◌≡◌, refl, sym, ap, ap₂, ◌∙◌}
use mathlib.Core.List.{List, [], ◌∷◌, ◌++◌}
use Prim.Native.Nat.{ℕ, ◌+◌, ◌*◌, ◌-◌, ◌%◌, ◌<◌, ◌≤◌}
use native.Mathlib.Omega.{arith}
use lib.ListN.{length, get_or, drop, take, length-take}
use lib.Seq.{take_all, take-take}
use Rattle.limits.specs.Limits.{most_nodes, origin_width}
use Rattle.terms.specs.Base.{number_bytes}
use Rattle.fields.proofs.Patching.{part_is}
use Rattle.slots.specs.Slots.{left_at, right_at, slot_width, slot, mark_of, number_of, left_length, right_length, left_of, right_of, Layout}
use Rattle.slots.specs.Slots.{overlapping_bytes}
use Rattle.slots.proofs.Parts.{slot_length, slot_part, slot_byte}

module _ (slots : List ℕ) (k : ℕ) where
  pub left_length_at : left_length (slot slots k) ≡ get_or slots (slot_width * k + origin_width) 0
  unfolding left_length
  left_length_at = slot_byte slots k origin_width (omega arith)

  pub right_length_at : right_length (slot slots k) ≡ get_or slots (slot_width * k + (origin_width + 1)) 0
  unfolding right_length
  right_length_at = slot_byte slots k (origin_width + 1) (omega arith)

  -- the n bytes from a place of the slot on, as they are lent
  abbrev part : ℕ → ℕ → List ℕ
  part place n = take (slot_width * k + place + n - (slot_width * k + place)) (drop (slot_width * k + place) slots)

  -- a side of n bytes: a law over its place and that of its length
  module _ (place length_at : ℕ) (n : ℕ) (room : place + most_nodes ≤ slot_width) (inside : length_at < slot_width)
      (short : get_or (slot slots k) length_at 0 ≤ most_nodes) (e : n ≡ get_or slots (slot_width * k + length_at) 0) where
    is_length : n ≡ get_or (slot slots k) length_at 0
    is_length = e ∙ sym (slot_byte slots k length_at inside)

    side_read : (part place n ≡ take (get_or (slot slots k) length_at 0) (drop place (slot slots k))) × (length (part place n) ≤ most_nodes)
    side_read = (
      part_is slots (slot_width * k + place) n
          ∙ sym (slot_part slots k place n (omega (arith, is_length)))
          ∙ ap (λ z. take z (drop place (slot slots k))) is_length,
      omega (arith, is_length, length-take (slot_width * k + place + n - (slot_width * k + place)) (drop (slot_width * k + place) slots)),
    )

  module _ (n : ℕ) (y : Layout slots (k + 1)) where
    pub left_few : n ≡ get_or slots (slot_width * k + origin_width) 0 → n ≤ most_nodes
    left_few e = let s = y.short k (omega arith) in let m = s.left in omega (arith, left_length_at)

    pub left_read : n ≡ get_or slots (slot_width * k + origin_width) 0 →
        (part left_at n ≡ left_of (slot slots k)) × (length (part left_at n) ≤ most_nodes)
    unfolding left_of left_length
    left_read e = side_read left_at origin_width n (omega arith) (omega arith) (y.short k (omega arith)).left e

    pub right_few : n ≡ get_or slots (slot_width * k + (origin_width + 1)) 0 → n ≤ most_nodes
    right_few e = let s = y.short k (omega arith) in let m = s.right in omega (arith, right_length_at)

    pub right_read : n ≡ get_or slots (slot_width * k + (origin_width + 1)) 0 →
        (part right_at n ≡ right_of (slot slots k)) × (length (part right_at n) ≤ most_nodes)
    unfolding right_of right_length
    right_read e = side_read right_at (origin_width + 1) n (omega arith) (omega arith) (y.short k (omega arith)).right e

-- parts of a slot, by value: `copy`, `mark`, `number`
module _ (slots : List ℕ) (k : ℕ) where
  pub copied : (one : List ℕ) → slot_width * (k + 1) ≤ length slots → one ≡ take slot_width (drop (slot_width * k) slots) → slot one 0 ≡ slot slots k
  unfolding slot
  copied one r e =
      let p : one ≡ slot slots k = e in
      take_all slot_width one (omega (arith, ap length p, slot_length slots k r)) ∙ p

  pub mark_read : take origin_width (drop (slot_width * k) slots) ≡ mark_of (slot slots k)
  unfolding mark_of slot
  mark_read = sym (take-take origin_width slot_width (drop (slot_width * k) slots) (omega arith))

  pub number_read : take 2 (drop (slot_width * k + 1) slots) ≡ number_of (slot slots k)
  unfolding number_of
  number_read = sym (slot_part slots k 1 2 (omega arith))

-- `overlapping`
pair_is : (l : List ℕ) → length l ≡ 2 → get_or l 0 0 ∷ (get_or l 1 0 ∷ []) ≡ l
pair_is [] h = absurd (omega arith)
pair_is (a ∷ []) h = absurd (omega arith)
pair_is (a ∷ (b ∷ [])) h = refl
pair_is (a ∷ (b ∷ (c ∷ l))) h = absurd (omega arith)

pub overlapping_at : (rules : List ℕ) (inner outer position : ℕ) (a b : List ℕ) → position < 256 → length a ≡ 2 → length b ≡ 2 →
    a ≡ number_of (slot rules inner) → b ≡ number_of (slot rules outer) →
    4 ∷ (get_or a 0 0 ∷ (get_or a 1 0 ∷ (get_or b 0 0 ∷ (get_or b 1 0 ∷ (position ∷ []))))) ≡ overlapping_bytes rules inner outer position
unfolding number_bytes
overlapping_at rules inner outer position a b p m n e f =
    ap₂ (λ x y. 4 ∷ (x ++ y ++ (position ∷ []))) (pair_is a m ∙ e) (pair_is b n ∙ f)
    ∙ ap (λ z. 4 ∷ (number_of (slot rules inner) ++ number_of (slot rules outer) ++ (z ∷ []))) (let q : position ≡ position % 256 = omega arith in q)
