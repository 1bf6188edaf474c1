-- A list with another put over a part of it: its length, the bytes there, before and behind are the expected ones. Assumes nothing. Also what a lent
-- part comes back as (`patched_back`).
-- Read first: specs/Puts (patched).
use mathlib.Core.Path.{◌≡◌, refl, sym, ap, ap₂, ◌∙◌}
use mathlib.Core.List.{List, ◌++◌, append_assoc, append-nil}
use Prim.Native.Nat.{ℕ, ◌+◌, ◌-◌, ◌≤◌}
use native.Mathlib.Omega.{arith}
use borrow.Rule.Slice.PartMut.{put_mid}
use lib.ListN.{length, drop, take, length-append, length-drop, take-append-drop, drop_of_length-le}
use lib.Seq.{length-take-le, take-append-le, drop-append-le, drop-append-add, take_at, drop_at, drop-drop, take-length}
use Rattle.fields.specs.Puts.{patched}

module _ (at : ℕ) (p d : List ℕ) (room : at + length p ≤ length d) where
  front : length (take at d) ≡ at
  front = length-take-le at d (omega arith)

  pub length_patched : length (patched at p d) ≡ length d
  unfolding patched
  length_patched =
      length-append (take at d) (p ++ drop (at + length p) d)
      ∙ omega (arith, front, length-append p (drop (at + length p) d), length-drop (at + length p) d)

  pub patched_here : take (length p) (drop at (patched at p d)) ≡ p
  unfolding patched
  patched_here = rw (drop_at (take at d) (p ++ drop (at + length p) d) at front) (take_at p (drop (at + length p) d) (length p) refl)

  front_part : (a n : ℕ) → a + n ≤ at → (y : List ℕ) → take n (drop a (take at d ++ y)) ≡ take n (drop a (take at d))
  front_part a n h y =
      ap (take n) (drop-append-le a (take at d) y (omega (arith, front)))
      ∙ take-append-le n (drop a (take at d)) y (omega (arith, front, length-drop a (take at d)))

  pub patched_before : (a n : ℕ) → a + n ≤ at → take n (drop a (patched at p d)) ≡ take n (drop a d)
  unfolding patched
  patched_before a n h =
      front_part a n h (p ++ drop (at + length p) d)
      ∙ sym (front_part a n h (drop at d))
      ∙ ap (λ z. take n (drop a z)) (take-append-drop at d)

  pub patched_after : (a : ℕ) → at + length p ≤ a → drop a (patched at p d) ≡ drop a d
  unfolding patched
  patched_after a h =
      let m : length (take at d ++ p) ≡ at + length p = length-append (take at d) p ∙ omega (arith, front) in
      let e : a ≡ length (take at d ++ p) + (a - (at + length p)) = omega arith in
      let f : at + length p + (a - (at + length p)) ≡ a = omega arith in
      ap (drop a) (sym (append_assoc (take at d) p (drop (at + length p) d)))
      ∙ ap (λ z. drop z (take at d ++ p ++ drop (at + length p) d)) e
      ∙ drop-append-add (take at d ++ p) (drop (at + length p) d) (a - (at + length p))
      ∙ drop-drop (a - (at + length p)) (at + length p) d
      ∙ ap (λ z. drop z d) f

-- one more behind the front
pub front_more : (at m : ℕ) (p d : List ℕ) → at + length p ≤ length d → m ≡ at + length p → take m (patched at p d) ≡ take at d ++ p
unfolding patched
front_more at m p d h e =
    let n : length (take at d ++ p) ≡ m = length-append (take at d) p ∙ omega (arith, length-take-le at d (let l : at ≤ length d = omega arith in l)) in
    ap (take m) (sym (append_assoc (take at d) p (drop (at + length p) d))) ∙ take_at (take at d ++ p) (drop (at + length p) d) m n

-- as a part of the list that was lent comes back: with ys, which are p, in its place
pub patched_back : (at : ℕ) (p d ys : List ℕ) → ys ≡ p → put_mid at (at + length p - at) d ys ≡ patched at p d
unfolding patched
patched_back at p d ys q =
    let n : at + length p - at ≡ length p = omega arith in
    rw (q, n) (ap (λ z. take at d ++ (p ++ z)) (drop-drop (length p) at d))

-- a part from a to a + n
pub part_is : (d : List ℕ) (a n : ℕ) → take (a + n - a) (drop a d) ≡ take n (drop a d)
part_is d a n = let e : a + n - a ≡ n = omega arith in ap (λ z. take z (drop a d)) e

-- a part that filled a whole buffer
pub filled : (src h p w : List ℕ) → src ≡ w → length w ≡ length h → p ≡ take (length src) src ++ drop (length src) h → p ≡ w
filled src h p w e n q =
    let j : length h ≤ length src = omega (arith, ap length e) in
    q ∙ ap₂ ◌++◌ (take-length src) (drop_of_length-le h j) ∙ append-nil src ∙ e
