-- Bytes put behind or before bytes that were put are all of them put at once. Assumes nothing.
-- Read first: specs/Puts (patched), proofs/Patching.
use mathlib.Core.Path.{◌≡◌, refl, sym, ap, ap₂, ◌∙◌}
use mathlib.Core.List.{List, [], ◌∷◌, ◌++◌, append_assoc}
use Prim.Native.Nat.{ℕ, ◌+◌, ◌≤◌, ◌<◌}
use native.Mathlib.Omega.{arith}
use native.Mathlib.Numerals.{add-one}
use lib.ListN.{length, take, drop, set, length-append, take-append-drop}
use lib.Seq.{length-take-le, take_at, drop_at, take-take, take-append-le, set_split}
use Rattle.fields.specs.Puts.{patched}
use Rattle.fields.proofs.Patching.{patched_after, front_more}

-- nothing put
pub patched_none : (at : ℕ) (l : List ℕ) → patched at [] l ≡ l
unfolding patched
patched_none at l = let z : at + 0 ≡ at = omega arith in rw z (take-append-drop at l)

module _ (at : ℕ) (xs ys l : List ℕ) (room : at + length xs ≤ length l) where
  both : at + length xs + length ys ≡ at + length (xs ++ ys)
  both = omega (arith, length-append xs ys)

  joined : take at l ++ xs ++ (ys ++ drop (at + length xs + length ys) l) ≡ patched at (xs ++ ys) l
  unfolding patched
  joined = rw (← both) (simp append_assoc)

  -- ys behind xs, which was put first
  pub patched_behind : patched (at + length xs) ys (patched at xs l) ≡ patched at (xs ++ ys) l
  unfolding patched
  patched_behind =
      let f : take (at + length xs) (patched at xs l) ≡ take at l ++ xs = front_more at (at + length xs) xs l room refl in
      let g : drop (at + length xs + length ys) (patched at xs l) ≡ drop (at + length xs + length ys) l =
      patched_after at xs l (omega arith) (at + length xs + length ys) (omega arith) in
      ap₂ (λ x y. x ++ (ys ++ y)) f g ∙ joined

  -- xs before ys, which was put first
  pub patched_before : patched at xs (patched (at + length xs) ys l) ≡ patched at (xs ++ ys) l
  unfolding patched
  patched_before =
      let k : ℕ = at + length xs in
      let n : length (take k l) ≡ k = length-take-le k l (omega arith) in
      let f : take at (patched k ys l) ≡ take at l =
      take-append-le at (take k l) (ys ++ drop (k + length ys) l) (omega arith) ∙ take-take at k l (omega arith) in
      let g : drop k (patched k ys l) ≡ ys ++ drop (k + length ys) l = drop_at (take k l) (ys ++ drop (k + length ys) l) k n in
      ap₂ (λ x y. x ++ (xs ++ y)) f g ∙ sym (append_assoc (take at l) xs (ys ++ drop (k + length ys) l)) ∙ joined

-- one byte
pub patched_one : (at b : ℕ) (l : List ℕ) → at < length l → set l at b ≡ patched at (b ∷ []) l
unfolding patched
patched_one at b l h = rw (add-one at) (set_split l at b h)

-- put at the front
pub patched_front : (ys l : List ℕ) → patched 0 ys l ≡ ys ++ drop (length ys) l
unfolding patched
patched_front ys l = let z : 0 + length ys ≡ length ys = omega arith in rw z refl

-- two lists, one behind the other, put at the front
pub both_front : (left right d d₁ d₂ : List ℕ) → d₁ ≡ patched 0 left d → d₂ ≡ patched (length left) right d₁ →
    take (length left + length right) d₂ ≡ left ++ right
unfolding patched
both_front left right d d₁ d₂ p q =
    let a : take (length left) d₁ ≡ left = ap (take (length left)) p ∙ take_at left (drop (0 + length left) d) (length left) refl in
    let rest : List ℕ = drop (length left + length right) d₁ in
    ap (take (length left + length right)) (q ∙ ap (λ z. z ++ (right ++ rest)) a ∙ sym (append_assoc left right rest))
    ∙ take_at (left ++ right) rest (length left + length right) (length-append left right)
