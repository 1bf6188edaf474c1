-- What the functions that put bytes into a slot leave: the slot with the bytes at their place, part by part. Assumes nothing.
-- Read first: specs/Slots (PutSides, PutMark, PutRight), proofs/Parts.
use mathlib.Core.Path.{◌≡◌, sym, ap, ap₂, ◌∙◌, subst}
use mathlib.Core.List.{List, [], ◌∷◌}
use Prim.Native.Nat.{ℕ, ◌+◌, ◌*◌, ◌<◌, ◌≤◌}
use native.Mathlib.Omega.{arith}
use lib.ListN.{length, get_or, drop, take, set}
use lib.Seq.{get_or-take, get_or-drop}
use Rattle.limits.specs.Limits.{most_nodes, origin_width}
use Rattle.fields.specs.Puts.{patched}
use Rattle.fields.proofs.Patching.{length_patched, patched_here, patched_before, patched_after}
use Rattle.fields.proofs.Appending.{patched_one}
use Rattle.slots.specs.Slots.{left_at, right_at, slot_width, slot, mark_of, left_length, right_length, left_of, right_of, Short, OnlySlot, PutSides}
use Rattle.slots.specs.Slots.{PutMark, PutRight}
use Rattle.slots.proofs.Parts.{slot_length, slot_patched, only_patched, only_trans}

-- one byte, as a part
byte_of : (s : List ℕ) (i : ℕ) → get_or s i 0 ≡ get_or (take 1 (drop i s)) 0 0
byte_of s i =
    let e : i ≡ i + 0 = omega arith in
    ap (λ z. get_or s z 0) e ∙ sym (get_or-drop i s 0 0) ∙ sym (get_or-take 1 (drop i s) 0 0 (omega arith))

-- a byte behind the part that was put, and the byte that was put
byte_after : (a : ℕ) (p s : List ℕ) → a + length p ≤ length s → (i : ℕ) → a + length p ≤ i → get_or (patched a p s) i 0 ≡ get_or s i 0
byte_after a p s room i h =
    byte_of (patched a p s) i ∙ ap (λ z. get_or (take 1 z) 0 0) (patched_after a p s room i h) ∙ sym (byte_of s i)

byte_here : (a v : ℕ) (s : List ℕ) → a + 1 ≤ length s → get_or (patched a (v ∷ []) s) a 0 ≡ v
byte_here a v s h = byte_of (patched a (v ∷ []) s) a ∙ ap (λ z. get_or z 0 0) (patched_here a (v ∷ []) s h)

-- a side at a with its length at b
abbrev with_side : ℕ → ℕ → List ℕ → List ℕ → List ℕ
with_side a b side s = patched b (length side ∷ []) (patched a side s)

-- one slot, by itself
module _ (s : List ℕ) (whole : length s ≡ slot_width) where
  -- a mark of six bytes
  module _ (mark : List ℕ) (wide : length mark ≡ origin_width) where
    pub mark_here : mark_of (patched 0 mark s) ≡ mark
    unfolding mark_of
    mark_here = ap (λ z. take z (patched 0 mark s)) (sym wide) ∙ patched_here 0 mark s (omega arith)

    pub mark_left_length : left_length (patched 0 mark s) ≡ left_length s
    unfolding left_length
    mark_left_length = byte_after 0 mark s (omega arith) origin_width (omega arith)

    pub mark_right_length : right_length (patched 0 mark s) ≡ right_length s
    unfolding right_length
    mark_right_length = byte_after 0 mark s (omega arith) (origin_width + 1) (omega arith)

    pub mark_left : left_of (patched 0 mark s) ≡ left_of s
    unfolding left_of
    mark_left = ap₂ take mark_left_length (patched_after 0 mark s (omega arith) left_at (omega arith))

    pub mark_right : right_of (patched 0 mark s) ≡ right_of s
    unfolding right_of
    mark_right = ap₂ take mark_right_length (patched_after 0 mark s (omega arith) right_at (omega arith))

  -- a side with its length before it
  module _ (a b : ℕ) (side : List ℕ) (before : b < a) (fits : a + length side ≤ slot_width) where
    room : b + 1 ≤ length (patched a side s)
    room = omega (arith, length_patched a side s (omega arith))

    side_before : (i n : ℕ) → i + n ≤ b → take n (drop i (with_side a b side s)) ≡ take n (drop i s)
    side_before i n h = patched_before b (length side ∷ []) (patched a side s) room i n h ∙ patched_before a side s (omega arith) i n (omega arith)

    side_behind : (i : ℕ) → b < i → drop i (with_side a b side s) ≡ drop i (patched a side s)
    side_behind i h = patched_after b (length side ∷ []) (patched a side s) room i (omega arith)

    side_length : get_or (with_side a b side s) b 0 ≡ length side
    side_length = byte_here b (length side) (patched a side s) room

    side_here : (n : ℕ) → n ≡ length side → take n (drop a (with_side a b side s)) ≡ side
    side_here n e = ap₂ take e (side_behind a before) ∙ patched_here a side s (omega arith)

  -- a right side
  module _ (right : List ℕ) (few : length right ≤ most_nodes) where
    abbrev with_right : List ℕ
    with_right = with_side right_at (origin_width + 1) right s

    pub right_mark : mark_of with_right ≡ mark_of s
    unfolding mark_of
    right_mark = side_before right_at (origin_width + 1) right (omega arith) (omega arith) 0 origin_width (omega arith)

    pub right_left_length : left_length with_right ≡ left_length s
    unfolding left_length
    right_left_length =
        byte_of with_right origin_width
        ∙ ap (λ z. get_or z 0 0) (side_before right_at (origin_width + 1) right (omega arith) (omega arith) origin_width 1 (omega arith))
        ∙ sym (byte_of s origin_width)

    pub right_length_is : right_length with_right ≡ length right
    unfolding right_length
    right_length_is = side_length right_at (origin_width + 1) right (omega arith) (omega arith)

    pub right_left : left_length s ≤ most_nodes → left_of with_right ≡ left_of s
    unfolding left_of
    right_left h =
        ap₂ take right_left_length (side_behind right_at (origin_width + 1) right (omega arith) (omega arith) left_at (omega arith))
        ∙ patched_before right_at right s (omega arith) left_at (left_length s) (omega arith)

    pub right_right : right_of with_right ≡ right
    unfolding right_of
    right_right = side_here right_at (origin_width + 1) right (omega arith) (omega arith) (right_length with_right) right_length_is

  -- a left side
  module _ (left : List ℕ) (few : length left ≤ most_nodes) where
    abbrev with_left : List ℕ
    with_left = with_side left_at origin_width left s

    pub left_mark : mark_of with_left ≡ mark_of s
    unfolding mark_of
    left_mark = side_before left_at origin_width left (omega arith) (omega arith) 0 origin_width (omega arith)

    pub left_length_is : left_length with_left ≡ length left
    unfolding left_length
    left_length_is = side_length left_at origin_width left (omega arith) (omega arith)

    pub left_left : left_of with_left ≡ left
    unfolding left_of
    left_left = side_here left_at origin_width left (omega arith) (omega arith) (left_length with_left) left_length_is

-- Slot k of a list.
module _ (slots : List ℕ) (k : ℕ) (room : slot_width * (k + 1) ≤ length slots) where
  whole_slot : length (slot slots k) ≡ slot_width
  whole_slot = slot_length slots k room

  -- bytes from a on and one at b
  module _ (a : ℕ) (p slots₁ : List ℕ) (fits : a + length p ≤ slot_width) (e : slots₁ ≡ patched (slot_width * k + a) p slots) where
    pub first_only : OnlySlot slots k slots₁
    first_only = subst (OnlySlot slots k) (sym e) (only_patched a p slots k room fits)

    pub first_slot : slot slots₁ k ≡ patched a p (slot slots k)
    first_slot = ap (λ z. slot z k) e ∙ slot_patched a p slots k room fits

    module _ (b v : ℕ) (in_slot : b + 1 ≤ slot_width) where
      set_is : set slots₁ (slot_width * k + b) v ≡ patched (slot_width * k + b) (v ∷ []) slots₁
      set_is = patched_one (slot_width * k + b) v slots₁ (omega (arith, first_only.same))

      pub both_only : OnlySlot slots k (set slots₁ (slot_width * k + b) v)
      both_only =
          only_trans first_only (subst (OnlySlot slots₁ k) (sym set_is) (only_patched b (v ∷ []) slots₁ k (omega (arith, first_only.same)) in_slot))

      pub both_slot : slot (set slots₁ (slot_width * k + b) v) k ≡ patched b (v ∷ []) (patched a p (slot slots k))
      both_slot =
          ap (λ z. slot z k) set_is
          ∙ slot_patched b (v ∷ []) slots₁ k (omega (arith, first_only.same)) in_slot
          ∙ ap (patched b (v ∷ [])) first_slot

  -- `put_mark`
  pub put_mark : (mark slots' : List ℕ) → length mark ≡ origin_width → slots' ≡ patched (slot_width * k + 0) mark slots → PutMark slots k mark slots'
  put_mark mark slots' w e =
      let q : slot slots' k ≡ patched 0 mark (slot slots k) = first_slot 0 mark slots' (omega arith) e in
      let l : left_length (slot slots' k) ≡ left_length (slot slots k) = ap left_length q ∙ mark_left_length (slot slots k) whole_slot mark w in
      let r : right_length (slot slots' k) ≡ right_length (slot slots k) = ap right_length q ∙ mark_right_length (slot slots k) whole_slot mark w in
      record {
        only = first_only 0 mark slots' (omega arith) e;
        mark_is = ap mark_of q ∙ mark_here (slot slots k) whole_slot mark w;
        left_kept = ap left_of q ∙ mark_left (slot slots k) whole_slot mark w;
        right_kept = ap right_of q ∙ mark_right (slot slots k) whole_slot mark w;
        short = λ s. let x = s.left in let y = s.right in record { left = omega arith; right = omega arith };
      }

  -- `put_right`
  module _ (right slots₁ : List ℕ) (h : left_length (slot slots k) ≤ most_nodes) (f : length right ≤ most_nodes) (e : slots₁ ≡ patched
      (slot_width * k + right_at) right slots) where
    abbrev with_right_side : List ℕ
    with_right_side = set slots₁ (slot_width * k + (origin_width + 1)) (length right)

    right_slot : slot with_right_side k ≡ with_right (slot slots k) whole_slot right f
    right_slot = both_slot right_at right slots₁ (omega arith) e (origin_width + 1) (length right) (omega arith)

    pub right_now_short : Short (slot with_right_side k)
    right_now_short = record {
      left = omega (arith, ap left_length right_slot ∙ right_left_length (slot slots k) whole_slot right f);
      right = omega (arith, ap right_length right_slot ∙ right_length_is (slot slots k) whole_slot right f);
    }

    pub put_right : PutRight slots k right with_right_side
    put_right = record {
      only = both_only right_at right slots₁ (omega arith) e (origin_width + 1) (length right) (omega arith);
      mark = ap mark_of right_slot ∙ right_mark (slot slots k) whole_slot right f;
      left_kept = ap left_of right_slot ∙ right_left (slot slots k) whole_slot right f h;
      right_is = ap right_of right_slot ∙ right_right (slot slots k) whole_slot right f;
      short = λ s. right_now_short;
    }

-- `put_sides`: the left side with its length, then the right side
module _ (slots : List ℕ) (k : ℕ) (room : slot_width * (k + 1) ≤ length slots) (left slots₁ : List ℕ) (f : length left ≤ most_nodes)
    (e : slots₁ ≡ patched (slot_width * k + left_at) left slots) where
  abbrev with_left_side : List ℕ
  with_left_side = set slots₁ (slot_width * k + origin_width) (length left)

  pub left_only : OnlySlot slots k with_left_side
  left_only = both_only slots k room left_at left slots₁ (omega arith) e origin_width (length left) (omega arith)

  left_slot : slot with_left_side k ≡ with_left (slot slots k) (whole_slot slots k room) left f
  left_slot = both_slot slots k room left_at left slots₁ (omega arith) e origin_width (length left) (omega arith)

  left_now : left_length (slot with_left_side k) ≡ length left
  left_now = ap left_length left_slot ∙ left_length_is (slot slots k) (whole_slot slots k room) left f

  pub put_sides : (right slots₂ : List ℕ) → length right ≤ most_nodes → slots₂ ≡ patched (slot_width * k + right_at) right with_left_side →
      PutSides slots k left right (set slots₂ (slot_width * k + (origin_width + 1)) (length right))
  put_sides right slots₂ g d =
      let room₁ : slot_width * (k + 1) ≤ length with_left_side = omega (arith, left_only.same) in
      let h : left_length (slot with_left_side k) ≤ most_nodes = omega (arith, left_now) in
      let r = put_right with_left_side k room₁ right slots₂ h g d in
      record {
        only = only_trans left_only r.only;
        mark = r.mark ∙ ap mark_of left_slot ∙ left_mark (slot slots k) (whole_slot slots k room) left f;
        left_is = r.left_kept ∙ ap left_of left_slot ∙ left_left (slot slots k) (whole_slot slots k room) left f;
        right_is = r.right_is;
        short = right_now_short with_left_side k room₁ right slots₂ h g d;
      }
