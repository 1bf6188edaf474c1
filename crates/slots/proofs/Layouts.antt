-- Room and lengths of slots, and the pair that stands in a slot that was put. Assumes nothing.
-- Read first: specs/Slots (Layout, OnlySlot, PutSides).
use mathlib.Core.Path.{◌≡◌, refl, sym, ◌∙◌, subst, subst₂}
use mathlib.Core.List.{List}
use Prim.Native.Nat.{ℕ, zero, suc, ◌+◌, ◌*◌, ◌<◌, ◌≤◌}
use native.Mathlib.Omega.{arith}
use native.Mathlib.Decide.{ℕ_discrete}
use lib.ListN.{length, get_or, drop, replicate, length-drop, length-replicate}
use lib.Seq.{length-take-le}
use Rattle.limits.specs.Limits.{origin_width}
use Rattle.terms.specs.Term.{Term, Pair, term_bytes}
use Rattle.terms.specs.Flat.{Wf}
use Rattle.slots.specs.Slots.{slot_width, left_at, slot, left_of, right_of, left_length, right_length, Short, Layout, Sides, PairAt}
use Rattle.slots.specs.Slots.{OnlySlot, PutSides, PutMark, PutRight, KeptSlot}
use Rattle.slots.proofs.Parts.{slot_length, slot_byte}

pub layout_less : {slots : List ℕ} {m n : ℕ} → m ≤ n → Layout slots n → Layout slots m
layout_less h y = let r = y.room in record { room = omega arith; short = λ k j. y.short k (omega arith) }

pub layout_room : {slots : List ℕ} {n k : ℕ} → Layout slots n → k < n → slot_width * (k + 1) ≤ length slots
layout_room y h = let r = y.room in omega arith

pub short_moved : (slots slots' : List ℕ) (j k : ℕ) → slot slots' k ≡ slot slots j → Short (slot slots j) → Short (slot slots' k)
short_moved slots slots' j k e s = subst Short (sym e) s

-- slot k below n, or behind them, was written
pub layout_put : {slots slots' : List ℕ} {n k : ℕ} → Layout slots n → OnlySlot slots k slots' → Short (slot slots' k) → Layout slots' n
layout_put {slots} {slots'} {n} {k} y o s = let r = y.room in record { room = omega (arith, o.same); short = λ i h. go i h (ℕ_discrete i k) }
  where
    go : (i : ℕ) → i < n → Dec (i ≡ k) → Short (slot slots' i)
    go i h (yes e) = subst (λ z. Short (slot slots' z)) (sym e) s
    go i h (no e) = short_moved slots slots' i i (o.others i e) (y.short i h)

-- one slot more is short
pub layout_more : {slots : List ℕ} {n : ℕ} → Layout slots n → slot_width * (n + 1) ≤ length slots → Short (slot slots n) → Layout slots (n + 1)
layout_more {slots} {n} y r s = record { room = r; short = λ i h. go i h (ℕ_discrete i n) }
  where
    go : (i : ℕ) → i < n + 1 → Dec (i ≡ n) → Short (slot slots i)
    go i h (yes e) = subst (λ z. Short (slot slots z)) (sym e) s
    go i h (no e) = y.short i (omega (arith, e))

-- one slot, and one copied from a list
pub layout_one : {one : List ℕ} → slot_width ≤ length one → Short (slot one 0) → Layout one 1
layout_one {one} r s = record { room = omega arith; short = λ k h. let e : 0 ≡ k = omega arith in subst (λ z. Short (slot one z)) e s }

pub copied_layout : (slots one : List ℕ) (k n : ℕ) → Layout slots n → k < n → slot one 0 ≡ slot slots k → length one ≡ slot_width → Layout one 1
copied_layout slots one k n y h e l = layout_one (omega arith) (short_moved slots one k 0 e (y.short k h))

-- slots of zeros
zeros_at : (n i : ℕ) → ◌≡◌ {A = ℕ} (get_or (replicate n 0) i 0) 0
zeros_at zero i = refl
zeros_at (suc n) zero = refl
zeros_at (suc n) (suc i) = zeros_at n i

pub zeros_layout : (n count : ℕ) → slot_width * count ≤ n → Layout (replicate n 0) count
unfolding left_length right_length
zeros_layout n count h = record {
  room = omega (arith, length-replicate {A = ℕ} n 0);
  short = λ k _. record { left = omega (arith, byte k origin_width (omega arith)); right = omega (arith, byte k (origin_width + 1) (omega arith)) };
}
  where
    byte : (k a : ℕ) → a < slot_width → get_or (slot (replicate n 0) k) a 0 ≡ 0
    byte k a b = slot_byte (replicate n 0) k a b ∙ zeros_at n (slot_width * k + a)

pub layout_zeros : Layout (replicate slot_width 0) 1
layout_zeros = zeros_layout slot_width 1 (omega arith)

-- the left side of a slot is as long as the slot says
pub left_long : (slots : List ℕ) (k : ℕ) → Layout slots (k + 1) → length (left_of (slot slots k)) ≡ left_length (slot slots k)
unfolding left_of
left_long slots k y =
    let m = (y.short k (omega arith)).left in
    length-take-le (left_length (slot slots k)) (drop left_at (slot slots k))
    (omega (arith, length-drop left_at (slot slots k), slot_length slots k y.room))

-- the sides that were read are those of the pair in the slot
pub sides_read : {n : ℕ} {tab slots l r : List ℕ} {k : ℕ} {e : Pair} → l ≡ left_of (slot slots k) → r ≡ right_of (slot slots k) →
    PairAt n tab slots k e → Sides n tab l r e
sides_read {n} {tab} {e = e} p q h = subst₂ (λ l r. Sides n tab l r e) (sym p) (sym q) h.sides

-- the pair of a slot that was put, of one that got a mark, and of one that got another right side
pub pair_put : {n : ℕ} {tab slots : List ℕ} {k : ℕ} {left right slots' : List ℕ} {e : Pair} → PutSides slots k left right slots' → Sides n tab left right e →
    PairAt n tab slots' k e
pair_put p s = record {
  sides = record { left_wf = s.left_wf; right_wf = s.right_wf; left_bytes = p.left_is ∙ s.left_bytes; right_bytes = p.right_is ∙ s.right_bytes };
}

pub pair_mark : {n : ℕ} {tab slots : List ℕ} {k : ℕ} {mark slots' : List ℕ} {e : Pair} → PutMark slots k mark slots' → PairAt n tab slots k e →
    PairAt n tab slots' k e
pair_mark p h =
    let s = h.sides in
    record {
      sides = record { left_wf = s.left_wf; right_wf = s.right_wf; left_bytes = p.left_kept ∙ s.left_bytes; right_bytes = p.right_kept ∙ s.right_bytes };
    }

pub pair_right : {n : ℕ} {tab slots : List ℕ} {k : ℕ} {right slots' : List ℕ} {e : Pair} {u : Term} → PutRight slots k right slots' →
    PairAt n tab slots k e → Wf n tab u → right ≡ term_bytes u → PairAt n tab slots' k (record { left = e.left; right = u })
pair_right p h w q =
    let s = h.sides in
    record { sides = record { left_wf = s.left_wf; right_wf = w; left_bytes = p.left_kept ∙ s.left_bytes; right_bytes = p.right_is ∙ q } }

-- a slot that is lent alone
pub kept_none : (one : List ℕ) → KeptSlot one one
kept_none one = record { same = refl; mark = refl; layout = λ y. y }

pub kept_trans : {one one₁ one₂ : List ℕ} → KeptSlot one one₁ → KeptSlot one₁ one₂ → KeptSlot one one₂
kept_trans p q = record { same = q.same ∙ p.same; mark = q.mark ∙ p.mark; layout = λ y. q.layout (p.layout y) }

pub kept_put : {one left right one' : List ℕ} → PutSides one 0 left right one' → KeptSlot one one'
kept_put p = record { same = p.only.same; mark = p.mark; layout = λ y. layout_put y p.only p.short }
