-- A slot's bytes are those of the list from the slot's place on; bytes put into a slot change that slot alone, and there the same part. Assumes nothing.
-- Read first: specs/Slots (slot, OnlySlot), fields/specs/Puts (patched), fields/proofs/Patching.
use mathlib.Core.Path.{◌≡◌, sym, ap, ap₂, ◌∙◌}
use mathlib.Core.List.{List, ◌++◌, append_assoc}
use Prim.Native.Nat.{ℕ, ◌+◌, ◌*◌, ◌-◌, ◌<◌, ◌≤◌}
use native.Mathlib.Omega.{arith}
use native.Mathlib.Decide.{dec_lt}
use lib.ListN.{length, get_or, drop, take, length-append, length-drop}
use lib.Seq.{length-take-le, take-take, take-add, take-append-add, drop_at, drop-drop, get_or-take, get_or-drop, ext_get_or}
use Rattle.terms.proofs.Lists.{take_drop}
use Rattle.fields.specs.Puts.{patched}
use Rattle.fields.proofs.Patching.{length_patched, patched_before, patched_after}
use Rattle.slots.specs.Slots.{slot_width, slot, OnlySlot}

-- Lengths, parts and bytes.
pub slot_length : (slots : List ℕ) (k : ℕ) → slot_width * (k + 1) ≤ length slots → length (slot slots k) ≡ slot_width
unfolding slot
slot_length slots k h = length-take-le slot_width (drop (slot_width * k) slots) (omega (arith, length-drop (slot_width * k) slots))

pub slot_part : (slots : List ℕ) (k a n : ℕ) → a + n ≤ slot_width → take n (drop a (slot slots k)) ≡ take n (drop (slot_width * k + a) slots)
unfolding slot
slot_part slots k a n h =
    take_drop a n (take slot_width (drop (slot_width * k) slots))
    ∙ ap (drop a) (take-take (a + n) slot_width (drop (slot_width * k) slots) h)
    ∙ sym (take_drop a n (drop (slot_width * k) slots))
    ∙ ap (take n) (drop-drop a (slot_width * k) slots)

pub slot_byte : (slots : List ℕ) (k a : ℕ) → a < slot_width → get_or (slot slots k) a 0 ≡ get_or slots (slot_width * k + a) 0
unfolding slot
slot_byte slots k a h = get_or-take slot_width (drop (slot_width * k) slots) a 0 h ∙ get_or-drop (slot_width * k) slots a 0

-- two slots with the same bytes
pub slot_moved : (slots slots' : List ℕ) (i j : ℕ) → slot_width * (i + 1) ≤ length slots' → slot_width * (j + 1) ≤ length slots →
    ((a : ℕ) → a < slot_width → get_or slots' (slot_width * i + a) 0 ≡ get_or slots (slot_width * j + a) 0) → slot slots' i ≡ slot slots j
slot_moved slots slots' i j r s f =
    let m = slot_length slots' i r in
    ext_get_or 0 (slot slots' i) (slot slots j) (m ∙ sym (slot_length slots j s))
    (λ a h. let b : a < slot_width = omega arith in slot_byte slots' i a b ∙ f a b ∙ sym (slot_byte slots j a b))

-- Bytes put into slot k.
module _ (a : ℕ) (p : List ℕ) where
  drop_patched : (m : ℕ) (d : List ℕ) → m + a + length p ≤ length d → drop m (patched (m + a) p d) ≡ patched a p (drop m d)
  unfolding patched
  drop_patched m d h =
      let e : m + (a + length p) ≡ m + a + length p = omega arith in
      let y : List ℕ = p ++ drop (m + a + length p) d in
      ap (λ z. drop m (z ++ y)) (take-add m a d)
      ∙ ap (drop m) (append_assoc (take m d) (take a (drop m d)) y)
      ∙ drop_at (take m d) (take a (drop m d) ++ y) m (length-take-le m d (omega arith))
      ∙ ap (λ z. take a (drop m d) ++ (p ++ z)) (ap (λ z. drop z d) (sym e) ∙ sym (drop-drop (a + length p) m d))

  take_patched : (n : ℕ) (d : List ℕ) → a + length p ≤ n → n ≤ length d → take n (patched a p d) ≡ patched a p (take n d)
  unfolding patched
  take_patched n d h r =
      let j : ℕ = a + length p in
      let m : length (take a d ++ p) ≡ j = length-append (take a d) p ∙ omega (arith, length-take-le a d (let q : a ≤ length d = omega arith in q)) in
      let e : n ≡ length (take a d ++ p) + (n - j) = omega arith in
      let f : j + (n - j) ≡ n = omega arith in
      ap (take n) (sym (append_assoc (take a d) p (drop j d)))
      ∙ ap (λ z. take z (take a d ++ p ++ drop j d)) e
      ∙ take-append-add (take a d ++ p) (drop j d) (n - j)
      ∙ append_assoc (take a d) p (take (n - j) (drop j d))
      ∙ ap₂ (λ x y. x ++ (p ++ y)) (sym (take-take a n d (omega arith))) (take_drop j (n - j) d ∙ ap (λ z. drop j (take z d)) f)

  module _ (slots : List ℕ) (k : ℕ) (room : slot_width * (k + 1) ≤ length slots) (fits : a + length p ≤ slot_width) where
    pub slot_patched : slot (patched (slot_width * k + a) p slots) k ≡ patched a p (slot slots k)
    unfolding slot
    slot_patched =
        ap (take slot_width) (drop_patched (slot_width * k) slots (omega arith))
        ∙ take_patched slot_width (drop (slot_width * k) slots) fits (omega (arith, length-drop (slot_width * k) slots))

    pub only_patched : OnlySlot slots k (patched (slot_width * k + a) p slots)
    unfolding slot
    only_patched = record { same = length_patched (slot_width * k + a) p slots (omega arith); others = λ i n. go i n (dec_lt i k) }
      where
        go : (i : ℕ) → (i ≡ k → ⊥) → Dec (i < k) → slot (patched (slot_width * k + a) p slots) i ≡ slot slots i
        go i n (yes h) = patched_before (slot_width * k + a) p slots (omega arith) (slot_width * i) slot_width (omega arith)
        go i n (no h) =
            let b : k < i = omega (arith, n) in ap (take slot_width) (patched_after (slot_width * k + a) p slots (omega arith) (slot_width * i) (omega arith))

pub only_trans : {slots slots₁ slots₂ : List ℕ} {k : ℕ} → OnlySlot slots k slots₁ → OnlySlot slots₁ k slots₂ → OnlySlot slots k slots₂
only_trans p q = record { same = q.same ∙ p.same; others = λ i n. q.others i n ∙ p.others i n }
