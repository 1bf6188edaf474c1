-- What the copies of `remove` and `insert` leave, slot by slot; `insert` and `move_last` put one slot besides. Assumes nothing.
-- Read first: specs/Slots (Removed, Inserted, MovedLast), proofs/Parts.
use mathlib.Core.Path.{◌≡◌, sym, ap, ◌∙◌}
use mathlib.Core.List.{List}
use Prim.Native.Nat.{ℕ, ◌+◌, ◌*◌, ◌-◌, ◌<◌, ◌≤◌}
use native.Mathlib.Omega.{arith}
use Rattle.std.specs.List.{CopiedTo, SameBelow}
use lib.ListN.{length, get_or, drop, take}
use lib.Seq.{take_all}
use Rattle.fields.specs.Puts.{patched}
use Rattle.fields.proofs.Patching.{patched_here}
use Rattle.slots.specs.Slots.{slot_width, slot, OnlySlot, Removed, Inserted, MovedLast}
use Rattle.slots.proofs.Parts.{slot_moved, only_patched}

-- `remove`: from slot k on, the bytes are those one slot further on
pub removed : (slots : List ℕ) (k count : ℕ) (slots' : List ℕ) → k < count → slot_width * count ≤ length slots → length slots' ≡ length slots →
    CopiedTo slots slots' (slot_width * (k + 1)) (slot_width * k) (slot_width * count - slot_width * (k + 1)) → SameBelow slots slots' (slot_width * k) →
    Removed slots k count slots'
removed slots k count slots' h m l moved kept =
    record {
      same = l;
      before = λ j b. slot_moved slots slots' j j (omega arith) (omega arith) (λ a q. kept (slot_width * j + a) 0 (omega arith));
      behind = λ j b n.
          slot_moved slots slots' j (j + 1) (omega arith) (omega arith)
          (λ a q.
          let w : slot_width * (k + 1) + (slot_width * j + a - slot_width * k) ≡ slot_width * (j + 1) + a = omega arith in
          moved (slot_width * j + a) 0 (omega arith) (omega arith) ∙ ap (λ z. get_or slots z 0) w);
    }

-- the first step of `insert`: from slot k + 1 on, the bytes are those one slot before
module _ (slots : List ℕ) (k count : ℕ) (slots' : List ℕ) (h : k ≤ count) (m : slot_width * (count + 1) ≤ length slots) (l : length slots' ≡ length slots) where
  room_before : SameBelow slots slots' (slot_width * (k + 1)) → (i : ℕ) → i < k → slot slots' i ≡ slot slots i
  room_before kept i b = slot_moved slots slots' i i (omega arith) (omega arith) (λ a q. kept (slot_width * i + a) 0 (omega arith))

  room_behind : CopiedTo slots slots' (slot_width * k) (slot_width * (k + 1)) (slot_width * count - slot_width * k) →
      (i : ℕ) → k ≤ i → i < count → slot slots' (i + 1) ≡ slot slots i
  room_behind moved i b n =
      slot_moved slots slots' (i + 1) i (omega arith) (omega arith)
      (λ a q.
      let w : slot_width * k + (slot_width * (i + 1) + a - slot_width * (k + 1)) ≡ slot_width * i + a = omega arith in
      moved (slot_width * (i + 1) + a) 0 (omega arith) (omega arith) ∙ ap (λ z. get_or slots z 0) w)

-- a whole slot put at k
module _ (slots : List ℕ) (k : ℕ) (one slots' : List ℕ) (room : slot_width * (k + 1) ≤ length slots) (whole : length one ≡ slot_width)
    (e : slots' ≡ patched (slot_width * k) one slots) where
  pub one_only : OnlySlot slots k slots'
  one_only =
      let q : slot_width * k ≡ slot_width * k + 0 = omega arith in
      rw (e, q) (only_patched 0 one slots k room (omega arith))

  pub one_here : slot slots' k ≡ slot one 0
  unfolding slot
  one_here =
      ap (λ z. take slot_width (drop (slot_width * k) z)) e
      ∙ ap (λ z. take z (drop (slot_width * k) (patched (slot_width * k) one slots))) (sym whole)
      ∙ patched_here (slot_width * k) one slots (omega arith)
      ∙ sym (take_all slot_width one (omega arith))

-- `insert`
pub inserted : (slots : List ℕ) (k count : ℕ) (one slots₁ slots' : List ℕ) → k ≤ count → slot_width * (count + 1) ≤ length slots → length one ≡ slot_width →
    length slots₁ ≡ length slots → CopiedTo slots slots₁ (slot_width * k) (slot_width * (k + 1)) (slot_width * count - slot_width * k) →
    SameBelow slots slots₁ (slot_width * (k + 1)) → slots' ≡ patched (slot_width * k) one slots₁ → Inserted slots k count one slots'
inserted slots k count one slots₁ slots' h m w l moved kept e =
    let room : slot_width * (k + 1) ≤ length slots₁ = omega arith in
    let o = one_only slots₁ k one slots' room w e in
    record {
      same = o.same ∙ l;
      before = λ i b. o.others i (λ q. omega arith) ∙ room_before slots k count slots₁ h m l kept i b;
      here = one_here slots₁ k one slots' room w e;
      behind = λ i b n. o.others (i + 1) (λ q. omega arith) ∙ room_behind slots k count slots₁ h m l moved i b n;
    }

-- `move_last`
pub moved_last : (slots : List ℕ) (k count : ℕ) (one slots₁ slots' : List ℕ) → k < count → slot_width * count ≤ length slots → length one ≡ slot_width →
    slot one 0 ≡ slot slots k → Removed slots k count slots₁ → slots' ≡ patched (slot_width * (count - 1)) one slots₁ → MovedLast slots k count slots'
moved_last slots k count one slots₁ slots' h m w c r e =
    let l = r.same in
    let room : slot_width * (count - 1 + 1) ≤ length slots₁ = omega arith in
    let o = one_only slots₁ (count - 1) one slots' room w e in
    record {
      same = o.same ∙ l;
      before = λ i b. o.others i (λ q. omega arith) ∙ r.before i b;
      behind = λ i b n. o.others i (λ q. omega arith) ∙ r.behind i b n;
      last = λ i q. let f : i ≡ count - 1 = omega arith in ap (slot slots') f ∙ one_here slots₁ (count - 1) one slots' room w e ∙ c;
    }
