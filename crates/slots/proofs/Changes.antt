-- A slot removed, inserted or moved behind the others: the room stays, and the list of pairs changes the same way. Assumes nothing.
-- Read first: specs/Slots (Removed, Inserted, MovedLast), Listing.
use mathlib.Core.Path.{◌≡◌, sym, ap, ◌∙◌, subst}
use mathlib.Core.List.{List, [], ◌∷◌, ◌++◌}
use Prim.Native.Nat.{ℕ, zero, suc, ◌+◌, ◌*◌, ◌<◌, ◌≤◌}
use native.Mathlib.Omega.{arith}
use native.Mathlib.Decide.{dec_lt, ℕ_discrete}
use native.Mathlib.Numerals.{add-one}
use lib.ListN.{length, length-append}
use Rattle.slots.specs.Slots.{slot_width, slot, Short, Layout, Marked, MarkedAt, Holds, Removed, Inserted, MovedLast}
use Rattle.slots.proofs.Listing.{all_split, all_join, all_one, all_cons, all_first, all_rest, marked_moved, holds_moved}
use Rattle.slots.proofs.Layouts.{short_moved}

pub removed_layout : {slots : List ℕ} {k count n : ℕ} {slots' : List ℕ} → Removed slots k count slots' → Layout slots count → suc n ≡ count →
    k < count → Layout slots' n
removed_layout {slots} {k} {count} {n} {slots'} r y e h =
    let m = y.room in
    record { room = omega (arith, r.same); short = λ i j. go i j (dec_lt i k) }
  where
    go : (i : ℕ) → i < n → Dec (i < k) → Short (slot slots' i)
    go i j (yes b) = short_moved slots slots' i i (r.before i b) (y.short i (omega arith))
    go i j (no b) = short_moved slots slots' (i + 1) i (r.behind i (omega arith) (omega arith)) (y.short (i + 1) (omega arith))

pub inserted_layout : {slots : List ℕ} {k count : ℕ} {one slots' : List ℕ} → Inserted slots k count one slots' →
    slot_width * (count + 1) ≤ length slots → Layout slots count →
    Short (slot one 0) → k ≤ count → Layout slots' (count + 1)
inserted_layout {slots} {k} {count} {one} {slots'} r m y s h = record { room = omega (arith, r.same); short = λ i j. go i j (dec_lt i k) }
  where
    behind : (i : ℕ) → i < count + 1 → k ≤ i → Dec (i ≡ k) → Short (slot slots' i)
    behind i j b (yes e) = subst (λ z. Short (slot slots' z)) (sym e) (short_moved one slots' 0 k r.here s)
    behind zero j b (no e) = absurd (e (omega arith))
    behind (suc i) j b (no e) =
        subst (λ z. Short (slot slots' z)) (add-one i)
        (short_moved slots slots' i (i + 1) (r.behind i (let q : k ≤ i = omega (arith, e) in q) (omega arith)) (y.short i (omega arith)))

    go : (i : ℕ) → i < count + 1 → Dec (i < k) → Short (slot slots' i)
    go i j (yes b) = short_moved slots slots' i i (r.before i b) (y.short i (omega arith))
    go i j (no b) = behind i j (omega arith) (ℕ_discrete i k)

pub moved_layout : {slots : List ℕ} {k count : ℕ} {slots' : List ℕ} → MovedLast slots k count slots' → Layout slots count → k < count → Layout slots' count
moved_layout {slots} {k} {count} {slots'} r y h =
    let m = y.room in
    record { room = omega (arith, r.same); short = λ i j. go i j (dec_lt i k) (dec_lt (i + 1) count) }
  where
    go : (i : ℕ) → i < count → Dec (i < k) → Dec (i + 1 < count) → Short (slot slots' i)
    go i j (yes b) d = short_moved slots slots' i i (r.before i b) (y.short i j)
    go i j (no b) (yes d) = short_moved slots slots' (i + 1) i (r.behind i (omega arith) d) (y.short (i + 1) d)
    go i j (no b) (no d) = short_moved slots slots' k i (r.last i (omega arith)) (y.short k h)

same_place : (slots : List ℕ) (i j : ℕ) → i ≡ j → slot slots i ≡ slot slots j
same_place slots i j e = ap (slot slots) e

pub removed_holds : {slots : List ℕ} {k count : ℕ} {slots' : List ℕ} (tab : List ℕ) (xs : List Marked) (m : Marked) (ys : List Marked) →
    Holds tab slots 0 (xs ++ (m ∷ ys)) → length xs ≡ k → length (xs ++ (m ∷ ys)) ≡ count → Removed slots k count slots' → Holds tab slots' 0 (xs ++ ys)
removed_holds {slots} {k} {count} {slots'} tab xs m ys h e f r =
    let s = all_split (MarkedAt tab slots) 0 xs (m ∷ ys) h in
    let n : length xs + suc (length ys) ≡ count = sym (length-append xs (m ∷ ys)) ∙ f in
    all_join (MarkedAt tab slots') 0 xs ys
    (holds_moved tab slots slots' 0 0 xs (λ i q. r.before (0 + i) (omega arith)) s.0)
    (holds_moved tab slots slots' (suc (0 + length xs)) (0 + length xs) ys
    (λ i q. r.behind (0 + length xs + i) (omega arith) (omega arith) ∙ same_place slots (0 + length xs + i + 1) (suc (0 + length xs) + i) (omega arith))
    (all_rest (MarkedAt tab slots) (0 + length xs) m ys s.1))

pub inserted_holds : {slots : List ℕ} {k count : ℕ} {one slots' : List ℕ} (tab : List ℕ) (xs : List Marked) (m : Marked) (ys : List Marked) →
    Holds tab slots 0 (xs ++ ys) → length xs ≡ k → length (xs ++ ys) ≡ count → MarkedAt tab one 0 m → Inserted slots k count one slots' →
    Holds tab slots' 0 (xs ++ (m ∷ ys))
inserted_holds {slots} {k} {count} {one} {slots'} tab xs m ys h e f p r =
    let s = all_split (MarkedAt tab slots) 0 xs ys h in
    let n : length xs + length ys ≡ count = sym (length-append xs ys) ∙ f in
    all_join (MarkedAt tab slots') 0 xs (m ∷ ys)
    (holds_moved tab slots slots' 0 0 xs (λ i q. r.before (0 + i) (omega arith)) s.0)
    (all_cons (MarkedAt tab slots') (0 + length xs) m ys
    (marked_moved (same_place slots' (0 + length xs) k (omega arith) ∙ r.here) p)
    (holds_moved tab slots slots' (0 + length xs) (suc (0 + length xs)) ys
    (λ i q. same_place slots' (suc (0 + length xs) + i) (0 + length xs + i + 1) (omega arith) ∙ r.behind (0 + length xs + i) (omega arith) (omega arith))
    s.1))

-- the others stand as if it were removed
pub removed_of : {slots : List ℕ} {k count : ℕ} {slots' : List ℕ} → MovedLast slots k count slots' → Removed slots k count slots'
removed_of r = record { same = r.same; before = r.before; behind = r.behind }

pub moved_holds : {slots : List ℕ} {k count : ℕ} {slots' : List ℕ} (tab : List ℕ) (xs : List Marked) (m : Marked) (ys : List Marked) →
    Holds tab slots 0 (xs ++ (m ∷ ys)) → length xs ≡ k → length (xs ++ (m ∷ ys)) ≡ count → MovedLast slots k count slots' →
    Holds tab slots' 0 (xs ++ ys ++ (m ∷ []))
moved_holds {slots} {k} {count} {slots'} tab xs m ys h e f r =
    let n : length xs + suc (length ys) ≡ count = sym (length-append xs (m ∷ ys)) ∙ f in
    let w : length (xs ++ ys) + 1 ≡ count = omega (arith, length-append xs ys) in
    let s = all_split (MarkedAt tab slots) 0 xs (m ∷ ys) h in
    let q : slot slots' (0 + length (xs ++ ys)) ≡ slot slots (0 + length xs) =
    r.last (0 + length (xs ++ ys)) (omega arith) ∙ same_place slots k (0 + length xs) (omega arith) in
    all_join (MarkedAt tab slots') 0 (xs ++ ys) (m ∷ [])
    (removed_holds tab xs m ys h e f (removed_of r))
    (all_one (MarkedAt tab slots') (0 + length (xs ++ ys)) m (marked_moved q (all_first (MarkedAt tab slots) (0 + length xs) m ys s.1)))
