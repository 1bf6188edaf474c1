-- Lists in slots: a relation of each element with its place, and pairs that stand in other slots with the same bytes. Assumes nothing.
-- Read first: specs/Slots (AllFrom, PairAt, MarkedAt).
use mathlib.Core.Path.{◌≡◌, sym, ap, ◌∙◌, subst}
use mathlib.Core.List.{List, [], ◌∷◌, ◌++◌, map}
use Prim.Native.Nat.{ℕ, zero, suc, ◌+◌, ◌<◌}
use native.Mathlib.Omega.{arith}
use lib.ListN.{length, get_or}
use Rattle.terms.specs.Term.{Pair}
use Rattle.slots.specs.Slots.{slot, left_of, right_of, mark_of, Sides, PairAt, Marked, MarkedAt, AllFrom, Stored, Holds, OnlySlot}

module _ {A : Type 0} (R : ℕ → A → Type 0) where
  pub all_split : (k : ℕ) (xs ys : List A) → AllFrom R k (xs ++ ys) → AllFrom R k xs × AllFrom R (k + length xs) ys
  unfolding AllFrom
  all_split k [] ys h = (tt, let e : k ≡ k + 0 = omega arith in subst (λ z. AllFrom R z ys) e h)
  all_split k (x ∷ xs) ys h =
      let r = all_split (suc k) xs ys h.1 in
      let e : suc k + length xs ≡ k + suc (length xs) = omega arith in
      ((h.0, r.0), subst (λ z. AllFrom R z ys) e r.1)

  pub all_join : (k : ℕ) (xs ys : List A) → AllFrom R k xs → AllFrom R (k + length xs) ys → AllFrom R k (xs ++ ys)
  unfolding AllFrom
  all_join k [] ys g h = let e : k + 0 ≡ k = omega arith in subst (λ z. AllFrom R z ys) e h
  all_join k (x ∷ xs) ys g h =
      let e : k + suc (length xs) ≡ suc k + length xs = omega arith in
      (g.0, all_join (suc k) xs ys g.1 (subst (λ z. AllFrom R z ys) e h))

  pub all_none : (k : ℕ) → AllFrom R k []
  unfolding AllFrom
  all_none k = tt

  pub all_one : (k : ℕ) (x : A) → R k x → AllFrom R k (x ∷ [])
  unfolding AllFrom
  all_one k x r = (r, tt)

  pub all_cons : (k : ℕ) (x : A) (xs : List A) → R k x → AllFrom R (suc k) xs → AllFrom R k (x ∷ xs)
  unfolding AllFrom
  all_cons k x xs r h = (r, h)

  pub all_first : (k : ℕ) (x : A) (xs : List A) → AllFrom R k (x ∷ xs) → R k x
  unfolding AllFrom
  all_first k x xs h = h.0

  pub all_rest : (k : ℕ) (x : A) (xs : List A) → AllFrom R k (x ∷ xs) → AllFrom R (suc k) xs
  unfolding AllFrom
  all_rest k x xs h = h.1

  pub all_at : (k : ℕ) (xs : List A) (d : A) (i : ℕ) → AllFrom R k xs → i < length xs → R (k + i) (get_or xs i d)
  unfolding AllFrom
  all_at k [] d i h j = absurd (omega arith)
  all_at k (x ∷ xs) d zero h j = let e : k ≡ k + 0 = omega arith in subst (λ z. R z x) e h.0
  all_at k (x ∷ xs) d (suc i) h j =
      let e : suc k + i ≡ k + suc i = omega arith in subst (λ z. R z (get_or xs i d)) e (all_at (suc k) xs d i h.1 (omega arith))

  -- from the places from j on to those from k on
  pub all_moved : (S : ℕ → A → Type 0) (j k : ℕ) (xs : List A) → ((i : ℕ) → i < length xs → (x : A) → R (j + i) x → S (k + i) x) → AllFrom R j xs →
      AllFrom S k xs
  unfolding AllFrom
  all_moved S j k [] f h = tt
  all_moved S j k (x ∷ xs) f h =
      let a : j ≡ j + 0 = omega arith in
      let b : k + 0 ≡ k = omega arith in (
        subst (λ z. S z x) b (f 0 (omega arith) x (subst (λ z. R z x) a h.0)),
        all_moved S (suc j) (suc k) xs
            (λ i q y r.
            let c : suc j + i ≡ j + suc i = omega arith in
            let d : k + suc i ≡ suc k + i = omega arith in
            subst (λ z. S z y) d (f (suc i) (omega arith) y (subst (λ z. R z y) c r)))
            h.1,
      )

pub all_map : {A B : Type 0} (R : ℕ → A → Type 0) (S : ℕ → B → Type 0) (f : A → B) → ((k : ℕ) (x : A) → R k x → S k (f x)) → (k : ℕ) (xs : List A) →
    AllFrom R k xs →
    AllFrom S k (map f xs)
unfolding AllFrom
all_map R S f g k [] h = tt
all_map R S f g k (x ∷ xs) h = (g k x h.0, all_map R S f g (suc k) xs h.1)

-- What stands in a slot depends on its bytes alone.
pub pair_moved : {n : ℕ} {tab slots slots' : List ℕ} {j k : ℕ} {e : Pair} → slot slots' k ≡ slot slots j → PairAt n tab slots j e → PairAt n tab slots' k e
pair_moved {n} {tab} {slots} {slots'} {j} {k} {e} q p = record { sides = subst (λ s. Sides n tab (left_of s) (right_of s) e) (sym q) p.sides }

pub marked_moved : {tab slots slots' : List ℕ} {j k : ℕ} {m : Marked} → slot slots' k ≡ slot slots j → MarkedAt tab slots j m → MarkedAt tab slots' k m
marked_moved q p = record { mark = ap mark_of q ∙ p.mark; pair = pair_moved q p.pair }

module _ (tab slots slots' : List ℕ) (j k : ℕ) where
  pub stored_moved : (xs : List Pair) → ((i : ℕ) → i < length xs → slot slots' (k + i) ≡ slot slots (j + i)) → Stored tab slots j xs → Stored tab slots' k xs
  stored_moved xs f h = all_moved (PairAt 16 tab slots) (PairAt 16 tab slots') j k xs (λ i q x r. pair_moved (f i q) r) h

  pub holds_moved : (ms : List Marked) → ((i : ℕ) → i < length ms → slot slots' (k + i) ≡ slot slots (j + i)) → Holds tab slots j ms → Holds tab slots' k ms
  holds_moved ms f h = all_moved (MarkedAt tab slots) (MarkedAt tab slots') j k ms (λ i q x r. marked_moved (f i q) r) h

-- the pairs without their marks
pub stored_of : (tab slots : List ℕ) (k : ℕ) (ms : List Marked) → Holds tab slots k ms → Stored tab slots k (map (λ (m : Marked). m.sides) ms)
stored_of tab slots k ms h = all_map (MarkedAt tab slots) (PairAt 16 tab slots) (λ (m : Marked). m.sides) (λ i m r. r.pair) k ms h

-- one more pair stands behind `count` others
pub holds_next : (tab slots slots' : List ℕ) (count : ℕ) → OnlySlot slots count slots' → (ms : List Marked) (m : Marked) → length ms ≡ count →
    Holds tab slots 0 ms → MarkedAt tab slots' count m → Holds tab slots' 0 (ms ++ (m ∷ []))
holds_next tab slots slots' count o ms m n h here =
    let e : count ≡ 0 + length ms = omega arith in
    all_join (MarkedAt tab slots') 0 ms (m ∷ [])
    (holds_moved tab slots slots' 0 0 ms (λ i j. o.others (0 + i) (λ q. omega arith)) h)
    (all_one (MarkedAt tab slots') (0 + length ms) m (subst (λ z. MarkedAt tab slots' z m) e here))
