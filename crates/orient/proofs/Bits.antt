-- Bits of a number below 2^w: how "or" and powers of two set them, and that the ones counted are the size of the set they stand for. Assumes nothing.
-- Read first: specs/Seen (bit, Has).
use mathlib.Core.Path.{◌≡◌, refl, sym, ap, ◌∙◌, subst}
use mathlib.Core.Logic.{◌⊎◌, inl, inr, ⊎_elim}
use mathlib.Core.List.Memᴰ
use mathlib.Core.List.{List, [], ◌∷◌}
use Prim.Native.Nat.{ℕ, zero, suc, ◌+◌, ◌-◌, ◌*◌, ◌/◌, ◌%◌, ◌^◌, ◌<◌, ◌≤◌, max}
use native.Mathlib.Omega.{arith}
use native.Mathlib.Nat.{mod-lt, zero-lt-suc, one-mul, pow-suc}
use lib.ListN.{length}
use lib.Arith.{digits_div, digits_mod}
use lib.Bits.{bit_or, or_step, shifted_half, shifted_even}
use lib.Count.{ones_in, ones, ones_step}
use lib.Pow.{shr_lt, pow_pos}
use native.Mathlib.Numerals.{add-one}
use Rattle.terms.proofs.Subst.{In}
use Rattle.terms.proofs.Numbers.{Distinct}
use Rattle.terms.proofs.Below.{subset_length}
use Rattle.orient.specs.Seen.{bit, Has}

two_pos : zero < 2
two_pos = zero-lt-suc 1

pub bit_lt : (i m : ℕ) → bit i m < 2
unfolding bit
bit_lt zero m = mod-lt m two_pos
bit_lt (suc i) m = bit_lt i (m / 2)

bit_zero : (i : ℕ) → bit i 0 ≡ 0
unfolding bit
bit_zero zero = refl
bit_zero (suc i) = bit_zero i

or_digit : (a b : ℕ) → max (a % 2) (b % 2) < 2
or_digit a b = omega (arith, mod-lt a two_pos, mod-lt b two_pos)

pub bit_of_or : (i a b : ℕ) → bit i (bit_or a b) ≡ max (bit i a) (bit i b)
unfolding bit
bit_of_or zero a b = ap (λ z. z % 2) (or_step a b) ∙ digits_mod (bit_or (a / 2) (b / 2)) (or_digit a b)
bit_of_or (suc i) a b = ap (λ z. bit i (z / 2)) (or_step a b) ∙ ap (bit i) (digits_div (bit_or (a / 2) (b / 2)) (or_digit a b)) ∙ bit_of_or i (a / 2) (b / 2)

half_power : (n : ℕ) → 2 ^ suc n / 2 ≡ 2 ^ n
half_power n = ap (λ z. z / 2) (sym (one-mul (2 ^ suc n))) ∙ shifted_half 1 n ∙ one-mul (2 ^ n)

even_power : (n : ℕ) → 2 ^ suc n % 2 ≡ 0
even_power n = ap (λ z. z % 2) (sym (one-mul (2 ^ suc n))) ∙ shifted_even 1 n

pub bit_power : (n : ℕ) → bit n (2 ^ n) ≡ 1
unfolding bit
bit_power zero = refl
bit_power (suc n) = ap (bit n) (half_power n) ∙ bit_power n

pub bit_power_other : (i n : ℕ) → (i ≡ n → ⊥) → bit i (2 ^ n) ≡ 0
unfolding bit
bit_power_other zero zero h = absurd (h refl)
bit_power_other zero (suc n) h = even_power n
bit_power_other (suc i) zero h = bit_zero i
bit_power_other (suc i) (suc n) h = ap (bit i) (half_power n) ∙ bit_power_other i n (λ e. h (ap suc e))

-- the places of the bits that are set, from k up
pick : ℕ → ℕ → List ℕ → List ℕ
pick zero k l = l
pick (suc c) k l = k ∷ l

positions : ℕ → ℕ → ℕ → List ℕ
positions zero k m = []
positions (suc w) k m = pick (m % 2) k (positions w (suc k) (m / 2))

length_pick : (c k : ℕ) (l : List ℕ) → c < 2 → length (pick c k l) ≡ c + length l
unfolding pick
length_pick zero k l h = omega arith
length_pick (suc zero) k l h = omega arith
length_pick (suc (suc c)) k l h = absurd (omega arith)

length_positions : (w k m : ℕ) → length (positions w k m) ≡ ones_in w m
unfolding positions ones_in
length_positions zero k m = refl
length_positions (suc w) k m = length_pick (m % 2) k (positions w (suc k) (m / 2)) (mod-lt m two_pos)
    ∙ ap (λ z. m % 2 + z) (length_positions w (suc k) (m / 2))

record PlaceOf (w k m x : ℕ) : Type 0 where
  at : ℕ
  within : at < w
  is : x ≡ k + at
  set : bit at m ≡ 1

in_pick : (c k x : ℕ) (l : List ℕ) → In x (pick c k l) → ((0 < c) × (x ≡ k)) ⊎ In x l
unfolding pick
in_pick zero k x l i = inr i
in_pick (suc c) k x l i = ⊎_elim (λ e. inl (omega arith, e)) (λ j. inr j) (Memᴰ.cases_cons i)

positions_in : (w k m x : ℕ) → In x (positions w k m) → PlaceOf w k m x
unfolding positions bit
positions_in zero k m x i = absurd (Memᴰ.not-nil i)
positions_in (suc w) k m x i =
    ⊎_elim
    (λ (h : (0 < m % 2) × (x ≡ k)). record {
      at = 0;
      within = omega arith;
      is = let e = h.1 in omega arith;
      set = let f = h.0 in omega (arith, mod-lt m two_pos);
    })
    (λ j. let r = positions_in w (suc k) (m / 2) x j in record {
      at = suc r.at;
      within = let q = r.within in omega arith;
      is = let q = r.is in omega arith;
      set = r.set;
    })
    (in_pick (m % 2) k x (positions w (suc k) (m / 2)) i)

pick_head : (c k x : ℕ) (l : List ℕ) → c ≡ 1 → x ≡ k → In x (pick c k l)
unfolding pick
pick_head zero k x l e f = absurd (omega arith)
pick_head (suc c) k x l e f = Memᴰ.head f

pick_tail : (c k x : ℕ) (l : List ℕ) → In x l → In x (pick c k l)
unfolding pick
pick_tail zero k x l i = i
pick_tail (suc c) k x l i = Memᴰ.tail i

in_positions : (w k m i : ℕ) → i < w → bit i m ≡ 1 → In (k + i) (positions w k m)
unfolding positions bit
in_positions zero k m i h b = absurd (omega arith)
in_positions (suc w) k m zero h b = pick_head (m % 2) k (k + 0) _ b (omega arith)
in_positions (suc w) k m (suc i) h b =
    pick_tail (m % 2) k (k + suc i) _ (Memᴰ.cast (let e : k + suc i ≡ suc k + i = omega arith in e) (in_positions w (suc k) (m / 2) i (omega arith) b))

distinct_pick : (c k : ℕ) (l : List ℕ) → (In k l → ⊥) → Distinct l → Distinct (pick c k l)
unfolding pick
distinct_pick zero k l n d = d
distinct_pick (suc c) k l n d = (n, d)

distinct_positions : (w k m : ℕ) → Distinct (positions w k m)
unfolding positions
distinct_positions zero k m = tt
distinct_positions (suc w) k m =
    distinct_pick (m % 2) k (positions w (suc k) (m / 2)) (λ i. let r = positions_in w (suc k) (m / 2) k i in let q = r.is in omega arith)
    (distinct_positions w (suc k) (m / 2))

ones_are_in : (w m : ℕ) → m < 2 ^ w → ones m ≡ ones_in w m
unfolding ones_in ones
ones_are_in zero zero h = refl
ones_are_in zero (suc m) h = absurd (omega arith)
ones_are_in (suc w) m h = ones_step m ∙ ap (λ z. m % 2 + z) (ones_are_in w (m / 2) (shr_lt w 1 (subst (λ z. m < 2 ^ z) (sym (add-one w)) h)))

-- all bits set
ones_in_full : (w m : ℕ) → ((i : ℕ) → i < w → bit i m ≡ 1) → ones_in w m ≡ w
unfolding ones_in bit
ones_in_full zero m f = refl
ones_in_full (suc w) m f = let a = f 0 (omega arith) in let b = ones_in_full w (m / 2) (λ i h. f (suc i) (omega arith)) in omega arith

pub ones_full : (w m : ℕ) → m < 2 ^ w → ((i : ℕ) → i < w → bit i m ≡ 1) → ones m ≡ w
ones_full w m s f = ones_are_in w m s ∙ ones_in_full w m f

power_less : (w : ℕ) → 2 ^ suc w - 1 ≡ (2 ^ w - 1) * 2 + 1
power_less w = let p = pow_pos w in omega (arith, pow-suc 2 w)

bit_ones : (i w : ℕ) → i < w → bit i (2 ^ w - 1) ≡ 1
unfolding bit
bit_ones i zero h = absurd (omega arith)
bit_ones zero (suc w) h = ap (λ z. z % 2) (power_less w) ∙ digits_mod (2 ^ w - 1) (omega arith)
bit_ones (suc i) (suc w) h = ap (λ z. bit i (z / 2)) (power_less w) ∙ ap (bit i) (digits_div (2 ^ w - 1) (omega arith)) ∙ bit_ones i w (omega arith)

pub bit_full : (i : ℕ) → i < 32 → bit i 4294967295 ≡ 1
bit_full i h = bit_ones i 32 h

-- a set of numbers below w, counted
module _ (w m : ℕ) (small : m < 2 ^ w) where
  counted : ones m ≡ length (positions w 0 m)
  counted = ones_are_in w m small ∙ sym (length_positions w 0 m)

  pub ones_most : (ds : List ℕ) → ((x : ℕ) → x < w → Has m x → In x ds) → ones m ≤ length ds
  ones_most ds f =
      let e = counted in
      let h : length (positions w 0 m) ≤ length ds =
      subset_length (positions w 0 m) ds (distinct_positions w 0 m)
      (λ x i. let r = positions_in w 0 m x i in let q : r.at ≡ x = let s = r.is in omega arith in subst (λ z. In z ds) q (f r.at r.within r.set)) in
      omega arith

  pub ones_least : (ds : List ℕ) → Distinct ds → ((x : ℕ) → In x ds → (x < w) × Has m x) → length ds ≤ ones m
  ones_least ds d f =
      let e = counted in
      let h : length ds ≤ length (positions w 0 m) =
      subset_length ds (positions w 0 m) d
      (λ x i. let r = f x i in Memᴰ.cast (let q : x ≡ 0 + x = omega arith in q) (in_positions w 0 m x r.0 r.1)) in
      omega arith
