-- Numbers in decimal: the last digit behind those of a tenth, how many digits there are, and the loop of `put_decimal`. Assumes nothing.
-- Read first: completion/specs/Settle (decimal), fields/specs/Puts, fields/proofs/Appending.
use mathlib.Core.Path.{◌≡◌, refl, sym, ap, ◌∙◌}
use mathlib.Core.Bool.{Bool, true, false}
use mathlib.Core.List.{List, [], ◌∷◌, ◌++◌}
use Prim.Native.Nat.{ℕ, zero, suc, ◌+◌, ◌-◌, ◌*◌, ◌^◌, ◌/◌, ◌%◌, max, ◌≤◌, ◌<◌}
use native.Mathlib.Omega.{arith}
use native.Mathlib.Nat.{pow-suc}
use lib.Dec.{ltb}
use lib.ListN.{length, set, length-set, length-append}
use borrow.Author.Tests.{lt-ltb, le-ltb, ltb-false}
use Rattle.completion.specs.Settle.{decimal_in, decimal}
use Rattle.fields.specs.Puts.{patched, Puts}
use Rattle.fields.proofs.Appending.{patched_none, patched_before, patched_one}

in_small : (k n : ℕ) → n < 10 → decimal_in (suc k) n ≡ (48 + n) ∷ []
unfolding decimal_in
in_small k n h = rw (lt-ltb n 10 h) refl

in_more : (k n : ℕ) → 10 ≤ n → decimal_in (suc k) n ≡ decimal_in k (n / 10) ++ ((48 + n % 10) ∷ [])
unfolding decimal_in
in_more k n h = rw (le-ltb n 10 h) refl

-- more digits than the number has are not asked for
enough : (a b n : ℕ) → n < a → n < b → decimal_in a n ≡ decimal_in b n
enough zero b n h k = absurd (omega arith)
enough (suc a) zero n h k = absurd (omega arith)
enough (suc a) (suc b) n h k = go (ltb n 10) refl (λ l m. enough a b (n / 10) l m)
  where
    go : (t : Bool) → ltb n 10 ≡ t → (n / 10 < a → n / 10 < b → decimal_in a (n / 10) ≡ decimal_in b (n / 10)) → decimal_in (suc a) n ≡ decimal_in (suc b) n
    go true e ih = let l : n < 10 = borrow.Author.Tests.ltb-true n 10 e in in_small a n l ∙ sym (in_small b n l)
    go false e ih =
        let l : 10 ≤ n = ltb-false n 10 e in
        in_more a n l ∙ ap (λ d. d ++ ((48 + n % 10) ∷ [])) (ih (omega arith) (omega arith)) ∙ sym (in_more b n l)

pub decimal_small : (n : ℕ) → n < 10 → decimal n ≡ (48 + n) ∷ []
unfolding decimal
decimal_small n h = in_small n n h

pub decimal_more : (n : ℕ) → 10 ≤ n → decimal n ≡ decimal (n / 10) ++ ((48 + n % 10) ∷ [])
unfolding decimal
decimal_more n h = in_more n n h ∙ ap (λ d. d ++ ((48 + n % 10) ∷ [])) (enough n (suc (n / 10)) (n / 10) (omega arith) (omega arith))

pub small_length : (n : ℕ) → n < 10 → length (decimal n) ≡ 1
small_length n h = ap length (decimal_small n h)

pub more_length : (n : ℕ) → 10 ≤ n → length (decimal n) ≡ length (decimal (n / 10)) + 1
more_length n h = ap length (decimal_more n h) ∙ length-append (decimal (n / 10)) ((48 + n % 10) ∷ [])

-- few digits
one_more : (k b : ℕ) → ((n : ℕ) → n < b → length (decimal n) ≤ k) → 1 ≤ k → (n : ℕ) → n < 10 * b → length (decimal n) ≤ k + 1
one_more k b f h n l = go (ltb n 10) refl
  where
    go : (t : Bool) → ltb n 10 ≡ t → length (decimal n) ≤ k + 1
    go true e = omega (arith, small_length n (borrow.Author.Tests.ltb-true n 10 e))
    go false e = omega (arith, more_length n (ltb-false n 10 e), f (n / 10) (omega arith))

digits_below : (k n : ℕ) → n < 10 ^ suc k → length (decimal n) ≤ suc k
digits_below zero n h = omega (arith, small_length n h)
digits_below (suc k) n h =
    let l : n < 10 ^ suc k * 10 = rw (pow-suc 10 (suc k)) at h in
    let m : length (decimal n) ≤ suc k + 1 = one_more (suc k) (10 ^ suc k) (digits_below k) (omega arith) n (omega arith) in
    omega arith

-- any number of 64 bits
pub twenty_digits : (n : ℕ) → n < 18_446_744_073_709_551_616 → length (decimal n) ≤ 20
twenty_digits n h = digits_below 19 n (let e : 18_446_744_073_709_551_616 ≤ 10 ^ 20 = omega arith in omega arith)

pub few_digits : (n : ℕ) → n < 65_536 → length (decimal n) ≤ 5
few_digits n h = digits_below 4 n (let e : 65_536 ≤ 10 ^ 5 = omega arith in omega arith)

-- `digits`
some_digits : (n : ℕ) → 0 < length (decimal n)
some_digits n = digits_any (ltb n 10) refl
  where
    digits_any : (t : Bool) → ltb n 10 ≡ t → 0 < length (decimal n)
    digits_any true e = omega (arith, small_length n (borrow.Author.Tests.ltb-true n 10 e))
    digits_any false e = omega (arith, more_length n (ltb-false n 10 e))

digits_from : (k n : ℕ) → 10 ^ k ≤ n → k + 1 ≤ length (decimal n)
digits_from zero n h = some_digits n
digits_from (suc k) n h =
    let l : 10 ^ k * 10 ≤ n = rw (pow-suc 10 k) at h in
    let one : 1 ≤ 10 ^ k = pow_positive k in
    let rest = digits_from k (n / 10) (omega arith) in
    omega (arith, more_length n (omega arith), rest)
  where
    pow_positive : (k : ℕ) → 1 ≤ 10 ^ k
    pow_positive zero = omega arith
    pow_positive (suc k) = let p = pow_positive k in rw (pow-suc 10 k) (omega arith)

pub digits_are : (n m k : ℕ) → m ≡ max n 1 → 10 ^ k ≤ m → m < 10 * 10 ^ k → k + 1 ≡ length (decimal n)
digits_are n m k e low high = go (ltb n 1) refl
  where
    many : k + 1 ≤ length (decimal m)
    many = digits_from k m low

    go : (t : Bool) → ltb n 1 ≡ t → k + 1 ≡ length (decimal n)
    go true q =
        let l : n < 1 = borrow.Author.Tests.ltb-true n 1 q in
        omega (arith, many, small_length n (omega arith), small_length m (omega arith))
    go false q =
        let l : 1 ≤ n = ltb-false n 1 q in
        let same : m ≡ n = omega arith in
        let power = pow-suc 10 k in
        omega (arith, many, ap (λ z. length (decimal z)) same, digits_below k n (omega arith))

-- `put_decimal`: what is still to put, in so many places
unfoldable pub rest_of : ℕ → ℕ → List ℕ
rest_of zero m = []
rest_of (suc k) m = decimal m

pub record Tens (out₀ : List ℕ) (at n : ℕ) (out : List ℕ) (left m : ℕ) : Type 0 where
  pub same : length out ≡ length out₀
  pub left_is : 0 < left → left ≡ length (decimal m)
  pub within : left ≤ length (decimal n)
  pub to_do : patched at (rest_of left m) out ≡ patched at (decimal n) out₀

all_left : (left m : ℕ) → 0 < left → rest_of left m ≡ decimal m
unfolding rest_of
all_left zero m h = absurd (omega arith)
all_left (suc k) m h = refl

none_left : (m : ℕ) → rest_of 0 m ≡ []
unfolding rest_of
none_left m = refl

pub tens_start : (out : List ℕ) (at n w : ℕ) → w ≡ length (decimal n) → Tens out at n out w n
tens_start out at n w e =
    record {
      same = refl;
      left_is = λ h. e;
      within = omega arith;
      to_do = ap (λ z. patched at z out) (all_left w n (omega (arith, some_digits n)));
    }

-- the last digit behind those before it
last_digit : (k m : ℕ) → k + 1 ≡ length (decimal m) →
    (decimal m ≡ rest_of k (m / 10) ++ ((48 + m % 10) ∷ [])) × (0 < k → k ≡ length (decimal (m / 10))) × (length (rest_of k (m / 10)) ≡ k)
last_digit zero m e = go (ltb m 10) refl
  where
    go : (t : Bool) → ltb m 10 ≡ t →
        (decimal m ≡ rest_of 0 (m / 10) ++ ((48 + m % 10) ∷ [])) × (0 < 0 → 0 ≡ length (decimal (m / 10))) × (length (rest_of 0 (m / 10)) ≡ 0)
    go true q =
        let l : m < 10 = borrow.Author.Tests.ltb-true m 10 q in
        let r : m % 10 ≡ m = omega arith in
        rw (none_left (m / 10)) (decimal_small m l ∙ ap (λ z. (48 + z) ∷ []) (sym r), λ h. absurd (omega arith), refl)
    go false q = absurd (omega (arith, more_length m (ltb-false m 10 q), some_digits (m / 10)))
last_digit (suc k) m e = go (ltb m 10) refl
  where
    go : (t : Bool) → ltb m 10 ≡ t →
        (decimal m ≡ rest_of (suc k) (m / 10) ++ ((48 + m % 10) ∷ [])) × (0 < suc k → suc k ≡ length (decimal (m / 10))) ×
        (length (rest_of (suc k) (m / 10)) ≡ suc k)
    go true q = absurd (omega (arith, small_length m (borrow.Author.Tests.ltb-true m 10 q)))
    go false q =
        let l : 10 ≤ m = ltb-false m 10 q in
        let n : suc k ≡ length (decimal (m / 10)) = omega (arith, more_length m l) in
        rw (all_left (suc k) (m / 10) (omega arith)) (decimal_more m l, λ h. n, sym n)

module _ (out₀ : List ℕ) (at n : ℕ) (room : at + length (decimal n) ≤ length out₀) (out : List ℕ) (left m : ℕ) (h : Tens out₀ at n out left m) where
  pub tens_more : 0 < left → Tens out₀ at n (set out (at + (left - 1)) (48 + m % 10)) (left - 1) (m / 10)
  tens_more l =
      let k : ℕ = left - 1 in
      let d : List ℕ = rest_of k (m / 10) in
      let last = last_digit k m (omega (arith, h.left_is l)) in
      let f : length d ≡ k = last.2 in
      let s : length out ≡ length out₀ = h.same in
      let w : left ≤ length (decimal n) = h.within in
      record {
        same = length-set out (at + k) (48 + m % 10) ∙ s;
        left_is = last.1;
        within = omega arith;
        to_do =
            ap (patched at d) (patched_one (at + k) (48 + m % 10) out (omega arith))
            ∙ ap (λ (j : ℕ). patched at d (patched (at + j) ((48 + m % 10) ∷ []) out)) (sym f)
            ∙ patched_before at d ((48 + m % 10) ∷ []) out (omega arith)
            ∙ ap (λ (x : List ℕ). patched at x out) (sym last.0 ∙ sym (all_left left m l))
            ∙ h.to_do;
      }

  pub tens_end : (w : ℕ) → w ≡ length (decimal n) → left ≤ 0 → Puts out₀ at (length (decimal n)) (decimal n) out (at + w)
  tens_end w e l =
      let z : left ≡ 0 = omega arith in
      record {
        bytes = sym (patched_none at out) ∙ ap (λ (x : List ℕ). patched at x out) (sym (ap (λ j. rest_of j m) z ∙ none_left m)) ∙ h.to_do;
        counted = refl;
        next = omega arith;
      }
