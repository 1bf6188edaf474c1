-- The variables in bytes as a set of bits: what a byte and what a run of bytes adds; the ones count the pair's variables. Assumes nothing.
-- Read first: specs/Seen (Seen, Counted), proofs/Bits.
use mathlib.Core.Path.{◌≡◌, refl, sym, ap, ◌∙◌, subst}
use mathlib.Core.Logic.{◌⊎◌, inl, inr, ⊎_elim}
use mathlib.Core.List.Memᴰ
use mathlib.Core.List.{List, [], ◌∷◌, ◌++◌}
use Prim.Native.Nat.{ℕ, zero, suc, ◌+◌, ◌*◌, ◌-◌, ◌%◌, ◌^◌, ◌<◌, ◌≤◌, max}
use native.Mathlib.Omega.{arith}
use native.Mathlib.Decide.{dec_lt, ℕ_discrete}
use native.Mathlib.Nat.{mod-eq_of_lt, one-mul, le_antisymm}
use native.Mathlib.Numerals.{add-one}
use lib.ListN.{length, get_or, take}
use lib.Seq.{take-suc, take_all}
use lib.Bits.{bit_or, or_lt}
use lib.Count.{ones}
use lib.Pow.{pow-lt}
use Rattle.terms.proofs.Every.{every_in}
use Rattle.terms.proofs.Flats.{wf_below, wf_bytes}
use Rattle.terms.specs.Term.{Term, Terms, var, node, nil, cons, Pair, term_bytes, terms_bytes, variables, variables_of, pair_variables}
use Rattle.terms.specs.Flat.{Wf, Wfs}
use Rattle.terms.proofs.Subst.{In}
use Rattle.terms.proofs.Below.{in_pair_left, in_pair_right, pair_distinct, pair_in}
use Rattle.orient.specs.Seen.{bit, Has, Seen, Counted}
use Rattle.orient.proofs.Bits.{bit_lt, bit_of_or, bit_power, bit_power_other, ones_most, ones_least, bit_full, ones_full}

one_in : {b x : ℕ} → In x (b ∷ []) → x ≡ b
one_in i = ⊎_elim (λ e. e) (λ j. absurd (Memᴰ.not-nil j)) (Memᴰ.cases_cons i)

in_one : {b x : ℕ} → x ≡ b → In x (b ∷ [])
in_one e = Memᴰ.head e

-- `with_byte`
pub see_symbol : (m b : ℕ) → m < 2 ^ 32 → b < 128 → Seen (b ∷ []) m m
see_symbol m b s h = record {
  small = s;
  kept = λ i l k. k;
  seen = λ i l j. let e = one_in j in absurd (omega arith);
  filled = λ c l j. let e = one_in j in absurd (omega arith);
  only = λ f i l k. inl k;
}

pub see_high : (m b : ℕ) → 160 ≤ b → Seen (b ∷ []) m 4294967295
see_high m b h = record {
  small = omega arith;
  kept = λ i l k. bit_full i l;
  seen = λ i l j. bit_full i l;
  filled = λ c l j i k. bit_full i k;
  only = λ f i l k. let z = f b (Memᴰ.head refl) in absurd (omega arith);
}

pub see_variable : (m b r : ℕ) → m < 2 ^ 32 → 128 ≤ b → b < 160 → r ≡ bit_or m (1 * 2 ^ (b - 128) % 2 ^ 32) → Seen (b ∷ []) m r
see_variable m b r s h k e =
    let x : ℕ = b - 128 in
    let p : 2 ^ x < 2 ^ 32 = pow-lt (let l : x < 32 = omega arith in l) in
    let q : r ≡ bit_or m (2 ^ x) = e ∙ ap (λ z. bit_or m (z % 2 ^ 32)) (one-mul (2 ^ x)) ∙ ap (bit_or m) (mod-eq_of_lt p) in
    let bits : (i : ℕ) → bit i r ≡ max (bit i m) (bit i (2 ^ x)) = λ i. ap (bit i) q ∙ bit_of_or i m (2 ^ x) in
    let sets : (i : ℕ) → 128 + i ≡ b → Has r i = λ i f. let g : x ≡ i = omega arith in
    let y : bit i (2 ^ x) ≡ 1 = subst (λ z. bit z (2 ^ x) ≡ 1) g (bit_power x) in omega (arith, bits i, bit_lt i m) in
    record {
      small = rw q (or_lt 32 m (2 ^ x) s p);
      kept = λ i l j. omega (arith, bits i, bit_lt i (2 ^ x));
      seen = λ i l j. sets i (one_in j);
      filled = λ c l j. let f = one_in j in absurd (omega arith);
      only = λ f i l j. go i (bits i) j (ℕ_discrete i x);
    }
  where
    go : (i : ℕ) → bit i r ≡ max (bit i m) (bit i (2 ^ (b - 128))) → Has r i → Dec (i ≡ b - 128) → Has m i ⊎ In (128 + i) (b ∷ [])
    go i f j (yes g) = inr (in_one (omega arith))
    go i f j (no g) = let y = bit_power_other i (b - 128) g in inl (omega arith)

-- one behind the other
pub see_append : (l k : List ℕ) (m m₁ m₂ : ℕ) → Seen l m m₁ → Seen k m₁ m₂ → Seen (l ++ k) m m₂
see_append l k m m₁ m₂ s t = record {
  small = t.small;
  kept = λ i h j. t.kept i h (s.kept i h j);
  seen = λ i h j. ⊎_elim (λ z. t.kept i h (s.seen i h z)) (λ z. t.seen i h z) (Memᴰ.append_cases l j);
  filled = λ b h j i z. ⊎_elim (λ y. t.kept i z (s.filled b h y i z)) (λ y. t.filled b h y i z) (Memᴰ.append_cases l j);
  only = λ f i h j.
      ⊎_elim
      (λ z. ⊎_elim (λ y. inl y) (λ y. inr (Memᴰ.append_left k y)) (s.only (λ b y. f b (Memᴰ.append_left k y)) i h z))
      (λ z. inr (Memᴰ.append_right l z))
      (t.only (λ b y. f b (Memᴰ.append_right l y)) i h j);
}

-- `with_bytes`
pub see_none : (m : ℕ) → m < 2 ^ 32 → Seen [] m m
see_none m s = record {
  small = s;
  kept = λ i l k. k;
  seen = λ i l j. absurd (Memᴰ.not-nil j);
  filled = λ c l j. absurd (Memᴰ.not-nil j);
  only = λ f i l k. inl k;
}

pub see_more : (t : List ℕ) (i m m₁ m₂ : ℕ) → i < length t → Seen (take i t) m m₁ → Seen (get_or t i 0 ∷ []) m₁ m₂ → Seen (take (i + 1) t) m m₂
see_more t i m m₁ m₂ h s r =
    let e : take (i + 1) t ≡ take i t ++ (get_or t i 0 ∷ []) = ap (λ z. take z t) (add-one i) ∙ take-suc t i 0 h in
    subst (λ z. Seen z m m₂) (sym e) (see_append (take i t) (get_or t i 0 ∷ []) m m₁ m₂ s r)

pub see_all : (t : List ℕ) (i m m₁ : ℕ) → length t ≤ i → Seen (take i t) m m₁ → Seen t m m₁
see_all t i m m₁ h s = subst (λ z. Seen z m m₁) (take_all i t h) s

-- the variables of a term are those of its bytes
mutual
  unfolding term_bytes terms_bytes variables variables_of Wf Wfs

  bytes_in : (n : ℕ) (tab : List ℕ) (t : Term) → Wf n tab t → (x : ℕ) → In (128 + x) (term_bytes t) → In x (variables t)
  bytes_in n tab (var y) w x i = let e = one_in i in in_one (omega arith)
  bytes_in n tab (node f ts) w x i = ⊎_elim (λ e. let h = w.0 in absurd (omega arith)) (λ j. bytes_in_all n tab ts w.2 x j) (Memᴰ.cases_cons i)

  bytes_in_all : (n : ℕ) (tab : List ℕ) (ts : Terms) → Wfs n tab ts → (x : ℕ) → In (128 + x) (terms_bytes ts) → In x (variables_of ts)
  bytes_in_all n tab nil w x i = absurd (Memᴰ.not-nil i)
  bytes_in_all n tab (cons t ts) w x i =
      ⊎_elim (λ j. Memᴰ.append_left (variables_of ts) (bytes_in n tab t w.0 x j))
      (λ j. Memᴰ.append_right (variables t) (bytes_in_all n tab ts w.1 x j)) (Memᴰ.append_cases (term_bytes t) i)

mutual
  unfolding term_bytes terms_bytes variables variables_of

  in_bytes : (t : Term) (x : ℕ) → In x (variables t) → In (128 + x) (term_bytes t)
  in_bytes (var y) x i = let e = one_in i in in_one (omega arith)
  in_bytes (node f ts) x i = Memᴰ.tail (in_bytes_all ts x i)

  in_bytes_all : (ts : Terms) (x : ℕ) → In x (variables_of ts) → In (128 + x) (terms_bytes ts)
  in_bytes_all nil x i = absurd (Memᴰ.not-nil i)
  in_bytes_all (cons t ts) x i =
      ⊎_elim (λ j. Memᴰ.append_left (terms_bytes ts) (in_bytes t x j))
      (λ j. Memᴰ.append_right (term_bytes t) (in_bytes_all ts x j)) (Memᴰ.append_cases (variables t) i)

-- `variable_count`
has_none : (i : ℕ) → Has 0 i → ⊥
unfolding bit
has_none zero h = omega arith
has_none (suc i) h = has_none i h

module _ (left right : List ℕ) (m : ℕ) (s : Seen (left ++ right) 0 m) where
  full : (b : ℕ) → 160 ≤ b → In b (left ++ right) → 32 ≤ ones m
  full b h i = let e = ones_full 32 m s.small (s.filled b h i) in omega arith

  pub count_is : Counted left right (ones m)
  count_is = record {
    counts = λ tab e v w p q. go tab e v w p q;
    low = λ h b i. low h b i (dec_lt b 160);
  }
    where
      low : ones m < 32 → (b : ℕ) → In b (left ++ right) → Dec (b < 160) → b < 160
      low h b i (yes l) = l
      low h b i (no l) = let f = full b (omega arith) i in absurd (omega arith)

      go : (tab : List ℕ) (e : Pair) → Wf 32 tab e.left → Wf 32 tab e.right → left ≡ term_bytes e.left → right ≡ term_bytes e.right →
          ones m ≡ length (pair_variables e)
      go tab e v w p q =
          let all_low : (b : ℕ) → In b (left ++ right) → b < 160 =
          λ b i. ⊎_elim (λ j. every_in (wf_bytes 32 tab e.left v) (subst (λ z. In b z) p j))
          (λ j. every_in (wf_bytes 32 tab e.right w) (subst (λ z. In b z) q j)) (Memᴰ.append_cases left i) in
          le_antisymm
          (ones_most 32 m s.small (pair_variables e)
          (λ x l h.
          ⊎_elim (λ z. absurd (has_none x z))
          (λ i. ⊎_elim (λ j. in_pair_left e x (bytes_in 32 tab e.left v x (subst (λ z. In (128 + x) z) p j)))
          (λ j. in_pair_right e x (bytes_in 32 tab e.right w x (subst (λ z. In (128 + x) z) q j))) (Memᴰ.append_cases left i))
          (s.only all_low x l h)))
          (ones_least 32 m s.small (pair_variables e) (pair_distinct e)
          (λ x i.
          ⊎_elim
          (λ j. let l = wf_below 32 tab e.left v x j in
          (l, s.seen x l (Memᴰ.append_left right (subst (λ z. In (128 + x) z) (sym p) (in_bytes e.left x j)))))
          (λ j. let l = wf_below 32 tab e.right w x j in
          (l, s.seen x l (Memᴰ.append_right left (subst (λ z. In (128 + x) z) (sym q) (in_bytes e.right x j)))))
          (pair_in e x i)))
