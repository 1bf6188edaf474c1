-- The six runs that make up the four terms of an overlap stand one behind the other, in at most 600 bytes. Assumes nothing.
-- Read first: specs/Layout (four_bytes, LaysFour), proofs/Moving.
use mathlib.Core.Path.{◌≡◌, refl, sym, ap, ◌∙◌}
use mathlib.Core.List.{List, [], ◌++◌, map, append_assoc}
use Prim.Native.Nat.{ℕ, ◌+◌, ◌-◌, ◌≤◌, ◌<◌}
use native.Mathlib.Omega.{arith}
use lib.ListN.{length, take, drop, length-drop, length-append, length-map}
use lib.Seq.{length-take-le}
use native.Mathlib.Nat.{sub-zero}
use Rattle.terms.specs.Scan.{skip}
use Rattle.terms.proofs.Starts.{from_drop}
use Rattle.overlap_terms.specs.Layout.{moved, Lays, four_bytes, LaysFour}
use Rattle.overlap_terms.proofs.Moving.{lays_more, lays_same}

module _ (tab l₁ r₁ l₂ r₂ : List ℕ) (p e : ℕ) (q : e ≡ p + skip tab (drop p l₂) 1) (h : p < length l₂) (h' : p ≤ e) (h'' : e ≤ length l₂) where
  before : take (p - 0) (drop 0 l₂) ≡ take p l₂
  before = ap (λ k. take k l₂) (sub-zero p)

  after : take (length l₂ - e) (drop e l₂) ≡ drop (p + skip tab (drop p l₂) 1) l₂
  after = from_drop l₂ e ∙ ap (λ k. drop k l₂) q

  -- there is room for the last two runs, however far the variables are moved
  module _ (n₀ n₁ n₂ n₃ n₄ : List ℕ) (a b c d u v : ℕ) (g₁ : Lays n₀ 0 l₂ 0 n₁ a) (g₂ : Lays n₁ a l₁ u n₂ b) (g₃ : Lays n₂ b (take (p - 0) (drop 0 l₂)) 0 n₃ c)
      (g₄ : Lays n₃ c r₁ v n₄ d)
      (m₁ : length l₁ ≤ 120) (m₂ : length r₁ ≤ 120) (m₃ : length l₂ ≤ 120) (m₄ : length r₂ ≤ 120) (m₅ : 600 ≤ length n₀) where
    ends_four : d ≡ length l₂ + length l₁ + p + length r₁
    ends_four = omega (arith, g₁.ends, g₂.ends, g₃.ends, g₄.ends, ap length before, length-take-le p l₂ (omega arith))

    long_four : length n₄ ≡ length n₀
    long_four = g₄.same ∙ g₃.same ∙ g₂.same ∙ g₁.same

    length_after : length (take (length l₂ - e) (drop e l₂)) ≡ length l₂ - e
    length_after = ap length (from_drop l₂ e) ∙ length-drop e l₂

    pub room_five : d + length (take (length l₂ - e) (drop e l₂)) ≤ length n₄
    room_five = omega (arith, ends_four, long_four, length_after)

    pub room_six : (n₅ : List ℕ) (f : ℕ) → Lays n₄ d (take (length l₂ - e) (drop e l₂)) 0 n₅ f → f + length r₂ ≤ length n₅
    room_six n₅ f g₅ = omega (arith, ends_four, long_four, length_after, g₅.same, g₅.ends)

  module _ (n₀ n₁ n₂ n₃ n₄ n₅ n₆ : List ℕ) (a b c d f r : ℕ)
      (g₁ : Lays n₀ 0 l₂ 0 n₁ a) (g₂ : Lays n₁ a l₁ 16 n₂ b) (g₃ : Lays n₂ b (take (p - 0) (drop 0 l₂)) 0 n₃ c)
      (g₄ : Lays n₃ c r₁ 16 n₄ d) (g₅ : Lays n₄ d (take (length l₂ - e) (drop e l₂)) 0 n₅ f) (g₆ : Lays n₅ f r₂ 0 n₆ r) where
    same_all : length n₆ ≡ length n₀
    same_all = g₆.same ∙ g₅.same ∙ g₄.same ∙ g₃.same ∙ g₂.same ∙ g₁.same

    bytes_all : take r n₆ ≡ four_bytes tab l₁ r₁ l₂ r₂ p
    unfolding four_bytes
    bytes_all =
        let k₁ : take a n₁ ≡ l₂ = lays_same n₀ 0 l₂ n₁ a g₁ [] l₂ refl refl in
        let k₂ = lays_more n₁ a l₁ 16 n₂ b g₂ l₂ k₁ in
        let k₃ = lays_same n₂ b _ n₃ c g₃ _ (take p l₂) k₂ before in
        let k₄ = lays_more n₃ c r₁ 16 n₄ d g₄ _ k₃ in
        let k₅ = lays_same n₄ d _ n₅ f g₅ _ (drop (p + skip tab (drop p l₂) 1) l₂) k₄ after in
        let k₆ = lays_same n₅ f r₂ n₆ r g₆ _ r₂ k₅ refl in
        k₆ ∙ simp append_assoc

    most_all : length l₁ ≤ 120 → length r₁ ≤ 120 → length l₂ ≤ 120 → length r₂ ≤ 120 → r ≤ 600
    most_all m₁ m₂ m₃ m₄ =
        let x = ap length before in
        let y = length-take-le p l₂ (omega arith) in
        let z = ap length after in
        let w = length-drop (p + skip tab (drop p l₂) 1) l₂ in
        omega (arith, g₁.ends, g₂.ends, g₃.ends, g₄.ends, g₅.ends, g₆.ends)

    pub lays_four : length l₁ ≤ 120 → length r₁ ≤ 120 → length l₂ ≤ 120 → length r₂ ≤ 120 → 600 ≤ length n₀ → LaysFour tab l₁ r₁ l₂ r₂ p n₀ n₆ r
    lays_four m₁ m₂ m₃ m₄ m₅ =
        record {
          same = same_all;
          bytes = bytes_all;
          ends = sym (length-take-le r n₆ (omega (arith, most_all m₁ m₂ m₃ m₄, same_all))) ∙ ap length bytes_all;
          most = most_all m₁ m₂ m₃ m₄;
        }

-- what the nodes hold is no shorter than its parts
four_length : (tab l₁ r₁ l₂ r₂ : List ℕ) (p : ℕ) → length l₂ + length l₁ + length r₂ ≤ length (four_bytes tab l₁ r₁ l₂ r₂ p)
unfolding four_bytes
four_length tab l₁ r₁ l₂ r₂ p =
    let x : List ℕ = take p l₂ ++ (map (moved 16) r₁ ++ drop (p + skip tab (drop p l₂) 1) l₂) in
    omega (arith, length-append l₂ (map (moved 16) l₁ ++ (x ++ r₂)), length-append (map (moved 16) l₁) (x ++ r₂), length-append x r₂, length-map l₁ (moved 16))

module _ (tab l₁ r₁ l₂ r₂ : List ℕ) (p : ℕ) (nodes nodes' : List ℕ) (r : ℕ) (g : LaysFour tab l₁ r₁ l₂ r₂ p nodes nodes' r) where
  pub laid_bytes : take (r - 0) (drop 0 nodes') ≡ four_bytes tab l₁ r₁ l₂ r₂ p
  laid_bytes = ap (λ j. take j nodes') (sub-zero r) ∙ g.bytes

  laid_length : length (take (r - 0) (drop 0 nodes')) ≡ r
  laid_length = ap length laid_bytes ∙ sym g.ends

  pub laid_parts : length l₂ + length l₁ + length r₂ ≤ r
  laid_parts = omega (arith, g.ends, four_length tab l₁ r₁ l₂ r₂ p)

  pub laid_requires : p < length l₂ → 0 < length r₂ →
      (length (take (r - 0) (drop 0 nodes')) ≤ 600) × (p < length (take (r - 0) (drop 0 nodes'))) × (length l₂ < length (take (r - 0) (drop 0 nodes')))
      × (length l₂ + length l₁ < length (take (r - 0) (drop 0 nodes'))) × (r - length r₂ < length (take (r - 0) (drop 0 nodes')))
  laid_requires h h' =
      let a = laid_length in
      let b = laid_parts in
      let c = g.most in
      (omega arith, omega arith, omega arith, omega arith, omega arith)
