-- `open_places` by its turns: the places of the cells before i that have no size, one behind the other. Assumes nothing.
-- Read first: specs/Contraction (OpenPlaces), proofs/PartSized (marked_run).
use mathlib.Core.Path.{◌≡◌, refl, ◌∙◌}
use mathlib.Core.List.{List, []}
use Prim.Native.Nat.{ℕ, ◌+◌, ◌/◌, ◌<◌, ◌≤◌}
use native.Mathlib.Omega.{arith}
use native.Mathlib.Decide.{dec_lt}
use lib.ListN.{length, get_or, set, length-set}
use lib.Seq.{get_or-set_same, get_or-set_other}
use Rattle.limits.specs.Limits.{most_apart, cell_base}
use Rattle.terms.specs.Term.{Term}
use Rattle.terms.specs.Flat.{Wf}
use Rattle.redex.specs.Marks.{Marked}
use Rattle.redex.specs.Contraction.{OpenPlaces}
use Rattle.redex.proofs.PartSized.{marked_run}

pub record Collected (t places₀ places : List ℕ) (i k : ℕ) : Type 0 where
  pub same : length places ≡ length places₀
  pub few : k ≤ length t
  pub after : k ≤ i
  pub before : (j : ℕ) → j < k → get_or places j 0 < i
  pub below : (j : ℕ) → j < k → get_or places j 0 < length t
  pub ascending : (j m : ℕ) → j < m → m < k → get_or places j 0 < get_or places m 0
  pub all : (tab : List ℕ) (x : Term) → Wf most_apart tab x → Marked [] t x → (q : ℕ) → q < length t → q < i → get_or t q 0 < cell_base →
      (j : ℕ) × (j < k) × (get_or places j 0 ≡ q)

pub collect_start : (t places : List ℕ) → Collected t places places 0 0
collect_start t places = record {
  same = refl;
  few = omega arith;
  after = omega arith;
  before = λ j h. absurd (omega arith);
  below = λ j h. absurd (omega arith);
  ascending = λ j m h l. absurd (omega arith);
  all = λ tab x w m q h l s. absurd (omega arith);
}

pub collect_done : {t places₀ places : List ℕ} {i k : ℕ} → Collected t places₀ places i k → length t ≤ i → OpenPlaces t places₀ places k
collect_done C h = record {
  same = C.same;
  few = C.few;
  below = C.below;
  ascending = C.ascending;
  all = λ tab x w m q l s. C.all tab x w m q l (omega arith) s;
}

module _ {t places₀ places : List ℕ} {i k : ℕ} (C : Collected t places₀ places i k) (low : i < length t) where
  -- a subterm that has its size
  pub collect_skip : {n : ℕ} → n ≡ get_or t i 0 / cell_base → (n ≡ 0 → ⊥) → Collected t places₀ places (i + n) k
  collect_skip {n} e z = record {
    same = C.same;
    few = C.few;
    after = let a = C.after in omega arith;
    before = λ j h. let b = C.before j h in omega arith;
    below = C.below;
    ascending = C.ascending;
    all = λ tab x w m q h l s.
        elim (dec_lt q i) [
          | yes o ↦ C.all tab x w m q h o s
          | no o ↦ absurd (let r = (marked_run tab m w i low (omega arith)).1 q (omega arith) (omega arith) in omega arith)
        ];
  }

  -- a node that has none
  module _ (room : k < length places) (open_there : get_or t i 0 / cell_base ≡ 0) where
    abbrev more : List ℕ
    more = set places k i

    old : (j : ℕ) → j < k → get_or more j 0 ≡ get_or places j 0
    old j h = get_or-set_other places k j i 0 (λ e. omega arith)

    new : get_or more k 0 ≡ i
    new = get_or-set_same places k i 0 room

    -- of the places j up to k
    each : (P : ℕ → Type 0) → ((j : ℕ) → j < k → P (get_or places j 0)) → P i → (j : ℕ) → j < k + 1 → P (get_or more j 0)
    each P f g j h =
        elim (dec_lt j k) [
          | yes l ↦ rw (old j l) (f j l)
          | no l ↦ let e : j ≡ k = omega arith in rw (e, new) g
        ]

    pub collect_more : Collected t places₀ more (i + 1) (k + 1)
    collect_more = record {
      same = length-set places k i ∙ C.same;
      few = let a = C.after in omega arith;
      after = let a = C.after in omega arith;
      before = each (λ p. p < i + 1) (λ j h. let b = C.before j h in omega arith) (omega arith);
      below = each (λ p. p < length t) C.below low;
      ascending = λ j m h l.
          elim (dec_lt m k) [
            | yes o ↦ rw (old j (omega arith), old m o) (C.ascending j m h o)
            | no o ↦ let e : m ≡ k = omega arith in rw (old j (omega arith), e, new) (C.before j (omega arith))
          ];
      all = λ tab x w m q h l s.
          elim (dec_lt q i) [
            | yes o ↦ let (j, u, e) = C.all tab x w m q h o s in (j, omega arith, old j u ∙ e)
            | no o ↦ let e : i ≡ q = omega arith in (k, omega arith, new ∙ e)
          ];
    }
