-- Bytes laid out with their variables moved up: one byte, the loop over a run, and a run behind others. Assumes nothing.
-- Read first: specs/Layout (moved, Lays).
use mathlib.Core.Path.{◌≡◌, refl, sym, ap, ap₂, ◌∙◌}
use mathlib.Core.List.{List, [], ◌∷◌, ◌++◌, map, map-append, append_assoc, append-nil}
use Prim.Native.Nat.{ℕ, suc, ◌+◌, ◌≤◌, ◌<◌}
use native.Mathlib.Omega.{arith}
use native.Mathlib.Decide.{dec_lt}
use native.Mathlib.Numerals.{add-one}
use lib.ListN.{length, get_or, take, set, length-set}
use lib.Seq.{take-suc, take_all, take-suc-set}
use borrow.Author.Tests.{lt-ltb, le-ltb}
use Rattle.overlap_terms.specs.Layout.{moved, Lays}

pub moved_symbol : (up b : ℕ) → b < 128 → b ≡ moved up b
unfolding moved
moved_symbol up b h = rw (lt-ltb b 128 h) refl

pub moved_variable : (up b : ℕ) → 128 ≤ b → b < 240 → b + up ≡ moved up b
unfolding moved
moved_variable up b h k = rw (le-ltb b 128 h, lt-ltb b 240 k) refl

pub moved_high : (up b : ℕ) → 128 ≤ b → 240 ≤ b → b ≡ moved up b
unfolding moved
moved_high up b h k = rw (le-ltb b 128 h, le-ltb b 240 k) refl

moved_none : (b : ℕ) → Dec (b < 128) → Dec (b < 240) → moved 0 b ≡ b
moved_none b (yes h) d = sym (moved_symbol 0 b h)
moved_none b (no h) (yes k) = sym (moved_variable 0 b (omega arith) k) ∙ omega arith
moved_none b (no h) (no k) = sym (moved_high 0 b (omega arith) (omega arith))

-- moved by none they stay
map_none : (l : List ℕ) → map (moved 0) l ≡ l
map_none [] = refl
map_none (b ∷ l) = ap₂ ◌∷◌ (moved_none b (dec_lt b 128) (dec_lt b 240)) (map_none l)

-- the loop of `lay`
pub record Laying (nodes₀ : List ℕ) (w : ℕ) (t : List ℕ) (up : ℕ) (nodes : List ℕ) (i : ℕ) : Type 0 where
  pub within : i ≤ length t
  pub same : length nodes ≡ length nodes₀
  pub bytes : take (w + i) nodes ≡ take w nodes₀ ++ map (moved up) (take i t)

pub laying_start : (nodes : List ℕ) (w : ℕ) (t : List ℕ) (up : ℕ) → Laying nodes w t up nodes 0
laying_start nodes w t up =
    let e : w + 0 ≡ w = omega arith in
    record { within = omega arith; same = refl; bytes = ap (λ k. take k nodes) e ∙ sym (append-nil (take w nodes)) }

module _ (nodes₀ : List ℕ) (w : ℕ) (t : List ℕ) (up : ℕ) (nodes : List ℕ) (i : ℕ) (g : Laying nodes₀ w t up nodes i) where
  pub laying_more : (v : ℕ) → i < length t → w + length t ≤ length nodes₀ → v ≡ moved up (get_or t i 0) → Laying nodes₀ w t up (set nodes (w + i) v) (i + 1)
  laying_more v h k e =
      let n : w + (i + 1) ≡ suc (w + i) = omega arith in
      record {
        within = omega arith;
        same = length-set nodes (w + i) v ∙ g.same;
        bytes =
            ap (λ z. take z (set nodes (w + i) v)) n
            ∙ take-suc-set nodes (w + i) v (omega (arith, g.same))
            ∙ ap₂ (λ a b. a ++ (b ∷ [])) g.bytes e
            ∙ append_assoc (take w nodes₀) (map (moved up) (take i t)) (moved up (get_or t i 0) ∷ [])
            ∙ ap (λ z. take w nodes₀ ++ z)
            (sym (map-append (moved up) (take i t) (get_or t i 0 ∷ [])) ∙ ap (map (moved up)) (sym (take-suc t i 0 h) ∙ ap (λ z. take z t) (sym (add-one i))));
      }

  pub laying_end : length t ≤ i → Lays nodes₀ w t up nodes (w + length t)
  laying_end h =
      let e : w + length t ≡ w + i = omega (arith, g.within) in
      record { same = g.same; ends = refl; bytes = ap (λ z. take z nodes) e ∙ g.bytes ∙ ap (λ z. take w nodes₀ ++ map (moved up) z) (take_all i t h) }

-- one more run, and one that stays as it is
pub lays_more : (nodes : List ℕ) (w : ℕ) (t : List ℕ) (up : ℕ) (nodes' : List ℕ) (r : ℕ) → Lays nodes w t up nodes' r → (l : List ℕ) → take w nodes ≡ l →
    take r nodes' ≡ l ++ map (moved up) t
lays_more nodes w t up nodes' r g l e = g.bytes ∙ ap (λ z. z ++ map (moved up) t) e

pub lays_same : (nodes : List ℕ) (w : ℕ) (t : List ℕ) (nodes' : List ℕ) (r : ℕ) → Lays nodes w t 0 nodes' r → (l s : List ℕ) → take w nodes ≡ l → t ≡ s →
    take r nodes' ≡ l ++ s
lays_same nodes w t nodes' r g l s e q = lays_more nodes w t 0 nodes' r g l e ∙ ap (λ z. l ++ z) (map_none t ∙ q)
