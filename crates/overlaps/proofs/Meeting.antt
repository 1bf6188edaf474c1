-- From the sides of two stored rules to the definition of their overlap. Assumes nothing.
-- Read first: specs/Answer (Meets, Overlapped), rewriting/specs/Overlap (overlap), proofs/Apart.
use mathlib.Core.Path.{◌≡◌, refl, sym, ap, subst, ◌∙◌}
use mathlib.Core.List.{List}
use mathlib.Core.Option.{Option, none, some}
use Prim.Native.Nat.{ℕ, ◌+◌, ◌-◌, ◌≤◌, ◌<◌}
use native.Mathlib.Omega.{arith}
use lib.ListN.{length, take, drop}
use Rattle.terms.specs.Term.{Term, node, Terms, Pair, size, sizes, subterm_at, replace_at}
use Rattle.terms.proofs.Bytes.{length_bytes, length_bytes_all}
use Rattle.terms.proofs.Limits.{size_vars}
use Rattle.terms.proofs.Places.{size_pos}
use Rattle.terms.proofs.Positions.{subterm_below}
use Rattle.unify.specs.Unify.{Binding, mgu}
use Rattle.slots.specs.Slots.{slot, left_of, right_of, Sides}
use Rattle.slots.proofs.Layouts.{sides_read, kept_none}
use Rattle.rewriting.specs.Overlap.{apart, overlap, overlap_at, overlap_by}
use Rattle.overlap_terms.specs.Layout.{LaysFour}
use Rattle.overlap_terms.proofs.Layers.{laid_bytes, laid_requires}
use Rattle.overlaps.specs.declared.Roots.{Roots}
use Rattle.overlaps.specs.declared.Met.{Met}
use Rattle.overlaps.specs.declared.Met.TheVariants.{Nothing}
use Rattle.overlaps.specs.Answer.{Says, instances, four, Within, SolvesAt, Meets, Overlapped}
use Rattle.overlaps.proofs.Apart.{the_four, four_wf, four_terms}

by_is : (i o : Pair) (p : ℕ) (m : Option (List Binding)) →
    overlap_by i o p m ≡ instances o.left (replace_at o.left p (apart i.right)) o.right m
unfolding overlap_by
by_is i o p none = refl
by_is i o p (some m) = refl

pub overlap_is : (i o : Pair) (p f : ℕ) (ts : Terms) → subterm_at o.left p ≡ some (node f ts) →
    overlap i o p ≡ instances o.left (replace_at o.left p (apart i.right)) o.right (mgu (apart i.left) (node f ts))
unfolding overlap overlap_at
overlap_is i o p f ts e = ap (overlap_at i o p) e ∙ by_is i o p (mgu (apart i.left) (node f ts))

pub overlap_none : (i o : Pair) (p : ℕ) → subterm_at o.left p ≡ none → overlap i o p ≡ none
unfolding overlap overlap_at
overlap_none i o p e = ap (overlap_at i o p) e

-- there is no overlap behind the end of the outer left side
pub overlap_behind : (i o : Pair) (p : ℕ) → size o.left ≤ p → overlap i o p ≡ none
overlap_behind i o p h = go (subterm_at o.left p) refl
  where
    go : (v : Option Term) → subterm_at o.left p ≡ v → overlap i o p ≡ none
    go none e = overlap_none i o p e
    go (some u) e = absurd (omega (arith, subterm_below o.left p u e))

size_apart : (t : Term) → size (apart t) ≡ size t
unfolding apart
size_apart t = size_vars (λ x. 16 + x) t

sizes_four : (x y z w : Term) → sizes (four x y z w) ≡ size x + size y + size z + size w
unfolding sizes
sizes_four x y z w = omega arith

module _ {tab l₁ r₁ l₂ r₂ : List ℕ} {p : ℕ} {nodes nodes' : List ℕ} {end : ℕ} (g : LaysFour tab l₁ r₁ l₂ r₂ p nodes nodes' end) where
  -- where the four terms begin
  abbrev pub roots_of : Roots
  roots_of = record { inner = length l₂; outer = p; left = length l₂ + length l₁; right = end - length r₂ }

  pub meet_within : p < length l₂ → 0 < length r₂ → Within (take (end - 0) (drop 0 nodes')) roots_of
  meet_within h k =
      let w = laid_requires tab l₁ r₁ l₂ r₂ p nodes nodes' end g h k in
      record { few = w.0; inner = w.2; outer = w.1; left = w.3; right = w.4 }

  pub meet_found : {one one' : List ℕ} {r : Met} → SolvesAt (take (end - 0) (drop 0 nodes')) tab roots_of one one' r → Meets tab l₁ r₁ l₂ r₂ p one one' r
  meet_found {one} {one'} {r} s = record { kept = s.kept; answer = λ i o c d m. go i o c d m.0 m.1 m.2 }
    where
      go : (i o : Pair) → Sides 16 tab l₁ r₁ i → Sides 16 tab l₂ r₂ o → (f : ℕ) (ts : Terms) → subterm_at o.left p ≡ some (node f ts) →
          Says one' r (overlap i o p)
      go i o c d f ts e =
          let q = four_terms tab l₁ r₁ l₂ r₂ i o c d p (node f ts) e in
          let z : Term = replace_at o.left p (apart i.right) in
          let x₁ : length l₁ ≡ size (apart i.left) = ap length c.left_bytes ∙ length_bytes i.left ∙ sym (size_apart i.left) in
          let x₂ : length l₂ ≡ size o.left = ap length d.left_bytes ∙ length_bytes o.left in
          let x₃ : length r₂ ≡ size o.right = ap length d.right_bytes ∙ length_bytes o.right in
          let x₄ = g.ends ∙ ap length q ∙ length_bytes_all (the_four i o p) ∙ sizes_four o.left (apart i.left) z o.right in
          subst (λ v. Says one' r v) (sym (overlap_is i o p f ts e))
          (s.answer o.left (apart i.left) z o.right (four_wf tab l₁ r₁ l₂ r₂ i o c d p) (laid_bytes tab l₁ r₁ l₂ r₂ p nodes nodes' end g ∙ q)
          (omega arith) (omega arith) (omega arith) (node f ts) e)

pub overlap_empty : {tab rules r₂ one : List ℕ} {inner outer p : ℕ} → r₂ ≡ right_of (slot rules outer) → length r₂ ≡ 0 →
    Overlapped tab rules inner outer p one one Nothing
overlap_empty {one = one} e z = record {
  kept = kept_none one;
  answer = λ i o j k m. absurd (omega (arith, ap length (e ∙ k.sides.right_bytes), length_bytes o.right, size_pos o.right));
}

pub overlap_met : {tab rules l₁ r₁ l₂ r₂ one one' : List ℕ} {inner outer p : ℕ} {r : Met} → l₁ ≡ left_of (slot rules inner) →
    r₁ ≡ right_of (slot rules inner) → l₂ ≡ left_of (slot rules outer) → r₂ ≡ right_of (slot rules outer) →
    Meets tab l₁ r₁ l₂ r₂ p one one' r → Overlapped tab rules inner outer p one one' r
overlap_met e₁ f₁ e₂ f₂ m = record { kept = m.kept; answer = λ i o j k. m.answer i o (sides_read e₁ f₁ j) (sides_read e₂ f₂ k) }
