-- What `possible` tests: no overlap past the left side, at a variable, or where two symbols differ; else a symbol stands there. Assumes nothing.
-- Read first: specs/Answer (Possible), clash/specs/Clashing, proofs/Meeting.
use mathlib.Core.Path.{◌≡◌, refl, sym, ap, ◌∙◌}
use mathlib.Core.Bool.{Bool, true, false, not, true≢false}
use mathlib.Core.List.{List, [], ◌++◌, append-nil}
use mathlib.Core.Option.{Option, none, some}
use Prim.Native.Nat.{ℕ, ◌+◌, ◌≤◌, ◌<◌}
use native.Mathlib.Omega.{arith}
use native.Mathlib.Nat.{add-zero}
use lib.ListN.{length, get_or, drop}
use lib.Seq.{get_or-drop}
use Rattle.terms.specs.Term.{Term, var, node, Pair, size, term_bytes, subst_term, subterm_at, replace_at}
use Rattle.terms.specs.Flat.{Wf, Starts}
use Rattle.terms.proofs.Bytes.{length_bytes}
use Rattle.terms.proofs.Places.{place}
use Rattle.terms.proofs.Positions.{subterm_is}
use Rattle.terms.proofs.Flats.{widen}
use Rattle.terms.proofs.Starts.{starts_inside}
use Rattle.terms.proofs.Subst.{subst_subst}
use Rattle.unify.specs.Unify.{Binding, mgu}
use Rattle.unify.proofs.Correct.{mgu_right, unifier}
use Rattle.slots.specs.Slots.{slot, left_of, right_of, Layout, Sides, PairAt}
use Rattle.slots.proofs.Layouts.{left_long, sides_read}
use Rattle.rewriting.specs.Overlap.{apart, overlap, overlap_at}
use Rattle.clash.specs.Clashing.{NeverOne, Clashing}
use Rattle.overlaps.specs.Answer.{instances, AtSymbol, Possible}
use Rattle.overlaps.proofs.Meeting.{overlap_is, overlap_none, overlap_behind}

-- terms with no common instance have no unifier when renamed apart
never_mgu : (s t : Term) → NeverOne s t → mgu (apart s) t ≡ none
unfolding apart subst_term
never_mgu s t n = go (mgu (apart s) t) refl
  where
    go : (m : Option (List Binding)) → mgu (apart s) t ≡ m → m ≡ none
    go none e = refl
    go (some m) e =
        absurd (n (λ x. unifier m (16 + x)) (unifier m) (sym (subst_subst (unifier m) (λ x. var (16 + x)) s) ∙ (mgu_right (apart s) t m e).unifies))

overlap_variable : (i o : Pair) (p x : ℕ) → subterm_at o.left p ≡ some (var x) → overlap i o p ≡ none
unfolding overlap overlap_at
overlap_variable i o p x e = ap (overlap_at i o p) e

-- the byte where a term begins is a variable's or a symbol's
abbrev Begins : ℕ → Term → Type 0
Begins b (var x) = b ≡ 128 + x
Begins b (node f ts) = b < 16

begins : (tab l : List ℕ) (p : ℕ) (u : Term) → Starts tab (drop p l) u → Begins (get_or l p 0) u
unfolding term_bytes Wf
begins tab l p u s = go u s.wf (ap (λ k. get_or l k 0) (sym (add-zero p)) ∙ sym (get_or-drop p l 0 0) ∙ ap (λ k. get_or k 0 0) s.bytes)
  where
    go : (u : Term) → Wf 32 tab u → get_or l p 0 ≡ get_or (term_bytes u ++ s.rest) 0 0 → Begins (get_or l p 0) u
    go (var x) w e = e
    go (node f ts) w e = omega (arith, e, w.0)

-- the outer left side is l₂
module _ {tab rules l₂ : List ℕ} {outer : ℕ} (e₂ : l₂ ≡ left_of (slot rules outer)) (o : Pair) (k : PairAt 16 tab rules outer o) where
  outer_sides : Sides 16 tab l₂ (right_of (slot rules outer)) o
  outer_sides = sides_read e₂ refl k

  outer_size : length l₂ ≡ size o.left
  outer_size = ap length outer_sides.left_bytes ∙ length_bytes o.left

  module _ (p : ℕ) where
    -- a subterm stands where its bytes do
    stands : (u : Term) → subterm_at o.left p ≡ some u → Starts tab (drop p l₂) u
    stands u e =
        let d = outer_sides in
        starts_inside tab l₂ o.left p u (record {
          wf = widen 16 32 tab o.left (omega arith) d.left_wf;
          rest = [];
          bytes = d.left_bytes ∙ sym (append-nil (term_bytes o.left));
        }) e

    open_none : 128 ≤ get_or l₂ p 0 → (i : Pair) (v : Option Term) → subterm_at o.left p ≡ v → overlap i o p ≡ none
    open_none h i none e = overlap_none i o p e
    open_none h i (some (var x)) e = overlap_variable i o p x e
    open_none h i (some (node f ts)) e = absurd (omega (arith, begins tab l₂ p (node f ts) (stands (node f ts) e)))

    at_symbol : p < length l₂ → get_or l₂ p 0 < 128 → AtSymbol o.left p
    at_symbol h s = let c : p < size o.left = omega (arith, outer_size) in go (place o.left p c).s (subterm_is o.left p c)
      where
        go : (u : Term) → subterm_at o.left p ≡ some u → AtSymbol o.left p
        go (var x) e = absurd (omega (arith, begins tab l₂ p (var x) (stands (var x) e)))
        go (node f ts) e = (f, ts, e)

    clash_none : {l₁ r₁ : List ℕ} (i : Pair) → Sides 16 tab l₁ r₁ i → Clashing tab l₁ l₂ p true → AtSymbol o.left p → overlap i o p ≡ none
    clash_none i c g m =
        let u : Term = node m.0 m.1 in
        let n = g.never refl i.left u (widen 16 32 tab i.left (omega arith) c.left_wf) c.left_bytes (stands u m.2) in
        overlap_is i o p m.0 m.1 m.2 ∙ ap (instances o.left (replace_at o.left p (apart i.right)) o.right) (never_mgu i.left u n)

impossible : {tab rules : List ℕ} {inner outer p : ℕ} → ((i o : Pair) → PairAt 16 tab rules inner i → PairAt 16 tab rules outer o → overlap i o p ≡ none) →
    Possible tab rules inner outer p false
impossible f = record { within = λ e. absurd (true≢false (sym e)); symbol = λ e. absurd (true≢false (sym e)); missing = λ e. f }

module _ {tab rules l₂ : List ℕ} {inner outer p : ℕ} (e₂ : l₂ ≡ left_of (slot rules outer)) where
  pub possible_beyond : length l₂ ≤ p → Possible tab rules inner outer p false
  possible_beyond h = impossible (λ i o j k. overlap_behind i o p (omega (arith, outer_size e₂ o k)))

  pub possible_open : 128 ≤ get_or l₂ p 0 → Possible tab rules inner outer p false
  possible_open h = impossible (λ i o j k. open_none e₂ o k p h i (subterm_at o.left p) refl)

  pub possible_tested : Layout rules (outer + 1) → p < length l₂ → get_or l₂ p 0 < 128 → {l₁ : List ℕ} → l₁ ≡ left_of (slot rules inner) →
      (b : Bool) → Clashing tab l₁ l₂ p b → Possible tab rules inner outer p (not b)
  possible_tested y h s e₁ true g = impossible (λ i o j k. clash_none e₂ o k p i (sides_read e₁ refl j) g (at_symbol e₂ o k p h s))
  possible_tested y h s e₁ false g = record {
    within = λ e. omega (arith, ap length e₂, left_long rules outer y);
    symbol = λ e o k. at_symbol e₂ o k p h s;
    missing = λ e. absurd (true≢false e);
  }
