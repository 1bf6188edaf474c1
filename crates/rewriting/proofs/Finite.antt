-- A list of rules: the critical pair lemma over the numbers of two rules and of a place. Assumes nothing.
-- Read first: proofs/Peak, proofs/Critical (`PeakOf`), terms/proofs/Places.
use mathlib.Core.Path.{◌≡◌, refl, sym, ◌∙◌, ap, subst}
use mathlib.Core.List.Memᴰ
use mathlib.Core.List.{List}
use Prim.Native.Nat.{ℕ, suc, ◌<◌}
use native.Mathlib.Omega.{arith}
use native.Mathlib.Decide.{dec_lt, ℕ_discrete}
use lib.ListN.{length, get_or}
use Rattle.terms.specs.Term.{Term, Terms, var, node, size, variables, subst_term, Pair}
use Rattle.terms.proofs.Subst.{In, VarsIn, subst_agree, at_variables}
use Rattle.terms.proofs.Context.{Ctx, hole, beneath, plug, subst_context}
use Rattle.terms.proofs.Places.{number, At, place, place_unique, number_lt}
use Rattle.rewriting.proofs.Relations.{Join, LocallyConfluent, Step, Of}
use Rattle.rewriting.proofs.Abstract.{join_swap, join_refl}
use Rattle.rewriting.proofs.Peak.{peaks_local}
use Rattle.rewriting.proofs.Critical.{PeakOf}

abbrev pub none_such : Pair
none_such = record { left = var 0; right = var 0 }

-- The sides of the pair by its number.
abbrev pub lhs : List Pair → ℕ → Term
lhs rs i = (get_or rs i none_such).left

abbrev pub rhs : List Pair → ℕ → Term
rhs rs i = (get_or rs i none_such).right

-- Where a rule stands in its list.
pub record StepStands (rs : List Pair) (l r : Term) : Type 0 where
  pub i : ℕ
  pub below : i < length rs
  pub is_l : l ≡ lhs rs i
  pub is_r : r ≡ rhs rs i

stands_in : (l r : Term) {rs : List Pair} → Of rs l r → StepStands rs l r
stands_in l r (Memᴰ.head e) = record { i = 0; below = omega arith; is_l = ap (λ (p : Pair). p.left) e; is_r = ap (λ (p : Pair). p.right) e }
stands_in l r (Memᴰ.tail m) =
    let s = stands_in l r m in
    let h : s.i < _ = s.below in
    record { i = suc s.i; below = omega arith; is_l = s.is_l; is_r = s.is_r }

pub stands : {rs : List Pair} (l r : Term) → Of rs l r → StepStands rs l r
stands l r m = stands_in l r m

-- No variable.
pub data IsNode : Term → Type 0 where
  is_node : (f : ℕ) (ts : Terms) → IsNode (node f ts)

number_hole : (c : Ctx) → number c ≡ 0 → c ≡ hole
unfolding number
number_hole hole e = refl
number_hole (beneath f cs) e = absurd (omega arith)

module _ (rs : List Pair) (nodes : (i : ℕ) → i < length rs → IsNode (lhs rs i))
    (vars : (i : ℕ) → i < length rs → VarsIn (λ x. In x (variables (lhs rs i))) (rhs rs i))
    (pairs : (i j k : ℕ) → i < length rs → j < length rs → (h : k < size (lhs rs j)) → (k ≡ 0 → i < j) → IsNode (place (lhs rs j) k h).s →
    PeakOf (Of rs) (lhs rs i) (rhs rs i) (rhs rs j) (place (lhs rs j) k h).c (place (lhs rs j) k h).s) where
  -- The place is the one of its number.
  at_place : (i j : ℕ) → i < length rs → j < length rs → (c : Ctx) (s : Term) → IsNode s → lhs rs j ≡ plug c s → (number c ≡ 0 → i < j) →
      PeakOf (Of rs) (lhs rs i) (rhs rs i) (rhs rs j) c s
  at_place i j hi hj c s n e o =
      let h : number c < size (lhs rs j) = subst (λ z. number c < size z) (sym e) (number_lt c s) in
      let a : At (lhs rs j) (number c) = place (lhs rs j) (number c) h in
      let u = place_unique a.c c a.s s (sym a.whole ∙ e) a.counts in
      subst (λ z. PeakOf (Of rs) (lhs rs i) (rhs rs i) (rhs rs j) z s) u.0
      (subst (λ z. PeakOf (Of rs) (lhs rs i) (rhs rs i) (rhs rs j) a.c z) u.1 (pairs i j (number c) hi hj h o (subst IsNode (sym u.1) n)))

  self_root : (i : ℕ) → i < length rs → PeakOf (Of rs) (lhs rs i) (rhs rs i) (rhs rs i) hole (lhs rs i)
  unfolding plug subst_context
  self_root i hi τ σ e =
      let on_r : subst_term σ (rhs rs i) ≡ subst_term τ (rhs rs i) = subst_agree σ τ (rhs rs i) (λ x h. at_variables σ τ (lhs rs i) e x (vars i hi x h)) in
      subst (λ z. Join (Step (Of rs)) z (subst_term σ (rhs rs i))) on_r join_refl

  at_root : (i j : ℕ) → i < length rs → j < length rs → Dec (i < j) → Dec (j < i) → PeakOf (Of rs) (lhs rs i) (rhs rs i) (rhs rs j) hole (lhs rs j)
  unfolding plug subst_context
  at_root i j hi hj (yes l) g = at_place i j hi hj hole (lhs rs j) (nodes j hj) refl (λ _. l)
  at_root i j hi hj (no l) (yes g) = λ τ σ e. join_swap (at_place j i hj hi hole (lhs rs i) (nodes i hi) refl (λ _. g) σ τ (sym e))
  at_root i j hi hj (no l) (no g) =
      let q : j ≡ i = omega arith in
      subst (λ z. PeakOf (Of rs) (lhs rs i) (rhs rs i) (rhs rs z) hole (lhs rs z)) (sym q) (self_root i hi)

  any_place : (i j : ℕ) → i < length rs → j < length rs → (c : Ctx) (s : Term) → IsNode s → lhs rs j ≡ plug c s → Dec (number c ≡ 0) →
      PeakOf (Of rs) (lhs rs i) (rhs rs i) (rhs rs j) c s
  unfolding plug subst_context
  any_place i j hi hj c s n e (no z) = at_place i j hi hj c s n e (λ y. absurd (z y))
  any_place i j hi hj c s n e (yes z) =
      let q : c ≡ hole = number_hole c z in
      let s_is : lhs rs j ≡ s = subst (λ w. lhs rs j ≡ plug w s) q e in
      subst (λ w. PeakOf (Of rs) (lhs rs i) (rhs rs i) (rhs rs j) w s) (sym q)
      (subst (λ w. PeakOf (Of rs) (lhs rs i) (rhs rs i) (rhs rs j) hole w) s_is (at_root i j hi hj (dec_lt i j) (dec_lt j i)))

  -- The critical pair lemma for a list of rules: two rules by number, a place of the second by number; at the root only the first before the second.
  pub finite_critical_pairs : LocallyConfluent (Step (Of rs))
  finite_critical_pairs =
      peaks_local (λ l r l' r' inner outer c f ts e.
      let a = stands l r inner in
      let b = stands l' r' outer in
      let h = any_place a.i b.i a.below b.below c (node f ts) (is_node f ts) (sym b.is_l ∙ e) (ℕ_discrete (number c) 0) in
      subst (λ z. PeakOf (Of rs) z r r' c (node f ts)) (sym a.is_l)
      (subst (λ z. PeakOf (Of rs) (lhs rs a.i) z r' c (node f ts)) (sym a.is_r)
      (subst (λ z. PeakOf (Of rs) (lhs rs a.i) (rhs rs a.i) z c (node f ts)) (sym b.is_r) h)))
