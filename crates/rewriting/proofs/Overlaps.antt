-- `overlap` finds the critical pairs: its peak steps to both of its sides, and where its sides join, every peak at the place does. Assumes nothing.
-- Read first: specs/Overlap, proofs/Checked, unify/proofs/Correct.
use mathlib.Core.Path.{◌≡◌, refl, sym, ◌∙◌, ap, subst₂}
use mathlib.Core.Logic.{inl, inr}
use mathlib.Core.List.{List}
use mathlib.Core.Option.{Option, none, some}
use Prim.Native.Nat.{ℕ, ◌<◌}
use lib.ListN.{length}
use Rattle.terms.specs.Term.{Term, Terms, var, node, size, subst_term, subterm_at, replace_at, Pair}
use Rattle.terms.proofs.Shape.{none≢some, some_inj}
use Rattle.terms.proofs.Subst.{Subst, subst_subst}
use Rattle.terms.proofs.Context.{plug, subst_context, subst_plug}
use Rattle.terms.proofs.Places.{place}
use Rattle.terms.proofs.Positions.{subterm_is, replace_is, Found, found}
use Rattle.terms.proofs.Apart.{up}
use Rattle.unify.specs.Unify.{Binding, under, mgu}
use Rattle.unify.proofs.Correct.{unifier, under_is, mgu_right, mgu_none}
use Rattle.unify.proofs.Unique.{mgu_most_general}
use Rattle.rewriting.specs.Overlap.{Overlap, apart, overlap_by, overlap_at, overlap}
use Rattle.rewriting.proofs.Relations.{Join, Conv, same, ahead, back, Rules, Step, Of, Solves}
use Rattle.rewriting.proofs.Steps.{instance, step_plug}
use Rattle.rewriting.proofs.Finite.{lhs, rhs, IsNode, is_node}
use Rattle.rewriting.proofs.Order.{ReductionOrder}
use Rattle.rewriting.proofs.Critical.{PairDone}
use Rattle.rewriting.proofs.Checked.{checked_solves, Founded}

-- What an overlap is made of.
pub record Made (inner outer : Pair) (p : ℕ) (o : Overlap) : Type 0 where
  pub f : ℕ
  pub ts : Terms
  pub here : subterm_at outer.left p ≡ some (node f ts)
  pub m : List Binding
  pub unified : mgu (apart inner.left) (node f ts) ≡ some m
  pub is_peak : o.peak ≡ under m outer.left
  pub is_left : o.sides.left ≡ under m (replace_at outer.left p (apart inner.right))
  pub is_right : o.sides.right ≡ under m outer.right

module _ (inner outer : Pair) (p : ℕ) (o : Overlap) where
  made_by : (f : ℕ) (ts : Terms) → subterm_at outer.left p ≡ some (node f ts) → (a : Option (List Binding)) → mgu (apart inner.left) (node f ts) ≡ a →
      overlap_by inner outer p a ≡ some o → Made inner outer p o
  unfolding overlap_by
  made_by f ts h none e q = absurd (none≢some q)
  made_by f ts h (some m) e q =
      let w = some_inj q in
      record {
        f = f;
        ts = ts;
        here = h;
        m = m;
        unified = e;
        is_peak = ap (λ (v : Overlap). v.peak) (sym w);
        is_left = ap (λ (v : Overlap). v.sides.left) (sym w);
        is_right = ap (λ (v : Overlap). v.sides.right) (sym w);
      }

  made_at : (a : Option Term) → subterm_at outer.left p ≡ a → overlap_at inner outer p a ≡ some o → Made inner outer p o
  unfolding overlap_at
  made_at none h q = absurd (none≢some q)
  made_at (some (var x)) h q = absurd (none≢some q)
  made_at (some (node f ts)) h q = made_by f ts h (mgu (apart inner.left) (node f ts)) refl q

  pub made : overlap inner outer p ≡ some o → Made inner outer p o
  unfolding overlap
  made q = made_at (subterm_at outer.left p) refl q

  -- The peak steps to either side, by the inner rule and by the outer.
  module _ (R : Rules) (is_inner : R inner.left inner.right) (is_outer : R outer.left outer.right) (q : overlap inner outer p ≡ some o) where
    pub peak_left : Step R o.peak o.sides.left
    unfolding apart
    peak_left =
        let w = made q in
        let m : Subst = unifier w.m in
        let s : Term = node w.f w.ts in
        let a : Found outer.left p s = found outer.left p s w.here in
        let e : subst_term m (subst_term (up 16) inner.left) ≡ subst_term m s = (mgu_right _ _ w.m w.unified).unifies in
        let before : o.peak ≡ plug (subst_context m a.c) (subst_term m (subst_term (up 16) inner.left)) =
        w.is_peak ∙ under_is w.m outer.left ∙ ap (subst_term m) a.whole ∙ subst_plug m a.c s ∙ ap (plug (subst_context m a.c)) (sym e) in
        let after : o.sides.left ≡ plug (subst_context m a.c) (subst_term m (subst_term (up 16) inner.right)) =
        w.is_left ∙ under_is w.m _ ∙ ap (subst_term m) (a.replaced (subst_term (up 16) inner.right)) ∙ subst_plug m a.c
        (subst_term (up 16) inner.right) in
        let τ : Subst = λ x. subst_term m (up 16 x) in
        subst₂ (Step R) (sym before) (sym after)
        (step_plug (subst_context m a.c)
        (subst₂ (Step R) (sym (subst_subst m (up 16) inner.left)) (sym (subst_subst m (up 16) inner.right)) (instance R is_inner τ)))

    pub peak_right : Step R o.peak o.sides.right
    peak_right =
        let w = made q in
        let m : Subst = unifier w.m in
        subst₂ (Step R) (sym (w.is_peak ∙ under_is w.m outer.left)) (sym (w.is_right ∙ under_is w.m outer.right)) (instance R is_outer m)

    -- so the pair is an equality of the rules
    pub overlap_conv : Conv (Step R) o.sides.left o.sides.right
    overlap_conv = back peak_left (ahead peak_right same)

-- Where `overlap` answers none there is nothing to unify, and where its sides join the pair is done.
module _ (R : Rules) (inner outer : Pair) (p : ℕ) (h : p < size outer.left)
    (joins : (o : Overlap) → overlap inner outer p ≡ some o → Join (Step R) o.sides.left o.sides.right) where
  done_mgu : (f : ℕ) (ts : Terms) → (place outer.left p h).s ≡ node f ts → (a : Option (List Binding)) → mgu (apart inner.left) (node f ts) ≡ a →
      PairDone R 16 inner.left inner.right outer.right (place outer.left p h).c (node f ts)
  unfolding overlap overlap_at overlap_by apart
  done_mgu f ts e none q = inl (mgu_none _ _ q)
  done_mgu f ts e (some m) q =
      let at_p : subterm_at outer.left p ≡ some (node f ts) = subterm_is outer.left p h ∙ ap some e in
      let q' : mgu (apart inner.left) (node f ts) ≡ some m = q in
      let o : Overlap = record {
        peak = under m outer.left;
        sides = record { left = under m (replace_at outer.left p (apart inner.right)); right = under m outer.right };
      } in
      let is_o : overlap inner outer p ≡ some o = ap (overlap_at inner outer p) at_p ∙ ap (overlap_by inner outer p) q' in
      let left : o.sides.left ≡ subst_term (unifier m) (plug (place outer.left p h).c (subst_term (up 16) inner.right)) =
      under_is m _ ∙ ap (subst_term (unifier m)) (replace_is outer.left p h (subst_term (up 16) inner.right)) in
      inr (
        record { m = unifier m; general = mgu_most_general _ _ m q },
        subst₂ (Join (Step R)) left (under_is m outer.right) (joins o is_o),
      )

  pub overlap_done : IsNode (place outer.left p h).s →
      PairDone R 16 inner.left inner.right outer.right (place outer.left p h).c (place outer.left p h).s
  overlap_done n = go (place outer.left p h).s n refl
    where
      go : (s : Term) → IsNode s → (place outer.left p h).s ≡ s → PairDone R 16 inner.left inner.right outer.right (place outer.left p h).c s
      go s (is_node f ts) e = done_mgu f ts e (mgu (apart inner.left) (node f ts)) refl

-- What `overlap` finds joins, so the rules solve the equations.
abbrev pub OverlapsJoin : List Pair → Type 0
OverlapsJoin rs =
    (i j n : ℕ) → i < length rs → j < length rs → n < size (lhs rs j) → (n ≡ 0 → i < j) → (o : Overlap) →
    overlap (record { left = lhs rs i; right = rhs rs i }) (record { left = lhs rs j; right = rhs rs j }) n ≡ some o →
    Join (Step (Of rs)) o.sides.left o.sides.right

pub settled_solves : {gt : Term → Term → Type 0} {es rs : List Pair} → ReductionOrder gt → Founded gt 16 es rs → OverlapsJoin rs → Solves (Of es) (Of rs)
settled_solves {rs = rs} order v overlaps =
    checked_solves order v
    (λ i j n hi hj h c k.
    overlap_done (Of rs) (record { left = lhs rs i; right = rhs rs i }) (record { left = lhs rs j; right = rhs rs j }) n h (overlaps i j n hi hj h c) k)
