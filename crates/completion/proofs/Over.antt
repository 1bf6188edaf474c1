-- Terms over the symbols: what keeps them so. Instances, renaming, parts, replacement, unification, overlaps, steps and normalising. Assumes nothing.
-- Read first: problem/specs/Over.
use mathlib.Core.Path.{◌≡◌, refl, sym, ◌∙◌, ap, subst}
use mathlib.Core.List.Memᴰ
use mathlib.Core.List.{List}
use mathlib.Core.Option.{some}
use Prim.Native.Nat.{ℕ, suc}
use lib.Dec.{eqb}
use Rattle.terms.specs.Term.{Term, Terms, var, node, nil, cons, variables, variables_of, subst_term, subst_terms, Pair, renamed, subterm_at, replace_at, count}
use Rattle.terms.proofs.Subst.{Subst, In, VarsIn, count_subst}
use Rattle.terms.specs.Base.{Every}
use Rattle.terms.proofs.Context.{Ctx, Ctxs, hole, beneath, first, later, plug, plugs}
use Rattle.terms.proofs.Positions.{Found, found, plug_inherits, subterm_inherits}
use Rattle.unify.specs.Unify.{single, Binding, under, mgu}
use Rattle.terms.proofs.Shape.{either_has}
use Rattle.unify.proofs.Limits.{Replaces, Answers, mgu_keeps, under_keeps}
use Rattle.rewriting.specs.Overlap.{Overlap, overlap, apart}
use Rattle.rewriting.proofs.Relations.{Rules, Step, here, Star, stop, move}
use Rattle.rewriting.proofs.Order.{StepAt, step_at}
use Rattle.rewriting.proofs.Overlaps.{Made, made}
use Rattle.problem.specs.Problem.{Symbol}
use Rattle.problem.specs.Over.{Over, OverAll}
use Rattle.completion.proofs.Words.{over_inherits, over_at}

-- a filled context has as many arguments
pub count_plugs : (cs : Ctxs) (a b : Term) → count (plugs cs a) ≡ count (plugs cs b)
unfolding plugs count
count_plugs (first c ts) a b = refl
count_plugs (later s cs) a b = ap suc (count_plugs cs a b)

abbrev pub OverPair : List Symbol → Pair → Type 0
OverPair Σ e = Over Σ e.left × Over Σ e.right

abbrev pub OverEquations : List Symbol → List Pair → Type 0
OverEquations Σ es = Every (OverPair Σ) es

module _ (Σ : List Symbol) where
  pub over_var : (x : ℕ) → Over Σ (var x)
  unfolding Over
  over_var x = tt

  -- an instance by such terms
  mutual
    unfolding Over subst_term variables

    pub over_subst : (σ : Subst) (t : Term) → VarsIn (λ x. Over Σ (σ x)) t → Over Σ t → Over Σ (subst_term σ t)
    over_subst σ (var x) h o = h x (Memᴰ.head refl)
    over_subst σ (node f ts) h o = (o.0, count_subst σ ts ∙ o.1, over_substs σ ts h o.2)

    pub over_substs : (σ : Subst) (ts : Terms) → ((x : ℕ) → In x (variables_of ts) → Over Σ (σ x)) → OverAll Σ ts → OverAll Σ (subst_terms σ ts)
    over_substs σ nil h o = tt
    over_substs σ (cons t ts) h o = (
      over_subst σ t (λ x i. h x (Memᴰ.append_left (variables_of ts) i)) o.0,
      over_substs σ ts (λ x i. h x (Memᴰ.append_right (variables t) i)) o.1,
    )

  pub over_renamed : (e : Pair) → OverPair Σ e → OverPair Σ (renamed e)
  unfolding renamed
  over_renamed e o = (over_subst _ e.left (λ x i. over_var _) o.0, over_subst _ e.right (λ x i. over_var _) o.1)

  pub over_apart : (t : Term) → Over Σ t → Over Σ (apart t)
  unfolding apart
  over_apart t o = over_subst _ t (λ x i. over_var _) o

  -- another term in the same place
  mutual
    unfolding Over plug plugs

    pub over_refill : (c : Ctx) (a b : Term) → Over Σ (plug c a) → Over Σ b → Over Σ (plug c b)
    over_refill hole a b h o = o
    over_refill (beneath f cs) a b h o = (h.0, count_plugs cs b a ∙ h.1, over_refills cs a b h.2 o)

    pub over_refills : (cs : Ctxs) (a b : Term) → OverAll Σ (plugs cs a) → Over Σ b → OverAll Σ (plugs cs b)
    over_refills (first c ts) a b h o = (over_refill c a b h.0 o, h.1)
    over_refills (later s cs) a b h o = (h.0, over_refills cs a b h.1 o)

  pub over_subterm : (t : Term) (p : ℕ) (u : Term) → subterm_at t p ≡ some u → Over Σ t → Over Σ u
  over_subterm t p u e o = subterm_inherits (over_inherits Σ) t p u e o

  pub over_replace : (t : Term) (p : ℕ) (u v : Term) → subterm_at t p ≡ some u → Over Σ t → Over Σ v → Over Σ (replace_at t p v)
  over_replace t p u v e o q =
      let f : Found t p u = found t p u e in
      subst (Over Σ) (sym (f.replaced v)) (over_refill f.c u v (subst (Over Σ) f.whole o) q)

  -- a step by rules over the symbols whose right sides have no variables of their own
  pub over_step : (R : Rules) → ((l r : Term) → R l r → Over Σ r) → ((l r : Term) → R l r → VarsIn (λ x. In x (variables l)) r) →
      (s t : Term) → Step R s t → Over Σ s → Over Σ t
  over_step R right vars s t w o =
      let p : StepAt R s t = step_at w in
      let o' : Over Σ (plug p.c (subst_term p.σ p.l)) = subst (Over Σ) p.before o in
      let at_l : Over Σ (subst_term p.σ p.l) = plug_inherits (over_inherits Σ) p.c _ o' in
      let at_r : Over Σ (subst_term p.σ p.r) =
      over_subst p.σ p.r (λ x i. over_at Σ p.σ p.l at_l x (vars _ _ p.rule x i)) (right _ _ p.rule) in
      subst (Over Σ) (sym p.after) (over_refill p.c _ _ o' at_r)

  pub over_star : (R : Rules) → ((l r : Term) → R l r → Over Σ r) → ((l r : Term) → R l r → VarsIn (λ x. In x (variables l)) r) →
      {s t : Term} → Star (Step R) s t → Over Σ s → Over Σ t
  over_star R right vars stop o = o
  over_star R right vars (move w m) o = over_star R right vars m (over_step R right vars _ _ w o)

  -- unification
  over_replaces : Replaces (Over Σ) (OverAll Σ)
  unfolding Over single
  over_replaces =
      record {
        inherits = over_inherits Σ;
        replaced = λ x u t o q. over_subst (single x u) t (λ y i. either_has (Over Σ) (eqb x y) u (var y) o (over_var y)) q;
      }

  -- what a most general unifier of two such terms makes of such a term
  pub over_mgu : (s t : Term) (m : List Binding) → mgu s t ≡ some m → Over Σ s → Over Σ t → (w : Term) → Over Σ w → Over Σ (under m w)
  over_mgu s t m e o q w k =
      let h : Answers (Over Σ) (mgu s t) = mgu_keeps (Over Σ) (OverAll Σ) over_replaces s t o q in
      under_keeps (Over Σ) (OverAll Σ) over_replaces m w (subst (Answers (Over Σ)) e h) k

  -- the peak and the sides of an overlap
  pub over_overlap : (inner outer : Pair) (p : ℕ) (o : Overlap) → overlap inner outer p ≡ some o → OverPair Σ inner → OverPair Σ outer →
      Over Σ o.peak × OverPair Σ o.sides
  over_overlap inner outer p o e hi ho =
      let w : Made inner outer p o = made inner outer p o e in
      let keeps : (t : Term) → Over Σ t → Over Σ (under w.m t) =
      over_mgu _ _ w.m w.unified (over_apart _ hi.0) (over_subterm _ p _ w.here ho.0) in (
        subst (Over Σ) (sym w.is_peak) (keeps _ ho.0),
        (
          subst (Over Σ) (sym w.is_left) (keeps _ (over_replace _ p _ _ w.here ho.0 (over_apart _ hi.1))),
          subst (Over Σ) (sym w.is_right) (keeps _ ho.1),
        ),
      )
