-- Rewriting ends where a reduction order has each rule's left side above its right side. Assumes nothing.
-- Read first: proofs/Relations, proofs/Steps.
use mathlib.Core.Path.{◌≡◌, sym, ap, subst₂}
use mathlib.Core.WellFounded.{Acc}
use Rattle.terms.specs.Term.{Term, Terms, node, cons, subst_term}
use Rattle.terms.proofs.Subst.{Subst}
use Rattle.terms.proofs.Context.{Ctx, Ctxs, hole, beneath, first, later, plug, plugs}
use Rattle.rewriting.proofs.Relations.{Below, Ends, Rules, Step, Steps, root, inside, here, there}
use Rattle.rewriting.proofs.Steps.{instance, step_plug}

-- A step in the usual words: at some place stands an instance of a left side, and the right side's instance takes its place.
pub record StepAt (R : Rules) (t u : Term) : Type 0 where
  pub l : Term
  pub r : Term
  pub rule : R l r
  pub σ : Subst
  pub c : Ctx
  pub before : t ≡ plug c (subst_term σ l)
  pub after : u ≡ plug c (subst_term σ r)

record StepsAt (R : Rules) (t u : Terms) : Type 0 where
  l : Term
  r : Term
  rule : R l r
  σ : Subst
  c : Ctxs
  before : t ≡ plugs c (subst_term σ l)
  after : u ≡ plugs c (subst_term σ r)

module _ {R : Rules} where
  mutual
    unfolding plug plugs

    pub step_at : {t u : Term} → Step R t u → StepAt R t u
    step_at (root {l = l} {r = r} ρ σ e d) = record { l = l; r = r; rule = ρ; σ = σ; c = hole; before = e; after = d }
    step_at (inside {f = f} s) =
        let p = steps_at s in
        record { l = p.l; r = p.r; rule = p.rule; σ = p.σ; c = beneath f p.c; before = ap (node f) p.before; after = ap (node f) p.after }

    steps_at : {t u : Terms} → Steps R t u → StepsAt R t u
    steps_at (here {ts = ts} s) =
        let p = step_at s in
        record {
          l = p.l;
          r = p.r;
          rule = p.rule;
          σ = p.σ;
          c = first p.c ts;
          before = ap (λ z. cons z ts) p.before;
          after = ap
              (λ z. cons z ts) p.after;
        }
    steps_at (there {t = t} s) =
        let p = steps_at s in
        record { l = p.l; r = p.r; rule = p.rule; σ = p.σ; c = later t p.c; before = ap (cons t) p.before; after = ap (cons t) p.after }

  pub at_step : {t u : Term} → StepAt R t u → Step R t u
  at_step p = subst₂ (Step R) (sym p.before) (sym p.after) (step_plug p.c (instance R p.rule p.σ))

-- A well-founded order that substitutions and contexts keep.
pub record ReductionOrder (gt : Term → Term → Type 0) : Type 0 where
  pub founded : Ends gt
  pub on_subst : (σ : Subst) (t u : Term) → gt t u → gt (subst_term σ t) (subst_term σ u)
  pub on_plug : (c : Ctx) (t u : Term) → gt t u → gt (plug c t) (plug c u)

-- What ends for a relation ends for a part of it.
pub ends_part : {A : Type 0} {S T : A → A → Type 0} → ((a b : A) → S a b → T a b) → (a : A) → Acc (Below T) a → Acc (Below S) a
ends_part h a (Acc.intro x k) = Acc.intro x (λ y s. ends_part h y (k y (h x y s)))

module _ {R : Rules} {gt : Term → Term → Type 0} (o : ReductionOrder gt) (down : (l r : Term) → R l r → gt l r) where
  pub step_down : (t u : Term) → Step R t u → gt t u
  step_down t u s =
      let p = step_at s in
      subst₂ gt (sym p.before) (sym p.after) (o.on_plug p.c _ _ (o.on_subst p.σ _ _ (down _ _ p.rule)))

  pub order_ends : Ends (Step R)
  order_ends t = ends_part step_down t (o.founded t)
