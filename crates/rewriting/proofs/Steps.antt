-- What one step of rewriting by the rules `R` is closed under. Assumes nothing.
-- Read first: proofs/Relations, terms/proofs/Context.
use mathlib.Core.Path.{refl, ◌∙◌, ap}
use Prim.Native.Nat.{ℕ}
use Rattle.terms.specs.Term.{Term, Terms, var, node, nil, cons, subst_term, subst_terms}
use Rattle.terms.proofs.Subst.{Subst, then, subst_subst}
use Rattle.terms.proofs.Context.{Ctx, Ctxs, hole, beneath, first, later, plug, plugs, subst_context, subst_contexts}
use Rattle.rewriting.proofs.Relations.{Star, stop, Conv, Join, Rules, Step, Steps, root, inside, here, there}
use Rattle.rewriting.proofs.Abstract.{append, chain, star_map, conv_map, join_map}

-- An instance of a rule's left side is rewritten to that of its right side.
pub instance : (R : Rules) {l r : Term} → R l r → (σ : Subst) → Step R (subst_term σ l) (subst_term σ r)
instance R ρ σ = root ρ σ refl refl

module _ {R : Rules} where
  -- A step is a step beneath any substitution.
  mutual
    unfolding subst_term subst_terms

    pub step_subst : {t u : Term} → (δ : Subst) → Step R t u → Step R (subst_term δ t) (subst_term δ u)
    step_subst δ (root {l = l} {r = r} ρ σ e d) = root ρ (then σ δ) (ap (subst_term δ) e ∙ subst_subst δ σ l) (ap (subst_term δ) d ∙ subst_subst δ σ r)
    step_subst δ (inside s) = inside (steps_subst δ s)

    pub steps_subst : {t u : Terms} → (δ : Subst) → Steps R t u → Steps R (subst_terms δ t) (subst_terms δ u)
    steps_subst δ (here s) = here (step_subst δ s)
    steps_subst δ (there s) = there (steps_subst δ s)

  -- A step is a step in any context.
  mutual
    unfolding plug plugs

    pub step_plug : {t u : Term} (c : Ctx) → Step R t u → Step R (plug c t) (plug c u)
    step_plug hole s = s
    step_plug (beneath f cs) s = inside (steps_plug cs s)

    pub steps_plug : {t u : Term} (cs : Ctxs) → Step R t u → Steps R (plugs cs t) (plugs cs u)
    steps_plug (first c ts) s = here (step_plug c s)
    steps_plug (later x cs) s = there (steps_plug cs s)

  pub conv_subst : {t u : Term} (δ : Subst) → Conv (Step R) t u → Conv (Step R) (subst_term δ t) (subst_term δ u)
  conv_subst δ = conv_map (subst_term δ) (λ t u. step_subst δ)

  pub join_subst : {t u : Term} (δ : Subst) → Join (Step R) t u → Join (Step R) (subst_term δ t) (subst_term δ u)
  join_subst δ = join_map (subst_term δ) (λ t u. step_subst δ)

  -- Steps in the arguments.
  pub star_node : {ts us : Terms} (f : ℕ) → Star (Steps R) ts us → Star (Step R) (node f ts) (node f us)
  star_node f = star_map (node f) (λ t u. inside)

  pub star_head : {t u : Term} (ts : Terms) → Star (Step R) t u → Star (Steps R) (cons t ts) (cons u ts)
  star_head ts = star_map (λ t. cons t ts) (λ t u. here)

  pub star_tail : {ts us : Terms} (t : Term) → Star (Steps R) ts us → Star (Steps R) (cons t ts) (cons t us)
  star_tail t = star_map (cons t) (λ ts us. there)

  pub star_cons : {t u : Term} {ts us : Terms} → Star (Step R) t u → Star (Steps R) ts us → Star (Steps R) (cons t ts) (cons u us)
  star_cons {u = u} {ts = ts} s q = append (star_head ts s) (star_tail u q)

  pub conv_node : {ts us : Terms} (f : ℕ) → Conv (Steps R) ts us → Conv (Step R) (node f ts) (node f us)
  conv_node f = conv_map (node f) (λ t u. inside)

  pub conv_head : {t u : Term} (ts : Terms) → Conv (Step R) t u → Conv (Steps R) (cons t ts) (cons u ts)
  conv_head ts = conv_map (λ t. cons t ts) (λ t u. here)

  pub conv_tail : {ts us : Terms} (t : Term) → Conv (Steps R) ts us → Conv (Steps R) (cons t ts) (cons t us)
  conv_tail t = conv_map (cons t) (λ ts us. there)

  pub conv_cons : {t u : Term} {ts us : Terms} → Conv (Step R) t u → Conv (Steps R) ts us → Conv (Steps R) (cons t ts) (cons u us)
  conv_cons {u = u} {ts = ts} s q = chain (conv_head ts s) (conv_tail u q)

  -- Each variable's term is rewritten to another: so is the instance of any term, at every copy of a variable.
  mutual
    unfolding subst_term subst_terms

    pub stars_subst : (σ τ : Subst) → ((x : ℕ) → Star (Step R) (σ x) (τ x)) → (t : Term) → Star (Step R) (subst_term σ t) (subst_term τ t)
    stars_subst σ τ h (var x) = h x
    stars_subst σ τ h (node f ts) = star_node f (stars_substs σ τ h ts)

    pub stars_substs : (σ τ : Subst) → ((x : ℕ) → Star (Step R) (σ x) (τ x)) → (ts : Terms) → Star (Steps R) (subst_terms σ ts) (subst_terms τ ts)
    stars_substs σ τ h nil = stop
    stars_substs σ τ h (cons t ts) = star_cons (stars_subst σ τ h t) (stars_substs σ τ h ts)

  -- The same where one place has been rewritten already.
  mutual
    unfolding subst_term subst_terms plug plugs subst_context subst_contexts

    pub stars_plug : (σ τ : Subst) → ((x : ℕ) → Star (Step R) (σ x) (τ x)) → (c : Ctx) (t : Term) →
        Star (Step R) (plug (subst_context σ c) (subst_term τ t)) (subst_term τ (plug c t))
    stars_plug σ τ h hole t = stop
    stars_plug σ τ h (beneath f cs) t = star_node f (stars_plugs σ τ h cs t)

    pub stars_plugs : (σ τ : Subst) → ((x : ℕ) → Star (Step R) (σ x) (τ x)) → (cs : Ctxs) (t : Term) →
        Star (Steps R) (plugs (subst_contexts σ cs) (subst_term τ t)) (subst_terms τ (plugs cs t))
    stars_plugs σ τ h (first c ts) t = star_cons (stars_plug σ τ h c t) (stars_substs σ τ h ts)
    stars_plugs σ τ h (later s cs) t = star_cons (stars_subst σ τ h s) (stars_plugs σ τ h cs t)
