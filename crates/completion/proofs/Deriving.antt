-- Derivations of several steps: normalising an equation is Simplify again and again, normalising a right side is Compose, and no rule rewrites a term
-- below its own left side. Assumes nothing.
-- Read first: specs/Transitions, proofs/Soundness.
use mathlib.Core.Path.{◌≡◌, refl, ap, subst}
use mathlib.Core.Bool.{true}
use mathlib.Core.Logic.{◌⊎◌, inl, inr, ⊎_elim}
use mathlib.Core.List.Memᴰ
use mathlib.Core.List.{List, ◌∷◌}
use mathlib.Core.WellFounded.{Acc}
use Prim.Native.Nat.{ℕ}
use Rattle.terms.specs.Term.{Term, Pair, subst_term}
use Rattle.terms.proofs.Subst.{Subst}
use Rattle.terms.proofs.Context.{Ctx, Ctxs, hole, beneath, first, later, plug, plugs}
use Rattle.order.specs.Order.{above}
use Rattle.order.proofs.PathOrder
use Rattle.order.proofs.PathOrder.{Above, by_arg, Within, by_above}
use Rattle.order.proofs.WellFounded.{above_acc}
use Rattle.order.proofs.Closure.{above_subst}
use Rattle.order.proofs.Decide.{above_dec}
use Rattle.order.proofs.Trans.{above_trans}
use Rattle.rewriting.proofs.Relations.{Rules, Of, Step, Star, stop, move, Below}
use Rattle.rewriting.proofs.Abstract.{one}
use Rattle.rewriting.proofs.Order.{StepAt, step_at, at_step}
use Rattle.rewriting.proofs.Lower.{above_lower}
use Rattle.completion.specs.Transitions.{System, ◌⨾◌, pair, Rewrites, Encompasses, Same, turn_round, unchanged, also, Transition, compose}
use Rattle.completion.specs.Transitions.{simplify, Derivation, written, by}
use Rattle.completion.proofs.Words.{plug_node}
use Rattle.completion.proofs.Soundness.{Falls}

-- fewer rules, fewer steps
pub step_more : (Q R : Rules) → ((l r : Term) → Q l r → R l r) → {s t : Term} → Step Q s t → Step R s t
step_more Q R sub w =
    let p : StepAt Q _ _ = step_at w in
    at_step (record { l = p.l; r = p.r; rule = sub p.l p.r p.rule; σ = p.σ; c = p.c; before = p.before; after = p.after })

-- a step by some of the rules, and by which of them
pub rewrites_more : (Q R : List Pair) → ((l r : Term) → Of Q l r → Of R l r) → {s t : Term} → Step (Of Q) s t → Rewrites R s t
rewrites_more Q R sub {s} {t} w =
    let p : StepAt (Of Q) s t = step_at w in
    record {
      rule = pair p.l p.r;
      is_rule = sub p.l p.r p.rule;
      substitution = p.σ;
      at_node = plug_node p.c (subst_term p.σ p.l) (subst_term p.σ p.r) s t p.before p.after;
    }

pub rewrites_by : (Q R : List Pair) (sub : (l r : Term) → Of Q l r → Of R l r) {s t : Term} (w : Step (Of Q) s t) →
    Of Q (rewrites_more Q R sub w).rule.left (rewrites_more Q R sub w).rule.right
unfolding rewrites_more
rewrites_by Q R sub w = (step_at w).rule

-- the first half of `Properly`
pub rewrites_encompasses : {R : List Pair} {s t : Term} (w : Rewrites R s t) → Encompasses s w.rule.left
rewrites_encompasses w = (w.at_node.position, w.substitution, w.at_node.there)

module _ (rank : ℕ → ℕ) where
  -- A filled context is what fills it, or is above it.
  mutual
    unfolding plug plugs

    plug_reaches : (c : Ctx) (t : Term) → (plug c t ≡ t) ⊎ Above rank (plug c t) t
    plug_reaches hole t = inl refl
    plug_reaches (beneath f cs) t = inr (by_arg (plugs_reach cs t))

    plugs_reach : (cs : Ctxs) (t : Term) → Within rank (plugs cs t) t
    plugs_reach (first c ts) t =
        ⊎_elim (λ e. subst (λ z. Within rank (plugs (first c ts) t) z) e PathOrder.here) (λ a. by_above a) (plug_reaches c t)
    plugs_reach (later s cs) t = PathOrder.later (plugs_reach cs t)

  -- No term is above an instance of itself.
  not_above_instance : (σ : Subst) {t : Term} → Acc (Below (Above rank)) t → Above rank t (subst_term σ t) → ⊥
  not_above_instance σ (Acc.intro t h) a = not_above_instance σ (h _ a) (above_subst rank σ a)

  not_above_filled : (σ : Subst) (c : Ctx) (s : Term) → Above rank s (plug c (subst_term σ s)) → ⊥
  not_above_filled σ c s a =
      not_above_instance σ (above_acc rank s)
      (⊎_elim (λ e. subst (Above rank s) e a) (λ b. above_trans rank a b) (plug_reaches c (subst_term σ s)))

  -- So a rule rewrites no term below its left side.
  pub by_others : (s r : Term) (Q : List Pair) (t u : Term) → above rank s t ≡ true → Step (Of (pair s r ∷ Q)) t u → Step (Of Q) t u
  by_others s r Q t u a w = go (step_at w)
    where
      go : StepAt (Of (pair s r ∷ Q)) t u → Step (Of Q) t u
      go p =
          ⊎_elim
          (λ e.
          let q : p.l ≡ s = ap (λ (x : Pair). x.left) e in
          let b : Above rank s (plug p.c (subst_term p.σ p.l)) = subst (Above rank s) p.before ((above_dec rank s t).0 a) in
          absurd (not_above_filled p.σ p.c s (subst (λ z. Above rank s (plug p.c (subst_term p.σ z))) q b)))
          (λ i. at_step (record { l = p.l; r = p.r; rule = i; σ = p.σ; c = p.c; before = p.before; after = p.after }))
          (Memᴰ.cases_cons p.rule)

module _ (rank : ℕ → ℕ) {Beyond : Term → Term → Type 0} where
  -- Derivations one after the other, and their parts.
  pub same_as : {S T U : System} → Same S T → Derivation rank Beyond T U → Derivation rank Beyond S U
  same_as p (written q) = written (also p q)
  same_as p (by x d) =
      by (record { before = x.before; after = x.after; is_before = also p x.is_before; transition = x.transition; is_after = x.is_after }) d

  pub derives : {S T U : System} → Derivation rank Beyond S T → Derivation rank Beyond T U → Derivation rank Beyond S U
  derives (written p) d = same_as p d
  derives (by x c) d = by x (derives c d)

  pub by_one : {S T U : System} → Transition rank Beyond S T → Derivation rank Beyond T U → Derivation rank Beyond S U
  by_one {S} {T} x d = by (record { before = S; after = T; is_before = unchanged; transition = x; is_after = unchanged }) d

  pub none_more : {S : System} → Derivation rank Beyond S S
  none_more = written unchanged

  -- Simplify: either side of an equation, by any of the rules.
  module _ (E Q R : List Pair) (sub : (l r : Term) → Of Q l r → Of R l r) where
    pub simplify_right : (s : Term) {t u : Term} → Star (Step (Of Q)) t u → Derivation rank Beyond (pair s t ∷ E ⨾ R) (pair s u ∷ E ⨾ R)
    simplify_right s stop = none_more
    simplify_right s (move w m) = by_one (simplify (rewrites_more Q R sub w)) (simplify_right s m)

    pub simplify_left : (t : Term) {s u : Term} → Star (Step (Of Q)) s u → Derivation rank Beyond (pair s t ∷ E ⨾ R) (pair u t ∷ E ⨾ R)
    simplify_left t m = same_as turn_round (derives (simplify_right t m) (written turn_round))

    pub simplify_both : {s t u v : Term} → Star (Step (Of Q)) s u → Star (Step (Of Q)) t v → Derivation rank Beyond (pair s t ∷ E ⨾ R) (pair u v ∷ E ⨾ R)
    simplify_both m n = derives (simplify_left _ m) (simplify_right _ n)

    -- Compose: a right side, by the rules and by the rule itself, which never applies.
    pub compose_right : Falls rank Q → (s r : Term) {t u : Term} → above rank s t ≡ true → Star (Step (Of (pair s r ∷ Q))) t u →
        Derivation rank Beyond (E ⨾ pair s t ∷ R) (E ⨾ pair s u ∷ R)
    compose_right f s r a stop = none_more
    compose_right f s r {t} a (move {b = t'} w m) =
        let w' : Step (Of Q) t t' = by_others rank s r Q t t' a w in
        by_one (compose (rewrites_more Q R sub w')) (compose_right f s r (above_lower rank (Of Q) f s t t' (one w') a) m)
