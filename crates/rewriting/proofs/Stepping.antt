-- `step` answers a term only where a step leads to it, and none only where no step leads on. Assumes nothing.
-- Read first: specs/Rewrite, proofs/Matching.
use mathlib.Core.Path.{◌≡◌, refl, sym, ◌∙◌, ap}
use mathlib.Core.Logic.{◌⊎◌, inl, inr, ⊎_elim}
use mathlib.Core.List.Memᴰ
use mathlib.Core.List.{List, [], ◌∷◌}
use mathlib.Core.Option.{Option, none, some}
use Prim.Native.Nat.{ℕ}
use Rattle.terms.specs.Base.{mapped, or_else}
use Rattle.terms.specs.Term.{Term, Terms, var, node, nil, cons, Pair, subst_term}
use Rattle.terms.proofs.Shape.{nil≢cons}
use Rattle.terms.proofs.Subst.{Subst}
use Rattle.unify.specs.Unify.{Binding}
use Rattle.rewriting.specs.Overlap.{Rule, sides_of}
use Rattle.rewriting.specs.Rewrite.{matching, instantiate, root_step, step, step_in}
use Rattle.rewriting.proofs.Relations.{Step, Steps, root, inside, here, there, Normal, Of}
use Rattle.rewriting.proofs.Abstract.{Reducible?}
use Rattle.rewriting.proofs.Matching.{by, matching_sound, matching_none}

-- A step by one of the rules.
abbrev pub StepBy : List Rule → Term → Term → Type 0
StepBy rules = Step (Of (sides_of rules))

abbrev pub StepsBy : List Rule → Terms → Terms → Type 0
StepsBy rules = Steps (Of (sides_of rules))

-- A rule applied at the root.
pub record Applied (rules : List Rule) (t u : Term) : Type 0 where
  pub l : Term
  pub r : Term
  pub rule : Of (sides_of rules) l r
  pub σ : Subst
  pub before : t ≡ subst_term σ l
  pub after : u ≡ subst_term σ r

-- No left side has the term as an instance.
abbrev pub Unmatched : List Rule → Term → Type 0
Unmatched rules t = (l r : Term) → Of (sides_of rules) l r → (σ : Subst) → t ≡ subst_term σ l → ⊥

abbrev pub Rooted : List Rule → Term → Option Term → Type 0
Rooted rules t none = Unmatched rules t
Rooted rules t (some u) = Applied rules t u

unmatched_cons : (rule : Rule) (rules : List Rule) (t : Term) → ((σ : Subst) → t ≡ subst_term σ rule.sides.left → ⊥) → Unmatched rules t →
    Unmatched (rule ∷ rules) t
unmatched_cons rule rules t n h l r i σ e =
    ⊎_elim (λ q. n σ (e ∙ ap (λ (p : Pair). subst_term σ p.left) q)) (λ j. h l r j σ e) (Memᴰ.cases_cons i)

root_go : (rule : Rule) (rules : List Rule) (t : Term) (o : Option (List Binding)) → matching rule.sides.left t [] ≡ o → (p : Option Term) →
    Rooted rules t p →
    Rooted (rule ∷ rules) t (or_else (mapped (λ bs. instantiate bs rule.sides.right) o) p)
unfolding mapped or_else instantiate
root_go rule rules t (some bs) e p h =
    record {
      l = rule.sides.left;
      r = rule.sides.right;
      rule = Memᴰ.head refl;
      σ = by bs;
      before = matching_sound rule.sides.left t bs e;
      after = refl;
    }
root_go rule rules t none e none h = unmatched_cons rule rules t (matching_none rule.sides.left t e) h
root_go rule rules t none e (some u) h =
    record { l = h.l; r = h.r; rule = Memᴰ.tail h.rule; σ = h.σ; before = h.before; after = h.after }

pub rooted : (rules : List Rule) (t : Term) → Rooted rules t (root_step rules t)
unfolding root_step
rooted [] t = λ l r i σ e. Memᴰ.not-nil i
rooted (rule ∷ rules) t = root_go rule rules t (matching rule.sides.left t []) refl (root_step rules t) (rooted rules t)

abbrev pub Stepped : List Rule → Term → Option Term → Type 0
Stepped rules t none = Normal (StepBy rules) t
Stepped rules t (some u) = StepBy rules t u

abbrev pub SteppedIn : List Rule → Terms → Option Terms → Type 0
SteppedIn rules ts none = Normal (StepsBy rules) ts
SteppedIn rules ts (some us) = StepsBy rules ts us

module _ (rules : List Rule) where
  pub applied_step : {t u : Term} → Applied rules t u → StepBy rules t u
  applied_step a = root a.rule a.σ a.before a.after

  pub normal_var : (x : ℕ) → Unmatched rules (var x) → Normal (StepBy rules) (var x)
  normal_var x n u (root {l = l} {r = r} ρ σ e d) = n l r ρ σ e

  pub normal_node : (f : ℕ) (ts : Terms) → Unmatched rules (node f ts) → Normal (StepsBy rules) ts → Normal (StepBy rules) (node f ts)
  normal_node f ts n k u (root {l = l} {r = r} ρ σ e d) = n l r ρ σ e
  normal_node f ts n k u (inside {us = us} s) = k us s

  normal_cons : (t : Term) (ts : Terms) → Normal (StepBy rules) t → Normal (StepsBy rules) ts → Normal (StepsBy rules) (cons t ts)
  normal_cons t ts n k us (here {u = u} s) = n u s
  normal_cons t ts n k us (there {us = vs} s) = k vs s

  pub normal_nil : Normal (StepsBy rules) nil
  normal_nil us s = none_from us s refl
    where
      none_from : {ts : Terms} (us : Terms) → StepsBy rules ts us → ts ≡ nil → ⊥
      none_from us (here s) e = nil≢cons (sym e)
      none_from us (there s) e = nil≢cons (sym e)

  pub var_go : (x : ℕ) (p : Option Term) → Rooted rules (var x) p → Stepped rules (var x) p
  var_go x none n = normal_var x n
  var_go x (some u) a = applied_step a

  node_go : (f : ℕ) (ts : Terms) (o : Option Terms) → SteppedIn rules ts o → (p : Option Term) → Rooted rules (node f ts) p →
      Stepped rules (node f ts) (or_else (mapped (node f) o) p)
  unfolding mapped or_else
  node_go f ts (some us) s p h = inside s
  node_go f ts none n (some u) a = applied_step a
  node_go f ts none n none m = normal_node f ts m n

  pub cons_go : (t : Term) (ts : Terms) (o : Option Term) → Stepped rules t o → (p : Option Terms) → SteppedIn rules ts p →
      SteppedIn rules (cons t ts) (or_else (mapped (λ u. cons u ts) o) (mapped (cons t) p))
  unfolding mapped or_else
  cons_go t ts (some u) s p h = here s
  cons_go t ts none n (some us) s = there s
  cons_go t ts none n none m = normal_cons t ts n m

  mutual
    unfolding step step_in

    stepped : (t : Term) → Stepped rules t (step rules t)
    stepped (var x) = var_go x (root_step rules (var x)) (rooted rules (var x))
    stepped (node f ts) = node_go f ts (step_in rules ts) (stepped_in ts) (root_step rules (node f ts)) (rooted rules (node f ts))

    stepped_in : (ts : Terms) → SteppedIn rules ts (step_in rules ts)
    stepped_in nil = normal_nil
    stepped_in (cons t ts) = cons_go t ts (step rules t) (stepped t) (step_in rules ts) (stepped_in ts)

  -- What `step` answers is one step.
  pub step_sound : (t u : Term) → step rules t ≡ some u → StepBy rules t u
  step_sound t u e = rw e at (stepped t)

  -- Where it answers none, the term is normal.
  pub step_none : (t : Term) → step rules t ≡ none → Normal (StepBy rules) t
  step_none t e = rw e at (stepped t)

  pub step_reducible : Reducible? (StepBy rules)
  step_reducible t = go (step rules t) refl
    where
      go : (o : Option Term) → step rules t ≡ o → ((u : Term) × StepBy rules t u) ⊎ Normal (StepBy rules) t
      go none e = inr (step_none t e)
      go (some u) e = inl (u, step_sound t u e)
