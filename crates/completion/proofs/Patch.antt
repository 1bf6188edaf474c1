-- A tree is patched to a term over the symbols: a variable takes the place of each node with an unknown symbol or a wrong number of arguments.
-- Assumes nothing.
-- Read first: problem/specs/Over, proofs/Over.
use mathlib.Core.Path.{◌≡◌, refl, sym, ◌∙◌, ap, ap₂}
use mathlib.Core.Bool.{Bool, true, false, ◌&&◌}
use mathlib.Core.List.{List}
use Prim.Native.Nat.{ℕ, suc}
use lib.Dec.{eqb}
use Rattle.std.specs.Prelude.{if◌then◌else◌}
use Rattle.terms.specs.Term.{Term, Terms, var, node, nil, cons, subst_term, subst_terms, count}
use Rattle.terms.proofs.Shape.{Says, Decides, dec_says, dec_and, eqb_dec}
use Rattle.terms.proofs.Subst.{Subst, count_subst}
use Rattle.terms.proofs.Context.{Ctx, Ctxs, hole, beneath, first, later, plug, plugs}
use Rattle.problem.specs.Problem.{Symbol, has, Has, arity_of}
use Rattle.problem.specs.Over.{Over, OverAll}
use Rattle.completion.proofs.Over.{count_plugs}

-- a known symbol with so many arguments as its arity
abbrev proper : List Symbol → ℕ → ℕ → Bool
proper Σ f n = has Σ f && eqb n (arity_of Σ f)

proper_dec : (Σ : List Symbol) (f n : ℕ) → Decides (proper Σ f n) (Has Σ f × (n ≡ arity_of Σ f))
proper_dec Σ f n = dec_and (λ h. h, λ h. h) (eqb_dec n (arity_of Σ f))

module _ (Σ : List Symbol) where
  shape : ℕ → ℕ → Terms → Term
  shape f n ts = if proper Σ f n then node f ts else var 0

  mutual
    pub patch : Term → Term
    patch (var x) = var x
    patch (node f ts) = shape f (count ts) (patches ts)

    patches : Terms → Terms
    patches nil = nil
    patches (cons t ts) = cons (patch t) (patches ts)

  shape_is : (f n : ℕ) (ts : Terms) → Has Σ f → n ≡ arity_of Σ f → shape f n ts ≡ node f ts
  unfolding shape
  shape_is f n ts h e = rw ((proper_dec Σ f n).1 (h, e)) refl

  count_patches : (ts : Terms) → count (patches ts) ≡ count ts
  unfolding count patch
  count_patches nil = refl
  count_patches (cons t ts) = ap suc (count_patches ts)

  shape_over : (f n : ℕ) (ts : Terms) → count ts ≡ n → OverAll Σ ts → (b : Bool) → Says (Has Σ f × (n ≡ arity_of Σ f)) b →
      Over Σ (if b then node f ts else var 0)
  unfolding Over
  shape_over f n ts c h true k = (k.0, c ∙ k.1, h)
  shape_over f n ts c h false k = tt

  -- What is patched is over the symbols,
  mutual
    unfolding Over patch shape

    pub patch_over : (t : Term) → Over Σ (patch t)
    patch_over (var x) = tt
    patch_over (node f ts) =
        shape_over f (count ts) (patches ts) (count_patches ts) (patches_over ts) (proper Σ f (count ts)) (dec_says _ (proper_dec Σ f (count ts)))

    patches_over : (ts : Terms) → OverAll Σ (patches ts)
    patches_over nil = tt
    patches_over (cons t ts) = (patch_over t, patches_over ts)

  -- a term over the symbols stays as it is, and so does its part in an instance.
  mutual
    unfolding Over patch subst_term

    pub patch_subst : (σ : Subst) (t : Term) → Over Σ t → patch (subst_term σ t) ≡ subst_term (λ x. patch (σ x)) t
    patch_subst σ (var x) o = refl
    patch_subst σ (node f ts) o = shape_is f _ _ o.0 (count_subst σ ts ∙ o.1) ∙ ap (node f) (patches_subst σ ts o.2)

    patches_subst : (σ : Subst) (ts : Terms) → OverAll Σ ts → patches (subst_terms σ ts) ≡ subst_terms (λ x. patch (σ x)) ts
    patches_subst σ nil o = refl
    patches_subst σ (cons t ts) o = ap₂ cons (patch_subst σ t o.0) (patches_subst σ ts o.1)

  mutual
    unfolding Over patch

    pub patch_same : (t : Term) → Over Σ t → patch t ≡ t
    patch_same (var x) o = refl
    patch_same (node f ts) o = shape_is f _ _ o.0 o.1 ∙ ap (node f) (patches_same ts o.2)

    patches_same : (ts : Terms) → OverAll Σ ts → patches ts ≡ ts
    patches_same nil o = refl
    patches_same (cons t ts) o = ap₂ cons (patch_same t o.0) (patches_same ts o.1)

  -- A context is patched to a context, or what stands in its hole is patched away.
  pub data PatchedAt (c : Ctx) : Type 0 where
    kept : (d : Ctx) → ((a : Term) → patch (plug c a) ≡ plug d (patch a)) → PatchedAt c
    lost : ((a b : Term) → patch (plug c a) ≡ patch (plug c b)) → PatchedAt c

  data PatchedIn (cs : Ctxs) : Type 0 where
    kept_in : (ds : Ctxs) → ((a : Term) → patches (plugs cs a) ≡ plugs ds (patch a)) → PatchedIn cs
    lost_in : ((a b : Term) → patches (plugs cs a) ≡ patches (plugs cs b)) → PatchedIn cs

  at_beneath : (f : ℕ) (cs : Ctxs) (b : Bool) → proper Σ f (count (plugs cs (var 0))) ≡ b → PatchedIn cs → PatchedAt (beneath f cs)
  unfolding patch plug shape
  at_beneath f cs b e (lost_in h) = lost (λ x y. ap₂ (shape f) (count_plugs cs x y) (h x y))
  at_beneath f cs true e (kept_in ds h) = kept (beneath f ds) (λ a. ap₂ (shape f) (count_plugs cs a (var 0)) (h a) ∙ rw e refl)
  at_beneath f cs false e (kept_in ds h) =
      lost (λ x y. let z : (w : Term) → patch (node f (plugs cs w)) ≡ var 0 = λ w. ap₂ (shape f) (count_plugs cs w (var 0))
      (h w) ∙ rw e refl in z x ∙ sym (z y))

  at_first : (c : Ctx) (ts : Terms) → PatchedAt c → PatchedIn (first c ts)
  unfolding patch plug
  at_first c ts (kept d h) = kept_in (first d (patches ts)) (λ a. ap (λ z. cons z (patches ts)) (h a))
  at_first c ts (lost h) = lost_in (λ a b. ap (λ z. cons z (patches ts)) (h a b))

  at_later : (s : Term) (cs : Ctxs) → PatchedIn cs → PatchedIn (later s cs)
  unfolding patch plug
  at_later s cs (kept_in ds h) = kept_in (later (patch s) ds) (λ a. ap (cons (patch s)) (h a))
  at_later s cs (lost_in h) = lost_in (λ a b. ap (cons (patch s)) (h a b))

  mutual
    unfolding plug

    pub patched_at : (c : Ctx) → PatchedAt c
    patched_at hole = kept hole (λ a. refl)
    patched_at (beneath f cs) = at_beneath f cs (proper Σ f (count (plugs cs (var 0)))) refl (patched_in cs)

    patched_in : (cs : Ctxs) → PatchedIn cs
    patched_in (first c ts) = at_first c ts (patched_at c)
    patched_in (later s cs) = at_later s cs (patched_in cs)
