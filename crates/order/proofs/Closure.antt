-- `Above rank` is closed under substitution and under contexts, and a term is above its arguments. Assumes nothing.
-- Read first: proofs/PathOrder.
use mathlib.Core.Logic.{⊎_elim}
use mathlib.Core.List.Memᴰ
use Prim.Native.Nat.{ℕ}
use Rattle.terms.specs.Term.{Term, Terms, node, nil, cons, subst_term, subst_terms, variables, variables_of}
use Rattle.order.proofs.PathOrder.{SameLen, len_nil, len_cons, Above, by_arg, by_rank, by_lex, Within, here, by_above, later, AboveAll}
use Rattle.order.proofs.PathOrder.{all_nil, all_cons, Lex, first, next}
use Rattle.order.proofs.WellFounded.{len_refl}
use Rattle.terms.proofs.Subst.{In}
use Rattle.terms.proofs.Context.{Ctx, Ctxs, hole, beneath, first as ctx_first, later as ctx_later, plug, plugs}

infix 30 ◌∈◌
-- t stands in the list
pub data ◌∈◌ (t : Term) : Terms → Type 0 where
  in_here : {ts : Terms} → t ∈ cons t ts
  in_later : {s : Term} {ts : Terms} → t ∈ ts → t ∈ cons s ts

subst_len : {ss ts : Terms} (σ : ℕ → Term) → SameLen ss ts → SameLen (subst_terms σ ss) (subst_terms σ ts)
unfolding subst_terms
subst_len σ len_nil = len_nil
subst_len σ (len_cons l) = len_cons (subst_len σ l)

module _ (rank : ℕ → ℕ) where
  -- Closure under substitution.
  mutual
    unfolding subst_term subst_terms

    pub above_subst : {s t : Term} (σ : ℕ → Term) → Above rank s t → Above rank (subst_term σ s) (subst_term σ t)
    above_subst σ (by_arg w) = by_arg (within_subst σ w)
    above_subst σ (by_rank lt all) = by_rank lt (all_subst σ all)
    above_subst σ (by_lex all x) = by_lex (all_subst σ all) (lex_subst σ x)

    pub within_subst : {ss : Terms} {t : Term} (σ : ℕ → Term) → Within rank ss t → Within rank (subst_terms σ ss) (subst_term σ t)
    within_subst σ here = here
    within_subst σ (by_above a) = by_above (above_subst σ a)
    within_subst σ (later w) = later (within_subst σ w)

    pub all_subst : {s : Term} {ts : Terms} (σ : ℕ → Term) → AboveAll rank s ts → AboveAll rank (subst_term σ s) (subst_terms σ ts)
    all_subst σ all_nil = all_nil
    all_subst σ (all_cons a all) = all_cons (above_subst σ a) (all_subst σ all)

    pub lex_subst : {ss ts : Terms} (σ : ℕ → Term) → Lex rank ss ts → Lex rank (subst_terms σ ss) (subst_terms σ ts)
    lex_subst σ (first a l) = first (above_subst σ a) (subst_len σ l)
    lex_subst σ (next x) = next (lex_subst σ x)

  -- A term is above its arguments.
  in_within : {t : Term} {ss : Terms} → t ∈ ss → Within rank ss t
  in_within in_here = here
  in_within (in_later m) = later (in_within m)

  in_above_within : {s t : Term} {ss : Terms} → s ∈ ss → Above rank s t → Within rank ss t
  in_above_within in_here a = by_above a
  in_above_within (in_later m) a = later (in_above_within m a)

  pub above_arg : {f : ℕ} {t : Term} {ss : Terms} → t ∈ ss → Above rank (node f ss) t
  above_arg m = by_arg (in_within m)

  -- a term is above each part of a list of which it has every term among its arguments
  pub all_args : {f : ℕ} {ss : Terms} (ts : Terms) → ((t : Term) → t ∈ ts → t ∈ ss) → AboveAll rank (node f ss) ts
  all_args nil h = all_nil
  all_args (cons t ts) h = all_cons (above_arg (h _ in_here)) (all_args ts (λ u m. h u (in_later m)))

  -- Closure under contexts.
  mutual
    unfolding plug plugs

    pub above_plug : {s t : Term} (c : Ctx) → Above rank s t → Above rank (plug c s) (plug c t)
    above_plug hole a = a
    above_plug (beneath f cs) a = by_lex (all_plugs cs a (λ u m. m)) (lex_plugs cs a)

    lex_plugs : {s t : Term} (cs : Ctxs) → Above rank s t → Lex rank (plugs cs s) (plugs cs t)
    lex_plugs (ctx_first c ts) a = first (above_plug c a) (len_refl ts)
    lex_plugs (ctx_later u cs) a = next (lex_plugs cs a)

    all_plugs : {f : ℕ} {s t : Term} {ss : Terms} (cs : Ctxs) → Above rank s t → ((u : Term) → u ∈ plugs cs s → u ∈ ss) → AboveAll rank (node f ss) (plugs cs t)
    all_plugs (ctx_first c ts) a h = all_cons (by_arg (in_above_within (h _ in_here) (above_plug c a))) (all_args ts (λ u m. h u (in_later m)))
    all_plugs (ctx_later v cs) a h = all_cons (above_arg (h _ in_here)) (all_plugs cs a (λ u m. h u (in_later m)))

  -- What is above a term has its variables.
  mutual
    unfolding variables variables_of

    pub above_vars : {s t : Term} {x : ℕ} → Above rank s t → In x (variables t) → In x (variables s)
    above_vars (by_arg w) o = within_vars w o
    above_vars (by_rank lt all) o = all_vars all o
    above_vars (by_lex all k) o = all_vars all o

    within_vars : {ss : Terms} {t : Term} {x : ℕ} → Within rank ss t → In x (variables t) → In x (variables_of ss)
    within_vars (here {ss = ss}) o = Memᴰ.append_left (variables_of ss) o
    within_vars (by_above {ss = ss} a) o = Memᴰ.append_left (variables_of ss) (above_vars a o)
    within_vars (later {s = s} w) o = Memᴰ.append_right (variables s) (within_vars w o)

    all_vars : {s : Term} {ts : Terms} {x : ℕ} → AboveAll rank s ts → In x (variables_of ts) → In x (variables s)
    all_vars all_nil o = absurd (Memᴰ.not-nil o)
    all_vars (all_cons {t = t} a all) o = ⊎_elim (λ j. above_vars a j) (λ j. all_vars all j) (Memᴰ.append_cases (variables t) o)
