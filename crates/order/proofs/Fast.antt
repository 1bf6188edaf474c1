-- The test by its root symbols: where they decide, the other clauses are not tried. It agrees with `above`. Assumes nothing.
-- Read first: specs/Order, proofs/Decide.
use mathlib.Core.Path.{◌≡◌, sym, subst}
use mathlib.Core.Bool.{Bool, true, false, ◌&&◌, ◌||◌}
use mathlib.Core.Logic.{◌⊎◌, inl, inr}
use Prim.Native.Nat.{ℕ, ◌+◌, ◌<◌, ◌≤◌}
use native.Mathlib.Omega.{arith}
use lib.Dec.{eqb, ltb}
use Rattle.terms.specs.Term.{Term, Terms, var, node, nil, cons, size, sizes, same}
use Rattle.order.proofs.PathOrder.{SameLen, Above, by_arg, by_rank, by_lex, Within, here, by_above, later, AboveAll, all_nil, all_cons, Lex}
use Rattle.order.proofs.PathOrder.{first, next, var_above, lex_nil}
use Rattle.order.proofs.WellFounded.{above_irrefl}
use Rattle.order.proofs.Closure.{◌∈◌, in_here, in_later, above_arg, all_args}
use Rattle.order.proofs.Trans.{above_trans}
use Rattle.terms.proofs.Shape.{Decides, dec_map, dec_and, dec_or, dec_false, dec_true, dec_agree, eqb_dec, ltb_dec, same_dec}
use Rattle.order.specs.Order.{same_length, above}
use Rattle.std.specs.Prelude.{if◌then◌else◌}
use Rattle.order.proofs.Decide.{dec_if, above_node, above_var, within_nil, within_cons, cons_within, all_parts, lex_cons_nil, lex_parts}
use Rattle.order.proofs.Decide.{len_dec, above_dec}

-- some term of the list equals t or is above t; s is above every term of the list: by the test `ab`
unfoldable pub some? : (Term → Term → Bool) → Terms → Term → Bool
some? ab nil t = false
some? ab (cons s ss) t = (same s t || ab s t) || some? ab ss t

unfoldable pub all? : (Term → Term → Bool) → Term → Terms → Bool
all? ab s nil = true
all? ab s (cons t ts) = ab s t && all? ab s ts

-- s and t have the same symbol; ss and ts are what is left of their arguments behind equal ones
unfoldable pub walk? : (Term → Term → Bool) → Term → Term → Terms → Terms → Bool
walk? ab s t nil ys = false
walk? ab s t (cons x xs) nil = some? ab (cons x xs) t
walk? ab s t (cons x xs) (cons y ys) =
    if same x y then walk? ab s t xs ys
    else if ab x y then (if same_length xs ys then all? ab s ys else some? ab (cons x xs) t)
    else some? ab xs t

-- `Common us vs ss ts`: `us` is `ss` behind some terms, and `vs` is `ts` behind the same terms.
pub data Common (us vs : Terms) : Terms → Terms → Type 0 where
  whole : Common us vs us vs
  skip : {s : Term} {ss ts : Terms} → Common us vs (cons s ss) (cons s ts) → Common us vs ss ts

skip_eq : {us vs : Terms} {x y : Term} {xs ys : Terms} → x ≡ y → Common us vs (cons x xs) (cons y ys) → Common us vs xs ys
skip_eq {us} {vs} {x} {y} {xs} {ys} e c = skip (subst (λ z. Common us vs (cons x xs) (cons z ys)) (sym e) c)

in_left : {us vs ss ts : Terms} → Common us vs ss ts → (u : Term) → u ∈ ss → u ∈ us
in_left whole u m = m
in_left (skip c) u m = in_left c u (in_later m)

in_right : {us vs ss ts : Terms} → Common us vs ss ts → (u : Term) → u ∈ ts → u ∈ vs
in_right whole u m = m
in_right (skip c) u m = in_right c u (in_later m)

module _ (rank : ℕ → ℕ) where
  -- What is above a term is above its arguments.
  all_trans : {s t : Term} {us : Terms} → Above rank s t → AboveAll rank t us → AboveAll rank s us
  all_trans a all_nil = all_nil
  all_trans a (all_cons b all) = all_cons (above_trans rank a b) (all_trans a all)

  pub above_args : {s : Term} {g : ℕ} {ts : Terms} → Above rank s (node g ts) → AboveAll rank s ts
  above_args {ts = ts} a = all_trans a (all_args rank ts (λ u m. m))

  pub above_each : {s : Term} (ts : Terms) → ((u : Term) → u ∈ ts → Above rank s u) → AboveAll rank s ts
  above_each nil h = all_nil
  above_each (cons t ts) h = all_cons (h t in_here) (above_each ts (λ u m. h u (in_later m)))

  pub no_cycle : {s t : Term} → Above rank s t → Above rank t s → ⊥
  no_cycle a b = above_irrefl rank (above_trans rank a b)

  -- A symbol of lower rank, or of the same rank and another: only clause 1.
  pub above_lower : {f g : ℕ} {ss ts : Terms} → (rank g < rank f → ⊥) → (f ≡ g → ⊥) → Above rank (node f ss) (node g ts) → Within rank ss (node g ts)
  above_lower {f} {g} {ss} {ts} nlt ne a = pick (above_node rank a)
    where
      pick : Within rank ss (node g ts) ⊎ (((rank g < rank f) ⊎ ((f ≡ g) × Lex rank ss ts)) × AboveAll rank (node f ss) ts) → Within rank ss (node g ts)
      pick (inl w) = w
      pick (inr (inl lt, all)) = absurd (nlt lt)
      pick (inr (inr k, all)) = absurd (ne k.0)

  -- The same symbol: clause 1 or clause 3.
  above_same : {f : ℕ} {ss ts : Terms} → Above rank (node f ss) (node f ts) → Within rank ss (node f ts) ⊎ Lex rank ss ts
  above_same {f} {ss} {ts} a = pick (above_node rank a)
    where
      pick : Within rank ss (node f ts) ⊎ (((rank f < rank f) ⊎ ((f ≡ f) × Lex rank ss ts)) × AboveAll rank (node f ss) ts) →
          Within rank ss (node f ts) ⊎ Lex rank ss ts
      pick (inl w) = inl w
      pick (inr (inl lt, all)) = absurd (omega arith)
      pick (inr (inr k, all)) = inr k.1

  -- What holds of whole lists of arguments and of what is left of them behind equal terms.
  lex_down : {us vs ss ts : Terms} → Common us vs ss ts → Lex rank us vs → Lex rank ss ts
  lex_down whole x = x
  lex_down (skip {s = s} {ss = ss} {ts = ts} c) x = pick (lex_parts rank (lex_down c x))
    where
      pick : ((s ≡ s) × Lex rank ss ts) ⊎ (Above rank s s × SameLen ss ts) → Lex rank ss ts
      pick (inl k) = k.1
      pick (inr k) = absurd (above_irrefl rank k.0)

  lex_up : {us vs ss ts : Terms} → Common us vs ss ts → Lex rank ss ts → Lex rank us vs
  lex_up whole x = x
  lex_up (skip c) x = lex_up c (next x)

  all_up : {f : ℕ} {us vs ss ts : Terms} → Common us vs ss ts → AboveAll rank (node f us) ts → AboveAll rank (node f us) vs
  all_up whole all = all
  all_up (skip {s = s} c) all = all_up c (all_cons (above_arg rank (in_left c s in_here)) all)

  within_up : {us vs ss ts : Terms} {t : Term} → Common us vs ss ts → Within rank ss t → Within rank us t
  within_up whole w = w
  within_up (skip c) w = within_up c (later w)

  within_rest : {s t : Term} {ss : Terms} → Above rank t s → Within rank (cons s ss) t → Within rank ss t
  within_rest b here = absurd (above_irrefl rank b)
  within_rest b (by_above a) = absurd (no_cycle a b)
  within_rest b (later w) = w

  within_down : {f : ℕ} {us vs ss ts : Terms} → Common us vs ss ts → Within rank us (node f vs) → Within rank ss (node f vs)
  within_down whole w = w
  within_down (skip {s = s} c) w = within_rest (above_arg rank (in_right c s in_here)) (within_down c w)

  -- s is not above an argument of t: neither is it t or above t.
  within_not : {s t y : Term} {ss : Terms} → Above rank t y → (Above rank s y → ⊥) → Within rank (cons s ss) t → Within rank ss t
  within_not b n here = absurd (n b)
  within_not b n (by_above a) = absurd (n (above_trans rank a b))
  within_not b n (later w) = w

  -- The whole step, by a test `ab` of smaller pairs.
  unfoldable pub step? : (Term → Term → Bool) → Term → Term → Bool
  step? ab (var x) t = false
  step? ab (node f ss) (var y) = some? ab ss (var y)
  step? ab (node f ss) (node g ts) =
      if eqb f g then walk? ab (node f ss) (node g ts) ss ts
      else if ltb (rank g) (rank f) then all? ab (node f ss) ts
      else some? ab ss (node g ts)

  module _ (ab : Term → Term → Bool) (n : ℕ) (ab_dec : (s t : Term) → size s + size t < n → Decides (ab s t) (Above rank s t)) where
    some_dec : (ss : Terms) (t : Term) → sizes ss + size t < n → Decides (some? ab ss t) (Within rank ss t)
    unfolding size some?
    some_dec nil t h = dec_false (within_nil rank)
    some_dec (cons s ss) t h =
        dec_map (cons_within rank) (within_cons rank)
        (dec_or (dec_or (same_dec s t) (ab_dec s t (omega arith))) (some_dec ss t (omega arith)))

    all_dec : (s : Term) (ts : Terms) → size s + sizes ts < n → Decides (all? ab s ts) (AboveAll rank s ts)
    unfolding size all?
    all_dec s nil h = dec_true all_nil
    all_dec s (cons t ts) h =
        dec_map (λ k. all_cons k.0 k.1) (all_parts rank) (dec_and (ab_dec s t (omega arith)) (all_dec s ts (omega arith)))

    module _ (f : ℕ) (us vs : Terms) where
      -- only clause 1 is left, for what is left of the arguments
      only_args : {ss ts : Terms} → Common us vs ss ts → (Lex rank ss ts → ⊥) → sizes ss + size (node f vs) < n
          → Decides (some? ab ss (node f vs)) (Above rank (node f us) (node f vs))
      only_args {ss} {ts} c nl h = dec_map (λ w. by_arg (within_up c w)) (λ a. pick (above_same a)) (some_dec ss (node f vs) h)
        where
          pick : Within rank us (node f vs) ⊎ Lex rank us vs → Within rank ss (node f vs)
          pick (inl w) = within_down c w
          pick (inr x) = absurd (nl (lex_down c x))

      -- the first arguments that differ: that of the left is above that of the right
      won : {x y : Term} {xs ys : Terms} → Common us vs (cons x xs) (cons y ys) → Above rank x y → SameLen xs ys
          → size (node f us) + sizes ys < n → Decides (all? ab (node f us) ys) (Above rank (node f us) (node f vs))
      won {x} {y} {xs} {ys} c a l h =
          dec_map
          (λ all. by_lex (all_up c (all_cons (above_trans rank (above_arg rank (in_left c x in_here)) a) all)) (lex_up c (first a l)))
          (λ d. above_each ys (λ u m. above_trans rank d (above_arg rank (in_right c u (in_later m)))))
          (all_dec (node f us) ys h)

      -- it is not
      lost : {x y : Term} {xs ys : Terms} → Common us vs (cons x xs) (cons y ys) → (x ≡ y → ⊥) → (Above rank x y → ⊥)
          → sizes xs + size (node f vs) < n → Decides (some? ab xs (node f vs)) (Above rank (node f us) (node f vs))
      lost {x} {y} {xs} {ys} c ne na h =
          dec_map (λ w. by_arg (within_up c (later w))) (λ a. pick (above_same a)) (some_dec xs (node f vs) h)
        where
          no_lex : ((x ≡ y) × Lex rank xs ys) ⊎ (Above rank x y × SameLen xs ys) → ⊥
          no_lex (inl k) = ne k.0
          no_lex (inr k) = na k.0

          pick : Within rank us (node f vs) ⊎ Lex rank us vs → Within rank xs (node f vs)
          pick (inl w) = within_not (above_arg rank (in_right c y in_here)) na (within_down c w)
          pick (inr z) = absurd (no_lex (lex_parts rank (lex_down c z)))

      no_len : {x y : Term} {xs ys : Terms} → (x ≡ y → ⊥) → (SameLen xs ys → ⊥) → Lex rank (cons x xs) (cons y ys) → ⊥
      no_len {x} {y} {xs} {ys} ne nl z = pick (lex_parts rank z)
        where
          pick : ((x ≡ y) × Lex rank xs ys) ⊎ (Above rank x y × SameLen xs ys) → ⊥
          pick (inl k) = ne k.0
          pick (inr k) = nl k.1

      walk_dec : (ss ts : Terms) → Common us vs ss ts → sizes ss + size (node f vs) < n → size (node f us) + sizes ts < n
          → sizes ss ≤ size (node f us) → Decides (walk? ab (node f us) (node f vs) ss ts) (Above rank (node f us) (node f vs))
      unfolding size walk? some?
      walk_dec nil ts c h k b = only_args c (lex_nil rank) h
      walk_dec (cons x xs) nil c h k b = only_args c (lex_cons_nil rank) h
      walk_dec (cons x xs) (cons y ys) c h k b =
          dec_if (same_dec x y)
          (λ e. walk_dec xs ys (skip_eq e c) (omega arith) (omega arith) (omega arith))
          (λ ne.
          dec_if (ab_dec x y (omega arith))
          (λ a. dec_if (len_dec xs ys) (λ l. won c a l (omega arith)) (λ nl. only_args c (no_len ne nl) h))
          (λ na. lost c ne na (omega arith)))

    symbol_dec : (f g : ℕ) (ss ts : Terms) → f ≡ g → size (node f ss) + size (node g ts) ≤ n
        → Decides (walk? ab (node f ss) (node g ts) ss ts) (Above rank (node f ss) (node g ts))
    unfolding size
    symbol_dec f g ss ts e h =
        subst (λ k. Decides (walk? ab (node f ss) (node k ts) ss ts) (Above rank (node f ss) (node k ts))) e
        (walk_dec f ss ts ss ts whole (omega arith) (omega arith) (omega arith))

    pub step_dec : (s t : Term) → size s + size t ≤ n → Decides (step? ab s t) (Above rank s t)
    unfolding size step?
    step_dec (var x) t h = dec_false (var_above rank)
    step_dec (node f ss) (var y) h = dec_map by_arg (above_var rank) (some_dec ss (var y) (omega arith))
    step_dec (node f ss) (node g ts) h =
        dec_if (eqb_dec f g)
        (λ e. symbol_dec f g ss ts e h)
        (λ ne.
        dec_if (ltb_dec (rank g) (rank f))
        (λ lt. dec_map (by_rank lt) above_args (all_dec (node f ss) ts (omega arith)))
        (λ nlt. dec_map by_arg (above_lower nlt ne) (some_dec ss (node g ts) (omega arith))))

  -- The test itself goes by these steps.
  pub step_agrees : (s t : Term) → step? (above rank) s t ≡ above rank s t
  step_agrees s t =
      dec_agree (step? (above rank) s t) (above rank s t)
      (step_dec (above rank) (size s + size t) (λ s' t' h. above_dec rank s' t') s t (omega arith)) (above_dec rank s t)
