-- The test `above rank s t` decides `Above rank s t`. Assumes nothing.
-- Read first: specs/Order, proofs/PathOrder.
use mathlib.Core.Path.{◌≡◌, refl, sym, subst}
use mathlib.Core.Bool.{Bool, true, false, false≢true}
use mathlib.Core.Logic.{◌⊎◌, inl, inr}
use Prim.Native.Nat.{ℕ, ◌<◌}
use Rattle.terms.specs.Term.{Term, Terms, var, node, nil, cons}
use Rattle.order.proofs.PathOrder.{SameLen, len_nil, len_cons, Above, by_arg, by_rank, by_lex, Within, here, by_above, later, AboveAll}
use Rattle.order.proofs.PathOrder.{all_nil, all_cons, Lex, first, next, var_above, lex_nil}
use Rattle.std.specs.Prelude.{if◌then◌else◌}
use Rattle.terms.proofs.Shape.{Decides, dec_map, dec_and, dec_or, dec_false, dec_true, eqb_dec, ltb_dec, same_dec}
use Rattle.order.specs.Order.{same_length, by_clauses, by_clauses_all, above, some_reaches, first_above}
use Rattle.order.proofs.WellFounded.{above_irrefl}

len_nil_cons : {t : Term} {ts : Terms} → SameLen nil (cons t ts) → ⊥
len_nil_cons = elim [ ]

len_cons_nil : {s : Term} {ss : Terms} → SameLen (cons s ss) nil → ⊥
len_cons_nil = elim [ ]

len_tail : {s t : Term} {ss ts : Terms} → SameLen (cons s ss) (cons t ts) → SameLen ss ts
len_tail (len_cons l) = l

pub len_dec : (ss ts : Terms) → Decides (same_length ss ts) (SameLen ss ts)
unfolding same_length
len_dec nil nil = dec_true len_nil
len_dec nil (cons t ts) = dec_false len_nil_cons
len_dec (cons s ss) nil = dec_false len_cons_nil
len_dec (cons s ss) (cons t ts) = dec_map len_cons len_tail (len_dec ss ts)

pub dec_if : {A C : Type 0} {c x y : Bool} → Decides c C → (C → Decides x A) → ((C → ⊥) → Decides y A) → Decides (if c then x else y) A
dec_if {c = true} d p q = p (d.0 refl)
dec_if {c = false} d p q = q (λ k. false≢true (d.1 k))

module _ (rank : ℕ → ℕ) where
  -- The families by cases.
  abbrev pub Root : ℕ → Terms → ℕ → Terms → Type 0
  Root f ss g ts = (rank g < rank f) ⊎ ((f ≡ g) × Lex rank ss ts)

  pub above_node : {f g : ℕ} {ss ts : Terms} → Above rank (node f ss) (node g ts)
      → Within rank ss (node g ts) ⊎ (Root f ss g ts × AboveAll rank (node f ss) ts)
  above_node (by_arg w) = inl w
  above_node (by_rank lt all) = inr (inl lt, all)
  above_node (by_lex all x) = inr (inr (refl, x), all)

  by_lex_eq : {f g : ℕ} {ss ts : Terms} → f ≡ g → AboveAll rank (node f ss) ts → Lex rank ss ts → Above rank (node f ss) (node g ts)
  by_lex_eq {f} {ss = ss} {ts = ts} e all x = subst (λ h. Above rank (node f ss) (node h ts)) e (by_lex all x)

  -- The three clauses.
  abbrev Clauses : ℕ → Terms → ℕ → Terms → Type 0
  Clauses f ss g ts =
      (Within rank ss (node g ts) ⊎ ((rank g < rank f) × AboveAll rank (node f ss) ts)) ⊎ (((f ≡ g) × AboveAll rank (node f ss) ts) × Lex rank ss ts)

  by_clause : {f g : ℕ} {ss ts : Terms} → Clauses f ss g ts → Above rank (node f ss) (node g ts)
  by_clause (inl (inl w)) = by_arg w
  by_clause (inl (inr k)) = by_rank k.0 k.1
  by_clause (inr k) = by_lex_eq k.0.0 k.0.1 k.1

  clause_of : {f g : ℕ} {ss ts : Terms} → Above rank (node f ss) (node g ts) → Clauses f ss g ts
  clause_of (by_arg w) = inl (inl w)
  clause_of (by_rank lt all) = inl (inr (lt, all))
  clause_of (by_lex all x) = inr ((refl, all), x)

  pub above_var : {f x : ℕ} {ss : Terms} → Above rank (node f ss) (var x) → Within rank ss (var x)
  above_var (by_arg w) = w

  pub within_nil : {t : Term} → Within rank nil t → ⊥
  within_nil = elim [ ]

  pub within_cons : {s t : Term} {ss : Terms} → Within rank (cons s ss) t → ((s ≡ t) ⊎ Above rank s t) ⊎ Within rank ss t
  within_cons here = inl (inl refl)
  within_cons (by_above a) = inl (inr a)
  within_cons (later w) = inr w

  pub here_eq : {s t : Term} {ss : Terms} → s ≡ t → Within rank (cons s ss) t
  here_eq {s} {ss = ss} e = subst (λ u. Within rank (cons s ss) u) e here

  pub cons_within : {s t : Term} {ss : Terms} → ((s ≡ t) ⊎ Above rank s t) ⊎ Within rank ss t → Within rank (cons s ss) t
  cons_within (inl (inl e)) = here_eq e
  cons_within (inl (inr a)) = by_above a
  cons_within (inr w) = later w

  pub all_parts : {s t : Term} {ts : Terms} → AboveAll rank s (cons t ts) → Above rank s t × AboveAll rank s ts
  all_parts (all_cons a all) = (a, all)

  pub lex_cons_nil : {s : Term} {ss : Terms} → Lex rank (cons s ss) nil → ⊥
  lex_cons_nil = elim [ ]

  pub lex_parts : {s t : Term} {ss ts : Terms} → Lex rank (cons s ss) (cons t ts) → ((s ≡ t) × Lex rank ss ts) ⊎ (Above rank s t × SameLen ss ts)
  lex_parts (first a l) = inr (a, l)
  lex_parts (next x) = inl (refl, x)

  pub next_eq : {s t : Term} {ss ts : Terms} → s ≡ t → Lex rank ss ts → Lex rank (cons s ss) (cons t ts)
  next_eq {s} {ss = ss} {ts = ts} e x = subst (λ u. Lex rank (cons s ss) (cons u ts)) e (next x)

  next_of : {s t : Term} {ss ts : Terms} → s ≡ t → Lex rank (cons s ss) (cons t ts) → Lex rank ss ts
  next_of {s} {t} {ss} {ts} e x = pick (lex_parts x)
    where
      pick : ((s ≡ t) × Lex rank ss ts) ⊎ (Above rank s t × SameLen ss ts) → Lex rank ss ts
      pick (inl k) = k.1
      pick (inr k) = absurd (above_irrefl rank (subst (λ u. Above rank s u) (sym e) k.0))

  first_of : {s t : Term} {ss ts : Terms} → (s ≡ t → ⊥) → Lex rank (cons s ss) (cons t ts) → Above rank s t × SameLen ss ts
  first_of {s} {t} {ss} {ts} n x = pick (lex_parts x)
    where
      pick : ((s ≡ t) × Lex rank ss ts) ⊎ (Above rank s t × SameLen ss ts) → Above rank s t × SameLen ss ts
      pick (inl k) = absurd (n k.0)
      pick (inr k) = k

  module _ (f : ℕ) (ss : Terms) (w : Term → Bool) (l : Terms → Bool)
      (w_dec : (t : Term) → Decides (w t) (Within rank ss t))
      (l_dec : (ts : Terms) → Decides (l ts) (Lex rank ss ts)) where
    mutual
      unfolding by_clauses by_clauses_all

      node_dec : (t : Term) → Decides (by_clauses rank f w l t) (Above rank (node f ss) t)
      node_dec (var x) = dec_map by_arg above_var (w_dec (var x))
      node_dec (node g ts) =
          dec_map by_clause clause_of
          (dec_or
          (dec_or (w_dec (node g ts)) (dec_and (ltb_dec (rank g) (rank f)) (nodes_dec ts)))
          (dec_and (dec_and (eqb_dec f g) (nodes_dec ts)) (l_dec ts)))

      nodes_dec : (ts : Terms) → Decides (by_clauses_all rank f w l ts) (AboveAll rank (node f ss) ts)
      nodes_dec nil = dec_true all_nil
      nodes_dec (cons t ts) = dec_map (λ k. all_cons k.0 k.1) all_parts (dec_and (node_dec t) (nodes_dec ts))

  mutual
    unfolding above some_reaches first_above

    pub above_dec : (s t : Term) → Decides (above rank s t) (Above rank s t)
    above_dec (var x) t = dec_false (var_above rank)
    above_dec (node f ss) t = node_dec f ss (some_reaches rank ss) (first_above rank ss) (λ u. within_dec ss u) (λ us. lex_dec ss us) t

    pub within_dec : (ss : Terms) (t : Term) → Decides (some_reaches rank ss t) (Within rank ss t)
    within_dec nil t = dec_false within_nil
    within_dec (cons s ss) t = dec_map cons_within within_cons (dec_or (dec_or (same_dec s t) (above_dec s t)) (within_dec ss t))

    pub lex_dec : (ss ts : Terms) → Decides (first_above rank ss ts) (Lex rank ss ts)
    lex_dec nil ts = dec_false (lex_nil rank)
    lex_dec (cons s ss) nil = dec_false lex_cons_nil
    lex_dec (cons s ss) (cons t ts) =
        dec_if (same_dec s t)
        (λ e. dec_map (next_eq e) (next_of e) (lex_dec ss ts))
        (λ n. dec_map (λ k. first k.0 k.1) (first_of n) (dec_and (above_dec s t) (len_dec ss ts)))
