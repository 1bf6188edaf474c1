-- `Above rank` is transitive. Assumes nothing.
-- Read first: proofs/PathOrder.
use Prim.Native.Nat.{ℕ, ◌<◌}
use native.Mathlib.Omega.{arith}
use Rattle.terms.specs.Term.{Term, Terms, var, node}
use Rattle.order.proofs.PathOrder.{Above, by_arg, by_rank, by_lex, Within, here, by_above, later, AboveAll, all_nil, all_cons, Lex, first, next}
use Rattle.order.proofs.WellFounded.{len_trans, lex_len}

module _ (rank : ℕ → ℕ) where
  -- what is known of s above t where not by an argument of s
  abbrev Known : Term → Term → Type 0
  Known s (var x) = ⊥
  Known s (node g ts) =
      ((u : Term) → Within rank ts u → Above rank s u)
      × ((h : ℕ) (us : Terms) → rank h < rank g → AboveAll rank s us → Above rank s (node h us))
      × ((us : Terms) → Lex rank ts us → AboveAll rank s us → Above rank s (node g us))

  mutual
    inner : {s t u : Term} → Above rank t u → Known s t → Above rank s u
    inner (by_arg {t = u} w) k = k.0 u w
    inner (by_rank {g = h} {ts = us} lt all) k = k.1 h us lt (inners all k)
    inner (by_lex {ts = us} all x) k = k.2 us x (inners all k)

    inners : {s t : Term} {us : Terms} → AboveAll rank t us → Known s t → AboveAll rank s us
    inners all_nil k = all_nil
    inners (all_cons a all) k = all_cons (inner a k) (inners all k)

  mutual
    pub above_trans : {s t u : Term} → Above rank s t → Above rank t u → Above rank s u
    above_trans (by_arg w) e = by_arg (within_trans w e)
    above_trans (by_rank lt all) e =
        inner e (λ u w. all_within all w, λ h us lt' all'. by_rank (omega arith) all', λ us x all'. by_rank lt all')
    above_trans (by_lex all x) e =
        inner e (λ u w. all_within all w, λ h us lt' all'. by_rank lt' all', λ us y all'. by_lex all' (lex_trans x y))

    pub within_trans : {ss : Terms} {t u : Term} → Within rank ss t → Above rank t u → Within rank ss u
    within_trans here e = by_above e
    within_trans (by_above a) e = by_above (above_trans a e)
    within_trans (later w) e = later (within_trans w e)

    pub all_within : {s u : Term} {ts : Terms} → AboveAll rank s ts → Within rank ts u → Above rank s u
    all_within {u = u} (all_nil {s = s}) x10 = elim x10 [ ]
    all_within (all_cons a all) here = a
    all_within (all_cons a all) (by_above e) = above_trans a e
    all_within (all_cons a all) (later w) = all_within all w

    pub lex_trans : {ss ts us : Terms} → Lex rank ss ts → Lex rank ts us → Lex rank ss us
    lex_trans (first a l) (first e m) = first (above_trans a e) (len_trans l m)
    lex_trans (first a l) (next y) = first a (len_trans l (lex_len rank y))
    lex_trans (next x) (first e m) = first e (len_trans (lex_len rank x) m)
    lex_trans (next x) (next y) = next (lex_trans x y)
