-- The lexicographic path order over raw terms: `Above s t`, s is above t. `rank` is the rank of a symbol; two symbols may have the same rank. Assumes
-- nothing.
-- Read first: specs/Order.
use Prim.Native.Nat.{ℕ, ◌<◌}
use Rattle.terms.specs.Term.{Term, Terms, var, node, nil, cons}

-- Two argument lists of the same length.
pub data SameLen : Terms → Terms → Type 0 where
  len_nil : SameLen nil nil
  len_cons : {s t : Term} {ss ts : Terms} → SameLen ss ts → SameLen (cons s ss) (cons t ts)

module _ (rank : ℕ → ℕ) where
  mutual
    pub data Above : Term → Term → Type 0 where
      by_arg : {f : ℕ} {ss : Terms} {t : Term} → Within ss t → Above (node f ss) t
      by_rank : {f g : ℕ} {ss ts : Terms} → rank g < rank f → AboveAll (node f ss) ts → Above (node f ss) (node g ts)
      by_lex : {f : ℕ} {ss ts : Terms} → AboveAll (node f ss) ts → Lex ss ts → Above (node f ss) (node f ts)

    -- Some term of the list equals t or is above t.
    pub data Within : Terms → Term → Type 0 where
      here : {t : Term} {ss : Terms} → Within (cons t ss) t
      by_above : {s t : Term} {ss : Terms} → Above s t → Within (cons s ss) t
      later : {s t : Term} {ss : Terms} → Within ss t → Within (cons s ss) t

    -- s is above every term of the list.
    pub data AboveAll : Term → Terms → Type 0 where
      all_nil : {s : Term} → AboveAll s nil
      all_cons : {s t : Term} {ts : Terms} → Above s t → AboveAll s ts → AboveAll s (cons t ts)

    -- The lists are equally long, and at the first place where they differ that of the left is above that of the right.
    pub data Lex : Terms → Terms → Type 0 where
      first : {s t : Term} {ss ts : Terms} → Above s t → SameLen ss ts → Lex (cons s ss) (cons t ts)
      next : {s : Term} {ss ts : Terms} → Lex ss ts → Lex (cons s ss) (cons s ts)

  -- A variable is above nothing, and so is the empty list.
  pub var_above : {x : ℕ} {t : Term} → Above (var x) t → ⊥
  var_above = elim [ ]

  pub lex_nil : {ts : Terms} → Lex nil ts → ⊥
  lex_nil = elim [ ]
