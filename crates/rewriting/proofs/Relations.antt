-- The relations of rewriting: one step by rules, some steps, steps either way, common reducts, and what a convergent system gives. Assumes nothing.
-- Read first: terms/specs/Term.
use mathlib.Core.Path.{◌≡◌}
use mathlib.Core.Logic.{◌↔◌}
use mathlib.Core.List.{List, Memᴰ}
use mathlib.Core.WellFounded.{Acc}
use Prim.Native.Nat.{ℕ, suc}
use Rattle.terms.specs.Term.{Term, Terms, node, cons, subst_term, Pair}

-- Some steps, perhaps none.
pub data Star {A : Type 0} (S : A → A → Type 0) : A → A → Type 0 where
  stop : {a : A} → Star S a a
  move : {a b c : A} → S a b → Star S b c → Star S a c

-- Some steps, each forwards or backwards, perhaps none.
pub data Conv {A : Type 0} (S : A → A → Type 0) : A → A → Type 0 where
  same : {a : A} → Conv S a a
  ahead : {a b c : A} → S a b → Conv S b c → Conv S a c
  back : {a b c : A} → S b a → Conv S b c → Conv S a c

-- `a` and `b` have a common reduct.
pub record Join {A : Type 0} (S : A → A → Type 0) (a b : A) : Type 0 where
  pub at : A
  pub left : Star S a at
  pub right : Star S b at

-- No step leaves `a`.
abbrev pub Normal : {A : Type 0} (S : A → A → Type 0) → A → Type 0
Normal {A} S a = (b : A) → S a b → ⊥

-- The inverse of a step, for `Acc`: below `a` stand the terms that a step from `a` leads to.
abbrev pub Below : {A : Type 0} (S : A → A → Type 0) → A → A → Type 0
Below S b a = S a b

-- Rewriting ends whatever is chosen.
abbrev pub Ends : {A : Type 0} (S : A → A → Type 0) → Type 0
Ends {A} S = (a : A) → Acc (Below S) a

abbrev pub LocallyConfluent : {A : Type 0} (S : A → A → Type 0) → Type 0
LocallyConfluent {A} S = (a b c : A) → S a b → S a c → Join S b c

abbrev pub Confluent : {A : Type 0} (S : A → A → Type 0) → Type 0
Confluent {A} S = (a b c : A) → Star S a b → Star S a c → Join S b c

-- The rules: which pairs of terms are a rule. A list of pairs is one such relation.
abbrev pub Rules : Type 1
Rules = Term → Term → Type 0

mutual
  pub data Step (R : Term → Term → Type 0) : Term → Term → Type 0 where
    root : {l r t u : Term} → R l r → (σ : ℕ → Term) → t ≡ subst_term σ l → u ≡ subst_term σ r → Step R t u
    inside : {f : ℕ} {ts us : Terms} → Steps R ts us → Step R (node f ts) (node f us)

  pub data Steps (R : Term → Term → Type 0) : Terms → Terms → Type 0 where
    here : {t u : Term} {ts : Terms} → Step R t u → Steps R (cons t ts) (cons u ts)
    there : {t : Term} {ts us : Terms} → Steps R ts us → Steps R (cons t ts) (cons t us)

-- The pairs of a list.
abbrev pub Of : List Pair → Rules
Of es l r = Memᴰ (record { left = l; right = r }) es

-- (c) What a convergent system `R` for the equations `E` gives.
pub record Solves (E R : Rules) : Type 0 where
  -- rewriting ends whatever is chosen
  pub ends : Ends (Step R)
  pub never_forever : (s : ℕ → Term) → ((n : ℕ) → Step R (s n) (s (suc n))) → ⊥
  -- a term always reaches the same last term
  pub final : Term → Term
  pub reached : (t : Term) → Star (Step R) t (final t)
  pub stuck : (t : Term) → Normal (Step R) (final t)
  pub always : (t u : Term) → Star (Step R) t u → Star (Step R) u (final t)
  pub only : (t u : Term) → Star (Step R) t u → Normal (Step R) u → u ≡ final t
  -- two terms have the same last term exactly when finitely many replacements of equals by equals lead from one to the other
  pub same_final : (s t : Term) → (final s ≡ final t) ↔ Conv (Step E) s t
