-- Steps by rules whose right sides have no variables of their own bring no variable in. Assumes nothing.
-- Read first: proofs/Relations.
use mathlib.Core.Path.{sym, subst}
use mathlib.Core.Logic.{⊎_elim}
use mathlib.Core.List.Memᴰ
use Prim.Native.Nat.{ℕ}
use Rattle.terms.specs.Term.{Term, Terms, var, node, nil, cons, variables, variables_of, subst_term, subst_terms}
use Rattle.terms.proofs.Subst.{Subst, In, VarsIn, From, vars_subst}
use Rattle.rewriting.proofs.Relations.{Rules, Step, Steps, root, inside, here, there, Star, stop, move}

-- The variables of a variable's value are variables of the instance.
mutual
  unfolding subst_term subst_terms variables variables_of

  pub in_subst : (σ : Subst) (t : Term) (x y : ℕ) → In x (variables t) → In y (variables (σ x)) → In y (variables (subst_term σ t))
  in_subst σ (var z) x y i j =
      ⊎_elim (λ e. subst (λ w. In y (variables (σ w))) e j) (λ k. absurd (Memᴰ.not-nil k)) (Memᴰ.cases_cons i)
  in_subst σ (node f ts) x y i j = in_substs σ ts x y i j

  pub in_substs : (σ : Subst) (ts : Terms) (x y : ℕ) → In x (variables_of ts) → In y (variables (σ x)) → In y (variables_of (subst_terms σ ts))
  in_substs σ nil x y i j = absurd (Memᴰ.not-nil i)
  in_substs σ (cons t ts) x y i j =
      ⊎_elim
      (λ k. Memᴰ.append_left (variables_of (subst_terms σ ts)) (in_subst σ t x y k j))
      (λ k. Memᴰ.append_right (variables (subst_term σ t)) (in_substs σ ts x y k j))
      (Memᴰ.append_cases (variables t) i)

-- the variables of r are variables of l
abbrev pub Brings : Term → Term → Type 0
Brings l r = VarsIn (λ x. In x (variables l)) r

pub brings_subst : (σ : Subst) (l r : Term) → Brings l r → Brings (subst_term σ l) (subst_term σ r)
unfolding From
brings_subst σ l r h y i = let f : From σ (variables r) y = vars_subst σ r y i in in_subst σ l f.0 y (h f.0 f.1) f.2

module _ {R : Rules} (vars : (l r : Term) → R l r → Brings l r) where
  mutual
    unfolding variables variables_of

    pub step_brings : {t u : Term} → Step R t u → Brings t u
    step_brings (root {l = l} {r = r} ρ σ e d) y i =
        subst (λ z. In y (variables z)) (sym e) (brings_subst σ l r (vars l r ρ) y (subst (λ z. In y (variables z)) d i))
    step_brings (inside s) y i = steps_bring s y i

    pub steps_bring : {ts us : Terms} → Steps R ts us → (y : ℕ) → In y (variables_of us) → In y (variables_of ts)
    steps_bring (here {t = t} {u = u} {ts = ts} s) y i =
        ⊎_elim (λ k. Memᴰ.append_left (variables_of ts) (step_brings s y k)) (λ k. Memᴰ.append_right (variables t) k) (Memᴰ.append_cases (variables u) i)
    steps_bring (there {t = t} {ts = ts} s) y i =
        ⊎_elim (λ k. Memᴰ.append_left (variables_of ts) k) (λ k. Memᴰ.append_right (variables t) (steps_bring s y k)) (Memᴰ.append_cases (variables t) i)

  pub star_brings : {t u : Term} → Star (Step R) t u → Brings t u
  star_brings stop y i = i
  star_brings (move s m) y i = step_brings s y (star_brings m y i)
