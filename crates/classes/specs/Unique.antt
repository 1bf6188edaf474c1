-- A node spells one term, in one way; so that an arena is ready has one proof, as a ghost field wants it. Assumes nothing.
-- Read first: specs/Arena (Spells), specs/Steps (Ready).
use Rattle.std.specs.Prelude.{◌≡◌, List, ℕ, suc, ◌+◌, ◌<◌, refl}
use Rattle.std.proofs.Common.{sym, ap, ap₂, subst, ◌∙◌, arith}
use Rattle.std.specs.Coded.{le_prop, Coded-set, coded_ℕ}
use mathlib.Core.Path.{Σ_path}
use mathlib.Core.HLevel.{is_prop→PathP}
use Rattle.terms.specs.Term.{Term, var, node, Terms, cons}
use Rattle.classes.specs.Arena.{Arena, Spells, free, made, SpellsAll, none, more}
use Rattle.classes.specs.Steps.{Ready}

module _ (A : Arena) where
  pub spells_within : {c : ℕ → ℕ} {i : ℕ} {t : Term} → Spells A c i t → i < A.nodes
  spells_within (free h e) = h
  spells_within (made h e l r) = h

  -- a node whose root is a symbol
  pub unmake : {c : ℕ → ℕ} {i : ℕ} {t : Term} (f : ℕ) → Spells A c i t → A.byte (c i) ≡ f → f < 128 →
      (ts : Terms) × (t ≡ node f ts) × SpellsAll A c (suc (c i)) (A.arity f) ts
  unmake f (free h e) b l = absurd (omega arith)
  unmake {c} {i} f (made {ts = ts} h e l r) b k =
      (ts, ap (λ g. node g ts) (sym e ∙ b), subst (λ g. SpellsAll A c (suc (c i)) (A.arity g) ts) (sym e ∙ b) r)

  -- a node whose root is a variable
  pub unfree : {c : ℕ → ℕ} {i : ℕ} {t : Term} (x : ℕ) → Spells A c i t → A.byte (c i) ≡ 128 + x → t ≡ var x
  unfree x (free h e) b = ap var (omega arith)
  unfree x (made h e l r) b = absurd (omega arith)

  -- no node stands for two terms
  mutual
    pub spells_one : {c : ℕ → ℕ} {i : ℕ} {t u : Term} → Spells A c i t → Spells A c i u → t ≡ u
    spells_one (free {x = x} h e) r = sym (unfree x r e)
    spells_one (made {f = f} h e l s) r = let k = unmake f r e l in ap (node f) (spells_ones s k.2) ∙ sym k.1

    pub spells_ones : {c : ℕ → ℕ} {p k : ℕ} {ts us : Terms} → SpellsAll A c p k ts → SpellsAll A c p k us → ts ≡ us
    spells_ones none none = refl
    spells_ones (more r s) (more r' s') = ap₂ cons (spells_one r r') (spells_ones s s')

  mutual
    spells_prop : {c : ℕ → ℕ} {i : ℕ} {t : Term} → IsProp (Spells A c i t)
    spells_prop (free h e) (free h' e') = ap₂ free (le_prop h h') (Coded-set coded_ℕ _ _ e e')
    spells_prop (made h e l r) (made h' e' l' r') =
        λ i. made (le_prop h h' i) (Coded-set coded_ℕ _ _ e e' i) (le_prop l l' i) (spells_all_prop r r' i)

    spells_all_prop : {c : ℕ → ℕ} {p k : ℕ} {ts : Terms} → IsProp (SpellsAll A c p k ts)
    spells_all_prop none none = refl
    spells_all_prop (more r s) (more r' s') = ap₂ more (spells_prop r r') (spells_all_prop s s')

  spelt_prop : (c : ℕ → ℕ) (i : ℕ) → IsProp ((t : Term) × Spells A c i t)
  spelt_prop c i u v =
      let e = spells_one u.1 v.1 in
      Σ_path e (is_prop→PathP (λ j. Spells A c i (e j)) (λ j. spells_prop) u.1 v.1)

pub ready_prop : (l tab ends cs : List ℕ) → IsProp (Ready l tab ends cs)
ready_prop l tab ends cs = Prim.hlevel (le_prop, spelt_prop)
