-- Critical pairs: of two rules, the inner one moved up past the variables of the outer, a most general unifier's pair that joins makes every peak at the
-- place join. Assumes nothing.
-- Read first: proofs/Steps, terms/proofs/Apart, unify/proofs/Unique (`MostGeneral`).
use mathlib.Core.Path.{◌≡◌, sym, ◌∙◌, ap₂, subst}
use mathlib.Core.Logic.{◌⊎◌, inl, inr}
use Prim.Native.Nat.{ℕ, ◌<◌}
use Rattle.terms.specs.Term.{Term, subst_term}
use Rattle.terms.proofs.Subst.{Subst, then, VarsIn, subst_subst, subst_ext}
use Rattle.terms.proofs.Context.{Ctx, plug, subst_context, subst_plug, agree_plug}
use Rattle.terms.proofs.Apart.{up, join, join_up, join_below}
use Rattle.unify.proofs.Unique.{MostGeneral}
use Rattle.rewriting.proofs.Relations.{Join, Rules, Step}
use Rattle.rewriting.proofs.Steps.{join_subst}

-- A most general unifier of `a` and `b`.
pub record MguOf (a b : Term) : Type 0 where
  pub m : Subst
  pub general : MostGeneral a b m

-- No substitution makes `a` and `b` equal.
abbrev pub Clash : Term → Term → Type 0
Clash a b = (θ : Subst) → subst_term θ a ≡ subst_term θ b → ⊥

-- A substitution that is `m` and then `δ`, on a term.
factor : (θ m δ : Subst) → ((x : ℕ) → θ x ≡ subst_term δ (m x)) → (t : Term) → subst_term θ t ≡ subst_term δ (subst_term m t)
factor θ m δ h t = subst_ext θ (then m δ) t h ∙ sym (subst_subst δ m t)

-- Every peak of a rule `l` to `r` at the place `s` of another rule's left side, with `c` around it, is joinable; `r'` is that rule's right side.
abbrev pub PeakOf : Rules → (l r r' : Term) (c : Ctx) (s : Term) → Type 0
PeakOf R l r r' c s = (τ σ : Subst) → subst_term σ s ≡ subst_term τ l → Join (Step R) (plug (subst_context σ c) (subst_term τ r)) (subst_term σ r')

-- The rule `l` to `r`, moved up by `k`, at the place `s` with `c` around it of another rule, whose right side is `r'`: nothing unifies, or a most
-- general unifier's pair is joinable.
abbrev pub PairDone : Rules → (k : ℕ) (l r r' : Term) (c : Ctx) (s : Term) → Type 0
PairDone R k l r r' c s =
    Clash (subst_term (up k) l) s
    ⊎ ((u : MguOf (subst_term (up k) l) s) × Join (Step R) (subst_term u.m (plug c (subst_term (up k) r))) (subst_term u.m r'))

pub pair_peak : (R : Rules) (k : ℕ) (l r l' r' : Term) (c : Ctx) (s : Term) → l' ≡ plug c s → VarsIn (λ (x : ℕ). x < k) l' → VarsIn (λ (x : ℕ). x < k) r' →
    PairDone R k l r r' c s → PeakOf R l r r' c s
pair_peak R k l r l' r' c s e bl br done τ σ q = go done
  where
    θ : Subst
    θ = join k σ τ

    high : (t : Term) → subst_term θ (subst_term (up k) t) ≡ subst_term τ t
    high = join_up k σ τ

    low : (t : Term) → VarsIn (λ (x : ℕ). x < k) t → subst_term θ t ≡ subst_term σ t
    low = join_below k σ τ

    parts : (subst_context θ c ≡ subst_context σ c) × (subst_term θ s ≡ subst_term σ s)
    parts = agree_plug θ σ c s (subst (λ z. subst_term θ z ≡ subst_term σ z) e (low l' bl))

    unified : subst_term θ (subst_term (up k) l) ≡ subst_term θ s
    unified = high l ∙ (sym q ∙ sym parts.1)

    go : PairDone R k l r r' c s → Join (Step R) (plug (subst_context σ c) (subst_term τ r)) (subst_term σ r')
    go (inl n) = absurd (n θ unified)
    go (inr p) =
        let u : MguOf (subst_term (up k) l) s = p.0 in
        let δ : Subst = (u.general.factors θ unified).0 in
        let f : (t : Term) → subst_term θ t ≡ subst_term δ (subst_term u.m t) = factor θ u.m δ (u.general.factors θ unified).1 in
        let left : subst_term δ (subst_term u.m (plug c (subst_term (up k) r))) ≡ plug (subst_context σ c) (subst_term τ r) =
        sym (f (plug c (subst_term (up k) r))) ∙ (subst_plug θ c (subst_term (up k) r) ∙ ap₂ plug parts.0 (high r)) in
        let right : subst_term δ (subst_term u.m r') ≡ subst_term σ r' = sym (f r') ∙ low r' br in
        subst (λ z. Join (Step R) z (subst_term σ r')) left
        (subst (λ z. Join (Step R) (subst_term δ (subst_term u.m (plug c (subst_term (up k) r)))) z) right (join_subst δ p.1))
