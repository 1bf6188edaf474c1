-- Closed classes whose nodes all spell terms give a most general unifier, and its instances are those terms. Assumes nothing. Two symbols in one
-- class (clash), or classes that go round in a circle (occurs check), leave no unifier.
-- Read first: specs/Arena, specs/Unique.
use mathlib.Core.Path.{◌≡◌, refl, sym, ap, ap₂, subst, ◌∙◌}
use mathlib.Core.Logic.{◌⊎◌, inl, inr, ⊎_elim}
use Prim.Native.Nat.{ℕ, zero, suc, ◌+◌, ◌≤◌, ◌<◌}
use native.Mathlib.Omega.{arith}
use native.Mathlib.Decide.{ℕ_discrete}
use Rattle.terms.specs.Term.{Term, var, node, Terms, cons, size, sizes, subst_term, subst_terms}
use Rattle.terms.proofs.Shape.{node_symbol}
use Rattle.terms.proofs.Subst.{Subst}
use Rattle.classes.specs.Arena.{Arena, Spells, free, made, SpellsAll, none, more, same, NodesSpell, Joins, Classes, Agree, AllClosed, Never, Among}
use Rattle.classes.specs.Arena.{Descends}
use Rattle.classes.specs.Unique.{spells_within, unmake, spells_one}
use Rattle.classes.proofs.Ranges.{below_more}
use Rattle.unify.proofs.Correct.{Unifies, Mgu}

module _ (A : Arena) where
  -- what makes their terms one joins two nodes
  pub unifies_joins : (τ : Subst) (a b : ℕ) (s t : Term) → Spells A same a s → Spells A same b t → Unifies τ s t → Joins A τ a b
  unifies_joins τ a b s t p q h s' t' p' q' = ap (subst_term τ) (spells_one A p' p) ∙ h ∙ ap (subst_term τ) (spells_one A q q')

  -- nodes of one class stand for one term
  spells_move : {c : ℕ → ℕ} {i : ℕ} (j : ℕ) {t : Term} → Spells A c i t → c i ≡ c j → j < A.nodes → Spells A c j t
  spells_move {c} j (free h e) q b = free b (ap A.byte (sym q) ∙ e)
  spells_move {c} j (made {f = f} {ts = ts} h e l r) q b = made b (ap A.byte (sym q) ∙ e) l (subst (λ z. SpellsAll A c (suc z) (A.arity f) ts) q r)

  module _ (n₁ n₂ : ℕ) (c : ℕ → ℕ) (w : NodesSpell A) (g : Classes A n₁ n₂ c) where
    -- a unifier makes what a node stands for and the term in the arena one
    module _ (τ : Subst) (j : Joins A τ n₁ n₂) where
      mutual
        unfolding subst_term subst_terms

        pub absorbs : {i : ℕ} {t u : Term} → Spells A c i u → Spells A same i t → subst_term τ u ≡ subst_term τ t
        absorbs {i} {t} (free {x = x} h e) s = sym (g.respects τ j i t (var x) s (free (g.within i h) e))
        absorbs {i} {t} (made {f = f} {ts = us} h e l r) s =
            let v = w (c i) (g.within i h) in
            let k = unmake A f v.1 e l in
            ap (node f) (absorbss r k.2) ∙ ap (subst_term τ) (sym k.1) ∙ sym (g.respects τ j i t v.0 s v.1)

        absorbss : {p k : ℕ} {ts us : Terms} → SpellsAll A c p k us → SpellsAll A same p k ts → subst_terms τ us ≡ subst_terms τ ts
        absorbss none none = refl
        absorbss (more r s) (more r' s') = ap₂ cons (absorbs r r') (absorbss s s')

      -- a descent without end
      module _ (U : ℕ → Type 0) (d : Descends A c U) where
        record Smaller (n : ℕ) : Type 0 where
          at : ℕ
          term : Term
          spells : Spells A same at term
          holds : U at
          below : size (subst_term τ term) ≤ n

        smaller : {p k : ℕ} {ts : Terms} → SpellsAll A same p k ts → Among A U p k → Smaller (sizes (subst_terms τ ts))
        unfolding subst_terms sizes Among
        smaller none u = absurd u
        smaller {p} (more {t = t} {ts = ts} r s) u =
            ⊎_elim
            (λ h. record { at = p; term = t; spells = r; holds = h; below = omega arith })
            (λ h. let v = smaller s h in record { at = v.at; term = v.term; spells = v.spells; holds = v.holds; below = omega (arith, v.below) })
            u

        descend : (n i : ℕ) (t : Term) → Spells A same i t → U i → size (subst_term τ t) < n → ⊥
        unfolding subst_term size
        descend zero i t s u q = omega arith
        descend (suc n) i t s u q =
            let h = spells_within A s in
            let b = d i h u in
            let v = w (c i) (g.within i h) in
            let k = unmake A (A.byte (c i)) v.1 refl b.0 in
            let r = smaller k.2 b.1 in
            let e = ap size (g.respects τ j i t v.0 s v.1 ∙ ap (subst_term τ) k.1) in
            descend n r.at r.term r.spells r.holds (omega (arith, r.below, e))

    -- two symbols in one class
    pub never_clash : (i : ℕ) → i < A.nodes → A.byte i < 128 → (A.byte (c i) ≡ A.byte i → ⊥) → Never A n₁ n₂
    unfolding subst_term
    never_clash i h l n τ j =
        let s = w i h in
        let t = w (c i) (g.within i h) in
        let a = unmake A (A.byte i) s.1 refl l in
        let b = unmake A (A.byte (c i)) t.1 refl (g.headed i h l) in
        n (node_symbol (ap (subst_term τ) (sym b.1) ∙ sym (g.respects τ j i s.0 t.0 s.1 t.1) ∙ ap (subst_term τ) a.1))

    pub never_circle : (U : ℕ → Type 0) → Descends A c U → (i : ℕ) → i < A.nodes → U i → Never A n₁ n₂
    never_circle U d i h u τ j = let v = w i h in descend τ j U d (suc (size (subst_term τ v.0))) i v.0 v.1 u (omega arith)

    -- every class stands for a term
    module _ (o : AllClosed A c) (k : (i : ℕ) → i < A.nodes → (u : Term) × Spells A c i u) where
      Seen : ℕ → ℕ → Type 0
      Seen x n = ((i : ℕ) × (i < n) × (A.byte i ≡ 128 + x)) ⊎ ((i : ℕ) → i < n → A.byte i ≡ 128 + x → ⊥)

      seek_more : (x n : ℕ) → Seen x n → Dec (A.byte n ≡ 128 + x) → Seen x (suc n)
      unfolding Seen
      seek_more x n r (yes e) = inl (n, omega arith, e)
      seek_more x n (inl (i, l, e)) (no q) = inl (i, omega arith, e)
      seek_more x n (inr f) (no q) = inr (λ i l. below_more (λ j. A.byte j ≡ 128 + x → ⊥) n f q i (omega arith))

      seek : (x n : ℕ) → Seen x n
      unfolding Seen
      seek x zero = inr (λ i l e. omega arith)
      seek x (suc n) = seek_more x n (seek x n) (ℕ_discrete (A.byte n) (128 + x))

      value : (x : ℕ) → Seen x A.nodes → Term
      unfolding Seen
      value x (inl (i, l, e)) = (k i l).0
      value x (inr f) = var x

      pub solution : Subst
      solution x = value x (seek x A.nodes)

      image_var : (x : ℕ) {i : ℕ} {u : Term} → i < A.nodes → A.byte i ≡ 128 + x → Spells A c i u → (r : Seen x A.nodes) → value x r ≡ u
      unfolding Seen value
      image_var x {i} h e s (inl (a, l, q)) = spells_one A (spells_move i (k a l).1 (g.shared a i l h (omega arith) (q ∙ sym e)) h) s
      image_var x {i} h e s (inr f) = absurd (f i h e)

      mutual
        unfolding subst_term subst_terms Agree solution

        pub image : {i : ℕ} {t u : Term} → Spells A same i t → Spells A c i u → subst_term solution t ≡ u
        image (free {x = x} h e) s = image_var x h e s (seek x A.nodes)
        image {i} (made {f = f} h e l r) s =
            let q = o i h (rw e l) in
            let v = unmake A f s (q.0 ∙ e) l in
            ap (node f) (images r v.2 (subst (λ z. Agree A c (suc i) (suc (c i)) (A.arity z)) e q.1)) ∙ sym v.1

        images : {p q n : ℕ} {ts us : Terms} → SpellsAll A same p n ts → SpellsAll A c q n us → Agree A c p q n → subst_terms solution ts ≡ us
        images none none a = refl
        images {p} (more r s) (more r' s') a = ap₂ cons (image r (spells_move p r' (sym a.0) (spells_within A r))) (images s s' a.1)

      general_at : (τ : Subst) → Joins A τ n₁ n₂ → (x : ℕ) (r : Seen x A.nodes) → τ x ≡ subst_term τ (value x r)
      unfolding Seen value subst_term
      general_at τ j x (inl (i, l, e)) = sym (absorbs τ j (k i l).1 (free l e))
      general_at τ j x (inr f) = refl

      -- the solution is a most general unifier of the two terms, and what a node stands for is its instance
      pub solution_mgu : (s t : Term) → Spells A same n₁ s → Spells A same n₂ t → c n₁ ≡ c n₂ → Mgu s t solution
      unfolding solution
      solution_mgu s t p q e =
          let u = k n₁ (spells_within A p) in
          record {
            unifies = image p u.1 ∙ sym (image q (spells_move n₂ u.1 e (spells_within A q)));
            general = λ τ h x. general_at τ (unifies_joins τ n₁ n₂ s t p q h) x (seek x A.nodes);
          }
