-- Well-formed terms: more variables may be allowed, the walk over their bytes stops at their end, their bytes determine them and are below 128 + n; their
-- subterms, their instances and they with a subterm replaced are well-formed. Assumes nothing.
-- Read first: specs/Flat, proofs/Scans, proofs/Limits (`Made`).
use mathlib.Core.Path.{◌≡◌, refl, ap, ap₂, sym, ◌∙◌}
use mathlib.Core.List.Memᴰ
use mathlib.Core.List.{List, ◌++◌, append_assoc}
use mathlib.Core.Option.{some}
use Prim.Native.Nat.{ℕ, zero, suc, ◌+◌, ◌-◌, ◌≤◌, ◌<◌}
use native.Mathlib.Omega.{arith}
use lib.Dec.{ltb}
use Rattle.terms.specs.Term.{Term, var, node, Terms, nil, cons, term_bytes, terms_bytes, size, variables, variables_of, subst_term, subst_terms}
use Rattle.terms.specs.Term.{subterm_at, subterm_in, replace_at, replace_in, count}
use Rattle.terms.specs.Scan.{arity, skip}
use Rattle.terms.specs.Flat.{Wf, Wfs}
use Rattle.terms.proofs.Subst.{Subst, In, VarsIn, count_subst}
use Rattle.terms.proofs.Shape.{either_has}
use Rattle.terms.specs.Base.{Every}
use Rattle.terms.proofs.Positions.{Inherits, subterm_inherits, subterm_in_inherits}
use Rattle.terms.proofs.Limits.{Made, MadeAll, made_vars, made_bytes}
use Rattle.terms.proofs.Scans.{skip_bytes, skip_none}

-- more variables may be allowed
mutual
  unfolding Wf

  pub widen : (m n : ℕ) (tab : List ℕ) (t : Term) → m ≤ n → Wf m tab t → Wf n tab t
  widen m n tab (var x) h w = omega arith
  widen m n tab (node f ts) h w = (w.0, w.1, widen_all m n tab ts h w.2)

  pub widen_all : (m n : ℕ) (tab : List ℕ) (ts : Terms) → m ≤ n → Wfs m tab ts → Wfs n tab ts
  widen_all m n tab nil h w = tt
  widen_all m n tab (cons t ts) h w = (widen m n tab t h w.0, widen_all m n tab ts h w.1)

-- on the bytes of a well-formed term the walk stops at its end
pub skip_term : (n : ℕ) (tab : List ℕ) (t : Term) → Wf n tab t → (rest : List ℕ) → skip tab (term_bytes t ++ rest) 1 ≡ size t
skip_term n tab t w rest = omega (arith, skip_bytes n tab t w rest 0, skip_none tab rest)

-- A term's bytes determine it, whatever stands behind them.
mutual
  unfolding term_bytes Wf count

  pub unique : (n : ℕ) (tab : List ℕ) (x y : Term) (r s : List ℕ) → Wf n tab x → Wf n tab y → term_bytes x ++ r ≡ term_bytes y ++ s → (x ≡ y) × (r ≡ s)
  unique n tab (var a) (var b) r s w v e =
      let h : 128 + a ≡ 128 + b = cc in
      let k : a ≡ b = omega arith in
      (ap var k, cc)
  unique n tab (var a) (node g us) r s w v e = absurd (let h : 128 + a ≡ g = cc in omega (arith, v.0))
  unique n tab (node f ts) (var b) r s w v e = absurd (let h : f ≡ 128 + b = cc in omega (arith, w.0))
  unique n tab (node f ts) (node g us) r s w v e =
      let h : f ≡ g = cc in
      let d : terms_bytes ts ++ r ≡ terms_bytes us ++ s = cc in
      let c : count ts ≡ count us = w.1 ∙ ap (arity tab) h ∙ sym v.1 in
      let i = unique_all n tab ts us r s w.2 v.2 c d in
      (ap₂ node h i.0, i.1)

  pub unique_all : (n : ℕ) (tab : List ℕ) (ts us : Terms) (r s : List ℕ) → Wfs n tab ts → Wfs n tab us → count ts ≡ count us →
      terms_bytes ts ++ r ≡ terms_bytes us ++ s → (ts ≡ us) × (r ≡ s)
  unique_all n tab nil nil r s w v c e = (refl, e)
  unique_all n tab nil (cons u us) r s w v c e = absurd (omega arith)
  unique_all n tab (cons t ts) nil r s w v c e = absurd (omega arith)
  unique_all n tab (cons t ts) (cons u us) r s w v c e =
      let d : term_bytes t ++ (terms_bytes ts ++ r) ≡ term_bytes u ++ (terms_bytes us ++ s) =
      sym (append_assoc (term_bytes t) (terms_bytes ts) r) ∙ e ∙ append_assoc (term_bytes u) (terms_bytes us) s in
      let i = unique n tab t u (terms_bytes ts ++ r) (terms_bytes us ++ s) w.0 v.0 d in
      let j = unique_all n tab ts us r s w.1 v.1 (omega arith) i.1 in
      (ap₂ cons i.0 j.0, j.1)

-- Subterms are well-formed.
wf_inherits : (n : ℕ) (tab : List ℕ) → Inherits (Wf n tab) (Wfs n tab)
unfolding Wf
wf_inherits n tab = record { arguments = λ f ts w. w.2; head = λ t ts w. w.0; tail = λ t ts w. w.1 }

pub wf_subterm : (n : ℕ) (tab : List ℕ) (t : Term) (p : ℕ) (u : Term) → Wf n tab t → subterm_at t p ≡ some u → Wf n tab u
wf_subterm n tab t p u w e = subterm_inherits (wf_inherits n tab) t p u e w

pub wf_subterm_in : (n : ℕ) (tab : List ℕ) (ts : Terms) (p : ℕ) (u : Term) → Wfs n tab ts → subterm_in ts p ≡ some u → Wf n tab u
wf_subterm_in n tab ts p u w e = subterm_in_inherits (wf_inherits n tab) ts p u e w

-- Their symbols are below 16, and other bounds of the variables are enough.
mutual
  unfolding Wf Made

  pub wf_made : (n : ℕ) (tab : List ℕ) (t : Term) → Wf n tab t → Made (λ f. f < 16) (λ x. x < n) t
  wf_made n tab (var x) w = w
  wf_made n tab (node f ts) w = (w.0, wfs_made n tab ts w.2)

  pub wfs_made : (n : ℕ) (tab : List ℕ) (ts : Terms) → Wfs n tab ts → MadeAll (λ f. f < 16) (λ x. x < n) ts
  wfs_made n tab nil w = tt
  wfs_made n tab (cons t ts) w = (wf_made n tab t w.0, wfs_made n tab ts w.1)

module _ (S : ℕ → Type 0) where
  mutual
    unfolding Wf Made

    pub made_wf : (m n : ℕ) (tab : List ℕ) (t : Term) → Wf m tab t → Made S (λ x. x < n) t → Wf n tab t
    made_wf m n tab (var x) w h = h
    made_wf m n tab (node f ts) w h = (w.0, w.1, mades_wf m n tab ts w.2 h.1)

    pub mades_wf : (m n : ℕ) (tab : List ℕ) (ts : Terms) → Wfs m tab ts → MadeAll S (λ x. x < n) ts → Wfs n tab ts
    mades_wf m n tab nil w h = tt
    mades_wf m n tab (cons t ts) w h = (made_wf m n tab t w.0 h.0, mades_wf m n tab ts w.1 h.1)

pub wf_below : (n : ℕ) (tab : List ℕ) (t : Term) → Wf n tab t → VarsIn (λ x. x < n) t
wf_below n tab t w = made_vars (λ f. f < 16) (λ x. x < n) t (wf_made n tab t w)

pub wf_bytes : (n : ℕ) (tab : List ℕ) (t : Term) → Wf n tab t → Every (λ b. b < 128 + n) (term_bytes t)
wf_bytes n tab t w = made_bytes (λ f. f < 16) (λ x. x < n) (λ b. b < 128 + n) (λ f h. omega arith) (λ x h. omega arith) t (wf_made n tab t w)

-- Under a substitution that has well-formed terms for the variables, and with a well-formed term at a node.
module _ (m n : ℕ) (tab : List ℕ) (σ : Subst) where
  mutual
    unfolding Wf subst_term variables count

    pub wf_subst : (t : Term) → Wf m tab t → VarsIn (λ x. Wf n tab (σ x)) t → Wf n tab (subst_term σ t)
    wf_subst (var x) w h = h x (Memᴰ.head refl)
    wf_subst (node f ts) w h = (w.0, count_subst σ ts ∙ w.1, wfs_subst ts w.2 h)

    wfs_subst : (ts : Terms) → Wfs m tab ts → ((x : ℕ) → In x (variables_of ts) → Wf n tab (σ x)) → Wfs n tab (subst_terms σ ts)
    wfs_subst nil w h = tt
    wfs_subst (cons t ts) w h =
        (wf_subst t w.0 (λ x i. h x (Memᴰ.append_left (variables_of ts) i)), wfs_subst ts w.1 (λ x i. h x (Memᴰ.append_right (variables t) i)))

  pub wf_subst_below : ((x : ℕ) → x < m → Wf n tab (σ x)) → (t : Term) → Wf m tab t → Wf n tab (subst_term σ t)
  wf_subst_below h t w = wf_subst t w (λ x i. h x (wf_below m tab t w x i))

count_replace : (ts : Terms) (p : ℕ) (v : Term) → count (replace_in ts p v) ≡ count ts
unfolding count replace_in
count_replace nil p v = refl
count_replace (cons t ts) p v =
    either_has (λ us. count us ≡ suc (count ts)) (ltb p (size t)) (cons (replace_at t p v) ts) (cons t (replace_in ts (p - size t) v)) refl
    (ap suc (count_replace ts (p - size t) v))

mutual
  unfolding replace_at replace_in Wf Wfs

  pub wf_replace : (n : ℕ) (tab : List ℕ) (t : Term) → Wf n tab t → (p : ℕ) (v : Term) → Wf n tab v → Wf n tab (replace_at t p v)
  wf_replace n tab (var x) w zero v h = h
  wf_replace n tab (var x) w (suc p) v h = w
  wf_replace n tab (node f ts) w zero v h = h
  wf_replace n tab (node f ts) w (suc p) v h = (w.0, count_replace ts p v ∙ w.1, wfs_replace n tab ts w.2 p v h)

  wfs_replace : (n : ℕ) (tab : List ℕ) (ts : Terms) → Wfs n tab ts → (p : ℕ) (v : Term) → Wf n tab v → Wfs n tab (replace_in ts p v)
  wfs_replace n tab nil w p v h = tt
  wfs_replace n tab (cons t ts) w p v h =
      either_has (Wfs n tab) (ltb p (size t)) (cons (replace_at t p v) ts) (cons t (replace_in ts (p - size t) v))
      (wf_replace n tab t w.0 p v h, w.1) (w.0, wfs_replace n tab ts w.1 (p - size t) v h)
