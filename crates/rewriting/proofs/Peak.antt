-- Two steps from one term: where the second falls in the left side of the rule of the first, and local confluence where the proper overlaps are
-- joinable. Assumes nothing.
-- Read first: proofs/Steps.
use mathlib.Core.Path.{◌≡◌, refl, sym, ◌∙◌, ap, ap₂, subst}
use Prim.Native.Nat.{ℕ}
use native.Mathlib.Decide.{ℕ_discrete}
use native.Mathlib.Omega.{arith}
use Rattle.terms.specs.Term.{Term, Terms, var, node, nil, cons, subst_term, subst_terms}
use Rattle.terms.proofs.Subst.{Subst}
use Rattle.terms.proofs.Context.{Ctx, Ctxs, hole, beneath, first, later, plug, plugs, subst_context, subst_contexts}
use Rattle.rewriting.proofs.Relations.{Star, stop, Join, LocallyConfluent, Rules, Step, Steps, root, inside, here, there}
use Rattle.rewriting.proofs.Abstract.{append, one, star_eq, join_swap, join_map}
use Rattle.rewriting.proofs.Steps.{stars_subst, stars_plug}

-- A step from `subst_term σ t` to `v`, seen from `t`: it is below a variable of `t`, or at a place of `t` that is no variable.
pub data Fall (R : Term → Term → Type 0) (σ : ℕ → Term) : Term → Term → Type 0 where
  at_var : {t v : Term} (c : Ctx) (x : ℕ) (w : Term) → t ≡ plug c (var x) → Step R (σ x) w → v ≡ plug (subst_context σ c) w → Fall R σ t v
  at_node : {t v l r : Term} (c : Ctx) (f : ℕ) (ts : Terms) → t ≡ plug c (node f ts) → R l r → (τ : ℕ → Term) → subst_term σ (node f ts) ≡ subst_term τ l →
      v ≡ plug (subst_context σ c) (subst_term τ r) → Fall R σ t v

-- The same for a list of arguments.
pub data Falls (R : Term → Term → Type 0) (σ : ℕ → Term) : Terms → Terms → Type 0 where
  at_vars : {t v : Terms} (c : Ctxs) (x : ℕ) (w : Term) → t ≡ plugs c (var x) → Step R (σ x) w → v ≡ plugs (subst_contexts σ c) w → Falls R σ t v
  at_nodes : {t v : Terms} {l r : Term} (c : Ctxs) (f : ℕ) (ts : Terms) → t ≡ plugs c (node f ts) → R l r → (τ : ℕ → Term) →
      subst_term σ (node f ts) ≡ subst_term τ l → v ≡ plugs (subst_contexts σ c) (subst_term τ r) → Falls R σ t v

module _ {R : Rules} {σ : Subst} where
  fall_node : {ts vs : Terms} (f : ℕ) → Falls R σ ts vs → Fall R σ (node f ts) (node f vs)
  unfolding plug plugs subst_context subst_contexts
  fall_node f (at_vars c x w e s d) = at_var (beneath f c) x w (ap (node f) e) s (ap (node f) d)
  fall_node f (at_nodes c g us e ρ τ q d) = at_node (beneath f c) g us (ap (node f) e) ρ τ q (ap (node f) d)

  fall_first : {t v : Term} (ts us : Terms) → us ≡ subst_terms σ ts → Fall R σ t v → Falls R σ (cons t ts) (cons v us)
  unfolding plug plugs subst_context subst_contexts
  fall_first ts us i (at_var c x w e s d) = at_vars (first c ts) x w (ap (λ z. cons z ts) e) s (ap₂ cons d i)
  fall_first ts us i (at_node c g ws e ρ τ q d) = at_nodes (first c ts) g ws (ap (λ z. cons z ts) e) ρ τ q (ap₂ cons d i)

  fall_later : {ts vs : Terms} (t u : Term) → u ≡ subst_term σ t → Falls R σ ts vs → Falls R σ (cons t ts) (cons u vs)
  unfolding plug plugs subst_context subst_contexts
  fall_later t u i (at_vars c x w e s d) = at_vars (later t c) x w (ap (cons t) e) s (ap₂ cons i d)
  fall_later t u i (at_nodes c g ws e ρ τ q d) = at_nodes (later t c) g ws (ap (cons t) e) ρ τ q (ap₂ cons i d)

  fall_root : {s v : Term} (f : ℕ) (ts : Terms) → s ≡ subst_term σ (node f ts) → Step R s v →
      ((us vs : Terms) → us ≡ subst_terms σ ts → Steps R us vs → Falls R σ ts vs) → Fall R σ (node f ts) v
  unfolding plug plugs subst_context subst_contexts subst_term subst_terms
  fall_root f ts i (root ρ τ e d) k = at_node hole f ts refl ρ τ (sym i ∙ e) d
  fall_root f ts i (inside {f = g} {ts = us} {us = vs} s) k =
      let p : g ≡ f = cc in
      subst (λ h. Fall R σ (node f ts) (node h vs)) (sym p) (fall_node f (k us vs (cc) s))

  fall_cons : {ss vs : Terms} (t : Term) (ts : Terms) → ss ≡ subst_terms σ (cons t ts) → Steps R ss vs →
      ((s v : Term) → s ≡ subst_term σ t → Step R s v → Fall R σ t v) → ((us vs : Terms) → us ≡ subst_terms σ ts → Steps R us vs → Falls R σ ts vs) →
      Falls R σ (cons t ts) vs
  unfolding subst_term subst_terms
  fall_cons t ts i (here {t = s} {u = v} {ts = us} x) h k = fall_first ts us (cc) (h s v (cc) x)
  fall_cons t ts i (there {t = s} {ts = us} {us = ws} x) h k = fall_later t s (cc) (k us ws (cc) x)

  fall_nil : {ss vs : Terms} → ss ≡ nil → Steps R ss vs → Falls R σ nil vs
  fall_nil i (here x) = let z : ◌≡◌ {A = ℕ} 0 1 = cc in absurd (omega arith)
  fall_nil i (there x) = let z : ◌≡◌ {A = ℕ} 0 1 = cc in absurd (omega arith)

  mutual
    unfolding subst_term subst_terms plug plugs subst_context subst_contexts

    pub fall : (t s v : Term) → s ≡ subst_term σ t → Step R s v → Fall R σ t v
    fall (var x) s v i p = at_var hole x v refl (subst (λ z. Step R z v) i p) refl
    fall (node f ts) s v i p = fall_root f ts i p (λ us vs j q. falls ts us vs j q)

    pub falls : (ts ss vs : Terms) → ss ≡ subst_terms σ ts → Steps R ss vs → Falls R σ ts vs
    falls nil ss vs i p = fall_nil i p
    falls (cons t ts) ss vs i p = fall_cons t ts i p (λ a b j q. fall t a b j q) (λ us ws j q. falls ts us ws j q)

-- `σ` with the term `w` at the variable `x`.
unfoldable put_at : (σ : Subst) (x : ℕ) (w : Term) (y : ℕ) → Dec (y ≡ x) → Term
put_at σ x w y (yes e) = w
put_at σ x w y (no n) = σ y

abbrev put : Subst → ℕ → Term → Subst
put σ x w y = put_at σ x w y (ℕ_discrete y x)

put_same : (σ : Subst) (x : ℕ) (w : Term) (d : Dec (x ≡ x)) → put_at σ x w x d ≡ w
unfolding put_at
put_same σ x w (yes e) = refl
put_same σ x w (no n) = absurd (n refl)

module _ {R : Rules} where
  put_star : (σ : Subst) (x : ℕ) (w : Term) → Step R (σ x) w → (y : ℕ) (d : Dec (y ≡ x)) → Star (Step R) (σ y) (put_at σ x w y d)
  unfolding put_at
  put_star σ x w s y (yes e) = one (subst (λ z. Step R (σ z) w) (sym e) s)
  put_star σ x w s y (no n) = stop

-- Each peak at a proper overlap is joinable: an instance `subst_term τ l` of the inner rule's left side stands at a place of the outer rule's left side
-- that is no variable.
abbrev pub PeaksJoin : Rules → Type 0
PeaksJoin R =
    (l r l' r' : Term) → R l r → R l' r' → (c : Ctx) (f : ℕ) (ts : Terms) → l' ≡ plug c (node f ts) → (τ σ : Subst) → subst_term σ
    (node f ts) ≡ subst_term τ l →
    Join (Step R) (plug (subst_context σ c) (subst_term τ r)) (subst_term σ r')

module _ {R : Rules} (peaks : PeaksJoin R) where
  -- A step at the root by the rule `l` to `r`, and any other step.
  peak_fall : {l r v : Term} → R l r → (σ : Subst) → Fall R σ l v → Join (Step R) v (subst_term σ r)
  unfolding subst_term
  peak_fall {r = r} ρ σ (at_var c x w e s d) =
      let σ' : Subst = put σ x w in
      let h : (y : ℕ) → Star (Step R) (σ y) (σ' y) = λ y. put_star σ x w s y (ℕ_discrete y x) in
      let w_is : σ' x ≡ w = put_same σ x w (ℕ_discrete x x) in
      let a : Star (Step R) (plug (subst_context σ c) (σ' x)) (subst_term σ' (plug c (var x))) = stars_plug σ σ' h c (var x) in
      let last : Step R (subst_term σ' (plug c (var x))) (subst_term σ' r) = root ρ σ' (ap (subst_term σ') (sym e)) refl in
      record {
        at = subst_term σ' r;
        left = append (star_eq (d ∙ ap (plug (subst_context σ c)) (sym w_is))) (append a (one last));
        right = stars_subst σ σ' h r;
      }
  peak_fall {r = r} ρ σ (at_node c f ts e ρ' τ q d) = subst (λ z. Join (Step R) z (subst_term σ r)) (sym d) (peaks _ _ _ _ ρ' ρ c f ts e τ σ q)

  peak : {t u v l r : Term} → R l r → (σ : Subst) → t ≡ subst_term σ l → u ≡ subst_term σ r → Step R t v → Join (Step R) v u
  peak {t} {u} {v} {l} {r} ρ σ e d s = subst (λ z. Join (Step R) v z) (sym d) (peak_fall ρ σ (fall l t v e s))

  join_node : {ts us : Terms} (f : ℕ) → Join (Steps R) ts us → Join (Step R) (node f ts) (node f us)
  join_node f = join_map (node f) (λ t u. inside)

  join_head : {t u : Term} (ts : Terms) → Join (Step R) t u → Join (Steps R) (cons t ts) (cons u ts)
  join_head ts = join_map (λ t. cons t ts) (λ t u. here)

  join_tail : {ts us : Terms} (t : Term) → Join (Steps R) ts us → Join (Steps R) (cons t ts) (cons t us)
  join_tail t = join_map (cons t) (λ ts us. there)

  mutual
    two : {t u v : Term} → Step R t u → Step R t v → Join (Step R) u v
    two (root ρ σ e d) s = join_swap (peak ρ σ e d s)
    two (inside {f = f} p) (root ρ σ e d) = peak ρ σ e d (inside p)
    two (inside {f = f} p) (inside q) = join_node f (twos p q)

    twos : {t u v : Terms} → Steps R t u → Steps R t v → Join (Steps R) u v
    twos (here {ts = ts} p) (here q) = join_head ts (two p q)
    twos (here {u = u} p) (there {us = us} q) = record { at = cons u us; left = one (there q); right = one (here p) }
    twos (there {us = us} p) (here {u = u} q) = record { at = cons u us; left = one (here q); right = one (there p) }
    twos (there {t = t} p) (there q) = join_tail t (twos p q)

  -- Local confluence, where each peak at a proper overlap is joinable.
  pub peaks_local : LocallyConfluent (Step R)
  peaks_local a b c s q = two s q
