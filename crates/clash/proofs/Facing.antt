-- The walk of `clash`: whatever makes the two terms one makes the terms one that are still to be compared; and a lemma for each return of `past`.
-- Assumes nothing.
-- Read first: specs/Clashing, terms/proofs/Several (join).
use mathlib.Core.Path.{◌≡◌, refl, sym, ap, ap₂, subst, ◌∙◌}
use mathlib.Core.Bool.{Bool, true, false, false≢true}
use mathlib.Core.List.{List, ◌∷◌, ◌++◌, append_assoc, append-nil, cons≢nil}
use Prim.Native.Nat.{ℕ, suc, ◌+◌, ◌<◌}
use native.Mathlib.Omega.{arith}
use native.Mathlib.Numerals.{add-one}
use lib.Dec.{eqb}
use lib.ListN.{length, get_or, drop, length-drop}
use lib.Seq.{drop-cons, drop-drop, drop_at}
use Rattle.terms.specs.Term.{Term, var, node, Terms, nil, cons, size, term_bytes, terms_bytes, subst_term, subst_terms}
use Rattle.terms.specs.Scan.{skip}
use Rattle.terms.specs.Flat.{Wf, Wfs, Starts}
use Rattle.terms.proofs.Bytes.{length_bytes}
use Rattle.terms.proofs.Flats.{skip_term}
use Rattle.terms.proofs.Shape.{Says, eqb_says, cons_head, cons_tail, node_args, node_symbol, nil≢cons}
use Rattle.terms.proofs.Starts.{end_pos}
use Rattle.terms.proofs.Several.{join, join_bytes, join_wf}
use Rattle.clash.specs.Clashing.{Differ, Past, Clashing}

-- the terms that are still to be compared, from i of s and from j of t on, which σ and τ make one
pub record Left (tab s t : List ℕ) (i j : ℕ) (σ τ : ℕ → Term) : Type 0 where
  pub xs : Terms
  pub ys : Terms
  pub rest : List ℕ
  pub wfx : Wfs 32 tab xs
  pub wfy : Wfs 32 tab ys
  pub inner : drop i s ≡ terms_bytes xs
  pub outer : drop j t ≡ terms_bytes ys ++ rest
  pub one : subst_terms σ xs ≡ subst_terms τ ys

-- what the loop keeps
pub record Going (tab s t : List ℕ) (p i j : ℕ) : Type 0 where
  pub goes : (x y : Term) (σ τ : ℕ → Term) → Wf 32 tab x → s ≡ term_bytes x → Starts tab (drop p t) y → subst_term σ x ≡ subst_term τ y → Left tab s t i j σ τ

pub going_start : (tab s t : List ℕ) (p : ℕ) → Going tab s t p 0 p
unfolding Wfs terms_bytes subst_terms
going_start tab s t p = record {
  goes = λ x y σ τ w e g q. record {
    xs = cons x nil;
    ys = cons y nil;
    rest = g.rest;
    wfx = (w, tt);
    wfy = (g.wf, tt);
    inner = e ∙ sym (append-nil (term_bytes x));
    outer = g.bytes ∙ ap (λ z. z ++ g.rest) (sym (append-nil (term_bytes y)));
    one = ap (λ z. cons z nil) q;
  };
}

join_subst : (σ : ℕ → Term) (ts us : Terms) → subst_terms σ (join ts us) ≡ join (subst_terms σ ts) (subst_terms σ us)
unfolding join subst_terms
join_subst σ nil us = refl
join_subst σ (cons t ts) us = ap (cons (subst_term σ t)) (join_subst σ ts us)

module _ (tab s t : List ℕ) (i j : ℕ) (σ τ : ℕ → Term) (h : i < length s) (k : j < length t) where
  -- different symbols face each other
  clash_go : (xs ys : Terms) (rest : List ℕ) → get_or s i 0 ∷ drop (suc i) s ≡ terms_bytes xs → get_or t j 0 ∷ drop (suc j) t ≡ terms_bytes ys ++ rest →
      subst_terms σ xs ≡ subst_terms τ ys →
      Differ (get_or s i 0) (get_or t j 0) true → ⊥
  unfolding terms_bytes term_bytes subst_terms subst_term
  clash_go nil ys rest p q e d = cons≢nil p
  clash_go (cons x xs) nil rest p q e d = nil≢cons (sym e)
  clash_go (cons (var x) xs) (cons y ys) rest p q e d = let z : get_or s i 0 ≡ 128 + x = cc in omega (arith, d.0)
  clash_go (cons (node f ps) xs) (cons (var y) ys) rest p q e d = let z : get_or t j 0 ≡ 128 + y = cc in omega (arith, d.1)
  clash_go (cons (node f ps) xs) (cons (node g qs) ys) rest p q e d =
      let a : get_or s i 0 ≡ f = cc in
      let b : get_or t j 0 ≡ g = cc in
      d.2 (a ∙ node_symbol (cons_head e) ∙ sym b)

  left_clash : Left tab s t i j σ τ → Differ (get_or s i 0) (get_or t j 0) true → ⊥
  left_clash l d = clash_go l.xs l.ys l.rest (sym (drop-cons s i 0 h) ∙ l.inner) (sym (drop-cons t j 0 k) ∙ l.outer) l.one d

  -- the same byte on both sides
  same_go : (xs ys : Terms) (rest : List ℕ) → Wfs 32 tab xs → Wfs 32 tab ys → get_or s i 0 ∷ drop (suc i) s ≡ terms_bytes xs →
      get_or t j 0 ∷ drop (suc j) t ≡ terms_bytes ys ++ rest →
      subst_terms σ xs ≡ subst_terms τ ys → get_or s i 0 ≡ get_or t j 0 → Left tab s t (suc i) (suc j) σ τ
  unfolding terms_bytes term_bytes subst_terms subst_term Wfs Wf
  same_go nil ys rest w v p q e d = absurd (cons≢nil p)
  same_go (cons x xs) nil rest w v p q e d = absurd (nil≢cons (sym e))
  same_go (cons (var x) xs) (cons (var y) ys) rest w v p q e d =
      record { xs = xs; ys = ys; rest = rest; wfx = w.1; wfy = v.1; inner = cc; outer = cc; one = cons_tail e }
  same_go (cons (var x) xs) (cons (node g qs) ys) rest w v p q e d =
      let a : get_or s i 0 ≡ 128 + x = cc in
      let b : get_or t j 0 ≡ g = cc in
      absurd (omega (arith, v.0.0))
  same_go (cons (node f ps) xs) (cons (var y) ys) rest w v p q e d =
      let a : get_or s i 0 ≡ f = cc in
      let b : get_or t j 0 ≡ 128 + y = cc in
      absurd (omega (arith, w.0.0))
  same_go (cons (node f ps) xs) (cons (node g qs) ys) rest w v p q e d = record {
    xs = join ps xs;
    ys = join qs ys;
    rest = rest;
    wfx = join_wf 32 tab ps xs w.0.2 w.1;
    wfy = join_wf 32 tab qs ys v.0.2 v.1;
    inner = ap (drop 1) p ∙ sym (join_bytes ps xs);
    outer = ap (drop 1) q ∙ ap (λ z. z ++ rest) (sym (join_bytes qs ys));
    one = join_subst σ ps xs ∙ ap₂ join (node_args (cons_head e)) (cons_tail e) ∙ sym (join_subst τ qs ys);
  }

  -- the subterms on both sides are skipped
  other_go : (xs ys : Terms) (rest : List ℕ) → Wfs 32 tab xs → Wfs 32 tab ys → get_or s i 0 ∷ drop (suc i) s ≡ terms_bytes xs → drop i s ≡ terms_bytes xs →
      drop j t ≡ terms_bytes ys ++ rest →
      subst_terms σ xs ≡ subst_terms τ ys → Left tab s t (i + skip tab (drop i s) 1) (j + skip tab (drop j t) 1) σ τ
  unfolding terms_bytes subst_terms Wfs
  other_go nil ys rest w v p q r e = absurd (cons≢nil p)
  other_go (cons x xs) nil rest w v p q r e = absurd (nil≢cons (sym e))
  other_go (cons x xs) (cons y ys) rest w v p q r e =
      let r' : drop j t ≡ term_bytes y ++ (terms_bytes ys ++ rest) = r ∙ append_assoc (term_bytes y) (terms_bytes ys) rest in
      let a : skip tab (drop i s) 1 ≡ size x = ap (λ z. skip tab z 1) q ∙ skip_term 32 tab x w.0 (terms_bytes xs) in
      let b : skip tab (drop j t) 1 ≡ size y = ap (λ z. skip tab z 1) r' ∙ skip_term 32 tab y v.0 (terms_bytes ys ++ rest) in
      record {
        xs = xs;
        ys = ys;
        rest = rest;
        wfx = w.1;
        wfy = v.1;
        inner =
            ap (λ z. drop (i + z) s) a ∙ sym (drop-drop (size x) i s) ∙ ap (drop (size x)) q
            ∙ drop_at (term_bytes x) (terms_bytes xs) (size x) (length_bytes x);
        outer =
            ap (λ z. drop (j + z) t) b ∙ sym (drop-drop (size y) j t) ∙ ap (drop (size y)) r'
            ∙ drop_at (term_bytes y) (terms_bytes ys ++ rest) (size y) (length_bytes y);
        one = cons_tail e;
      }

  module _ (m n : ℕ) (g : Past tab s i (get_or t j 0) m) (f : Past tab t j (get_or s i 0) n) where
    left_by : (b : Bool) → Says (get_or s i 0 ≡ get_or t j 0) b → Left tab s t i j σ τ → Left tab s t m n σ τ
    left_by true d l =
        let a : m ≡ suc i = g.same d ∙ add-one i in
        let b : n ≡ suc j = f.same (sym d) ∙ add-one j in
        subst (λ z. Left tab s t z n σ τ) (sym a)
        (subst (λ z. Left tab s t (suc i) z σ τ) (sym b)
        (same_go l.xs l.ys l.rest l.wfx l.wfy (sym (drop-cons s i 0 h) ∙ l.inner) (sym (drop-cons t j 0 k) ∙ l.outer) l.one d))
    left_by false d l =
        subst (λ z. Left tab s t z n σ τ) (sym (g.other d))
        (subst (λ z. Left tab s t (i + skip tab (drop i s) 1) z σ τ) (sym (f.other (λ e. d (sym e))))
        (other_go l.xs l.ys l.rest l.wfx l.wfy (sym (drop-cons s i 0 h) ∙ l.inner) l.inner l.outer l.one))

    left_next : Left tab s t i j σ τ → Left tab s t m n σ τ
    left_next = left_by (eqb (get_or s i 0) (get_or t j 0)) (eqb_says (get_or s i 0) (get_or t j 0))

pub going_next : (tab s t : List ℕ) (p i j m n : ℕ) → Going tab s t p i j → i < length s → j < length t → Past tab s i (get_or t j 0) m →
    Past tab t j (get_or s i 0) n → Going tab s t p m n
going_next tab s t p i j m n o h k g f = record { goes = λ x y σ τ w e u q. left_next tab s t i j σ τ h k m n g f (o.goes x y σ τ w e u q) }

pub going_clash : (tab s t : List ℕ) (p i j : ℕ) (d : Bool) → Going tab s t p i j → i < length s → j < length t → Differ (get_or s i 0) (get_or t j 0) d →
    d ≡ true → Clashing tab s t p true
going_clash tab s t p i j d o h k g e = record {
  never = λ z x y w f u σ τ q. left_clash tab s t i j σ τ h k (o.goes x y σ τ w f u q) (subst (λ v. Differ (get_or s i 0) (get_or t j 0) v) e g);
}

pub no_clash : (tab s t : List ℕ) (p : ℕ) → Clashing tab s t p false
no_clash tab s t p = record { never = λ e. absurd (false≢true e) }

pub past_same : (tab t : List ℕ) (i b : ℕ) → get_or t i 0 ≡ b → Past tab t i b (i + 1)
past_same tab t i b e = record { same = λ _. refl; other = λ n. absurd (n e); on = omega arith }

pub past_other : (tab t : List ℕ) (i b r : ℕ) → i < length t → (get_or t i 0 ≡ b → ⊥) → r ≡ i + skip tab (drop i t) 1 → Past tab t i b r
past_other tab t i b r h n e = record {
  same = λ q. absurd (n q);
  other = λ _. e;
  on = omega (arith, e, end_pos tab (drop i t) (0 + skip tab (drop i t) 1) (λ z. omega (arith, length-drop i t)) refl);
}
