-- The bytes laid out are the four terms of an overlap: outer left, inner left renamed apart, outer left rewritten, outer right. Assumes nothing.
-- Read first: overlap_terms/specs/Layout (four_bytes), specs/Answer (four), slots/specs/Slots (Sides), rewriting/specs/Overlap (apart),
-- overlap_terms/proofs/Moving.
use mathlib.Core.Path.{◌≡◌, refl, sym, ap, ap₂, ◌∙◌}
use mathlib.Core.List.{List, [], ◌∷◌, ◌++◌, map, map-append, append_assoc, append-nil}
use mathlib.Core.Option.{some}
use Prim.Native.Nat.{ℕ, ◌+◌, ◌<◌}
use native.Mathlib.Omega.{arith}
use lib.ListN.{length, take, drop, length-append}
use lib.Seq.{take_at, drop_at}
use Rattle.terms.specs.Term.{Term, var, node, Terms, nil, cons, Pair, size, term_bytes, terms_bytes, subst_term, subst_terms, subterm_at, replace_at}
use Rattle.terms.specs.Scan.{skip}
use Rattle.terms.specs.Flat.{Wf, Wfs}
use Rattle.terms.proofs.Bytes.{length_bytes, around}
use Rattle.terms.proofs.Flats.{widen, skip_term, wf_subterm, wf_subst_below, wf_replace}
use Rattle.rewriting.specs.Overlap.{apart}
use Rattle.overlap_terms.specs.Layout.{moved, four_bytes}
use Rattle.slots.specs.Slots.{Sides}
use Rattle.overlaps.specs.Answer.{four}
use Rattle.overlap_terms.proofs.Moving.{moved_symbol, moved_variable}

-- variables moved up by 16
mutual
  unfolding term_bytes terms_bytes subst_term subst_terms Wf Wfs

  moved_term : (tab : List ℕ) (t : Term) → Wf 16 tab t → map (moved 16) (term_bytes t) ≡ term_bytes (subst_term (λ x. var (16 + x)) t)
  moved_term tab (var x) w = ap (λ z. z ∷ []) (sym (moved_variable 16 (128 + x) (omega arith) (omega arith)) ∙ omega arith)
  moved_term tab (node f ts) w = ap₂ ◌∷◌ (sym (moved_symbol 16 f (omega (arith, w.0)))) (moved_terms tab ts w.2)

  moved_terms : (tab : List ℕ) (ts : Terms) → Wfs 16 tab ts → map (moved 16) (terms_bytes ts) ≡ terms_bytes (subst_terms (λ x. var (16 + x)) ts)
  moved_terms tab nil w = refl
  moved_terms tab (cons t ts) w = map-append (moved 16) (term_bytes t) (terms_bytes ts) ∙ ap₂ ◌++◌ (moved_term tab t w.0) (moved_terms tab ts w.1)

moved_apart : (tab : List ℕ) (t : Term) → Wf 16 tab t → map (moved 16) (term_bytes t) ≡ term_bytes (apart t)
unfolding apart
moved_apart tab t w = moved_term tab t w

apart_wf : (tab : List ℕ) (t : Term) → Wf 16 tab t → Wf 32 tab (apart t)
unfolding apart Wf
apart_wf tab t w = wf_subst_below 16 32 tab (λ x. var (16 + x)) (λ x h. let k : 16 + x < 32 = omega arith in k) t w

-- the four terms
abbrev pub the_four : Pair → Pair → ℕ → Terms
the_four i o p = four o.left (apart i.left) (replace_at o.left p (apart i.right)) o.right

module _ (tab l₁ r₁ l₂ r₂ : List ℕ) (i o : Pair) (s : Sides 16 tab l₁ r₁ i) (t : Sides 16 tab l₂ r₂ o) (p : ℕ) where
  pub four_wf : Wfs 32 tab (the_four i o p)
  unfolding Wfs
  four_wf =
      let x = widen 16 32 tab o.left (omega arith) t.left_wf in
      let y = wf_replace 32 tab o.left x p (apart i.right) (apart_wf tab i.right s.right_wf) in
      (x, (apart_wf tab i.left s.left_wf, (y, (widen 16 32 tab o.right (omega arith) t.right_wf, tt))))

  -- where the subterm at p ends
  abbrev end : ℕ
  end = p + skip tab (drop p l₂) 1

  replaced_bytes : (u : Term) → subterm_at o.left p ≡ some u → (v : Term) →
      take p l₂ ++ (term_bytes v ++ drop end l₂) ≡ term_bytes (replace_at o.left p v)
  replaced_bytes u e v =
      let a = around o.left p u e in
      let y : List ℕ = term_bytes u ++ a.after in
      let h : l₂ ≡ a.before ++ y = t.left_bytes ∙ a.holds in
      let d : drop p l₂ ≡ y = ap (drop p) h ∙ drop_at a.before y p a.begins in
      let n : skip tab (drop p l₂) 1 ≡ size u =
      ap (λ z. skip tab z 1) d ∙ skip_term 16 tab u (wf_subterm 16 tab o.left p u t.left_wf e) a.after in
      let k : length (a.before ++ term_bytes u) ≡ end = length-append a.before (term_bytes u) ∙ omega (arith, a.begins, n, length_bytes u) in
      let c : drop end l₂ ≡ a.after =
      ap (drop end) (h ∙ sym (append_assoc a.before (term_bytes u) a.after)) ∙ drop_at (a.before ++ term_bytes u) a.after end k in
      ap₂ (λ x z. x ++ (term_bytes v ++ z)) (ap (take p) h ∙ take_at a.before y p a.begins) c ∙ sym (a.replaced v)

  pub four_terms : (u : Term) → subterm_at o.left p ≡ some u → four_bytes tab l₁ r₁ l₂ r₂ p ≡ terms_bytes (the_four i o p)
  unfolding four_bytes terms_bytes
  four_terms u e =
      let x : map (moved 16) l₁ ≡ term_bytes (apart i.left) = ap (map (moved 16)) s.left_bytes ∙ moved_apart tab i.left s.left_wf in
      let y : map (moved 16) r₁ ≡ term_bytes (apart i.right) = ap (map (moved 16)) s.right_bytes ∙ moved_apart tab i.right s.right_wf in
      let z = ap (λ k. take p l₂ ++ (k ++ drop end l₂)) y ∙ replaced_bytes u e (apart i.right) in
      ap₂ ◌++◌ t.left_bytes (ap₂ ◌++◌ x (ap₂ ◌++◌ z (t.right_bytes ∙ sym (append-nil (term_bytes o.right)))))
