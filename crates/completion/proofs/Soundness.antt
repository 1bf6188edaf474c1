-- Transitions are sound: whatever is derived, equations and rules together convert what the first equations convert, and each rule's left side is
-- above its right. Assumes nothing.
-- Read first: specs/Transitions, rewriting/proofs/Sound.
use mathlib.Core.Path.{◌≡◌, refl, sym, ◌∙◌, subst, subst₂}
use mathlib.Core.Bool.{true}
use mathlib.Core.Logic.{◌⊎◌, inl, inr, ⊎_elim, ◌↔◌}
use mathlib.Core.List.Memᴰ
use mathlib.Core.List.{List, [], ◌∷◌}
use Prim.Native.Nat.{ℕ}
use Rattle.terms.specs.Term.{Term, Pair, subst_term}
use Rattle.terms.proofs.Positions.{Found, found}
use Rattle.order.specs.Order.{above}
use Rattle.order.proofs.Decide.{above_dec}
use Rattle.order.proofs.Closure.{above_subst}
use Rattle.rewriting.proofs.Relations.{Rules, Of, Step, Conv, same, ahead, back}
use Rattle.rewriting.proofs.Abstract.{one, chain, turn}
use Rattle.rewriting.proofs.Steps.{conv_subst}
use Rattle.rewriting.proofs.Converge.{conv_conv}
use Rattle.rewriting.proofs.Order.{StepAt, step_at, at_step}
use Rattle.rewriting.proofs.Sound.{Sound, sound_itself}
use Rattle.rewriting.proofs.Lower.{above_lower}
use Rattle.completion.specs.Transitions.{System, ◌⨾◌, pair, Rewrites, Variants, Same, reorder, turn_round, rename_equation, rename_rule}
use Rattle.completion.specs.Transitions.{unchanged, also, Transition, delete, compose, simplify, orient, collapse, deduce, Derives, Derivation}
use Rattle.completion.specs.Transitions.{written, by}
use Rattle.completion.proofs.Words.{plug_node}
use Rattle.completion.proofs.Reorders.{reordered_in, reordered_back}

-- A step of the definition is a step of the theory, and the other way round.
pub rewrites_step : (R : List Pair) (s t : Term) → Rewrites R s t → Step (Of R) s t
rewrites_step R s t w =
    let f : Found s w.at_node.position _ = found s w.at_node.position _ w.at_node.there in
    at_step
    (record {
      l = w.rule.left;
      r = w.rule.right;
      rule = w.is_rule;
      σ = w.substitution;
      c = f.c;
      before = f.whole;
      after = w.at_node.replaced ∙ f.replaced _;
    })

pub step_rewrites : (R : List Pair) (s t : Term) → Step (Of R) s t → Rewrites R s t
step_rewrites R s t w =
    let p : StepAt (Of R) s t = step_at w in
    record {
      rule = pair p.l p.r;
      is_rule = p.rule;
      substitution = p.σ;
      at_node = plug_node p.c (subst_term p.σ p.l) (subst_term p.σ p.r) s t p.before p.after;
    }

-- Equations and rules together.
abbrev pub Both : System → Rules
Both (E ⨾ R) l r = Of E l r ⊎ Of R l r

-- The other pairs are there as well.
module _ (X : Rules) where
  cons_sound : (x : Pair) (E : List Pair) → Conv (Step X) x.left x.right → Sound X (Of E) → Sound X (Of (x ∷ E))
  cons_sound x E c h l r i =
      ⊎_elim (λ e. subst (λ (p : Pair). Conv (Step X) p.left p.right) (sym e) c) (λ j. h l r j) (Memᴰ.cases_cons i)

  both_sound : (E R : List Pair) → Sound X (Of E) → Sound X (Of R) → Sound X (Both (E ⨾ R))
  both_sound E R h k l r i = ⊎_elim (λ j. h l r j) (λ j. k l r j) i

  -- a step by rules that are there
  rewritten : (R : List Pair) → Sound X (Of R) → (s t : Term) → Rewrites R s t → Conv (Step X) s t
  rewritten R h s t w = conv_conv h (ahead (rewrites_step R s t w) same)

  renamed_there : (d e : Pair) → Variants d e → Conv (Step X) d.left d.right → Conv (Step X) e.left e.right
  renamed_there d e v c = subst₂ (Conv (Step X)) (sym v.left_there) (sym v.right_there) (conv_subst v.there c)

module _ (E R : List Pair) where
  -- what is there is converted
  held : (l r : Term) → Both (E ⨾ R) l r → Conv (Step (Both (E ⨾ R))) l r
  held l r i = sound_itself (Both (E ⨾ R)) l r i

  equations_held : Sound (Both (E ⨾ R)) (Of E)
  equations_held l r i = held l r (inl i)

  rules_held : Sound (Both (E ⨾ R)) (Of R)
  rules_held l r i = held l r (inr i)

-- the same without the first equation, and without the first rule
module _ (x : Pair) (E R : List Pair) where
  equation_there : Conv (Step (Both (x ∷ E ⨾ R))) x.left x.right
  equation_there = held (x ∷ E) R _ _ (inl (Memᴰ.head refl))

  other_equations : Sound (Both (x ∷ E ⨾ R)) (Of E)
  other_equations l r i = held (x ∷ E) R l r (inl (Memᴰ.tail i))

  rule_there : Conv (Step (Both (E ⨾ x ∷ R))) x.left x.right
  rule_there = held E (x ∷ R) _ _ (inr (Memᴰ.head refl))

  other_rules : Sound (Both (E ⨾ x ∷ R)) (Of R)
  other_rules l r i = held E (x ∷ R) l r (inr (Memᴰ.tail i))

-- Written otherwise: what is there is converted by what was there, and the other way round.
pub same_forwards : {S T : System} → Same S T → Sound (Both S) (Both T)
same_forwards (reorder {E} {E'} {R} {R'} p q) =
    both_sound _ E' R' (λ l r i. equations_held E R l r (reordered_in (reordered_back p) i)) (λ l r i. rules_held E R l r (reordered_in (reordered_back q) i))
same_forwards (turn_round {E} {R} {s} {t}) =
    both_sound _ (pair t s ∷ E) R (cons_sound _ (pair t s) E (turn (equation_there (pair s t) E R)) (other_equations (pair s t) E R))
    (rules_held (pair s t ∷ E) R)
same_forwards (rename_equation {E} {R} {d} {e} v) =
    both_sound _ (e ∷ E) R (cons_sound _ e E (renamed_there _ d e v (equation_there d E R)) (other_equations d E R)) (rules_held (d ∷ E) R)
same_forwards (rename_rule {E} {R} {d} {e} v) =
    both_sound _ E (e ∷ R) (equations_held E (d ∷ R)) (cons_sound _ e R (renamed_there _ d e v (rule_there d E R)) (other_rules d E R))
same_forwards unchanged = sound_itself _
same_forwards (also p q) = λ l r i. conv_conv (same_forwards p) (same_forwards q l r i)

variants_back : {d e : Pair} → Variants d e → Variants e d
variants_back v = record {
  there = v.back;
  left_there = v.left_back;
  right_there = v.right_back;
  back = v.there;
  left_back = v.left_there;
  right_back = v.right_there;
}

same_back : {S T : System} → Same S T → Same T S
same_back (reorder p q) = reorder (reordered_back p) (reordered_back q)
same_back turn_round = turn_round
same_back (rename_equation v) = rename_equation (variants_back v)
same_back (rename_rule v) = rename_rule (variants_back v)
same_back unchanged = unchanged
same_back (also p q) = also (same_back q) (same_back p)

pub same_backwards : {S T : System} → Same S T → Sound (Both T) (Both S)
same_backwards p = same_forwards (same_back p)

module _ (rank : ℕ → ℕ) where
  -- Each rule's left side is above its right.
  abbrev pub Falls : List Pair → Type 0
  Falls R = (l r : Term) → Of R l r → above rank l r ≡ true

  abbrev pub RulesFall : System → Type 0
  RulesFall (E ⨾ R) = Falls R

  cons_falls : (x : Pair) (R : List Pair) → above rank x.left x.right ≡ true → Falls R → Falls (x ∷ R)
  cons_falls x R h k l r i = ⊎_elim (λ e. subst (λ (p : Pair). above rank p.left p.right ≡ true) (sym e) h) (λ j. k l r j) (Memᴰ.cases_cons i)

  first_falls : (x : Pair) (R : List Pair) → Falls (x ∷ R) → above rank x.left x.right ≡ true
  first_falls x R h = h x.left x.right (Memᴰ.head refl)

  other_falls : (x : Pair) (R : List Pair) → Falls (x ∷ R) → Falls R
  other_falls x R h l r i = h l r (Memᴰ.tail i)

  variant_falls : (d e : Pair) → Variants d e → above rank d.left d.right ≡ true → above rank e.left e.right ≡ true
  variant_falls d e v h =
      subst₂ (λ s t. above rank s t ≡ true) (sym v.left_there) (sym v.right_there)
      ((above_dec rank _ _).1 (above_subst rank v.there ((above_dec rank d.left d.right).0 h)))

  pub same_falls : {S T : System} → Same S T → RulesFall S → RulesFall T
  same_falls (reorder p q) h = λ l r i. h l r (reordered_in (reordered_back q) i)
  same_falls turn_round h = h
  same_falls (rename_equation v) h = h
  same_falls (rename_rule {R = R} {d} {e} v) h = cons_falls e R (variant_falls d e v (first_falls d R h)) (other_falls d R h)
  same_falls unchanged h = h
  same_falls (also p q) h = same_falls q (same_falls p h)

-- Transitions, whatever the condition of Collapse.
module _ (rank : ℕ → ℕ) {Beyond : Term → Term → Type 0} where
  -- What is held afterwards is converted by what was held before,
  pub forwards : {S T : System} → Transition rank Beyond S T → Sound (Both S) (Both T)
  forwards (delete {E} {R} {s}) = both_sound _ E R (other_equations (pair s s) E R) (rules_held (pair s s ∷ E) R)
  forwards (compose {E} {R} {s} {t} {u} w) =
      both_sound _ E (pair s u ∷ R) (equations_held E (pair s t ∷ R))
      (cons_sound _ (pair s u) R (chain (rule_there (pair s t) E R) (rewritten _ R (other_rules (pair s t) E R) t u w)) (other_rules (pair s t) E R))
  forwards (simplify {E} {R} {s} {t} {u} w) =
      both_sound _ (pair s u ∷ E) R
      (cons_sound _ (pair s u) E (chain (equation_there (pair s t) E R) (rewritten _ R (rules_held (pair s t ∷ E) R) t u w)) (other_equations (pair s t) E R))
      (rules_held (pair s t ∷ E) R)
  forwards (orient {E} {R} {s} {t} h) =
      both_sound _ E (pair s t ∷ R) (other_equations (pair s t) E R) (cons_sound _ (pair s t) R (equation_there (pair s t) E R) (rules_held (pair s t ∷ E) R))
  forwards (collapse {E} {R} {s} {t} {u} w c) =
      both_sound _ (pair u t ∷ E) R
      (cons_sound _ (pair u t) E (chain (turn (rewritten _ R (other_rules (pair s t) E R) s u w)) (rule_there (pair s t) E R))
      (equations_held E (pair s t ∷ R)))
      (other_rules (pair s t) E R)
  forwards (deduce {E} {R} {s} {t} {u} v w) =
      both_sound _ (pair s t ∷ E) R
      (cons_sound _ (pair s t) E (chain (turn (rewritten _ R (rules_held E R) u s v)) (rewritten _ R (rules_held E R) u t w)) (equations_held E R))
      (rules_held E R)

  -- and the other way round.
  pub backwards : {S T : System} → Transition rank Beyond S T → Sound (Both T) (Both S)
  backwards (delete {E} {R} {s}) = both_sound _ (pair s s ∷ E) R (cons_sound _ (pair s s) E same (equations_held E R)) (rules_held E R)
  backwards (compose {E} {R} {s} {t} {u} w) =
      both_sound _ E (pair s t ∷ R) (equations_held E (pair s u ∷ R))
      (cons_sound _ (pair s t) R (chain (rule_there (pair s u) E R) (turn (rewritten _ R (other_rules (pair s u) E R) t u w))) (other_rules (pair s u) E R))
  backwards (simplify {E} {R} {s} {t} {u} w) =
      both_sound _ (pair s t ∷ E) R
      (cons_sound _ (pair s t) E (chain (equation_there (pair s u) E R) (turn (rewritten _ R (rules_held (pair s u ∷ E) R) t u w)))
      (other_equations (pair s u) E R))
      (rules_held (pair s u ∷ E) R)
  backwards (orient {E} {R} {s} {t} h) =
      both_sound _ (pair s t ∷ E) R (cons_sound _ (pair s t) E (rule_there (pair s t) E R) (equations_held E (pair s t ∷ R))) (other_rules (pair s t) E R)
  backwards (collapse {E} {R} {s} {t} {u} w c) =
      both_sound _ E (pair s t ∷ R) (other_equations (pair u t) E R)
      (cons_sound _ (pair s t) R (chain (rewritten _ R (rules_held (pair u t ∷ E) R) s u w) (equation_there (pair u t) E R)) (rules_held (pair u t ∷ E) R))
  backwards (deduce {E} {R} {s} {t} {u} v w) = both_sound _ E R (other_equations (pair s t) E R) (rules_held (pair s t ∷ E) R)

  pub derives_forwards : {S T : System} → Derives rank Beyond S T → Sound (Both S) (Both T)
  derives_forwards d l r i = conv_conv (same_forwards d.is_before) (conv_conv (forwards d.transition) (same_forwards d.is_after l r i))

  pub derives_backwards : {S T : System} → Derives rank Beyond S T → Sound (Both T) (Both S)
  derives_backwards d l r i = conv_conv (same_backwards d.is_after) (conv_conv (backwards d.transition) (same_backwards d.is_before l r i))

  -- So a derivation changes no conversion.
  pub same_conversion : {S T : System} → Derivation rank Beyond S T → (s t : Term) → Conv (Step (Both S)) s t ↔ Conv (Step (Both T)) s t
  same_conversion (written p) s t = (λ c. conv_conv (same_backwards p) c, λ c. conv_conv (same_forwards p) c)
  same_conversion (by x d) s t =
      let h = same_conversion d s t in
      (λ c. h.0 (conv_conv (derives_backwards x) c), λ c. conv_conv (derives_forwards x) (h.1 c))

  pub transition_falls : {S T : System} → Transition rank Beyond S T → RulesFall rank S → RulesFall rank T
  transition_falls delete h = h
  transition_falls (compose {R = R} {s} {t} {u} w) h =
      let k : Falls rank R = other_falls rank (pair s t) R h in
      cons_falls rank (pair s u) R (above_lower rank (Of R) k s t u (one (rewrites_step R t u w)) (first_falls rank (pair s t) R h)) k
  transition_falls (simplify w) h = h
  transition_falls (orient {R = R} {s} {t} a) h = cons_falls rank (pair s t) R a h
  transition_falls (collapse {R = R} {s} {t} w c) h = other_falls rank (pair s t) R h
  transition_falls (deduce v w) h = h

  pub derivation_falls : {S T : System} → Derivation rank Beyond S T → RulesFall rank S → RulesFall rank T
  derivation_falls (written p) h = same_falls rank p h
  derivation_falls (by x d) h = derivation_falls d (same_falls rank x.is_after (transition_falls x.transition (same_falls rank x.is_before h)))

  -- What is derived from equations alone: equations and rules together convert what those equations convert, and every rule goes down.
  module _ {E : List Pair} {T : System} (d : Derivation rank Beyond (E ⨾ []) T) where
    pub derived_sound : (s t : Term) → Conv (Step (Of E)) s t ↔ Conv (Step (Both T)) s t
    derived_sound s t =
        let h = same_conversion d s t in (
          λ c. h.0 (conv_conv (λ l r i. sound_itself (Both (E ⨾ [])) l r (inl i)) c),
          λ c. conv_conv (λ l r i. sound_itself (Of E) l r (⊎_elim (λ j. j) (λ j. absurd (Memᴰ.not-nil j)) i)) (h.1 c),
        )

    pub derived_falls : RulesFall rank T
    derived_falls = derivation_falls d (λ l r i. absurd (Memᴰ.not-nil i))
