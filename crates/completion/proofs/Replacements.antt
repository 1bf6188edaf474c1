-- Replacement of equals by equals among the terms over the symbols, and conversion among all trees: between terms over the symbols they are the same.
-- Assumes nothing.
-- Read first: specs/Delivery, proofs/Patch, proofs/Words.
use mathlib.Core.Path.{◌≡◌, refl, sym, ◌∙◌, ap, subst, subst₂}
use mathlib.Core.Logic.{inl, inr, ⊎_elim, ◌↔◌}
use mathlib.Core.List.{List}
use Rattle.terms.specs.Term.{Term, Pair, subst_term}
use Rattle.terms.proofs.Subst.{Subst}
use Rattle.terms.proofs.Context.{plug}
use Rattle.terms.proofs.Every.{every_in}
use Rattle.terms.proofs.Positions.{Found, found}
use Rattle.rewriting.proofs.Relations
use Rattle.rewriting.proofs.Relations.{Of, Conv, ahead, back}
use Rattle.rewriting.proofs.Abstract.{chain}
use Rattle.rewriting.proofs.Order.{StepAt, step_at}
use Rattle.problem.specs.Problem.{Symbol}
use Rattle.completion.specs.Delivery.{Instance, Replacement, Many, stay, go}
use Rattle.problem.specs.Over.{Over}
use Rattle.completion.proofs.Words.{plug_node, word_replacement}
use Rattle.completion.proofs.Over.{OverEquations, over_subst, over_refill}
use Rattle.completion.proofs.Patch.{patch, patch_over, patch_same, patch_subst, PatchedAt, kept, lost, patched_at}

pub many_append : {R : Term → Term → Type 0} {s t u : Term} → Many R s t → Many R t u → Many R s u
many_append stay n = n
many_append (go x m) n = go x (many_append m n)

module _ (Σ : List Symbol) (es : List Pair) where
  -- Replacements either way make a conversion.
  pub many_conv : {s t : Term} → Many (Replacement Σ es) s t → Conv (Relations.Step (Of es)) s t
  many_conv stay = Relations.same
  many_conv (go w m) = chain (word_replacement Σ es _ _ w) (many_conv m)

  module _ (given : OverEquations Σ es) where
    -- A replacement leads from a term over the symbols to another.
    pub replacement_over : (s t : Term) → Over Σ s → Replacement Σ es s t → Over Σ t
    replacement_over s t o w =
        let f : Found s w.at_node.position w.one = found s w.at_node.position w.one w.at_node.there in
        let g : Over Σ w.equation.left × Over Σ w.equation.right = every_in given w.is_equation in
        let other : Over Σ w.other =
        ⊎_elim
        (λ (i : Instance Σ w.equation w.one w.other). subst (Over Σ) (sym i.right_is)
        (over_subst Σ i.substitution _ (λ x _. i.over x) g.1))
        (λ (i : Instance Σ w.equation w.other w.one). subst (Over Σ) (sym i.left_is)
        (over_subst Σ i.substitution _ (λ x _. i.over x) g.0))
        w.instance in
        subst (Over Σ) (sym (w.at_node.replaced ∙ f.replaced w.other)) (over_refill Σ f.c w.one w.other (subst (Over Σ) f.whole o) other)

    -- A raw step, patched, is a replacement or no move, there and back.
    patch_step : (s t : Term) → Relations.Step (Of es) s t →
        Many (Replacement Σ es) (patch Σ s) (patch Σ t) × Many (Replacement Σ es) (patch Σ t) (patch Σ s)
    patch_step s t w = here (patched_at Σ p.c)
      where
        p : StepAt (Of es) s t
        p = step_at w

        equation : Pair
        equation = record { left = p.l; right = p.r }

        g : Over Σ p.l × Over Σ p.r
        g = every_in given p.rule

        τ : Subst
        τ x = patch Σ (p.σ x)

        one : Term
        one = subst_term τ p.l

        other : Term
        other = subst_term τ p.r

        instance : Instance Σ equation one other
        instance = record { substitution = τ; over = λ x. patch_over Σ (p.σ x); left_is = refl; right_is = refl }

        left_is : patch Σ (subst_term p.σ p.l) ≡ one
        left_is = patch_subst Σ p.σ p.l g.0

        right_is : patch Σ (subst_term p.σ p.r) ≡ other
        right_is = patch_subst Σ p.σ p.r g.1

        here : PatchedAt Σ p.c → Many (Replacement Σ es) (patch Σ s) (patch Σ t) × Many (Replacement Σ es) (patch Σ t) (patch Σ s)
        here (kept d h) =
            let s_is : patch Σ s ≡ plug d one = ap (patch Σ) p.before ∙ h _ ∙ ap (plug d) left_is in
            let t_is : patch Σ t ≡ plug d other = ap (patch Σ) p.after ∙ h _ ∙ ap (plug d) right_is in (
              go
                  (record {
                    equation = equation;
                    is_equation = p.rule;
                    one = one;
                    other = other;
                    instance = inl instance;
                    at_node = plug_node d one other _ _ s_is t_is;
                  })
                  stay,
              go
                  (record {
                    equation = equation;
                    is_equation = p.rule;
                    one = other;
                    other = one;
                    instance = inr instance;
                    at_node = plug_node d other one _ _ t_is s_is;
                  })
                  stay,
            )
        here (lost h) =
            let e : patch Σ s ≡ patch Σ t = ap (patch Σ) p.before ∙ h _ _ ∙ sym (ap (patch Σ) p.after) in
            (subst (λ z. Many (Replacement Σ es) (patch Σ s) z) e stay, subst (λ z. Many (Replacement Σ es) z (patch Σ s)) e stay)

    patch_conv : {s t : Term} → Conv (Relations.Step (Of es)) s t → Many (Replacement Σ es) (patch Σ s) (patch Σ t)
    patch_conv Relations.same = stay
    patch_conv (ahead w c) = many_append (patch_step _ _ w).0 (patch_conv c)
    patch_conv (back w c) = many_append (patch_step _ _ w).1 (patch_conv c)

    -- Between terms over the symbols a conversion makes replacements.
    pub conv_many : (s t : Term) → Over Σ s → Over Σ t → Conv (Relations.Step (Of es)) s t → Many (Replacement Σ es) s t
    conv_many s t o q c = subst₂ (Many (Replacement Σ es)) (patch_same Σ s o) (patch_same Σ t q) (patch_conv c)

    pub conv_is_many : (s t : Term) → Over Σ s → Over Σ t → Conv (Relations.Step (Of es)) s t ↔ Many (Replacement Σ es) s t
    conv_is_many s t o q = (conv_many s t o q, many_conv)
