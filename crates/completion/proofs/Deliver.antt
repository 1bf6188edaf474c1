-- The delivery theorem in the words of document 01, from what a convergent system gives among all trees. Assumes nothing.
-- Read first: specs/Decides, proofs/OverRules, proofs/Replacements.
use mathlib.Core.Path.{◌≡◌, sym, ◌∙◌, subst}
use mathlib.Core.List.{List}
use Prim.Native.Nat.{suc}
use Rattle.terms.specs.Term.{Term, Pair}
use Rattle.rewriting.specs.Overlap.{Rule, sides_of}
use Rattle.rewriting.proofs.Relations.{Of, Star, Solves}
use Rattle.rewriting.proofs.Stepping.{StepBy}
use Rattle.problem.specs.Problem.{Symbol}
use Rattle.completion.specs.Delivery.{Ends, Last}
use Rattle.problem.specs.Over.{Over}
use Rattle.completion.specs.Decides.{Decides}
use Rattle.completion.proofs.Words.{word_step, word_many, word_normal, normal_word}
use Rattle.completion.proofs.Over.{OverEquations}
use Rattle.completion.proofs.OverRules.{OverRules, of_brings, raw_stays, star_stays, star_word}
use Rattle.completion.proofs.Replacements.{replacement_over, conv_is_many}

module _ (Σ : List Symbol) (es : List Pair) (rules : List Rule) (given : OverEquations Σ es) (good : OverRules Σ rules)
    (solves : Solves (Of es) (Of (sides_of rules))) where
  -- the last term in the words is the last term
  last_is : (s t : Term) → Over Σ s → Last Σ rules s t → t ≡ solves.final s
  unfolding Last
  last_is s t o h =
      let m : Star (StepBy rules) s t = word_many Σ rules h.0 in
      solves.only s t m (normal_word Σ rules (of_brings Σ rules good) t (star_stays Σ rules good m o) h.1)

  pub decides : Decides Σ es rules
  unfolding Ends Last
  decides =
      record {
        ends = λ s o w. solves.never_forever s (λ n. word_step Σ rules (s n) (s (suc n)) (w n));
        has_last = λ s o. (
          solves.final s,
          star_stays Σ rules good (solves.reached s) o,
          (star_word Σ rules good (solves.reached s) o, word_normal Σ rules (solves.final s) (solves.stuck s)),
        );
        one_last = λ s t u o h k. last_is s t o h ∙ sym (last_is s u o k);
        always = λ s t u o m h.
            let n : Star (StepBy rules) s t = word_many Σ rules m in
            star_word Σ rules good (subst (λ z. Star (StepBy rules) t z) (sym (last_is s u o h)) (solves.always s t n)) (star_stays Σ rules good n o);
        same_last = λ s t u v o q h k.
            let e : u ≡ solves.final s = last_is s u o h in
            let d : v ≡ solves.final t = last_is t v q k in
            let c = conv_is_many Σ es given s t o q in
            (λ p. c.0 ((solves.same_final s t).0 (sym e ∙ p ∙ d)), λ m. e ∙ (solves.same_final s t).1 (c.1 m) ∙ sym d);
        step_stays = λ s t o w. raw_stays Σ rules good s t o (word_step Σ rules s t w);
        replacement_stays = replacement_over Σ es given;
      }
