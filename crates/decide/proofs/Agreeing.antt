-- The two strategies agree: by the rules of a record that the engine wrote with end 0 a term has one last term, so both come to it if they come to one;
-- and the two calls give no two answers to one question. With that, all that both calls promise of an answer that is the definition's. Assumes nothing.
-- Read first: specs/Answers (Agrees), proofs/Right (word_last), proofs/Answering, completion/specs/Decides (one_last).
use mathlib.Core.Path.{◌≡◌, refl, sym, ap, subst}
use mathlib.Core.List.{List, [], ◌∷◌}
use mathlib.Core.Option.{Option}
use Prim.Native.Nat.{ℕ}
use Rattle.terms.specs.Base.{of_none, of_cons}
use Rattle.terms.specs.Term.{Term}
use Rattle.problem.specs.Problem.{Reading, ok, Symbol, rank_of, Theory}
use Rattle.problem.specs.Over.{Over}
use Rattle.rewriting.specs.Overlap.{Rule}
use Rattle.rewriting.specs.Rewrite.{complete, step, done, normalise}
use Rattle.rewriting.specs.Outermost.{step_outer, normalise_outer}
use Rattle.rewriting.proofs.Lasting.{Rewrites, inner_rewrites, outer_rewrites}
use Rattle.completion.specs.Turn.{Finished}
use Rattle.completion.specs.Keeps.{RulesKeep}
use Rattle.completion.specs.Decides.{Decides}
use Rattle.completion.specs.Promise.{Promise}
use Rattle.completion.proofs.OverRules.{OverRules, above_brings}
use Rattle.checkpoint.specs.Wrote.{EngineWrote}
use Rattle.checkpoint.proofs.Delivers.{engine_kept}
use Rattle.decide.specs.Decide.{numbered, Answer, are_same, are_different, Counted, question_call}
use Rattle.decide.specs.Answers.{without_units, AboutRules, WroteFor, AboutEquations, NotRefused, Compares, Agrees}
use Rattle.decide.proofs.Right.{word_last, reply, about_rules}
use Rattle.decide.proofs.Answering.{same_leads, different_leads, about_equations, not_refused}

-- rules that a run leaves
keep_over : (Σ : List Symbol) (before : ℕ) (rules : List Rule) → RulesKeep Σ before rules → OverRules Σ rules
unfolding RulesKeep
keep_over Σ before [] h = of_none
keep_over Σ before (r ∷ rules) h =
    of_cons
    (record {
      over = (h.0.sides.left_over, h.0.sides.right_over);
      brings = above_brings (rank_of Σ) r.sides.left r.sides.right h.0.down;
    })
    (keep_over Σ r.number rules h.1)

-- the last terms of a term
last_terms : (kept : List ℕ) (T : Theory) (f : Finished) → EngineWrote T f kept → f.end ≡ complete → (t u v : Term) (budget left budget' left' : ℕ) →
    Over T.symbols t → normalise f.state.rules t budget ≡ done u left → normalise_outer f.state.rules t budget' ≡ done v left' → u ≡ v
last_terms kept T f wrote e t u v budget left budget' left' o inner outer =
    let rules = f.state.rules in
    let P : Promise T f kept = (engine_kept wrote).promise in
    let D : Decides T.symbols T.equations f.state.rules = subst (Decides T.symbols T.equations) P.are_live (P.decide (P.exactly.1 e)) in
    let good : OverRules T.symbols f.state.rules = keep_over T.symbols 0 f.state.rules P.keeps.rules_keep in
    D.one_last t u v o
    (word_last T.symbols rules good (step rules) (inner_rewrites rules) t o u budget left inner)
    (word_last T.symbols rules good (step_outer rules) (outer_rewrites rules) t o v budget' left' outer)

-- the answers of two strategies
module _ (next other : List Rule → Term → Option Term) (R : (rules : List Rule) → Rewrites rules (next rules))
    (Q : (rules : List Rule) → Rewrites rules (other rules)) (problem kept : List ℕ) (w : WroteFor problem kept) where
  one_answer : (a b : Answer) → Compares a → Compares b → reply next problem kept ≡ ok a → reply other problem kept ≡ ok b → a ≡ b
  one_answer are_same (numbered _) x y e d = elim y [ ]
  one_answer are_different (numbered _) x y e d = elim y [ ]
  one_answer (numbered _) b x y e d = elim x [ ]
  one_answer are_same are_same x y e d = refl
  one_answer are_same are_different x y e d = absurd (different_leads problem kept w other Q d (same_leads problem kept w next R e))
  one_answer are_different are_same x y e d = absurd (different_leads problem kept w next R e (same_leads problem kept w other Q d))
  one_answer are_different are_different x y e d = refl

pub agrees : (problem kept : List ℕ) → Agrees problem kept
unfolding without_units
agrees problem kept =
    record {
      last_terms = last_terms kept;
      answers = λ w a b e d x y.
          one_answer step step_outer inner_rewrites outer_rewrites problem kept w a.answer b.answer x y (ap without_units e) (ap without_units d);
    }

-- What a call promises of an answer that is the definition's.
pub laws : (next : List Rule → Term → Option Term) → ((rules : List Rule) → Rewrites rules (next rules)) → (problem kept : List ℕ) (r : Reading Counted) →
    r ≡ question_call next problem kept →
    (r ≡ question_call next problem kept) × (AboutRules problem kept (without_units r) × (AboutEquations problem kept (without_units r)
    × (NotRefused problem kept (without_units r) × Agrees problem kept)))
laws next R problem kept r e =
    let i : reply next problem kept ≡ without_units r = ap without_units (sym e) in (
      e,
      (
        subst (AboutRules problem kept) i (about_rules next R problem kept),
        (
          subst (AboutEquations problem kept) i (about_equations next R problem kept),
          (subst (NotRefused problem kept) i (not_refused next R problem kept), agrees problem kept),
        ),
      ),
    )
