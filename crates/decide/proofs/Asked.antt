-- A question that was read, whoever wrote the record: its terms and rules are over the symbols, each rule's left side is above its right, and the
-- promise of complete reads the end 0 and the same rules in the record's bytes. Assumes nothing.
-- Read first: specs/Decide, record/proofs/Agrees.
use mathlib.Core.Path.{◌≡◌, refl, ap, subst, ◌∙◌}
use mathlib.Core.Bool.{false}
use mathlib.Core.List.{List, [], ◌∷◌}
use mathlib.Core.Option.{some}
use Prim.Native.Nat.{ℕ}
use borrow.Author.Tests.{eqb-true, not-false}
use Rattle.limits.specs.Limits.{most_number}
use Rattle.terms.specs.Base.{Field, Every, of_none, of_cons}
use Rattle.terms.proofs.Every.{every_mapped}
use Rattle.reading.specs.Stops.{not_complete, not_above}
use Rattle.problem.specs.Problem.{ok, Symbol, rank_of}
use Rattle.problem.proofs.Reading.{from_bind, ok_injective, passed}
use Rattle.completion.specs.Calls.{Single, parse_single}
use Rattle.completion.specs.Promise.{fields_of, end_in, rules_in}
use Rattle.completion.proofs.Accepts.{SingleFits, single_fits}
use Rattle.completion.proofs.Over.{OverPair}
use Rattle.completion.proofs.OverRules.{above_brings, OverRule, OverRules}
use Rattle.items.specs.Fields.{RuleAt}
use Rattle.items.proofs.Parts.{RuleRead}
use Rattle.record.proofs.Agrees.{Agrees, agrees}
use Rattle.decide.specs.Decide.{all_above, Question, read_question}

pub record Asked (problem kept : List ℕ) (q : Question) : Type 0 where
  pub single : Single
  pub is_single : parse_single problem ≡ ok single
  pub symbols_are : q.symbols ≡ single.symbols
  pub sides_are : q.sides ≡ single.equation.sides
  pub sides_over : OverPair q.symbols q.sides
  pub rules_over : OverRules q.symbols q.rules
  pub fields : List Field
  pub are_fields : fields_of kept ≡ ok fields
  pub end_zero : end_in fields ≡ some 0
  pub rules_are : rules_in q.symbols fields ≡ ok q.rules

-- rules that passed 15
above_over : (Σ : List Symbol) (rules : List RuleAt) (u : Unit {0}) → all_above Σ rules ≡ ok u →
    Every (λ (r : RuleAt). RuleRead Σ false most_number 0 r.rule) rules → Every (λ (r : RuleAt). OverRule Σ r.rule.sides) rules
unfolding all_above
above_over Σ [] u e of_none = of_none
above_over Σ (r ∷ rules) u e (of_cons k h) =
    from_bind _ _ u e λ v t e.
    of_cons
    (record {
      over = (k.sides.left_over, k.sides.right_over);
      brings = above_brings (rank_of Σ) r.rule.sides.left r.rule.sides.right (not-false _ (passed _ not_above r.first v t));
    })
    (above_over Σ rules u e h)

pub asked : (problem kept : List ℕ) (q : Question) → read_question problem kept ≡ ok q → Asked problem kept q
unfolding read_question
asked problem kept q e =
    from_bind _ _ q e λ S a e.
    from_bind _ _ q e λ r b e.
    from_bind _ _ q e λ v z e.
    from_bind _ _ q e λ u t e.
    let F : SingleFits S = single_fits problem S a in
    let G : Agrees S.symbols F.symbols_few kept r = agrees S.symbols F.symbols_few kept r b in
    subst (Asked problem kept) (ok_injective e)
    (record {
      single = S;
      is_single = a;
      symbols_are = refl;
      sides_are = refl;
      sides_over = F.over;
      rules_over = every_mapped (λ (r : RuleAt). r.rule) (above_over S.symbols r.rules u t G.rules_read);
      fields = G.fields;
      are_fields = G.are_fields;
      end_zero = G.end_is ∙ ap some (eqb-true r.end 0 (not-false _ (passed _ not_complete 0 v z)));
      rules_are = G.rules_are;
    })
