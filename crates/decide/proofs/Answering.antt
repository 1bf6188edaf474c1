-- A record that the engine wrote for the same symbol field: "same" and "different" are right about the buyer's equations, 13 and 15 are not given, and
-- 14 exactly if the run did not end with 0: by whichever strategy the terms are normalised. This rests on what a reader of kept results knows (`Kept`),
-- and on nothing else of a run. Assumes nothing.
-- Read first: specs/Answers, proofs/Right, completion/proofs/Promised (Kept), checkpoint/proofs/Delivers (engine_kept), record/proofs/RoundTrip.
use mathlib.Core.Path.{◌≡◌, refl, sym, ap, ap₂, subst₂, ◌∙◌}
use mathlib.Core.Bool.{Bool, true, false}
use mathlib.Core.List.{List, [], ◌∷◌}
use mathlib.Core.Logic.{◌↔◌, ◌⊎◌, ⊎_elim}
use mathlib.Core.Option.{Option}
use Prim.Native.Nat.{ℕ, ◌+◌}
use native.Mathlib.Omega.{arith}
use lib.Dec.{eqb}
use Rattle.terms.specs.Term.{Term, Pair, size}
use Rattle.terms.proofs.Shape.{zero≢one, Says}
use Rattle.reading.specs.Stops.{wrong_record, not_complete, not_above}
use Rattle.problem.specs.Problem.{Reading, ok, refused, ◌>>=◌, refuse_if, Symbol, Theory}
use Rattle.problem.proofs.Reading.{ok_injective, no_ok}
use Rattle.rewriting.specs.Overlap.{Rule}
use Rattle.rewriting.specs.Rewrite.{End, complete, neither_above, spent, too_large, rules_full, log_full, end_number}
use Rattle.rewriting.proofs.Lasting.{Rewrites}
use Rattle.completion.specs.Turn.{Finished}
use Rattle.completion.specs.Calls.{Single}
use Rattle.completion.specs.Keeps.{RulesKeep}
use Rattle.completion.specs.Delivery.{Replacement, Many, Last}
use Rattle.completion.specs.Decides.{Decides}
use Rattle.completion.specs.Promise.{Promise, end_in, rules_in}
use Rattle.completion.proofs.Promised.{Kept}
use Rattle.checkpoint.proofs.Delivers.{engine_kept}
use Rattle.items.specs.Fields.{RuleAt, rules_of}
use Rattle.items.specs.Readers.{rules_at}
use Rattle.record.specs.Record.{read_record}
use Rattle.record.proofs.RoundTrip.{record_back}
use Rattle.decide.specs.Decide.{all_above, Question, read_question, Answer, are_same, are_different, ask, question_call}
use Rattle.decide.specs.Answers.{without_units, OneLast, TwoLasts, WroteFor, Leads, AboutEquations, NotRefused}
use Rattle.decide.proofs.Asked.{Asked, asked}
use Rattle.decide.proofs.Right.{Told, Answered, reply, answered}

-- 0 is the number of `complete` alone
zero_end : (e : End) → Says (e ≡ complete) (eqb (end_number e) 0)
unfolding end_number
zero_end complete = refl
zero_end neither_above = λ h. zero≢one (cc)
zero_end spent = λ h. zero≢one (cc)
zero_end too_large = λ h. zero≢one (cc)
zero_end rules_full = λ h. zero≢one (cc)
zero_end log_full = λ h. zero≢one (cc)

-- rules that go down pass 15
keep_above : (Σ : List Symbol) (at before : ℕ) (rules : List Rule) → RulesKeep Σ before rules → all_above Σ (rules_at at rules) ≡ ok tt
unfolding all_above rules_at RulesKeep ◌>>=◌ refuse_if
keep_above Σ at before [] h = refl
keep_above Σ at before (r ∷ rules) h =
    rw h.0.down (keep_above Σ (at + 5 + size r.sides.left + size r.sides.right) r.number rules h.1)

module _ (problem kept : List ℕ) (w : WroteFor problem kept) where
  abbrev T : Theory
  T = w.theory

  abbrev f : Finished
  f = w.left

  abbrev S : Single
  S = w.asked

  known : Kept T f kept
  known = engine_kept w.wrote

  promise : Promise T f kept
  promise = known.promise

  -- the equations lead from one side to the other
  abbrev Led : List Symbol → Pair → Type 0
  Led Σ e = Many (Replacement Σ T.equations) e.left e.right

  module _ (q : Question) (k : Asked problem kept q) where
    single_is : k.single ≡ S
    single_is = ok_injective (sym k.is_single ∙ w.is_asked)

    asked_symbols : q.symbols ≡ T.symbols
    asked_symbols = k.symbols_are ∙ ap (λ (S : Single). S.symbols) single_is ∙ sym w.same_symbols

    asked_sides : q.sides ≡ S.equation.sides
    asked_sides = k.sides_are ∙ ap (λ (S : Single). S.equation.sides) single_is

    -- The record's rules decide the equations of the problem that it was written for.
    rules_decide : Decides q.symbols T.equations q.rules
    rules_decide =
        let fields : promise.fields ≡ k.fields = ok_injective (sym promise.are_fields ∙ k.are_fields) in
        let rules : promise.rules ≡ q.rules = ok_injective (sym promise.are_rules ∙ ap (λ fs. rules_in T.symbols fs) fields
        ∙ ap (λ Σ. rules_in Σ k.fields) (sym asked_symbols) ∙ k.rules_are) in
        subst₂ (λ Σ rules. Decides Σ T.equations rules) (sym asked_symbols) rules (promise.decide (ap end_in fields ∙ k.end_zero))

    last_exactly : (u v : Term) → Last q.symbols q.rules q.sides.left u → Last q.symbols q.rules q.sides.right v → (u ≡ v) ↔ Leads T S
    last_exactly u v l r =
        let c = rules_decide.same_last q.sides.left q.sides.right u v k.sides_over.0 k.sides_over.1 l r in
        (λ e. subst₂ Led asked_symbols asked_sides (c.0 e), λ m. c.1 (subst₂ Led (sym asked_symbols) (sym asked_sides) m))

  -- What the record is read as.
  abbrev rules_left : List RuleAt
  rules_left = rules_at 11 f.state.rules

  record_read : read_record S.symbols kept ≡ ok (record { end = end_number f.end; units = f.units; rules = rules_left })
  record_read =
      ap₂ read_record (sym w.same_symbols) known.bytes ∙ record_back T.symbols known.symbols_few f promise.keeps

  above_passed : all_above S.symbols rules_left ≡ ok tt
  above_passed = ap (λ Σ. all_above Σ rules_left) (sym w.same_symbols) ∙ keep_above T.symbols 11 0 f.state.rules promise.keeps.rules_keep

  -- by the steps of a strategy
  module _ (next : List Rule → Term → Option Term) (R : (rules : List Rule) → Rewrites rules (next rules)) where
    abbrev said : Reading Answer
    said = reply next problem kept

    pub same_leads : said ≡ ok are_same → Leads T S
    unfolding Told
    same_leads h =
        let a : Answered problem kept are_same = answered next R problem kept are_same h in
        let t : OneLast a.question = a.is_told in
        (last_exactly a.question (asked problem kept _ a.is_question) t.term t.term t.left_last t.right_last).0 refl

    pub different_leads : said ≡ ok are_different → Leads T S → ⊥
    unfolding Told
    different_leads h m =
        let a : Answered problem kept are_different = answered next R problem kept are_different h in
        let t : TwoLasts a.question = a.is_told in
        t.differ ((last_exactly a.question (asked problem kept _ a.is_question) t.left_term t.right_term t.left_last t.right_last).1 m)

    not_both : said ≡ ok are_same → said ≡ ok are_different → ⊥
    not_both h d = different_leads d (same_leads h)

    equations_exactly : (said ≡ ok are_same) ⊎ (said ≡ ok are_different) →
        ((said ≡ ok are_same) ↔ Leads T S) × ((said ≡ ok are_different) ↔ (Leads T S → ⊥))
    equations_exactly h =
        ⊎_elim
        (λ e. ((λ _. same_leads e, λ _. e), (λ d. absurd (not_both e d), λ n. absurd (n (same_leads e)))))
        (λ d. ((λ e. absurd (not_both e d), λ m. absurd (different_leads d m)), (λ _. different_leads d, λ _. d)))
        h

    when_complete : eqb (end_number f.end) 0 ≡ true →
        said ≡ ok (ask next (record { symbols = S.symbols; budget = S.budget; sides = S.equation.sides; rules = rules_of rules_left })).answer
    unfolding question_call read_question ◌>>=◌ refuse_if without_units
    when_complete z = rw w.is_asked (rw record_read (rw z (rw above_passed refl)))

    when_not : eqb (end_number f.end) 0 ≡ false → said ≡ refused not_complete 0
    unfolding question_call read_question ◌>>=◌ refuse_if without_units
    when_not z = rw w.is_asked (rw record_read (rw z refl))

    -- 13 and 15 are not given, and 14 as the run's end said
    record ByEnd (r : Reading Answer) : Type 0 where
      never : (place : ℕ) → (r ≡ refused wrong_record place → ⊥) × (r ≡ refused not_above place → ⊥)
      unfinished : (r ≡ refused not_complete 0) ↔ (f.end ≡ complete → ⊥)

    by_end : (b : Bool) → eqb (end_number f.end) 0 ≡ b → Says (f.end ≡ complete) b → ByEnd said
    by_end true z e =
        rw (when_complete z)
        (record {
          never = λ place. (λ h. no_ok (sym h), λ h. no_ok (sym h));
          unfinished = (λ h. absurd (no_ok (sym h)), λ n. absurd (n e));
        })
    by_end false z n =
        rw (when_not z)
        (record {
          never = λ place. (λ h. let d : not_complete ≡ wrong_record = cc in omega arith, λ h. let d : not_complete ≡ not_above = cc in omega arith);
          unfinished = (λ _. n, λ _. refl);
        })

    engine_end : ByEnd said
    engine_end = by_end _ refl (zero_end f.end)

module _ (next : List Rule → Term → Option Term) (R : (rules : List Rule) → Rewrites rules (next rules)) (problem kept : List ℕ) where
  pub about_equations : AboutEquations problem kept (reply next problem kept)
  about_equations = record { exactly = λ w. equations_exactly problem kept w next R }

  pub not_refused : NotRefused problem kept (reply next problem kept)
  not_refused = record { never = λ w. (engine_end problem kept w next R).never; unfinished = λ w. (engine_end problem kept w next R).unfinished }
