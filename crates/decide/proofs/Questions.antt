-- `ask` and `ask_problem` by their returns: what each part of the definition's reading answers is answered. Assumes nothing.
-- Read first: specs/Asking (ask_call, Asks), record/specs/Reader (IsRecord), only_equation/specs/Places (SidesAt).
use mathlib.Core.Path.{◌≡◌, refl, sym, ◌∙◌, ap}
use mathlib.Core.Bool.{not}
use mathlib.Core.List.{List}
use mathlib.Core.Option.{Option}
use Prim.Native.Nat.{ℕ, zero, suc, ◌+◌, ◌-◌, ◌≤◌}
use native.Mathlib.Omega.{arith}
use lib.Dec.{eqb}
use lib.ListN.{length, take, drop}
use lib.Seq.{take_at}
use borrow.Author.Tests.{eq-eqb, ne_eqb}
use Rattle.limits.specs.Limits.{most_nodes, most_apart, most_budget}
use Rattle.terms.specs.Term.{Term, Pair, size, term_bytes}
use Rattle.terms.specs.Flat.{Starts}
use Rattle.terms.proofs.Bytes.{length_bytes}
use Rattle.reading.specs.Stops.{wrong_record, not_complete, not_above}
use Rattle.reading.specs.Answers.{symbols_of}
use Rattle.reading.proofs.Reading.{bind_ok, bind_refused}
use Rattle.problem.specs.Problem.{Reading, ok, refused, ◌>>=◌, refuse_if}
use Rattle.rewriting.specs.Overlap.{Rule}
use Rattle.rewriting.specs.Rewrite.{both_by}
use Rattle.completion.specs.Calls.{Single, parse_single}
use Rattle.completion.proofs.Accepts.{single_fits}
use Rattle.slots.specs.Slots.{Sides}
use Rattle.only_equation.specs.Places.{table, left_side, right_side, SidesAt}
use Rattle.items.specs.Fields.{rules_of}
use Rattle.items.specs.Readers.{rules_at, InSlots}
use Rattle.items.proofs.Slotted.{rules_of_at, slots_store}
use Rattle.record.specs.Record.{Record, read_record}
use Rattle.joining.specs.Joins.{step_by, by_strategy}
use Rattle.joining.specs.declared.Strategy.{Strategy}
use Rattle.decide.specs.Decide.{all_above, Question, read_question, counted, ask, question_call}
use Rattle.decide.specs.Answers.{decided_told}
use Rattle.decide.specs.Asking.{above_told, FirstNotAbove, FormsCompared, ask_call, Asks}
use Rattle.decide.specs.declared.Decided.{Decided}
use Rattle.std.proofs.Common.{Option as Maybe, Some, None, Result, Ok, Err}
use Rattle.problem.specs.Reasons.{number_of_reason}
use Rattle.problem.specs.declared.Reason.TheVariants.{WrongRecord, NotComplete, NotAbove}
use Rattle.problem.specs.declared.Refusal.{Refusal}

-- `ask`
module _ (strategy : Strategy) (tab kept : List ℕ) (budget : ℕ) where
  pub record_refused : (left right : List ℕ) (p : ℕ) → read_record (symbols_of tab) kept ≡ refused wrong_record p →
      Asks strategy tab left right budget kept (Err (record { reason = WrongRecord; place = p }))
  unfolding decided_told ask_call
  record_refused left right p h = record { is = λ e S. sym (bind_refused _ h) }

  module _ (end units : ℕ) (rs : List Rule)
      (h : read_record (symbols_of tab) kept ≡ ok (record { end = end; units = units; rules = rules_at 11 rs })) where
    pub end_refused : (left right : List ℕ) → (end ≡ 0 → ⊥) → Asks strategy tab left right budget kept (Err (record { reason = NotComplete; place = 0 }))
    unfolding decided_told ask_call ◌>>=◌ refuse_if
    end_refused left right n = record { is = λ e S. sym (bind_ok _ h ∙ rw (ne_eqb end 0 n) refl) }

    module _ (z : end ≡ 0) where
      -- behind 14
      behind : (e : Pair) → ask_call (step_by strategy) (symbols_of tab) e budget kept ≡
          (all_above (symbols_of tab) (rules_at 11 rs) >>= λ _. ok (counted budget (both_by (by_strategy strategy rs) e budget)))
      unfolding ask_call ◌>>=◌ refuse_if
      behind e = bind_ok _ h ∙ rw (eq-eqb end 0 z, rules_of_at 11 rs) refl

      pub rule_refused : {slots : List ℕ} {count : ℕ} → InSlots tab slots count rs → (left right : List ℕ) (p : ℕ) →
          FirstNotAbove tab slots count (Some p) → Asks strategy tab left right budget kept (Err (record { reason = NotAbove; place = p }))
      unfolding decided_told above_told
      rule_refused I left right p A = record { is = λ e S. sym (behind e ∙ bind_refused _ (A.is rs (slots_store I) I.counted)) }

      pub forms_asked : {slots left right : List ℕ} {count : ℕ} {d : Decided} → InSlots tab slots count rs → FirstNotAbove tab slots count None →
          FormsCompared strategy tab slots count left right budget d → Asks strategy tab left right budget kept (Ok d)
      unfolding above_told
      forms_asked I A F = record {
        is = λ e S. F.is rs (slots_store I) I.counted e S ∙ sym (behind e ∙ bind_ok _ (A.is rs (slots_store I) I.counted));
      }

-- what is done with the question may be done behind its tests
regroup_tests : {B C D E : Type 0} (b : Reading B) (c : Reading C) (d : D) (g : D → E) →
    ((b >>= λ _. c >>= λ _. ok d) >>= λ q. ok (g q)) ≡ (b >>= λ _. c >>= λ _. ok (g d))
unfolding ◌>>=◌
regroup_tests (ok x) (ok y) d g = refl
regroup_tests (ok x) (refused n p) d g = refl
regroup_tests (refused n p) c d g = refl

regroup : {A B C D E : Type 0} (a : Reading A) (b : A → Reading B) (c : A → Reading C) (d : A → D) (g : D → E) →
    ((a >>= λ x. b x >>= λ _. c x >>= λ _. ok (d x)) >>= λ q. ok (g q)) ≡ (a >>= λ x. b x >>= λ _. c x >>= λ _. ok (g (d x)))
unfolding ◌>>=◌
regroup (ok x) b c d g = regroup_tests (b x) (c x) (d x) g
regroup (refused n p) b c d g = refl

-- `ask_problem`
module _ (problem : List ℕ) where
  pub problem_refused : (next : List Rule → Term → Option Term) (kept : List ℕ) (n p : ℕ) → parse_single problem ≡ refused n p →
      refused n p ≡ question_call next problem kept
  unfolding question_call read_question ◌>>=◌
  problem_refused next kept n p h = rw h refl

  -- a side of the equation, as it is lent
  lent : {tab : List ℕ} (a : ℕ) (x : Term) → Starts tab (drop a problem) x → (b : ℕ) → b ≡ a + size x → take (b - a) (drop a problem) ≡ term_bytes x
  lent a x S b q = let n : b - a ≡ size x = omega arith in rw (n, S.bytes) (take_at (term_bytes x) S.rest (size x) (length_bytes x))

  module _ (e a b c : ℕ) (S : Single) (A : SidesAt problem e a b c S) where
    lent_sides : Sides most_apart (table problem e) (take (b - a) (drop a problem)) (take (c - b) (drop b problem)) S.equation.sides
    lent_sides = record {
      left_wf = A.left.wf;
      right_wf = A.right.wf;
      left_bytes = lent a (left_side S) A.left b A.right_is;
      right_bytes = lent b (right_side S) A.right c A.end_is;
    }

    pub lent_small : (length (take (b - a) (drop a problem)) ≤ most_nodes) × (length (take (c - b) (drop b problem)) ≤ most_nodes)
        × (S.budget ≤ most_budget)
    lent_small =
        let F = single_fits problem S A.is in
        let L = lent_sides in (
          omega (arith, ap length L.left_bytes, length_bytes (left_side S), F.fits.left.small),
          omega (arith, ap length L.right_bytes, length_bytes (right_side S), F.fits.right.small),
          F.budget_few,
        )

    asked_is : (next : List Rule → Term → Option Term) (kept : List ℕ) →
        question_call next problem kept ≡ ask_call next (symbols_of (table problem e)) S.equation.sides S.budget kept
    unfolding question_call read_question ask_call ask
    asked_is next kept =
        let d : Record → Question =
        λ r. record { symbols = S.symbols; budget = S.budget; sides = S.equation.sides; rules = rules_of r.rules } in
        ap (λ (m : Reading Question). m >>= λ q. ok (ask next q)) (bind_ok _ A.is)
        ∙ regroup (read_record S.symbols kept) (λ r. refuse_if (not (eqb r.end 0)) not_complete 0) (λ r. all_above S.symbols r.rules) d (ask next)
        ∙ ap (λ Σ. ask_call next Σ S.equation.sides S.budget kept) A.symbols_are

    pub problem_asked : (strategy : Strategy) (kept : List ℕ) (u : ℕ) → S.budget ≡ u → (d : Result Decided Refusal) →
        Asks strategy (table problem e) (take (b - a) (drop a problem)) (take (c - b) (drop b problem)) u kept d →
        decided_told d ≡ question_call (step_by strategy) problem kept
    problem_asked strategy kept u q d h =
        h.is S.equation.sides lent_sides
        ∙ ap (λ v. ask_call (step_by strategy) (symbols_of (table problem e)) S.equation.sides v kept) (sym q)
        ∙ sym (asked_is (step_by strategy) kept)
