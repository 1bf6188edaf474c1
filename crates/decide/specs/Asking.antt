-- What each function of `decide` answers, said by the definitions of Decide. Assumes nothing.
-- Read first: Decide, Answers (decided_told), items/specs/Readers (rules_at), slots/specs/Slots (Stored, Sides).
use Rattle.std.specs.Prelude.{Option as Maybe, Some, None, Result, Ok, ◌≡◌, not, List, ℕ, eqb, length}
use Rattle.std.proofs.Math.Option.{Option}
use Rattle.limits.specs.Limits.{most_apart}
use Rattle.terms.specs.Term.{Term, Pair}
use Rattle.reading.specs.Stops.{not_complete, not_above}
use Rattle.reading.specs.Answers.{symbols_of}
use Rattle.problem.specs.Problem.{Reading, ok, refused, ◌>>=◌, refuse_if, Symbol}
use Rattle.rewriting.specs.Overlap.{Rule, sides_of}
use Rattle.rewriting.specs.Rewrite.{normalise_by, both_by}
use Rattle.rewriting.specs.declared.End.{End}
use Rattle.rewriting.specs.declared.End.TheVariants.{Complete, NeitherAbove, Spent as SpentEnd, TooLarge as TooLargeEnd, RulesFull, LogFull}
use Rattle.slots.specs.Slots.{Sides, Stored}
use Rattle.items.specs.Fields.{rules_of}
use Rattle.items.specs.Readers.{rules_at}
use Rattle.record.specs.Record.{read_record}
use Rattle.joining.specs.Joins.{step_by, by_strategy}
use Rattle.joining.specs.declared.Strategy.{Strategy}
use Rattle.decide.specs.Decide.{all_above, Counted, counted}
use Rattle.decide.specs.Answers.{decided_told}
use Rattle.problem.specs.declared.Refusal.{Refusal}
use Rattle.decide.specs.declared.Decided.{Decided}
use Rattle.decide.specs.declared.Decided.TheVariants.{Spent, TooLarge}

-- `not_above`: 15, of rules whose fields begin at 11, one behind the other
unfoldable pub above_told : Maybe ℕ → Reading (Unit {0})
above_told None = ok tt
above_told (Some p) = refused not_above p

pub record FirstNotAbove (tab slots : List ℕ) (count : ℕ) (r : Maybe ℕ) : Type 0 where
  pub is : (rs : List Rule) → Stored tab slots 0 (sides_of rs) → count ≡ length rs → all_above (symbols_of tab) (rules_at 11 rs) ≡ above_told r

-- `stopped`: terms come to no other ends than these two
unfoldable pub stopped_by : End → ℕ → Decided
stopped_by Complete paid = TooLarge paid
stopped_by NeitherAbove paid = TooLarge paid
stopped_by SpentEnd paid = Spent paid
stopped_by TooLargeEnd paid = TooLarge paid
stopped_by RulesFull paid = TooLarge paid
stopped_by LogFull paid = TooLarge paid

-- `compare_forms`
pub record FormsCompared (strategy : Strategy) (tab rules : List ℕ) (count : ℕ) (left right : List ℕ) (budget : ℕ) (r : Decided) : Type 0 where
  pub is : (rs : List Rule) → Stored tab rules 0 (sides_of rs) → count ≡ length rs → (e : Pair) → Sides most_apart tab left right e →
      decided_told (Ok r) ≡ ok (counted budget (both_by (by_strategy strategy rs) e budget))

-- `ask`: `question_call` behind the problem
unfoldable pub ask_call : (List Rule → Term → Option Term) → List Symbol → Pair → ℕ → List ℕ → Reading Counted
ask_call next Σ sides budget kept = do
  r ← read_record Σ kept
  _ ← refuse_if (not (eqb r.end 0)) not_complete 0
  _ ← all_above Σ r.rules
  ok (counted budget (both_by (normalise_by (next (rules_of r.rules))) sides budget))

pub record Asks (strategy : Strategy) (tab left right : List ℕ) (budget : ℕ) (kept : List ℕ) (r : Result Decided Refusal) : Type 0 where
  pub is : (e : Pair) → Sides most_apart tab left right e → decided_told r ≡ ask_call (step_by strategy) (symbols_of tab) e budget kept
