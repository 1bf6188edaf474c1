-- `stopped`, and `compare_forms` by what the two terms came to: equal last terms, different ones, or an end; with the units paid. Assumes nothing.
-- Read first: specs/Asking (stopped_by, FormsCompared), joining/specs/Joins (SidesJoined).
use mathlib.Core.Path.{◌≡◌, refl, ap, ◌∙◌}
use mathlib.Core.Bool.{Bool, true, false}
use mathlib.Core.List.{List}
use Prim.Native.Nat.{ℕ, ◌-◌}
use Rattle.std.specs.Prelude.{if◌then◌else◌}
use Rattle.terms.specs.Term.{Pair, same}
use Rattle.problem.specs.Problem.{ok}
use Rattle.rewriting.specs.Rewrite.{End, complete, neither_above, spent, too_large, rules_full, log_full, end_number, Paid, done, stop}
use Rattle.rewriting.specs.declared.End.{End as CodeEnd}
use Rattle.rewriting.specs.declared.End.TheVariants.{Complete, NeitherAbove, Spent as SpentEnd, TooLarge as TooLargeEnd, RulesFull, LogFull}
use Rattle.joining.specs.Joins.{FoundStops, LastsAre, JoinIs, SidesJoined}
use Rattle.joining.specs.declared.Strategy.{Strategy}
use Rattle.joining.specs.declared.Walk.{Walk}
use Rattle.std.proofs.Common.{Result, Ok, Err}
use Rattle.joining.specs.declared.Joined.{Joined}
use Rattle.joining.specs.declared.Joined.TheVariants.{Equal, Different as DifferentForms}
use Rattle.decide.specs.Decide.{are_same, are_different, numbered, answer, units_paid, counted}
use Rattle.decide.specs.Answers.{decided_told}
use Rattle.decide.specs.Asking.{stopped_by, FormsCompared}
use Rattle.decide.specs.declared.Decided.{Decided}
use Rattle.decide.specs.declared.Decided.TheVariants.{Same, Different, TooLarge}

-- `stopped`
pub other_end : (e : CodeEnd) (paid : ℕ) → (e ≡ SpentEnd → ⊥) → TooLarge paid ≡ stopped_by e paid
unfolding stopped_by
other_end SpentEnd paid n = absurd (n refl)
other_end Complete paid n = refl
other_end NeitherAbove paid n = refl
other_end TooLargeEnd paid n = refl
other_end RulesFull paid n = refl
other_end LogFull paid n = refl

-- what is answered, by what the terms came to and the units paid
abbrev pub decided : Result Joined CodeEnd → ℕ → Decided
decided (Ok Equal) paid = Same paid
decided (Ok DifferentForms) paid = Different paid
decided (Err end) paid = stopped_by end paid

module _ (tab one : List ℕ) (f : Result Joined CodeEnd) (paid : ℕ) where
  lasts_told : (p : Pair) (b : Bool) → LastsAre tab one f p b →
      decided_told (Ok (decided f paid)) ≡ ok (record { answer = if b then are_same else are_different; units = paid })
  unfolding decided_told
  lasts_told p true h = rw h refl
  lasts_told p false h = rw h.0 refl

  end_told : (x : End) → FoundStops x f → decided_told (Ok (decided f paid)) ≡ ok (record { answer = numbered (end_number x); units = paid })
  unfolding stopped_by decided_told end_number
  end_told spent h = rw h refl
  end_told too_large h = rw h refl
  end_told complete h = absurd h
  end_told neither_above h = absurd h
  end_told rules_full h = absurd h
  end_told log_full h = absurd h

join_told : (tab one : List ℕ) (budget : ℕ) (w : Walk) (p : Paid Pair) → JoinIs tab one w p →
    decided_told (Ok (decided w.found (budget - w.units))) ≡ ok (counted budget p)
unfolding counted answer units_paid
join_told tab one budget w (done p left) h = rw h.0 (lasts_told tab one w.found (budget - left) p (same p.left p.right) h.1)
join_told tab one budget w (stop x left) h = rw h.0 (end_told tab one w.found (budget - left) x h.1)

-- `compare_forms`
pub forms_compared : {strategy : Strategy} {tab rules : List ℕ} {count : ℕ} {left right one one' : List ℕ} {budget : ℕ} {w : Walk} →
    SidesJoined strategy tab rules count left right one one' budget w → (f : Result Joined CodeEnd) → w.found ≡ f →
    FormsCompared strategy tab rules count left right budget (decided f (budget - w.units))
forms_compared {tab = tab} {one' = one'} {budget = budget} {w = w} J f e =
    record { is = λ rs st ct p S. rw (← e) (join_told tab one' budget w _ (J.answer rs st ct p S)) }

pub forms_joined : {strategy : Strategy} {tab rules : List ℕ} {count : ℕ} {left right one one' : List ℕ} {budget : ℕ} {w : Walk} →
    SidesJoined strategy tab rules count left right one one' budget w → (f j : Joined) → w.found ≡ Ok f → f ≡ j →
    FormsCompared strategy tab rules count left right budget (decided (Ok j) (budget - w.units))
forms_joined J f j e q = forms_compared J (Ok j) (e ∙ ap Ok q)
