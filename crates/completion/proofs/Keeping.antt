-- What turns leave, from any state of a run of an accepted theory, keeps document 01's limits, is renamed, and its rules go down. Assumes nothing.
-- Read first: specs/Keeps, proofs/Held (`pair_keeps`), proofs/Kept, proofs/OverRun, proofs/Renamed, proofs/Invariant (rules go down).
use mathlib.Core.List.{List, [], ◌∷◌}
use Prim.Native.Nat.{ℕ, ◌<◌, ◌≤◌}
use native.Mathlib.Omega.{arith}
use lib.ListN.{length}
use Rattle.terms.specs.Base.{Every, of_cons}
use Rattle.problem.specs.Problem.{Symbol, Theory}
use Rattle.rewriting.specs.Overlap.{Rule}
use Rattle.completion.specs.Turn.{Candidate, State, Finished}
use Rattle.completion.specs.Keeps.{RulesKeep, OldestKeeps, Keeps}
use Rattle.completion.proofs.Held.{RuleFits, Accepted, pair_keeps}
use Rattle.completion.proofs.Limits.{CandidateFits, Ascending, numbers, Limits}
use Rattle.completion.proofs.Stopped.{Stopped, units_within, run_neither}
use Rattle.completion.proofs.Closed.{Closed, Has, reachable_has}
use Rattle.completion.proofs.Invariant.{GoodRules, reachable_good}
use Rattle.completion.proofs.Over.{OverPair}
use Rattle.completion.proofs.OverRules.{OverRule, OverRules}
use Rattle.completion.proofs.OverRun.{over_closed}
use Rattle.completion.proofs.Renamed.{Renamed, AllRenamed, reachable_renamed}
use Rattle.completion.proofs.Kept.{reachable_limits}
use Rattle.completion.proofs.Result.{result_length}

module _ (T : Theory) (a : Accepted T) (budget : ℕ) (f : Finished) (h : Stopped T budget f) where
  abbrev Σ : List Symbol
  Σ = T.symbols

  abbrev left : State
  left = f.state

  limits : Limits (length Σ) left
  limits = reachable_limits T a h.reachable

  rules_keep : (before : ℕ) (rules : List Rule) → Ascending before (numbers rules) → Every (RuleFits (length Σ) left.made) rules → OverRules Σ rules →
      Every (λ (r : Rule). Renamed r.sides) rules → GoodRules T rules → RulesKeep Σ before rules
  unfolding Ascending RulesKeep
  rules_keep before [] u h o n g = tt
  rules_keep before (r ∷ rules) u (of_cons h hs) (of_cons o os) (of_cons n ns) (of_cons g gs) =
      let low : before < r.number = u.0 in
      let high : r.number ≤ 512 = omega (arith, h.last, limits.made_few, limits.log_few) in (
        record { low = low; high = high; sides = pair_keeps Σ r.sides h.fits o.over n; down = g.down },
        rules_keep r.number rules u.1 hs os ns gs,
      )

  over : Closed T (OverRule Σ) (OverPair Σ) (OverPair Σ)
  over = over_closed Σ T a.equations_over

  has_over : Has T (OverRule Σ) (OverPair Σ) (OverPair Σ) over left
  has_over = reachable_has T (OverRule Σ) (OverPair Σ) (OverPair Σ) over h.reachable

  renamed_all : AllRenamed left
  renamed_all = reachable_renamed T h.reachable

  -- something waits at end 20
  oldest_keeps : (waiting : List Candidate) → 0 < length waiting → Every (CandidateFits (length Σ) 16 left.made) waiting →
      Every (λ (c : Candidate). OverPair Σ c.sides) waiting → Every (λ (c : Candidate). Renamed c.sides) waiting → OldestKeeps Σ waiting
  unfolding OldestKeeps
  oldest_keeps [] l h o n = absurd (omega arith)
  oldest_keeps (c ∷ waiting) l (of_cons h hs) (of_cons o os) (of_cons n ns) = pair_keeps Σ c.sides h.fits o n

  pub run_keeps : budget ≤ 1_000_000 → Keeps Σ f
  run_keeps few =
      record {
        units_few = omega (arith, units_within h);
        rules_few = limits.live;
        rules_keep = rules_keep 0 left.rules limits.ascending limits.rules_fit has_over.rules renamed_all.rules
            (reachable_good T h.reachable);
        log_few = limits.log_few;
        forms_keep = λ q. oldest_keeps left.waiting (run_neither h q).some limits.waiting_fit has_over.waiting renamed_all.waiting;
        short = result_length (length Σ) a.symbols_few f limits;
      }
