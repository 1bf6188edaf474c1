-- End 0 delivers: the rules that turns leave with `complete` have the certificate of `Certificate`, and decide the buyer's equations. Assumes nothing.
-- Read first: specs/Decides, proofs/Ends (what each end says), proofs/Invariant (what rules keep), proofs/Certificate.
use mathlib.Core.Path.{◌≡◌, refl, subst₂}
use mathlib.Core.List.{List, [], ◌∷◌}
use Prim.Native.Nat.{ℕ, zero, suc, ◌<◌, ◌-◌}
use native.Mathlib.Omega.{arith}
use lib.ListN.{length}
use Rattle.terms.specs.Term.{Pair, renamed}
use Rattle.terms.proofs.Rename.{renamed_back}
use Rattle.terms.specs.Base.{Every, of_cons}
use Rattle.terms.proofs.Shape.{zero≢one}
use Rattle.rewriting.specs.Overlap.{Rule, sides_of}
use Rattle.rewriting.proofs.Relations.{Join, Rules, Step, Of}
use Rattle.rewriting.proofs.Steps.{join_subst}
use Rattle.rewriting.proofs.Stepping.{StepBy}
use Rattle.rewriting.proofs.Finite.{lhs, rhs}
use Rattle.rewriting.proofs.Overlaps.{OverlapsJoin}
use Rattle.rewriting.proofs.Covers.{sides_at, all_places_cover}
use Rattle.rewriting.proofs.Holds.{reached_star}
use Rattle.problem.specs.Problem.{Theory}
use Rattle.rewriting.specs.Rewrite.{End, complete, Paid, done, stop}
use Rattle.completion.specs.Turn.{Origin, scanned_input, candidates, State, Finished, turn, turns}
use Rattle.completion.specs.Decides.{Decides}
use Rattle.completion.proofs.Ends.{SameForm, SameAt, OverlapsSame, SameCandidate, Certified, Because}
use Rattle.completion.proofs.Reachable.{Reachable, by_turn, after}
use Rattle.completion.proofs.Invariant.{Good, GoodRules, reachable_good}
use Rattle.completion.proofs.Over.{OverEquations}
use Rattle.completion.proofs.OverRun.{reachable_over}
use Rattle.completion.proofs.Certificate.{Certificate, certificate_decides}

-- A renamed pair joins, so the pair does.
pub renamed_joins : (R : Rules) (e : Pair) → Join (Step R) (renamed e).left (renamed e).right → Join (Step R) e.left e.right
renamed_joins R e j = subst₂ (Join (Step R)) (renamed_back e).0 (renamed_back e).1 (join_subst _ j)

-- One normal form for both sides joins them.
pub same_join : {rules : List Rule} {e : Pair} → SameForm rules e → Join (StepBy rules) e.left e.right
same_join h = record { at = h.to; left = reached_star h.left.reached; right = reached_star h.right.reached }

-- One normal form for both sides of each overlap joins all that `overlap` finds.
pub overlaps_same_join : (rules : List Rule) → OverlapsSame rules → OverlapsJoin (sides_of rules)
overlaps_same_join rules h i j n hi hj lt q o v =
    renamed_joins (Of (sides_of rules)) o.sides (same_join (all_places_cover (SameAt rules) rules h i j n hi hj lt q o v))

inputs_join : (rules : List Rule) (origin : ℕ → Origin) (k : ℕ) (es : List Pair) → Every (SameCandidate rules) (candidates origin k es) →
    (i : ℕ) → i < length es → Join (StepBy rules) (lhs es i) (rhs es i)
unfolding candidates
inputs_join rules origin k [] h i lt = absurd (omega arith)
inputs_join rules origin k (e ∷ es) (of_cons j h) zero lt = renamed_joins (Of (sides_of rules)) e (same_join j)
inputs_join rules origin k (e ∷ es) (of_cons j h) (suc i) lt = inputs_join rules origin (suc k) es h i (omega arith)

-- Where nothing waits, and each overlap and each input equation has one form, the rules of a state have a certificate.
pub certified_certificate : (T : Theory) → OverEquations T.symbols T.equations → {s : State} → Reachable T s → Certified T s →
    Certificate T.symbols T.equations s.rules
certified_certificate T given {s} r c =
    let rules : List Rule = s.rules in
    let good : GoodRules T rules = reachable_good T r in
    record {
      equations_over = given;
      rules_over = reachable_over T.symbols T given r;
      down = λ i h. (sides_at (Good T) good i h).down;
      low = λ i h. (sides_at (Good T) good i h).low;
      equal = λ i h. (sides_at (Good T) good i h).equal;
      equations_join = inputs_join rules scanned_input 1 T.equations c.inputs_same;
      overlaps_join = overlaps_same_join rules c.overlaps;
    }

-- So a state of a run in which a turn ends with 0 has rules that decide the equations.
pub stop_delivered : (T : Theory) → OverEquations T.symbols T.equations → (s : State) → Reachable T s → (left left' : ℕ) (e : End) →
    turn T s left ≡ stop e left' → e ≡ complete → Decides T.symbols T.equations s.rules
unfolding Because
stop_delivered T given s r left left' e q d =
    let h : Because T s e left' = after T s left (stop e left') q in
    certificate_decides T.symbols T.equations s.rules (certified_certificate T given r (rw d at h))

-- The delivery theorem of the turns, from any state of a run: where they end with 0, the rules that they leave decide the equations.
module _ (T : Theory) (given : OverEquations T.symbols T.equations) (budget : ℕ) where
  -- what is behind a turn that came to this
  abbrev behind : ℕ → State → Paid State → Finished
  behind n s p =
      elim p [
        | done s' left' ↦ turns n T budget s' left'
        | stop e left' ↦ record { end = e; units = budget - left'; state = s }
      ]

  pub turns_delivered : (n : ℕ) (s : State) (left : ℕ) → Reachable T s → (turns n T budget s left).end ≡ complete →
      Decides T.symbols T.equations (turns n T budget s left).state.rules
  unfolding turns
  turns_delivered zero s left r e = absurd (zero≢one (cc))
  turns_delivered (suc n) s left r e = go (turn T s left) refl e (λ s' left' r' e'. turns_delivered n s' left' r' e')
    where
      go : (p : Paid State) → turn T s left ≡ p → (behind n s p).end ≡ complete →
          ((s' : State) (left' : ℕ) → Reachable T s' → (turns n T budget s' left').end ≡ complete →
          Decides T.symbols T.equations (turns n T budget s' left').state.rules) →
          Decides T.symbols T.equations (behind n s p).state.rules
      go (done s' left') q e ih = ih s' left' (by_turn left r q) e
      go (stop end left') q e ih = stop_delivered T given s r left left' end q e
