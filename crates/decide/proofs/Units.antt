-- The units that are told with an answer are the steps that were made, from the left side and from the right side together, by whichever strategy.
-- Assumes nothing.
-- Read first: specs/Decide (question_call), rewriting/proofs/Counts.
use mathlib.Core.Path.{◌≡◌, refl, sym, subst, ◌∙◌}
use mathlib.Core.Bool.{Bool, true, false}
use mathlib.Core.List.{List}
use mathlib.Core.Logic.{◌⊎◌, inl, inr}
use mathlib.Core.Option.{Option, none, some}
use Prim.Native.Nat.{ℕ, ◌+◌, ◌-◌, ◌<◌}
use native.Mathlib.Omega.{arith}
use Rattle.limits.specs.Limits.{most_nodes}
use Rattle.std.specs.Prelude.{if◌then◌else◌}
use Rattle.terms.specs.Term.{Term, Pair, same, size}
use Rattle.terms.proofs.Shape.{Says, same_says}
use Rattle.reading.proofs.Reading.{bind_ok}
use Rattle.problem.specs.Problem.{ok}
use Rattle.problem.proofs.Reading.{ok_injective}
use Rattle.rewriting.specs.Overlap.{Rule}
use Rattle.rewriting.specs.Rewrite.{complete, neither_above, spent, too_large, rules_full, log_full, end_number, Paid, done, stop, return, and_then, ◌>>=◌}
use Rattle.rewriting.specs.Rewrite.{normalise_by, both_by}
use Rattle.rewriting.proofs.Counts.{Chain, stays, After, Outcome, counts}
use Rattle.decide.specs.Decide.{Question, read_question, Answer, are_same, are_different, numbered, answer, units_paid, Counted, counted, ask}
use Rattle.decide.specs.Decide.{question_call}

module _ (next : Term → Option Term) where
  -- no step leads from the sides
  abbrev pub LastBoth : Pair → Type 0
  LastBoth f = (next f.left ≡ none) × (next f.right ≡ none)

  abbrev pub SomeStep : Term → Type 0
  SomeStep t = (u : Term) × (next t ≡ some u)

  -- where the steps end, by the answer: at last terms; with all of the budget paid and a further step due; at a term over 120 nodes
  abbrev pub EndsAt : ℕ → ℕ → Pair → Answer → Type 0
  EndsAt budget units f are_same = LastBoth f × (f.left ≡ f.right)
  EndsAt budget units f are_different = LastBoth f × (f.left ≡ f.right → ⊥)
  EndsAt budget units f (numbered n) =
      ((n ≡ 21) × (units ≡ budget) × (SomeStep f.left ⊎ SomeStep f.right))
      ⊎ ((n ≡ 22) × ((most_nodes < size f.left) ⊎ (most_nodes < size f.right)))

  -- so many steps from each side of e, the first step first, and the units are their sum
  pub record StepsPaid (budget : ℕ) (e : Pair) (c : Counted) : Type 0 where
    pub reached : Pair
    pub left_steps : ℕ
    pub right_steps : ℕ
    pub left_chain : Chain next e.left reached.left left_steps
    pub right_chain : Chain next e.right reached.right right_steps
    pub sum : c.units ≡ left_steps + right_steps
    pub ends : EndsAt budget c.units reached c.answer

  module _ (budget : ℕ) (e : Pair) where
    paid : (f : Pair) (mid rest : ℕ) → After next e.left budget mid f.left → After next e.right mid rest f.right → (a : Answer) →
        EndsAt budget (budget - rest) f a → StepsPaid budget e (record { answer = a; units = budget - rest })
    paid f mid rest l r a h =
        let x = l.units in
        let y = r.units in
        record {
          reached = f;
          left_steps = l.steps;
          right_steps = r.steps;
          left_chain = l.chain;
          right_chain = r.chain;
          sum = omega arith;
          ends = h;
        }

    compared : (rest : ℕ) (f : Pair) → LastBoth f → (b : Bool) → Says (f.left ≡ f.right) b →
        EndsAt budget (budget - rest) f (if b then are_same else are_different)
    compared rest f h true s = (h, s)
    compared rest f h false s = (h, s)

    -- the left side came to its last term u, for all but mid of the units
    module _ (u : Term) (mid : ℕ) (l : After next e.left budget mid u) (n : next u ≡ none) where
      then_right : (p : Paid Term) → Outcome next e.right mid p →
          StepsPaid budget e (counted budget (and_then p (λ v. return (record { left = u; right = v }))))
      unfolding counted answer units_paid and_then return end_number
      then_right (done v rest) h =
          paid (record { left = u; right = v }) mid rest l h.0 _ (compared rest (record { left = u; right = v }) (n, h.1) (same u v) (same_says u v))
      then_right (stop spent rest) h =
          let z = h.0 in
          paid (record { left = u; right = h.1.at }) mid rest l (rw z h.1.after) _ (inl (refl, omega arith, inr (h.1.due, h.1.steps)))
      then_right (stop too_large rest) h = paid (record { left = u; right = h.at }) mid rest l h.after _ (inr (refl, inr h.over))
      then_right (stop complete rest) h = absurd h
      then_right (stop neither_above rest) h = absurd h
      then_right (stop rules_full rest) h = absurd h
      then_right (stop log_full rest) h = absurd h

    -- no step from the right side
    none_right : (rest : ℕ) → After next e.right rest rest e.right
    none_right rest = record { steps = 0; chain = stays refl refl; units = omega arith }

    then_left : (p : Paid Term) → Outcome next e.left budget p →
        StepsPaid budget e (counted budget (and_then p (λ u. normalise_by next e.right >>= λ v. return (record { left = u; right = v }))))
    unfolding counted answer units_paid and_then ◌>>=◌ end_number
    then_left (done u mid) h = then_right u mid h.0 h.1 (normalise_by next e.right mid) (counts next e.right mid)
    then_left (stop spent rest) h =
        let z = h.0 in
        paid (record { left = h.1.at; right = e.right }) rest rest (rw z h.1.after) (none_right rest) _
        (inl (refl, omega arith, inl (h.1.due, h.1.steps)))
    then_left (stop too_large rest) h =
        paid (record { left = h.at; right = e.right }) rest rest h.after (none_right rest) _ (inr (refl, inl h.over))
    then_left (stop complete rest) h = absurd h
    then_left (stop neither_above rest) h = absurd h
    then_left (stop rules_full rest) h = absurd h
    then_left (stop log_full rest) h = absurd h

-- "and adds the units it paid": with every answer, by either strategy [22.5]
module _ (next : List Rule → Term → Option Term) where
  ask_paid : (q : Question) → StepsPaid (next q.rules) q.budget q.sides (ask next q)
  unfolding ask both_by ◌>>=◌
  ask_paid q =
      then_left (next q.rules) q.budget q.sides (normalise_by (next q.rules) q.sides.left q.budget)
      (counts (next q.rules) q.sides.left q.budget)

  pub steps_paid : (problem kept : List ℕ) (q : Question) (c : Counted) → read_question problem kept ≡ ok q → question_call next problem kept ≡ ok c →
      StepsPaid (next q.rules) q.budget q.sides c
  unfolding question_call
  steps_paid problem kept q c e h =
      subst (StepsPaid (next q.rules) q.budget q.sides) (ok_injective (sym (bind_ok _ e) ∙ h)) (ask_paid q)
