-- A run saved and resumed any number of times has, unless it ends with 21, the end, rules and log of the run with no budget. Assumes nothing.
-- Read first: specs/Wrote, proofs/Saved, completion/proofs/Raised.
use mathlib.Core.Path.{◌≡◌, refl, sym, ap, ◌∙◌}
use Prim.Native.Nat.{ℕ, suc, ◌+◌, ◌-◌, ◌≤◌, ◌<◌}
use native.Mathlib.Omega.{arith}
use Rattle.rewriting.specs.Rewrite.{End, complete, neither_above, spent, too_large, rules_full, log_full, stop}
use Rattle.problem.specs.Problem.{Theory}
use Rattle.completion.specs.Turn.{State, Finished, initial, turn, turns, run_from}
use Rattle.completion.proofs.Lawful.{Other}
use Rattle.completion.proofs.Turning.{turns_on}
use Rattle.completion.proofs.Raised.{turn_more, stop_more}
use Rattle.completion.proofs.Reachable.{Reachable, from_start, by_turn, turn_less}
use Rattle.completion.proofs.Stopped.{Stopped, turns_enough}
use Rattle.checkpoint.specs.Wrote.{EngineRan, WithNoBudget}
use Rattle.checkpoint.proofs.Saved.{Known, known}

pub other_end : (e : End) → (e ≡ spent → ⊥) → Other e
other_end complete h = tt
other_end neither_above h = tt
other_end spent h = h refl
other_end too_large h = tt
other_end rules_full h = tt
other_end log_full h = tt

-- A state of a run, whatever units its turns had: with `paid` units and any number more, turns from the first state come to it, with `over` and as many
-- more left.
record Comes (T : Theory) (s : State) : Type 0 where
  paid : ℕ
  over : ℕ
  on : (more budget n m : ℕ) → paid + more < n → over + more < m → turns n T budget (initial T) (paid + more) ≡ turns m T budget s (over + more)

comes : {T : Theory} {s : State} → Reachable T s → Comes T s
comes {T} {s} (from_start e) =
    record {
      paid = 0;
      over = 0;
      on = λ more budget n m h l. turns_enough n m T budget (initial T) (0 + more) h l ∙ ap (λ z. turns m T budget z (0 + more)) (sym e);
    }
comes {T} (by_turn {s} {s'} left {left'} r e) =
    let c : Comes T s = comes r in
    let less : left' < left = turn_less T s s' left left' e in
    record {
      paid = c.paid + left;
      over = left' + c.over;
      on = λ more budget n m h l.
          let a : c.paid + left + more ≡ c.paid + (left + more) = omega arith in
          let b : c.over + (left + more) ≡ left + (c.over + more) = omega arith in
          let d : left' + (c.over + more) ≡ left' + c.over + more = omega arith in
          let t : ℕ = c.over + (left + more) in
          let q : turn T s t ≡ _ = ap (turn T s) b ∙ turn_more T s s' left left' (c.over + more) e in
          ap (turns n T budget (initial T)) a ∙ c.on (left + more) budget n (suc t) (omega arith) (omega arith)
          ∙ turns_on t T budget s s' t (left' + (c.over + more)) q ∙ turns_enough t m T budget s' (left' + (c.over + more)) (omega arith) (omega arith)
          ∙ ap (turns m T budget s') d;
    }

turns_end : (n : ℕ) (T : Theory) (budget : ℕ) (s : State) (left left' : ℕ) (e : End) → turn T s left ≡ stop e left' →
    turns (suc n) T budget s left ≡ record { end = e; units = budget - left'; state = s }
unfolding turns
turns_end n T budget s left left' e h = rw (h, turns) refl

module _ (T : Theory) (given : ℕ) (f : Finished) (h : Stopped T given f) (n : f.end ≡ spent → ⊥) where
  c : Comes T f.state
  c = comes h.reachable

  -- with any greater budget the run comes to that state, and its turn stops there
  stops_with : (budget : ℕ) → c.paid + h.left ≤ budget →
      (units : ℕ) × (run_from T (initial T) budget ≡ record { end = f.end; units = units; state = f.state })
  unfolding run_from
  stops_with budget l =
      let k : ℕ = budget - (c.paid + h.left) in
      let a : budget ≡ c.paid + (h.left + k) = omega arith in
      let b : c.over + (h.left + k) ≡ h.left + (c.over + k) = omega arith in
      let q = ap (turn T f.state) b ∙ stop_more T f.state h.left h.left_over (c.over + k) f.end (other_end f.end n) h.stops in (
        _,
        ap (turns (suc budget) T budget (initial T)) a
            ∙ c.on (h.left + k) budget (suc budget) (suc (c.over + (h.left + k))) (omega arith) (omega arith)
            ∙ turns_end _ T budget f.state _ _ f.end q,
      )

  -- "unless it ends with 21, the end, rules and log of the run with no budget"
  pub no_budget : WithNoBudget T f.end f.state
  no_budget =
      record {
        not_spent = n;
        enough = c.paid + h.left;
        same_end = λ budget l. ap (λ (g : Finished). g.end) (stops_with budget l).1;
        same_state = λ budget l. ap (λ (g : Finished). g.state) (stops_with budget l).1;
      }

-- There is one such end, and one such state.
pub one_end : (T : Theory) (e d : End) (s t : State) → WithNoBudget T e s → WithNoBudget T d t → (e ≡ d) × (s ≡ t)
one_end T e d s t a b =
    let m : ℕ = a.enough + b.enough in
    let l : a.enough ≤ m = omega arith in
    let k : b.enough ≤ m = omega arith in
    (sym (a.same_end m l) ∙ b.same_end m k, sym (a.same_state m l) ∙ b.same_state m k)

-- The equality for every run begun from a problem, resumed or not.
pub ran_no_budget : {T : Theory} {f : Finished} → EngineRan T f → (f.end ≡ spent → ⊥) → WithNoBudget T f.end f.state
ran_no_budget {T} {f} h n = let k : Known T f = known h in no_budget T k.budget f k.stopped n
