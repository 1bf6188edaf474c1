-- How a run ends: with a turn that stops, for the cause that its end names; and one turn more than the budget is enough turns. Assumes nothing.
-- Read first: proofs/Ends, proofs/Reachable.
use mathlib.Core.Path.{◌≡◌, refl}
use Prim.Native.Nat.{ℕ, zero, suc, ◌+◌, ◌≤◌, ◌<◌}
use native.Mathlib.Omega.{arith}
use Rattle.rewriting.specs.Rewrite.{End, end_number, complete, neither_above, spent, too_large, rules_full, log_full, Paid, done, stop, and_then, ◌>>=◌, pay}
use Rattle.problem.specs.Problem.{Theory, Problem, theory}
use Rattle.completion.specs.Turn.{State, Finished, initial, turn, turns, run_from, run}
use Rattle.completion.proofs.Sentences.{AllPutBack}
use Rattle.completion.proofs.Units.{left_of, rest_of_turn}
use Rattle.completion.proofs.Ends.{Certified, RulesFull, LogFull, Because, Large}
use Rattle.completion.proofs.Reachable.{Reachable, from_start, by_turn, after, turn_less, stop_left}

-- How turns ended that began in a state of a run, with a budget: the state that they leave, in which a turn stopped.
pub record Stopped (T : Theory) (budget : ℕ) (f : Finished) : Type 0 where
  pub left : ℕ
  pub reachable : Reachable T f.state
  pub left_over : ℕ
  pub stops : turn T f.state left ≡ stop f.end left_over
  pub paid : f.units + left_over ≡ budget

pub turns_stop : (n : ℕ) (T : Theory) (budget : ℕ) (s : State) (left : ℕ) → left < n → left ≤ budget → Reachable T s →
    Stopped T budget (turns n T budget s left)
unfolding turns
turns_stop zero T budget s left h b r = absurd (omega arith)
turns_stop (suc n) T budget s left h b r = go (turn T s left) refl (λ s' left' h b r. turns_stop n T budget s' left' h b r)
  where
    go : (p : Paid State) → turn T s left ≡ p →
        ((s' : State) (left' : ℕ) → left' < n → left' ≤ budget → Reachable T s' → Stopped T budget (turns n T budget s' left')) →
        Stopped T budget (turns (suc n) T budget s left)
    go (done s' left') e ih = let l = turn_less T s s' left left' e in rw (e, turns) (ih s' left' (omega arith) (omega arith) (by_turn left r e))
    go (stop end left') e ih =
        let l = stop_left T s left left' end e in
        rw (e, turns) (record { left = left; reachable = r; left_over = left'; stops = e; paid = omega arith })

-- Every run ends with a turn that stops, from whatever state of a run it begins; so does that of a problem.
pub run_from_stops : (T : Theory) (s : State) (budget : ℕ) → Reachable T s → Stopped T budget (run_from T s budget)
unfolding run_from
run_from_stops T s budget r = turns_stop (suc budget) T budget s budget (omega arith) (omega arith) r

pub run_stops : (P : Problem) → Stopped (theory P) P.budget (run P)
unfolding run
run_stops P = run_from_stops (theory P) (initial (theory P)) P.budget (from_start refl)

module _ {T : Theory} {budget : ℕ} {f : Finished} (h : Stopped T budget f) where
  -- "never above the lent budget"
  pub units_within : f.units ≤ budget
  units_within = let p = h.paid in omega arith

  -- What the end of a run says of the state that it leaves.
  pub run_because : Because T f.state f.end h.left_over
  run_because = after T f.state h.left (stop f.end h.left_over) h.stops

  pub run_complete : f.end ≡ complete → Certified T f.state
  unfolding Because
  run_complete e = let b = run_because in rw e at b

  pub run_neither : f.end ≡ neither_above → AllPutBack f.state
  unfolding Because
  run_neither e = let b = run_because in rw e at b

  -- 21 only when all is paid
  pub run_spent : f.end ≡ spent → f.units ≡ budget
  unfolding Because
  run_spent e =
      let b = run_because in
      let z : h.left_over ≡ 0 = rw e at b in
      let p : f.units + h.left_over ≡ budget = h.paid in
      omega arith

  pub run_too_large : f.end ≡ too_large → Large T f.state
  unfolding Because
  run_too_large e = let b = run_because in rw e at b

  pub run_rules_full : f.end ≡ rules_full → RulesFull T f.state
  unfolding Because
  run_rules_full e = let b = run_because in rw e at b

  pub run_log_full : f.end ≡ log_full → LogFull T f.state
  unfolding Because
  run_log_full e = let b = run_because in rw e at b

-- "23 is now given for the 33rd live rule only. 24 when a 513th log entry is due": what the number of an end says of the state that is left.
full_number : (e : End) → (end_number e ≡ 23 → e ≡ rules_full) × (end_number e ≡ 24 → e ≡ log_full)
unfolding end_number
full_number complete = (λ h. absurd (omega arith), λ h. absurd (omega arith))
full_number neither_above = (λ h. absurd (omega arith), λ h. absurd (omega arith))
full_number spent = (λ h. absurd (omega arith), λ h. absurd (omega arith))
full_number too_large = (λ h. absurd (omega arith), λ h. absurd (omega arith))
full_number rules_full = (λ h. refl, λ h. absurd (omega arith))
full_number log_full = (λ h. absurd (omega arith), λ h. refl)

pub run_23 : {T : Theory} {budget : ℕ} {f : Finished} → Stopped T budget f → end_number f.end ≡ 23 → RulesFull T f.state
run_23 {T} {budget} {f} h e = run_rules_full h ((full_number f.end).0 e)

pub run_24 : {T : Theory} {budget : ℕ} {f : Finished} → Stopped T budget f → end_number f.end ≡ 24 → LogFull T f.state
run_24 {T} {budget} {f} h e = run_log_full h ((full_number f.end).1 e)

-- So many turns as there are units, and one more, are enough: the bound of `turns` is never what ends a run.
pub turns_enough : (n m : ℕ) (T : Theory) (budget : ℕ) (s : State) (left : ℕ) → left < n → left < m → turns n T budget s left ≡ turns m T budget s left
unfolding turns left_of
turns_enough zero m T budget s left h k = absurd (omega arith)
turns_enough (suc n) zero T budget s left h k = absurd (omega arith)
turns_enough (suc n) (suc m) T budget s zero h k = unfold turn ◌>>=◌ and_then pay in refl
turns_enough (suc n) (suc m) T budget s (suc left) h k =
    go (turn T s (suc left)) refl (rest_of_turn T s left) (λ s' left' h' k'. turns_enough n m T budget s' left' h' k')
  where
    go : (p : Paid State) → turn T s (suc left) ≡ p → left_of p ≤ left →
        ((s' : State) (left' : ℕ) → left' < n → left' < m → turns n T budget s' left' ≡ turns m T budget s' left') →
        turns (suc n) T budget s (suc left) ≡ turns (suc m) T budget s (suc left)
    go (done s' left') e l ih = rw (e, turns) (ih s' left' (omega arith) (omega arith))
    go (stop end left') e l ih = rw (e, turns) refl
