-- The states of a run: those that turns lead to from the first one, whatever units each of them has; and what a turn costs. Assumes nothing.
-- How a run ends: proofs/Stopped.
-- Read first: proofs/Ends, proofs/Traced, proofs/Units.
use mathlib.Core.Path.{◌≡◌, refl, sym, ap, subst, ◌∙◌}
use mathlib.Core.List.{[], ◌∷◌}
use Prim.Native.Nat.{ℕ, zero, suc, ◌-◌, ◌≤◌, ◌<◌}
use native.Mathlib.Omega.{arith}
use lib.ListN.{length, length-append}
use Rattle.completion.proofs.Sentences.{turn_unpaid}
use Rattle.rewriting.specs.Rewrite.{End, Paid, done, stop, and_then, ◌>>=◌, pay}
use Rattle.rewriting.proofs.Holds.{Holds, stop≢done}
use Rattle.problem.specs.Problem.{Theory}
use Rattle.completion.specs.Turn.{State, made_put_back, initial, waits_again, settled, turn}
use Rattle.completion.proofs.Units.{rest_of_turn, left_of, Fair}
use Rattle.completion.proofs.Ends.{Next, settles, makes, puts_back, Because}
use Rattle.completion.proofs.Traced.{turn_traced}

-- The states that turns lead to from the first one. Each turn may have units of its own: a run that is taken up again, with a new budget, comes to
-- such states too.
pub data Reachable (T : Theory) : State → Type 0 where
  from_start : {s : State} → s ≡ initial T → Reachable T s
  by_turn : {s s' : State} (left : ℕ) {left' : ℕ} → Reachable T s → turn T s left ≡ done s' left' → Reachable T s'

-- What a turn comes to.
pub after : (T : Theory) (s : State) (left : ℕ) (p : Paid State) → turn T s left ≡ p → Holds (Next T s) (Because T s) p
after T s left p e = subst (Holds (Next T s) (Because T s)) e ((turn_traced T s).out left)

pub turn_next : (T : Theory) (s s' : State) (left left' : ℕ) → turn T s left ≡ done s' left' → Next T s s'
turn_next T s s' left left' e = after T s left (done s' left') e

-- A log entry a turn.
pub next_entry : (T : Theory) (s s' : State) → Next T s s' → length s'.log ≡ suc (length s.log)
unfolding settled waits_again
next_entry T s s' (settles t h room q e) = rw e (omega (arith, length-append s.log (record { origin = t.pair.origin; made = 0 } ∷ [])))
next_entry T s s' (makes t h room d few sides o live all r e) =
    rw e (omega (arith, length-append s.log (record { origin = t.pair.origin; made = suc s.made } ∷ [])))
next_entry T s s' (puts_back t h room d few n may e) =
    rw e (omega (arith, length-append s.log (record { origin = t.pair.origin; made = made_put_back } ∷ [])))

-- the turns before it
unfoldable pub turns_done : {T : Theory} {s : State} → Reachable T s → ℕ
turns_done (from_start e) = 0
turns_done (by_turn left r e) = suc (turns_done r)

-- So a run whose log stops at 512 entries has at most 513 turns, whatever its budget.
pub turns_logged : (T : Theory) {s : State} (r : Reachable T s) → length s.log ≡ turns_done r
unfolding turns_done initial
turns_logged T (from_start e) = rw e refl
turns_logged T (by_turn {s} {s'} left {left'} r e) = next_entry T s s' (turn_next T s s' left left' e) ∙ ap suc (turns_logged T r)

-- "beginning a turn costs one unit"
pub turn_left : (T : Theory) (s : State) (left : ℕ) → left_of (turn T s left) ≤ left - 1
unfolding turn ◌>>=◌ and_then pay left_of Fair
turn_left T s zero = omega arith
turn_left T s (suc left) = omega (arith, rest_of_turn T s left)

pub turn_less : (T : Theory) (s s' : State) (left left' : ℕ) → turn T s left ≡ done s' left' → left' < left
unfolding left_of
turn_less T s s' zero left' e = absurd (stop≢done (sym (turn_unpaid T s) ∙ e))
turn_less T s s' (suc left) left' e =
    let h : left_of (turn T s (suc left)) ≤ suc left - 1 = turn_left T s (suc left) in let k : left' ≤ suc left - 1 = rw e at h in omega arith

pub stop_left : (T : Theory) (s : State) (left left' : ℕ) (e : End) → turn T s left ≡ stop e left' → left' ≤ left
unfolding left_of
stop_left T s left left' e q = let h : left_of (turn T s left) ≤ left - 1 = turn_left T s left in let k : left' ≤ left - 1 = rw q at h in omega arith
