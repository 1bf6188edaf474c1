-- A run that ends other than with 21 ends so with any greater budget: the same end, units, rules and log. Assumes nothing.
-- Read first: proofs/Steady, proofs/Reachable.
use mathlib.Core.Path.{◌≡◌, refl, ap, subst, ◌∙◌}
use Prim.Native.Nat.{ℕ, zero, suc, ◌+◌, ◌-◌, ◌<◌}
use native.Mathlib.Omega.{arith}
use Rattle.completion.proofs.Turning.{turns_on}
use Rattle.rewriting.specs.Rewrite.{End, complete, neither_above, spent, too_large, rules_full, log_full, Paid, done, stop}
use Rattle.problem.specs.Problem.{Theory}
use Rattle.completion.specs.Turn.{State, Finished, turn, turns, run_from}
use Rattle.completion.proofs.Lawful.{Unless, Other}
use Rattle.completion.proofs.Steady.{WithMore, turn_steady}
use Rattle.completion.proofs.Reachable.{Reachable, by_turn, turn_less}
use Rattle.completion.proofs.Stopped.{turns_enough}

-- with k units more
pub turn_more : (T : Theory) (s s' : State) (left left' k : ℕ) → turn T s left ≡ done s' left' → turn T s (left + k) ≡ done s' (left' + k)
turn_more T s s' left left' k e = subst (λ p. WithMore p k (turn T s (left + k))) e (turn_steady T s left k (left + k) refl)

other : (e : End) (A B : Type 0) → Other e → Unless e A B → B
other complete A B o h = h
other neither_above A B o h = h
other spent A B o h = absurd o
other too_large A B o h = h
other rules_full A B o h = h
other log_full A B o h = h

unless : (e : End) (A B : Type 0) → A → (Other e → B) → Unless e A B
unless complete A B a b = b tt
unless neither_above A B a b = b tt
unless spent A B a b = a
unless too_large A B a b = b tt
unless rules_full A B a b = b tt
unless log_full A B a b = b tt

pub stop_more : (T : Theory) (s : State) (left left' k : ℕ) (e : End) → Other e → turn T s left ≡ stop e left' → turn T s (left + k) ≡ stop e (left' + k)
stop_more T s left left' k e o q =
    other e (left' ≡ 0) (turn T s (left + k) ≡ stop e (left' + k)) o
    (subst (λ p. WithMore p k (turn T s (left + k))) q (turn_steady T s left k (left + k) refl))

Ended : Finished → Finished → Type 0
Ended f g = Unless f.end (Unit {0}) (g ≡ f)

turns_more : (n m : ℕ) (T : Theory) (budget k : ℕ) (s : State) (left : ℕ) → left + k < m →
    Ended (turns n T budget s left) (turns m T (budget + k) s (left + k))
unfolding turns Ended
turns_more zero m T budget k s left h = tt
turns_more (suc n) zero T budget k s left h = absurd (omega arith)
turns_more (suc n) (suc m) T budget k s left h = go (turn T s left) refl (λ s' left' h. turns_more n m T budget k s' left' h)
  where
    go : (p : Paid State) → turn T s left ≡ p →
        ((s' : State) (left' : ℕ) → left' + k < m → Ended (turns n T budget s' left') (turns m T (budget + k) s' (left' + k))) →
        Ended (turns (suc n) T budget s left) (turns (suc m) T (budget + k) s (left + k))
    go (done s' left') e ih =
        let l = turn_less T s s' left left' e in
        rw (e, turns) (rw (turn_more T s s' left left' k e, turns) (ih s' left' (omega arith)))
    go (stop end left') e ih =
        rw (e, turns)
        (unless end (Unit {0}) (turns (suc m) T (budget + k) s (left + k) ≡ record { end = end; units = budget - left'; state = s }) tt
        (λ o.
        let u : budget + k - (left' + k) ≡ budget - left' = omega arith in
        rw (stop_more T s left left' k end o e, turns) (ap (λ (u : ℕ). record { end = end; units = u; state = s }) u)))

-- So whatever budget a run ends with, other than with 21, a greater one gives the same.
pub run_more : (T : Theory) (s : State) (budget k : ℕ) → Other (run_from T s budget).end → run_from T s (budget + k) ≡ run_from T s budget
unfolding run_from Ended
run_more T s budget k o =
    other (run_from T s budget).end (Unit {0}) (run_from T s (budget + k) ≡ run_from T s budget) o
    (turns_more (suc budget) (suc (budget + k)) T budget k s budget (omega arith))

-- Turns that go on lead from one state, with so many units, to another.
pub data Leads (T : Theory) : State → ℕ → State → ℕ → Type 0 where
  no_turn : {s : State} {left : ℕ} → Leads T s left s left
  one_turn : {s s' s'' : State} {left left' left'' : ℕ} → turn T s left ≡ done s' left' → Leads T s' left' s'' left'' → Leads T s left s'' left''

pub leads_reachable : {T : Theory} {s s' : State} {left left' : ℕ} → Reachable T s → Leads T s left s' left' → Reachable T s'
leads_reachable r no_turn = r
leads_reachable r (one_turn {left = left} e l) = leads_reachable (by_turn left r e) l

-- A run can be taken up again in any state that it came to, also with a greater budget: only the units then left count.
pub resume : (T : Theory) (budget k : ℕ) {s s' : State} {left left' : ℕ} → Leads T s left s' left' → (n m : ℕ) → left + k < n → left' + k < m →
    turns n T budget s (left + k) ≡ turns m T budget s' (left' + k)
resume T budget k {s} {s'} {left} {left'} no_turn n m h l = turns_enough n m T budget s (left + k) h l
resume T budget k (one_turn {s} {s'} {s''} {left} {left'} {left''} e w) zero m h l = absurd (omega arith)
resume T budget k (one_turn {s} {s'} {s''} {left} {left'} {left''} e w) (suc n) m h l =
    let less : left' < left = turn_less T s s' left left' e in
    turns_on n T budget s s' (left + k) (left' + k) (turn_more T s s' left left' k e) ∙ resume T budget k w n m (omega arith) l
