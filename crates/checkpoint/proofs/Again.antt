-- What is saved, and that a run is taken up again where it was. The saved record is that of the state in which the unfinished turn began, and there is
-- none on another end than 21. A run that is resumed "starts with the unfinished turn": its log is the saved one with what its own turns add, and where
-- not even the unfinished turn could be paid it leaves the saved state as it was. Assumes nothing.
-- Read first: specs/Resume, completion/proofs/Ends (Next).
use mathlib.Core.Path.{◌≡◌, refl, sym, ap, ◌∙◌}
use mathlib.Core.List.{List, [], ◌++◌, append_assoc, append-nil}
use mathlib.Core.Logic.{◌⊎◌, inl, inr, ⊎_elim}
use Prim.Native.Nat.{ℕ, zero, suc}
use Rattle.rewriting.specs.Rewrite.{End, complete, neither_above, spent, too_large, rules_full, log_full, Paid, done, stop}
use Rattle.problem.specs.Problem.{Theory}
use Rattle.completion.specs.Turn.{Entry, State, Finished, waits_again, settled, turn, turns, run_from}
use Rattle.completion.proofs.Sentences.{turn_unpaid}
use Rattle.completion.proofs.Ends.{Next, settles, makes, puts_back}
use Rattle.completion.proofs.Reachable.{turn_next}
use Rattle.checkpoint.specs.Checkpoint.{Checkpoint, checkpoint_bytes}
use Rattle.checkpoint.specs.Resume.{saved_at, leaves, resumed}

-- on end 21, and on another end
pub saved_is : (T : Theory) (f : Finished) → f.end ≡ spent → (leaves T f).saved ≡ checkpoint_bytes (record { theory = T; state = f.state })
unfolding leaves saved_at
saved_is T f e = rw e refl

pub saved_or_none : (e : End) (c : Checkpoint) → (e ≡ spent) ⊎ (saved_at e c ≡ [])
unfolding saved_at
saved_or_none complete c = inr refl
saved_or_none neither_above c = inr refl
saved_or_none spent c = inl refl
saved_or_none too_large c = inr refl
saved_or_none rules_full c = inr refl
saved_or_none log_full c = inr refl

pub nothing_saved : (T : Theory) (f : Finished) → (f.end ≡ spent → ⊥) → (leaves T f).saved ≡ []
unfolding leaves
nothing_saved T f n = ⊎_elim (λ q. absurd (n q)) (λ q. q) (saved_or_none f.end (record { theory = T; state = f.state }))

-- entries behind a log
pub record Behind (before after : List Entry) : Type 0 where
  pub more : List Entry
  pub is : after ≡ before ++ more

next_behind : (T : Theory) (s s' : State) → Next T s s' → Behind s.log s'.log
unfolding settled waits_again
next_behind T s s' (settles t h room q e) = rw e (record { more = _; is = refl })
next_behind T s s' (makes t h room d few sides o live all r e) = rw e (record { more = _; is = refl })
next_behind T s s' (puts_back t h room d few n may e) = rw e (record { more = _; is = refl })

behind_all : {a b c : List Entry} → Behind a b → Behind b c → Behind a c
behind_all {a} {b} {c} h k =
    record { more = h.more ++ k.more; is = k.is ∙ ap (λ l. l ++ k.more) h.is ∙ append_assoc a h.more k.more }

-- Turns add entries, and change none.
pub turns_behind : (n : ℕ) (T : Theory) (budget : ℕ) (s : State) (left : ℕ) → Behind s.log (turns n T budget s left).state.log
unfolding turns
turns_behind zero T budget s left = record { more = []; is = sym (append-nil s.log) }
turns_behind (suc n) T budget s left = go (turn T s left) refl (λ s' left'. turns_behind n T budget s' left')
  where
    go : (p : Paid State) → turn T s left ≡ p → ((s' : State) (left' : ℕ) → Behind s'.log (turns n T budget s' left').state.log) →
        Behind s.log (turns (suc n) T budget s left).state.log
    go (done s' left') e ih = rw (e, turns) (behind_all (next_behind T s s' (turn_next T s s' left left' e)) (ih s' left'))
    go (stop end left') e ih = rw (e, turns) (record { more = []; is = sym (append-nil s.log) })

pub resumed_behind : (c : Checkpoint) (budget : ℕ) → Behind c.state.log (resumed c budget).state.log
unfolding resumed run_from
resumed_behind c budget = turns_behind _ _ _ _ _

-- with no unit: 21 in the saved state, and no unit paid
turns_unpaid : (n : ℕ) (T : Theory) (s : State) → turns (suc n) T 0 s 0 ≡ record { end = spent; units = 0; state = s }
unfolding turns
turns_unpaid n T s = rw (turn_unpaid T s, turns) refl

pub resumed_unpaid : (c : Checkpoint) → resumed c 0 ≡ record { end = spent; units = 0; state = c.state }
unfolding resumed run_from
resumed_unpaid c = turns_unpaid 0 c.theory c.state
