-- What `complete` leaves is a record that the engine wrote, and such a record delivers: demand 3 of its answer and its bytes. Assumes nothing.
-- Read first: specs/Answer (Delivery), checkpoint/specs/Wrote (EngineWrote), checkpoint/proofs/Delivers (engine_kept).
use mathlib.Core.Path.{◌≡◌, refl, sym, ap, ◌∙◌}
use mathlib.Core.List.{List}
use Prim.Native.Nat.{ℕ}
use lib.ListN.{length, take}
use Rattle.problem.specs.Problem.{Reading, ok, refused, Problem, theory, parse}
use Rattle.problem.proofs.Reading.{from_bind, no_ok, ok_injective}
use Rattle.completion.specs.Turn.{run}
use Rattle.completion.specs.Calls.{result_bytes, complete_call, counted, after_complete}
use Rattle.completion.specs.Promise.{Delivers}
use Rattle.completion.proofs.Writing.{written_front}
use Rattle.checkpoint.specs.Resume.{leaves}
use Rattle.checkpoint.specs.Wrote.{EngineWrote, begun}
use Rattle.checkpoint.proofs.Delivers.{engine_kept}
use Rattle.complete.specs.Answer.{completed_told, Delivery}
use Rattle.std.specs.Prelude.{Result, Ok, Err}
use Rattle.problem.specs.declared.Refusal.{Refusal}

-- what the call leaves for a problem is the result of its run
call_leaves : (problem : List ℕ) (buffer : ℕ) (bytes : List ℕ) → complete_call problem buffer ≡ ok bytes → (P : Problem) → parse problem ≡ ok P →
    bytes ≡ result_bytes (run P)
unfolding complete_call
call_leaves problem buffer bytes e P p =
    from_bind _ _ bytes e λ _ _ e.
    from_bind _ _ bytes e λ Q q e.
    sym (ok_injective e) ∙ ap (λ (Q : Problem). result_bytes (run Q)) (ok_injective (sym q ∙ p))

module _ (problem before after : List ℕ) (b : after ≡ after_complete (complete_call problem (length before)) before) where
  -- "a record that the engine wrote": the bytes that it leaves where it answers their count [18.15, 21.18]
  pub leaves_record : (n : ℕ) → ok n ≡ counted (complete_call problem (length before)) → (P : Problem) → parse problem ≡ ok P →
      EngineWrote (theory P) (run P) (take n after)
  unfolding counted after_complete leaves
  leaves_record n a P p = go (complete_call problem (length before)) refl a b
    where
      go : (c : Reading (List ℕ)) → complete_call problem (length before) ≡ c → ok n ≡ counted c → after ≡ after_complete c before →
          EngineWrote (theory P) (run P) (take n after)
      go (refused k at) e a b = absurd (no_ok (sym a))
      go (ok bytes) e a b =
          let q : n ≡ length bytes = ok_injective a in
          let front : take n after ≡ bytes = ap (take n) b ∙ written_front bytes before n (sym q) in
          record { ran = begun problem P p refl refl; bytes_are = front ∙ call_leaves problem (length before) bytes e P p }

  pub delivery : (r : Result ℕ Refusal) → completed_told r ≡ counted (complete_call problem (length before)) → Delivery problem after r
  unfolding Delivery Delivers completed_told
  delivery (Err r) a = tt
  delivery (Ok n) a = λ P p. (engine_kept (leaves_record n a P p)).promise
