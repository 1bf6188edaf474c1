-- Every state that turns come to, for an accepted problem, is read back from its saved record: so 16 is never given for a record that the engine wrote,
-- and a resumed run goes on in the state that was saved. Assumes nothing.
-- Read first: proofs/RoundTrip, specs/Wrote, completion/proofs/Stopped (Stopped).
use mathlib.Core.Path.{◌≡◌, refl, sym, ap, subst, ◌∙◌}
use mathlib.Core.Bool.{Bool, true, false}
use mathlib.Core.List.{List, []}
use mathlib.Core.Logic.{⊎_elim}
use Prim.Native.Nat.{ℕ, ◌≤◌}
use native.Mathlib.Omega.{arith}
use borrow.Author.Tests.{ltb-false, le-ltb}
use lib.Dec.{ltb}
use lib.ListN.{length}
use Rattle.limits.specs.Limits.{most_budget}
use Rattle.terms.proofs.Every.{every_map, every_both}
use Rattle.problem.specs.Problem.{ok, refused, ◌>>=◌, refuse_if, due, ReadField, Theory, Problem, theory, parse}
use Rattle.reading.specs.Stops.{wrong_saved, large_budget}
use Rattle.reading.specs.Answers.{field_at}
use Rattle.reading.proofs.Reading.{bind_ok}
use Rattle.reading.proofs.Fields.{due_at}
use Rattle.problem.proofs.Reading.{from_bind, ok_injective, no_ok, passed}
use Rattle.completion.specs.Turn.{Origin, waiting_input, removed_rule, scanned_input, overlapping, Finished}
use Rattle.completion.proofs.Stopped.{Stopped, run_from_stops, run_stops}
use Rattle.completion.proofs.Held.{Accepted, pair_keeps}
use Rattle.completion.proofs.Limits.{OriginFits, Limits}
use Rattle.completion.proofs.Kept.{reachable_limits}
use Rattle.completion.proofs.Closed.{reachable_has}
use Rattle.completion.proofs.Over.{OverPair}
use Rattle.completion.proofs.OverRules.{OverRule}
use Rattle.completion.proofs.OverRun.{over_closed}
use Rattle.completion.proofs.Renamed.{reachable_renamed}
use Rattle.completion.proofs.Keeping.{run_keeps}
use Rattle.completion.proofs.Accepts.{accepts, budget_accepted}
use Rattle.items.specs.Fields.{or_refuse, one_field}
use Rattle.checkpoint.specs.Checkpoint.{Checkpoint, checkpoint_bytes, read_checkpoint}
use Rattle.checkpoint.specs.Resume.{leaves, resumed, read_resumption}
use Rattle.checkpoint.specs.Wrote.{EngineRan, begun, again, EngineSaved}
use Rattle.checkpoint.proofs.Again.{saved_is, saved_or_none}
use Rattle.checkpoint.proofs.Items.{OriginWide, SymbolsRead, symbols_back}
use Rattle.checkpoint.proofs.RoundTrip.{Writable, checkpoint_back}

-- The symbols of a problem that was read, from their bytes.
pub problem_symbols : (bytes : List ℕ) (P : Problem) → parse bytes ≡ ok P → SymbolsRead P.symbols
unfolding parse
problem_symbols bytes P e =
    from_bind _ _ P e λ _ _ e.
    from_bind _ _ P e λ f d e.
    from_bind _ _ P e λ Σ a e.
    from_bind _ _ P e λ b _ e.
    from_bind _ _ P e λ budget _ e.
    from_bind _ _ P e λ es _ e.
    let first : f.first ≡ 0 = unfold field_at in ap (λ (g : ReadField). g.first) (due_at 0x01 bytes 0 f d).is in
    subst SymbolsRead (ap (λ (p : Problem). p.symbols) (ok_injective e)) (symbols_back f Σ first a)

-- numbers of a run fit their bytes
origin_wide : (made : ℕ) → made ≤ 512 → (o : Origin) → OriginFits made o → OriginWide o
unfolding OriginFits OriginWide
origin_wide made few (waiting_input k) h = omega (arith, h.1)
origin_wide made few (removed_rule k) h = omega (arith, h.1)
origin_wide made few (scanned_input k) h = omega (arith, h.1)
origin_wide made few (overlapping i o p) h = (omega (arith, h.1), omega (arith, h.3), omega (arith, h.4))

-- What is known of a run begun from a problem, resumed or not.
pub record Known (T : Theory) (f : Finished) : Type 0 where
  pub accepted : Accepted T
  pub symbols_read : SymbolsRead T.symbols
  pub budget : ℕ
  pub stopped : Stopped T budget f
  pub few : budget ≤ most_budget

module _ (T : Theory) (f : Finished) (k : Known T f) where
  -- The state that it leaves can be saved.
  pub known_writable : Writable (record { theory = T; state = f.state })
  known_writable =
      let a : Accepted T = k.accepted in
      let lim : Limits (length T.symbols) f.state = reachable_limits T a k.stopped.reachable in
      let small : f.state.made ≤ 512 = omega (arith, lim.made_few, lim.log_few) in
      let over = reachable_has T (OverRule T.symbols) (OverPair T.symbols) (OverPair T.symbols) (over_closed T.symbols T a.equations_over)
      k.stopped.reachable in
      record {
        symbols_read = k.symbols_read;
        few = a.symbols_few;
        equations_few = a.equations_few;
        equations_fit = every_both a.equations_fit a.equations_over;
        rules_few = lim.live;
        rules_keep = (run_keeps T a k.budget f k.stopped k.few).rules_keep;
        rules_old = every_map (λ r h. h.last) lim.rules_fit;
        together = lim.together;
        waiting_keep = every_map
            (λ c h. record {
              from = origin_wide f.state.made small c.origin h.0.from;
              sides = pair_keeps T.symbols c.sides h.0.fits h.1.0 h.1.1;
            })
            (every_both lim.waiting_fit (every_both over.waiting (reachable_renamed T k.stopped.reachable).waiting));
        made_few = lim.made_few;
        log_few = lim.log_few;
        log_fit = every_map
            (λ e h. record {
              from = origin_wide f.state.made small e.origin h.from;
              last = ⊎_elim (λ l. omega arith) (λ q. omega arith) h.last;
            })
            lim.log_fits;
        put_back_few = lim.put_back_few;
      }

  -- Round trip: what is saved is read back as the theory and the state.
  pub known_back : read_checkpoint (checkpoint_bytes (record { theory = T; state = f.state })) ≡ ok (record { theory = T; state = f.state })
  known_back = checkpoint_back _ known_writable

nothing_read : (c : Checkpoint) → read_checkpoint [] ≡ ok c → ⊥
unfolding read_checkpoint one_field or_refuse due refuse_if ◌>>=◌
nothing_read c e = no_ok e

-- 17 is not given for a budget that was accepted.
pub read_budget : (bytes : List ℕ) (budget : ℕ) (c : Checkpoint) → read_resumption bytes budget ≡ ok c →
    (read_checkpoint bytes ≡ ok c) × (budget ≤ most_budget)
unfolding read_resumption
read_budget bytes budget c e =
    from_bind _ _ c e λ d h e.
    from_bind _ _ c e λ u g e.
    (h ∙ e, ltb-false most_budget budget (passed _ 17 0 u g))

-- Resuming from what such a run left goes on in its state.
resumes : (T : Theory) (f : Finished) (c : Checkpoint) (budget : ℕ) → Known T f → read_resumption (leaves T f).saved budget ≡ ok c →
    c ≡ record { theory = T; state = f.state }
unfolding leaves
resumes T f c budget k e =
    let read : read_checkpoint (leaves T f).saved ≡ ok c = (read_budget _ budget c e).0 in
    ⊎_elim (λ q. ok_injective (sym read ∙ ap read_checkpoint (saved_is T f q) ∙ known_back T f k))
    (λ none. absurd (nothing_read c (ap read_checkpoint (sym none) ∙ read))) (saved_or_none f.end (record { theory = T; state = f.state }))

known_again : (T : Theory) (f g : Finished) (c : Checkpoint) (budget : ℕ) → Known T f → read_resumption (leaves T f).saved budget ≡ ok c →
    g ≡ resumed c budget → Known T g
unfolding resumed
known_again T f g c budget k e r =
    record {
      accepted = k.accepted;
      symbols_read = k.symbols_read;
      budget = budget;
      stopped = subst (Stopped T budget) (sym (r ∙ ap (λ z. resumed z budget) (resumes T f c budget k e)))
          (run_from_stops T f.state budget k.stopped.reachable);
      few = (read_budget _ budget c e).1;
    }

known_begun : (bytes : List ℕ) (P : Problem) (f : Finished) → parse bytes ≡ ok P → Stopped (theory P) P.budget f → Known (theory P) f
known_begun bytes P f e h =
    record {
      accepted = accepts bytes P e;
      symbols_read = problem_symbols bytes P e;
      budget = P.budget;
      stopped = h;
      few = budget_accepted bytes P e;
    }

pub known : {T : Theory} {f : Finished} → EngineRan T f → Known T f
known {T} {f} (begun bytes P e q r) =
    subst (λ S. Known S f) q (known_begun bytes P f e (subst (Stopped (theory P) P.budget) (sym r) (run_stops P)))
known {T} (again {f} {g} c budget h e r) = known_again T f g c budget (known h) e r

-- "16 .. never for one that the engine wrote": it is read as the theory of the problem that the run began with, and the state in which it stopped.
pub saved_reads : (T : Theory) (f : Finished) (bytes : List ℕ) → EngineSaved T f bytes → read_checkpoint bytes ≡ ok (record { theory = T; state = f.state })
saved_reads T f bytes w = ap read_checkpoint (w.bytes_are ∙ saved_is T f w.stopped) ∙ known_back T f (known w.ran)

-- So a resumption of it is refused with 17 only,
not_16 : (large : Bool) (c : Checkpoint) (n p : ℕ) → (refuse_if large large_budget 0 >>= λ _. ok c) ≡ refused n p → n ≡ wrong_saved → ⊥
unfolding refuse_if ◌>>=◌
not_16 true c n p e q = let r : 17 ≡ n = cc in omega arith
not_16 false c n p e q = no_ok (sym e)

pub never_16 : (T : Theory) (f : Finished) (bytes : List ℕ) → EngineSaved T f bytes → (budget n p : ℕ) → read_resumption bytes budget ≡ refused n p →
    n ≡ wrong_saved → ⊥
unfolding read_resumption
never_16 T f bytes w budget n p e = not_16 (ltb most_budget budget) _ n p (sym (bind_ok _ (saved_reads T f bytes w)) ∙ e)

-- and goes on in that state.
pub saved_resumes : (T : Theory) (f : Finished) (bytes : List ℕ) → EngineSaved T f bytes → (budget : ℕ) → budget ≤ most_budget →
    read_resumption bytes budget ≡ ok (record { theory = T; state = f.state })
unfolding read_resumption ◌>>=◌ refuse_if
saved_resumes T f bytes w budget few = rw (saved_reads T f bytes w) (rw (le-ltb most_budget budget few) refl)

-- what a resumption of it is taken up from
pub resumed_from : (T : Theory) (f : Finished) (bytes : List ℕ) → EngineSaved T f bytes → (budget : ℕ) (c : Checkpoint) →
    read_resumption bytes budget ≡ ok c → c ≡ record { theory = T; state = f.state }
resumed_from T f bytes w budget c e = ok_injective (sym (read_budget bytes budget c e).0 ∙ saved_reads T f bytes w)
