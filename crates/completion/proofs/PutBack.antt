-- Document 02, Six: which of the equations that wait have been put back "since a rule was last made or an equation settled", and that end 20 is given
-- "exactly when some equation waits and every one waiting has been put back" so. With end 20, "neither side above the other", this holds of each that
-- waits. Assumes nothing.
-- Read first: specs/Turn, proofs/Ends, proofs/Reachable.
use mathlib.Core.Path.{◌≡◌, refl, sym, ap, subst, subst₂, ◌∙◌}
use mathlib.Core.Bool.{Bool, true, false, false≢true}
use mathlib.Core.Logic.{◌↔◌, ⊎_elim}
use mathlib.Core.List.{List, [], ◌∷◌, ◌++◌, map, append_assoc, append-nil, map-append}
use mathlib.Core.Option.{Option, none, some}
use Prim.Native.Nat.{ℕ, suc, ◌≤◌, ◌<◌}
use native.Mathlib.Omega.{arith}
use lib.ListN.{length, length-append}
use Rattle.terms.specs.Base.{Every, of_none}
use Rattle.terms.specs.Term.{Term, Pair, renamed, subst_term}
use Rattle.terms.proofs.Shape.{zero≢one}
use Rattle.terms.proofs.Subst.{Subst}
use Rattle.terms.proofs.Rename.{renamed_back}
use Rattle.terms.proofs.Every.{every_one, every_append}
use Rattle.order.specs.Order.{above}
use Rattle.order.proofs.PathOrder.{Above}
use Rattle.order.proofs.Closure.{above_subst}
use Rattle.order.proofs.Decide.{above_dec}
use Rattle.rewriting.specs.Overlap.{Rule}
use Rattle.rewriting.specs.Rewrite.{step, neither_above, Paid, stop}
use Rattle.rewriting.proofs.Steps.{step_subst}
use Rattle.rewriting.proofs.Stepping.{StepBy, step_sound, step_none}
use Rattle.problem.specs.Problem.{rank_of, Theory}
use Rattle.completion.specs.Turn.{Candidate, made_put_back, Entry, State, Taken, initial, waits_again, settled, turn, Finished}
use Rattle.completion.proofs.Sentences.{AllPutBack, taking_ends, MayTake}
use Rattle.completion.proofs.Turning.{turn_stops}
use Rattle.completion.proofs.Ends.{none≢waiting, Source, of_waiting, of_overlap, of_input, Takes, NeitherAbove, Next, settles, makes, puts_back, Because}
use Rattle.completion.proofs.Reachable.{Reachable, from_start, by_turn, after, turn_next, next_entry}
use Rattle.completion.proofs.Stopped.{Stopped, run_neither}

-- An equation that can only wait: "neither side above", and no live rule rewrites a side.
pub record Stuck (T : Theory) (rules : List Rule) (e : Pair) : Type 0 where
  pub neither : NeitherAbove T e
  pub left : step rules e.left ≡ none
  pub right : step rules e.right ≡ none

-- What is above, or is rewritten, is so in each instance; so renaming makes no side above the other, and no step.
not_above : (rank : ℕ → ℕ) (δ : Subst) (s t u v : Term) → subst_term δ s ≡ u → subst_term δ t ≡ v → above rank u v ≡ false → above rank s t ≡ false
not_above rank δ s t u v p q h = go (above rank s t) refl
  where
    go : (b : Bool) → above rank s t ≡ b → b ≡ false
    go false e = refl
    go true e = absurd (false≢true (sym h ∙ (above_dec rank u v).1 (subst₂ (Above rank) p q (above_subst rank δ ((above_dec rank s t).0 e)))))

no_step : (rules : List Rule) (δ : Subst) (t u : Term) → subst_term δ t ≡ u → step rules u ≡ none → step rules t ≡ none
no_step rules δ t u p h = go (step rules t) refl
  where
    go : (o : Option Term) → step rules t ≡ o → o ≡ none
    go none e = refl
    go (some w) e = absurd (step_none rules u h _ (subst (λ z. StepBy rules z (subst_term δ w)) p (step_subst δ (step_sound rules t w e))))

pub renamed_neither : (T : Theory) (e : Pair) → NeitherAbove T e → NeitherAbove T (renamed e)
renamed_neither T e h =
    let l = (renamed_back e).0 in
    let r = (renamed_back e).1 in
    record {
      not_left = not_above (rank_of T.symbols) _ _ _ _ _ l r h.not_left;
      not_right = not_above (rank_of T.symbols) _ _ _ _ _ r l h.not_right;
    }

renamed_stuck : (T : Theory) (rules : List Rule) (e : Pair) → Stuck T rules e → Stuck T rules (renamed e)
renamed_stuck T rules e h =
    record {
      neither = renamed_neither T e h.neither;
      left = no_step rules _ _ _ (renamed_back e).0 h.left;
      right = no_step rules _ _ _ (renamed_back e).1 h.right;
    }

-- No entry, or the last one is of a rule that was made or of an equation that was settled.
pub data LastChange : List Entry → Type 0 where
  no_entry : {log : List Entry} → log ≡ [] → LastChange log
  changed : {log : List Entry} (front : List Entry) (e : Entry) → log ≡ front ++ (e ∷ []) → (e.made ≡ made_put_back → ⊥) → LastChange log

-- The equations put back "since a rule was last made or an equation settled": the last so many of the waiting list, in the order of their entries, which
-- are the last of the log and have ffff. All others that wait are older.
pub record PutBackSince (T : Theory) (s : State) : Type 0 where
  pub older : List Candidate
  pub back : List Candidate
  pub waits : s.waiting ≡ older ++ back
  pub counted : length back ≡ s.put_back
  pub earlier : List Entry
  pub entries : List Entry
  pub logged : s.log ≡ earlier ++ entries
  pub are_put_back : Every (λ (e : Entry). e.made ≡ made_put_back) entries
  pub before : LastChange earlier
  pub same_origins : map (λ (c : Candidate). c.origin) back ≡ map (λ (e : Entry). e.origin) entries
  pub stuck : Every (λ (c : Candidate). Stuck T s.rules c.sides) back

module _ (T : Theory) where
  -- none, where a rule was made or an equation settled, and at first
  none_since : (s : State) → s.put_back ≡ 0 → LastChange s.log → PutBackSince T s
  none_since s e h =
      record {
        older = s.waiting;
        back = [];
        waits = sym (append-nil s.waiting);
        counted = sym e;
        earlier = s.log;
        entries = [];
        logged = sym (append-nil s.log);
        are_put_back = of_none;
        before = h;
        same_origins = refl;
        stuck = of_none;
      }

  -- Of the equations that still wait when one was taken, the same are put back: what was taken is older, or none waited.
  abbrev StillBack : {s : State} → PutBackSince T s → List Candidate → Type 0
  StillBack h cs = (older : List Candidate) × (cs ≡ older ++ h.back)

  none_behind : {s : State} (h : PutBackSince T s) → s.waiting ≡ [] → StillBack h []
  none_behind h w = go h.older h.back (sym w ∙ h.waits)
    where
      go : (a b : List Candidate) → [] ≡ a ++ b → (older : List Candidate) × ([] ≡ older ++ b)
      go [] b e = ([], e)
      go (c ∷ a) b e = absurd (zero≢one (cc))

  rest_behind : {s : State} (h : PutBackSince T s) → MayTake s → (c : Candidate) (cs : List Candidate) → s.waiting ≡ c ∷ cs → StillBack h cs
  rest_behind {s} h may c cs w = go h.older (sym w ∙ h.waits)
    where
      go : (a : List Candidate) → c ∷ cs ≡ a ++ h.back → (older : List Candidate) × (cs ≡ older ++ h.back)
      go [] e =
          let l : suc (length cs) ≡ length h.back = ap length e in
          let k : length s.waiting ≡ suc (length cs) = ap length w in
          let n : length h.back ≡ s.put_back = h.counted in
          absurd (⊎_elim (λ q. omega arith) (λ q. omega arith) may)
      go (b ∷ a) e = (a, (cc))

  source_behind : {s : State} (h : PutBackSince T s) → MayTake s → (c : Candidate) (cs : List Candidate) → Source T s c cs → StillBack h cs
  source_behind h may c cs (of_waiting w) = rest_behind h may c cs w
  source_behind h may c cs (of_overlap at o z small e q) = subst (StillBack h) (sym q) (none_behind h z.idle)
  source_behind h may c cs (of_input w a i q) = subst (StillBack h) (sym q) (none_behind h w)

  -- A turn.
  next_since : (s s' : State) → s.made ≤ length s.log → PutBackSince T s → Next T s s' → PutBackSince T s'
  unfolding settled waits_again
  next_since s s' m h (settles t g room q e) = rw e (none_since (settled s t) refl (changed s.log _ refl (λ z. omega arith)))
  next_since s s' m h (makes t g room d few sides o live done r e) = rw e (none_since _ refl (changed s.log _ refl (λ z. omega arith)))
  next_since s s' m h (puts_back t g room d few n may e) =
      let b = source_behind h may g.of t.waiting g.source in
      let c : Candidate = record { origin = t.pair.origin; sides = renamed t.pair.sides } in
      let entry : Entry = record { origin = t.pair.origin; made = made_put_back } in
      let l = length-append h.back (c ∷ []) in
      let k : length h.back ≡ s.put_back = h.counted in
      rw e
      (record {
        older = b.0;
        back = h.back ++ (c ∷ []);
        waits = ap (λ z. z ++ (c ∷ [])) b.1 ∙ append_assoc b.0 h.back (c ∷ []);
        counted = omega arith;
        earlier = h.earlier;
        entries = h.entries ++ (entry ∷ []);
        logged = ap (λ z. z ++ (entry ∷ [])) h.logged ∙ append_assoc h.earlier h.entries (entry ∷ []);
        are_put_back = every_append h.are_put_back (every_one {x = entry} refl);
        before = h.before;
        same_origins = map-append (λ (c : Candidate). c.origin) h.back (c ∷ []) ∙ ap (λ z. z ++ (t.pair.origin ∷ [])) h.same_origins
            ∙ sym (map-append (λ (e : Entry). e.origin) h.entries (entry ∷ []));
        stuck = every_append h.stuck
            (every_one {x = c} (renamed_stuck T s.rules t.pair.sides
            (record { neither = n; left = g.forms.left.normal; right = g.forms.right.normal })));
      })

  -- A rule is made with an entry, and at most 512 entries are made, so no rule has the number ffff.
  next_made : (s s' : State) → Next T s s' → s'.made ≤ suc s.made
  unfolding settled waits_again
  next_made s s' (settles t g room q e) = rw e (omega arith)
  next_made s s' (makes t g room d few sides o live done r e) = rw e (omega arith)
  next_made s s' (puts_back t g room d few n may e) = rw e (omega arith)

  reachable_made : {s : State} → Reachable T s → s.made ≤ length s.log
  unfolding initial
  reachable_made (from_start e) = rw e (omega arith)
  reachable_made (by_turn {s} {s'} left {left'} r e) =
      let n = turn_next T s s' left left' e in
      omega (arith, reachable_made r, next_made s s' n, next_entry T s s' n)

  -- Every state of a run.
  pub reachable_since : {s : State} → Reachable T s → PutBackSince T s
  unfolding initial
  reachable_since (from_start e) = rw e (none_since (initial T) refl (no_entry refl))
  reachable_since (by_turn {s} {s'} left {left'} r e) = next_since s s' (reachable_made r) (reachable_since r) (turn_next T s s' left left' e)

  -- "An equation taken again is logged with its first kind, numbers and position": what waits is logged with the origin that it waits with, and by
  -- `same_origins` what is put back waits with the origin of its entry.
  oldest_taken : {s : State} {c d : Candidate} {cs ds : List Candidate} → s.waiting ≡ c ∷ cs → Source T s d ds → d ≡ c
  oldest_taken w (of_waiting v) = cc
  oldest_taken w (of_overlap at o z small e q) = absurd (none≢waiting (sym z.idle ∙ w))
  oldest_taken w (of_input v a i q) = absurd (none≢waiting (sym v ∙ w))

  pub logged_as_waits : {s s' : State} {c : Candidate} {cs : List Candidate} → s.waiting ≡ c ∷ cs → Next T s s' →
      (made : ℕ) × (s'.log ≡ s.log ++ (record { origin = c.origin; made = made } ∷ []))
  unfolding settled waits_again
  logged_as_waits {s} {s'} {c} {cs} w n = go n
    where
      same : (t : Taken) → Takes T s t → t.pair.origin ≡ c.origin
      same t g = g.origin ∙ ap (λ (d : Candidate). d.origin) (oldest_taken w g.source)

      go : Next T s s' → (made : ℕ) × (s'.log ≡ s.log ++ (record { origin = c.origin; made = made } ∷ []))
      go (settles t g room q e) = (0, rw (e, same t g) refl)
      go (makes t g room d few sides o live done r e) = (suc s.made, rw (e, same t g) refl)
      go (puts_back t g room d few n may e) = (made_put_back, rw (e, same t g) refl)

  -- As many as wait have been put back exactly if some equation waits and none that waits is older.
  none_older : {s : State} (h : PutBackSince T s) → AllPutBack s → h.older ≡ []
  none_older {s} h b = go h.older h.waits
    where
      go : (a : List Candidate) → s.waiting ≡ a ++ h.back → a ≡ []
      go [] e = refl
      go (c ∷ a) e =
          let k : length s.waiting ≡ suc (length (a ++ h.back)) = ap length e in
          absurd (omega (arith, length-append a h.back, h.counted, b.all))

  waits_back : {s : State} (h : PutBackSince T s) → h.older ≡ [] → s.waiting ≡ h.back
  waits_back h e = h.waits ∙ ap (λ a. a ++ h.back) e

  some_wait : {s : State} → AllPutBack s → s.waiting ≡ [] → ⊥
  some_wait {s} b e = let n : length s.waiting ≡ 0 = ap length e in omega (arith, b.some)

  all_back : {s : State} (h : PutBackSince T s) → (s.waiting ≡ [] → ⊥) → h.older ≡ [] → AllPutBack s
  all_back {s} h w e =
      let k : length s.waiting ≡ length h.back = ap length (waits_back h e) in
      record { some = go s.waiting w; all = omega (arith, h.counted) }
    where
      go : (cs : List Candidate) → (cs ≡ [] → ⊥) → 0 < length cs
      go [] w = absurd (w refl)
      go (c ∷ cs) w = omega arith

  ended_20 : (s : State) (left l : ℕ) → turn T s left ≡ stop neither_above l → AllPutBack s
  unfolding Because
  ended_20 s left l e = after T s left (stop neither_above l) e

  -- "End 20 is given exactly when some equation waits and every one waiting has been put back since a rule was last made or an equation settled. This is
  -- tested at the start of the next turn, after its unit is paid": in a turn for which there is a unit.
  pub turn_ends_20 : {s : State} (r : Reachable T s) (left : ℕ) →
      ((l : ℕ) × (turn T s (suc left) ≡ stop neither_above l)) ↔ ((s.waiting ≡ [] → ⊥) × ((reachable_since r).older ≡ []))
  turn_ends_20 {s} r left = (
    λ h. let b = ended_20 s (suc left) h.0 h.1 in (some_wait b, none_older (reachable_since r) b),
    λ h. (left, turn_stops T s left neither_above left (taking_ends T s left (all_back (reachable_since r) h.0 h.1))),
  )

  -- It costs that unit and no more.
  pub turn_20_left : (s : State) (left l : ℕ) → turn T s (suc left) ≡ stop neither_above l → l ≡ left
  turn_20_left s left l e =
      let b = ended_20 s (suc left) l e in
      let q : ◌≡◌ {A = Paid State} (stop neither_above left) (stop neither_above l) =
      sym (turn_stops T s left neither_above left (taking_ends T s left b)) ∙ e in
      cc

  -- Demand 2, document 01's "run: neither side above the other", end 20: some equation waits,
  pub run_waits : {budget : ℕ} {f : Finished} → Stopped T budget f → f.end ≡ neither_above → f.state.waiting ≡ [] → ⊥
  run_waits h q = some_wait (run_neither h q)

  -- and of each that waits neither side is above the other, nor does a live rule rewrite one.
  pub run_stuck : {budget : ℕ} {f : Finished} → Stopped T budget f → f.end ≡ neither_above →
      Every (λ (c : Candidate). Stuck T f.state.rules c.sides) f.state.waiting
  run_stuck {budget} {f} k q =
      let h = reachable_since k.reachable in
      subst (Every (λ (c : Candidate). Stuck T f.state.rules c.sides)) (sym (waits_back h (none_older h (run_neither k q)))) h.stuck
