-- The whole turn: what is due, from what was found, and what the definition's turn then comes to. Assumes nothing.
-- Read first: specs/Turns (LookIs, Turns), forms/specs/Forms (due_after), completion/proofs/Turning (turn_stops, ..), proofs/Steady.
use mathlib.Core.Path.{◌≡◌, refl, sym, ap, ap₂, ◌∙◌, subst}
use mathlib.Core.Bool.{Bool, true, false}
use mathlib.Core.List.{List, [], ◌∷◌, ◌++◌}
use Prim.Native.Nat.{ℕ, zero, suc, ◌+◌, ◌-◌, ◌<◌, ◌≤◌}
use native.Mathlib.Omega.{arith}
use lib.Dec.{ltb}
use lib.ListN.{length}
use Rattle.limits.specs.Limits.{most_apart, most_pairs, most_entries}
use Rattle.terms.specs.Term.{same}
use Rattle.terms.proofs.Shape.{zero≢one}
use Rattle.problem.specs.Problem.{Theory}
use Rattle.rewriting.specs.Rewrite.{End, complete, neither_above, spent, too_large, rules_full, log_full, Paid, done, stop}
use Rattle.rewriting.specs.Ends.{ending}
use Rattle.rewriting.specs.declared.End.{End as Ending}
use Rattle.rewriting.specs.declared.End.TheVariants.{Spent, LogFull}
use Rattle.std.specs.Prelude.{Some, Result, Ok, Err}
use Rattle.completion.specs.Turn.{State as RunState, Taken as TakenPair, settled, turn}
use Rattle.completion.specs.Calls.{origin_bytes}
use Rattle.completion.proofs.Turning.{taking, turn_unpaid, turn_stops, turn_log_full, turn_settles, turn_makes}
use Rattle.slots.specs.Slots.{slot, mark_of, Layout, PairAt}
use Rattle.slots.proofs.Layouts.{layout_less}
use Rattle.forms.specs.declared.Taken.{Taken}
use Rattle.state.specs.declared.State.{State}
use Rattle.state.specs.declared.Turned.{Turned}
use Rattle.state.specs.Run.{Fine, Represents, with_units, ended_as}
use Rattle.state.specs.Steps.{behind_first, without_oldest, with_entry}
use Rattle.turn.specs.declared.Waiting.{Waiting}
use Rattle.forms.specs.Forms.{due_after}
use Rattle.forms.specs.declared.Due.{Due}
use Rattle.forms.specs.declared.Due.TheVariants.{Settle, Make}
use Rattle.turn.specs.Turns.{Given, waiting_behind, PairsOf, FormsIn, LookStops, LookIs, Looks, TurnSafe, TurnedIs, Turns}
use Rattle.turn.proofs.Parts.{Settles, Makes}
use Rattle.collapse.proofs.Rows.{length_held}
use Rattle.forms.proofs.Entries.{Room, none_left, some_left, room}
use Rattle.state.proofs.Steady.{units_fine}
use Rattle.turn.proofs.Steady.{units_represent, stop_safe, begun_safe}

-- Step 1 stopped
look_stop : (e : End) (t : Taken) (waits : Bool) (n : ℕ) → LookStops e t waits → due_after t.found waits n ≡ Err (ending e)
unfolding due_after ending
look_stop complete t waits n h = ap₂ (λ f w. due_after f w n) h.0 h.1
look_stop neither_above t waits n h = ap (λ f. due_after f waits n) h
look_stop spent t waits n h = ap (λ f. due_after f waits n) h
look_stop too_large t waits n h = ap (λ f. due_after f waits n) h
look_stop rules_full t waits n h = absurd h
look_stop log_full t waits n h = absurd h

-- what the definition takes, by what is due
data Step (tab : List ℕ) (T : Theory) (s : RunState) (u : ℕ) (t : Taken) (n : ℕ) (d : Result Due Ending) : Type 0 where
  stops : (e : End) → taking T s u ≡ stop e t.units → d ≡ Err (ending e) → Step tab T s u t n d
  full : (k : TakenPair) → taking T s u ≡ done k t.units → most_entries ≤ n → d ≡ Err LogFull → Step tab T s u t n d
  settles : (k : TakenPair) → taking T s u ≡ done k t.units → n < most_entries → k.waiting ≡ behind_first s.waiting →
      mark_of (slot t.pair 0) ≡ origin_bytes k.pair.origin → same k.pair.sides.left k.pair.sides.right ≡ true → d ≡ Ok Settle →
      Step tab T s u t n d
  makes : (k : TakenPair) → taking T s u ≡ done k t.units → n < most_entries → k.waiting ≡ behind_first s.waiting →
      mark_of (slot t.pair 0) ≡ origin_bytes k.pair.origin → same k.pair.sides.left k.pair.sides.right ≡ false →
      PairAt most_apart tab t.pair 0 k.pair.sides → d ≡ Ok Make → Step tab T s u t n d

module _ (tab : List ℕ) (T : Theory) (s : RunState) (u : ℕ) (t : Taken) (waits : Bool) (n : ℕ) where
  abbrev Steps : Type 0
  Steps = Step tab T s u t n (due_after t.found waits n)

  step_of : (p : Paid TakenPair) → taking T s u ≡ p → LookIs tab t waits s p → Steps
  unfolding due_after
  step_of (stop e left) q a =
      stops e (q ∙ ap (stop e) (sym a.0)) (look_stop e t waits n a.1)
  step_of (done k left) q a = go (same k.pair.sides.left k.pair.sides.right) refl a.3
    where
      r : taking T s u ≡ done k t.units
      r = q ∙ ap (done k) (sym a.0)

      equal : same k.pair.sides.left k.pair.sides.right ≡ true → (d : Result Due Ending) → Room n Settle d → due_after t.found waits n ≡ d → Steps
      equal e d (none_left h w) z = full k r h (z ∙ w)
      equal e d (some_left h w) z = settles k r h a.1 a.2 e (z ∙ w)

      differ : same k.pair.sides.left k.pair.sides.right ≡ false → PairAt most_apart tab t.pair 0 k.pair.sides → (d : Result Due Ending) → Room n Make d →
          due_after t.found waits n ≡ d → Steps
      differ e y d (none_left h w) z = full k r h (z ∙ w)
      differ e y d (some_left h w) z = makes k r h a.1 a.2 e y (z ∙ w)

      go : (b : Bool) → same k.pair.sides.left k.pair.sides.right ≡ b → FormsIn tab t waits k.pair b → Steps
      go true e f = equal e _ (room n Settle) (ap₂ (λ x w. due_after x w n) f.0 f.1)
      go false e f = differ e f.1 _ (room n Make) (ap (λ x. due_after x waits n) f.0)

-- what waits in a state
abbrev waiting_of : State → Waiting
waiting_of st = waiting_behind st.live st.pairs.count st.back

pairs_of : {tab : List ℕ} {st : State} {s : RunState} → Represents tab st s → PairsOf tab st.pairs.bytes (waiting_of st) s
pairs_of {st = st} {s = s} R =
    record {
      holds = R.pairs.holds;
      live_is = R.live;
      waiting_is = omega (arith, R.pairs.counted, length_held s.rules s.waiting, R.live);
      back_is = R.back;
    }

-- `turn`: no unit is left
pub turn_spent : {tab inputs : List ℕ} {count : ℕ} {st : State} {o : Turned} → Fine st → st.units ≡ 0 → o ≡ ended_as st Spent 0 → Turns tab inputs count st o
unfolding ending
turn_spent {tab} {inputs} {count} {st} F z e =
    subst (Turns tab inputs count st) (sym e)
    (record {
      safe = stop_safe F (omega arith);
      answer = λ T G s R.
          subst (λ p. TurnedIs tab s (ended_as st Spent 0) p) (sym (ap (turn T s) z ∙ turn_unpaid T s)) (refl, refl, units_represent 0 R);
    })

-- the state that `settled` leaves
settled_as : (tab : List ℕ) (r : State) (s : RunState) (k : TakenPair) → k.waiting ≡ behind_first s.waiting →
    Represents tab r (with_entry (without_oldest s) k.pair.origin 0) → Represents tab r (settled s k)
unfolding settled
settled_as tab r s k w R =
    subst
    (λ l. Represents tab r (record {
      rules = s.rules;
      made = s.made;
      waiting = l;
      log = s.log ++ (record { origin = k.pair.origin; made = 0 } ∷ []);
      put_back = 0;
    }))
    (sym w) R

ends_full : Some LogFull ≡ Some (ending log_full)
unfolding ending
ends_full = refl

-- its unit is paid, and a pair is looked for
abbrev pub Began : State → State → Type 0
Began st begun = begun ≡ with_units st (st.units - 1)

abbrev some_behind : State → Bool
some_behind st = ltb 0 (waiting_of st).count

pub began_fine : {st begun : State} → Fine st → Began st begun → Fine begun
began_fine {st} F e = subst Fine (sym e) (units_fine (st.units - 1) F)

pub look_room : {st begun : State} {w : Waiting} → Fine st → Began st begun → w ≡ waiting_of begun →
    Layout begun.pairs.bytes w.live × (w.live ≤ most_pairs) × (0 < w.count → Layout begun.pairs.bytes (w.live + 1))
look_room {st} {begun} F e q =
    let B = began_fine F e in
    let w = B.within in
    let m = B.together in
    subst (λ (x : Waiting). Layout begun.pairs.bytes x.live × (x.live ≤ most_pairs) ×
    (0 < x.count → Layout begun.pairs.bytes (x.live + 1))) (sym q) (
      layout_less w B.layout,
      omega arith,
      λ h. layout_less (omega arith) B.layout,
    )

some_units : (n : ℕ) → (n ≡ 0 → ⊥) → n ≡ suc (n - 1)
some_units zero h = absurd (h refl)
some_units (suc n) h = omega arith

module _ {tab inputs : List ℕ} {count : ℕ} {st begun : State} {w : Waiting} {t : Taken} {d : Result Due Ending} (F : Fine st) (some : st.units ≡ 0 → ⊥)
    (began : Began st begun) (waits_are : w ≡ waiting_of begun) (looked : Looks tab begun.pairs.bytes w inputs count begun.units t)
    (due : d ≡ due_after t.found (ltb 0 w.count) begun.log.count) where
  abbrev u : ℕ
  u = st.units - 1

  abbrev waits : Bool
  waits = some_behind st

  L : Looks tab st.pairs.bytes (waiting_of st) inputs count u t
  L = subst (λ b. Looks tab b.pairs.bytes (waiting_of b) inputs count b.units t) began
      (subst (λ x. Looks tab begun.pairs.bytes x inputs count begun.units t) waits_are looked)

  is : d ≡ due_after t.found waits st.log.count
  is =
      due ∙ ap (λ (x : Waiting). due_after t.found (ltb 0 x.count) begun.log.count) waits_are
      ∙ ap (λ b. due_after t.found (some_behind b) b.log.count) began

  steps : (T : Theory) → Given tab inputs count T → (s : RunState) → Represents tab st s → Step tab T s u t (length s.log) d
  steps T G s R =
      let a : Step tab T s u t st.log.count (due_after t.found waits st.log.count) =
      step_of tab T s u t waits st.log.count _ refl (L.answer T G s (pairs_of R)) in
      subst (λ n. Step tab T s u t n d) R.log.counted (subst (Step tab T s u t st.log.count) (sym is) a)

  turned : (o : Turned) → TurnSafe (with_units st u) o →
      ((T : Theory) → Given tab inputs count T → (s : RunState) → Represents tab st s → TurnedIs tab s o (turn T s (suc u))) →
      Turns tab inputs count st o
  turned o safe answer =
      record {
        safe = begun_safe (omega arith) safe;
        answer = λ T G s R. subst (λ n. TurnedIs tab s o (turn T s n)) (sym (some_units st.units some)) (answer T G s R);
      }

  abbrev IsEnd : Ending → RunState → Paid RunState → Type 0
  IsEnd end s q = TurnedIs tab s (ended_as (with_units st u) end t.units) q

  pub turn_ends : {end : Ending} {o : Turned} → d ≡ Err end → o ≡ ended_as begun end t.units → Turns tab inputs count st o
  turn_ends {end} {o} p e' =
      subst (Turns tab inputs count st) (sym (e' ∙ ap (λ b. ended_as b end t.units) began))
      (turned (ended_as (with_units st u) end t.units) (stop_safe (units_fine u F) L.left_over) (λ T G s R. go T s R (steps T G s R)))
    where
      go : (T : Theory) (s : RunState) → Represents tab st s → Step tab T s u t (length s.log) d → IsEnd end s (turn T s (suc u))
      go T s R (stops e q z) =
          let w : end ≡ ending e = cc in
          subst (IsEnd end s) (sym (turn_stops T s u e t.units q)) (ap Some w, refl, units_represent t.units R)
      go T s R (full k q h z) =
          let w : end ≡ LogFull = cc in
          subst (IsEnd end s) (sym (turn_log_full T s u k t.units q h)) (ap Some w ∙ ends_full, refl, units_represent t.units R)
      go T s R (settles k q h w m e z) = absurd (zero≢one (cc))
      go T s R (makes k q h w m e y z) = absurd (zero≢one (cc))

  pub turn_settled : {o : Turned} → d ≡ Ok Settle → Settles begun t o → Turns tab inputs count st o
  turn_settled {o} p S' =
      let S : Settles (with_units st u) t o = subst (λ b. Settles b t o) began S' in
      turned o (S.safe L.left_over) (λ T G s R. go S T s R (steps T G s R))
    where
      go : Settles (with_units st u) t o → (T : Theory) (s : RunState) → Represents tab st s → Step tab T s u t (length s.log) d →
          TurnedIs tab s o (turn T s (suc u))
      go S T s R (stops e q z) = absurd (zero≢one (cc))
      go S T s R (full k q h z) = absurd (zero≢one (cc))
      go S T s R (settles k q h w m e z) =
          subst (TurnedIs tab s o) (sym (turn_settles T s u k t.units q h e))
          (S.goes, S.units, settled_as tab o.state s k w (S.represents tab s k.pair.origin (units_represent u R) m))
      go S T s R (makes k q h w m e y z) = absurd (zero≢one (cc))

  pub turn_made : {o : Turned} → d ≡ Ok Make → Makes tab t.pair begun t.units o → Turns tab inputs count st o
  turn_made {o} p M' =
      let M : Makes tab t.pair (with_units st u) t.units o = subst (λ b. Makes tab t.pair b t.units o) began M' in
      turned o (M.safe L.left_over) (λ T G s R. go M T G s R (steps T G s R))
    where
      go : Makes tab t.pair (with_units st u) t.units o → (T : Theory) → Given tab inputs count T → (s : RunState) → Represents tab st s →
          Step tab T s u t (length s.log) d → TurnedIs tab s o (turn T s (suc u))
      go M T G s R (stops e q z) = absurd (zero≢one (cc))
      go M T G s R (full k q h z) = absurd (zero≢one (cc))
      go M T G s R (settles k q h w m e z) = absurd (zero≢one (cc))
      go M T G s R (makes k q h w m e y z) =
          subst (TurnedIs tab s o) (sym (turn_makes T s u k t.units q h e)) (M.answer T G.ranks s k (units_represent u R) w y m)
