-- Step 3 and steps 4 to 7, from what the state's methods promise: what each call requires, and what each way through answers. Assumes nothing.
-- Read first: specs/Turns (TurnSafe, TurnedIs), state/specs/Steps, proofs/Making, proofs/Steady.
use mathlib.Core.Path.{◌≡◌, refl, sym, ap, ap₂, ◌∙◌, subst}
use mathlib.Core.Logic.{◌⊎◌, inl, inr, ⊎_elim}
use mathlib.Core.List.{List}
use mathlib.Core.Option.{Option, none, some}
use Prim.Native.Nat.{ℕ, ◌+◌, ◌<◌, ◌≤◌}
use native.Mathlib.Omega.{arith}
use lib.Dec.{ltb}
use lib.ListN.{length}
use Rattle.limits.specs.Limits.{most_variables, most_apart, most_rules, most_entries}
use Rattle.terms.specs.Term.{Pair, pair_variables}
use Rattle.rewriting.specs.Rewrite.{Paid, done, stop, too_large, and_then, ◌>>=◌, end_if}
use Rattle.rewriting.specs.declared.End.{End as Ending}
use Rattle.rewriting.specs.declared.End.TheVariants.{TooLarge as EndsLarge, RulesFull}
use Rattle.std.specs.Prelude.{None, Some, Result, Ok, Err}
use Rattle.rewriting.proofs.Verdicts.{goes≢ends, same_end}
use Rattle.order.specs.Walk.{rank}
use Rattle.problem.specs.Problem.{rank_of, Theory}
use Rattle.completion.specs.Turn.{Origin, State as RunState, Taken as TakenPair, orient, waits_again, if_oriented, make_rule}
use Rattle.completion.specs.Calls.{origin_bytes}
use Rattle.slots.specs.Slots.{slot, mark_of, Layout, PairAt}
use Rattle.slots.proofs.Layouts.{layout_less}
use Rattle.orient.specs.Orients.{LowPair}
use Rattle.orient.specs.declared.Unoriented.{Unoriented}
use Rattle.orient.specs.declared.Unoriented.TheVariants.{Neither, TooLarge}
use Rattle.forms.specs.declared.Taken.{Taken}
use Rattle.compose.specs.declared.Composed.{Composed}
use Rattle.compose.specs.Rights.{All, ComposesFew}
use Rattle.state.specs.declared.State.{State}
use Rattle.state.specs.declared.Log.{Log}
use Rattle.state.specs.declared.Turned.{Turned}
use Rattle.state.specs.Run.{FineBut, Fine, Represents, goes_on_as, ended_as}
use Rattle.state.specs.Steps.{behind_first, without_oldest, with_entry, OrientsIs, Takes, Orients, PutsBack, Collapses, Logs}
use Rattle.turn.specs.Turns.{TurnSafe, TurnedIs}
use Rattle.state.proofs.Steady.{with_slots, units_fine, fine_but_one}
use Rattle.turn.proofs.Steady.{units_represent, slots_fine, stop_safe, go_safe}
use Rattle.turn.proofs.Making.{MadeIs, make_large, make_neither, make_full, make_rights_end, make_goes}

-- steps 2 and 3, from a state that has begun its turn
pub record Settles (st : State) (t : Taken) (o : Turned) : Type 0 where
  pub safe : t.units ≤ st.units → TurnSafe st o
  pub goes : o.end ≡ None
  pub units : o.state.units ≡ t.units
  pub represents : (tab : List ℕ) (s : RunState) (from : Origin) → Represents tab st s → mark_of (slot t.pair 0) ≡ origin_bytes from →
      Represents tab o.state (with_entry (without_oldest s) from 0)

pub same_count : {l m : Log} → l ≡ m → l.count ≡ m.count
same_count e = ap (λ (x : Log). x.count) e

-- step 3: what `settle` requires
pub settle_needs : {st tk : State} {pair : List ℕ} → Takes st tk → st.log.count < most_entries → Layout pair 1 →
    (tk.log.count < most_entries) × Layout pair 1
settle_needs K few y = (omega (arith, same_count K.same.log), y)

pub settles : {st tk lg : State} {t : Taken} {o : Turned} → Takes st tk → Logs tk (mark_of (slot t.pair 0)) 0 lg → o ≡ goes_on_as lg t.units →
    Settles st t o
settles {st} {tk} {lg} {t} K L e =
    subst (Settles st t) (sym e)
    (record {
      safe = λ l.
          go_safe refl (units_fine t.units (L.fine 0 (fine_but_one K.fine))) (L.entries ∙ ap (λ n. n + 1) (same_count K.same.log)) l;
      goes = refl;
      units = refl;
      represents = λ tab s o R m. units_represent t.units (L.represents tab (without_oldest s) o (K.represents tab s R) m);
    })

-- steps 4 to 7 of the pair that was taken
pub record Makes (tab pair : List ℕ) (first : State) (units : ℕ) (o : Turned) : Type 0 where
  pub safe : units ≤ first.units → TurnSafe first o
  pub answer : (T : Theory) → rank_of T.symbols ≡ rank tab → (s : RunState) (k : TakenPair) → Represents tab first s →
      k.waiting ≡ behind_first s.waiting → PairAt most_apart tab pair 0 k.pair.sides → mark_of (slot pair 0) ≡ origin_bytes k.pair.origin →
      TurnedIs tab s o (make_rule T s k units)

-- what their calls require
pub orient_room : {st tk : State} → Fine st → Takes st tk → tk.pairs.count ≤ most_rules
orient_room {st} {tk} F K = go K.room
  where
    go : tk.pairs.count < st.pairs.count ⊎ (tk.pairs.count ≡ tk.live) → tk.pairs.count ≤ most_rules
    go (inl h) = let a = F.together in omega arith
    go (inr h) = let a = K.fine.live_few in omega arith

pub compose_room : {tab origin : List ℕ} {made : ℕ} {st next entered : State} → Collapses tab st next → Logs next origin made entered →
    Layout entered.pairs.bytes entered.live
compose_room C L = let F = L.fine 1 C.fine in layout_less F.within F.layout

-- all right sides were done
pub all_done : {tab pairs pairs' : List ℕ} {live units : ℕ} {c : Composed} → ComposesFew tab live pairs pairs' units c → c.end ≡ None →
    (live ≤ most_rules) × All tab pairs pairs' live units c
all_done few w = ⊎_elim (λ f. absurd (goes≢ends w (ap (λ (x : Composed). x.end) f.1))) (λ f. f) few

-- `make_rule` looks at what waits in the pair that was taken only
make_without : (T : Theory) (s : RunState) (k : TakenPair) (u : ℕ) → make_rule T (without_oldest s) k u ≡ make_rule T s k u
unfolding make_rule ◌>>=◌
make_without T s k u =
    ap (λ m. and_then (end_if (ltb most_variables (length (pair_variables k.pair.sides))) too_large u) (λ _. m)) (go (orient T k.pair.sides))
  where
    go : (o : Option Pair) → if_oriented (without_oldest s) k o ≡ if_oriented s k o
    go none = unfold if_oriented waits_again in refl
    go (some sides) = unfold if_oriented in refl

-- a stop hands back the first state, and what goes on its own
module _ (tab : List ℕ) (s : RunState) where
  stop_turned : (first : State) (end : Ending) (n : ℕ) → Represents tab first s → (p : Paid RunState) → MadeIs tab (ended_as first end n) p →
      TurnedIs tab s (ended_as first end n) p
  stop_turned first end n R (done s' left) a = absurd (goes≢ends a.0 refl)
  stop_turned first end n R (stop f left) a = (a.0, a.1, units_represent n R)

  go_turned : (o : Turned) → o.end ≡ None → (p : Paid RunState) → MadeIs tab o p → TurnedIs tab s o p
  go_turned o v (done s' left) a = a
  go_turned o v (stop f left) a = absurd (goes≢ends v a.0)

-- what is answered, by what `orient` says
module _ {tab pair : List ℕ} {first rest : State} (F : Fine first) (K : Takes first rest) where
  -- steps 4 to 7 of the state without the pair come to something
  module _ {o : Result State Unoriented} (O : Orients tab pair rest o) (units : ℕ) (r : Turned) where
    abbrev Comes : Type 0
    Comes = (T : Theory) (s : RunState) (k : TakenPair) → Represents tab rest s → s.waiting ≡ k.waiting → PairAt most_apart tab pair 0 k.pair.sides →
        mark_of (slot pair 0) ≡ origin_bytes k.pair.origin → OrientsIs tab T s k.pair.sides o → MadeIs tab r (make_rule T s k units)

    comes : Comes → (T : Theory) → rank_of T.symbols ≡ rank tab → (s : RunState) (k : TakenPair) → Represents tab first s →
        k.waiting ≡ behind_first s.waiting → PairAt most_apart tab pair 0 k.pair.sides → mark_of (slot pair 0) ≡ origin_bytes k.pair.origin →
        MadeIs tab r (make_rule T s k units)
    comes h T ranks s k R waits shown mark =
        subst (MadeIs tab r) (make_without T s k units)
        (h T (without_oldest s) k (K.represents tab s R) (sym waits) shown mark
        (O.answer T ranks (without_oldest s) k.pair.sides (K.represents tab s R) shown))

    makes_stop : {end : Ending} {n : ℕ} → r ≡ ended_as first end n → n ≤ units → Comes → Makes tab pair first units r
    makes_stop {end} {n} e l h =
        record {
          safe = λ m. subst (TurnSafe first) (sym e) (stop_safe F (omega arith));
          answer = λ T ranks s k R waits shown mark.
              subst (λ x. TurnedIs tab s x (make_rule T s k units)) (sym e)
              (stop_turned tab s first end n R (make_rule T s k units)
              (subst (λ x. MadeIs tab x (make_rule T s k units)) e (comes h T ranks s k R waits shown mark)));
        }

    makes_on : r.end ≡ None → Fine r.state → r.state.log.count ≡ rest.log.count + 1 → r.state.units ≤ units → Comes →
        Makes tab pair first units r
    makes_on g fine grows l h =
        record {
          safe = λ m. go_safe g fine (grows ∙ ap (λ n. n + 1) (same_count K.same.log)) (omega arith);
          answer = λ T ranks s k R waits shown mark. go_turned tab s r g (make_rule T s k units) (comes h T ranks s k R waits shown mark);
        }

  pub makes_large : {units : ℕ} {r : Turned} → Orients tab pair rest (Err TooLarge) → r ≡ ended_as first EndsLarge units →
      Makes tab pair first units r
  makes_large {units} {r} O e =
      makes_stop O units r e (omega arith) (λ T s k R waits shown mark many.
      subst (λ x. MadeIs tab x (make_rule T s k units)) (sym e) (make_large tab T s k units first many))

  pub put_back_needs : Orients tab pair rest (Err Neither) → first.log.count < most_entries → Layout pair 1 →
      (Fine rest × (rest.pairs.count ≤ most_rules) × (rest.log.count < most_entries)) × (Layout pair 1 × LowPair pair)
  put_back_needs O room y = ((K.fine, orient_room F K, omega (arith, same_count K.same.log)), (y, O.low refl))

  pub makes_neither : {units : ℕ} {r : Turned} {back : State} → Orients tab pair rest (Err Neither) → PutsBack pair rest back →
      r ≡ goes_on_as back units → Makes tab pair first units r
  makes_neither {units} {r} {back} O B e =
      subst (Makes tab pair first units) (sym e)
      (makes_on O units (goes_on_as back units) refl (units_fine units B.fine) B.entries (omega arith) (λ T s k R waits shown mark h.
      make_neither tab T s k units h.0 h.1 (B.represents tab s k R waits shown h.0 mark)))

  module _ {placed : State} (O : Orients tab pair rest (Ok placed)) where
    pub collapse_room : FineBut 1 1 placed × (0 < placed.live)
    collapse_room = (O.more.fine, omega (arith, O.more.live))

    module _ {next : State} (C : Collapses tab placed next) where
      log_same : next.log.count ≡ rest.log.count
      log_same = same_count C.same.log ∙ same_count O.more.same.log

      pub enter_needs : first.log.count < most_entries → Layout pair 1 → FineBut 1 1 next × (next.log.count < most_entries) × Layout pair 1
      enter_needs room y = (C.fine, omega (arith, log_same, same_count K.same.log), y)

      module _ {entered : State} (L : Logs next (mark_of (slot pair 0)) next.made entered) {units : ℕ} {r : Turned} {b : List ℕ}
          {c : Composed} (few : ComposesFew tab entered.live entered.pairs.bytes b units c) where
        -- a 33rd live rule, or a right side stopped
        pub makes_ends : {end : Ending} → c.end ≡ Some end → r ≡ ended_as first end c.units → Makes tab pair first units r
        makes_ends {end} w e = go few
          where
            go : ComposesFew tab entered.live entered.pairs.bytes b units c → Makes tab pair first units r
            go (inl f) =
                let u : c.units ≡ units = ap (λ (x : Composed). x.units) f.1 in
                let x : end ≡ RulesFull = same_end w (ap (λ (x : Composed). x.end) f.1) in
                let q : r ≡ ended_as first RulesFull units = e ∙ ap₂ (λ a b. ended_as first a b) x u in
                makes_stop O units r q (omega arith) (λ T s k R waits shown mark h.
                subst (λ x. MadeIs tab x (make_rule T s k units)) (sym q) (make_full tab T s k units h.0 waits h.1 C mark L first f.0))
            go (inr f) =
                makes_stop O units r e f.1.left_over (λ T s k R waits shown mark h.
                subst (λ x. MadeIs tab x (make_rule T s k units)) (sym e)
                (make_rights_end tab T s k units h.0 waits h.1 C mark L f.0 f.1 first w))

        pub makes_goes : c.end ≡ None → r ≡ goes_on_as (with_slots entered b) c.units → Makes tab pair first units r
        makes_goes w e =
            let A = all_done few w in
            subst (Makes tab pair first units) (sym e)
            (makes_on O units (goes_on_as (with_slots entered b) c.units) refl (slots_fine c.units (L.fine 1 C.fine) A.1.only A.0)
            (omega (arith, L.entries, log_same)) A.1.left_over (λ T s k R waits shown mark h.
            make_goes tab T s k units h.0 waits h.1 C mark L A.0 A.1 w))
