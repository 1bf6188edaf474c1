-- `put_back`: one pair more behind all others, one entry more in the log, one more counted. Assumes nothing.
-- Read first: specs/Steps (PutsBack), orient/specs/Orients (Renames), proofs/Changing, proofs/Logging.
use mathlib.Core.Path.{◌≡◌, refl, sym, ap, ◌∙◌, subst}
use mathlib.Core.List.{List, [], ◌∷◌, ◌++◌, map, append-nil, append_assoc, map-append}
use Prim.Native.Nat.{ℕ, ◌+◌, ◌*◌, ◌<◌, ◌≤◌}
use native.Mathlib.Omega.{arith}
use lib.ListN.{length, length-append}
use Rattle.limits.specs.Limits.{most_apart, most_rules, most_entries}
use Rattle.terms.specs.Term.{renamed}
use Rattle.slots.specs.Slots.{slot_width, slot, mark_of, PairAt, MarkedAt, Holds, Inserted}
use Rattle.slots.proofs.Changes.{inserted_layout, inserted_holds}
use Rattle.completion.specs.Turn.{made_put_back, Candidate, State as RunState, Taken, waits_again}
use Rattle.completion.specs.Calls.{origin_bytes}
use Rattle.inputs.specs.Inputs.{marked}
use Rattle.orient.specs.Orients.{Few, Renames}
use Rattle.state.specs.declared.Log.{Log}
use Rattle.state.specs.declared.State.{State}
use Rattle.items.specs.Written.{logged_width}
use Rattle.collapse.specs.Rows.{held}
use Rattle.state.specs.Run.{Fine, Represents}
use Rattle.state.specs.Steps.{PutsBack, Enters}
use Rattle.collapse.proofs.Rows.{length_held, length_marked}
use Rattle.state.proofs.Logging.{logged_more}

module _ (st : State) (pair one b : List ℕ) (fine : Fine st) (few : st.pairs.count ≤ most_rules)
    (wide : slot_width * (st.pairs.count + 1) ≤ length st.pairs.bytes) (n : Renames pair one)
    (i : Inserted st.pairs.bytes st.pairs.count st.pairs.count one b) where
  -- what waits, with one more behind it
  module _ (tab : List ℕ) (s : RunState) (r : Represents tab st s) (c : Candidate) (m : MarkedAt tab one 0 (marked c)) where
    abbrev before : List Candidate
    before = held s.rules s.waiting

    behind : map marked (held s.rules (s.waiting ++ (c ∷ []))) ≡ map marked before ++ (marked c ∷ [])
    behind = ap (map marked) (sym (append_assoc (map _ s.rules) s.waiting (c ∷ []))) ∙ map-append marked before (c ∷ [])

    one_behind : Holds tab b 0 (map marked (held s.rules (s.waiting ++ (c ∷ []))))
    one_behind =
        let k : length (map marked before) ≡ st.pairs.count = length_marked before ∙ sym r.pairs.counted in
        let e : map marked before ++ [] ≡ map marked before = append-nil (map marked before) in
        subst (λ z. Holds tab b 0 z) (sym behind)
        (inserted_holds tab (map marked before) (marked c) [] (subst (λ z. Holds tab st.pairs.bytes 0 z) (sym e) r.pairs.holds) k
        (ap length e ∙ k) m i)

  module _ (room : st.log.count < most_entries) (long : logged_width * most_entries ≤ length st.log.bytes) (log : Log)
      (e : Enters made_put_back pair st.log log) where
    abbrev with_pair : State
    with_pair = record {
      pairs = record { bytes = b; count = st.pairs.count + 1 };
      live = st.live;
      made = st.made;
      log = log;
      back = st.back + 1;
      units = st.units;
    }

    again : (tab : List ℕ) (s : RunState) (t : Taken) → Represents tab st s → s.waiting ≡ t.waiting → PairAt most_apart tab pair 0 t.pair.sides →
        Few t.pair.sides → mark_of (slot pair 0) ≡ origin_bytes t.pair.origin → Represents tab with_pair (waits_again s t)
    unfolding waits_again
    again tab s t r w p few' q =
        let c : Candidate = record { origin = t.pair.origin; sides = renamed t.pair.sides } in
        let m : MarkedAt tab one 0 (marked c) = record { mark = n.marked ∙ q; pair = n.sides tab t.pair.sides p few' } in
        let k : length (s.waiting ++ (c ∷ [])) ≡ length s.waiting + 1 = length-append s.waiting (c ∷ []) in
        let h : Holds tab b 0 (map marked (held s.rules (t.waiting ++ (c ∷ [])))) =
        subst (λ l. Holds tab b 0 (map marked (held s.rules (l ++ (c ∷ []))))) w (one_behind tab s r c m) in
        record {
          pairs = record {
            holds = h;
            counted = ap (λ z. z + 1) (r.pairs.counted ∙ length_held s.rules s.waiting)
                ∙ omega (arith, k)
                ∙ sym (length_held s.rules (s.waiting ++ (c ∷ [])))
                ∙ ap (λ l. length (held s.rules (l ++ (c ∷ [])))) w;
          };
          live = r.live;
          made = r.made;
          log = logged_more st.log log pair made_put_back room long e s.log t.pair.origin r.log q;
          back = let z = r.back in omega arith;
        }

    pub put_back_done : PutsBack pair st with_pair
    put_back_done =
        let w = fine.within in
        let l = fine.live_few in
        let m = fine.made_few in
        let k = fine.back_few in
        let more = e.more in record {
          fine = record {
            layout = inserted_layout i wide fine.layout (n.layout.short 0 (omega arith)) (omega arith);
            within = omega arith;
            together = omega arith;
            live_few = l;
            log_few = omega arith;
            made_few = omega arith;
            back_few = omega arith;
          };
          entries = more;
          units = refl;
          represents = again;
        }
