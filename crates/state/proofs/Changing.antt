-- What `initial`, `take`, `orient` and `collapse` make of the state that is stood for: the slots change as the lists do. Assumes nothing.
-- Read first: specs/Run (Represents, FineBut), specs/Steps, Rows, slots/proofs/Changes.
use mathlib.Core.Path.{◌≡◌, refl, sym, ap, ◌∙◌, subst}
use mathlib.Core.Logic.{inl, inr}
use mathlib.Core.List.{List, [], ◌∷◌, ◌++◌, map, flat_map}
use Prim.Native.Nat.{ℕ, suc, ◌+◌, ◌-◌, ◌*◌, ◌<◌, ◌≤◌}
use native.Mathlib.Omega.{arith}
use lib.ListN.{length, length-append}
use Rattle.std.specs.Prelude.{Ok, Err}
use Rattle.limits.specs.Limits.{most_equations, most_rules, most_variables}
use Rattle.terms.specs.Term.{Pair}
use Rattle.terms.proofs.Shape.{zero≢one}
use Rattle.rewriting.specs.Overlap.{Rule as LiveRule}
use Rattle.problem.specs.Problem.{Theory}
use Rattle.slots.specs.Slots.{slot_width, slot, Layout, PairAt, MarkedAt, Holds, Removed, Inserted}
use Rattle.slots.specs.declared.Pairs.{Pairs}
use Rattle.slots.proofs.Listing.{pair_moved}
use Rattle.slots.proofs.Changes.{removed_layout, inserted_layout, removed_holds, inserted_holds}
use Rattle.completion.specs.Turn.{removed_rule, Candidate, State as RunState, initial}
use Rattle.completion.specs.Calls.{origin_bytes}
use Rattle.inputs.specs.Inputs.{marked, Held}
use Rattle.orient.specs.Orients.{OrientedIs, RuleOf}
use Rattle.orient.specs.declared.Unoriented.{Unoriented}
use Rattle.orient.specs.declared.Unoriented.TheVariants.{Neither, TooLarge}
use Rattle.state.specs.declared.State.{State}
use Rattle.collapse.specs.Rows.{as_removed, held}
use Rattle.state.specs.Run.{FineBut, Fine, Represents}
use Rattle.collapse.specs.Sifting.{Sifted}
use Rattle.state.specs.Steps.{Initial, behind_first, Takes, with_rule, OrientsIs, Orients, collapsed, Collapses}
use Rattle.items.specs.Written.{row}
use Rattle.collapse.proofs.Rows.{held_rows, held_more, length_held, length_rows, length_marked, row_at}

-- `initial`
pub initial_done : (inputs : Pairs) (budget : ℕ) (zeros : List ℕ) → Layout inputs.bytes inputs.count → inputs.count ≤ most_equations →
    Initial inputs budget (record { pairs = inputs; live = 0; made = 0; log = record { bytes = zeros; count = 0 }; back = 0; units = budget })
unfolding initial flat_map
initial_done inputs budget zeros y few = record {
  fine = record {
    layout = y;
    within = omega arith;
    together = omega arith;
    live_few = omega arith;
    log_few = omega arith;
    made_few = omega arith;
    back_few = omega arith;
  };
  units = refl;
  empty = refl;
  represents = λ tab T h. record { pairs = h; live = refl; made = refl; log = record { bytes = refl; counted = refl }; back = refl };
}

-- the rows of a state that is stood for
module _ (tab : List ℕ) (st : State) (s : RunState) (r : Represents tab st s) where
  pub rows : Holds tab st.pairs.bytes 0 (map row s.rules ++ map marked s.waiting)
  rows = subst (λ z. Holds tab st.pairs.bytes 0 z) (held_rows s.rules s.waiting) r.pairs.holds

  pub all_rows : st.pairs.count ≡ st.live + length s.waiting
  all_rows = let l = r.live in r.pairs.counted ∙ length_held s.rules s.waiting ∙ omega arith

  pub rules_rows : length (map row s.rules) ≡ st.live
  rules_rows = length_rows s.rules ∙ sym r.live

-- `take`
module _ (st : State) (fine : Fine st) where
  module _ (some : st.live < st.pairs.count) (b : List ℕ) (d : Removed st.pairs.bytes st.live st.pairs.count b) where
    abbrev without_first : State
    without_first = record {
      pairs = record { bytes = b; count = st.pairs.count - 1 };
      live = st.live;
      made = st.made;
      log = st.log;
      back = st.back;
      units = st.units;
    }

    taken : (tab : List ℕ) (s : RunState) → Represents tab st s → (ws : List Candidate) → s.waiting ≡ ws →
        Represents tab without_first (record { rules = s.rules; made = s.made; waiting = behind_first ws; log = s.log; put_back = s.put_back })
    unfolding behind_first
    taken tab s r [] e = absurd (omega (arith, all_rows tab st s r, ap length e))
    taken tab s r (c ∷ cs) e =
        let n : st.pairs.count ≡ st.live + suc (length cs) = all_rows tab st s r ∙ omega (arith, ap length e) in
        let l = r.live in
        record {
          pairs = record {
            holds =
                subst (λ z. Holds tab b 0 z) (sym (held_rows s.rules cs))
                (removed_holds tab (map row s.rules) (marked c) (map marked cs)
                (subst (λ z. Holds tab st.pairs.bytes 0 (map row s.rules ++ map marked z)) e (rows tab st s r))
                (rules_rows tab st s r)
                (length-append (map row s.rules) (marked c ∷ map marked cs) ∙ omega (arith, n, rules_rows tab st s r, length_marked cs))
                d);
            counted = omega (arith, n, length_held s.rules cs);
          };
          live = l;
          made = r.made;
          log = r.log;
          back = r.back;
        }

    pub take_done : Takes st without_first
    take_done =
        let t = fine.together in record {
          fine = record {
            layout = removed_layout d fine.layout (let e : suc (st.pairs.count - 1) ≡ st.pairs.count = omega arith in e) some;
            within = omega arith;
            together = omega arith;
            live_few = fine.live_few;
            log_few = fine.log_few;
            made_few = fine.made_few;
            back_few = fine.back_few;
          };
          same = record { log = refl; back = refl; units = refl };
          live = refl;
          room = inl (omega arith);
          represents = λ tab s r. taken tab s r s.waiting refl;
        }

  module _ (none : st.pairs.count ≤ st.live) where
    not_taken : (tab : List ℕ) (s : RunState) → Represents tab st s → (ws : List Candidate) → s.waiting ≡ ws →
        Represents tab st (record { rules = s.rules; made = s.made; waiting = behind_first ws; log = s.log; put_back = s.put_back })
    unfolding behind_first
    not_taken tab s r [] e =
        record {
          pairs = subst (λ z. Held tab st.pairs (held s.rules z)) e r.pairs;
          live = r.live;
          made = r.made;
          log = r.log;
          back = r.back;
        }
    not_taken tab s r (c ∷ cs) e = absurd (omega (arith, all_rows tab st s r, ap length e))

    pub take_none : Takes st st
    take_none =
        let w = fine.within in record {
          fine = fine;
          same = record { log = refl; back = refl; units = refl };
          live = refl;
          room = inr (omega arith);
          represents = λ tab s r. not_taken tab s r s.waiting refl;
        }

-- `orient`
module _ (tab pair : List ℕ) (st : State) where
  no_rule : (T : Theory) (s : RunState) (p : Pair) (why : Unoriented) → OrientedIs tab T p (Err why) → OrientsIs tab T s p (Err why)
  no_rule T s p Neither a = a
  no_rule T s p TooLarge a = a

  pub orient_none : (number : ℕ) (why : Unoriented) → RuleOf tab pair number (Err why) → Orients tab pair st (Err why)
  orient_none number why h = record {
    more = tt;
    low = λ e. h.low (cc);
    answer = λ T k s p r q. no_rule T s p why (h.answer T k p q);
  }

  module _ (one : List ℕ) (fine : Fine st) (h : RuleOf tab pair (st.made + 1) (Ok one)) (few : st.pairs.count ≤ most_rules)
      (room : slot_width * (st.pairs.count + 1) ≤ length st.pairs.bytes) (b : List ℕ)
      (i : Inserted st.pairs.bytes st.live st.pairs.count one b) where
    abbrev with_new : State
    with_new = record {
      pairs = record { bytes = b; count = st.pairs.count + 1 };
      live = st.live + 1;
      made = st.made + 1;
      log = st.log;
      back = st.back;
      units = st.units;
    }

    module _ (s : RunState) (r : Represents tab st s) (p : Pair) (a : PairAt most_variables tab one 0 p) where
      abbrev new : LiveRule
      new = record { number = suc s.made; sides = p }

      more_made : st.made + 1 ≡ suc s.made
      more_made = let m = r.made in omega arith

      new_row : MarkedAt tab one 0 (row new)
      unfolding origin_bytes
      new_row = record { mark = h.numbered.marked ∙ ap (λ n. origin_bytes (removed_rule n)) more_made; pair = a }

      with_new_rule : Represents tab with_new (with_rule s p)
      with_new_rule =
          let l = r.live in
          let one = length-append s.rules (new ∷ []) in
          let n = all_rows tab st s r in
          record {
            pairs = record {
              holds =
                  subst (λ z. Holds tab b 0 z) (sym (held_more s.rules new s.waiting))
                  (inserted_holds tab (map row s.rules) (row new) (map marked s.waiting) (rows tab st s r) (rules_rows tab st s r)
                  (length-append (map row s.rules) (map marked s.waiting) ∙ omega (arith, n, rules_rows tab st s r, length_marked s.waiting))
                  new_row i);
              counted = omega (arith, n, one, length_held (s.rules ++ (new ∷ [])) s.waiting);
            };
            live = omega arith;
            made = more_made;
            log = r.log;
            back = r.back;
          }

    pub orient_done : Orients tab pair st (Ok with_new)
    orient_done =
        let w = fine.within in
        let l = fine.live_few in
        let m = fine.made_few in record {
          more = record {
            fine = record {
              layout = inserted_layout i room fine.layout (h.numbered.layout.short 0 (omega arith)) w;
              within = omega arith;
              together = omega arith;
              live_few = omega arith;
              log_few = fine.log_few;
              made_few = omega arith;
              back_few = fine.back_few;
            };
            live = refl;
            made = refl;
            same = record { log = refl; back = refl; units = refl };
          };
          low = λ e. absurd (zero≢one (cc));
          answer = λ T k s p r q.
              let a = h.answer T k p q in
              let p' = a.1.sides in
              (a.0, record { sides = p'; oriented = a.1.oriented; represents = with_new_rule s r p' a.1.stands });
        }

-- `collapse`
module _ (tab : List ℕ) (st : State) (fine : FineBut 1 1 st) (new b : List ℕ) (stay : ℕ) (some : 0 < st.live)
    (copied : slot new 0 ≡ slot st.pairs.bytes (st.live - 1)) (g : Sifted tab new st.pairs.bytes st.live st.pairs.count b stay) where
  abbrev after_collapse : State
  after_collapse = record {
    pairs = record { bytes = b; count = st.pairs.count };
    live = stay;
    made = st.made;
    log = st.log;
    back = st.back;
    units = st.units;
  }

  collapse_represents : (s : RunState) (older : List LiveRule) (x : LiveRule) → s.rules ≡ older ++ (x ∷ []) → Represents tab st s →
      Represents tab after_collapse (collapsed s older x)
  unfolding as_removed
  collapse_represents s older x e r =
      let l = r.live in
      let one = length-append older (x ∷ []) in
      let h : Holds tab st.pairs.bytes 0 (map marked (held (older ++ (x ∷ [])) s.waiting)) =
      subst (λ z. Holds tab st.pairs.bytes 0 (map marked (held z s.waiting))) e r.pairs.holds in
      let m : MarkedAt tab st.pairs.bytes (st.live - 1) (row x) =
      row_at tab st.pairs.bytes (st.live - 1) (map row older) (row x) (map marked s.waiting)
      (subst (λ z. Holds tab st.pairs.bytes 0 z) (held_more older x s.waiting) h)
      (length_rows older ∙ omega (arith, ap length e)) in
      let f = g.sifted x older s.waiting (pair_moved copied m.pair)
      (record { holds = h; live_are = l ∙ ap length e; counted = r.pairs.counted ∙ ap (λ z. length (held z s.waiting)) e }) in
      record { pairs = record { holds = f.holds; counted = f.counted }; live = f.live_are; made = r.made; log = r.log; back = r.back }

  pub collapse_done : Collapses tab st after_collapse
  collapse_done =
      let f = g.fewer in
      let w = fine.within in
      let l = fine.live_few in record {
        fine = record {
          layout = g.layout;
          within = omega arith;
          together = fine.together;
          live_few = omega arith;
          log_few = fine.log_few;
          made_few = fine.made_few;
          back_few = fine.back_few;
        };
        some_live = g.some;
        made = refl;
        same = record { log = refl; back = refl; units = refl };
        represents = collapse_represents;
      }
