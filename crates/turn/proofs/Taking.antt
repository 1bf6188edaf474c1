-- Step 1 of a turn: what the walk over the oldest waiting equation and the scan say of what the definition takes. Assumes nothing.
-- Read first: specs/Turns (LookIs), completion/specs/Turn (take_pair), forms/specs/Forms (Walked), scanning/specs/Walk (Finds), completion/proofs/Comparing.
use mathlib.Core.Path.{◌≡◌, refl, sym, ap, ◌∙◌, subst}
use mathlib.Core.Bool.{Bool, true, false}
use mathlib.Core.List.{List, [], ◌∷◌, map}
use mathlib.Core.Logic.{inl, inr}
use Prim.Native.Nat.{ℕ, ◌<◌, ◌≤◌}
use native.Mathlib.Omega.{arith}
use lib.Dec.{ltb}
use lib.ListN.{length}
use borrow.Author.Tests.{lt-ltb, le-ltb}
use Rattle.limits.specs.Limits.{most_apart}
use Rattle.terms.specs.Term.{Pair, same}
use Rattle.problem.specs.Problem.{Theory}
use Rattle.rewriting.specs.Overlap.{all_places}
use Rattle.rewriting.specs.Rewrite.{End, complete, neither_above, spent, too_large, rules_full, log_full, Paid, done, stop, ◌>>=◌, normalise_pair}
use Rattle.rewriting.proofs.Holds.{Holds as Paid-holds}
use Rattle.completion.specs.Turn.{scanned_input, waiting_input, Candidate, State as RunState, Taken as TakenPair, candidates, scan, take_pair}
use Rattle.completion.specs.Calls.{origin_bytes}
use Rattle.completion.proofs.Limits.{candidates_sides}
use Rattle.completion.proofs.Ends.{Takes, Because}
use Rattle.completion.proofs.Traced.{takes as traced}
use Rattle.completion.proofs.Turning.{taking, AllPutBack, taking_ends, MayTake, taking_on, take_scan_stops, take_scan, take_waiting_stops, take_waiting}
use Rattle.completion.proofs.Comparing.{found_forms, equal_forms, stop_forms}
use Rattle.slots.specs.Slots.{slot, mark_of, Layout, PairAt, MarkedAt, Stored, Holds}
use Rattle.slots.proofs.Listing.{all_first}
use Rattle.inputs.specs.Inputs.{marked}
use Rattle.rewriting.specs.declared.End.TheVariants.{NeitherAbove}
use Rattle.std.specs.Prelude.{Err}
use Rattle.forms.specs.declared.Taken.{Taken}
use Rattle.forms.specs.Forms.{compared, walk_of, Walked, found, short, large, on, OldestIs}
use Rattle.scanning.specs.Walk.{StopsWith, Finds, ScanIs, InSlots}
use Rattle.state.specs.Steps.{behind_first}
use Rattle.turn.specs.declared.Waiting.{Waiting}
use Rattle.turn.specs.Turns.{Given, PairsOf, FormsIn, LookStops, LookIs, Looks}
use Rattle.turn.proofs.Holding.{rules_stored, rules_numbered, waiting_held}

-- The oldest waiting equation.
module _ (tab : List ℕ) (T : Theory) (s : RunState) (c : Candidate) (cs : List Candidate) (waits : s.waiting ≡ c ∷ cs) (u : ℕ) (t : Taken)
    (mark : mark_of (slot t.pair 0) ≡ origin_bytes c.origin) where
  abbrev forms_of : Paid Pair
  forms_of = normalise_pair s.rules c.sides u

  abbrev Is : Paid TakenPair → Type 0
  Is p = LookIs tab t true s p

  abbrev taken_as : Pair → TakenPair
  taken_as f = record { pair = record { origin = c.origin; sides = f }; waiting = cs }

  abbrev taken : Paid TakenPair
  taken = take_pair T s.rules s.waiting u

  takes : (f : Pair) → forms_of ≡ done f t.units → FormsIn tab t true (taken_as f).pair (same f.left f.right) → Is taken
  unfolding behind_first
  takes f h a =
      let e : taken ≡ done (taken_as f) t.units = ap (λ q. take_pair T s.rules q u) waits ∙ take_waiting T s.rules u c cs f t.units h in
      subst Is (sym e) (refl, ap behind_first (sym waits), mark, a)

  stops : (e : End) → forms_of ≡ stop e t.units → LookStops e t true → Is taken
  stops e h a =
      let q : taken ≡ stop e t.units = ap (λ q. take_pair T s.rules q u) waits ∙ take_waiting_stops T s.rules u c cs e t.units h in
      subst Is (sym q) (refl, a)

  oldest_taken : Walked tab t.pair (compared s.rules c.origin c.sides) u (walk_of t) → Is taken
  unfolding compared ◌>>=◌
  oldest_taken (found d z h y) =
      let e = found_forms c.origin forms_of d t.units h in
      let q : d.sides ≡ e.forms = ap (λ (x : Candidate). x.sides) e.candidate in
      takes e.forms e.is
      (subst (FormsIn tab t true (taken_as e.forms).pair) (sym e.differ) (z, subst (PairAt most_apart tab t.pair 0) q y.sides))
  oldest_taken (short z h) = stops spent (stop_forms c.origin forms_of spent t.units c h) z
  oldest_taken (large z h) = stops too_large (stop_forms c.origin forms_of too_large t.units c h) z
  oldest_taken (on z h) =
      let e = equal_forms c.origin forms_of t.units c h in
      takes e.forms e.is (subst (FormsIn tab t true (taken_as e.forms).pair) (sym e.equal) (z, refl))

-- The scan.
module _ (tab : List ℕ) (T : Theory) (s : RunState) (waits : s.waiting ≡ []) (u : ℕ) (t : Taken) where
  abbrev IsScan : Paid TakenPair → Type 0
  IsScan p = LookIs tab t false s p

  abbrev scanned : Paid Candidate
  scanned = scan s.rules (candidates scanned_input 1 T.equations) (all_places [] s.rules) u

  scan_stop : (e : End) → StopsWith e t.found → LookStops e t false
  scan_stop complete h = (h, refl)
  scan_stop neither_above h = absurd h
  scan_stop spent h = h
  scan_stop too_large h = h
  scan_stop rules_full h = h
  scan_stop log_full h = h

  scan_taken : (p : Paid Candidate) → scanned ≡ p → Finds tab t p → IsScan (take_pair T s.rules s.waiting u)
  unfolding behind_first
  scan_taken (done c left) h f =
      let e : take_pair T s.rules s.waiting u ≡ done (record { pair = c; waiting = [] }) left =
      ap (λ q. take_pair T s.rules q u) waits ∙ take_scan T s.rules u c left h in
      let d = (subst (Paid-holds (Takes T s) (Because T s)) e ((traced T s).out u)).scanned waits in
      subst IsScan (sym e) (f.1, ap behind_first (sym waits), f.2.from, subst (FormsIn tab t false c) (sym d) (f.0, f.2.sides))
  scan_taken (stop e left) h f =
      let q : take_pair T s.rules s.waiting u ≡ stop e left = ap (λ q. take_pair T s.rules q u) waits ∙ take_scan_stops T s.rules u e left h in
      subst IsScan (sym q) (f.1, scan_stop e f.0)

-- behind the test what is taken is `take_pair`'s
past : (tab : List ℕ) (t : Taken) (units : ℕ) (T : Theory) (s : RunState) {w v : Bool} → MayTake s → w ≡ v →
    LookIs tab t v s (take_pair T s.rules s.waiting units) → LookIs tab t w s (taking T s units)
past tab t units T s {w} may e h =
    subst (LookIs tab t w s) (sym (taking_on T s units may)) (subst (λ b. LookIs tab t b s (take_pair T s.rules s.waiting units)) (sym e) h)

-- `look`: every one waiting has been put back
pub look_ends : {tab pairs inputs : List ℕ} {w : Waiting} {count units : ℕ} {z : List ℕ} → (w.count ≡ 0 → ⊥) → w.count ≤ w.back → Layout z 1 →
    Looks tab pairs w inputs count units (record { found = Err NeitherAbove; units = units; pair = z })
look_ends {tab} {w = w} {units = units} {z = z} some all y = record {
  layout = y;
  left_over = omega arith;
  answer = λ T G s A.
      let n = A.waiting_is in
      let b = A.back_is in
      let h : AllPutBack s = record { some = omega arith; all = omega arith } in
      let all_of : Taken = record { found = Err NeitherAbove; units = units; pair = z } in
      subst (LookIs tab all_of (ltb 0 w.count) s) (sym (taking_ends T s units h)) (refl, refl);
}

module _ {tab pairs inputs : List ℕ} {w : Waiting} {count units : ℕ} {t : Taken} where
  pub look_oldest : (w.count ≡ 0 → ⊥) → w.back < w.count → OldestIs tab pairs w.live units t → Looks tab pairs w inputs count units t
  look_oldest some older O =
      record {
        layout = O.layout;
        left_over = O.left_over;
        answer = λ T G s A.
            let n = A.waiting_is in
            let b = A.back_is in
            past tab t units T s (inr (omega arith)) (lt-ltb 0 w.count (omega arith)) (go T s A s.waiting refl);
      }
    where
      go : (T : Theory) (s : RunState) → PairsOf tab pairs w s → (l : List Candidate) → s.waiting ≡ l →
          LookIs tab t true s (take_pair T s.rules s.waiting units)
      go T s A [] e = absurd (omega (arith, A.waiting_is, ap length e))
      go T s A (c ∷ cs) e =
          let h : Holds tab pairs (length s.rules) (map marked (c ∷ cs)) =
          subst (λ l. Holds tab pairs (length s.rules) (map marked l)) e (waiting_held tab pairs s.rules s.waiting A.holds) in
          let m : MarkedAt tab pairs w.live (marked c) =
          subst (λ k. MarkedAt tab pairs k (marked c)) (sym A.live_is) (all_first (MarkedAt tab pairs) (length s.rules) (marked c) (map marked cs) h) in
          oldest_taken tab T s c cs e units t (O.mark ∙ m.mark)
          (O.answer s.rules (rules_stored tab pairs s.rules s.waiting A.holds) A.live_is c.origin c.sides m.mark m.pair)

-- the scan knows the input equations by other origins
inputs_stored : (tab inputs : List ℕ) (count : ℕ) (T : Theory) → Given tab inputs count T →
    Stored tab inputs 0 (map (λ c. c.sides) (candidates scanned_input 1 T.equations))
inputs_stored tab inputs count T G =
    subst (Stored tab inputs 0) (sym (candidates_sides waiting_input 1 T.equations) ∙ candidates_sides scanned_input 1 T.equations) G.stored

pub look_scan : {tab pairs inputs : List ℕ} {w : Waiting} {count units : ℕ} {t : Taken} → w.count ≡ 0 → ScanIs tab inputs count pairs w.live units t →
    Looks tab pairs w inputs count units t
look_scan {tab} {pairs} {inputs} {w} {count} {units} {t} none O =
    record {
      layout = O.layout;
      left_over = O.left_over;
      answer = λ T G s A.
          past tab t units T s (inl (omega (arith, A.waiting_is))) (le-ltb 0 w.count (omega arith)) (go T G s A s.waiting refl);
    }
  where
    slots_are : (T : Theory) → Given tab inputs count T → (s : RunState) → PairsOf tab pairs w s →
        InSlots tab pairs w.live inputs count (record { rules = s.rules; equations = T.equations })
    slots_are T G s A =
        record {
          rules_are = record {
            stored = rules_stored tab pairs s.rules s.waiting A.holds;
            counted = A.live_is;
            numbered = λ k l. rules_numbered tab pairs s.rules s.waiting A.holds k (let n = A.live_is in omega arith);
          };
          inputs = inputs_stored tab inputs count T G;
          number_is = G.counted;
        }

    go : (T : Theory) → Given tab inputs count T → (s : RunState) → PairsOf tab pairs w s → (l : List Candidate) → s.waiting ≡ l →
        LookIs tab t false s (take_pair T s.rules s.waiting units)
    go T G s A [] e = scan_taken tab T s e units t _ refl (O.answer _ (slots_are T G s A))
    go T G s A (c ∷ cs) e = absurd (omega (arith, A.waiting_is, ap length e))
