-- A turn comes to a next state, or to an end for its cause: the one proof that follows a turn step by step. Assumes nothing.
-- Read first: specs/Turn, proofs/Ends.
use Rattle.std.specs.Prelude.{if◌then◌else◌}
use mathlib.Core.Path.{◌≡◌, refl, sym, ap, subst, ◌∙◌}
use mathlib.Core.Bool.{Bool, true, false}
use mathlib.Core.Logic.{inl, inr}
use mathlib.Core.List.{List, [], ◌∷◌, ◌++◌, Memᴰ}
use mathlib.Core.Option.{Option, none, some}
use Prim.Native.Nat.{ℕ, suc, ◌≤◌, ◌<◌}
use native.Mathlib.Omega.{arith}
use lib.ListN.{length}
use borrow.Author.Tests.{ltb-true, ltb-false, leb-true, leb-false}
use Rattle.completion.proofs.Sentences.{MayTake, new_rule, next_state}
use Rattle.terms.specs.Term.{Pair, same, pair_variables, renamed}
use Rattle.terms.proofs.Shape.{none≢some, some_inj, same_dec}
use Rattle.terms.specs.Base.{Every, of_none, of_cons}
use Rattle.terms.proofs.Below.{swapped}
use Rattle.terms.proofs.Every.{every_of}
use Rattle.order.specs.Order.{above}
use Rattle.rewriting.specs.Overlap.{Rule, Overlap, overlap, Place, all_places}
use Rattle.rewriting.specs.Rewrite.{End, complete, neither_above, spent, too_large, rules_full, log_full, Paying, normalise_pair}
use Rattle.rewriting.proofs.Covers.{HoldsAt}
use Rattle.rewriting.proofs.Holds.{Form, Forms, Pays, bind_holds, pays_weaker, return_holds, end_with_holds, end_if_holds, if_holds, pay_holds, hold_holds}
use Rattle.rewriting.proofs.Holds.{normalise_holds, normalise_pair_holds}
use Rattle.problem.specs.Problem.{rank_of, Theory}
use Rattle.completion.specs.Turn.{overlapping, Candidate, State, Taken, scan_overlap, if_different, if_different_overlap, scan_inputs}
use Rattle.completion.specs.Turn.{scan, take_pair, orient, normalise_rights, if_oriented, make_rule, end_if_all_put_back, turn}
use Rattle.completion.proofs.Ends.{none≢waiting, inputs, Scanned, Source, of_waiting, of_overlap, of_input, Takes, as_taken, other_way, OrientedAs, Due}
use Rattle.completion.proofs.Ends.{Rights, none_yet, one_more, older_rules, Next, settles, makes, puts_back, SameForm, SameAt, OverlapsSame}
use Rattle.completion.proofs.Ends.{SameCandidate, Certified, Large, in_taking, in_overlap, in_right, variables, Because}

module _ (T : Theory) (s : State) where
  abbrev pub E : End → ℕ → Type 0
  E = Because T s

  out_of_units : E spent 0
  unfolding Because
  out_of_units = refl

  large : Large T s → (left : ℕ) → E too_large left
  unfolding Because
  large h left = h

  -- a pair that is normalised
  forms : (c : Candidate) (cs : List Candidate) → Source T s c cs → Pays (Forms s.rules c.sides) E (normalise_pair s.rules c.sides)
  forms c cs h =
      normalise_pair_holds E s.rules out_of_units c.sides (λ o. large (in_taking c cs h _ (inl refl) o)) (λ o. large (in_taking c cs h _ (inr refl) o))

  -- what the scan finds
  pub record Found (c : Candidate) : Type 0 where
    pub of : Candidate
    pub source : Source T s of []
    pub origin : c.origin ≡ of.origin
    pub forms : Forms s.rules of.sides c.sides
    pub differ : same c.sides.left c.sides.right ≡ false

  same_form : (e f : Pair) → f.left ≡ f.right → Forms s.rules e f → SameForm s.rules e
  same_form e f q h = record { to = f.right; left = subst (Form s.rules e.left) q h.left; right = h.right }

  different : (c : Candidate) (f : Pair) (next : Paying Candidate) → Source T s c [] → Forms s.rules c.sides f →
      (SameForm s.rules c.sides → Pays Found E next) →
      Pays Found E (if_different c.origin f next)
  unfolding if_different
  different c f next h k go =
      if_holds _ _ _ (λ b. go (same_form c.sides f ((same_dec f.left f.right).0 b) k))
      (λ b. return_holds _ (record { of = c; source = h; origin = refl; forms = k; differ = b }))

  scan_inputs_traced : s.waiting ≡ [] → OverlapsSame s.rules → (cs : List Candidate) → Every (λ c. Memᴰ c (inputs T)) cs →
      (Every (SameCandidate s.rules) cs → Certified T s) → Pays Found E (scan_inputs s.rules cs)
  unfolding scan_inputs Because
  scan_inputs_traced w a [] of_none k = end_with_holds complete (λ _. k of_none)
  scan_inputs_traced w a (c ∷ cs) (of_cons i h) k =
      bind_holds _ _ (forms c [] (of_input w a i refl)) λ f g.
      different c f (scan_inputs s.rules cs) (of_input w a i refl) g λ q. scan_inputs_traced w a cs h (λ qs. k (of_cons q qs))

  -- an overlap and its forms
  abbrev place_candidate : Place → Overlap → Candidate
  place_candidate at o = record { origin = overlapping at.inner.number at.outer.number at.position; sides = renamed o.sides }

  abbrev Formed : Place → Option Overlap → Option Pair → Type 0
  Formed at o none = o ≡ none
  Formed at o (some f) = (v : Overlap) × (o ≡ some v) × Source T s (place_candidate at v) [] × Forms s.rules (renamed v.sides) f

  scan_overlap_traced : (at : Place) (o : Option Overlap) → ((v : Overlap) → o ≡ some v → Scanned s at v) → Pays (Formed at o) E (scan_overlap s.rules o)
  unfolding scan_overlap
  scan_overlap_traced at none k = return_holds none refl
  scan_overlap_traced at (some o) k =
      let z : Scanned s at o = k o refl in
      bind_holds _ _ (hold_holds o.peak (λ l. large (in_overlap at o z _ (inl refl) l))) λ _ a.
      bind_holds _ _ (hold_holds o.sides.left (λ l. large (in_overlap at o z _ (inr (inl refl)) l))) λ _ b.
      bind_holds _ _ (hold_holds o.sides.right (λ l. large (in_overlap at o z _ (inr (inr refl)) l))) λ _ c.
      let from : Source T s (place_candidate at o) [] = of_overlap at o z (record { peak = a; left = b; right = c }) refl refl in
      bind_holds _ _ (forms (place_candidate at o) [] from) λ f g.
      return_holds (some f) (o, refl, from, g)

  different_overlap : (at : Place) (o : Option Overlap) (f : Option Pair) (next : Paying Candidate) → Formed at o f →
      (((v : Overlap) → o ≡ some v → SameForm s.rules (renamed v.sides)) → Pays Found E next) → Pays Found E (if_different_overlap at f next)
  unfolding if_different_overlap
  different_overlap at o none next h go = go (λ v e. absurd (none≢some (sym h ∙ e)))
  different_overlap at o (some f) next h go =
      different (place_candidate at h.0) f next h.2 h.3 λ q. go
      (λ v e. subst (λ (w : Overlap). SameForm s.rules (renamed w.sides)) (some_inj (sym h.1 ∙ e)) q)

  scan_traced : s.waiting ≡ [] → (ps : List Place) → Every (λ at. Memᴰ at (all_places [] s.rules)) ps →
      (Every (HoldsAt (SameAt s.rules)) ps → OverlapsSame s.rules) → Pays Found E (scan s.rules (inputs T) ps)
  unfolding scan
  scan_traced w [] of_none k =
      scan_inputs_traced w (k of_none) (inputs T) (every_of _ (λ c i. i)) (λ b. record { idle = w; overlaps = k of_none; inputs_same = b })
  scan_traced w (at ∷ ps) (of_cons i h) k =
      bind_holds _ _ (scan_overlap_traced at (overlap at.inner.sides at.outer.sides at.position)
      (λ v e. record { idle = w; listed = i; is = e })) λ f g.
      different_overlap at _ f (scan s.rules (inputs T) ps) g λ q. scan_traced w ps h (λ qs. k (of_cons q qs))

  take_traced : (waiting : List Candidate) → s.waiting ≡ waiting → Pays (Takes T s) E (take_pair T s.rules waiting)
  unfolding take_pair
  take_traced [] w =
      bind_holds _ _ (scan_traced w (all_places [] s.rules) (every_of _ (λ at i. i)) (λ a. a)) λ c f.
      return_holds _ (record { of = f.of; source = f.source; origin = f.origin; forms = f.forms; scanned = λ _. f.differ })
  take_traced (c ∷ waiting) w =
      bind_holds _ _ (forms c waiting (of_waiting w)) λ f g.
      return_holds _ (record { of = c; source = of_waiting w; origin = refl; forms = g; scanned = λ e. absurd (none≢waiting (sym e ∙ w)) })

  pub takes : Pays (Takes T s) E (take_pair T s.rules s.waiting)
  takes = take_traced s.waiting refl

  oriented_as : (e : Pair) → OrientedAs T e (orient T e)
  unfolding orient
  oriented_as e = go (above (rank_of T.symbols) e.left e.right) (above (rank_of T.symbols) e.right e.left) refl refl
    where
      go : (b c : Bool) → above (rank_of T.symbols) e.left e.right ≡ b → above (rank_of T.symbols) e.right e.left ≡ c →
          OrientedAs T e (if b then some (renamed e) else if c then some (renamed (swapped e)) else none)
      go true c p q = as_taken p refl
      go false true p q = other_way q refl
      go false false p q = record { not_left = p; not_right = q }

  module _ (sides : Pair) (due : Due T s sides) (live : suc (length (older_rules s sides)) ≤ 32) where
    abbrev new : Rule
    new = new_rule s sides

    rights_traced : (done later : List Rule) → Rights new (older_rules s sides) done later →
        Pays (λ rules. (all : List Rule) × Rights new (older_rules s sides) all [] × (rules ≡ all ++ (new ∷ []))) E (normalise_rights done later new)
    unfolding normalise_rights
    rights_traced done [] h = return_holds _ (done, h, refl)
    rights_traced done (old ∷ later) h =
        bind_holds _ _
        (normalise_holds E (done ++ (old ∷ later) ++ (new ∷ [])) out_of_units old.sides.right (λ o. large (in_right sides due live done later old h o)))
        λ r f. rights_traced _ later (one_more h f refl)

  module _ (may : MayTake s) (t : Taken) (h : Takes T s t) (room : length s.log < 512)
      (d : same t.pair.sides.left t.pair.sides.right ≡ false) where
    oriented_traced : length (pair_variables t.pair.sides) ≤ 16 → (o : Option Pair) → OrientedAs T t.pair.sides o →
        Pays (Next T s) E (if_oriented s t o)
    unfolding if_oriented Because
    oriented_traced few none o = return_holds _ (puts_back t h room d few o may refl)
    oriented_traced few (some sides) o =
        let due : Due T s sides = record { taken = t; takes = h; room = room; differ = d; few = few; oriented = o } in
        bind_holds _ _ (end_if_holds _ rules_full (λ q left. record { sides = sides; due = due; over = ltb-true 32 _ q })) λ _ live.
        bind_holds _ _ (rights_traced sides due (ltb-false 32 _ live) [] (older_rules s sides) (none_yet refl refl)) λ rules g.
        return_holds _ (makes t h room d few sides o (ltb-false 32 _ live) g.0 g.1 (ap (next_state s t sides) g.2))

    make_traced : Pays (Next T s) E (make_rule T s t)
    unfolding make_rule Because
    make_traced =
        bind_holds _ _ (end_if_holds _ too_large (λ q left. variables t h (ltb-true 16 _ q))) λ _ few.
        oriented_traced (ltb-false 16 _ few) (orient T t.pair.sides) (oriented_as t.pair.sides)

  all_put_back_traced : (waiting : List Candidate) → s.waiting ≡ waiting → Pays (λ _. MayTake s) E (end_if_all_put_back waiting s.put_back)
  unfolding end_if_all_put_back Because
  all_put_back_traced [] w = return_holds tt (inl (ap length w))
  all_put_back_traced (c ∷ cs) w =
      pays_weaker _ (λ _ q. inr (rw w (leb-false (suc (length cs)) s.put_back q)))
      (end_if_holds _ neither_above (λ q left. record { some = rw w (omega arith); all = rw w (leb-true (suc (length cs)) s.put_back q) }))

  pub turn_traced : Pays (Next T s) (Because T s) (turn T s)
  unfolding turn Because
  turn_traced =
      bind_holds _ _ (pay_holds out_of_units) λ _ _.
      bind_holds _ _ (all_put_back_traced s.waiting refl) λ _ may.
      bind_holds _ _ takes λ t h.
      bind_holds _ _ (end_if_holds _ log_full (λ q left. record { taken = t; takes = h; over = leb-true 512 _ q })) λ _ room.
      if_holds _ _ _
      (λ b. return_holds _ (settles t h (leb-false 512 _ room) ((same_dec t.pair.sides.left t.pair.sides.right).0 b) refl))
      (λ b. make_traced may t h (leb-false 512 _ room) b)
