-- The run is a derivation by the published transitions: each turn that goes on leads from a state's equations and rules to the next one's, the first
-- state's are the input equations, and with end 0 no equation is left. On the way: the test of input equations at the scan never finds anything.
-- Assumes nothing.
-- Read first: specs/Transitions, specs/Systems, proofs/Derived, proofs/Soundness.
use mathlib.Core.Path.{◌≡◌, sym, ap, subst, subst₂, ◌∙◌}
use mathlib.Core.Bool.{false≢true}
use mathlib.Core.Logic.{⊎_elim}
use mathlib.Core.List.Memᴰ
use mathlib.Core.List.{List, [], ◌∷◌, ◌++◌, append_assoc, append-nil, Memᴰ}
use Prim.Native.Nat.{ℕ}
use Rattle.terms.specs.Base.{Every}
use Rattle.terms.specs.Term.{Pair, renamed}
use Rattle.terms.proofs.Shape.{same_dec}
use Rattle.terms.proofs.Below.{swapped}
use Rattle.terms.proofs.Every.{every_in, every_head}
use Rattle.rewriting.specs.Overlap.{Rule, sides_of, Overlap, Place}
use Rattle.rewriting.specs.Rewrite.{complete, done}
use Rattle.rewriting.proofs.Relations.{Of, Step, Conv}
use Rattle.rewriting.proofs.Converge.{conv_conv}
use Rattle.rewriting.proofs.Sound.{sound_itself}
use Rattle.rewriting.proofs.Stepping.{step_none}
use Rattle.rewriting.proofs.Covers.{of_every}
use Rattle.rewriting.proofs.Holds.{Forms, reached_star}
use Rattle.problem.specs.Problem.{rank_of, Theory}
use Rattle.completion.specs.Turn.{waiting_input, scanned_input, overlapping, Candidate, State, Taken, candidates, initial, kept, removed}
use Rattle.completion.specs.Turn.{waits_again, settled, turn, Finished}
use Rattle.completion.specs.Transitions.{Properly, System, ◌⨾◌, pair, Reordered, unmoved, behind, moved, delete, orient, reorder, turn_round}
use Rattle.completion.specs.Transitions.{rename_equation, rename_rule, also, Derivation, written}
use Rattle.completion.specs.Systems.{waiting_equations, waiting_rules, together, system_of, given}
use Rattle.completion.proofs.Sentences.{new_rule, next_state}
use Rattle.completion.proofs.Ends.{OverlapsSame, none≢waiting, Scanned, inputs, Source, of_waiting, of_overlap, of_input, Takes, Oriented}
use Rattle.completion.proofs.Ends.{as_taken, other_way, NeitherAbove, Rights, Next, settles, makes, puts_back}
use Rattle.completion.proofs.Reachable.{Reachable, from_start, by_turn, turn_next}
use Rattle.completion.proofs.Stopped.{Stopped, run_complete}
use Rattle.completion.proofs.Closed.{removed_every, candidates_every}
use Rattle.completion.proofs.Invariant.{Good, GoodRules, Equal, good_closed, reachable_good}
use Rattle.completion.proofs.AtEnd.{overlaps_same_join}
use Rattle.completion.proofs.Reorders.{with_behind, with_before, put_back, exchanged, reordered_eq}
use Rattle.completion.proofs.Soundness.{Both, Falls, derivation_falls, derived_sound, derived_falls}
use Rattle.completion.proofs.Deriving.{derives, same_as, by_one, none_more}
use Rattle.completion.proofs.Confluent.{conv_same_last}
use Rattle.completion.proofs.Postponed.{IsRule, IsEquation, inputs_equations, put_back_equation, ReducesRemoved, Postponed}
use Rattle.completion.proofs.Postponed.{reachable_postponed}
use Rattle.completion.proofs.Encompassed.{FreeRemoved, reachable_free}
use Rattle.completion.proofs.Derived.{renamed_variants, sides_append, waiting_sides, equations_behind, rules_behind, kept_removed, removed_still}
use Rattle.completion.proofs.Derived.{inputs_derive, waiting_derives, overlap_derives, rights_derive}

-- Steps 5 to 7, from the pair taken among the equations.
module _ (T : Theory) (E W : List Pair) (rules : List Rule) where
  abbrev ranked : ℕ → ℕ
  ranked = rank_of T.symbols

  oriented_derives : (R : List Pair) (e f : Pair) → Oriented T e f → Derivation ranked Properly (e ∷ E ⨾ R) (E ⨾ f ∷ R)
  oriented_derives R e f (as_taken a q) = rw q (by_one ranked (orient a) (written (rename_rule (renamed_variants e))))
  oriented_derives R e f (other_way a q) = rw q (same_as ranked turn_round (by_one ranked (orient a) (written (rename_rule (renamed_variants (swapped e))))))

  -- the new rule behind the kept ones, and the removed ones at the end
  made_reordered : (new : Rule) →
      Reordered (new.sides ∷ (sides_of rules ++ W)) (sides_of (kept new rules) ++ (new.sides ∷ (W ++ waiting_sides (removed new rules))))
  made_reordered new =
      let K : List Pair = sides_of (kept new rules) in
      let X : List Pair = waiting_sides (removed new rules) in
      moved (behind (moved (with_behind W (kept_removed new rules)) (moved (reordered_eq (append_assoc K X W)) (with_before K (exchanged X W)))))
      (put_back new.sides K (W ++ X))

  made_derives : (new : Rule) (composed : List Rule) → Falls ranked (new.sides ∷ (sides_of rules ++ W)) → Rights new (kept new rules) composed [] →
      Derivation ranked Properly (E ⨾ new.sides ∷ (sides_of rules ++ W)) (E ⨾ sides_of (composed ++ (new ∷ [])) ++ (W ++ waiting_sides (removed new rules)))
  made_derives new composed f r =
      let X : List Pair = W ++ waiting_sides (removed new rules) in
      let start : Derivation ranked Properly (E ⨾ new.sides ∷ (sides_of rules ++ W)) (E ⨾ sides_of (kept new rules) ++ (new.sides ∷ X)) =
      written (reorder unmoved (made_reordered new)) in
      let q : sides_of (composed ++ []) ++ (new.sides ∷ X) ≡ sides_of (composed ++ (new ∷ [])) ++ X =
      ap (λ l. sides_of l ++ (new.sides ∷ X)) (append-nil composed) ∙ sym (append_assoc (sides_of composed) (new.sides ∷ []) X) ∙ ap (λ l. l ++ X)
      (sym (sides_append composed (new ∷ []))) in
      derives ranked start
      (subst (λ l. Derivation ranked Properly (E ⨾ sides_of (kept new rules) ++ (new.sides ∷ X)) (E ⨾ l)) q
      (rights_derive ranked E X new r (derivation_falls ranked start f)))

module _ (T : Theory) where
  abbrev rank : ℕ → ℕ
  rank = rank_of T.symbols

  pub initial_derived : Derivation rank Properly (given T) (system_of rank (initial T))
  unfolding initial waiting_equations waiting_rules
  initial_derived =
      let cs : List Candidate = candidates waiting_input 1 T.equations in
      subst₂ (Derivation rank Properly)
      (ap (λ E. E ⨾ []) (append-nil T.equations))
      (ap (λ E. E ⨾ []) (append-nil (waiting_sides cs)) ∙ sym (equations_behind rank [] [] cs (inputs_equations rank 1 T.equations)))
      (inputs_derive rank 1 T.equations [] [])

  -- Where nothing waits, the live rules are all.
  idle_system : (s : State) → s.waiting ≡ [] → system_of rank s ≡ ([] ⨾ sides_of s.rules)
  unfolding together waiting_equations waiting_rules
  idle_system s w = rw w (ap (λ R. [] ⨾ R) (append-nil (sides_of s.rules)))

  module _ (s : State) (derived : Derivation rank Properly (given T) (system_of rank s)) (good : GoodRules T s.rules) where
    -- When all overlaps have one form, so has each input equation.
    never_found : s.waiting ≡ [] → OverlapsSame s.rules → (c : Candidate) → Memᴰ c (inputs T) → (f : Pair) → Forms s.rules c.sides f →
        f.left ≡ f.right
    never_found w same_forms c i f h =
        let rules : List Pair = sides_of s.rules in
        let equal : Equal T c.sides = every_in (candidates_every (Equal T) scanned_input 1 T.equations (good_closed T).given) i in
        let now : Conv (Step (Both ([] ⨾ rules))) c.sides.left c.sides.right =
        (derived_sound rank (subst (Derivation rank Properly (given T)) (idle_system s w) derived) _ _).0 equal in
        let by_rules : Conv (Step (Of rules)) c.sides.left c.sides.right =
        conv_conv (λ l r j. sound_itself (Of rules) l r (⊎_elim (λ k. absurd (Memᴰ.not-nil k)) (λ k. k) j)) now in
        conv_same_last rank rules (λ l r j. (of_every (Good T) good l r j).down) (λ l r j. (of_every (Good T) good l r j).low)
        (overlaps_same_join s.rules same_forms)
        _ _ f.left f.right by_rules
        (reached_star h.left.reached) (step_none s.rules f.left h.left.normal)
        (reached_star h.right.reached) (step_none s.rules f.right h.right.normal)

    -- So the scan takes none, for what it takes has two different forms;
    never_taken : (t : Taken) → (h : Takes T s t) → s.waiting ≡ [] → OverlapsSame s.rules → Memᴰ h.of (inputs T) → ⊥
    never_taken t h w same_forms i =
        let e : t.pair.sides.left ≡ t.pair.sides.right = never_found w same_forms h.of i t.pair.sides h.forms in
        false≢true (sym (h.scanned w) ∙ (same_dec t.pair.sides.left t.pair.sides.right).1 e)

    -- and what a turn takes enters the equations, in its forms.
    abbrev taking : Taken → System
    taking t = t.pair.sides ∷ waiting_equations rank t.waiting ⨾ sides_of s.rules ++ waiting_rules rank t.waiting

    taken_derives : Postponed T s → Every (FreeRemoved rank s.rules) s.waiting → (t : Taken) → Takes T s t →
        Derivation rank Properly (system_of rank s) (taking t)
    unfolding together
    taken_derives p free t h = go h.source
      where
        go : Source T s h.of t.waiting → Derivation rank Properly (system_of rank s) (taking t)
        go (of_waiting e) =
            subst (λ l. Derivation rank Properly (together rank s.rules l) (taking t)) (sym e)
            (waiting_derives rank s.rules t.waiting h.of t.pair.sides (every_head (subst (Every (ReducesRemoved rank s.rules)) e p))
            (every_head (subst (Every (FreeRemoved rank s.rules)) e free)) h.forms)
        go (of_overlap at o z small e q) =
            subst (λ l. Derivation rank Properly (together rank s.rules l) (taking t)) (q ∙ sym z.idle)
            (overlap_derives rank s.rules (sides_of s.rules ++ waiting_rules rank t.waiting) (λ l r i. Memᴰ.append_left _ i) at o z.listed
            z.is (waiting_equations rank t.waiting) t.pair.sides
            (subst (λ (c : Candidate). Forms s.rules c.sides t.pair.sides) e h.forms))
        go (of_input w a i q) = absurd (never_taken t h w a i)

    -- step 3
    settled_derives : (t : Taken) → t.pair.sides.left ≡ t.pair.sides.right → Derivation rank Properly (system_of rank s) (taking t) →
        Derivation rank Properly (system_of rank s) (system_of rank (settled s t))
    unfolding together settled
    settled_derives t q d =
        let E : List Pair = waiting_equations rank t.waiting in
        let R : List Pair = sides_of s.rules ++ waiting_rules rank t.waiting in
        derives rank d (subst (λ z. Derivation rank Properly (pair t.pair.sides.left z ∷ E ⨾ R) (E ⨾ R)) q (by_one rank delete (none_more rank)))

    -- step 4, put back: the forms wait behind the others, renamed
    back_derives : (t : Taken) → Derivation rank Properly (system_of rank s) (taking t) → NeitherAbove T t.pair.sides →
        Derivation rank Properly (system_of rank s) (system_of rank (waits_again s t))
    unfolding waits_again
    back_derives t d n =
        let E : List Pair = waiting_equations rank t.waiting in
        let e : Pair = t.pair.sides in
        let put : Every (IsEquation rank) (record { origin = t.pair.origin; sides = renamed e } ∷ []) = put_back_equation T t.pair.origin e n in
        subst (Derivation rank Properly (system_of rank s)) (sym (equations_behind rank s.rules t.waiting _ put))
        (derives rank d (written (also (rename_equation (renamed_variants e)) (reorder (exchanged (renamed e ∷ []) E) unmoved))))

    -- steps 5 to 7
    rule_derives : (t : Taken) → Derivation rank Properly (system_of rank s) (taking t) → (sides : Pair) → Oriented T t.pair.sides sides →
        (composed : List Rule) → Rights (new_rule s sides) (kept (new_rule s sides) s.rules) composed [] →
        Derivation rank Properly (system_of rank s) (system_of rank (next_state s t sides (composed ++ (new_rule s sides ∷ []))))
    rule_derives t d sides o composed r =
        let new : Rule = new_rule s sides in
        let E : List Pair = waiting_equations rank t.waiting in
        let W : List Pair = waiting_rules rank t.waiting in
        let c : Derivation rank Properly (system_of rank s) (E ⨾ sides ∷ (sides_of s.rules ++ W)) =
        derives rank d (oriented_derives T E W s.rules (sides_of s.rules ++ W) t.pair.sides sides o) in
        let falls : Falls rank (sides ∷ (sides_of s.rules ++ W)) = derived_falls rank (derives rank derived c) in
        let rules : Every (IsRule rank) (removed new s.rules) = removed_every new (λ old q. removed_still rank old q.down) good in
        subst (Derivation rank Properly (system_of rank s)) (sym (rules_behind rank (composed ++ (new ∷ [])) t.waiting (removed new s.rules) rules))
        (derives rank c (made_derives T E W s.rules new composed falls r))

    next_derives : Postponed T s → Every (FreeRemoved rank s.rules) s.waiting → (s' : State) → Next T s s' →
        Derivation rank Properly (system_of rank s) (system_of rank s')
    next_derives p free s' (settles t h room q e) = rw e (settled_derives t q (taken_derives p free t h))
    next_derives p free s' (makes t h room n few sides o live composed r e) = rw e (rule_derives t (taken_derives p free t h) sides o composed r)
    next_derives p free s' (puts_back t h room d few n may e) = rw e (back_derives t (taken_derives p free t h) n)

  -- Every state of a run is derived from the input equations,
  pub reachable_derived : {s : State} → Reachable T s → Derivation rank Properly (given T) (system_of rank s)
  reachable_derived (from_start e) = rw e initial_derived
  reachable_derived (by_turn {s} {s'} left {left'} r e) =
      let d : Derivation rank Properly (given T) (system_of rank s) = reachable_derived r in
      derives rank d (next_derives s d (reachable_good T r) (reachable_postponed T r) (reachable_free T r) s' (turn_next T s s' left left' e))

  -- each turn that goes on by transitions from the state before it,
  pub turn_derives : {s : State} → Reachable T s → (s' : State) (left left' : ℕ) → turn T s left ≡ done s' left' →
      Derivation rank Properly (system_of rank s) (system_of rank s')
  turn_derives {s} r s' left left' e =
      next_derives s (reachable_derived r) (reachable_good T r) (reachable_postponed T r) (reachable_free T r) s' (turn_next T s s' left left' e)

  -- and so is what turns leave; with end 0, as rules without an equation.
  pub run_derived : {budget : ℕ} {f : Finished} → Stopped T budget f → Derivation rank Properly (given T) (system_of rank f.state)
  run_derived h = reachable_derived h.reachable

  pub complete_derived : {budget : ℕ} {f : Finished} → Stopped T budget f → f.end ≡ complete →
      Derivation rank Properly (given T) ([] ⨾ sides_of f.state.rules)
  complete_derived {budget} {f} h e = subst (Derivation rank Properly (given T)) (idle_system f.state (run_complete h e).idle) (run_derived h)

  -- The test of input equations at the scan finds nothing: each has one normal form once all overlaps have.
  pub inputs_same_forms : {s : State} → Reachable T s → s.waiting ≡ [] → OverlapsSame s.rules → (c : Candidate) →
      Memᴰ c (inputs T) → (f : Pair) → Forms s.rules c.sides f → f.left ≡ f.right
  inputs_same_forms {s} r = never_found s (reachable_derived r) (reachable_good T r)

  -- So what the scan takes is an overlap: no pair of kind 3 is ever taken.
  pub record OverlapTaken (s : State) (t : Taken) : Type 0 where
    pub at : Place
    pub overlap : Overlap
    pub scanned : Scanned s at overlap
    pub origin : t.pair.origin ≡ overlapping at.inner.number at.outer.number at.position

  pub scan_takes_overlap : {s : State} → Reachable T s → s.waiting ≡ [] → (t : Taken) → Takes T s t → OverlapTaken s t
  scan_takes_overlap {s} r w t h = go h.source
    where
      go : Source T s h.of t.waiting → OverlapTaken s t
      go (of_waiting e) = absurd (none≢waiting (sym w ∙ e))
      go (of_overlap at o z small e q) = record { at = at; overlap = o; scanned = z; origin = h.origin ∙ ap (λ (c : Candidate). c.origin) e }
      go (of_input w' a i q) = absurd (never_taken s (reachable_derived r) (reachable_good T r) t h w' a i)
