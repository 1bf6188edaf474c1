-- Steps 4 to 7 of a turn: by the outcome of each step, what the definition's `make_rule` comes to. Assumes nothing.
-- Read first: specs/Turns (TurnedIs), state/specs/Steps (Orients, PutsBack, Collapses, Logs), completion/proofs/Turning (make_done, ..), proofs/Steady.
use mathlib.Core.Path.{◌≡◌, refl, sym, ap, subst}
use mathlib.Core.List.{List, [], ◌∷◌, ◌++◌}
use mathlib.Core.Option.{none}
use Prim.Native.Nat.{ℕ, suc, ◌<◌, ◌≤◌}
use native.Mathlib.Omega.{arith}
use lib.ListN.{length, length-append}
use Rattle.limits.specs.Limits.{most_rules, most_variables}
use Rattle.terms.specs.Term.{pair_variables}
use Rattle.problem.specs.Problem.{Theory}
use Rattle.rewriting.specs.Overlap.{Rule}
use Rattle.rewriting.specs.Rewrite.{Paid, done, stop}
use Rattle.rewriting.specs.Ends.{ending}
use Rattle.rewriting.specs.declared.End.{End as Ending}
use Rattle.rewriting.specs.declared.End.TheVariants.{TooLarge, RulesFull}
use Rattle.std.specs.Prelude.{None, Some}
use Rattle.rewriting.proofs.Verdicts.{goes≢ends, same_end}
use Rattle.completion.specs.Turn.{State as RunState, Taken as TakenPair, orient, waits_again, kept, normalise_rights, make_rule}
use Rattle.completion.specs.Calls.{origin_bytes}
use Rattle.completion.proofs.Turning.{new_rule, next_state, make_many_variables, make_waits_again, make_many_rules, make_rights_stop, make_done}
use Rattle.orient.specs.Orients.{Few}
use Rattle.compose.specs.declared.Composed.{Composed}
use Rattle.compose.specs.Rights.{AllIs, All}
use Rattle.state.specs.declared.State.{State}
use Rattle.state.specs.declared.Turned.{Turned}
use Rattle.state.specs.Run.{Represents, goes_on_as, ended_as}
use Rattle.state.specs.Steps.{with_rule, NewRule, collapsed, Collapses, with_entry, Logs}
use Rattle.turn.proofs.Holding.{rules_stored}
use Rattle.state.proofs.Steady.{with_slots}
use Rattle.turn.proofs.Steady.{with_rules, units_represent, slots_represent}

-- what is made of a pair, without the state at a stop
abbrev pub MadeIs : List ℕ → Turned → Paid RunState → Type 0
MadeIs tab o (done s' left) = (o.end ≡ None) × (o.state.units ≡ left) × Represents tab o.state s'
MadeIs tab o (stop f left) = (o.end ≡ Some (ending f)) × (o.state.units ≡ left)

module _ (tab : List ℕ) (T : Theory) (s : RunState) (k : TakenPair) (units : ℕ) where
  abbrev made : Paid RunState
  made = make_rule T s k units

  -- more than 16 variables
  pub make_large : (st : State) → most_variables < length (pair_variables k.pair.sides) → MadeIs tab (ended_as st TooLarge units) made
  unfolding ending
  make_large st many = subst (MadeIs tab (ended_as st TooLarge units)) (sym (make_many_variables T s k units many)) (refl, refl)

  module _ (few : Few k.pair.sides) where
    -- neither side above the other
    pub make_neither : {back : State} → orient T k.pair.sides ≡ none → Represents tab back (waits_again s k) → MadeIs tab (goes_on_as back units) made
    make_neither {back} h R =
        subst (MadeIs tab (goes_on_as back units)) (sym (make_waits_again T s k units few h)) (refl, refl, units_represent units R)

    -- the new rule behind the older ones that are kept, and its entry
    module _ (waits : s.waiting ≡ k.waiting) {placed next : State} (N : NewRule tab T s k.pair.sides placed) (C : Collapses tab placed next)
        {origin : List ℕ} (from : origin ≡ origin_bytes k.pair.origin) {entered : State} (L : Logs next origin next.made entered) where
      abbrev new : Rule
      new = new_rule s N.sides

      abbrev older : List Rule
      older = kept new s.rules

      abbrev with_new : RunState
      with_new = collapsed (with_rule s N.sides) s.rules new

      abbrev with_its_entry : RunState
      with_its_entry = with_entry with_new k.pair.origin (suc s.made)

      stands : Represents tab entered with_its_entry
      stands =
          let h : Represents tab next with_new = C.represents (with_rule s N.sides) s.rules new refl N.represents in
          subst (λ n. Represents tab entered (with_entry with_new k.pair.origin n)) h.made (L.represents tab with_new k.pair.origin h from)

      live_is : entered.live ≡ suc (length older)
      live_is = omega (arith, stands.live, length-append older (new ∷ []))

      pub make_full : (st : State) → most_rules < entered.live → MadeIs tab (ended_as st RulesFull units) made
      unfolding ending
      make_full st full =
          subst (MadeIs tab (ended_as st RulesFull units))
          (sym (make_many_rules T s k units few N.sides N.oriented (omega (arith, live_is)))) (refl, refl)

      module _ (live : entered.live ≤ most_rules) {b : List ℕ} {c : Composed} (A : All tab entered.pairs.bytes b entered.live units c) where
        composed : AllIs tab b (older ++ (new ∷ [])) c (normalise_rights [] older new units)
        composed =
            A.answer older new (sym stands.live)
            (rules_stored tab entered.pairs.bytes (older ++ (new ∷ [])) with_new.waiting stands.pairs.holds)

        -- a right side stopped
        pub make_rights_end : (st : State) {end : Ending} → c.end ≡ Some end → MadeIs tab (ended_as st end c.units) made
        make_rights_end st {end} w = go (normalise_rights [] older new units) refl composed
          where
            go : (p : Paid (List Rule)) → normalise_rights [] older new units ≡ p → AllIs tab b (older ++ (new ∷ [])) c p →
                MadeIs tab (ended_as st end c.units) made
            go (done rs left) q a = absurd (goes≢ends a.0 w)
            go (stop e left) q a =
                subst (MadeIs tab (ended_as st end c.units))
                (sym (make_rights_stop T s k units few N.sides N.oriented (omega (arith, live_is)) e left q))
                (ap Some (same_end w a.0), a.1)

        -- all right sides were done
        abbrev last : Turned
        last = goes_on_as (with_slots entered b) c.units

        pub make_goes : c.end ≡ None → MadeIs tab last made
        make_goes w = go (normalise_rights [] older new units) refl composed
          where
            go : (p : Paid (List Rule)) → normalise_rights [] older new units ≡ p → AllIs tab b (older ++ (new ∷ [])) c p → MadeIs tab last made
            go (stop e left) q a = absurd (goes≢ends w a.0)
            go (done rs left) q a =
                let h : Represents tab last.state (with_rules with_its_entry rs) =
                units_represent c.units (slots_represent rs stands A.only a.2 a.3) in
                let z : Represents tab last.state (next_state s k N.sides rs) =
                subst (λ x. Represents tab last.state (next_state s (record { pair = k.pair; waiting = x }) N.sides rs)) waits h in
                subst (MadeIs tab last) (sym (make_done T s k units few N.sides N.oriented (omega (arith, live_is)) rs left q)) (refl, a.1, z)
