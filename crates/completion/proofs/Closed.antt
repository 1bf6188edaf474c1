-- What a run keeps: a property of rules and one of waiting pairs, closed under the few things that a turn does. Assumes nothing.
-- Read first: proofs/Ends, proofs/Reachable.
use mathlib.Core.Path.{◌≡◌, refl, sym, subst}
use mathlib.Core.Bool.{true}
use mathlib.Core.List.{List, [], ◌∷◌, Memᴰ}
use mathlib.Core.Option.{some}
use Prim.Native.Nat.{ℕ, suc, ◌≤◌}
use native.Mathlib.Omega.{arith}
use lib.ListN.{length}
use Rattle.terms.proofs.Shape.{either_has}
use Rattle.terms.specs.Term.{Term, Pair, pair_variables, renamed}
use Rattle.terms.proofs.Below.{swapped, swapped_variables}
use Rattle.terms.specs.Base.{Every, of_none, of_cons}
use Rattle.terms.proofs.Every.{every_one, every_in, every_append}
use Rattle.order.specs.Order.{above}
use Rattle.rewriting.specs.Overlap.{Rule, Overlap, overlap}
use Rattle.rewriting.proofs.Covers.{BothHold, all_places_hold}
use Rattle.rewriting.proofs.Holds.{Reached}
use Rattle.problem.specs.Problem.{rank_of, Theory}
use Rattle.completion.specs.Turn.{Origin, removed_rule, Candidate, scanned_input, waiting_input, State, Taken, candidates, initial, rewrites}
use Rattle.completion.specs.Turn.{kept, removed, waits_again, settled}
use Rattle.completion.proofs.Ends.{Small, Source, of_waiting, of_overlap, of_input, Takes, Oriented, as_taken, other_way, Rights, none_yet}
use Rattle.completion.proofs.Ends.{one_more, Next, settles, makes, puts_back}
use Rattle.completion.proofs.Reachable.{Reachable, from_start, by_turn, turn_next}

-- Every rule is kept or joins the waiting list.
module _ {Q : Rule → Type 0} (new : Rule) where
  pub kept_every : {rules : List Rule} → Every Q rules → Every Q (kept new rules)
  unfolding kept
  kept_every of_none = of_none
  kept_every (of_cons {x = old} {l = rules} q h) =
      either_has (Every Q) (rewrites new old) (kept new rules) (old ∷ kept new rules) (kept_every h) (of_cons q (kept_every h))

module _ {W : Candidate → Type 0} where
  pub removed_every : {Q : Rule → Type 0} (new : Rule) {rules : List Rule} →
      ((old : Rule) → Q old → W (record { origin = removed_rule old.number; sides = old.sides })) → Every Q rules → Every W (removed new rules)
  unfolding removed
  removed_every new f of_none = of_none
  removed_every new f (of_cons {x = old} {l = rules} q h) =
      either_has (Every W) (rewrites new old) _ (removed new rules) (of_cons (f old q) (removed_every new f h)) (removed_every new f h)

-- What holds of the equations, renamed, holds of the candidates.
pub candidates_every : (W : Pair → Type 0) (origin : ℕ → Origin) (n : ℕ) (es : List Pair) → ((e : Pair) → Memᴰ e es → W (renamed e)) →
    Every (λ (c : Candidate). W c.sides) (candidates origin n es)
unfolding candidates
candidates_every W origin n [] h = of_none
candidates_every W origin n (e ∷ es) h = of_cons (h e (Memᴰ.head refl)) (candidates_every W origin (suc n) es (λ d i. h d (Memᴰ.tail i)))

-- R of rules, W of waiting pairs, Q of pairs as a turn takes and rewrites them.
pub record Closed (T : Theory) (R W Q : Pair → Type 0) : Type 0 where
  pub given : (e : Pair) → Memᴰ e T.equations → W (renamed e)
  pub taken : (e : Pair) → W e → Q e
  pub overlapped : (inner outer : Pair) (p : ℕ) (o : Overlap) → overlap inner outer p ≡ some o → Small o → R inner → R outer → Q (renamed o.sides)
  pub rewritten : (rules : List Rule) → Every (λ (r : Rule). R r.sides) rules → (e f : Pair) → Reached rules e.left f.left →
      Reached rules e.right f.right → Q e → Q f
  pub turned : (e : Pair) → Q e → Q (swapped e)
  pub oriented : (e : Pair) → Q e → length (pair_variables e) ≤ 16 → above (rank_of T.symbols) e.left e.right ≡ true → R (renamed e)
  pub composed : (rules : List Rule) → Every (λ (r : Rule). R r.sides) rules → (e : Pair) (r : Term) → Reached rules e.right r → R e →
      R (record { left = e.left; right = r })
  pub put_off : (e : Pair) → R e → W e
  pub put_again : (e : Pair) → Q e → length (pair_variables e) ≤ 16 → W (renamed e)

module _ (T : Theory) (R W Q : Pair → Type 0) (k : Closed T R W Q) where
  abbrev pub RuleHas : Rule → Type 0
  RuleHas r = R r.sides

  abbrev pub WaitingHas : Candidate → Type 0
  WaitingHas c = W c.sides

  pub record Has (s : State) : Type 0 where
    pub rules : Every RuleHas s.rules
    pub waiting : Every WaitingHas s.waiting

  source_has : (s : State) → Has s → (c : Candidate) (cs : List Candidate) → Source T s c cs → Q c.sides × Every WaitingHas cs
  source_has s h c cs (of_waiting e) = first (subst (Every WaitingHas) e h.waiting)
    where
      first : Every WaitingHas (c ∷ cs) → Q c.sides × Every WaitingHas cs
      first (of_cons q h) = (k.taken c.sides q, h)
  source_has s h c cs (of_overlap at o z small e q) =
      let both : BothHold RuleHas at = every_in (all_places_hold RuleHas [] s.rules of_none h.rules) z.listed in (
        subst (λ (d : Candidate). Q d.sides) (sym e)
            (k.overlapped at.inner.sides at.outer.sides at.position o z.is small both.inner_holds both.outer_holds),
        subst (Every WaitingHas) (sym q) of_none,
      )
  source_has s h c cs (of_input w a i q) =
      (k.taken c.sides (every_in (candidates_every W scanned_input 1 T.equations k.given) i), subst (Every WaitingHas) (sym q) of_none)

  pub taken_has : (s : State) → Has s → (t : Taken) → Takes T s t → Q t.pair.sides × Every WaitingHas t.waiting
  taken_has s h t g =
      let a = source_has s h g.of t.waiting g.source in
      (k.rewritten s.rules h.rules g.of.sides t.pair.sides g.forms.left.reached g.forms.right.reached a.0, a.1)

  oriented_has : (e f : Pair) → Q e → length (pair_variables e) ≤ 16 → Oriented T e f → R f
  oriented_has e f h few (as_taken a q) = subst R (sym q) (k.oriented e h few a)
  oriented_has e f h few (other_way a q) = subst R (sym q) (k.oriented (swapped e) (k.turned e h) (omega (arith, swapped_variables e)) a)

  rights_have : {new : Rule} {older done later : List Rule} → Every RuleHas older → RuleHas new → Rights new older done later →
      Every RuleHas done × Every RuleHas later
  rights_have h n (none_yet e d) = (subst (Every RuleHas) (sym e) of_none, subst (Every RuleHas) (sym d) h)
  rights_have {new} h n (one_more {before} {done} {later} {old} {r} g f e) = go (rights_have h n g)
    where
      go : Every RuleHas before × Every RuleHas (old ∷ later) → Every RuleHas done × Every RuleHas later
      go (b, of_cons q l) = (
        subst (Every RuleHas) (sym e)
            (every_append b (every_one (k.composed _ (every_append (every_append b (of_cons q l)) (every_one n)) old.sides r f.reached q))),
        l,
      )

  pub next_has : (s s' : State) → Has s → Next T s s' → Has s'
  unfolding settled waits_again
  next_has s s' h (settles t g room q e) = rw e (record { rules = h.rules; waiting = (taken_has s h t g).1 })
  next_has s s' h (puts_back t g room d few n may e) =
      let a = taken_has s h t g in
      rw e (record { rules = h.rules; waiting = every_append a.1 (every_one (k.put_again t.pair.sides a.0 few)) })
  next_has s s' h (makes t g room d few sides o live done r e) =
      let a = taken_has s h t g in
      let n : R sides = oriented_has t.pair.sides sides a.0 few o in
      rw e
      (record {
        rules = every_append (rights_have (kept_every _ h.rules) n r).0 (every_one n);
        waiting = every_append a.1 (removed_every _ (λ old q. k.put_off old.sides q) h.rules);
      })

  -- Every state of a run.
  pub reachable_has : {s : State} → Reachable T s → Has s
  unfolding initial
  reachable_has (from_start e) = rw e (record { rules = of_none; waiting = candidates_every W waiting_input 1 T.equations k.given })
  reachable_has (by_turn {s} {s'} left {left'} r e) = next_has s s' (reachable_has r) (turn_next T s s' left left' e)
