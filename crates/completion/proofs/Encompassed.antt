-- The condition of Collapse as published, s ▷ l: in no state of a run has a live rule's left side an instance of a removed rule's left side in it.
-- Left sides of live rules do not rewrite one another, and a new left side is normal. Assumes nothing.
-- Read first: specs/Transitions (`Properly`, of which `Free` is the second half), proofs/Postponed.
use mathlib.Core.Path.{◌≡◌, refl, sym, ap, subst, ◌∙◌}
use mathlib.Core.Bool.{Bool, true, false}
use mathlib.Core.List.Memᴰ
use mathlib.Core.List.{List, [], ◌∷◌, ◌++◌, append_assoc, append-nil, map, map-append}
use mathlib.Core.Option.{Option, none, some}
use Prim.Native.Nat.{ℕ}
use Rattle.std.specs.Prelude.{if◌then◌else◌}
use Rattle.terms.specs.Base.{is_some, Every, of_none, of_cons}
use Rattle.terms.specs.Term.{Term, Pair, subst_term}
use Rattle.terms.proofs.Below.{swapped}
use Rattle.terms.proofs.Rename.{renamed_back}
use Rattle.terms.proofs.Every.{every_one, every_append, every_map, every_of, every_in, every_both, every_mapped, mapped_every}
use Rattle.terms.proofs.Positions.{Found, found}
use Rattle.terms.proofs.Context.{plug}
use Rattle.rewriting.specs.Overlap.{Rule, sides_of}
use Rattle.rewriting.specs.Rewrite.{step}
use Rattle.rewriting.proofs.Relations.{Of, Normal}
use Rattle.rewriting.proofs.Steps.{step_subst, step_plug}
use Rattle.rewriting.proofs.Stepping.{StepBy, step_none}
use Rattle.problem.specs.Problem.{rank_of, Theory}
use Rattle.completion.specs.Transitions.{Encompasses}
use Rattle.completion.specs.Turn.{removed_rule, Candidate, State, initial, rewrites, kept, removed, waits_again, settled}
use Rattle.completion.proofs.Words.{ItemOf, item_of, rule_sides}
use Rattle.completion.proofs.Sentences.{new_rule}
use Rattle.completion.proofs.Ends.{Oriented, as_taken, other_way, Rights, none_yet, one_more, with_right, Next, settles, makes, puts_back}
use Rattle.completion.proofs.Reachable.{Reachable, from_start, by_turn, turn_next}
use Rattle.completion.proofs.Postponed.{Reduces, ReducesRemoved, Postponed, reachable_postponed, own_left, source_rest}
use Rattle.completion.proofs.Postponed.{IsRule, equations_have, inputs_equations, put_back_equation}

-- Free s l: no subterm of l is an instance of s.
abbrev pub Free : Term → Term → Type 0
Free s l = Encompasses l s → ⊥

-- What is normal has no instance in it of what is reduced.
normal_free : (rules : List Rule) (s t : Term) → Reduces rules s → Normal (StepBy rules) t → Free s t
normal_free rules s t (u, w) n (p, σ, e) =
    let f : Found t p (subst_term σ s) = found t p (subst_term σ s) e in
    n (plug f.c (subst_term σ u)) (subst (λ z. StepBy rules z (plug f.c (subst_term σ u))) (sym f.whole) (step_plug f.c (step_subst σ w)))

-- A term is normal where an instance of it is.
normal_back : (rules : List Rule) (σ : ℕ → Term) (t u : Term) → subst_term σ t ≡ u → Normal (StepBy rules) u → Normal (StepBy rules) t
normal_back rules σ t u e n v w = n (subst_term σ v) (subst (λ z. StepBy rules z (subst_term σ v)) e (step_subst σ w))

-- The new rule's left side is normal for the rules before it.
new_normal : (T : Theory) (rules : List Rule) (e f : Pair) → Normal (StepBy rules) e.left → Normal (StepBy rules) e.right → Oriented T e f →
    Normal (StepBy rules) f.left
new_normal T rules e f l r (as_taken a q) = rw q (normal_back rules _ _ e.left (renamed_back e).0 l)
new_normal T rules e f l r (other_way a q) = rw q (normal_back rules _ _ e.right (renamed_back (swapped e)).0 r)

abbrev left_of : Rule → Term
left_of r = r.sides.left

abbrev pub lefts : List Rule → List Term
lefts rules = map left_of rules

-- Left sides of which none has an instance of another in it.
data Apart : List Term → Type 0 where
  none_apart : Apart []
  one_apart : {l : Term} {ls : List Term} → Every (Free l) ls → Every (λ m. Free m l) ls → Apart ls → Apart (l ∷ ls)

-- one more
apart_more : (l : Term) {ls : List Term} → Apart ls → Every (Free l) ls → Every (λ m. Free m l) ls → Apart (ls ++ (l ∷ []))
apart_more l none_apart of_none of_none = one_apart of_none of_none none_apart
apart_more l (one_apart a b h) (of_cons p f) (of_cons q g) = one_apart (every_append a (every_one q)) (every_append b (every_one p)) (apart_more l h f g)

-- Step 6: some are kept,
kept_lefts : {Q : Term → Type 0} (new : Rule) (rules : List Rule) → Every Q (lefts rules) → Every Q (lefts (kept new rules))
unfolding kept
kept_lefts new [] of_none = of_none
kept_lefts {Q} new (old ∷ rules) (of_cons q h) = go (rewrites new old) (kept_lefts new rules h)
  where
    go : (b : Bool) → Every Q (lefts (kept new rules)) → Every Q (lefts (if b then kept new rules else (old ∷ kept new rules)))
    go true k = k
    go false k = of_cons q k

kept_apart : (new : Rule) (rules : List Rule) → Apart (lefts rules) → Apart (lefts (kept new rules))
unfolding kept
kept_apart new [] none_apart = none_apart
kept_apart new (old ∷ rules) (one_apart a b h) = go (rewrites new old) (kept_apart new rules h)
  where
    go : (r : Bool) → Apart (lefts (kept new rules)) → Apart (lefts (if r then kept new rules else (old ∷ kept new rules)))
    go true k = k
    go false k = one_apart (kept_lefts new rules a) (kept_lefts new rules b) k

-- the new rule does not rewrite those,
kept_normal : (new : Rule) (rules : List Rule) → Every (Normal (StepBy (new ∷ []))) (lefts (kept new rules))
unfolding kept rewrites is_some
kept_normal new [] = of_none
kept_normal new (old ∷ rules) = go (step (new ∷ []) old.sides.left) refl (kept_normal new rules)
  where
    go : (o : Option Term) → step (new ∷ []) old.sides.left ≡ o → Every (Normal (StepBy (new ∷ []))) (lefts (kept new rules)) →
        Every (Normal (StepBy (new ∷ []))) (lefts (if is_some o then kept new rules else (old ∷ kept new rules)))
    go none e k = of_cons (step_none (new ∷ []) old.sides.left e) k
    go (some u) e k = k

-- and the removed ones are apart from them.
FreeTo : List Term → Candidate → Type 0
FreeTo ls c = Every (Free c.sides.left) ls

removed_lefts : {Q : Term → Type 0} (new : Rule) (rules : List Rule) → Every Q (lefts rules) → Every (λ (c : Candidate). Q c.sides.left) (removed new rules)
unfolding removed
removed_lefts new [] of_none = of_none
removed_lefts {Q} new (old ∷ rules) (of_cons q h) = go (rewrites new old) (removed_lefts new rules h)
  where
    go : (b : Bool) → Every (λ (c : Candidate). Q c.sides.left) (removed new rules) →
        Every (λ (c : Candidate). Q c.sides.left)
        (if b then (record { origin = removed_rule old.number; sides = old.sides } ∷ removed new rules) else removed new rules)
    go true k = of_cons q k
    go false k = k

removed_free : (new : Rule) (rules : List Rule) → Apart (lefts rules) → Every (FreeTo (lefts (kept new rules))) (removed new rules)
unfolding kept removed FreeTo
removed_free new [] none_apart = of_none
removed_free new (old ∷ rules) (one_apart a b h) = go (rewrites new old) (removed_free new rules h)
  where
    go : (r : Bool) → Every (FreeTo (lefts (kept new rules))) (removed new rules) →
        Every (FreeTo (lefts (if r then kept new rules else (old ∷ kept new rules))))
        (if r then (record { origin = removed_rule old.number; sides = old.sides } ∷ removed new rules) else removed new rules)
    go true k = of_cons (kept_lefts new rules a) k
    go false k = every_map (λ c q. of_cons q.0 q.1) (every_both (removed_lefts new rules b) k)

-- Step 7: left sides stay.
rights_lefts : {new : Rule} {older done later : List Rule} → Rights new older done later → lefts (done ++ later) ≡ lefts older
rights_lefts (none_yet e d) = rw (e, d) refl
rights_lefts (one_more {before} {done} {later} {old} {r} g f e) =
    ap (λ l. lefts (l ++ later)) e
    ∙ ap lefts (append_assoc before (with_right old r ∷ []) later)
    ∙ map-append left_of before (with_right old r ∷ later)
    ∙ sym (map-append left_of before (old ∷ later))
    ∙ rights_lefts g

-- The left sides of live rules are apart, and those of removed rules that wait are apart from them.
abbrev FreeWaiting : (ℕ → ℕ) → List Term → Candidate → Type 0
FreeWaiting rank ls c = IsRule rank c → Every (Free c.sides.left) ls

record Spread (T : Theory) (s : State) : Type 0 where
  apart : Apart (lefts s.rules)
  waiting : Every (FreeWaiting (rank_of T.symbols) (lefts s.rules)) s.waiting

-- The rules of the next state.
module _ (s : State) (new : Rule) (composed : List Rule) (r : Rights new (kept new s.rules) composed [])
    (normal : Normal (StepBy s.rules) new.sides.left) where
  next_lefts : lefts (composed ++ (new ∷ [])) ≡ lefts (kept new s.rules) ++ (new.sides.left ∷ [])
  next_lefts =
      map-append left_of composed (new ∷ [])
      ∙ ap (λ l. l ++ (new.sides.left ∷ [])) (ap lefts (sym (append-nil composed)) ∙ rights_lefts r)

  -- each left side before it is apart from the new one, and the new one from those kept
  to_new : Every (λ m. Free m new.sides.left) (lefts s.rules)
  to_new = every_mapped left_of (every_of s.rules (λ old i. normal_free s.rules old.sides.left new.sides.left (own_left s.rules old i) normal))

  from_new : Every (Free new.sides.left) (lefts (kept new s.rules))
  from_new = every_map (λ m n. normal_free (new ∷ []) new.sides.left m (own_left (new ∷ []) new (Memᴰ.head refl)) n) (kept_normal new s.rules)

  next_apart : Apart (lefts s.rules) → Apart (lefts (composed ++ (new ∷ [])))
  next_apart h = subst Apart (sym next_lefts) (apart_more new.sides.left (kept_apart new s.rules h) from_new (kept_lefts new s.rules to_new))

  -- of a removed rule: apart from those kept, and from the new one
  with_new : (l : Term) → Every (Free l) (lefts (kept new s.rules)) → Free l new.sides.left → Every (Free l) (lefts (composed ++ (new ∷ [])))
  with_new l h p = subst (Every (Free l)) (sym next_lefts) (every_append h (every_one p))

  still_free : (rank : ℕ → ℕ) (c : Candidate) → ReducesRemoved rank s.rules c × FreeWaiting rank (lefts s.rules) c →
      FreeWaiting rank (lefts (composed ++ (new ∷ []))) c
  still_free rank c (h, q) e =
      with_new c.sides.left (kept_lefts new s.rules (q e)) (normal_free s.rules c.sides.left new.sides.left (h e) normal)

  removed_waiting : (rank : ℕ → ℕ) → Apart (lefts s.rules) → Every (FreeWaiting rank (lefts (composed ++ (new ∷ [])))) (removed new s.rules)
  unfolding FreeTo
  removed_waiting rank h =
      every_map (λ c q e. with_new c.sides.left q.0 q.1) (every_both (removed_free new s.rules h) (removed_lefts new s.rules to_new))

next_spread : (T : Theory) (s s' : State) → Next T s s' → Postponed T s → Spread T s → Spread T s'
unfolding settled waits_again
next_spread T s s' (settles t g room q e) p h = rw e (record { apart = h.apart; waiting = source_rest T s g.of t.waiting g.source h.waiting })
next_spread T s s' (makes t g room d few sides o live composed r e) p h =
    let rank : ℕ → ℕ = rank_of T.symbols in
    let new : Rule = new_rule s sides in
    let normal : Normal (StepBy s.rules) sides.left =
    new_normal T s.rules t.pair.sides sides (step_none s.rules _ g.forms.left.normal) (step_none s.rules _ g.forms.right.normal) o in
    rw e
    (record {
      apart = next_apart s new composed r normal h.apart;
      waiting =
          every_append
          (every_map (still_free s new composed r normal rank) (source_rest T s g.of t.waiting g.source (every_both p h.waiting)))
          (removed_waiting s new composed r normal rank h.apart);
    })
next_spread T s s' (puts_back t g room d few n may e) p h =
    rw e
    (record {
      apart = h.apart;
      waiting =
          every_append (source_rest T s g.of t.waiting g.source h.waiting)
          (equations_have (rank_of T.symbols) (put_back_equation T t.pair.origin t.pair.sides n));
    })

reachable_spread : (T : Theory) {s : State} → Reachable T s → Spread T s
unfolding initial
reachable_spread T (from_start e) =
    let rank : ℕ → ℕ = rank_of T.symbols in
    rw e (record { apart = none_apart; waiting = equations_have rank (inputs_equations rank 1 T.equations) })
reachable_spread T (by_turn {s} {s'} left {left'} r e) = next_spread T s s' (turn_next T s s' left left' e) (reachable_postponed T r) (reachable_spread T r)

-- So in every state the published condition of Collapse holds of a removed rule, whichever live rule rewrites it.
abbrev pub FreeRemoved : (ℕ → ℕ) → List Rule → Candidate → Type 0
FreeRemoved rank rules c = IsRule rank c → (l r : Term) → Of (sides_of rules) l r → Free c.sides.left l

of_lefts : (Q : Term → Type 0) (rules : List Rule) → Every Q (lefts rules) → (l r : Term) → Of (sides_of rules) l r → Q l
of_lefts Q rules h l r i =
    let a : ItemOf rule_sides rules l r = item_of rule_sides rules l r i in
    subst Q a.is_left (every_in (mapped_every left_of rules h) a.is_item)

pub reachable_free : (T : Theory) {s : State} → Reachable T s → Every (FreeRemoved (rank_of T.symbols) s.rules) s.waiting
reachable_free T {s} r = every_map (λ c q e l m i. of_lefts (Free c.sides.left) s.rules (q e) l m i) (reachable_spread T r).waiting
