-- A rule that was removed and still waits: the live rules rewrite its left side, whatever turns follow, so its Collapse may be put off until it is
-- taken. All else that waits is an equation, what was put back included. Assumes nothing.
-- Read first: specs/Systems, proofs/Ends, proofs/Reachable, proofs/PutBack (`renamed_neither`).
use mathlib.Core.Path.{◌≡◌, refl, sym, ap, subst, ◌∙◌}
use mathlib.Core.Bool.{Bool, true, false, ◌&&◌, and-false, false≢true}
use mathlib.Core.Logic.{◌⊎◌, inl, inr, ⊎_elim}
use mathlib.Core.List.Memᴰ
use mathlib.Core.List.{List, [], ◌∷◌, ◌++◌, Memᴰ}
use Prim.Native.Nat.{ℕ, suc}
use Rattle.std.specs.Prelude.{if◌then◌else◌}
use Rattle.terms.specs.Base.{Every, of_none, of_cons}
use Rattle.terms.specs.Term.{Term, Pair, renamed, subst_term}
use Rattle.terms.proofs.Shape.{some_of}
use Rattle.terms.proofs.Every.{every_one, every_append, every_map, every_tail}
use Rattle.terms.proofs.Subst.{subst_var}
use Rattle.terms.proofs.Context.{plug}
use Rattle.rewriting.specs.Overlap.{Rule, sides_of}
use Rattle.rewriting.specs.Rewrite.{step}
use Rattle.rewriting.proofs.Relations.{Of, root}
use Rattle.rewriting.proofs.Steps.{step_subst, step_plug}
use Rattle.rewriting.proofs.Order.{StepAt, step_at}
use Rattle.rewriting.proofs.Stepping.{StepBy, step_sound}
use Rattle.problem.specs.Problem.{rank_of, Theory}
use Rattle.completion.specs.Turn.{Origin, waiting_input, removed_rule, Candidate, State, candidates, initial}
use Rattle.completion.specs.Turn.{rewrites, kept, removed, waits_again, settled}
use Rattle.completion.specs.Systems.{from_removed, still_rule}
use Rattle.completion.proofs.Words.{ItemOf, item_of, of_item, rule_sides}
use Rattle.completion.proofs.Sentences.{new_rule}
use Rattle.completion.proofs.Ends.{Source, of_waiting, of_overlap, of_input, NeitherAbove, Rights, none_yet, one_more, with_right, Next}
use Rattle.completion.proofs.Ends.{settles, makes, puts_back}
use Rattle.completion.proofs.Reachable.{Reachable, from_start, by_turn, turn_next}
use Rattle.completion.proofs.PutBack.{renamed_neither}

-- a step leads from t
abbrev pub Reduces : List Rule → Term → Type 0
Reduces rules t = (u : Term) × StepBy rules t u

-- Where each left side is reduced by other rules, whatever was reduced is.
reduces_on : (a b : List Rule) → ((old : Rule) → Memᴰ old a → Reduces b old.sides.left) → (t : Term) → Reduces a t → Reduces b t
reduces_on a b h t (u, w) =
    let p : StepAt (Of (sides_of a)) t u = step_at w in
    let q : ItemOf rule_sides a p.l p.r = item_of rule_sides a p.l p.r p.rule in
    let l : Reduces b p.l = subst (Reduces b) q.is_left (h q.item q.is_item) in
    let v : Term = plug p.c (subst_term p.σ l.0) in
    (v, subst (λ z. StepBy b z v) (sym p.before) (step_plug p.c (step_subst p.σ l.1)))

-- A rule reduces its left side.
pub own_left : (rules : List Rule) (r : Rule) → Memᴰ r rules → Reduces rules r.sides.left
own_left rules r i = (_, root {u = r.sides.right} (of_item rule_sides rules r i) _ (sym (subst_var _)) (sym (subst_var _)))

-- Step 6: a rule is kept, or the new rule reduces its left side.
rewrites_reduces : (new old : Rule) → rewrites new old ≡ true → Reduces (new ∷ []) old.sides.left
unfolding rewrites
rewrites_reduces new old e =
    let s = some_of (step (new ∷ []) old.sides.left) (sym e) in
    (s.0, step_sound (new ∷ []) old.sides.left s.0 s.1)

kept_or : (new : Rule) (rules : List Rule) (old : Rule) → Memᴰ old rules → Memᴰ old (kept new rules) ⊎ Reduces (new ∷ []) old.sides.left
unfolding kept
kept_or new [] old i = absurd (Memᴰ.not-nil i)
kept_or new (r ∷ rules) old i = go (rewrites new r) refl (λ j. kept_or new rules old j)
  where
    go : (b : Bool) → rewrites new r ≡ b → (Memᴰ old rules → Memᴰ old (kept new rules) ⊎ Reduces (new ∷ []) old.sides.left) →
        Memᴰ old (if b then kept new rules else (r ∷ kept new rules)) ⊎ Reduces (new ∷ []) old.sides.left
    go true e k = ⊎_elim (λ p. inr (subst (λ (q : Rule). Reduces (new ∷ []) q.sides.left) (sym p) (rewrites_reduces new r e))) k (Memᴰ.cases_cons i)
    go false e k = ⊎_elim (λ p. inl (Memᴰ.head p)) (λ j. ⊎_elim (λ m. inl (Memᴰ.tail m)) (λ m. inr m) (k j)) (Memᴰ.cases_cons i)

-- Step 7: left sides stay.
LeftIn : List Rule → Term → Type 0
LeftIn rules l = (r : Rule) × Memᴰ r rules × (r.sides.left ≡ l)

lefts_stay : {new : Rule} {older done later : List Rule} → Rights new older done later → (old : Rule) → Memᴰ old older →
    LeftIn (done ++ later) old.sides.left
unfolding LeftIn
lefts_stay {older = older} (none_yet {done} {later} e d) old i = (old, subst (λ l. Memᴰ old (l ++ later)) (sym e) (subst (Memᴰ old) (sym d) i), refl)
lefts_stay (one_more {before} {done} {later} {old = x} {r} g f e) old i = go (lefts_stay g old i)
  where
    in_before : (q : Rule) → Memᴰ q before → Memᴰ q (done ++ later)
    in_before q j = Memᴰ.append_left later (subst (Memᴰ q) (sym e) (Memᴰ.append_left (with_right x r ∷ []) j))

    in_done : Memᴰ (with_right x r) (done ++ later)
    in_done = Memᴰ.append_left later (subst (Memᴰ (with_right x r)) (sym e) (Memᴰ.append_right before (Memᴰ.head refl)))

    go : LeftIn (before ++ (x ∷ later)) old.sides.left → LeftIn (done ++ later) old.sides.left
    go (q, j, p) =
        ⊎_elim
        (λ k. (q, in_before q k, p))
        (λ k. ⊎_elim (λ m. (with_right x r, in_done, sym (ap (λ (z : Rule). z.sides.left) m) ∙ p)) (λ m. (q, Memᴰ.append_right done m, p))
        (Memᴰ.cases_cons k))
        (Memᴰ.append_cases before j)

-- So the rules of the next state reduce what the rules of this one reduce.
module _ (new : Rule) (rules done : List Rule) (r : Rights new (kept new rules) done []) where
  abbrev next : List Rule
  next = done ++ (new ∷ [])

  by_new : (t : Term) → Reduces (new ∷ []) t → Reduces next t
  by_new t h = reduces_on (new ∷ []) next (λ old i. own_left next old (Memᴰ.append_right done i)) t h

  left_reduces : (old : Rule) → Memᴰ old rules → Reduces next old.sides.left
  unfolding LeftIn
  left_reduces old i =
      ⊎_elim
      (λ j.
      let l : LeftIn (done ++ []) old.sides.left = lefts_stay r old j in
      ⊎_elim
      (λ k. subst (Reduces next) l.2 (own_left next l.0 (Memᴰ.append_left (new ∷ []) k)))
      (λ k. absurd (Memᴰ.not-nil k))
      (Memᴰ.append_cases done l.1))
      (λ h. by_new old.sides.left h)
      (kept_or new rules old i)

  pub reduces_next : (t : Term) → Reduces rules t → Reduces next t
  reduces_next t h = reduces_on rules next left_reduces t h

-- Of what waits, a rule still, and an equation.
abbrev pub IsRule : (ℕ → ℕ) → Candidate → Type 0
IsRule rank c = still_rule rank c ≡ true

abbrev pub IsEquation : (ℕ → ℕ) → Candidate → Type 0
IsEquation rank c = still_rule rank c ≡ false

-- What is said of rules alone holds of equations.
pub equations_have : {Q : Candidate → Type 0} (rank : ℕ → ℕ) {cs : List Candidate} → Every (IsEquation rank) cs → Every (λ c. IsRule rank c → Q c) cs
equations_have rank h = every_map (λ c e p. absurd (false≢true (sym e ∙ p))) h

-- An input is an equation,
pub inputs_equations : (rank : ℕ → ℕ) (n : ℕ) (es : List Pair) → Every (IsEquation rank) (candidates waiting_input n es)
unfolding candidates still_rule from_removed
inputs_equations rank n [] = of_none
inputs_equations rank n (e ∷ es) = of_cons refl (inputs_equations rank (suc n) es)

-- and so is what is put back, wherever it came from: neither side is above.
neither_equation : (T : Theory) (o : Origin) (e : Pair) → NeitherAbove T e → IsEquation (rank_of T.symbols) (record { origin = o; sides = e })
unfolding still_rule
neither_equation T o e h = ap (λ b. from_removed o && b) h.not_left ∙ and-false (from_removed o)

pub put_back_equation : (T : Theory) (o : Origin) (e : Pair) → NeitherAbove T e →
    Every (IsEquation (rank_of T.symbols)) (record { origin = o; sides = renamed e } ∷ [])
put_back_equation T o e h = every_one (neither_equation T o (renamed e) (renamed_neither T e h))

-- What waits from a removed rule, if it is a rule still.
abbrev pub LeftReduces : List Rule → Candidate → Type 0
LeftReduces rules c = Reduces rules c.sides.left

abbrev pub ReducesRemoved : (ℕ → ℕ) → List Rule → Candidate → Type 0
ReducesRemoved rank rules c = IsRule rank c → LeftReduces rules c

removed_reduce : (new : Rule) (rules : List Rule) → Every (LeftReduces (new ∷ [])) (removed new rules)
unfolding removed
removed_reduce new [] = of_none
removed_reduce new (old ∷ rules) = go (rewrites new old) refl (removed_reduce new rules)
  where
    go : (b : Bool) → rewrites new old ≡ b → Every (LeftReduces (new ∷ [])) (removed new rules) →
        Every (LeftReduces (new ∷ []))
        (if b then (record { origin = removed_rule old.number; sides = old.sides } ∷ removed new rules) else removed new rules)
    go true e h = of_cons (rewrites_reduces new old e) h
    go false e h = h

abbrev pub Postponed : Theory → State → Type 0
Postponed T s = Every (ReducesRemoved (rank_of T.symbols) s.rules) s.waiting

-- What waits behind the pair taken waited before.
pub source_rest : {Q : Candidate → Type 0} (T : Theory) (s : State) (c : Candidate) (cs : List Candidate) → Source T s c cs → Every Q s.waiting → Every Q cs
source_rest {Q} T s c cs (of_waiting e) h = every_tail (subst (Every Q) e h)
source_rest T s c cs (of_overlap at o z small e q) h = rw q of_none
source_rest T s c cs (of_input w a i q) h = rw q of_none

next_postponed : (T : Theory) (s s' : State) → Next T s s' → Postponed T s → Postponed T s'
unfolding settled waits_again
next_postponed T s s' (settles t g room q e) h = rw e (source_rest T s g.of t.waiting g.source h)
next_postponed T s s' (makes t g room d few sides o live done r e) h =
    let new : Rule = new_rule s sides in
    rw e
    (every_append
    (every_map (λ c q p. reduces_next new s.rules done r c.sides.left (q p)) (source_rest T s g.of t.waiting g.source h))
    (every_map (λ c q p. by_new new s.rules done r c.sides.left q) (removed_reduce new s.rules)))
next_postponed T s s' (puts_back t g room d few n may e) h =
    rw e
    (every_append
    (source_rest T s g.of t.waiting g.source h)
    (equations_have (rank_of T.symbols) (put_back_equation T t.pair.origin t.pair.sides n)))

pub reachable_postponed : (T : Theory) {s : State} → Reachable T s → Postponed T s
unfolding initial
reachable_postponed T (from_start e) =
    let rank : ℕ → ℕ = rank_of T.symbols in
    rw e (equations_have rank (inputs_equations rank 1 T.equations))
reachable_postponed T (by_turn {s} {s'} left {left'} r e) = next_postponed T s s' (turn_next T s s' left left' e) (reachable_postponed T r)
