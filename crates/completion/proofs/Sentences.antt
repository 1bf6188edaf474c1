-- The steps of a turn as document 01 and document 02, Six, say them: each law is one of their sentences, of what `turn` and its parts come to when the
-- steps before have come to something. Assumes nothing.
-- Read first: specs/Turn.
use Rattle.std.specs.Prelude.{if◌then◌else◌}
use mathlib.Core.Path.{◌≡◌, refl, sym, ap, ◌∙◌}
use mathlib.Core.Bool.{Bool, true, false}
use mathlib.Core.Logic.{◌⊎◌, inl, inr}
use mathlib.Core.List.{List, [], ◌∷◌, ◌++◌}
use mathlib.Core.Option.{Option, none, some}
use Prim.Native.Nat.{ℕ, suc, ◌≤◌, ◌<◌}
use native.Mathlib.Omega.{arith}
use lib.Dec.{leb}
use lib.ListN.{length}
use borrow.Author.Tests.{le-leb, lt-leb, lt-ltb, le-ltb}
use Rattle.terms.specs.Term.{Pair, same, pair_variables}
use Rattle.order.specs.Order.{above}
use Rattle.rewriting.specs.Overlap.{Rule}
use Rattle.rewriting.specs.Rewrite.{End, neither_above, spent, too_large, rules_full, log_full, Paid, done, stop, return, end_with}
use Rattle.rewriting.specs.Rewrite.{and_then, ◌>>=◌, end_if, pay, normalise_pair, Paying}
use Rattle.rewriting.proofs.Holds.{Holds, Pays, bind_holds, return_holds, and_then_assoc}
use Rattle.problem.specs.Problem.{rank_of, Theory}
use Rattle.completion.specs.Turn.{Candidate, State, Taken, if_different, scan_inputs, scan, take_pair, orient, kept, removed}
use Rattle.completion.specs.Turn.{waits_again, if_oriented, make_rule, settled, end_if_all_put_back, turn}

-- 1. "Pay a unit": with none left, the end is 21.
pub turn_unpaid : (T : Theory) (s : State) → turn T s 0 ≡ stop spent 0
unfolding turn ◌>>=◌ and_then pay
turn_unpaid T s = refl

-- 1. "After all overlaps, normalise each input equation": one with equal forms costs its steps, and the next comes,
pub scan_pays_input : (rules : List Rule) (c : Candidate) (cs : List Candidate) (forms : Pair) (units left : ℕ) →
    normalise_pair rules c.sides units ≡ done forms left →
    same forms.left forms.right ≡ true → scan rules (c ∷ cs) [] units ≡ scan rules cs [] left
unfolding scan
scan_pays_input rules c cs forms units left h d = pays
  where
    pays : scan_inputs rules (c ∷ cs) units ≡ scan_inputs rules cs left
    pays = unfold scan_inputs ◌>>=◌ and_then if_different in rw (h, d) refl

-- and "The first with two different normal forms is taken, as these forms."
pub scan_takes_input : (rules : List Rule) (c : Candidate) (cs : List Candidate) (forms : Pair) (units left : ℕ) →
    normalise_pair rules c.sides units ≡ done forms left →
    same forms.left forms.right ≡ false → scan rules (c ∷ cs) [] units ≡ done (record { origin = c.origin; sides = forms }) left
unfolding scan scan_inputs ◌>>=◌ and_then if_different return
scan_takes_input rules c cs forms units left h d = rw (h, d) refl

-- An end that is due is given, one that is not due is not,
ends : (b : Bool) (e : End) (units : ℕ) → b ≡ true → end_if b e units ≡ stop e units
unfolding end_if end_with
ends b e units h = ap (λ (b : Bool). end_if b e units) h

goes_on : (b : Bool) (e : End) (units : ℕ) → b ≡ false → end_if b e units ≡ done tt units
unfolding end_if return
goes_on b e units h = ap (λ (b : Bool). end_if b e units) h

-- and what is behind it is not reached.
ends_all : {A : Type 0} (b : Bool) (e : End) (units : ℕ) (next : Unit {0} → Paying A) → b ≡ true → and_then (end_if b e units) next ≡ stop e units
unfolding and_then
ends_all b e units next h = ap (λ p. and_then p next) (ends b e units h)

-- Behind its unit: not every one waiting has been put back, and a pair is taken.
abbrev pub taking : Theory → State → Paying Taken
taking T s = end_if_all_put_back s.waiting s.put_back >>= λ _. take_pair T s.rules s.waiting

-- Where none waits, or fewer were put back than wait, a pair is taken;
abbrev pub MayTake : State → Type 0
MayTake s = (length s.waiting ≡ 0) ⊎ (s.put_back < length s.waiting)

pub taking_on : (T : Theory) (s : State) (units : ℕ) → MayTake s → taking T s units ≡ take_pair T s.rules s.waiting units
unfolding ◌>>=◌
taking_on T s units h = ap (λ p. and_then p (λ _. take_pair T s.rules s.waiting)) (go s.waiting h) ∙ unfold and_then in refl
  where
    go : (cs : List Candidate) → (length cs ≡ 0) ⊎ (s.put_back < length cs) → end_if_all_put_back cs s.put_back units ≡ done tt units
    go [] h = unfold end_if_all_put_back return in refl
    go (c ∷ cs) (inl h) = absurd (omega arith)
    go (c ∷ cs) (inr h) = unfold end_if_all_put_back in goes_on _ _ _ (lt-leb _ s.put_back (omega arith))

-- "End 20 is given .. when some equation waits and every one waiting has been put back": as many as wait. "This is tested at the start of the next
-- turn, after its unit is paid."
pub record AllPutBack (s : State) : Type 0 where
  pub some : 0 < length s.waiting
  pub all : length s.waiting ≤ s.put_back

pub taking_ends : (T : Theory) (s : State) (units : ℕ) → AllPutBack s → taking T s units ≡ stop neither_above units
unfolding ◌>>=◌
taking_ends T s units h = ap (λ p. and_then p (λ _. take_pair T s.rules s.waiting)) (go s.waiting h.some h.all) ∙ unfold and_then in refl
  where
    go : (cs : List Candidate) → 0 < length cs → length cs ≤ s.put_back → end_if_all_put_back cs s.put_back units ≡ stop neither_above units
    go [] h k = absurd (omega arith)
    go (c ∷ cs) h k = unfold end_if_all_put_back in ends _ _ _ (le-leb _ s.put_back (omega arith))

-- the rest of a turn
abbrev pub behind_taking : Theory → State → Taken → Paying State
behind_taking T s t =
    end_if (leb 512 (length s.log)) log_full >>= λ _. if same t.pair.sides.left t.pair.sides.right then return (settled s t) else make_rule T s t

pub turn_takes : (T : Theory) (s : State) (units : ℕ) → turn T s (suc units) ≡ and_then (taking T s units) (behind_taking T s)
unfolding turn ◌>>=◌ pay and_then
turn_takes T s units =
    sym (and_then_assoc (end_if_all_put_back s.waiting s.put_back units) (λ _. take_pair T s.rules s.waiting) (behind_taking T s))

-- 2. "24 when a 513th log entry is due, at step 2 of the turn"
pub turn_log_full : (T : Theory) (s : State) (units : ℕ) (t : Taken) (left : ℕ) → taking T s units ≡ done t left →
    512 ≤ length s.log → turn T s (suc units) ≡ stop log_full left
turn_log_full T s units t left h full = turn_takes T s units ∙ ap (λ p. and_then p (behind_taking T s)) h ∙ full_there
  where
    full_there : and_then (done t left) (behind_taking T s) ≡ stop log_full left
    full_there = unfold and_then ◌>>=◌ in ends_all _ _ _ _ (le-leb _ _ full)

-- 4. "An equation with neither side above now goes to the end of the waiting list"
pub orient_neither : (T : Theory) (e : Pair) → above (rank_of T.symbols) e.left e.right ≡ false →
    above (rank_of T.symbols) e.right e.left ≡ false → orient T e ≡ none
unfolding orient
orient_neither T e a b = rw (a, b) refl

-- the new rule, and the state that it leads to
abbrev pub new_rule : State → Pair → Rule
new_rule s sides = record { number = suc s.made; sides = sides }

abbrev pub next_state : State → Taken → Pair → List Rule → State
next_state s t sides rules = record {
  rules = rules;
  made = suc s.made;
  waiting = t.waiting ++ removed (new_rule s sides) s.rules;
  log = s.log ++ (record { origin = t.pair.origin; made = suc s.made } ∷ []);
  put_back = 0;
}

-- whatever is paid for, with any answer and any end
abbrev AnyEnd : End → ℕ → Type 0
AnyEnd e left = Unit {0}

anything : {A : Type 0} (m : Paying A) → Pays (λ (a : A). Unit {0}) AnyEnd m
anything {A} m = record { out = λ left. go (m left) }
  where
    go : (p : Paid A) → Holds (λ (a : A). Unit {0}) AnyEnd p
    go (done a left) = tt
    go (stop e left) = tt

-- these wait, and then others
pub record Behind (before after : List Candidate) : Type 0 where
  pub others : List Candidate
  pub in_front : after ≡ before ++ others

module _ (T : Theory) (s : State) (t : Taken) (units : ℕ) where
  abbrev variables : ℕ
  variables = length (pair_variables t.pair.sides)

  -- 4. "The taken pair has at most 16 different variables, else 22."
  pub make_many_variables : 16 < variables → make_rule T s t units ≡ stop too_large units
  unfolding make_rule ◌>>=◌
  make_many_variables many = ends_all _ _ _ _ (lt-ltb _ _ many)

  -- then by the new rule's sides, if there are such
  pub make_oriented : variables ≤ 16 → make_rule T s t units ≡ if_oriented s t (orient T t.pair.sides) units
  unfolding make_rule ◌>>=◌ and_then end_if return
  make_oriented few = rw (le-ltb 16 variables few) refl

  -- 4. "An equation with neither side above now goes to the end of the waiting list as its two normal forms"
  pub make_waits_again : variables ≤ 16 → orient T t.pair.sides ≡ none → make_rule T s t units ≡ done (waits_again s t) units
  make_waits_again few h = make_oriented few ∙ ap (λ o. if_oriented s t o units) h ∙ unfold if_oriented return in refl

  -- 6. "Over 32 live: 23."
  pub make_many_rules : variables ≤ 16 → (sides : Pair) → orient T t.pair.sides ≡ some sides →
      32 < suc (length (kept (new_rule s sides) s.rules)) → make_rule T s t units ≡ stop rules_full units
  make_many_rules few sides h many = make_oriented few ∙ ap (λ o. if_oriented s t o units) h ∙ full
    where
      full : if_oriented s t (some sides) units ≡ stop rules_full units
      full = unfold if_oriented ◌>>=◌ in ends_all _ _ _ _ (lt-ltb _ _ many)

-- what joins the waiting list joins it behind those that wait, so that the oldest is taken first: 6. "its two sides join the waiting list"; 4. "goes to
-- the end of the waiting list"
oriented_waits : (s : State) (t : Taken) (o : Option Pair) → Pays (λ (s' : State). Behind t.waiting s'.waiting) AnyEnd (if_oriented s t o)
unfolding if_oriented waits_again
oriented_waits s t none = return_holds _ (record { others = _; in_front = refl })
oriented_waits s t (some sides) =
    bind_holds _ _ (anything _) λ _ _.
    bind_holds _ _ (anything _) λ rules _.
    return_holds _ (record { others = removed (new_rule s sides) s.rules; in_front = refl })

pub make_waits : (T : Theory) (s : State) (t : Taken) → Pays (λ (s' : State). Behind t.waiting s'.waiting) AnyEnd (make_rule T s t)
unfolding make_rule
make_waits T s t = bind_holds _ _ (anything _) λ _ _. oriented_waits s t (orient T t.pair.sides)
