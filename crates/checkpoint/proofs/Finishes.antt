-- With enough units a turn ends other than with 21: normalising ends because rules go down in the path order. Assumes nothing.
-- Read first: completion/specs/Turn, completion/proofs/Steady, rewriting/proofs/Order.
use Rattle.std.specs.Prelude.{if◌then◌else◌}
use mathlib.Core.Path.{◌≡◌, refl, subst}
use mathlib.Core.Bool.{Bool, true, false}
use mathlib.Core.List.{List, [], ◌∷◌, ◌++◌}
use mathlib.Core.Option.{Option, none, some}
use mathlib.Core.WellFounded.{Acc}
use Prim.Native.Nat.{ℕ, suc, ◌+◌}
use native.Mathlib.Nat.{add_comm}
use lib.Dec.{ltb}
use Rattle.terms.specs.Base.{Every, of_none, of_cons}
use Rattle.terms.specs.Term.{Term, Pair, size, renamed}
use Rattle.terms.proofs.Every.{every_one, every_append}
use Rattle.terms.proofs.Shape.{either_has}
use Rattle.order.specs.Order.{above}
use Rattle.order.proofs.Decide.{above_dec}
use Rattle.rewriting.specs.Overlap.{Rule, Overlap, Place, sides_of}
use Rattle.rewriting.specs.Rewrite.{step, End, complete, neither_above, spent, too_large, rules_full, log_full, Paid, done, stop, Paying, return, end_with}
use Rattle.rewriting.specs.Rewrite.{and_then, ◌>>=◌, end_if, pay, hold, normalise, normalise_pair, normalise_by, both_by}
use Rattle.rewriting.proofs.Relations.{Below, Of}
use Rattle.rewriting.proofs.Stepping.{StepBy, step_sound}
use Rattle.rewriting.proofs.Order.{order_ends}
use Rattle.rewriting.proofs.PathOrder.{above_order}
use Rattle.rewriting.proofs.Lower.{above_lower}
use Rattle.rewriting.proofs.Covers.{of_every}
use Rattle.rewriting.proofs.Holds.{Form, Holds, reached_star, normalise_holds}
use Rattle.problem.specs.Problem.{rank_of, Theory}
use Rattle.completion.specs.Turn.{Origin, Candidate, State, Taken, scan_overlap, if_different, if_different_overlap, scan_inputs, scan, take_pair}
use Rattle.completion.specs.Turn.{orient, normalise_rights, if_oriented, make_rule, end_if_all_put_back, turn}
use Rattle.completion.proofs.Lawful.{Other, rights_lawful}
use Rattle.completion.proofs.Steady.{WithMore, Steady, bind_steady, steady, normalise_steady, return_steady, pay_steady}
use Rattle.completion.proofs.Closed.{kept_every}
use Rattle.completion.proofs.Invariant.{renamed_down}

-- an answer, or an end other than 21
abbrev pub Over : {A : Type 0} → Paid A → Type 0
Over (done a left) = Unit {0}
Over (stop e left) = Other e

-- with enough units; and with more it is the same
pub record Ending {A : Type 0} (m : Paying A) : Type 0 where
  pub steady_is : Steady m
  pub units : ℕ
  pub over : Over (m units)

-- more units
stop_over : {A : Type 0} (e : End) (left k : ℕ) (p : Paid A) → Other e → WithMore {A = A} (stop e left) k p → Over p
stop_over complete left k p o h = rw h tt
stop_over neither_above left k p o h = rw h tt
stop_over spent left k p o h = absurd o
stop_over too_large left k p o h = rw h tt
stop_over rules_full left k p o h = rw h tt
stop_over log_full left k p o h = rw h tt

more_over : {A : Type 0} (p q : Paid A) (k : ℕ) → WithMore p k q → Over p → Over q
more_over (done a left) q k h o = rw h tt
more_over (stop e left) q k h o = stop_over e left k q o h

-- What follows an answer of m with enough units: as many more as it needs.
bind_ending : {A B : Type 0} (Q : A → Type 0) (m : Paying A) (next : A → Paying B) → ((a : A) → Steady (next a)) →
    ((left : ℕ) → Holds Q (λ e l. Unit {0}) (m left)) → Ending m →
    ((a : A) → Q a → Ending (next a)) → Ending (m >>= next)
unfolding ◌>>=◌ and_then
bind_ending {A} Q m next sn pays h k = go (m h.units) refl h.over (pays h.units)
  where
    go : (p : Paid A) → m h.units ≡ p → Over p → Holds Q (λ e l. Unit {0}) p → Ending (m >>= next)
    go (done a left) e o q =
        let g : Ending (next a) = k a q in
        let s : m (h.units + g.units) ≡ done a (left + g.units) =
        subst (λ p. WithMore p g.units (m (h.units + g.units))) e (h.steady_is h.units g.units (h.units + g.units) refl) in
        record {
          steady_is = bind_steady m next h.steady_is sn;
          units = h.units + g.units;
          over = rw s (more_over (next a g.units) (next a (left + g.units)) left
              (sn a g.units left (left + g.units) (add_comm left g.units)) g.over);
        }
    go (stop e left) q o _ = record { steady_is = bind_steady m next h.steady_is sn; units = h.units; over = rw q o }

no_claim : {A : Type 0} (p : Paid A) → Holds {A = A} (λ _. Unit {0}) (λ e l. Unit {0}) p
no_claim (done a l) = tt
no_claim (stop e l) = tt

then_ending : {A B : Type 0} (m : Paying A) (next : A → Paying B) → Ending m → ((a : A) → Ending (next a)) → Ending (m >>= next)
then_ending m next h k = bind_ending (λ _. Unit {0}) m next (λ a. (k a).steady_is) (λ left. no_claim (m left)) h (λ a _. k a)

return_ending : {A : Type 0} (a : A) → Ending (return a)
unfolding return
return_ending a = record { steady_is = return_steady a; units = 0; over = tt }

end_with_ending : (A : Type 0) (e : End) → Other e → Ending (end_with {A = A} e)
unfolding end_with
end_with_ending A e o = record { steady_is = steady.ended A e o; units = 0; over = o }

end_if_ending : (b : Bool) (e : End) → Other e → Ending (end_if b e)
unfolding end_if
end_if_ending true e o = end_with_ending _ e o
end_if_ending false e o = return_ending tt

hold_ending : (t : Term) → Ending (hold t)
unfolding hold
hold_ending t = end_if_ending (ltb 120 (size t)) too_large tt

pay_ending : Ending pay
unfolding pay
pay_ending = record { steady_is = pay_steady; units = 1; over = tt }

if_over : {A : Type 0} (b : Bool) (p q : Paid A) → Over p → Over q → Over {A = A} (if b then p else q)
if_over true p q h k = h
if_over false p q h k = k

module _ (rank : ℕ → ℕ) where
  abbrev pub Down : Pair → Type 0
  Down e = above rank e.left e.right ≡ true

  abbrev pub DownRules : List Rule → Type 0
  DownRules rules = Every (λ (r : Rule). Down r.sides) rules

  module _ (rules : List Rule) (d : DownRules rules) where
    normalise_from : {t : Term} → Acc (Below (StepBy rules)) t → Ending (normalise rules t)
    unfolding normalise_by
    normalise_from (Acc.intro t h) = go (step rules t) refl (λ u s. normalise_from (h u s))
      where
        go : (o : Option Term) → step rules t ≡ o → ((u : Term) → StepBy rules t u → Ending (normalise rules u)) → Ending (normalise rules t)
        go none e ih = record { steady_is = normalise_steady rules t; units = 0; over = rw (e, normalise_by) tt }
        go (some u) e ih =
            let k : Ending (normalise rules u) = ih u (step_sound rules t u e) in
            record {
              steady_is = normalise_steady rules t;
              units = suc k.units;
              over = rw (e, normalise_by) (if_over (ltb 120 (size u)) (stop too_large k.units) (normalise rules u k.units) tt k.over);
            }

    -- "Normalising: while some rule's left side matches a node, rewrite." It ends.
    pub normalise_ending : (t : Term) → Ending (normalise rules t)
    normalise_ending t = normalise_from (order_ends (above_order rank) (λ l r i. (above_dec rank l r).0 (of_every Down d l r i)) t)

    pair_ending : (e : Pair) → Ending (normalise_pair rules e)
    unfolding both_by
    pair_ending e = then_ending _ _ (normalise_ending e.left) λ l. then_ending _ _ (normalise_ending e.right) λ r. return_ending _

    overlap_ending : (o : Option Overlap) → Ending (scan_overlap rules o)
    unfolding scan_overlap
    overlap_ending none = return_ending none
    overlap_ending (some o) =
        then_ending _ _ (hold_ending o.peak) λ _.
        then_ending _ _ (hold_ending o.sides.left) λ _.
        then_ending _ _ (hold_ending o.sides.right) λ _.
        then_ending _ _ (pair_ending (renamed o.sides)) λ forms.
        return_ending (some forms)

    different_ending : (origin : Origin) (forms : Pair) (next : Paying Candidate) → Ending next → Ending (if_different origin forms next)
    unfolding if_different
    different_ending origin forms next h = either_has Ending _ _ _ h (return_ending _)

    different_overlap_ending : (at : Place) (o : Option Pair) (next : Paying Candidate) → Ending next → Ending (if_different_overlap at o next)
    unfolding if_different_overlap
    different_overlap_ending at none next h = h
    different_overlap_ending at (some forms) next h = different_ending _ forms next h

    inputs_ending : (cs : List Candidate) → Ending (scan_inputs rules cs)
    unfolding scan_inputs
    inputs_ending [] = end_with_ending _ complete tt
    inputs_ending (c ∷ cs) = then_ending _ _ (pair_ending c.sides) λ forms. different_ending _ forms _ (inputs_ending cs)

    scan_ending : (inputs : List Candidate) (ps : List Place) → Ending (scan rules inputs ps)
    unfolding scan
    scan_ending inputs [] = inputs_ending inputs
    scan_ending inputs (at ∷ ps) = then_ending _ _ (overlap_ending _) λ forms. different_overlap_ending at forms _ (scan_ending inputs ps)

    take_ending : (T : Theory) (cs : List Candidate) → Ending (take_pair T rules cs)
    unfolding take_pair
    take_ending T [] = then_ending _ _ (scan_ending _ _) λ c. return_ending _
    take_ending T (c ∷ cs) = then_ending _ _ (pair_ending c.sides) λ forms. return_ending _

  -- step 7: a right side that is rewritten stays below
  right_down : (rules : List Rule) → DownRules rules → (e : Pair) (r : Term) → Form rules e.right r → Down e → Down (record { left = e.left; right = r })
  right_down rules d e r f h = above_lower rank (Of (sides_of rules)) (λ a b i. of_every Down d a b i) e.left e.right r (reached_star f.reached) h

  rights_ending : (before rules : List Rule) (new : Rule) → DownRules before → DownRules rules → Down new.sides → Ending (normalise_rights before rules new)
  unfolding normalise_rights
  rights_ending before [] new b d n = return_ending _
  rights_ending before (old ∷ rules) new b (of_cons q d) n =
      let all : List Rule = before ++ (old ∷ rules) ++ (new ∷ []) in
      let h : DownRules all = every_append (every_append b (of_cons q d)) (every_one n) in
      bind_ending (Form all old.sides.right) _ _ (λ r. rights_lawful (λ A m. Steady m) steady _ rules new)
      (λ left. (normalise_holds (λ e l. Unit {0}) all tt old.sides.right (λ _ _. tt)).out left)
      (normalise_ending all h old.sides.right) λ r f.
      rights_ending _ rules new (every_append b (every_one (right_down all h old.sides r f q))) d n

module _ (T : Theory) where
  abbrev rank : ℕ → ℕ
  rank = rank_of T.symbols

  OrientDown : Option Pair → Type 0
  OrientDown none = Unit {0}
  OrientDown (some f) = Down rank f

  orient_down : (e : Pair) → OrientDown (orient T e)
  unfolding orient OrientDown
  orient_down e = go (above rank e.left e.right) (above rank e.right e.left) refl refl
    where
      go : (b c : Bool) → above rank e.left e.right ≡ b → above rank e.right e.left ≡ c →
          OrientDown (if b then some (renamed e) else if c then some (renamed (record { left = e.right; right = e.left })) else none)
      go true c p q = renamed_down rank e p
      go false true p q = renamed_down rank (record { left = e.right; right = e.left }) q
      go false false p q = tt

  module _ (s : State) (d : DownRules rank s.rules) where
    oriented_ending : (t : Taken) (o : Option Pair) → OrientDown o → Ending (if_oriented s t o)
    unfolding if_oriented OrientDown
    oriented_ending t none h = return_ending _
    oriented_ending t (some sides) h =
        then_ending _ _ (end_if_ending _ rules_full tt) λ _.
        then_ending _ _ (rights_ending rank [] _ _ of_none (kept_every _ d) h) λ rules.
        return_ending _

    make_ending : (t : Taken) → Ending (make_rule T s t)
    unfolding make_rule
    make_ending t = then_ending _ _ (end_if_ending _ too_large tt) λ _. oriented_ending t _ (orient_down t.pair.sides)

    all_put_back_ending : (waiting : List Candidate) (n : ℕ) → Ending (end_if_all_put_back waiting n)
    unfolding end_if_all_put_back
    all_put_back_ending [] n = return_ending tt
    all_put_back_ending (oldest ∷ others) n = end_if_ending _ neither_above tt

    -- A turn whose rules go down ends other than with 21, if it has enough units.
    pub turn_ending : Ending (turn T s)
    unfolding turn
    turn_ending =
        then_ending _ _ pay_ending λ _.
        then_ending _ _ (all_put_back_ending s.waiting s.put_back) λ _.
        then_ending _ _ (take_ending rank s.rules d T s.waiting) λ t.
        then_ending _ _ (end_if_ending _ log_full tt) λ _.
        either_has Ending _ _ _ (return_ending _) (make_ending t)
