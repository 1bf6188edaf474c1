-- What returning, the ends other than 21, sequencing, paying and normalising have, a whole turn has. Assumes nothing.
-- Read first: specs/Turn.
use mathlib.Core.Bool.{Bool, true, false}
use mathlib.Core.List.{List, [], ◌∷◌}
use mathlib.Core.Option.{Option, none, some}
use Prim.Native.Nat.{ℕ}
use lib.Dec.{ltb, leb}
use lib.ListN.{length}
use Rattle.terms.proofs.Shape.{either_has}
use Rattle.std.specs.Prelude.{if◌then◌else◌}
use Rattle.terms.specs.Term.{Term, Pair, same, size, renamed}
use Rattle.rewriting.specs.Overlap.{Rule, Overlap, Place}
use Rattle.rewriting.specs.Rewrite.{End, complete, neither_above, spent, too_large, rules_full, log_full, Paying, return, end_with, ◌>>=◌, end_if}
use Rattle.rewriting.specs.Rewrite.{pay, hold, normalise, normalise_pair, both_by}
use Rattle.problem.specs.Problem.{Theory}
use Rattle.completion.specs.Turn.{Origin, Candidate, State, Taken, scan_overlap, if_different, if_different_overlap, scan_inputs, scan}
use Rattle.completion.specs.Turn.{take_pair, normalise_rights, if_oriented, make_rule, settled, end_if_all_put_back, turn}

-- a fact for the end 21, another for all others
abbrev pub Unless : End → Type 0 → Type 0 → Type 0
Unless complete A B = B
Unless neither_above A B = B
Unless spent A B = A
Unless too_large A B = B
Unless rules_full A B = B
Unless log_full A B = B

-- an end other than 21
abbrev pub Other : End → Type 0
Other e = Unless e ⊥ (Unit {0})

pub record Lawful (L : (A : Type 0) → Paying A → Type 0) : Type 1 where
  pub returned : (A : Type 0) (a : A) → L A (return a)
  pub ended : (A : Type 0) (e : End) → Other e → L A (end_with e)
  pub bound : (A B : Type 0) (m : Paying A) (next : A → Paying B) → L A m → ((a : A) → L B (next a)) → L B (m >>= next)
  pub paid : L (Unit {0}) pay
  pub normalised : (rules : List Rule) (t : Term) → L Term (normalise rules t)

module _ (L : (A : Type 0) → Paying A → Type 0) (k : Lawful L) where
  end_if_lawful : (b : Bool) (e : End) → Other e → L (Unit {0}) (end_if b e)
  unfolding end_if
  end_if_lawful true e o = k.ended _ e o
  end_if_lawful false e o = k.returned _ tt

  hold_lawful : (t : Term) → L (Unit {0}) (hold t)
  unfolding hold
  hold_lawful t = end_if_lawful (ltb 120 (size t)) too_large tt

  pair_lawful : (rules : List Rule) (e : Pair) → L Pair (normalise_pair rules e)
  unfolding both_by
  pair_lawful rules e =
      k.bound _ _ _ _ (k.normalised rules e.left) λ l.
      k.bound _ _ _ _ (k.normalised rules e.right) λ r.
      k.returned _ _

  overlap_lawful : (rules : List Rule) (o : Option Overlap) → L (Option Pair) (scan_overlap rules o)
  unfolding scan_overlap
  overlap_lawful rules none = k.returned _ none
  overlap_lawful rules (some o) =
      k.bound _ _ _ _ (hold_lawful o.peak) λ _.
      k.bound _ _ _ _ (hold_lawful o.sides.left) λ _.
      k.bound _ _ _ _ (hold_lawful o.sides.right) λ _.
      k.bound _ _ _ _ (pair_lawful rules (renamed o.sides)) λ forms.
      k.returned _ (some forms)

  different_lawful : (origin : Origin) (forms : Pair) (next : Paying Candidate) → L Candidate next → L Candidate (if_different origin forms next)
  unfolding if_different
  different_lawful origin forms next f = either_has (L _) _ _ _ f (k.returned _ _)

  different_overlap_lawful : (at : Place) (o : Option Pair) (next : Paying Candidate) → L Candidate next → L Candidate (if_different_overlap at o next)
  unfolding if_different_overlap
  different_overlap_lawful at none next f = f
  different_overlap_lawful at (some forms) next f = different_lawful _ forms next f

  inputs_lawful : (rules : List Rule) (cs : List Candidate) → L Candidate (scan_inputs rules cs)
  unfolding scan_inputs
  inputs_lawful rules [] = k.ended _ complete tt
  inputs_lawful rules (c ∷ cs) = k.bound _ _ _ _ (pair_lawful rules c.sides) λ forms. different_lawful _ forms _ (inputs_lawful rules cs)

  scan_lawful : (rules : List Rule) (inputs : List Candidate) (ps : List Place) → L Candidate (scan rules inputs ps)
  unfolding scan
  scan_lawful rules inputs [] = inputs_lawful rules inputs
  scan_lawful rules inputs (at ∷ ps) = k.bound _ _ _ _ (overlap_lawful rules _) λ forms. different_overlap_lawful at forms _ (scan_lawful rules inputs ps)

  pub take_lawful : (T : Theory) (rules : List Rule) (cs : List Candidate) → L Taken (take_pair T rules cs)
  unfolding take_pair
  take_lawful T rules [] = k.bound _ _ _ _ (scan_lawful rules _ _) λ c. k.returned _ _
  take_lawful T rules (c ∷ cs) = k.bound _ _ _ _ (pair_lawful rules c.sides) λ forms. k.returned _ _

  pub rights_lawful : (before rules : List Rule) (new : Rule) → L (List Rule) (normalise_rights before rules new)
  unfolding normalise_rights
  rights_lawful before [] new = k.returned _ _
  rights_lawful before (old ∷ rules) new = k.bound _ _ _ _ (k.normalised _ old.sides.right) λ r. rights_lawful _ rules new

  oriented_lawful : (s : State) (t : Taken) (o : Option Pair) → L State (if_oriented s t o)
  unfolding if_oriented
  oriented_lawful s t none = k.returned _ _
  oriented_lawful s t (some sides) =
      k.bound _ _ _ _ (end_if_lawful _ rules_full tt) λ _.
      k.bound _ _ _ _ (rights_lawful [] _ _) λ rules.
      k.returned _ _

  make_lawful : (T : Theory) (s : State) (t : Taken) → L State (make_rule T s t)
  unfolding make_rule
  make_lawful T s t = k.bound _ _ _ _ (end_if_lawful _ too_large tt) λ _. oriented_lawful s t _

  all_put_back_lawful : (waiting : List Candidate) (n : ℕ) → L (Unit {0}) (end_if_all_put_back waiting n)
  unfolding end_if_all_put_back
  all_put_back_lawful [] n = k.returned _ tt
  all_put_back_lawful (c ∷ waiting) n = end_if_lawful _ neither_above tt

  -- the turn behind its first unit
  pub rest_lawful : (T : Theory) (s : State) →
      L State (end_if_all_put_back s.waiting s.put_back >>= λ _.
      take_pair T s.rules s.waiting >>= λ t.
      end_if (leb 512 (length s.log)) log_full >>= λ _.
      if same t.pair.sides.left t.pair.sides.right then return (settled s t) else make_rule T s t)
  rest_lawful T s =
      k.bound _ _ _ _ (all_put_back_lawful s.waiting s.put_back) λ _.
      k.bound _ _ _ _ (take_lawful T s.rules s.waiting) λ t.
      k.bound _ _ _ _ (end_if_lawful _ log_full tt) λ _.
      either_has (L _) _ _ _ (k.returned _ _) (make_lawful T s t)

  pub turn_lawful : (T : Theory) (s : State) → L State (turn T s)
  unfolding turn
  turn_lawful T s = k.bound _ _ _ _ k.paid λ _. rest_lawful T s
