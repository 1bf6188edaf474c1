-- What holds of a payment: of its answer, and of an end with the units then left. Assumes nothing.
-- Read first: specs/Rewrite, proofs/Stepping.
use mathlib.Core.Path.{◌≡◌, refl}
use mathlib.Core.Bool.{Bool, true, false}
use mathlib.Core.Option.{Option, none, some}
use mathlib.Core.List.{List}
use Prim.Native.Nat.{ℕ, suc, zero, ◌≤◌, ◌<◌}
use lib.Dec.{ltb}
use borrow.Author.Tests.{ltb-true, ltb-false}
use Rattle.std.specs.Prelude.{if◌then◌else◌}
use Rattle.terms.proofs.Shape.{zero≢one}
use Rattle.terms.specs.Term.{Term, Pair, size}
use Rattle.rewriting.specs.Overlap.{Rule}
use Rattle.rewriting.specs.Ends.{ending, number_of}
use Rattle.rewriting.specs.Rewrite.{step, End, complete, neither_above, spent, too_large, rules_full, log_full, end_number, Paid, done}
use Rattle.rewriting.specs.Rewrite.{stop, Paying, return, end_with, and_then, ◌>>=◌, end_if, pay, hold, normalise, normalise_pair, normalise_by, both_by}
use Rattle.rewriting.proofs.Relations
use Rattle.rewriting.proofs.Relations.{Star}
use Rattle.rewriting.proofs.Abstract.{append, one}
use Rattle.rewriting.proofs.Stepping.{StepBy, step_sound}

-- what follows an answer that follows another
pub and_then_assoc : {A B C : Type 0} (p : Paid A) (f : A → Paying B) (g : B → Paying C) →
    and_then (and_then p f) g ≡ and_then p (λ a left. and_then (f a left) g)
unfolding and_then
and_then_assoc (done a left) f g = refl
and_then_assoc (stop e left) f g = refl

abbrev pub Holds : {A : Type 0} → (A → Type 0) → (End → ℕ → Type 0) → Paid A → Type 0
Holds Q E (done a left) = Q a
Holds Q E (stop e left) = E e left

-- A record, so that its arguments are read off.
pub record Pays {A : Type 0} (Q : A → Type 0) (E : End → ℕ → Type 0) (m : Paying A) : Type 0 where
  pub out : (left : ℕ) → Holds Q E (m left)

then_holds : {A B : Type 0} (Q : A → Type 0) (R : B → Type 0) (E : End → ℕ → Type 0) (p : Paid A) (next : A → Paying B) → Holds Q E p →
    ((a : A) → Q a → Pays R E (next a)) →
    Holds R E (and_then p next)
unfolding and_then
then_holds Q R E (done a left) next h k = (k a h).out left
then_holds Q R E (stop e left) next h k = h

weaker : {A : Type 0} (Q R : A → Type 0) (E : End → ℕ → Type 0) → ((a : A) → Q a → R a) → (p : Paid A) → Holds Q E p → Holds R E p
weaker Q R E f (done a left) h = f a h
weaker Q R E f (stop e left) h = h

choose_holds : {A : Type 0} (Q : A → Type 0) (E : End → ℕ → Type 0) (b : Bool) (p q : Paid A) → (b ≡ true → Holds Q E p) → (b ≡ false → Holds Q E q) →
    Holds Q E (if b then p else q)
choose_holds Q E true p q f g = f refl
choose_holds Q E false p q f g = g refl

module _ {E : End → ℕ → Type 0} where
  pub bind_holds : {A B : Type 0} {Q : A → Type 0} {R : B → Type 0} (m : Paying A) (next : A → Paying B) → Pays Q E m → ((a : A) → Q a → Pays R E (next a)) →
      Pays R E (m >>= next)
  unfolding ◌>>=◌
  bind_holds {Q = Q} {R = R} m next h k = record { out = λ left. then_holds Q R E (m left) next (h.out left) k }

  pub pays_weaker : {A : Type 0} {Q R : A → Type 0} (m : Paying A) → ((a : A) → Q a → R a) → Pays Q E m → Pays R E m
  pays_weaker {Q = Q} {R = R} m f h = record { out = λ left. weaker Q R E f (m left) (h.out left) }

  pub return_holds : {A : Type 0} {Q : A → Type 0} (a : A) → Q a → Pays Q E (return a)
  unfolding return
  return_holds a q = record { out = λ left. q }

  pub end_with_holds : {A : Type 0} {Q : A → Type 0} (e : End) → ((left : ℕ) → E e left) → Pays Q E (end_with e)
  unfolding end_with
  end_with_holds e h = record { out = h }

  pub end_if_holds : (b : Bool) (e : End) → (b ≡ true → (left : ℕ) → E e left) → Pays (λ _. b ≡ false) E (end_if b e)
  unfolding end_if
  end_if_holds true e h = end_with_holds e (h refl)
  end_if_holds false e h = return_holds tt refl

  pub if_holds : {A : Type 0} {Q : A → Type 0} (b : Bool) (m n : Paying A) → (b ≡ true → Pays Q E m) → (b ≡ false → Pays Q E n) → Pays Q E (if b then m else n)
  if_holds true m n f g = f refl
  if_holds false m n f g = g refl

  pub pay_holds : E spent 0 → Pays (λ _. Unit {0}) E pay
  unfolding pay
  pay_holds h = record { out = elim [ zero ↦ h | suc left ↦ tt ] }

  pub hold_holds : (t : Term) → (120 < size t → (left : ℕ) → E too_large left) → Pays (λ _. size t ≤ 120) E (hold t)
  unfolding hold
  hold_holds t h =
      pays_weaker (end_if (ltb 120 (size t)) too_large) (λ u k. ltb-false 120 (size t) k)
      (end_if_holds (ltb 120 (size t)) too_large (λ e. h (ltb-true 120 (size t) e)))

-- Some steps of `step` from t, each to a term of at most 120 nodes.
pub data Reached (rules : List Rule) (t : Term) : Term → Type 0 where
  start : Reached rules t t
  further : {u w : Term} → Reached rules t u → step rules u ≡ some w → size w ≤ 120 → Reached rules t w

pub reached_star : {rules : List Rule} {t u : Term} → Reached rules t u → Star (StepBy rules) t u
reached_star start = Relations.stop
reached_star {rules} (further {u = u} {w = w} r e l) = append (reached_star r) (one (step_sound rules u w e))

-- What is kept from a term to the next is kept on the way.
pub reached_keeps : (Q : Term → Type 0) {rules : List Rule} {t u : Term} → ((a b : Term) → step rules a ≡ some b → size b ≤ 120 → Q a → Q b) →
    Reached rules t u → Q t → Q u
reached_keeps Q k start q = q
reached_keeps Q k (further {u = u} {w = w} r e l) q = k u w e l (reached_keeps Q k r q)

-- the term that no step leaves
pub record Form (rules : List Rule) (t u : Term) : Type 0 where
  pub reached : Reached rules t u
  pub normal : step rules u ≡ none

pub record Forms (rules : List Rule) (e f : Pair) : Type 0 where
  pub left : Form rules e.left f.left
  pub right : Form rules e.right f.right

-- on the way from t there is a term over 120 nodes
pub record Outgrown (rules : List Rule) (t : Term) : Type 0 where
  pub before : Term
  pub after : Term
  pub reached : Reached rules t before
  pub steps : step rules before ≡ some after
  pub over : 120 < size after

module _ (E : End → ℕ → Type 0) (rules : List Rule) (out_of_units : E spent 0) where
  -- Normalising comes to the form, or to a term over 120 nodes, or to the end of the units.
  module _ (t : Term) (large : Outgrown rules t → (left : ℕ) → E too_large left) where
    form_from : (u : Term) → Reached rules t u → (left : ℕ) → Holds (Form rules t) E (normalise rules u left)
    unfolding normalise_by
    form_from u r zero = go (step rules u) refl
      where
        go : (o : Option Term) → step rules u ≡ o → Holds (Form rules t) E (normalise rules u zero)
        go none e = rw (e, normalise_by) (record { reached = r; normal = e })
        go (some w) e = rw (e, normalise_by) out_of_units
    form_from u r (suc left) = go (step rules u) refl (λ w q. form_from w q left)
      where
        go : (o : Option Term) → step rules u ≡ o → ((w : Term) → Reached rules t w → Holds (Form rules t) E (normalise rules w left)) →
            Holds (Form rules t) E (normalise rules u (suc left))
        go none e ih = rw (e, normalise_by) (record { reached = r; normal = e })
        go (some w) e ih =
            rw (e, normalise_by)
            (choose_holds (Form rules t) E (ltb 120 (size w)) (stop too_large left) (normalise rules w left)
            (λ b. large (record { before = u; after = w; reached = r; steps = e; over = ltb-true 120 (size w) b }) left)
            (λ b. ih w (further r e (ltb-false 120 (size w) b))))

    pub normalise_holds : Pays (Form rules t) E (normalise rules t)
    normalise_holds = record { out = form_from t start }

  pub normalise_pair_holds : (e : Pair) → (Outgrown rules e.left → (left : ℕ) → E too_large left) →
      (Outgrown rules e.right → (left : ℕ) → E too_large left) →
      Pays (Forms rules e) E (normalise_pair rules e)
  unfolding both_by
  normalise_pair_holds e p q =
      bind_holds _ _ (normalise_holds e.left p) λ l a.
      bind_holds _ _ (normalise_holds e.right q) λ r b.
      return_holds _ (record { left = a; right = b })

-- Normalising ends with spent or too large and with no other end.
abbrev pub NormalEnd : End → Type 0
NormalEnd complete = ⊥
NormalEnd neither_above = ⊥
NormalEnd spent = Unit {0}
NormalEnd too_large = Unit {0}
NormalEnd rules_full = ⊥
NormalEnd log_full = ⊥

-- an end is no answer
pub stop≢done : {A : Type 0} {a : A} {e : End} {l m : ℕ} → stop e l ≡ done a m → ⊥
stop≢done q = zero≢one (cc)

-- the code's ends have the definition's numbers
pub number_of_ending : (e : End) → number_of (ending e) ≡ end_number e
unfolding number_of ending end_number
number_of_ending complete = refl
number_of_ending neither_above = refl
number_of_ending spent = refl
number_of_ending too_large = refl
number_of_ending rules_full = refl
number_of_ending log_full = refl
