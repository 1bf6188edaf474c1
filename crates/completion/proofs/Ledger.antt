-- "The count equals the definition's steps and turns": what a run does for its units, in order, is a list of turns begun and steps of `step` made,
-- and the units paid are its length. Assumes nothing.
-- Read first: specs/Turn, proofs/Reachable.
use mathlib.Core.Path.{◌≡◌, refl}
use mathlib.Core.Bool.{Bool, true, false}
use mathlib.Core.List.{List, [], ◌∷◌, ◌++◌}
use mathlib.Core.Option.{Option, none, some}
use Prim.Native.Nat.{ℕ, zero, suc, ◌+◌, ◌≤◌, ◌<◌, min}
use native.Mathlib.Omega.{arith}
use lib.Dec.{ltb, leb}
use lib.ListN.{length, length-append}
use Rattle.std.specs.Prelude.{if◌then◌else◌}
use Rattle.terms.specs.Base.{Every, of_none, of_cons}
use Rattle.terms.specs.Term.{Term, Pair, same, size, pair_variables, renamed}
use Rattle.terms.proofs.Every.{every_append}
use Rattle.rewriting.specs.Overlap.{Rule, Overlap, overlap, Place, all_places}
use Rattle.rewriting.specs.Rewrite.{step, End, complete, neither_above, too_large, rules_full, log_full, Paid, done, stop, Paying, return, end_with}
use Rattle.rewriting.specs.Rewrite.{and_then, ◌>>=◌, end_if, pay, hold, normalise, normalise_pair, normalise_by, both_by}
use Rattle.problem.specs.Problem.{Theory}
use Rattle.completion.specs.Turn.{Origin, Candidate, State, Taken, Finished, scan_overlap, if_different, if_different_overlap, scan_inputs, scan}
use Rattle.completion.specs.Turn.{take_pair, orient, normalise_rights, if_oriented, make_rule, settled, end_if_all_put_back, turn, turns, run_from}
use Rattle.completion.proofs.Sentences.{new_rule}
use Rattle.completion.proofs.Ends.{inputs, older_rules}
use Rattle.completion.proofs.Units.{left_of}
use Rattle.completion.proofs.Reachable.{next_entry, turn_next, turn_less}

-- what a unit is paid for
pub data Event : Type 0 where
  began : Event
  rewrote : List Rule → Term → Term → Event

-- a step that was made
unfoldable pub Valid : Event → Type 0
Valid began = ⊥
Valid (rewrote rules t u) = step rules t ≡ some u

-- what is done for the units, from so many on
abbrev pub Ledger : Type 0
Ledger = ℕ → List Event

unfoldable pub nothing : Ledger
nothing left = []

unfoldable pub events_then : {A : Type 0} → Paid A → (A → Ledger) → List Event
events_then (done a left) next = next a left
events_then (stop e left) next = []

unfoldable pub also : {A : Type 0} → Ledger → Paying A → (A → Ledger) → Ledger
also f m next left = f left ++ events_then (m left) next

unfoldable pub normalise_events : List Rule → Term → Ledger
normalise_events rules t zero = []
normalise_events rules t (suc left) =
    elim (step rules t) [
      | none ↦ []
      | some u ↦ rewrote rules t u ∷ (if ltb 120 (size u) then [] else normalise_events rules u left)
    ]

unfoldable pub pair_events : List Rule → Pair → Ledger
pair_events rules e = also (normalise_events rules e.left) (normalise rules e.left) λ l. normalise_events rules e.right

unfoldable pub overlap_events : List Rule → Option Overlap → Ledger
overlap_events rules none = nothing
overlap_events rules (some o) = also nothing (hold o.peak) λ _.
    also nothing (hold o.sides.left) λ _.
    also nothing (hold o.sides.right) λ _.
    pair_events rules (renamed o.sides)

unfoldable pub different_events : Pair → Ledger → Ledger
different_events forms next = if same forms.left forms.right then next else nothing

unfoldable pub different_overlap_events : Option Pair → Ledger → Ledger
different_overlap_events none next = next
different_overlap_events (some forms) next = different_events forms next

unfoldable pub inputs_events : List Rule → List Candidate → Ledger
inputs_events rules [] = nothing
inputs_events rules (c ∷ cs) = also (pair_events rules c.sides) (normalise_pair rules c.sides) λ forms. different_events forms (inputs_events rules cs)

unfoldable pub scan_events : List Rule → List Candidate → List Place → Ledger
scan_events rules inputs [] = inputs_events rules inputs
scan_events rules inputs (at ∷ places) =
    let o : Option Overlap = overlap at.inner.sides at.outer.sides at.position in
    also (overlap_events rules o) (scan_overlap rules o) λ forms. different_overlap_events forms (scan_events rules inputs places)

unfoldable pub take_events : Theory → List Rule → List Candidate → Ledger
take_events T rules [] = scan_events rules (inputs T) (all_places [] rules)
take_events T rules (c ∷ waiting) = pair_events rules c.sides

unfoldable pub rights_events : List Rule → List Rule → Rule → Ledger
rights_events before [] new = nothing
rights_events before (old ∷ rules) new =
    also (normalise_events (before ++ (old ∷ rules) ++ (new ∷ [])) old.sides.right)
    (normalise (before ++ (old ∷ rules) ++ (new ∷ [])) old.sides.right) λ r.
    rights_events (before ++ (record { number = old.number; sides = record { left = old.sides.left; right = r } } ∷ [])) rules new

unfoldable pub oriented_events : State → Option Pair → Ledger
oriented_events s none = nothing
oriented_events s (some sides) =
    also nothing (end_if (ltb 32 (suc (length (older_rules s sides)))) rules_full) λ _. rights_events [] (older_rules s sides) (new_rule s sides)

unfoldable pub make_events : Theory → State → Taken → Ledger
make_events T s t =
    also nothing (end_if (ltb 16 (length (pair_variables t.pair.sides))) too_large) λ _.
    oriented_events s (orient T t.pair.sides)

unfoldable pub rest_events : Theory → State → Ledger
rest_events T s =
    also nothing (end_if_all_put_back s.waiting s.put_back) λ _.
    also (take_events T s.rules s.waiting) (take_pair T s.rules s.waiting) λ t.
    also nothing (end_if (leb 512 (length s.log)) log_full) λ _.
    if same t.pair.sides.left t.pair.sides.right then nothing else make_events T s t

unfoldable pub turn_events : Theory → State → Ledger
turn_events T s zero = []
turn_events T s (suc left) = began ∷ rest_events T s left

unfoldable pub turns_events : ℕ → Theory → State → Ledger
turns_events zero T s left = []
turns_events (suc n) T s left = turn_events T s left ++ elim (turn T s left) [ done s' left' ↦ turns_events n T s' left' | stop e left' ↦ [] ]

unfoldable pub run_events : Theory → State → ℕ → List Event
run_events T s budget = turns_events (suc budget) T s budget

-- The list is as long as the units paid are many, and every step in it is one.
pub record Booked (left : ℕ) (rest : ℕ) (events : List Event) : Type 0 where
  pub counted : length events + rest ≡ left
  pub valid : Every Valid events

abbrev pub Books : {A : Type 0} → Paying A → Ledger → Type 0
Books m f = (left : ℕ) → Booked left (left_of (m left)) (f left)

then_books : {A B : Type 0} (p : Paid A) (next : A → Paying B) (left : ℕ) (events : List Event) (more : A → Ledger) → Booked left (left_of p) events →
    ((a : A) → Books (next a) (more a)) → Booked left (left_of (and_then p next)) (events ++ events_then p more)
unfolding and_then events_then left_of
then_books (done a l) next left events more h k =
    let b = k a l in
    let e = length-append events (more a l) in
    let x : length events + l ≡ left = h.counted in
    let y : length (more a l) + left_of (next a l) ≡ l = b.counted in
    record { counted = omega arith; valid = every_append h.valid b.valid }
then_books (stop e l) next left events more h k =
    let q = length-append events [] in
    let x : length events + l ≡ left = h.counted in
    record { counted = omega arith; valid = every_append h.valid (of_none) }

bind_books : {A B : Type 0} (m : Paying A) (next : A → Paying B) (f : Ledger) (more : A → Ledger) → Books m f → ((a : A) → Books (next a) (more a)) →
    Books (m >>= next) (also f m more)
unfolding ◌>>=◌ also
bind_books m next f more h k left = then_books (m left) next left (f left) more (h left) k

-- followed by nothing that pays
last_books : {A B : Type 0} (m : Paying A) (next : A → B) (f : Ledger) → Books m f → Books (m >>= λ a. return (next a)) f
unfolding ◌>>=◌
last_books m next f h left = go (m left) (h left)
  where
    go : (p : Paid _) → Booked left (left_of p) (f left) → Booked left (left_of (and_then p (λ a. return (next a)))) (f left)
    go (done a l) b = unfold and_then return left_of in record { counted = b.counted; valid = b.valid }
    go (stop e l) b = unfold and_then left_of in record { counted = b.counted; valid = b.valid }

return_books : {A : Type 0} (a : A) → Books (return a) nothing
unfolding return nothing left_of
return_books a left = record { counted = omega arith; valid = of_none }

end_books : (A : Type 0) (e : End) → Books (end_with {A = A} e) nothing
unfolding end_with nothing left_of
end_books A e left = record { counted = omega arith; valid = of_none }

end_if_books : (b : Bool) (e : End) → Books (end_if b e) nothing
unfolding end_if
end_if_books true e = end_books (Unit {0}) e
end_if_books false e = return_books tt

if_books : {A : Type 0} (b : Bool) (m n : Paying A) (f g : Ledger) → Books m f → Books n g → Books {A = A} (if b then m else n) (if b then f else g)
if_books true m n f g h k = h
if_books false m n f g h k = k

step_books : (rules : List Rule) (t u : Term) (left : ℕ) (b : Bool) (p : Paid Term) (events : List Event) → step rules t ≡ some u →
    Booked left (left_of p) events → Booked (suc left) (left_of (if b then stop too_large left else p)) (rewrote rules t u ∷ (if b then [] else events))
unfolding left_of Valid
step_books rules t u left true p events e h = record { counted = omega arith; valid = of_cons e (of_none) }
step_books rules t u left false p events e h =
    let x : length events + left_of p ≡ left = h.counted in
    record { counted = omega arith; valid = of_cons e h.valid }

pub normalise_books : (rules : List Rule) (t : Term) (left : ℕ) → Booked left (left_of (normalise rules t left)) (normalise_events rules t left)
unfolding normalise_by normalise_events left_of
normalise_books rules t zero = go (step rules t) refl
  where
    go : (o : Option Term) → step rules t ≡ o → Booked zero (left_of (normalise rules t zero)) []
    go none e = rw (e, normalise_by) (record { counted = refl; valid = of_none })
    go (some u) e = rw (e, normalise_by) (record { counted = refl; valid = of_none })
normalise_books rules t (suc left) = go (step rules t) refl (λ u. normalise_books rules u left)
  where
    go : (o : Option Term) → step rules t ≡ o → ((u : Term) → Booked left (left_of (normalise rules u left)) (normalise_events rules u left)) →
        Booked (suc left) (left_of (normalise rules t (suc left))) (normalise_events rules t (suc left))
    go none e ih = rw (e, normalise_by, normalise_events) (record { counted = omega arith; valid = of_none })
    go (some u) e ih =
        rw (e, normalise_by, normalise_events) (step_books rules t u left (ltb 120 (size u)) (normalise rules u left) (normalise_events rules u left) e (ih u))

pair_books : (rules : List Rule) (e : Pair) → Books (normalise_pair rules e) (pair_events rules e)
unfolding both_by pair_events
pair_books rules e =
    bind_books (normalise rules e.left) _ (normalise_events rules e.left) _ (normalise_books rules e.left) λ l.
    last_books (normalise rules e.right) _ (normalise_events rules e.right) (normalise_books rules e.right)

overlap_books : (rules : List Rule) (o : Option Overlap) → Books (scan_overlap rules o) (overlap_events rules o)
unfolding scan_overlap overlap_events hold
overlap_books rules none = return_books none
overlap_books rules (some o) =
    bind_books (hold o.peak) _ nothing _ (end_if_books (ltb 120 (size o.peak)) too_large) λ _.
    bind_books (hold o.sides.left) _ nothing _ (end_if_books (ltb 120 (size o.sides.left)) too_large) λ _.
    bind_books (hold o.sides.right) _ nothing _ (end_if_books (ltb 120 (size o.sides.right)) too_large) λ _.
    last_books (normalise_pair rules (renamed o.sides)) _ (pair_events rules (renamed o.sides)) (pair_books rules (renamed o.sides))

different_books : (origin : Origin) (forms : Pair) (next : Paying Candidate) (f : Ledger) → Books next f →
    Books (if_different origin forms next) (different_events forms f)
unfolding if_different different_events
different_books origin forms next f h = if_books (same forms.left forms.right) next _ f nothing h (return_books _)

different_overlap_books : (at : Place) (o : Option Pair) (next : Paying Candidate) (f : Ledger) → Books next f →
    Books (if_different_overlap at o next) (different_overlap_events o f)
unfolding if_different_overlap different_overlap_events
different_overlap_books at none next f h = h
different_overlap_books at (some forms) next f h = different_books _ forms next f h

inputs_books : (rules : List Rule) (cs : List Candidate) → Books (scan_inputs rules cs) (inputs_events rules cs)
unfolding scan_inputs inputs_events
inputs_books rules [] = end_books Candidate complete
inputs_books rules (c ∷ cs) =
    bind_books (normalise_pair rules c.sides) _ (pair_events rules c.sides) _ (pair_books rules c.sides) λ forms.
    different_books c.origin forms (scan_inputs rules cs) (inputs_events rules cs) (inputs_books rules cs)

scan_books : (rules : List Rule) (inputs : List Candidate) (ps : List Place) → Books (scan rules inputs ps) (scan_events rules inputs ps)
unfolding scan scan_events
scan_books rules inputs [] = inputs_books rules inputs
scan_books rules inputs (at ∷ ps) =
    let o : Option Overlap = overlap at.inner.sides at.outer.sides at.position in
    bind_books (scan_overlap rules o) _ (overlap_events rules o) _ (overlap_books rules o) λ forms.
    different_overlap_books at forms (scan rules inputs ps) (scan_events rules inputs ps) (scan_books rules inputs ps)

take_books : (T : Theory) (rules : List Rule) (cs : List Candidate) → Books (take_pair T rules cs) (take_events T rules cs)
unfolding take_pair take_events
take_books T rules [] = last_books (scan rules (inputs T) (all_places [] rules)) _ _ (scan_books rules (inputs T) (all_places [] rules))
take_books T rules (c ∷ cs) = last_books (normalise_pair rules c.sides) _ (pair_events rules c.sides) (pair_books rules c.sides)

rights_books : (before rules : List Rule) (new : Rule) → Books (normalise_rights before rules new) (rights_events before rules new)
unfolding normalise_rights rights_events
rights_books before [] new = return_books _
rights_books before (old ∷ rules) new =
    let all : List Rule = before ++ (old ∷ rules) ++ (new ∷ []) in
    bind_books (normalise all old.sides.right) _ (normalise_events all old.sides.right) _ (normalise_books all old.sides.right) λ r.
    rights_books (before ++ (record { number = old.number; sides = record { left = old.sides.left; right = r } } ∷ [])) rules new

oriented_books : (s : State) (t : Taken) (o : Option Pair) → Books (if_oriented s t o) (oriented_events s o)
unfolding if_oriented oriented_events
oriented_books s t none = return_books _
oriented_books s t (some sides) =
    bind_books (end_if (ltb 32 (suc (length (older_rules s sides)))) rules_full) _ nothing _ (end_if_books _ rules_full) λ _.
    last_books (normalise_rights [] (older_rules s sides) (new_rule s sides)) _ _ (rights_books [] (older_rules s sides) (new_rule s sides))

make_books : (T : Theory) (s : State) (t : Taken) → Books (make_rule T s t) (make_events T s t)
unfolding make_rule make_events
make_books T s t =
    bind_books (end_if (ltb 16 (length (pair_variables t.pair.sides))) too_large) _ nothing _ (end_if_books _ too_large) λ _.
    oriented_books s t (orient T t.pair.sides)

all_put_back_books : (waiting : List Candidate) (n : ℕ) → Books (end_if_all_put_back waiting n) nothing
unfolding end_if_all_put_back
all_put_back_books [] n = return_books tt
all_put_back_books (c ∷ waiting) n = end_if_books _ neither_above

-- Behind the unit of the turn there are steps only.
pub rest_books : (T : Theory) (s : State) (left : ℕ) → Booked left (left_of (turn T s (suc left))) (rest_events T s left)
unfolding turn rest_events ◌>>=◌ and_then pay
rest_books T s left =
    bind_books (end_if_all_put_back s.waiting s.put_back) _ nothing _ (all_put_back_books s.waiting s.put_back) (λ _.
    bind_books (take_pair T s.rules s.waiting) _ (take_events T s.rules s.waiting) _ (take_books T s.rules s.waiting) (λ t.
    bind_books (end_if (leb 512 (length s.log)) log_full) _ nothing _ (end_if_books _ log_full) λ _.
    if_books _ (return (settled s t)) (make_rule T s t) nothing (make_events T s t) (return_books (settled s t)) (make_books T s t))) left

-- how many turns were begun
unfoldable pub begun : List Event → ℕ
begun [] = 0
begun (began ∷ events) = suc (begun events)
begun (rewrote rules t u ∷ events) = begun events

begun_append : (a b : List Event) → begun (a ++ b) ≡ begun a + begun b
unfolding begun
begun_append [] b = omega arith
begun_append (began ∷ a) b = omega (arith, begun_append a b)
begun_append (rewrote rules t u ∷ a) b = begun_append a b

begun_none : (a : List Event) → Every Valid a → begun a ≡ 0
unfolding begun Valid
begun_none [] of_none = refl
begun_none (began ∷ a) (of_cons q h) = absurd q
begun_none (rewrote rules t u ∷ a) (of_cons q h) = begun_none a h

-- the step's term is the answer of `step`
unfoldable pub MadeOrBegun : Event → Type 0
MadeOrBegun began = Unit {0}
MadeOrBegun (rewrote rules t u) = step rules t ≡ some u

valid_or : (a : List Event) → Every Valid a → Every MadeOrBegun a
unfolding Valid MadeOrBegun
valid_or [] of_none = of_none
valid_or (began ∷ a) (of_cons q h) = absurd q
valid_or (rewrote rules t u ∷ a) (of_cons q h) = of_cons q (valid_or a h)

-- A turn's events: as many as the units it pays, the first of them its beginning, if there is a unit for it.
pub record TurnBooked (left rest : ℕ) (events : List Event) : Type 0 where
  pub counted : length events + rest ≡ left
  pub once : begun events ≡ min 1 left
  pub valid : Every MadeOrBegun events

pub turn_books : (T : Theory) (s : State) (left : ℕ) → TurnBooked left (left_of (turn T s left)) (turn_events T s left)
unfolding turn_events begun MadeOrBegun
turn_books T s zero = record { counted = unfold turn ◌>>=◌ and_then pay left_of in refl; once = refl; valid = of_none }
turn_books T s (suc left) =
    let b : Booked left (left_of (turn T s (suc left))) (rest_events T s left) = rest_books T s left in
    let c : length (rest_events T s left) + left_of (turn T s (suc left)) ≡ left = b.counted in
    let z : begun (rest_events T s left) ≡ 0 = begun_none (rest_events T s left) b.valid in
    record { counted = omega arith; once = omega arith; valid = of_cons tt (valid_or (rest_events T s left) b.valid) }

-- A run's events: as many as the units paid.
pub record RunBooked (budget left : ℕ) (f : Finished) (events : List Event) : Type 0 where
  pub counted : length events + budget ≡ f.units + left
  pub valid : Every MadeOrBegun events

turns_books : (n : ℕ) (T : Theory) (budget : ℕ) (s : State) (left : ℕ) → left < n → left ≤ budget →
    RunBooked budget left (turns n T budget s left) (turns_events n T s left)
unfolding turns turns_events
turns_books zero T budget s left h l = absurd (omega arith)
turns_books (suc n) T budget s left h l = go (turn T s left) refl (turn_books T s left) (λ s' left' h l. turns_books n T budget s' left' h l)
  where
    go : (p : Paid State) → turn T s left ≡ p → TurnBooked left (left_of (turn T s left)) (turn_events T s left) →
        ((s' : State) (left' : ℕ) → left' < n → left' ≤ budget → RunBooked budget left' (turns n T budget s' left') (turns_events n T s' left')) →
        RunBooked budget left (turns (suc n) T budget s left) (turns_events (suc n) T s left)
    go (done s' left') e b ih =
        let less : left' < left = turn_less T s s' left left' e in
        let c : length (turn_events T s left) + left' ≡ left = unfold left_of in (rw e at b.counted) in
        let k : RunBooked budget left' (turns n T budget s' left') (turns_events n T s' left') = ih s' left' (omega arith) (omega arith) in
        let d : length (turns_events n T s' left') + budget ≡ (turns n T budget s' left').units + left' = k.counted in
        let a = length-append (turn_events T s left) (turns_events n T s' left') in
        rw (e, turns, turns_events) (record { counted = omega arith; valid = every_append b.valid k.valid })
    go (stop end left') e b ih =
        let c : length (turn_events T s left) + left' ≡ left = unfold left_of in (rw e at b.counted) in
        let a = length-append (turn_events T s left) [] in
        rw (e, turns, turns_events) (record { counted = omega arith; valid = every_append b.valid (of_none) })

-- The turns begun: one for each log entry, and the last one, unless no unit was left for it.
pub record TurnsBegun (before after : ℕ) (events : List Event) : Type 0 where
  pub last : ℕ
  pub at_most_one : last ≤ 1
  pub begun_are : begun events + before ≡ after + last

turns_begun : (n : ℕ) (T : Theory) (budget : ℕ) (s : State) (left : ℕ) → left < n →
    TurnsBegun (length s.log) (length (turns n T budget s left).state.log) (turns_events n T s left)
unfolding turns turns_events
turns_begun zero T budget s left h = absurd (omega arith)
turns_begun (suc n) T budget s left h = go (turn T s left) refl (turn_books T s left).once (λ s' left' h. turns_begun n T budget s' left' h)
  where
    go : (p : Paid State) → turn T s left ≡ p → begun (turn_events T s left) ≡ min 1 left →
        ((s' : State) (left' : ℕ) → left' < n →
        TurnsBegun (length s'.log) (length (turns n T budget s' left').state.log) (turns_events n T s' left')) →
        TurnsBegun (length s.log) (length (turns (suc n) T budget s left).state.log) (turns_events (suc n) T s left)
    go (done s' left') e b ih =
        let less : left' < left = turn_less T s s' left left' e in
        let g : length s'.log ≡ suc (length s.log) = next_entry T _ _ (turn_next T _ _ _ _ e) in
        let k : TurnsBegun (length s'.log) (length (turns n T budget s' left').state.log) (turns_events n T s' left') = ih s' left' (omega arith) in
        let c : begun (turns_events n T s' left') + length s'.log ≡ length (turns n T budget s' left').state.log + k.last = k.begun_are in
        let d = begun_append (turn_events T s left) (turns_events n T s' left') in
        rw (e, turns, turns_events) (record { last = k.last; at_most_one = k.at_most_one; begun_are = omega arith })
    go (stop end left') e b ih =
        let d = begun_append (turn_events T s left) [] in
        let z : begun [] ≡ 0 = unfold begun in refl in
        rw (e, turns, turns_events) (record { last = min 1 left; at_most_one = omega arith; begun_are = omega arith })

-- A run from any state, with any budget.
module _ (T : Theory) (s : State) (budget : ℕ) where
  run_booked : RunBooked budget budget (run_from T s budget) (run_events T s budget)
  unfolding run_events run_from
  run_booked = turns_books (suc budget) T budget s budget (omega arith) (omega arith)

  -- "the count equals the definition's steps and turns"
  pub run_books : length (run_events T s budget) ≡ (run_from T s budget).units
  run_books = let c = run_booked.counted in omega arith

  pub run_events_valid : Every MadeOrBegun (run_events T s budget)
  run_events_valid = run_booked.valid

  pub run_begun : TurnsBegun (length s.log) (length (run_from T s budget).state.log) (run_events T s budget)
  unfolding run_events run_from
  run_begun = turns_begun (suc budget) T budget s budget (omega arith)
