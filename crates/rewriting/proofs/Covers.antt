-- `all_places` has every place of two rules that the critical pair lemma asks for, and no others. Assumes nothing.
-- Read first: specs/Overlap, proofs/Relations.
use mathlib.Core.Path.{◌≡◌, refl, sym, subst}
use mathlib.Core.Logic.{⊎_elim}
use mathlib.Core.List.Memᴰ
use mathlib.Core.List.{List, [], ◌∷◌, ◌++◌}
use Prim.Native.Nat.{ℕ, suc, zero, ◌+◌, ◌-◌, ◌≤◌, ◌<◌}
use native.Mathlib.Omega.{arith}
use lib.ListN.{length, get_or}
use Rattle.terms.specs.Base.{count_from, Every, of_none, of_cons}
use Rattle.terms.specs.Term.{Term, Pair, size}
use Rattle.terms.proofs.Places.{size_pos}
use Rattle.terms.proofs.Every.{every_append, every_left, every_right, every_map, every_head, counted}
use Rattle.rewriting.specs.Overlap.{Rule, sides_of, Place, places, positions, places_with, places_self, all_places}
use Rattle.rewriting.proofs.Relations.{Of}
use Rattle.rewriting.proofs.Finite.{none_such}

-- The sides of a rule by its number.
abbrev pub pair_at : List Rule → ℕ → Pair
pair_at rules i = get_or (sides_of rules) i none_such

pub sides_at : (H : Pair → Type 0) {rules : List Rule} → Every (λ (r : Rule). H r.sides) rules → (i : ℕ) → i < length (sides_of rules) → H (pair_at rules i)
sides_at H of_none i h = absurd (omega arith)
sides_at H (of_cons q k) zero h = q
sides_at H (of_cons q k) (suc i) h = sides_at H k i (omega arith)

pub of_every : (H : Pair → Type 0) {rules : List Rule} → Every (λ (r : Rule). H r.sides) rules → (l r : Term) → Of (sides_of rules) l r →
    H (record { left = l; right = r })
of_every H of_none l r i = absurd (Memᴰ.not-nil i)
of_every H (of_cons q h) l r i = ⊎_elim (λ e. subst H (sym e) q) (of_every H h l r) (Memᴰ.cases_cons i)

-- What holds of every place holds of every two rules and a position; at the root only of an earlier inner and a later outer rule.
module _ (Q : Pair → Pair → ℕ → Type 0) where
  abbrev pub HoldsAt : Place → Type 0
  HoldsAt at = Q at.inner.sides at.outer.sides at.position

  places_each : (a b : Rule) (ps : List ℕ) → Every HoldsAt (places a b ps) → Every (λ n. Q a.sides b.sides n) ps
  unfolding places
  places_each a b [] h = of_none
  places_each a b (n ∷ ps) (of_cons q h) = of_cons q (places_each a b ps h)

  abbrev Meets : Rule → Rule → Type 0
  Meets b a = ((n : ℕ) → n < size b.sides.left → Q a.sides b.sides n) × ((n : ℕ) → n < size a.sides.left → Q b.sides a.sides n)

  abbrev Alone : Rule → Type 0
  Alone a = (n : ℕ) → 1 ≤ n → n < size a.sides.left → Q a.sides a.sides n

  positions_each : (a b : Rule) → Every HoldsAt (places a b (positions b)) → (n : ℕ) → n < size b.sides.left → Q a.sides b.sides n
  unfolding positions
  positions_each a b h n lt = counted 0 (size b.sides.left) (places_each a b _ h) n (omega arith) (omega arith)

  meets : (earlier : List Rule) (later : Rule) → Every HoldsAt (places_with earlier later) → Every (Meets later) earlier
  unfolding places_with
  meets [] later h = of_none
  meets (a ∷ rules) later h =
      let one : List Place = places a later (positions later) in
      let two : List Place = places later a (positions a) in
      let both : Every HoldsAt (one ++ two) = every_left (one ++ two) (places_with rules later) h in
      of_cons
      (positions_each a later (every_left one two both), positions_each later a (every_right one two both))
      (meets rules later (every_right (one ++ two) (places_with rules later) h))

  alone : (a : Rule) → Every HoldsAt (places_self a) → Alone a
  unfolding places_self
  alone a h n ge lt = counted 1 (size a.sides.left - 1) (places_each a a _ h) n ge (omega arith)

  -- Each rule alone, and with every later one.
  data Triangle : List Rule → Type 0 where
    no_rule : Triangle []
    a_rule : {a : Rule} {rules : List Rule} → Alone a → Every (λ b. Meets b a) rules → Triangle rules → Triangle (a ∷ rules)

  triangle : (earlier later : List Rule) → Every HoldsAt (all_places earlier later) → Every (λ b. Every (Meets b) earlier) later × Triangle later
  unfolding all_places
  triangle earlier [] h = (of_none, no_rule)
  triangle earlier (rule ∷ later) h =
      let one : List Place = places_with earlier rule in
      let two : List Place = places_self rule in
      let three : List Place = all_places (earlier ++ (rule ∷ [])) later in
      let both : Every HoldsAt (one ++ two) = every_left (one ++ two) three h in
      let k = triangle (earlier ++ (rule ∷ [])) later (every_right (one ++ two) three h) in (
        of_cons (meets earlier rule (every_left one two both)) (every_map (λ b m. every_left earlier (rule ∷ []) m) k.0),
        a_rule (alone rule (every_right one two both)) (every_map (λ b m. every_head (every_right earlier (rule ∷ []) m)) k.0) k.1,
      )

  covered : {rules : List Rule} → Triangle rules → (i j n : ℕ) → i < length (sides_of rules) → j < length (sides_of rules) →
      n < size (pair_at rules j).left → (n ≡ 0 → i < j) → Q (pair_at rules i) (pair_at rules j) n
  covered no_rule i j n hi hj lt o = absurd (omega arith)
  covered (a_rule s m t) zero zero n hi hj lt o = s n (at_least n o) lt
    where
      at_least : (n : ℕ) → (n ≡ 0 → zero < zero) → 1 ≤ n
      at_least zero o = omega (arith, o refl)
      at_least (suc n) o = omega arith
  covered (a_rule {a = a} s m t) zero (suc j) n hi hj lt o =
      sides_at (λ (b : Pair). (n : ℕ) → n < size b.left → Q a.sides b n) (every_map (λ b k. k.0) m) j (omega arith) n lt
  covered (a_rule {a = a} s m t) (suc i) zero n hi hj lt o =
      sides_at (λ (b : Pair). (n : ℕ) → n < size a.sides.left → Q b a.sides n) (every_map (λ b k. k.1) m) i (omega arith) n lt
  covered (a_rule s m t) (suc i) (suc j) n hi hj lt o = covered t i j n (omega arith) (omega arith) lt (λ e. omega (arith, o e))

  pub all_places_cover : (rules : List Rule) → Every HoldsAt (all_places [] rules) → (i j n : ℕ) → i < length (sides_of rules) →
      j < length (sides_of rules) → n < size (pair_at rules j).left → (n ≡ 0 → i < j) → Q (pair_at rules i) (pair_at rules j) n
  all_places_cover rules h = covered (triangle [] rules h).1

-- What holds of the rules holds of the two rules of every place; and its position is one of the outer rule's left side.
module _ (H : Rule → Type 0) where
  pub record BothHold (at : Place) : Type 0 where
    pub inner_holds : H at.inner
    pub outer_holds : H at.outer
    pub within : at.position < size at.outer.sides.left

  places_hold : (a b : Rule) → H a → H b → (k n : ℕ) → k + n ≤ size b.sides.left → Every BothHold (places a b (count_from k n))
  unfolding places count_from
  places_hold a b p q k zero l = of_none
  places_hold a b p q k (suc n) l =
      of_cons {x = record { inner = a; outer = b; position = k }} (record { inner_holds = p; outer_holds = q; within = omega arith })
      (places_hold a b p q (suc k) n (omega arith))

  positions_hold : (a b : Rule) → H a → H b → Every BothHold (places a b (positions b))
  unfolding positions
  positions_hold a b p q = places_hold a b p q 0 (size b.sides.left) (omega arith)

  places_with_hold : (earlier : List Rule) (later : Rule) → Every H earlier → H later → Every BothHold (places_with earlier later)
  unfolding places_with
  places_with_hold [] later of_none q = of_none
  places_with_hold (r ∷ rules) later (of_cons p h) q =
      every_append (every_append (positions_hold r later p q) (positions_hold later r q p)) (places_with_hold rules later h q)

  pub all_places_hold : (earlier later : List Rule) → Every H earlier → Every H later → Every BothHold (all_places earlier later)
  unfolding all_places places_self
  all_places_hold earlier [] h of_none = of_none
  all_places_hold earlier (rule ∷ later) h (of_cons p k) =
      every_append (every_append (places_with_hold earlier rule h p) (places_hold rule rule p p 1 _ (omega (arith, size_pos rule.sides.left))))
      (all_places_hold (earlier ++ (rule ∷ [])) later (every_append h (of_cons p of_none)) k)
