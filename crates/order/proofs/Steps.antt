-- What each answer of the comparison on bytes says of terms: a lemma for each place where a function returns. Assumes nothing.
-- Read first: specs/Walk, proofs/Fast, terms/proofs/Starts.
use mathlib.Core.Path.{◌≡◌, refl, ap, ap₂, sym, ◌∙◌}
use mathlib.Core.Bool.{Bool, true, false, ◌&&◌, ◌||◌}
use mathlib.Core.List.{List}
use Prim.Native.Nat.{ℕ, ◌-◌, ◌<◌, ◌≤◌}
use native.Mathlib.Omega.{arith}
use lib.ListN.{length, get_or}
use borrow.Author.Tests.{lt-ltb, le-ltb, eq-eqb, ne_eqb}
use Rattle.std.specs.Prelude.{if◌then◌else◌}
use Rattle.terms.specs.Term.{Term, node, Terms, nil, cons, size, same, count}
use Rattle.terms.specs.Scan.{owes}
use Rattle.terms.specs.Flat.{Starts, StartAll, IsSame}
use Rattle.terms.proofs.Starts.{from, head_var, head_node, first, none_left, starts_some, IsEnd, ended}
use Rattle.order.specs.Order.{same_length, above, some_reaches, comparison}
use Rattle.order.specs.declared.Compared.TheVariants.{LeftAbove, RightAbove, Identical, Neither}
use Rattle.order.specs.Walk.{rank, all_above, walked, IsAbove, IsSome, IsAll, IsWalk, IsCompared}
use Rattle.order.proofs.Clauses.{clause_variable}
use Rattle.order.proofs.Fast.{some?, all?, walk?, step?, step_agrees}

-- The steps of `Fast`, with the order itself as the test of smaller pairs.
some_is : (r : ℕ → ℕ) (ss : Terms) (t : Term) → some? (above r) ss t ≡ some_reaches r ss t
unfolding some? some_reaches
some_is r nil t = refl
some_is r (cons s ss) t = ap (λ (b : Bool). same s t || above r s t || b) (some_is r ss t)

all_is : (tab : List ℕ) (x : Term) (ts : Terms) → all? (above (rank tab)) x ts ≡ all_above (rank tab) x ts
unfolding all? all_above
all_is tab x nil = refl
all_is tab x (cons t ts) = ap (λ (b : Bool). above (rank tab) x t && b) (all_is tab x ts)

length_is : (xs ys : Terms) → count xs ≡ count ys → same_length xs ys ≡ true
unfolding count same_length
length_is nil nil h = refl
length_is nil (cons y ys) h = absurd (omega arith)
length_is (cons x xs) nil h = absurd (omega arith)
length_is (cons x xs) (cons y ys) h = length_is xs ys (omega arith)

walk_is : (tab : List ℕ) (x t : Term) (xs ys : Terms) → count xs ≡ count ys → walk? (above (rank tab)) x t xs ys ≡ walked tab x t xs ys
unfolding count walk? walked
walk_is tab x t nil ys h = refl
walk_is tab x t (cons s xs) nil h = absurd (omega arith)
walk_is tab x t (cons s xs) (cons y ys) h =
    let k : count xs ≡ count ys = omega arith in
    rw (length_is xs ys k, walk_is tab x t xs ys k, all_is tab x ys, some_is (rank tab) xs t) refl

module _ (tab : List ℕ) (f : ℕ) (ss : Terms) (g : ℕ) (ts : Terms) where
  fast_greater : rank tab g < rank tab f → above (rank tab) (node f ss) (node g ts) ≡ all_above (rank tab) (node f ss) ts
  unfolding step?
  fast_greater h =
      let ne : f ≡ g → ⊥ = λ e. let k : rank tab f ≡ rank tab g = ap (rank tab) e in omega arith in
      sym (step_agrees (rank tab) (node f ss) (node g ts)) ∙ rw (ne_eqb f g ne, lt-ltb _ _ h) (all_is tab (node f ss) ts)

  fast_less : rank tab f ≤ rank tab g → (f ≡ g → ⊥) → above (rank tab) (node f ss) (node g ts) ≡ some_reaches (rank tab) ss (node g ts)
  unfolding step?
  fast_less h ne = sym (step_agrees (rank tab) (node f ss) (node g ts)) ∙ rw (ne_eqb f g ne, le-ltb _ _ h) (some_is (rank tab) ss (node g ts))

  fast_same : f ≡ g → count ss ≡ count ts → above (rank tab) (node f ss) (node g ts) ≡ walked tab (node f ss) (node g ts) ss ts
  unfolding step?
  fast_same e n = sym (step_agrees (rank tab) (node f ss) (node g ts)) ∙ rw (eq-eqb f g e) (walk_is tab (node f ss) (node g ts) ss ts n)

-- `above` returns
module _ (tab s t : List ℕ) where
  pub above_no_left : length s ≡ 0 → IsAbove tab s t false
  above_no_left h x y b d = absurd (starts_some tab s x b h)

  pub above_no_right : length t ≡ 0 → IsAbove tab s t false
  above_no_right h x y b d = absurd (starts_some tab t y d h)

  pub above_left_variable : 16 ≤ get_or s 0 0 → IsAbove tab s t false
  unfolding above
  above_left_variable h x y b d = rw (head_var tab s x b h).1

module _ (tab s t : List ℕ) (n : ℕ) (r : Bool) (h : get_or s 0 0 < 16) where
  pub above_right_variable : n ≡ owes tab (get_or s 0 0) → 16 ≤ get_or t 0 0 → IsSome tab (from s 1) n t r → IsAbove tab s t r
  above_right_variable p k q x y b d =
      let (ss, e, a) = head_node tab s x b h in
      let (v, w) = head_var tab t y d k in
      q ss y (rw p a) d
      ∙ sym (ap₂ (above (rank tab)) e w ∙ clause_variable (rank tab) (get_or s 0 0) v ss ∙ ap (some_reaches (rank tab) ss) (sym w))

  module _ (k : get_or t 0 0 < 16) where
    pub above_same_symbol : n ≡ owes tab (get_or s 0 0) → get_or s 0 0 ≡ get_or t 0 0 → IsWalk tab s t (from s 1) (from t 1) n r → IsAbove tab s t r
    above_same_symbol p u q x y b d =
        let (ss, e, a) = head_node tab s x b h in
        let (ts, f, c) = head_node tab t y d k in
        let i : StartAll tab (from s 1) n ss = rw p a in
        let j : StartAll tab (from t 1) n ts = rw (p, u) c in
        q x y ss ts b d i j ∙ ap₂ (λ (v w : Term). walked tab v w ss ts) e f
        ∙ sym (ap₂ (above (rank tab)) e f ∙ fast_same tab (get_or s 0 0) ss (get_or t 0 0) ts u (i.number ∙ sym j.number))

    pub above_greater_rank : n ≡ owes tab (get_or t 0 0) → rank tab (get_or t 0 0) < rank tab (get_or s 0 0) → IsAll tab s (from t 1) n r → IsAbove tab s t r
    above_greater_rank p l q x y b d =
        let (ss, e, a) = head_node tab s x b h in
        let (ts, f, c) = head_node tab t y d k in
        q x ts b (rw p c) ∙ ap (λ (v : Term). all_above (rank tab) v ts) e
        ∙ sym (ap₂ (above (rank tab)) e f ∙ fast_greater tab (get_or s 0 0) ss (get_or t 0 0) ts l)

    pub above_no_greater_rank : n ≡ owes tab (get_or s 0 0) → (get_or s 0 0 ≡ get_or t 0 0 → ⊥) → rank tab (get_or s 0 0) ≤ rank tab (get_or t 0 0) →
        IsSome tab (from s 1) n t r → IsAbove tab s t r
    above_no_greater_rank p u l q x y b d =
        let (ss, e, a) = head_node tab s x b h in
        let (ts, f, c) = head_node tab t y d k in
        q ss y (rw p a) d ∙ ap (some_reaches (rank tab) ss) f
        ∙ sym (ap₂ (above (rank tab)) e f ∙ fast_less tab (get_or s 0 0) ss (get_or t 0 0) ts l u)

-- no argument left
all_nil : (tab : List ℕ) (x : Term) → all_above (rank tab) x nil ≡ true
unfolding all_above
all_nil tab x = refl

reach_nil : (r : ℕ → ℕ) (y : Term) → some_reaches r nil y ≡ false
unfolding some_reaches
reach_nil r y = refl

-- with one argument left, no other is behind it
only : (tab l : List ℕ) (n : ℕ) (xs : Terms) → StartAll tab l n xs → n ≡ 1 → (x : Term) × (xs ≡ cons x nil) × Starts tab l x
only tab l n xs b h =
    let (x, ys, e, f, g) = first tab l n xs b (λ z. omega arith) in
    (x, e ∙ ap (cons x) (none_left tab (from l (size x)) (n - 1) ys (g (size x) refl) (omega arith)), f)

-- `above_walk` returns
walked_nil : (tab : List ℕ) (x y : Term) (ys : Terms) → walked tab x y nil ys ≡ false
unfolding walked
walked_nil tab x y ys = refl

walked_cons : (tab : List ℕ) (x y v w : Term) (us ws : Terms) → walked tab x y (cons v us) (cons w ws) ≡
    (if same v w then walked tab x y us ws else if above (rank tab) v w then all_above (rank tab) x ws else some_reaches (rank tab) us y)
unfolding walked
walked_cons tab x y v w us ws = refl

module _ (tab s t a b : List ℕ) (n : ℕ) where
  pub walk_end : n ≡ 0 → IsWalk tab s t a b n false
  walk_end h x y xs ys i j k l = sym (ap (λ (v : Terms). walked tab x y v ys) (none_left tab a n xs k h) ∙ walked_nil tab x y ys)

  module _ (h : n ≡ 0 → ⊥) where
    pub walk_cut : length a ≡ 0 → IsWalk tab s t a b n false
    walk_cut m x y xs ys i j k l = let (v, us, e, f, g) = first tab a n xs k h in absurd (starts_some tab a v f m)

    module _ (q : Bool) (u : IsSame tab a b q) where
      step : (c : Bool) → q ≡ c → (x y v w : Term) (us ws : Terms) → Starts tab a v → Starts tab b w → walked tab x y (cons v us) (cons w ws) ≡
          (if c then walked tab x y us ws else if above (rank tab) v w then all_above (rank tab) x ws else some_reaches (rank tab) us y)
      step c m x y v w us ws f g =
          walked_cons tab x y v w us ws
          ∙ ap (λ (z : Bool). if z then walked tab x y us ws else if above (rank tab) v w then all_above (rank tab) x ws else some_reaches (rank tab) us y)
          (sym (u v w f g) ∙ m)

      pub walk_equal : q ≡ true → (d e : ℕ) → IsEnd tab a d → IsEnd tab b e → (p : Bool) → IsWalk tab s t (from a d) (from b e) (n - 1) p →
          IsWalk tab s t a b n p
      walk_equal m d e dd ee p o x y xs ys i j k l =
          let (v, us, c, f, g) = first tab a n xs k h in
          let (w, ws, c', f', g') = first tab b n ys l h in
          o x y us ws i j (g d (ended tab a d v dd f)) (g' e (ended tab b e w ee f'))
          ∙ sym (ap₂ (walked tab x y) c c' ∙ step true m x y v w us ws f f')

      pub walk_equal_last : q ≡ true → n ≡ 1 → IsWalk tab s t a b n false
      walk_equal_last m o x y xs ys i j k l =
          let (v, c, f) = only tab a n xs k o in
          let (w, c', f') = only tab b n ys l o in
          sym (ap₂ (walked tab x y) c c' ∙ step true m x y v w nil nil f f' ∙ walked_nil tab x y nil)

      module _ (m : q ≡ false) (r : Bool) (z : IsAbove tab a b r) where
        differ : (c : Bool) → r ≡ c → (x y v w : Term) (us ws : Terms) → Starts tab a v → Starts tab b w →
            walked tab x y (cons v us) (cons w ws) ≡ (if c then all_above (rank tab) x ws else some_reaches (rank tab) us y)
        differ c o x y v w us ws f g =
            step false m x y v w us ws f g ∙ ap (λ (i : Bool). if i then all_above (rank tab) x ws else some_reaches (rank tab) us y) (sym (z v w f g) ∙ o)

        pub walk_above : r ≡ true → (e : ℕ) → IsEnd tab b e → (p : Bool) → IsAll tab s (from b e) (n - 1) p → IsWalk tab s t a b n p
        walk_above o e ee p q x y xs ys i j k l =
            let (v, us, c, f, g) = first tab a n xs k h in
            let (w, ws, c', f', g') = first tab b n ys l h in
            q x ws i (g' e (ended tab b e w ee f')) ∙ sym (ap₂ (walked tab x y) c c' ∙ differ true o x y v w us ws f f')

        pub walk_above_last : r ≡ true → n ≡ 1 → IsWalk tab s t a b n true
        walk_above_last o p x y xs ys i j k l =
            let (v, c, f) = only tab a n xs k p in
            let (w, c', f') = only tab b n ys l p in
            sym (ap₂ (walked tab x y) c c' ∙ differ true o x y v w nil nil f f' ∙ all_nil tab x)

        pub walk_not_above : r ≡ false → (d : ℕ) → IsEnd tab a d → (p : Bool) → IsSome tab (from a d) (n - 1) t p → IsWalk tab s t a b n p
        walk_not_above o d dd p q x y xs ys i j k l =
            let (v, us, c, f, g) = first tab a n xs k h in
            let (w, ws, c', f', g') = first tab b n ys l h in
            q us y (g d (ended tab a d v dd f)) j ∙ sym (ap₂ (walked tab x y) c c' ∙ differ false o x y v w us ws f f')

        pub walk_not_above_last : r ≡ false → n ≡ 1 → IsWalk tab s t a b n false
        walk_not_above_last o p x y xs ys i j k l =
            let (v, c, f) = only tab a n xs k p in
            let (w, c', f') = only tab b n ys l p in
            sym (ap₂ (walked tab x y) c c' ∙ differ false o x y v w nil nil f f' ∙ reach_nil (rank tab) y)

-- `above_some` returns
reach_cons : (r : ℕ → ℕ) (x : Term) (ys : Terms) (y : Term) → some_reaches r (cons x ys) y ≡ (same x y || above r x y || some_reaches r ys y)
unfolding some_reaches
reach_cons r x ys y = refl

module _ (tab s t : List ℕ) (n : ℕ) where
  pub some_end : n ≡ 0 → IsSome tab s n t false
  some_end h xs y b d = sym (ap (λ (l : Terms). some_reaches (rank tab) l y) (none_left tab s n xs b h) ∙ reach_nil (rank tab) y)

  module _ (h : n ≡ 0 → ⊥) where
    pub some_cut : length s ≡ 0 → IsSome tab s n t false
    some_cut k xs y b d = let (x, ys, e, f, g) = first tab s n xs b h in absurd (starts_some tab s x f k)

    reach : (q : Bool) → IsSame tab s t q → (x : Term) (ys : Terms) (y : Term) → Starts tab s x → Starts tab t y →
        some_reaches (rank tab) (cons x ys) y ≡ (q || above (rank tab) x y || some_reaches (rank tab) ys y)
    reach q u x ys y f d = reach_cons (rank tab) x ys y ∙ ap (λ (w : Bool). w || above (rank tab) x y || some_reaches (rank tab) ys y) (sym (u x y f d))

    pub some_equal : (q : Bool) → IsSame tab s t q → q ≡ true → IsSome tab s n t true
    some_equal q u k xs y b d =
        let (x, ys, e, f, g) = first tab s n xs b h in
        sym (ap (λ (l : Terms). some_reaches (rank tab) l y) e ∙ reach q u x ys y f d ∙ rw k refl)

    module _ (q : Bool) (u : IsSame tab s t q) (k : q ≡ false) (r : Bool) (a : IsAbove tab s t r) where
      reach_2 : (x : Term) (ys : Terms) (y : Term) → Starts tab s x → Starts tab t y →
          some_reaches (rank tab) (cons x ys) y ≡ (r || some_reaches (rank tab) ys y)
      reach_2 x ys y f d = reach q u x ys y f d ∙ rw k (ap (λ (w : Bool). w || some_reaches (rank tab) ys y) (sym (a x y f d)))

      pub some_above : r ≡ true → IsSome tab s n t true
      some_above v xs y b d =
          let (x, ys, e, f, g) = first tab s n xs b h in
          sym (ap (λ (l : Terms). some_reaches (rank tab) l y) e ∙ reach_2 x ys y f d ∙ rw v refl)

      pub some_last : r ≡ false → n ≡ 1 → IsSome tab s n t false
      some_last v o xs y b d =
          let (x, e, f) = only tab s n xs b o in
          sym (ap (λ (l : Terms). some_reaches (rank tab) l y) e ∙ reach_2 x nil y f d ∙ rw v (reach_nil (rank tab) y))

      pub some_next : r ≡ false → (e : ℕ) → IsEnd tab s e → (p : Bool) → IsSome tab (from s e) (n - 1) t p → IsSome tab s n t p
      some_next v i j p o xs y b d =
          let (x, ys, e, f, g) = first tab s n xs b h in
          sym (ap (λ (l : Terms). some_reaches (rank tab) l y) e ∙ reach_2 x ys y f d ∙ rw v (sym (o ys y (g i (ended tab s i x j f)) d)))

-- `above_all` returns
all_cons : (tab : List ℕ) (x y : Term) (us : Terms) → all_above (rank tab) x (cons y us) ≡ (above (rank tab) x y && all_above (rank tab) x us)
unfolding all_above
all_cons tab x y us = refl

module _ (tab s t : List ℕ) (n : ℕ) where
  pub all_end : n ≡ 0 → IsAll tab s t n true
  all_end h x ys b d = sym (ap (all_above (rank tab) x) (none_left tab t n ys d h) ∙ all_nil tab x)

  module _ (h : n ≡ 0 → ⊥) where
    pub all_cut : length t ≡ 0 → IsAll tab s t n false
    all_cut k x ys b d = let (y, us, e, f, g) = first tab t n ys d h in absurd (starts_some tab t y f k)

    module _ (r : Bool) (a : IsAbove tab s t r) where
      every : (x y : Term) (us : Terms) → Starts tab s x → Starts tab t y → all_above (rank tab) x (cons y us) ≡ (r && all_above (rank tab) x us)
      every x y us b f = all_cons tab x y us ∙ ap (λ (w : Bool). w && all_above (rank tab) x us) (sym (a x y b f))

      pub all_last : r ≡ true → n ≡ 1 → IsAll tab s t n true
      all_last k o x ys b d =
          let (y, e, f) = only tab t n ys d o in
          sym (ap (all_above (rank tab) x) e ∙ every x y nil b f ∙ rw k (all_nil tab x))

      pub all_next : r ≡ true → (e : ℕ) → IsEnd tab t e → (p : Bool) → IsAll tab s (from t e) (n - 1) p → IsAll tab s t n p
      all_next k i j p o x ys b d =
          let (y, us, e, f, g) = first tab t n ys d h in
          sym (ap (all_above (rank tab) x) e ∙ every x y us b f ∙ rw k (sym (o x us b (g i (ended tab t i y j f)))))

      pub all_not_above : r ≡ false → IsAll tab s t n false
      all_not_above k x ys b d =
          let (y, us, e, f, g) = first tab t n ys d h in
          sym (ap (all_above (rank tab) x) e ∙ every x y us b f ∙ rw k refl)

-- `comparison` returns
module _ (tab s t : List ℕ) (p : Bool) (a : IsAbove tab s t p) where
  pub compared_left : p ≡ true → IsCompared tab s t LeftAbove
  unfolding comparison
  compared_left h x y b d = rw (sym (a x y b d) ∙ h) refl

  module _ (h : p ≡ false) (q : Bool) (c : IsAbove tab t s q) where
    pub compared_right : q ≡ true → IsCompared tab s t RightAbove
    unfolding comparison
    compared_right k x y b d = rw (sym (a x y b d) ∙ h, sym (c y x d b) ∙ k) refl

    module _ (k : q ≡ false) (r : Bool) (u : IsSame tab s t r) where
      pub compared_same : r ≡ true → IsCompared tab s t Identical
      unfolding comparison
      compared_same l x y b d = rw (sym (a x y b d) ∙ h, sym (c y x d b) ∙ k, sym (u x y b d) ∙ l) refl

      pub compared_neither : r ≡ false → IsCompared tab s t Neither
      unfolding comparison
      compared_neither l x y b d = rw (sym (a x y b d) ∙ h, sym (c y x d b) ∙ k, sym (u x y b d) ∙ l) refl
