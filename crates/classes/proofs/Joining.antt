-- Two classes become one, the root with the larger key going to the other: the classes stay right, and the sum of the keys falls. Assumes nothing.
-- Read first: specs/Steps (key, joined, weight, Grown), specs/Arena (Classes), specs/Unique.
use mathlib.Core.Path.{◌≡◌, refl, sym, ap, subst, subst₂, ◌∙◌}
use mathlib.Core.Bool.{Bool, true, false}
use mathlib.Core.Logic.{◌⊎◌, inl, inr, ⊎_elim}
use mathlib.Core.List.{List, [], ◌∷◌, map}
use Prim.Native.Nat.{ℕ, zero, suc, ◌+◌, ◌≤◌, ◌<◌}
use native.Mathlib.Omega.{arith}
use native.Mathlib.Nat.{le_of_suc-le-suc}
use lib.Dec.{eqb, ltb}
use lib.ListN.{length, set, length-map}
use borrow.Author.Tests.{ltb-true, ltb-false, lt-ltb, le-ltb}
use Rattle.std.specs.Prelude.{if◌then◌else◌}
use Rattle.naming.proofs.Filling.{Mapped}
use Rattle.terms.proofs.Shape.{Says, eqb_says}
use Rattle.terms.proofs.Subst.{Subst}
use Rattle.classes.specs.Arena.{Arena, NodesSpell, Joins, Classes}
use Rattle.classes.specs.Steps.{at, arena, Ready, Linked, key, relabelled, joined, Grown, weight}
use Rattle.classes.specs.Unique.{spells_within}

abbrev Cases : ℕ → ℕ → ℕ → Type 0
Cases from to b = ((b ≡ from) × (relabelled from to b ≡ to)) ⊎ ((b ≡ from → ⊥) × (relabelled from to b ≡ b))

relabelled_at : (from to b : ℕ) (x : Bool) → Says (b ≡ from) x →
    ((b ≡ from) × ((if x then to else b) ≡ to)) ⊎ ((b ≡ from → ⊥) × ((if x then to else b) ≡ b))
relabelled_at from to b true h = inl (h, refl)
relabelled_at from to b false h = inr (h, refl)

relabelled_cases : (from to b : ℕ) → Cases from to b
unfolding relabelled
relabelled_cases from to b = relabelled_at from to b (eqb b from) (eqb_says b from)

pub relabelled_yes : (from to b : ℕ) → b ≡ from → to ≡ relabelled from to b
relabelled_yes from to b e = ⊎_elim (λ h. sym h.1) (λ h. absurd (h.0 e)) (relabelled_cases from to b)

pub relabelled_no : (from to b : ℕ) → (b ≡ from → ⊥) → b ≡ relabelled from to b
relabelled_no from to b e = ⊎_elim (λ h. absurd (e h.0)) (λ h. sym h.1) (relabelled_cases from to b)

key_symbol : (l : List ℕ) (r : ℕ) → at l r < 128 → key l r ≡ r
unfolding key
key_symbol l r h = rw (lt-ltb (at l r) 128 h) refl

key_variable : (l : List ℕ) (r : ℕ) → 128 ≤ at l r → key l r ≡ r + 1024
unfolding key
key_variable l r h = rw (le-ltb (at l r) 128 h) refl

key_split : (l : List ℕ) (r : ℕ) (b : Bool) → ltb (at l r) 128 ≡ b → ((at l r < 128) × (key l r ≡ r)) ⊎ ((128 ≤ at l r) × (key l r ≡ r + 1024))
key_split l r true e = let h = ltb-true (at l r) 128 e in inl (h, key_symbol l r h)
key_split l r false e = let h = ltb-false (at l r) 128 e in inr (h, key_variable l r h)

key_cases : (l : List ℕ) (r : ℕ) → ((at l r < 128) × (key l r ≡ r)) ⊎ ((128 ≤ at l r) × (key l r ≡ r + 1024))
key_cases l r = key_split l r (ltb (at l r) 128) refl

-- a symbol's key is below a variable's, so what has no larger key than a symbol is one
key_headed : (l : List ℕ) (r q : ℕ) → r < 600 → key l q ≤ key l r → at l r < 128 → at l q < 128
key_headed l r q h k s =
    ⊎_elim (λ c. c.0) (λ c. absurd (omega (arith, key_symbol l r s, c.1))) (key_cases l q)

key_strict : (l : List ℕ) (r q : ℕ) → r < 600 → q < 600 → (q ≡ r → ⊥) → key l q ≤ key l r → key l q < key l r
key_strict l r q hr hq n k =
    ⊎_elim
    (λ c. ⊎_elim (λ d. omega (arith, c.1, d.1, n)) (λ d. omega (arith, c.1, d.1)) (key_cases l r))
    (λ c. ⊎_elim (λ d. omega (arith, c.1, d.1)) (λ d. omega (arith, c.1, d.1, n)) (key_cases l r))
    (key_cases l q)

at_map : (f : ℕ → ℕ) (cs : List ℕ) (i : ℕ) → i < length cs → at (map f cs) i ≡ f (at cs i)
at_map f [] i h = absurd (omega arith)
at_map f (x ∷ cs) zero h = refl
at_map f (x ∷ cs) (suc i) h = at_map f cs i (le_of_suc-le-suc h)

weight_entry : (l : List ℕ) (from to b : ℕ) → key l to ≤ key l from → key l (relabelled from to b) ≤ key l b
weight_entry l from to b k =
    ⊎_elim (λ h. omega (arith, ap (key l) h.0, ap (key l) h.1)) (λ h. omega (arith, ap (key l) h.1)) (relabelled_cases from to b)

weight_le : (l : List ℕ) (from to : ℕ) (cs : List ℕ) → key l to ≤ key l from → weight l (map (relabelled from to) cs) ≤ weight l cs
unfolding weight
weight_le l from to [] k = omega arith
weight_le l from to (b ∷ cs) k = omega (arith, weight_entry l from to b k, weight_le l from to cs k)

weight_lt : (l : List ℕ) (from to : ℕ) (cs : List ℕ) (a : ℕ) → key l to < key l from → a < length cs → at cs a ≡ from →
    weight l (map (relabelled from to) cs) < weight l cs
unfolding weight
weight_lt l from to [] a k h e = absurd (omega arith)
weight_lt l from to (b ∷ cs) zero k h e = omega (arith, ap (key l) e, ap (key l) (relabelled_yes from to b e), weight_le l from to cs (omega arith))
weight_lt l from to (b ∷ cs) (suc a) k h e = omega (arith, weight_entry l from to b (omega arith), weight_lt l from to cs a k (le_of_suc-le-suc h) e)

-- the class of one root goes to another
module _ (A : Arena) (w : NodesSpell A) (c d : ℕ → ℕ) (from to : ℕ) (e : (i : ℕ) → i < A.nodes → d i ≡ relabelled from to (c i)) where
  relabel_keeps : (i j : ℕ) → i < A.nodes → j < A.nodes → c i ≡ c j → d i ≡ d j
  relabel_keeps i j hi hj q = e i hi ∙ ap (relabelled from to) q ∙ sym (e j hj)

  at_to : to < A.nodes → c to ≡ to → d to ≡ to
  at_to h q = e to h ∙ ⊎_elim (λ r. r.1) (λ r. r.1 ∙ q) (relabelled_cases from to (c to))

  module _ (n₁ n₂ : ℕ) (g : Classes A n₁ n₂ c) (hf : from < A.nodes) (ht : to < A.nodes) (rt : c to ≡ to) (dir : A.byte from < 128 → A.byte to < 128)
      (j : (τ : Subst) → Joins A τ n₁ n₂ → Joins A τ from to) where
    rooted_at : (i : ℕ) → i < A.nodes → Cases from to (c i) → d (d i) ≡ d i
    rooted_at i h (inl (p, q)) = let r = e i h ∙ q in ap d r ∙ at_to ht rt ∙ sym r
    rooted_at i h (inr (p, q)) = let r = e i h ∙ q in ap d r ∙ e (c i) (g.within i h) ∙ ap (relabelled from to) (g.rooted i h) ∙ sym (e i h)

    within_at : (i : ℕ) → i < A.nodes → Cases from to (c i) → d i < A.nodes
    within_at i h (inl (p, q)) = subst (λ z. z < A.nodes) (sym (e i h ∙ q)) ht
    within_at i h (inr (p, q)) = subst (λ z. z < A.nodes) (sym (e i h ∙ q)) (g.within i h)

    headed_at : (i : ℕ) → i < A.nodes → A.byte i < 128 → Cases from to (c i) → A.byte (d i) < 128
    headed_at i h l (inl (p, q)) = subst (λ z. A.byte z < 128) (sym (e i h ∙ q)) (dir (subst (λ z. A.byte z < 128) p (g.headed i h l)))
    headed_at i h l (inr (p, q)) = subst (λ z. A.byte z < 128) (sym (e i h ∙ q)) (g.headed i h l)

    respects_at : (τ : Subst) → Joins A τ n₁ n₂ → (i : ℕ) → i < A.nodes → Cases from to (c i) → Joins A τ i (d i)
    respects_at τ k i h (inl (p, q)) =
        subst (λ z. Joins A τ i z) (sym (e i h ∙ q))
        (λ s t x y. let v = w from hf in subst (λ z. Joins A τ i z) p (g.respects τ k i) s v.0 x v.1 ∙ j τ k v.0 t v.1 y)
    respects_at τ k i h (inr (p, q)) = subst (λ z. Joins A τ i z) (sym (e i h ∙ q)) (g.respects τ k i)

    relabel_classes : Classes A n₁ n₂ d
    relabel_classes =
        record {
          within = λ i h. within_at i h (relabelled_cases from to (c i));
          rooted = λ i h. rooted_at i h (relabelled_cases from to (c i));
          shared = λ a b ha hb l q. relabel_keeps a b ha hb (g.shared a b ha hb l q);
          headed = λ i h l. headed_at i h l (relabelled_cases from to (c i));
          respects = λ τ k i s t x y. respects_at τ k i (spells_within A x) (relabelled_cases from to (c i)) s t x y;
        }

joins_sym : (A : Arena) (τ : Subst) (a b : ℕ) → Joins A τ a b → Joins A τ b a
joins_sym A τ a b h s t x y = sym (h t s y x)

joins_roots : (A : Arena) → NodesSpell A → (c : ℕ → ℕ) (τ : Subst) (a b : ℕ) → a < A.nodes → b < A.nodes → ((i : ℕ) → Joins A τ i (c i)) → Joins A τ a b →
    Joins A τ (c a) (c b)
joins_roots A w c τ a b ha hb h j s t x y =
    let u = w a ha in
    let v = w b hb in
    sym (h a u.0 s u.1 x) ∙ j u.0 v.0 u.1 v.1 ∙ h b v.0 t v.1 y

-- which root went to which
record Merge (l cs : List ℕ) (a b : ℕ) (ds : List ℕ) : Type 0 where
  from : ℕ
  to : ℕ
  roots : ((from ≡ at cs a) × (to ≡ at cs b)) ⊎ ((from ≡ at cs b) × (to ≡ at cs a))
  order : key l to ≤ key l from
  bytes : ds ≡ map (relabelled from to) cs

merged : (l cs : List ℕ) (a b : ℕ) (x : Bool) → ltb (key l (at cs a)) (key l (at cs b)) ≡ x →
    Merge l cs a b (if x then map (relabelled (at cs b) (at cs a)) cs else map (relabelled (at cs a) (at cs b)) cs)
merged l cs a b true e =
    let h = ltb-true (key l (at cs a)) (key l (at cs b)) e in
    record { from = at cs b; to = at cs a; roots = inr (refl, refl); order = omega arith; bytes = refl }
merged l cs a b false e =
    let h = ltb-false (key l (at cs a)) (key l (at cs b)) e in
    record { from = at cs a; to = at cs b; roots = inl (refl, refl); order = h; bytes = refl }

merge : (l cs : List ℕ) (a b : ℕ) (ds : List ℕ) → ds ≡ joined l cs a b → Merge l cs a b ds
unfolding joined
merge l cs a b ds e = subst (Merge l cs a b) (sym e) (merged l cs a b (ltb (key l (at cs a)) (key l (at cs b))) refl)

module _ (l tab ends cs : List ℕ) (y : Ready l tab ends cs) (a b : ℕ) (ha : a < length l) (hb : b < length l) (ds : List ℕ) (e : ds ≡ joined l cs a b) where
  abbrev M : Merge l cs a b ds
  M = merge l cs a b ds e

  merge_at : (i : ℕ) → i < length l → at ds i ≡ relabelled M.from M.to (at cs i)
  merge_at i h = ap (λ z. at z i) M.bytes ∙ at_map (relabelled M.from M.to) cs i (omega (arith, y.classed))

  from_within : M.from < length l
  from_within = ⊎_elim (λ r. subst (λ z. z < length l) (sym r.0) (y.within a ha)) (λ r. subst (λ z. z < length l) (sym r.0) (y.within b hb)) M.roots

  to_within : M.to < length l
  to_within = ⊎_elim (λ r. subst (λ z. z < length l) (sym r.1) (y.within b hb)) (λ r. subst (λ z. z < length l) (sym r.1) (y.within a ha)) M.roots

  merge_within : (i : ℕ) → i < length l → Cases M.from M.to (at cs i) → at ds i < length l
  merge_within i h (inl (p, q)) = subst (λ z. z < length l) (sym (merge_at i h ∙ q)) to_within
  merge_within i h (inr (p, q)) = subst (λ z. z < length l) (sym (merge_at i h ∙ q)) (y.within i h)

  pub joined_length : length ds ≡ length cs
  joined_length = ap length M.bytes ∙ length-map cs (relabelled M.from M.to)

  pub join_ready : Ready l tab ends ds
  join_ready =
      record {
        small = y.small;
        ended = y.ended;
        classed = omega (arith, y.classed, joined_length);
        whole = y.whole;
        within = λ i h. merge_within i h (relabelled_cases M.from M.to (at cs i));
      }

  to_root : (n₁ n₂ : ℕ) → Classes (arena l tab ends) n₁ n₂ (at cs) → at cs M.to ≡ M.to
  to_root n₁ n₂ g = ⊎_elim (λ r. ap (at cs) r.1 ∙ g.rooted b hb ∙ sym r.1) (λ r. ap (at cs) r.1 ∙ g.rooted a ha ∙ sym r.1) M.roots

  merge_joins : (τ : Subst) → ((i : ℕ) → Joins (arena l tab ends) τ i (at cs i)) → Joins (arena l tab ends) τ a b → Joins (arena l tab ends) τ M.from M.to
  merge_joins τ h j =
      let k = joins_roots (arena l tab ends) y.whole (at cs) τ a b ha hb h j in
      ⊎_elim
      (λ r. subst₂ (λ u v. Joins (arena l tab ends) τ u v) (sym r.0) (sym r.1) k)
      (λ r. subst₂ (λ u v. Joins (arena l tab ends) τ u v) (sym r.0) (sym r.1) (joins_sym (arena l tab ends) τ (at cs a) (at cs b) k))
      M.roots

  pub join_classes : (n₁ n₂ : ℕ) → Classes (arena l tab ends) n₁ n₂ (at cs) →
      ((τ : Subst) → Joins (arena l tab ends) τ n₁ n₂ → Joins (arena l tab ends) τ a b) →
      Classes (arena l tab ends) n₁ n₂ (at ds)
  join_classes n₁ n₂ g j =
      relabel_classes (arena l tab ends) y.whole (at cs) (at ds) M.from M.to merge_at n₁ n₂ g from_within to_within (to_root n₁ n₂ g)
      (key_headed l M.from M.to (omega (arith, from_within, y.small)) M.order)
      (λ τ k. merge_joins τ (g.respects τ k) (j τ k))

  join_keeps : (i k : ℕ) → i < length l → k < length l → at cs i ≡ at cs k → at ds i ≡ at ds k
  join_keeps = relabel_keeps (arena l tab ends) y.whole (at cs) (at ds) M.from M.to merge_at

  -- the two are in one class now
  pub join_joins : at ds a ≡ at ds b
  join_joins =
      ⊎_elim
      (λ r. merge_at a ha ∙ sym (relabelled_yes M.from M.to (at cs a) (sym r.0)) ∙ to_to (at cs b) (sym r.1) ∙ sym (merge_at b hb))
      (λ r. merge_at a ha ∙ sym (to_to (at cs a) (sym r.1)) ∙ relabelled_yes M.from M.to (at cs b) (sym r.0) ∙ sym (merge_at b hb))
      M.roots
    where
      to_to : (z : ℕ) → z ≡ M.to → M.to ≡ relabelled M.from M.to z
      to_to z q = ⊎_elim (λ h. sym h.1) (λ h. sym (h.1 ∙ q)) (relabelled_cases M.from M.to z)

  join_strict : (at cs a ≡ at cs b → ⊥) → key l M.to < key l M.from
  join_strict n =
      key_strict l M.from M.to (omega (arith, from_within, y.small)) (omega (arith, to_within, y.small))
      (λ q. ⊎_elim (λ r. n (sym r.0 ∙ sym q ∙ r.1)) (λ r. n (sym r.1 ∙ q ∙ r.0)) M.roots)
      M.order

  pub join_falls : (at cs a ≡ at cs b → ⊥) → weight l ds < weight l cs
  join_falls n =
      subst (λ z. weight l z < weight l cs) (sym M.bytes)
      (⊎_elim
      (λ r. weight_lt l M.from M.to cs a (join_strict n) (omega (arith, y.classed)) (sym r.0))
      (λ r. weight_lt l M.from M.to cs b (join_strict n) (omega (arith, y.classed)) (sym r.0))
      M.roots)

  pub join_grown : Linked (arena l tab ends) (at cs) a b → Grown (arena l tab ends) (at cs) (at ds)
  join_grown k = record { classes = λ n₁ n₂ g. join_classes n₁ n₂ g (λ τ j. k.3 τ (g.respects τ j)); keeps = join_keeps }

pub grown_start : (A : Arena) (c : ℕ → ℕ) → Grown A c c
grown_start A c = record { classes = λ n₁ n₂ g. g; keeps = λ i j hi hj e. e }

pub grown_more : (A : Arena) (c d f : ℕ → ℕ) → Grown A c d → Grown A d f → Grown A c f
grown_more A c d f g h = record { classes = λ n₁ n₂ k. h.classes n₁ n₂ (g.classes n₁ n₂ k); keeps = λ i j hi hj e. h.keeps i j hi hj (g.keeps i j hi hj e) }

pub key_first : (l : List ℕ) (i r : ℕ) → i ≡ r → at l i < 128 → i ≡ key l r
key_first l i r e h = sym (key_symbol l i h) ∙ ap (key l) e

pub key_second : (l : List ℕ) (i r : ℕ) → i ≡ r → 128 ≤ at l i → i + 1024 ≡ key l r
key_second l i r e h = sym (key_variable l i h) ∙ ap (key l) e

pub joined_first : (l cs ds : List ℕ) (a b : ℕ) (k q : ℕ) → k ≡ key l (at cs a) → q ≡ key l (at cs b) → k < q → ds ≡ map (relabelled (at cs b) (at cs a)) cs →
    ds ≡ joined l cs a b
unfolding joined
joined_first l cs ds a b k q ek eq h e =
    let j : key l (at cs a) < key l (at cs b) = omega (arith, ek, eq) in
    rw (lt-ltb (key l (at cs a)) (key l (at cs b)) j) e

pub joined_second : (l cs ds : List ℕ) (a b : ℕ) (k q : ℕ) → k ≡ key l (at cs a) → q ≡ key l (at cs b) → q ≤ k → ds ≡ map (relabelled (at cs a) (at cs b)) cs →
    ds ≡ joined l cs a b
unfolding joined
joined_second l cs ds a b k q ek eq h e =
    let j : key l (at cs b) ≤ key l (at cs a) = omega (arith, ek, eq) in
    rw (le-ltb (key l (at cs a)) (key l (at cs b)) j) e
