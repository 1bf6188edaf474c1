-- A pair is renamed where each variable is one that stood before or the next one: a lemma for each step and each return of `is_renamed`. Assumes
-- nothing.
-- Read first: specs/Answers (ordered, IsRenamed), naming/specs/Names (renamed_bytes), naming/proofs/Pairs (renamed_pair).
use mathlib.Core.Path.{subst, ◌≡◌, refl, ap, ap₂, sym, ◌∙◌}
use mathlib.Core.Bool.{Bool, true, false}
use mathlib.Core.List.{List, [], ◌∷◌, ◌++◌, map, append_assoc, append-nil}
use Prim.Native.Nat.{ℕ, zero, suc, ◌+◌, ◌-◌, ◌≤◌, ◌<◌}
use native.Mathlib.Omega.{arith}
use native.Mathlib.Numerals.{add-one}
use lib.Dec.{eqb, ltb}
use lib.ListN.{length, take, drop, get_or, length-append, drop_of_length-le}
use lib.Seq.{drop-cons}
use borrow.Author.Tests.{lt-ltb, le-ltb, ltb-true, ltb-false, eqb-true, eqb-false, eq-eqb, ne_eqb}
use Rattle.limits.specs.Limits.{byte_values}
use Rattle.std.specs.Prelude.{if◌then◌else◌}
use Rattle.terms.specs.Base.{place_in, Every, of_none, of_cons}
use Rattle.terms.specs.Term.{term_bytes, Pair, renamed}
use Rattle.terms.specs.Flat.{Wf}
use Rattle.terms.proofs.Shape.{Says}
use Rattle.terms.proofs.Lists.{take_drop}
use Rattle.terms.proofs.Every.{every_one, every_append, every_map}
use Rattle.terms.proofs.Flats.{unique}
use Rattle.naming.specs.Names.{added, collect, named, renamed_bytes}
use Rattle.naming.proofs.Collecting.{place_later, place_first, added_symbol, added_old, added_new}
use Rattle.naming.proofs.Renaming.{named_symbol, named_variable}
use Rattle.naming.proofs.Pairs.{wf_low, wf_few, renamed_pair, renamed_left_wf, renamed_right_wf}
use Rattle.reading.specs.Answers.{between, next_after, ordered, IsRenamed}

-- the bytes of the variables 0 to n - 1
ups : ℕ → List ℕ
ups zero = []
ups (suc n) = ups n ++ ((128 + n) ∷ [])

length_ups : (n : ℕ) → length (ups n) ≡ n
unfolding ups
length_ups zero = refl
length_ups (suc n) = length-append (ups n) ((128 + n) ∷ []) ∙ omega (arith, length_ups n)

ups_below : (n : ℕ) → Every (λ b. b < 128 + n) (ups n)
unfolding ups
ups_below zero = of_none
ups_below (suc n) = every_append (every_map (λ b h. omega arith) (ups_below n)) (every_one (omega arith))

-- a byte above all before it stands where they end
place_behind : (b : ℕ) (ns more : List ℕ) → Every (λ y. y < b) ns → place_in b (ns ++ (b ∷ more)) ≡ length ns
place_behind b [] more of_none = place_first b b more refl
place_behind b (y ∷ ns) more (of_cons h hs) = place_later b y (ns ++ (b ∷ more)) (λ e. omega arith) ∙ ap suc (place_behind b ns more hs)

place_absent : (b : ℕ) (ns : List ℕ) → Every (λ y. y < b) ns → place_in b ns ≡ length ns
unfolding place_in
place_absent b [] of_none = refl
place_absent b (y ∷ ns) (of_cons h hs) = place_later b y ns (λ e. omega arith) ∙ ap suc (place_absent b ns hs)

-- the n-th variable stands in the n-th place
place_up : (n b : ℕ) (more : List ℕ) → 128 ≤ b → b < 128 + n → 128 + place_in b (ups n ++ more) ≡ b
unfolding ups
place_up zero b more l h = absurd (omega arith)
place_up (suc n) b more l h = rw (append_assoc (ups n) ((128 + n) ∷ []) more) (go (eqb b (128 + n)) refl (λ k. place_up n b ((128 + n) ∷ more) l k))
  where
    go : (t : Bool) → eqb b (128 + n) ≡ t → (b < 128 + n →
        128 + place_in b (ups n ++ ((128 + n) ∷ more)) ≡ b) → 128 + place_in b (ups n ++ ((128 + n) ∷ more)) ≡ b
    go true e ih =
        let q : b ≡ 128 + n = eqb-true b (128 + n) e in
        rw q (omega (arith, place_behind (128 + n) (ups n) more (ups_below n), length_ups n))
    go false e ih = let q : b ≡ 128 + n → ⊥ = eqb-false b (128 + n) e in ih (omega (arith, q))

-- names are only added
added_more : (b : ℕ) (ns : List ℕ) → (m : List ℕ) × (added b ns ≡ ns ++ m)
unfolding added
added_more b ns = go (ltb b 128) (ltb (place_in b ns) (length ns))
  where
    go : (p q : Bool) → (m : List ℕ) × ((if p then ns else (if q then ns else (ns ++ (b ∷ [])))) ≡ ns ++ m)
    go true q = ([], sym (append-nil ns))
    go false true = ([], sym (append-nil ns))
    go false false = (b ∷ [], refl)

collect_more : (ns l : List ℕ) → (m : List ℕ) × (collect ns l ≡ ns ++ m)
unfolding collect
collect_more ns [] = ([], sym (append-nil ns))
collect_more ns (b ∷ l) =
    let A = added_more b ns in
    let C = collect_more (added b ns) l in
    (A.0 ++ C.0, C.1 ∙ ap (λ z. z ++ C.0) A.1 ∙ append_assoc ns A.0 C.0)

-- one byte more
cons_says : (f : ℕ → ℕ) (b : ℕ) (l : List ℕ) (r : Bool) → f b ≡ b → Says (map f l ≡ l) r → Says (map f (b ∷ l) ≡ b ∷ l) r
cons_says f b l true e h = ap₂ ◌∷◌ e h
cons_says f b l false e h = λ q. h (let k : map f l ≡ l = cc in k)

module _ (n b : ℕ) (l : List ℕ) where
  abbrev Goal : Bool → Type 0
  Goal r = Says (map (named (collect (added b (ups n)) l)) (b ∷ l) ≡ b ∷ l) r

  -- the same of any names
  abbrev Known : Bool → List ℕ → Type 0
  Known r ns = Says (map (named (collect ns l)) (b ∷ l) ≡ b ∷ l) r

  above : 128 + n < b → Goal false
  above h =
      let low : Every (λ y. y < b) (ups n) = every_map (λ y k. omega arith) (ups_below n) in
      let q : added b (ups n) ≡ ups n ++ (b ∷ []) = added_new b (ups n) (omega arith) (omega (arith, place_absent b (ups n) low)) in
      let c = ap (λ ns. collect ns l) q ∙ (collect_more (ups n ++ (b ∷ [])) l).1 ∙ append_assoc (ups n) (b ∷ []) _ in
      let v : named (collect (added b (ups n)) l) b ≡ 128 + n =
      named_variable (collect (added b (ups n)) l) b (omega arith) ∙ ap (λ ns. 128 + place_in b ns) c
      ∙ ap (λ k. 128 + k) (place_behind b (ups n) _ low ∙ length_ups n) in
      λ e.
      let k : named (collect (added b (ups n)) l) b ≡ b = cc in
      omega arith

  next : b ≡ 128 + n → (r : Bool) → Says (map (named (collect (ups (suc n)) l)) l ≡ l) r → Goal r
  unfolding ups
  next e r h =
      let low : Every (λ y. y < b) (ups n) = every_map (λ y k. omega arith) (ups_below n) in
      let q : added b (ups n) ≡ ups (suc n) =
      added_new b (ups n) (omega arith) (omega (arith, place_absent b (ups n) low)) ∙ ap (λ z. ups n ++ (z ∷ [])) e in
      let v : named (collect (ups (suc n)) l) b ≡ b =
      named_variable (collect (ups (suc n)) l) b (omega arith) ∙ ap (λ ns. 128 + place_in b ns) (collect_more (ups (suc n)) l).1
      ∙ place_up (suc n) b _ (omega arith) (omega arith) in
      subst (Known r) (sym q) (cons_says _ b l r v h)

  module _ (r : Bool) (h : Says (map (named (collect (ups n) l)) l ≡ l) r) where
    symbol : b < 128 → Goal r
    symbol s = subst (Known r) (sym (added_symbol b (ups n) s)) (cons_says _ b l r (named_symbol (collect (ups n) l) b s) h)

    old : 128 ≤ b → b < 128 + n → Goal r
    old s k =
        let p : 128 + place_in b (ups n) ≡ b = ap (λ ns. 128 + place_in b ns) (sym (append-nil (ups n))) ∙ place_up n b [] s k in
        let v : named (collect (ups n) l) b ≡ b =
        named_variable (collect (ups n) l) b s ∙ ap (λ ns. 128 + place_in b ns) (collect_more (ups n) l).1 ∙ place_up n b _ s k in
        subst (Known r) (sym (added_old b (ups n) s (omega (arith, p, length_ups n)))) (cons_says _ b l r v h)

ordered_says : (n : ℕ) (l : List ℕ) → Says (map (named (collect (ups n) l)) l ≡ l) (ordered (128 + n) l)
unfolding ordered collect next_after
ordered_says n [] = refl
ordered_says n (b ∷ l) = go (ltb (128 + n) b) (eqb b (128 + n)) refl refl (ordered_says n l) (ordered_says (suc n) l)
  where
    go : (p q : Bool) → ltb (128 + n) b ≡ p → eqb b (128 + n) ≡ q → Says (map (named (collect (ups n) l)) l ≡ l) (ordered (128 + n) l) →
        Says (map (named (collect (ups (suc n)) l)) l ≡ l) (ordered (128 + suc n) l) →
        Says (map (named (collect (added b (ups n)) l)) (b ∷ l) ≡ b ∷ l) (if p then false else ordered (if q then suc (128 + n) else (128 + n)) l)
    go true q e f h k = above n b l (ltb-true (128 + n) b e)
    go false true e f h k =
        let s : suc (128 + n) ≡ 128 + suc n = omega arith in
        rw s (next n b l (eqb-true b (128 + n) f) (ordered (128 + suc n) l) k)
    go false false e f h k =
        let low : b ≤ 128 + n = ltb-false (128 + n) b e in
        let other : b ≡ 128 + n → ⊥ = eqb-false b (128 + n) f in
        split (ltb b 128) refl (omega (arith, other))
      where
        split : (t : Bool) → ltb b 128 ≡ t → b < 128 + n → Goal n b l (ordered (128 + n) l)
        split true s m = symbol n b l (ordered (128 + n) l) h (ltb-true b 128 s)
        split false s m = old n b l (ordered (128 + n) l) h (ltb-false b 128 s) m

-- bytes in order are the bytes of a renamed pair, and only they
renamed_or_not : (n : ℕ) (tab l : List ℕ) (p : Pair) → Wf n tab p.left → Wf n tab p.right → l ≡ term_bytes p.left ++ term_bytes p.right →
    (r : Bool) → r ≡ ordered 128 l → (r ≡ true → renamed p ≡ p) × (renamed p ≡ p → r ≡ true)
unfolding ups renamed_bytes
renamed_or_not n tab l p v w e r q = (λ t. forth (rw (sym q ∙ t) at says), λ i. q ∙ back (ordered 128 l) says i)
  where
    says : Says (map (named (collect [] l)) l ≡ l) (ordered 128 l)
    says = ordered_says 0 l

    bytes : map (named (collect [] l)) l ≡ term_bytes (renamed p).left ++ term_bytes (renamed p).right
    bytes = ap renamed_bytes e ∙ renamed_pair p (wf_low n tab p.left v) (wf_low n tab p.right w)

    forth : map (named (collect [] l)) l ≡ l → renamed p ≡ p
    forth s =
        let few = wf_few n tab p v w in
        let vw = renamed_left_wf n n tab p few v in
        let ww = renamed_right_wf n n tab p few w in
        let i = unique n tab (renamed p).left p.left (term_bytes (renamed p).right) (term_bytes p.right) vw v (sym bytes ∙ s ∙ e) in
        let j = unique n tab (renamed p).right p.right [] [] ww w
        (append-nil (term_bytes (renamed p).right) ∙ i.1 ∙ sym (append-nil (term_bytes p.right))) in
        ap₂ (λ x y. record { left = x; right = y }) i.0 j.0

    back : (b : Bool) → Says (map (named (collect [] l)) l ≡ l) b → renamed p ≡ p → b ≡ true
    back true h i = refl
    back false h i = absurd (h (bytes ∙ ap (λ (p : Pair). term_bytes p.left ++ term_bytes p.right) i ∙ sym e))

-- `next_after` returns
pub after_same : (next b : ℕ) → b ≡ next → next + 1 ≡ next_after next b
unfolding next_after
after_same next b e = rw (eq-eqb b next e, add-one next) refl

pub after_other : (next b : ℕ) → (b ≡ next → ⊥) → next ≡ next_after next b
unfolding next_after
after_other next b e = rw (ne_eqb b next e) refl

-- the walk over the bytes s has read i of them
pub record Walked (s : List ℕ) (next i : ℕ) : Type 0 where
  pub small : next ≤ byte_values
  pub same : ordered next (drop i s) ≡ ordered 128 s

pub walk_start : (s : List ℕ) → Walked s 128 0
walk_start s = record { small = omega arith; same = refl }

-- the bytes from `at` to `end`, as the walk has them
part_is : (l : List ℕ) (at end : ℕ) → at ≤ end → take (end - at) (drop at l) ≡ between l at end
part_is l at end h = let e : at + (end - at) ≡ end = omega arith in take_drop at (end - at) l ∙ ap (λ k. drop at (take k l)) e

module _ (s : List ℕ) (next i : ℕ) (W : Walked s next i) (h : i < length s) (b : ℕ) (e : b ≡ get_or s i 0) where
  rest_is : drop i s ≡ b ∷ drop (suc i) s
  rest_is = drop-cons s i 0 h ∙ ap (λ z. z ∷ drop (suc i) s) (sym e)

  stops : next < b → ordered 128 s ≡ false
  unfolding ordered
  stops k = sym W.same ∙ rw (rest_is, lt-ltb next b k) refl

  -- the next variable's byte grows only where a byte equals it
  after_small : b < byte_values → next_after next b ≤ byte_values
  unfolding next_after
  after_small s = go (eqb b next) refl
    where
      go : (t : Bool) → eqb b next ≡ t → (if t then suc next else next) ≤ byte_values
      go true q = omega (arith, eqb-true b next q)
      go false q = W.small

  pub walk_more : b < byte_values → b ≤ next → (m : ℕ) → m ≡ next_after next b → Walked s m (i + 1)
  unfolding ordered
  walk_more z k m q = record {
    small = omega (arith, after_small z);
    same = rw (add-one i, q) (sym (rw (rest_is, le-ltb next b k) refl) ∙ W.same);
  }

ends : (s : List ℕ) (next i : ℕ) → Walked s next i → length s ≤ i → ordered 128 s ≡ true
unfolding ordered
ends s next i W h = sym W.same ∙ rw (drop_of_length-le s h) refl

module _ (l : List ℕ) (at end : ℕ) (low : at ≤ end) (next i : ℕ) (W : Walked (take (end - at) (drop at l)) next i) where
  answers : (r : Bool) → ordered 128 (take (end - at) (drop at l)) ≡ r → IsRenamed l at end r
  answers r q n tab p v w f =
      renamed_or_not n tab (between l at end) p v w f r (sym (ap (ordered 128) (sym (part_is l at end low)) ∙ q))

  pub walk_wrong : i < length (take (end - at) (drop at l)) → (b : ℕ) → b ≡ get_or (take (end - at) (drop at l)) i 0 → next < b → IsRenamed l at end false
  walk_wrong h b e k = answers false (stops _ next i W h b e k)

  pub walk_end : length (take (end - at) (drop at l)) ≤ i → IsRenamed l at end true
  walk_end h = answers true (ends _ next i W h)
