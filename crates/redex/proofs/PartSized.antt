-- Cells of a term of which some subterms' have their sizes, with no word of normality: `Marked` by no rules. Assumes nothing.
-- Read first: specs/Marks, proofs/Marking.
use mathlib.Core.Path.{◌≡◌, refl, sym, ◌∙◌, ap}
use mathlib.Core.List.{List, [], ◌∷◌, ◌++◌, append-nil}
use mathlib.Core.Logic.{◌⊎◌, inl, inr}
use mathlib.Core.Option.{none}
use Prim.Native.Nat.{ℕ, zero, suc, ◌+◌, ◌-◌, ◌/◌, ◌<◌, ◌≤◌}
use native.Mathlib.Omega.{arith}
use native.Mathlib.Decide.{dec_lt}
use lib.ListN.{length, get_or, length-append, get_or-append}
use lib.Seq.{get_or-append-add}
use Rattle.limits.specs.Limits.{most_apart, most_variables, cell_base}
use Rattle.terms.specs.Base.{mapped, or_else}
use Rattle.terms.specs.Term.{Term, Terms, var, node, nil, cons, term_bytes, size, sizes}
use Rattle.terms.specs.Flat.{Wf, Wfs}
use Rattle.terms.proofs.Places.{place}
use Rattle.terms.proofs.Positions.{subterm_is}
use Rattle.unify.specs.Unify.{Binding}
use Rattle.rewriting.specs.Rewrite.{instantiate, root_step, step, step_in}
use Rattle.matching.specs.Cells.{cells, cells_all}
use Rattle.matching.specs.Held.{Rep}
use Rattle.matching.specs.Pieces.{pieces}
use Rattle.matching.proofs.Celled.{length_cells, stands_size}
use Rattle.redex.specs.Marks.{Marked, MarkedAll, leaf, visit, leave, no_more, more, ArgumentsNormal}
use Rattle.redex.proofs.Marking.{marked_length, normal_all, instance_marked}
use Rattle.redex.proofs.Standing.{stands_at}

-- by no rules every term is normal
mutual
  unfolding step root_step mapped or_else

  no_rules : (t : Term) → step [] t ≡ none
  no_rules (var x) = refl
  no_rules (node f ts) = rw (no_rules_in ts) refl

  no_rules_in : (ts : Terms) → step_in [] ts ≡ none
  no_rules_in nil = refl
  no_rules_in (cons t ts) = rw (no_rules t, no_rules_in ts) refl

no_rules_below : (t : Term) → ArgumentsNormal [] t
no_rules_below (var x) = tt
no_rules_below (node f ts) = no_rules_in ts

-- all have their sizes
pub sized : (x : Term) → Marked [] (cells x) x
sized x = leave refl (no_rules x)

pub sized_all : (ts : Terms) → MarkedAll [] (cells_all ts) ts
sized_all ts = normal_all [] ts (no_rules_in ts)

-- the right side's instance, put together of pieces of the cells of a matched term
pub instance_part : (tab T B : List ℕ) (x : Term) (post : List ℕ) → Wf most_apart tab x → T ≡ cells x ++ post → (bs : List Binding) →
    Rep tab T (size x) B bs → (right : List ℕ) (r : Term) → Wf most_variables tab r → right ≡ term_bytes r → Marked [] (pieces T B right) (instantiate bs r)
instance_part tab T B x post w e bs rep right r v d = instance_marked [] tab T B x post w e (no_rules_below x) bs rep right r v d

-- a cell has no size, or that of its subterm
abbrev RightAt : List ℕ → List ℕ → ℕ → Type 0
RightAt l m j = (get_or l j 0 < cell_base) ⊎ (get_or l j 0 ≡ get_or m j 0)

-- an element of two lists, one behind the other
in_later : (a b : List ℕ) (j : ℕ) → (j < length a → ⊥) → get_or (a ++ b) j 0 ≡ get_or b (j - length a) 0
in_later a b j h =
    let i : length a + (j - length a) ≡ j = omega arith in
    ap (λ m. get_or (a ++ b) m 0) (sym i) ∙ get_or-append-add a b (j - length a) 0

right_append : (a b c d : List ℕ) → length a ≡ length c → (j : ℕ) → (j < length a → RightAt a c j) → ((j < length a → ⊥) → RightAt b d (j - length a)) →
    RightAt (a ++ b) (c ++ d) j
right_append a b c d n j f g =
    elim (dec_lt j (length a)) [
      | yes h ↦ rw (get_or-append a b 0 j h, get_or-append c d 0 j (omega arith)) (f h)
      | no h ↦
          let q : get_or (c ++ d) j 0 ≡ get_or d (j - length a) 0 = in_later c d j (λ l. h (omega arith)) ∙ ap (λ m. get_or d (j - m) 0) (sym n) in
          rw (in_later a b j h, q) (g h)
    ]

module _ (tab : List ℕ) where
  mutual
    unfolding cells Wf Wfs

    pub marked_cell : {l : List ℕ} {x : Term} → Marked [] l x → Wf most_apart tab x → (j : ℕ) → j < length l → RightAt l (cells x) j
    marked_cell (leaf e) w zero h = rw e (inl (omega arith))
    marked_cell (leaf e) w (suc j) h = absurd (omega (arith, ap length e))
    marked_cell (visit e m) w zero h = let f = w.0 in rw e (inl (omega arith))
    marked_cell (visit e m) w (suc j) h = rw e (marked_cells m w.2 j (omega (arith, ap length e)))
    marked_cell (leave e n) w j h = inr (ap (λ l. get_or l j 0) e)

    marked_cells : {l : List ℕ} {ts : Terms} → MarkedAll [] l ts → Wfs most_apart tab ts → (j : ℕ) → j < length l → RightAt l (cells_all ts) j
    marked_cells (no_more e) w j h = absurd (omega (arith, ap length e))
    marked_cells (more {a = a} {b = b} {t = t} {ts = ts} e m n) w j h =
        rw e
        (right_append a b (cells t) (cells_all ts) (marked_length [] m ∙ sym (length_cells t)) j (λ k. marked_cell m w.0 j k)
        (λ k. marked_cells n w.1 (j - length a) (omega (arith, ap length e, length-append a b))))

-- a subterm that has its size is all sized
abbrev SizedRun : List ℕ → ℕ → Type 0
SizedRun l i = (i + get_or l i 0 / cell_base ≤ length l) × ((q : ℕ) → i ≤ q → q < i + get_or l i 0 / cell_base → cell_base ≤ get_or l q 0)

mutual
  unfolding cells cells_all size sizes

  cell_sized : (x : Term) (q : ℕ) → q < size x → cell_base ≤ get_or (cells x) q 0
  cell_sized (var y) zero h = omega arith
  cell_sized (var y) (suc q) h = absurd (omega arith)
  cell_sized (node f ts) zero h = omega arith
  cell_sized (node f ts) (suc q) h = cells_sized ts q (omega arith)

  cells_sized : (ts : Terms) (q : ℕ) → q < sizes ts → cell_base ≤ get_or (cells_all ts) q 0
  cells_sized nil q h = absurd (omega arith)
  cells_sized (cons t ts) q h =
      let n = length_cells t in
      elim (dec_lt q (length (cells t))) [
        | yes l ↦ rw (get_or-append (cells t) (cells_all ts) 0 q l) (cell_sized t q (omega arith))
        | no l ↦ rw (in_later (cells t) (cells_all ts) q l) (cells_sized ts (q - length (cells t)) (omega arith))
      ]

run_append : (a b : List ℕ) (i : ℕ) → (i < length a → SizedRun a i) → ((i < length a → ⊥) → SizedRun b (i - length a)) → SizedRun (a ++ b) i
run_append a b i f g =
    let n = length-append a b in
    elim (dec_lt i (length a)) [
      | yes h ↦
          let r = (f h).0 in
          let e = get_or-append a b 0 i h in
          (omega arith, λ q l u. rw (get_or-append a b 0 q (omega arith)) ((f h).1 q l (omega arith)))
      | no h ↦
          let r = (g h).0 in
          let e = in_later a b i h in
          (omega arith, λ q l u. rw (in_later a b q (λ o. h (omega arith))) ((g h).1 (q - length a) (omega arith) (omega arith)))
    ]

run_cons : (a : ℕ) (l : List ℕ) (i : ℕ) → SizedRun l i → SizedRun (a ∷ l) (suc i)
run_cons a l i r = (let b = r.0 in omega arith, go)
  where
    go : (q : ℕ) → suc i ≤ q → q < suc i + get_or l i 0 / cell_base → cell_base ≤ get_or (a ∷ l) q 0
    go zero h u = absurd (omega arith)
    go (suc q) h u = r.1 q (omega arith) (omega arith)

module _ (tab : List ℕ) where
  cells_run : (x : Term) → Wf most_apart tab x → (i : ℕ) → i < size x → SizedRun (cells x) i
  cells_run x w i low =
      let y = (place x i low).s in
      let s = stands_at tab x [] (cells x) w (sym (append-nil (cells x))) i y (subterm_is x i low) in
      let n = stands_size tab (cells x) (size x) i y s in
      let b = s.inside in
      (omega (arith, length_cells x), λ q l u. cell_sized x q (omega arith))

  mutual
    unfolding Wf Wfs

    pub marked_run : {l : List ℕ} {x : Term} → Marked [] l x → Wf most_apart tab x → (i : ℕ) → i < length l → cell_base ≤ get_or l i 0 → SizedRun l i
    marked_run (leaf {y = y} e) w zero h s = absurd (let k : y < most_apart = w in let z = ap (λ l. get_or l 0 0) e in omega arith)
    marked_run (leaf e) w (suc i) h s = absurd (omega (arith, ap length e))
    marked_run (visit {f = f} e m) w zero h s = absurd (let k = w.0 in let z = ap (λ l. get_or l 0 0) e in omega arith)
    marked_run (visit {l = k} {m = l} {f = f} e m) w (suc i) h s =
        let z : get_or k (suc i) 0 ≡ get_or l i 0 = ap (λ l. get_or l (suc i) 0) e in
        rw e (run_cons f l i (marked_runs m w.2 i (omega (arith, ap length e)) (omega arith)))
    marked_run (leave {x = x} e n) w i h s = rw e (cells_run x w i (omega (arith, ap length e, length_cells x)))

    marked_runs : {l : List ℕ} {ts : Terms} → MarkedAll [] l ts → Wfs most_apart tab ts → (i : ℕ) → i < length l → cell_base ≤ get_or l i 0 → SizedRun l i
    marked_runs (no_more e) w i h s = absurd (omega (arith, ap length e))
    marked_runs (more {a = a} {b = b} e m n) w i h s =
        let z = ap (λ l. get_or l i 0) e in
        rw e
        (run_append a b i (λ k. marked_run m w.0 i k (omega (arith, get_or-append a b 0 i k)))
        (λ k. marked_runs n w.1 (i - length a) (omega (arith, ap length e, length-append a b)) (omega (arith, in_later a b i k))))
