-- Cells with and without sizes: a term's own bytes are such, and so is the instance of a right side. Assumes nothing. The redex loses its size; what
-- stands below its root is normal, since the arguments are.
-- Read first: specs/Marks (Marked), matching/specs/Cells, matching/specs/Pieces, proofs/Standing.
use mathlib.Core.Path.{◌≡◌, refl, sym, ◌∙◌, ap, ap₂, subst}
use mathlib.Core.List.{List, [], ◌∷◌, ◌++◌, append_assoc, append-nil}
use mathlib.Core.Option.{Option, none, some}
use Prim.Native.Nat.{ℕ, zero, suc, ◌+◌, ◌-◌, ◌/◌, ◌%◌, ◌<◌}
use native.Mathlib.Omega.{arith}
use lib.ListN.{length, get_or, drop, take, length-append}
use lib.Seq.{take_at}
use Rattle.limits.specs.Limits.{most_apart, most_variables, most_symbols, first_variable, cell_base}
use Rattle.terms.specs.Base.{mapped, or_else}
use Rattle.terms.specs.Term.{Term, Terms, var, node, nil, cons, term_bytes, terms_bytes, size, sizes, subst_term, subst_terms, subterm_at}
use Rattle.terms.specs.Flat.{Wf, Wfs}
use Rattle.terms.proofs.Places.{size_pos}
use Rattle.terms.proofs.Positions.{Inherits, subterm_in_inherits}
use Rattle.terms.proofs.Shape.{none≢some}
use Rattle.unify.specs.Unify.{Binding}
use Rattle.rewriting.specs.Overlap.{Rule}
use Rattle.rewriting.specs.Rewrite.{bound, bound_or_variable, instantiate, root_step, step, step_in}
use Rattle.rewriting.proofs.Matching.{by}
use Rattle.matching.specs.Cells.{cells, cells_all, root_byte, cells_below, node_bytes, Stands}
use Rattle.matching.specs.Held.{Slot, Rep}
use Rattle.std.specs.Prelude.{Some}
use Rattle.matching.specs.Pieces.{before, slot_of, first_cell, piece_at, piece, pieces}
use Rattle.matching.proofs.Celled.{length_cells, cells_root, length_below, bytes_append, bytes_cells, cells_unique, stands_cell, stands_byte, stands_size}
use Rattle.matching.proofs.Celled.{stands_below}
use Rattle.matching.proofs.Filling.{slot_variable, slot_symbol, piece_byte}
use Rattle.redex.specs.Marks.{Marked, MarkedAll, leaf, visit, leave, no_more, more, ArgumentsNormal, open_cells}
use Rattle.redex.proofs.Standing.{stands_is}

-- what is put for a term, at the root of the cells and below it
module _ (tab T : List ℕ) (n k : ℕ) (u : Term) (s : Stands tab T n k u) where
  piece_below : take (get_or T k 0 / cell_base - 1) (drop (suc k) T) ≡ cells_below u
  piece_below =
      let e : length (cells_below u) ≡ get_or T k 0 / cell_base - 1 = omega (arith, length_below u, stands_size tab T n k u s) in
      rw (stands_below tab T n k u s) (take_at (cells_below u) s.rest (get_or T k 0 / cell_base - 1) e)

  piece_open : (b : ℕ) → k ≡ 0 → piece_at T b (Some k) ≡ open_cells u
  unfolding piece_at first_cell open_cells
  piece_open b z = ap₂ (λ c l. c ∷ l) (ap (λ j. first_cell j (get_or T k 0)) z ∙ stands_byte tab T n k u s) piece_below

piece_later : (tab T : List ℕ) (n k : ℕ) (u : Term) → Stands tab T n (suc k) u → (b : ℕ) → piece_at T b (Some (suc k)) ≡ cells u
unfolding piece_at first_cell
piece_later tab T n k u s b = ap₂ (λ c l. c ∷ l) (stands_cell tab T n (suc k) u s) (piece_below tab T n (suc k) u s) ∙ sym (cells_root u)

both_none : {A : Type 0} (o q : Option A) → or_else o q ≡ none → (o ≡ none) × (q ≡ none)
unfolding or_else
both_none none q e = (refl, e)
both_none (some a) q e = absurd (none≢some (sym e))

mapped_none : {A B : Type 0} (f : A → B) (o : Option A) → mapped f o ≡ none → o ≡ none
unfolding mapped
mapped_none f none e = refl
mapped_none f (some a) e = absurd (none≢some (sym e))

module _ (rs : List Rule) where
  mutual
    unfolding term_bytes

    pub plain : (x : Term) → Marked rs (term_bytes x) x
    plain (var y) = leaf refl
    plain (node f ts) = visit refl (plain_all ts)

    pub plain_all : (ts : Terms) → MarkedAll rs (terms_bytes ts) ts
    plain_all nil = no_more refl
    plain_all (cons t ts) = more refl (plain t) (plain_all ts)

  mutual
    unfolding size

    pub marked_length : {l : List ℕ} {x : Term} → Marked rs l x → length l ≡ size x
    marked_length (leaf e) = ap length e
    marked_length (visit e h) = ap length e ∙ ap suc (marked_lengths h)
    marked_length (leave {x = x} e n) = ap length e ∙ length_cells x

    pub marked_lengths : {l : List ℕ} {xs : Terms} → MarkedAll rs l xs → length l ≡ sizes xs
    marked_lengths (no_more e) = ap length e
    marked_lengths (more {a = a} {b = b} e h k) = ap length e ∙ length-append a b ∙ ap₂ ◌+◌ (marked_length h) (marked_lengths k)

  -- they have the bytes of their term
  module _ (tab : List ℕ) where
    mutual
      unfolding term_bytes node_bytes Wf Wfs

      pub marked_bytes : {l : List ℕ} {x : Term} → Marked rs l x → Wf most_apart tab x → node_bytes l ≡ term_bytes x
      marked_bytes (leaf {y = y} e) w =
          let z : (first_variable + y) % cell_base ≡ first_variable + y = omega arith in
          ap node_bytes e ∙ ap (λ b. b ∷ []) z
      marked_bytes (visit {f = f} e h) w =
          let k : f < most_symbols = w.0 in
          let z : f % cell_base ≡ f = omega arith in
          ap node_bytes e ∙ ap₂ (λ b l. b ∷ l) z (marked_bytes_all h w.2)
      marked_bytes (leave {x = x} e n) w = ap node_bytes e ∙ bytes_cells tab x w

      marked_bytes_all : {l : List ℕ} {xs : Terms} → MarkedAll rs l xs → Wfs most_apart tab xs → node_bytes l ≡ terms_bytes xs
      marked_bytes_all (no_more e) w = ap node_bytes e
      marked_bytes_all (more {a = a} {b = b} e h k) w =
          ap node_bytes e ∙ bytes_append a b ∙ ap₂ ◌++◌ (marked_bytes h w.0) (marked_bytes_all k w.1)

  -- the parts of a normal term are normal
  node_none : (f : ℕ) (ts : Terms) → step rs (node f ts) ≡ none → step_in rs ts ≡ none
  unfolding step
  node_none f ts e = mapped_none (node f) (step_in rs ts) (both_none (mapped (node f) (step_in rs ts)) (root_step rs (node f ts)) e).0

  cons_none : (t : Term) (ts : Terms) → step_in rs (cons t ts) ≡ none → (step rs t ≡ none) × (step_in rs ts ≡ none)
  unfolding step_in
  cons_none t ts e =
      let (a, b) = both_none (mapped (λ u. cons u ts) (step rs t)) (mapped (cons t) (step_in rs ts)) e in
      (mapped_none (λ u. cons u ts) (step rs t) a, mapped_none (cons t) (step_in rs ts) b)

  pub normal_all : (ts : Terms) → step_in rs ts ≡ none → MarkedAll rs (cells_all ts) ts
  unfolding cells_all
  normal_all nil e = no_more refl
  normal_all (cons t ts) e = let n = cons_none t ts e in more refl (leave refl n.0) (normal_all ts n.1)

  open_marked : (x : Term) → ArgumentsNormal rs x → Marked rs (open_cells x) x
  unfolding open_cells root_byte cells_below
  open_marked (var y) h = leaf refl
  open_marked (node f ts) h = visit refl (normal_all ts h)

  normal_inherits : Inherits (λ t. step rs t ≡ none) (λ ts. step_in rs ts ≡ none)
  normal_inherits = record { arguments = node_none; head = λ t ts e. (cons_none t ts e).0; tail = λ t ts e. (cons_none t ts e).1 }

  -- below the root of a term whose arguments are normal stands a normal term at every place
  below_normal : (tab T : List ℕ) (x : Term) (post : List ℕ) → Wf most_apart tab x → T ≡ cells x ++ post → ArgumentsNormal rs x → (k : ℕ) (u : Term) →
      Stands tab T (size x) (suc k) u → step rs u ≡ none
  unfolding size subterm_at
  below_normal tab T (var y) post w e h k u s = absurd (let i = s.inside in omega (arith, size_pos u))
  below_normal tab T (node f ts) post w e h k u s =
      let low : suc k < suc (sizes ts) = let i = s.inside in omega (arith, size_pos u) in
      subterm_in_inherits normal_inherits ts k u (stands_is tab (node f ts) post T w e (size (node f ts)) (suc k) u low s) h

  -- what is put for a right side
  module _
      (tab T B : List ℕ) (x : Term) (post : List ℕ) (w : Wf most_apart tab x) (e : T ≡ cells x ++ post) (an : ArgumentsNormal rs x)
      (bs : List Binding) (rep : Rep tab T (size x) B bs) where
    slot_marked : (y k : ℕ) (o : Option Term) → Slot tab T (size x) k o → Marked rs (piece_at T (first_variable + y) (before k)) (bound_or_variable y o)
    unfolding piece_at bound_or_variable
    slot_marked y zero none s = leaf refl
    slot_marked y zero (some u) s = absurd s
    slot_marked y (suc k) none s = absurd s
    slot_marked y (suc zero) (some u) s =
        let q : x ≡ u = cells_unique tab x u post s.rest w s.wf (sym e ∙ s.text) in
        subst (λ l. Marked rs l u) (sym (piece_open tab T (size x) 0 u s (first_variable + y) refl)) (open_marked u (subst (ArgumentsNormal rs) q an))
    slot_marked y (suc (suc k)) (some u) s =
        leave (piece_later tab T (size x) k u s (first_variable + y)) (below_normal tab T x post w e an k u s)

    variable_marked : (y : ℕ) → y < most_variables → Marked rs (piece T B (first_variable + y)) (bound_or_variable y (bound bs y))
    unfolding piece
    variable_marked y h =
        let s : slot_of B (first_variable + y) ≡ before (get_or B y 0) = slot_variable B (first_variable + y) y (omega arith) (omega arith) h in
        subst (λ k. Marked rs (piece_at T (first_variable + y) k) (bound_or_variable y (bound bs y))) (sym s)
        (slot_marked y (get_or B y 0) (bound bs y) (rep y h))

    symbol_piece : (f : ℕ) → f < most_symbols → piece T B f ≡ f ∷ []
    symbol_piece f h = sym (piece_byte T B f (sym (slot_symbol B f (omega arith))))

    pieces_append : (a b : List ℕ) → pieces T B (a ++ b) ≡ pieces T B a ++ pieces T B b
    unfolding pieces
    pieces_append [] b = refl
    pieces_append (c ∷ a) b = ap (λ z. piece T B c ++ z) (pieces_append a b) ∙ sym (append_assoc (piece T B c) (pieces T B a) (pieces T B b))

    mutual
      unfolding pieces term_bytes subst_term Wf Wfs

      term_marked : (r : Term) → Wf most_variables tab r → Marked rs (pieces T B (term_bytes r)) (subst_term (by bs) r)
      term_marked (var y) v =
          subst (λ l. Marked rs l (bound_or_variable y (bound bs y))) (sym (append-nil (piece T B (first_variable + y)))) (variable_marked y v)
      term_marked (node f ts) v = visit (ap (λ z. z ++ pieces T B (terms_bytes ts)) (symbol_piece f v.0)) (terms_marked ts v.2)

      terms_marked : (ts : Terms) → Wfs most_variables tab ts → MarkedAll rs (pieces T B (terms_bytes ts)) (subst_terms (by bs) ts)
      terms_marked nil v = no_more refl
      terms_marked (cons t ts) v = more (pieces_append (term_bytes t) (terms_bytes ts)) (term_marked t v.0) (terms_marked ts v.1)

    pub instance_marked : (right : List ℕ) (r : Term) → Wf most_variables tab r → right ≡ term_bytes r → Marked rs (pieces T B right) (instantiate bs r)
    unfolding instantiate
    instance_marked right r v d = subst (λ l. Marked rs (pieces T B l) (instantiate bs r)) (sym d) (term_marked r v)
