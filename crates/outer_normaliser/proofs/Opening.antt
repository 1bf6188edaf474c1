-- `open_path` by its turns: what is left to open is a list of terms, whose cells stand from i on, and a node among theirs; and the cells of a term whose
-- node gave way, with those above it opened, are cells of the next term. Assumes nothing.
-- Read first: specs/Outer (opened_to, PathOpened), redex/proofs/PartSized, terms/proofs/Context (plug).
use mathlib.Core.Path.{◌≡◌, refl, sym, ◌∙◌, ap, ap₂, subst}
use mathlib.Core.List.{List, [], ◌∷◌, ◌++◌, append_assoc, append-nil}
use mathlib.Core.Logic.{⊎_elim}
use Prim.Native.Nat.{ℕ, zero, suc, ◌+◌, ◌-◌, ◌*◌, ◌/◌, ◌%◌, ◌<◌, ◌≤◌}
use native.Mathlib.Omega.{arith}
use native.Mathlib.Numerals.{add-one}
use native.Mathlib.Decide.{dec_lt}
use borrow.Author.Tests.{lt-ltb, le-ltb}
use lib.ListN.{length, get_or, take, drop, set, length-append, length-set}
use lib.Seq.{drop_at, drop-drop, drop-set-lt, take-add, take-append-le, take_at, take-suc-set, take-take, get_or-take, get_or-drop}
use Rattle.limits.specs.Limits.{most_apart, cell_base}
use Rattle.terms.specs.Term.{Term, Terms, var, node, nil, cons, size, sizes}
use Rattle.terms.specs.Flat.{Wf, Wfs}
use Rattle.terms.proofs.Context.{Ctx, Ctxs, hole, beneath, first, later, plug, plugs}
use Rattle.terms.proofs.Lists.{take_drop}
use Rattle.terms.proofs.Places.{number, numbers, number_lt, size_pos}
use Rattle.matching.specs.Cells.{cells, cells_all, root_byte}
use Rattle.matching.proofs.Celled.{length_cells, length_cells_all, cells_root, root_low, cell_byte, cell_size}
use Rattle.redex.specs.Marks.{Marked, MarkedAll, visit, more}
use Rattle.redex.proofs.PartSized.{sized, sized_all}
use Rattle.redex.proofs.Standing.{behind, behinds}
use Rattle.std.specs.Prelude.{None}
use Rattle.outer_normaliser.specs.Outer.{Passed, Skipped, opened_to, opened_in, PathOpened}

-- the node's place is the first one
opened_zero : (t : Term) → opened_to t 0 ≡ []
unfolding opened_to
opened_zero (var y) = refl
opened_zero (node f ts) = refl

opened_none : (ts : Terms) → opened_in ts 0 ≡ []
unfolding opened_in
opened_none nil = refl
opened_none (cons t ts) = rw (lt-ltb 0 (size t) (size_pos t)) (opened_zero t)

-- what is left at i of the way to the node at `at` of x, when the first i cells are those of t
pub record Left (tab : List ℕ) (x : Term) (at : ℕ) (t₀ t : List ℕ) (i : ℕ) : Type 0 where
  pub terms : Terms
  pub wfs : Wfs most_apart tab terms
  pub place : ℕ
  pub sum : i + place ≡ at
  pub low : place < sizes terms
  pub text : take place (drop i t₀) ≡ take place (cells_all terms)
  pub whole : take i t ++ opened_in terms place ≡ opened_to x at

pub record Opening (t₀ : List ℕ) (at : ℕ) (t : List ℕ) (i : ℕ) : Type 0 where
  pub same : length t ≡ length t₀
  pub within : i ≤ at
  pub rest : drop i t ≡ drop i t₀
  pub is : (tab : List ℕ) (x : Term) → Wf most_apart tab x → at < size x → take at t₀ ≡ take at (cells x) → Left tab x at t₀ t i

pub open_start : (t : List ℕ) (at : ℕ) → Opening t at t 0
unfolding Wfs sizes cells_all opened_in
open_start t at = record {
  same = refl;
  within = omega arith;
  rest = refl;
  is = λ tab x w l e. record {
    terms = cons x nil;
    wfs = (w, tt);
    place = at;
    sum = omega arith;
    low = omega arith;
    text = e ∙ ap (take at) (sym (append-nil (cells x)));
    whole = rw (lt-ltb at (size x) l) refl;
  };
}

pub open_done : {t₀ : List ℕ} {at : ℕ} {t : List ℕ} {i : ℕ} → Opening t₀ at t i → at ≤ i → PathOpened t₀ at t
open_done {t₀} {at} {t} {i} h l =
    let e : i ≡ at = let w = h.within in omega arith in
    record {
      same = h.same;
      rest = rw e at h.rest;
      front = λ tab x w o q.
          let L = h.is tab x w o q in
          let z : L.place ≡ 0 = let s = L.sum in omega arith in
          sym (append-nil (take at t))
          ∙ ap₂ (λ a b. take a t ++ b) (sym e) (sym (ap (opened_in L.terms) z ∙ opened_none L.terms))
          ∙ L.whole;
    }

-- the node at i
module _ {t₀ : List ℕ} {at : ℕ} {t : List ℕ} {i : ℕ} (h : Opening t₀ at t i) (below : i < at) (many : at ≤ length t₀) where
  in_range : i < length t
  in_range = let s = h.same in omega arith

  -- its cell is the root's of the first term that is left
  module _
      (tab : List ℕ) (y : Term) (ys : Terms) (w : Wf most_apart tab y) (p : ℕ) (sum : i + p ≡ at)
      (text : take p (drop i t₀) ≡ take p (cells_all (cons y ys))) where
    cell_there : get_or t i 0 ≡ root_byte y + cell_base * size y
    unfolding cells_all
    cell_there =
        let pos : 0 < p = omega arith in
        let z : i + 0 ≡ i = omega arith in
        ap (λ j. get_or t j 0) (sym z) ∙ sym (get_or-drop i t 0 0) ∙ ap (λ l. get_or l 0 0) h.rest
        ∙ sym (get_or-take p (drop i t₀) 0 0 pos) ∙ ap (λ l. get_or l 0 0) text ∙ get_or-take p (cells y ++ cells_all ys) 0 0 pos
        ∙ ap (λ l. get_or (l ++ cells_all ys) 0 0) (cells_root y)

    size_there : get_or t i 0 / cell_base ≡ size y
    size_there = ap (λ c. c / cell_base) cell_there ∙ cell_size (root_byte y) (size y) (root_low tab y w)

    byte_there : get_or t i 0 % cell_base ≡ root_byte y
    byte_there = ap (λ c. c % cell_base) cell_there ∙ cell_byte (root_byte y) (size y) (root_low tab y w)

  -- a term that ends before the node is passed
  skip_left : (tab : List ℕ) (x : Term) (n : ℕ) → Passed (get_or t i 0) i at n → (ts : Terms) → Wfs most_apart tab ts → (p : ℕ) → i + p ≡ at →
      p < sizes ts → take p (drop i t₀) ≡ take p (cells_all ts) → take i t ++ opened_in ts p ≡ opened_to x at → Left tab x at t₀ t (i + n)
  unfolding Wfs sizes cells_all opened_in
  skip_left tab x n S nil w p sum low text whole = absurd (omega arith)
  skip_left tab x n S (cons y ys) w p sum low text whole =
      let o = S.ends in
      let z = S.some_node in
      let m : n ≡ size y = S.size ∙ size_there tab y ys w.0 p sum text in
      let l : length (cells y) ≡ n = length_cells y ∙ sym m in
      let c : n ≤ p = omega arith in
      let q : n + (p - n) ≡ p = omega arith in
      let run : take n (drop i t) ≡ cells y =
      ap (take n) h.rest ∙ sym (take-take n p (drop i t₀) c) ∙ ap (take n) text ∙ take-take n p (cells y ++ cells_all ys) c
      ∙ take_at (cells y) (cells_all ys) n l in
      let later : opened_in (cons y ys) p ≡ cells y ++ opened_in ys (p - n) = rw (le-ltb p (size y) (omega arith), m) refl in
      record {
        terms = ys;
        wfs = w.1;
        place = p - n;
        sum = omega arith;
        low = omega arith;
        text =
            ap (take (p - n)) (sym (drop-drop n i t₀)) ∙ take_drop n (p - n) (drop i t₀) ∙ ap (λ k. drop n (take k (drop i t₀))) q ∙ ap (drop n) text
            ∙ ap (λ k. drop n (take k (cells y ++ cells_all ys))) (sym q) ∙ sym (take_drop n (p - n) (cells y ++ cells_all ys))
            ∙ ap (take (p - n)) (drop_at (cells y) (cells_all ys) n l);
        whole =
            ap (λ k. k ++ opened_in ys (p - n)) (take-add i n t ∙ ap (λ k. take i t ++ k) run)
            ∙ append_assoc (take i t) (cells y) (opened_in ys (p - n)) ∙ ap (λ k. take i t ++ k) (sym later) ∙ whole;
      }

  pub open_skip : {n : ℕ} → Passed (get_or t i 0) i at n → Opening t₀ at t (i + n)
  open_skip {n} S = record {
    same = h.same;
    within = S.ends;
    rest = sym (drop-drop n i t) ∙ ap (drop n) h.rest ∙ drop-drop n i t₀;
    is = λ tab x w o q.
        let L = h.is tab x w o q in
        skip_left tab x n S L.terms L.wfs L.place L.sum L.low L.text L.whole;
  }

  -- a node above it loses its size
  node_left : (tab : List ℕ) (x : Term) (c : ℕ) → c ≡ get_or t i 0 % cell_base + cell_base * 0 → Skipped (get_or t i 0) i at None → (ts : Terms) →
      Wfs most_apart tab ts → (p : ℕ) → i + p ≡ at → p < sizes ts → take p (drop i t₀) ≡ take p (cells_all ts) →
      take i t ++ opened_in ts p ≡ opened_to x at → Left tab x at t₀ (set t i c) (i + 1)
  unfolding Wf Wfs size sizes cells cells_all root_byte opened_to opened_in
  node_left tab x c e S nil w p sum low text whole = absurd (omega arith)
  node_left tab x c e S (cons (var v) ys) w p sum low text whole =
      let m = size_there tab (var v) ys w.0 p sum text in
      absurd (⊎_elim (λ s. omega arith) (λ o. omega arith) S)
  node_left tab x c e S (cons (node f us) ys) w zero sum low text whole = absurd (omega arith)
  node_left tab x c e S (cons (node f us) ys) w (suc p) sum low text whole =
      let m = size_there tab (node f us) ys w.0 (suc p) sum text in
      let inside : p < sizes us = ⊎_elim (λ s. absurd (omega arith)) (λ o. omega arith) S in
      let byte : c ≡ f = let b = byte_there tab (node f us) ys w.0 (suc p) sum text in omega arith in
      let path : opened_in (cons (node f us) ys) (suc p) ≡ f ∷ opened_in us p = rw (lt-ltb (suc p) (size (node f us)) (omega arith)) refl in
      let j : 1 + p ≡ suc p = omega arith in
      record {
        terms = us;
        wfs = w.0.2;
        place = p;
        sum = omega arith;
        low = inside;
        text =
            ap (take p) (sym (drop-drop 1 i t₀)) ∙ take_drop 1 p (drop i t₀) ∙ ap (λ k. drop 1 (take k (drop i t₀))) j ∙ ap (drop 1) text
            ∙ take-append-le p (cells_all us) (cells_all ys) (omega (arith, length_cells_all us));
        whole =
            ap (λ k. k ++ opened_in us p) (ap (λ k. take k (set t i c)) (add-one i) ∙ take-suc-set t i c in_range ∙ ap (λ b. take i t ++ (b ∷ [])) byte)
            ∙ append_assoc (take i t) (f ∷ []) (opened_in us p) ∙ ap (λ k. take i t ++ k) (sym path) ∙ whole;
      }

  pub open_node : {c : ℕ} → c ≡ get_or t i 0 % cell_base + cell_base * 0 → Skipped (get_or t i 0) i at None → Opening t₀ at (set t i c) (i + 1)
  open_node {c} e S = record {
    same = length-set t i c ∙ h.same;
    within = omega arith;
    rest = drop-set-lt (i + 1) t i c (omega arith) ∙ sym (drop-drop 1 i t) ∙ ap (drop 1) h.rest ∙ drop-drop 1 i t₀;
    is = λ tab x w o q.
        let L = h.is tab x w o q in
        node_left tab x c e S L.terms L.wfs L.place L.sum L.low L.text L.whole;
  }

module _ (y v : Term) (l : List ℕ) (m : Marked [] l v) where
  mutual
    unfolding plug plugs number numbers behind behinds opened_to opened_in cells_all

    -- what is put for y behind the opened cells
    pub opened_marked : (c : Ctx) → Marked [] (opened_to (plug c y) (number c) ++ (l ++ behind c)) (plug c v)
    opened_marked hole = subst (λ k. Marked [] k v) (sym (ap (λ k. k ++ (l ++ [])) (opened_zero y) ∙ append-nil l)) m
    opened_marked (beneath f cs) = visit refl (opened_marked_in cs)

    opened_marked_in : (cs : Ctxs) → MarkedAll [] (opened_in (plugs cs y) (numbers cs) ++ (l ++ behinds cs)) (plugs cs v)
    opened_marked_in (first c ts) =
        let o = opened_to (plug c y) (number c) in
        let e : o ++ (l ++ (behind c ++ cells_all ts)) ≡ (o ++ (l ++ behind c)) ++ cells_all ts =
        sym (append_assoc o (l ++ behind c) (cells_all ts) ∙ ap (λ k. o ++ k) (append_assoc l (behind c) (cells_all ts))) in
        rw (lt-ltb (number c) (size (plug c y)) (number_lt c y)) (more e (opened_marked c) (sized_all ts))
    opened_marked_in (later t cs) =
        let z : size t + numbers cs - size t ≡ numbers cs = omega arith in
        rw (le-ltb (size t + numbers cs) (size t) (omega arith), z)
        (more (append_assoc (cells t) (opened_in (plugs cs y) (numbers cs)) (l ++ behinds cs)) (sized t) (opened_marked_in cs))

-- there are as many opened cells as places before the node
mutual
  unfolding opened_to opened_in size sizes

  pub opened_length : (x : Term) (p : ℕ) → p < size x → length (opened_to x p) ≡ p
  opened_length (var y) p h = omega arith
  opened_length (node f ts) zero h = refl
  opened_length (node f ts) (suc p) h = ap suc (opened_lengths ts p (omega arith))

  opened_lengths : (ts : Terms) (p : ℕ) → p < sizes ts → length (opened_in ts p) ≡ p
  opened_lengths nil p h = absurd (omega arith)
  opened_lengths (cons t ts) p h =
      elim (dec_lt p (size t)) [
        | yes l ↦ rw (lt-ltb p (size t) l) (opened_length t p l)
        | no l ↦
            rw (le-ltb p (size t) (omega arith))
            (length-append (cells t) (opened_in ts (p - size t)) ∙ omega (arith, length_cells t, opened_lengths ts (p - size t) (omega arith)))
      ]
