-- `terms_take` and `size_cells` by their turns: the cells behind a node begin with those of its arguments, and these have as many nodes as the node's
-- subterm, but for the node; a size that is there already is right. Assumes nothing.
-- Read first: specs/Contraction (TermsTake, CellsSized), matching/proofs/Celled, proofs/Standing (stands_at).
use mathlib.Core.Path.{◌≡◌, refl, sym, ◌∙◌, ap, ap₂}
use mathlib.Core.List.{List, [], ◌∷◌, ◌++◌, append_assoc, append-nil}
use mathlib.Core.Logic.{⊎_elim}
use Prim.Native.Nat.{ℕ, zero, suc, ◌+◌, ◌-◌, ◌*◌, ◌/◌, ◌%◌, ◌<◌, ◌≤◌}
use Rattle.std.specs.Prelude.{min}
use native.Mathlib.Omega.{arith}
use native.Mathlib.Numerals.{add-one}
use native.Mathlib.Decide.{dec_lt}
use lib.ListN.{length, length-append, length-map, length-set, get_or, take, drop, set, drop_of_length-le, get_or-map}
use lib.Seq.{drop_at, drop-cons, drop-drop, drop-length, drop-set-lt, get_or-set_same, get_or-take, map-set_same, take-set-le, take-take}
use Rattle.limits.specs.Limits.{most_apart, first_variable, cell_base}
use Rattle.terms.specs.Term.{Term, Terms, var, node, nil, cons, size, sizes, count}
use Rattle.terms.specs.Scan.{owes}
use Rattle.terms.specs.Flat.{Wf, Wfs}
use Rattle.terms.proofs.Places.{size_pos, place}
use Rattle.terms.proofs.Positions.{subterm_is}
use Rattle.terms.proofs.Scans.{owes_symbol, owes_other}
use Rattle.terms.proofs.Starts.{from, from_drop}
use Rattle.matching.specs.Cells.{cells, cells_all, root_byte, cells_below, node_bytes, Stands}
use Rattle.matching.proofs.Celled.{length_cells, length_cells_all, bytes_cells, stands_cell, stands_byte, stands_size, stands_below}
use Rattle.redex.specs.Contraction.{TermsTake, OpenPlaces, CellsSized}
use Rattle.redex.specs.Marks.{Marked}
use Rattle.redex.proofs.Marking.{marked_length, marked_bytes}
use Rattle.redex.proofs.PartSized.{marked_cell}
use Rattle.redex.proofs.Standing.{stands_at}

-- `terms_take`: k of the terms are left, behind e cells
pub record TermsLeft (tab t : List ℕ) (ts : Terms) (rest : List ℕ) (k e : ℕ) : Type 0 where
  pub left : Terms
  pub wfs : Wfs most_apart tab left
  pub number : count left ≡ k
  pub sum : e + sizes left ≡ sizes ts
  pub text : drop e t ≡ cells_all left ++ rest

pub record Taking (t : List ℕ) (n k e : ℕ) : Type 0 where
  pub is : (tab : List ℕ) (ts : Terms) (rest : List ℕ) → Wfs most_apart tab ts → count ts ≡ n → t ≡ cells_all ts ++ rest → TermsLeft tab t ts rest k e

pub take_start : (t : List ℕ) (n : ℕ) → Taking t n (n - 0) 0
take_start t n = record { is = λ tab ts rest w c e. record { left = ts; wfs = w; number = omega arith; sum = omega arith; text = e } }

-- one term more
next_left : (tab t : List ℕ) (ts : Terms) (rest : List ℕ) (k e n : ℕ) → n ≡ get_or t e 0 / cell_base → (us : Terms) → Wfs most_apart tab us →
    count us ≡ k + 1 → e + sizes us ≡ sizes ts → drop e t ≡ cells_all us ++ rest → TermsLeft tab t ts rest k (e + n)
unfolding count sizes cells_all Wfs
next_left tab t ts rest k e n q nil w c s x = absurd (omega arith)
next_left tab t ts rest k e n q (cons y ys) w c s x =
    let text : drop e t ≡ cells y ++ (cells_all ys ++ rest) = x ∙ append_assoc (cells y) (cells_all ys) rest in
    let st : Stands tab t (e + size y) e y = record { wf = w.0; rest = cells_all ys ++ rest; text = text; inside = omega arith } in
    let z : n ≡ size y = q ∙ stands_size tab t (e + size y) e y st in
    record {
      left = ys;
      wfs = w.1;
      number = omega arith;
      sum = omega arith;
      text = sym (drop-drop n e t) ∙ ap (drop n) text ∙ drop_at (cells y) (cells_all ys ++ rest) n (length_cells y ∙ sym z);
    }

-- only no terms have no nodes
some_size : (us : Terms) → (count us ≡ 0 → ⊥) → 0 < sizes us
unfolding count sizes
some_size nil z = absurd (z refl)
some_size (cons y ys) z = omega (arith, size_pos y)

none_size : (us : Terms) → count us ≡ 0 → sizes us ≡ 0
unfolding count sizes
none_size nil c = refl
none_size (cons y ys) c = absurd (omega arith)

module _ {t : List ℕ} {n k e : ℕ} (h : Taking t n k e) where
  pub take_more : (j : ℕ) → k ≡ j + 1 → (m : ℕ) → m ≡ get_or t e 0 / cell_base → Taking t n j (e + m)
  take_more j z m q = record {
    is = λ tab ts rest w c x.
        let l = h.is tab ts rest w c x in
        next_left tab t ts rest j e m q l.left l.wfs (l.number ∙ z) l.sum l.text;
  }

  -- some terms are left, and no cell
  pub take_cut : (k ≡ 0 → ⊥) → length t ≤ e → TermsTake t n (length t)
  take_cut z o = record {
    within = omega arith;
    is = λ tab ts rest w c x.
        let l = h.is tab ts rest w c x in
        let a = ap length (sym (drop_of_length-le t o) ∙ l.text) in
        let b = some_size l.left (λ y. z (sym l.number ∙ y)) in
        absurd (omega (arith, a, length-append (cells_all l.left) rest, length_cells_all l.left));
  }

  taken : k ≡ 0 → (tab : List ℕ) (ts : Terms) (rest : List ℕ) → Wfs most_apart tab ts → count ts ≡ n → t ≡ cells_all ts ++ rest → e ≡ sizes ts
  taken z tab ts rest w c x =
      let l = h.is tab ts rest w c x in
      omega (arith, l.sum, none_size l.left (l.number ∙ z))

  pub take_all : k ≡ 0 → (r : ℕ) → r ≡ min e (length t) → TermsTake t n r
  take_all z r q = record {
    within = omega arith;
    is = λ tab ts rest w c x.
        omega (arith, taken z tab ts rest w c x, ap length x, length-append (cells_all ts) rest, length_cells_all ts);
  }

-- a cell has one byte
pub bytes_length : (l : List ℕ) → length (node_bytes l) ≡ length l
unfolding node_bytes
bytes_length l = length-map l (λ c. c % cell_base)

pub bytes_at : (l : List ℕ) (i : ℕ) → get_or (node_bytes l) i 0 ≡ get_or l i 0 % cell_base
unfolding node_bytes
bytes_at l i = get_or-map (λ c. c % cell_base) l i 0

-- `size_cells`: the cells from i on have their sizes
pub record SizedFrom (tab t₀ t : List ℕ) (i : ℕ) : Type 0 where
  pub same : length t ≡ length t₀
  pub place_is : i ≤ length t
  pub bytes : node_bytes t ≡ node_bytes t₀
  pub front : take i t ≡ take i t₀
  pub is : (x : Term) → Wf most_apart tab x → Marked [] t₀ x → drop i t ≡ drop i (cells x)

-- a term's cells are as many, with or without sizes
cells_many : {t : List ℕ} {x : Term} → Marked [] t x → length (cells x) ≡ length t
cells_many {x = x} m = length_cells x ∙ sym (marked_length [] m)

pub size_start : (tab t : List ℕ) → SizedFrom tab t t (length t)
size_start tab t = record {
  same = refl;
  place_is = omega arith;
  bytes = refl;
  front = refl;
  is = λ x w m. drop-length t ∙ sym (drop_of_length-le (cells x) {i = length t} (omega (arith, cells_many m)));
}

-- cells that are right are passed
right_down : (t c : List ℕ) (j d i : ℕ) → i ≡ j + d → length c ≡ length t → i ≤ length t → drop i t ≡ drop i c →
    ((q : ℕ) → j ≤ q → q < i → get_or t q 0 ≡ get_or c q 0) → drop j t ≡ drop j c
right_down t c j zero i e n l s f = let z : i ≡ j = omega arith in rw z at s
right_down t c j (suc d) i e n l s f =
    let k : suc j + d ≡ i = omega arith in
    drop-cons t j 0 (omega arith)
    ∙ ap₂ (λ a m. a ∷ m) (f j (omega arith) (omega arith)) (right_down t c (suc j) d i (sym k) n l s (λ q g h. f q (omega arith) h))
    ∙ sym (drop-cons c j 0 (omega arith))

-- the cells from j to i had their sizes when they were given
pub size_down : {tab t₀ t : List ℕ} {i : ℕ} → SizedFrom tab t₀ t i → (j : ℕ) → j ≤ i →
    ((x : Term) → Wf most_apart tab x → Marked [] t₀ x → (q : ℕ) → j ≤ q → q < i → cell_base ≤ get_or t₀ q 0) → SizedFrom tab t₀ t j
size_down {tab} {t₀} {t} {i} h j l f = record {
  same = h.same;
  place_is = let p = h.place_is in omega arith;
  bytes = h.bytes;
  front = sym (take-take j i t l) ∙ ap (take j) h.front ∙ take-take j i t₀ l;
  is = λ x w m.
      right_down t (cells x) j (i - j) i (omega arith) (cells_many m ∙ sym h.same) h.place_is (h.is x w m) λ q a b.
      let given : get_or t q 0 ≡ get_or t₀ q 0 = sym (get_or-take i t q 0 b) ∙ ap (λ l. get_or l q 0) h.front ∙ get_or-take i t₀ q 0 b in
      let p = h.place_is in
      let s = h.same in
      let g = f x w m q a b in
      given ∙ ⊎_elim (λ u. absurd (omega arith)) (λ e. e) (marked_cell tab m w q (omega arith));
}

-- the node at j, behind which all have their sizes: its byte is b, it owes n terms, and these end e cells behind it: it gets the cell c
module _
    {tab t₀ t : List ℕ} (j : ℕ) (h : SizedFrom tab t₀ t (j + 1)) {b n e c : ℕ} (byte : b ≡ get_or t j 0 % cell_base) (owed : n ≡ owes tab b)
    (T : TermsTake (from t (j + 1)) n e) (cell : c ≡ get_or t j 0 % cell_base + cell_base * (e + 1)) where
  below : j < length t
  below = let p = h.place_is in omega arith

  later_cells : (x : Term) → Wf most_apart tab x → Marked [] t₀ x → drop (suc j) t ≡ drop (suc j) (cells x)
  later_cells x w m = rw (add-one j) at (h.is x w m)

  behind : from t (j + 1) ≡ drop (suc j) t
  behind = from_drop t (j + 1) ∙ ap (λ m. drop m t) (add-one j)

  -- the size of y, which stands there
  there_size : (y : Term) (rest : List ℕ) → Wf most_apart tab y → b ≡ root_byte y → drop (suc j) t ≡ cells_below y ++ rest → e + 1 ≡ size y
  unfolding root_byte cells_below cells_all size count Wf Wfs
  there_size (var v) rest w q d =
      let o : n ≡ 0 = owed ∙ ap (owes tab) q ∙ owes_other tab (first_variable + v) (omega arith) in
      omega (arith, T.is tab nil rest tt (sym o) (behind ∙ d))
  there_size (node f ts) rest w q d =
      let o : n ≡ count ts = owed ∙ ap (owes tab) q ∙ owes_symbol tab f w.0 ∙ sym w.1 in
      omega (arith, T.is tab ts rest w.2 (sym o) (behind ∙ d))

  there_cells : (x : Term) → Wf most_apart tab x → Marked [] t₀ x → drop j (set t j c) ≡ drop j (cells x)
  there_cells x w m =
      let whole : node_bytes t ≡ node_bytes (cells x) = h.bytes ∙ marked_bytes [] tab m w ∙ sym (bytes_cells tab x w) in
      let long : length (cells x) ≡ length t = cells_many m ∙ sym h.same in
      let low : j < size x = let l = below in omega (arith, length_cells x) in
      let y = (place x j low).s in
      let s = stands_at tab x [] (cells x) w (sym (append-nil (cells x))) j y (subterm_is x j low) in
      let first : get_or t j 0 % cell_base ≡ root_byte y =
      sym (bytes_at t j) ∙ ap (λ l. get_or l j 0) whole ∙ bytes_at (cells x) j ∙ stands_byte tab (cells x) (size x) j y s in
      let a = there_size y s.rest s.wf (byte ∙ first) (later_cells x w m ∙ stands_below tab (cells x) (size x) j y s) in
      let g : c ≡ get_or (cells x) j 0 = omega (arith, stands_cell tab (cells x) (size x) j y s) in
      drop-cons (set t j c) j 0 (let l = below in omega (arith, length-set t j c))
      ∙ ap₂ (λ a l. a ∷ l) (get_or-set_same t j c 0 below ∙ g) (drop-set-lt (suc j) t j c (omega arith) ∙ later_cells x w m)
      ∙ sym (drop-cons (cells x) j 0 (let l = below in omega arith))

  size_turn : SizedFrom tab t₀ (set t j c) j
  unfolding node_bytes
  size_turn = record {
    same = length-set t j c ∙ h.same;
    place_is = let l = below in omega (arith, length-set t j c);
    bytes = map-set_same (λ c. c % cell_base) t j c 0 (let m : c % cell_base ≡ get_or t j 0 % cell_base = omega arith in m) ∙ h.bytes;
    front =
        let l : j ≤ j + 1 = omega arith in
        take-set-le j t j c (omega arith) ∙ sym (take-take j (j + 1) t l) ∙ ap (take j) h.front ∙ take-take j (j + 1) t₀ l;
    is = there_cells;
  }

-- of the open places the first k are left
pub record SizedBelow (tab t₀ places t : List ℕ) (k : ℕ) : Type 0 where
  pub from_there : ℕ
  pub sized : SizedFrom tab t₀ t from_there
  pub before : (j : ℕ) → j < k → get_or places j 0 < from_there
  pub others : (x : Term) → Wf most_apart tab x → Marked [] t₀ x → (q : ℕ) → q < from_there → get_or t₀ q 0 < cell_base →
      (j : ℕ) × (j < k) × (get_or places j 0 ≡ q)

pub below_start : (tab t : List ℕ) {places places' : List ℕ} {r : ℕ} → OpenPlaces t places places' r → SizedBelow tab t places' t r
below_start tab t P = record { from_there = length t; sized = size_start tab t; before = P.below; others = P.all tab }

pub below_done : {tab t₀ places t : List ℕ} {k : ℕ} → k ≡ 0 → SizedBelow tab t₀ places t k → CellsSized tab t₀ t
below_done {t₀ = t₀} z h =
    let s = size_down h.sized 0 (omega arith) λ x w m q a b.
    elim (dec_lt (get_or t₀ q 0) cell_base) [
      | yes u ↦ absurd (let o = h.others x w m q b u in omega (arith, o.1))
      | no u ↦ omega arith
    ] in
    record { same = s.same; is = s.is }

-- the last place that is left, p
module _
    {tab t₀ places₀ places t : List ℕ} {r k : ℕ} (P : OpenPlaces t₀ places₀ places r) (h : SizedBelow tab t₀ places t k) (some_left : 0 < k) (few : k ≤ r)
    (p : ℕ) (is : p ≡ get_or places (k - 1) 0) where
  -- another one is before it
  earlier : (j : ℕ) → j < k → get_or places j 0 < p + 1
  earlier j l =
      elim (dec_lt j (k - 1)) [
        | yes o ↦ let g = P.ascending j (k - 1) o (omega arith) in omega arith
        | no o ↦ let i : j ≡ k - 1 = omega arith in omega (arith, ap (λ j. get_or places j 0) i)
      ]

  behind_last : SizedFrom tab t₀ t (p + 1)
  behind_last = size_down h.sized (p + 1) (let b = h.before (k - 1) (omega arith) in omega arith) λ x w m q a b.
      elim (dec_lt (get_or t₀ q 0) cell_base) [
        | yes u ↦ let (j, l, e) = h.others x w m q b u in absurd (let g = earlier j l in omega arith)
        | no u ↦ omega arith
      ]

  pub below_turn : {b n e c : ℕ} → b ≡ get_or t p 0 % cell_base → n ≡ owes tab b → TermsTake (from t (p + 1)) n e →
      c ≡ get_or t p 0 % cell_base + cell_base * (e + 1) → SizedBelow tab t₀ places (set t p c) (k - 1)
  below_turn byte owed T cell = record {
    from_there = p;
    sized = size_turn p behind_last byte owed T cell;
    before = λ j l. let g = P.ascending j (k - 1) l (omega arith) in omega arith;
    others = λ x w m q l u.
        let (j, o, e) = h.others x w m q (let b = h.before (k - 1) (omega arith) in omega arith) u in
        let i : j ≡ k - 1 → ⊥ = λ i. omega (arith, ap (λ j. get_or places j 0) i) in
        (j, omega arith, e);
  }
