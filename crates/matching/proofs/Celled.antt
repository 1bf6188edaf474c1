-- A term's cells: one a node; the root's gives its byte and its size; they determine the term. What stands at a place of cells. Assumes nothing.
-- Read first: specs/Cells.
use mathlib.Core.Path.{◌≡◌, refl, sym, ◌∙◌, ap, ap₂}
use mathlib.Core.List.{List, [], ◌∷◌, ◌++◌, map-append}
use Prim.Native.Nat.{ℕ, suc, ◌+◌, ◌-◌, ◌*◌, ◌/◌, ◌%◌, ◌<◌}
use native.Mathlib.Omega.{arith}
use lib.ListN.{length, get_or, drop, take, length-append, length-drop}
use lib.Seq.{take_at, get_or-drop, drop-drop}
use Rattle.terms.specs.Term.{Term, Terms, var, node, nil, cons, term_bytes, terms_bytes, size, sizes}
use Rattle.terms.specs.Flat.{Wf, Wfs}
use Rattle.terms.proofs.Flats.{unique}
use Rattle.matching.specs.Cells.{cells, cells_all, root_byte, cells_below, node_bytes, Stands}

mutual
  unfolding cells size

  pub length_cells : (t : Term) → length (cells t) ≡ size t
  length_cells (var x) = refl
  length_cells (node f ts) = ap suc (length_cells_all ts)

  pub length_cells_all : (ts : Terms) → length (cells_all ts) ≡ sizes ts
  length_cells_all nil = refl
  length_cells_all (cons t ts) = length-append (cells t) (cells_all ts) ∙ ap₂ ◌+◌ (length_cells t) (length_cells_all ts)

-- a cell's byte and size
pub cell_byte : (b n : ℕ) → b < 256 → (b + 256 * n) % 256 ≡ b
cell_byte b n h = omega arith

pub cell_size : (b n : ℕ) → b < 256 → (b + 256 * n) / 256 ≡ n
cell_size b n h = omega arith

-- the root
pub cells_root : (x : Term) → cells x ≡ (root_byte x + 256 * size x) ∷ cells_below x
unfolding cells size root_byte cells_below
cells_root (var x) = refl
cells_root (node f ts) = refl

pub root_low : (tab : List ℕ) (x : Term) → Wf 32 tab x → root_byte x < 256
unfolding root_byte Wf
root_low tab (var x) w = omega arith
root_low tab (node f ts) w = let h : f < 16 = w.0 in omega arith

pub length_below : (x : Term) → suc (length (cells_below x)) ≡ size x
length_below x = sym (ap length (cells_root x)) ∙ length_cells x

-- the bytes of cells
pub bytes_append : (l m : List ℕ) → node_bytes (l ++ m) ≡ node_bytes l ++ node_bytes m
unfolding node_bytes
bytes_append l m = map-append (λ c. c % 256) l m

mutual
  unfolding cells term_bytes node_bytes Wf

  pub bytes_cells : (tab : List ℕ) (x : Term) → Wf 32 tab x → node_bytes (cells x) ≡ term_bytes x
  bytes_cells tab (var x) w = ap (λ z. z ∷ []) (cell_byte (128 + x) 1 (omega arith))
  bytes_cells tab (node f ts) w = ap₂ (λ z l. z ∷ l) (cell_byte f (suc (sizes ts)) (let h : f < 16 = w.0 in omega arith)) (bytes_cells_all tab ts w.2)

  bytes_cells_all : (tab : List ℕ) (ts : Terms) → Wfs 32 tab ts → node_bytes (cells_all ts) ≡ terms_bytes ts
  bytes_cells_all tab nil w = refl
  bytes_cells_all tab (cons t ts) w = bytes_append (cells t) (cells_all ts) ∙ ap₂ ◌++◌ (bytes_cells tab t w.0) (bytes_cells_all tab ts w.1)

pub cells_unique : (tab : List ℕ) (x y : Term) (r s : List ℕ) → Wf 32 tab x → Wf 32 tab y → cells x ++ r ≡ cells y ++ s → x ≡ y
cells_unique tab x y r s w v e =
    let p : (z : Term) (l : List ℕ) → Wf 32 tab z → node_bytes (cells z ++ l) ≡ term_bytes z ++ node_bytes l =
    λ z l h. bytes_append (cells z) l ∙ ap (λ m. m ++ node_bytes l) (bytes_cells tab z h) in
    (unique 32 tab x y (node_bytes r) (node_bytes s) w v (sym (p x r w) ∙ ap node_bytes e ∙ p y s v)).0

-- what stands at k
module _ (tab T : List ℕ) (n k : ℕ) (u : Term) (s : Stands tab T n k u) where
  text_root : drop k T ≡ (root_byte u + 256 * size u) ∷ (cells_below u ++ s.rest)
  text_root = s.text ∙ ap (λ l. l ++ s.rest) (cells_root u)

  pub stands_cell : get_or T k 0 ≡ root_byte u + 256 * size u
  stands_cell = let z : k + 0 ≡ k = omega arith in sym (get_or-drop k T 0 0 ∙ ap (λ m. get_or T m 0) z) ∙ ap (λ l. get_or l 0 0) text_root

  pub stands_byte : get_or T k 0 % 256 ≡ root_byte u
  stands_byte = ap (λ c. c % 256) stands_cell ∙ cell_byte (root_byte u) (size u) (root_low tab u s.wf)

  pub stands_size : get_or T k 0 / 256 ≡ size u
  stands_size = ap (λ c. c / 256) stands_cell ∙ cell_size (root_byte u) (size u) (root_low tab u s.wf)

  pub stands_below : drop (suc k) T ≡ cells_below u ++ s.rest
  stands_below = let z : k + 1 ≡ suc k = omega arith in sym (drop-drop 1 k T ∙ ap (λ m. drop m T) z) ∙ ap (drop 1) text_root

  -- its cells, from its place to its end
  pub stands_run : (m : ℕ) → m ≡ size u → take m (drop k T) ≡ cells u
  stands_run m e = let h : length (cells u) ≡ m = length_cells u ∙ sym e in rw s.text (take_at (cells u) s.rest m h)

  pub stands_length : k < length T → k + size u + length s.rest ≡ length T
  stands_length h =
      let q : length T - k ≡ size u + length s.rest =
      sym (length-drop k T) ∙ ap length s.text ∙ length-append (cells u) s.rest ∙ ap (λ m. m + length s.rest) (length_cells u) in
      omega arith
