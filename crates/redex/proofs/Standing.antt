-- A subterm's cells stand at its position among the cells of its term, and no other term stands there. Assumes nothing.
-- Read first: matching/specs/Cells (Stands), terms/proofs/Context (plug), terms/proofs/Positions (found).
use mathlib.Core.Path.{◌≡◌, refl, sym, ◌∙◌, ap, ap₂}
use mathlib.Core.List.{List, [], ◌++◌, append_assoc, append-nil}
use mathlib.Core.Option.{some}
use Prim.Native.Nat.{ℕ, ◌+◌, ◌-◌, ◌<◌, ◌≤◌}
use native.Mathlib.Omega.{arith}
use lib.ListN.{length, drop, length-append}
use lib.Seq.{drop-drop, drop-append-add}
use Rattle.limits.specs.Limits.{most_apart}
use Rattle.terms.specs.Term.{Term, size, term_bytes, subterm_at}
use Rattle.terms.specs.Flat.{Wf}
use Rattle.terms.proofs.Bytes.{around, length_bytes}
use Rattle.terms.proofs.Context.{Ctx, Ctxs, hole, beneath, first, later, plug, plugs}
use Rattle.terms.proofs.Places.{number, numbers, place}
use Rattle.terms.proofs.Positions.{found, subterm_is}
use Rattle.terms.proofs.Flats.{wf_subterm}
use Rattle.matching.specs.Cells.{cells, cells_all, Stands}
use Rattle.matching.proofs.Celled.{length_cells, cells_unique}

-- the cells behind a context's hole
unfoldable mutual
  pub behind : Ctx → List ℕ
  behind hole = []
  behind (beneath f cs) = behinds cs

  pub behinds : Ctxs → List ℕ
  behinds (first c ts) = behind c ++ cells_all ts
  behinds (later t cs) = behinds cs

-- from the hole on: the cells of what stands in it, and those
mutual
  unfolding plug plugs number numbers cells behind behinds

  from_hole : (c : Ctx) (y : Term) (post : List ℕ) → drop (number c) (cells (plug c y) ++ post) ≡ cells y ++ (behind c ++ post)
  from_hole hole y post = refl
  from_hole (beneath f cs) y post = from_hole_in cs y post

  from_hole_in : (cs : Ctxs) (y : Term) (post : List ℕ) → drop (numbers cs) (cells_all (plugs cs y) ++ post) ≡ cells y ++ (behinds cs ++ post)
  from_hole_in (first c ts) y post =
      ap (drop (number c)) (append_assoc (cells (plug c y)) (cells_all ts) post) ∙ from_hole c y (cells_all ts ++ post)
      ∙ ap (λ l. cells y ++ l) (sym (append_assoc (behind c) (cells_all ts) post))
  from_hole_in (later t cs) y post =
      let n : size t + numbers cs ≡ length (cells t) + numbers cs = omega (arith, length_cells t) in
      ap₂ drop n (append_assoc (cells t) (cells_all (plugs cs y)) post) ∙ drop-append-add (cells t) (cells_all (plugs cs y) ++ post) (numbers cs)
      ∙ from_hole_in cs y post

pub behind_hole : (c : Ctx) (y : Term) → drop (number c) (cells (plug c y)) ≡ cells y ++ behind c
behind_hole c y =
    ap (drop (number c)) (sym (append-nil (cells (plug c y)))) ∙ from_hole c y [] ∙ ap (λ l. cells y ++ l) (append-nil (behind c))

module _ (tab : List ℕ) (x : Term) (post T : List ℕ) (w : Wf most_apart tab x) (text : T ≡ cells x ++ post) where
  -- the subterm at p stands there
  pub stands_at : (p : ℕ) (y : Term) → subterm_at x p ≡ some y → Stands tab T (size x) p y
  stands_at p y e =
      let f = found x p y e in
      let r = around x p y e in
      record {
        wf = wf_subterm most_apart tab x p y w e;
        rest = behind f.c ++ post;
        text = ap₂ drop (sym f.counts) (text ∙ ap (λ z. cells z ++ post) f.whole) ∙ from_hole f.c y post;
        inside = omega (
          arith,
          r.begins,
          ap length r.holds,
          length-append r.before (term_bytes y ++ r.after),
          length-append (term_bytes y) r.after,
          length_bytes x,
          length_bytes y,
        );
      }

  -- and what stands at p is the subterm
  pub stands_is : (n p : ℕ) (u : Term) → p < size x → Stands tab T n p u → subterm_at x p ≡ some u
  stands_is n p u h s =
      let e = subterm_is x p h in
      let y = (place x p h).s in
      let r = stands_at p y e in
      e ∙ ap some (cells_unique tab y u r.rest s.rest r.wf s.wf (sym r.text ∙ s.text))

-- what begins inside another term ends there
pub stands_inside : {tab T : List ℕ} {n m p q : ℕ} {y z : Term} → Stands tab T n p y → Stands tab T m q z → p ≤ q → q < p + size y → q + size z ≤ p + size y
stands_inside {tab} {T} {p = p} {q} {y} {z} a b h k =
    let e : p + (q - p) ≡ q = omega arith in
    let text : drop (q - p) (drop p T) ≡ cells z ++ b.rest = drop-drop (q - p) p T ∙ ap (λ j. drop j T) e ∙ b.text in
    let s : Stands tab (drop p T) (q - p + size z) (q - p) z = record { wf = b.wf; rest = b.rest; text = text; inside = omega arith } in
    let i = stands_is tab y a.rest (drop p T) a.wf a.text _ (q - p) z (omega arith) s in
    omega (arith, (stands_at tab y a.rest (drop p T) a.wf a.text (q - p) z i).inside)
