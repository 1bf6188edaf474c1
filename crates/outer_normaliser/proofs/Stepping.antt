-- A step at the node that was found, on terms and in cells: it is the definition's, what is put has the next term's bytes, and before the node no rule
-- matches a node that ends there. Assumes nothing.
-- Read first: specs/Outer (Chosen, HoldsClean), redex/proofs/Standing, redex/proofs/Contracting (instance-bytes), rewriting/proofs/Outer (First, first_step).
use mathlib.Core.Path.{◌≡◌, refl, sym, ◌∙◌, ap, ap₂, subst, subst₂}
use mathlib.Core.List.{List, [], ◌++◌, append-nil}
use mathlib.Core.Option.{some}
use Prim.Native.Nat.{ℕ, zero, suc, ◌+◌, ◌-◌, ◌/◌, ◌<◌, ◌≤◌}
use native.Mathlib.Omega.{arith}
use native.Mathlib.Decide.{dec_lt}
use lib.ListN.{length, get_or, take, drop, length-append}
use lib.Seq.{take-add, take_at, drop_at, take-take, get_or-take, length-take-le}
use Rattle.limits.specs.Limits.{most_apart, cell_base}
use Rattle.terms.specs.Term.{Term, size, subterm_at, subterm_in, replace_at}
use Rattle.terms.specs.Flat.{Wf}
use Rattle.terms.proofs.Shape.{none≢some, some_inj}
use Rattle.terms.proofs.Context.{Ctx, Ctxs, hole, beneath, first, later, plug, plugs}
use Rattle.terms.proofs.Places.{number, numbers, number_lt, numbers_lt, size_pos}
use Rattle.terms.proofs.Positions.{in_first, in_later, Found, found}
use Rattle.terms.proofs.Flats.{wf_replace}
use Rattle.rewriting.specs.Overlap.{Rule}
use Rattle.rewriting.specs.Rewrite.{instantiate}
use Rattle.rewriting.specs.Outermost.{step_outer}
use Rattle.rewriting.proofs.Outer.{first_step}
use Rattle.matching.specs.Cells.{cells, Stands}
use Rattle.matching.specs.Held.{Rep}
use Rattle.matching.specs.Pieces.{pieces, replaced}
use Rattle.matching.proofs.Celled.{length_cells, stands_size}
use Rattle.slots.specs.Slots.{slot, right_of}
use Rattle.redex.specs.Contraction.{CellsSized}
use Rattle.redex.specs.Marks.{Marked}
use Rattle.redex.proofs.Parts.{drop_take}
use Rattle.redex.proofs.OneStep.{wf_instance}
use Rattle.redex.proofs.Marking.{marked_length}
use Rattle.redex.proofs.PartSized.{instance_part}
use Rattle.redex.proofs.Standing.{behind, behind_hole, stands_at}
use Rattle.outer_normaliser.specs.Outer.{opened_to, PathOpened, Chosen, HoldsClean}
use Rattle.outer_normaliser.proofs.Opening.{opened_marked, opened_length}

-- what ends before a context's hole stands there whatever is in the hole
mutual
  unfolding plug plugs number numbers size subterm_at

  before_hole : (c : Ctx) (v y : Term) (q : ℕ) (z : Term) → subterm_at (plug c v) q ≡ some z → q + size z ≤ number c → subterm_at (plug c y) q ≡ some z
  before_hole hole v y q z e l = absurd (omega (arith, size_pos z))
  before_hole (beneath f cs) v y zero z e l = absurd (omega (arith, ap size (some_inj e), numbers_lt cs v))
  before_hole (beneath f cs) v y (suc q) z e l = before_hole_in cs v y q z e (omega arith)

  before_hole_in : (cs : Ctxs) (v y : Term) (q : ℕ) (z : Term) → subterm_in (plugs cs v) q ≡ some z → q + size z ≤ numbers cs →
      subterm_in (plugs cs y) q ≡ some z
  before_hole_in (first c ts) v y q z e l =
      let s = size_pos z in
      in_first (plug c y) ts q (omega (arith, number_lt c y))
      ∙ before_hole c v y q z (sym (in_first (plug c v) ts q (omega (arith, number_lt c v))) ∙ e) l
  before_hole_in (later t cs) v y q z e l =
      elim (dec_lt q (size t)) [
        | yes h ↦ in_first t (plugs cs y) q h ∙ sym (in_first t (plugs cs v) q h) ∙ e
        | no h ↦
            let n : q ≡ size t + (q - size t) = omega arith in
            in_later t (plugs cs y) q (q - size t) n
            ∙ before_hole_in cs v y (q - size t) z (sym (in_later t (plugs cs v) q (q - size t) n) ∙ e) (omega arith)
      ]

-- so before a node that was replaced the subterms stand as they did
before_at : (x : Term) (p : ℕ) (y v : Term) → subterm_at x p ≡ some y → (q : ℕ) (z : Term) → subterm_at (replace_at x p v) q ≡ some z → q + size z ≤ p →
    subterm_at x q ≡ some z
before_at x p y v s q z e l =
    let f = found x p y s in
    ap (λ u. subterm_at u q) f.whole
    ∙ before_hole f.c v y q z (sym (ap (λ u. subterm_at u q) (f.replaced v)) ∙ e) (omega (arith, f.counts))

-- the node at `at` and the rule in slot k were found in a term's cells
pub record Ready (tab rules t : List ℕ) (len clean : ℕ) (B : List ℕ) (at k : ℕ) (rs : List Rule) (x : Term) : Type 0 where
  pub few : len ≤ length t
  pub low : at < len
  pub holds : HoldsClean tab rs t len clean x
  pub chosen : Chosen tab rules (take len t) B at k rs x

module _ {tab rules t : List ℕ} {len clean : ℕ} {B : List ℕ} {at k : ℕ} {rs : List Rule} {x : Term} (g : Ready tab rules t len clean B at k rs x) where
  abbrev y : Term
  y = g.chosen.subterm

  abbrev new : Term
  new = instantiate g.chosen.choice.bindings g.chosen.choice.rule.right

  abbrev pub next : Term
  next = replace_at x at new

  pub next_step : step_outer rs x ≡ some next
  next_step = first_step rs x next (record {
    position = at;
    redex = record { subterm = y; stands = g.chosen.stands; rewritten = new; matched = g.chosen.choice.result };
    none_before = λ q h r. none≢some (sym (g.chosen.clean q r.subterm r.stands h) ∙ r.matched);
    result = refl;
  })

  -- the redex in the cells
  place : Found x at y
  place = found x at y g.chosen.stands

  there : Stands tab (take len t) (size x) at y
  there = stands_at tab x [] (take len t) g.holds.wf (g.holds.text ∙ sym (append-nil (cells x))) at y g.chosen.stands

  abbrev T : List ℕ
  T = take (len - at) (drop at t)

  T-is : T ≡ drop at (take len t)
  T-is = let l = g.low in drop_take at len t (omega arith)

  T-text : T ≡ cells y ++ behind place.c
  T-text = T-is ∙ ap₂ drop (sym place.counts) (g.holds.text ∙ ap cells place.whole) ∙ behind_hole place.c y

  there_size : get_or t at 0 / cell_base ≡ size y
  there_size = ap (λ c. c / cell_base) (sym (get_or-take len t at 0 g.low)) ∙ stands_size tab (take len t) (size x) at y there

  pub fits : at + get_or t at 0 / cell_base ≤ len
  fits = omega (arith, there_size, there.inside, length_cells x, ap length g.holds.text, length-take-le len t g.few)

  wf_new : Wf most_apart tab new
  wf_new =
      let c = g.chosen.choice in
      wf_instance tab (drop at (take len t)) (size y) B c.bindings c.held c.rule.right c.place.sides.right_wf

  wf_next : Wf most_apart tab next
  wf_next = wf_replace most_apart tab x g.holds.wf at new wf_new

  -- what is put in its place
  abbrev right : List ℕ
  right = right_of (slot rules k)

  abbrev put : List ℕ
  put = replaced T B right (get_or t at 0 / cell_base)

  put_is : put ≡ pieces T B right ++ behind place.c
  put_is =
      let n = get_or t at 0 / cell_base in
      ap (λ l. pieces T B right ++ l) (ap (drop n) T-text ∙ drop_at (cells y) (behind place.c) n (length_cells y ∙ sym there_size))

  new_marked : Marked [] (pieces T B right) new
  new_marked =
      let c = g.chosen.choice in
      let s = c.place.sides in
      instance_part tab T B y (behind place.c) there.wf T-text c.bindings
      (subst (λ l. Rep tab l (size y) B c.bindings) (sym T-is) c.held) right c.rule.right s.right_wf s.right_bytes

  -- behind the opened cells it makes the next term
  next_marked : Marked [] (opened_to x at ++ put) next
  next_marked =
      let o : opened_to (plug place.c y) (number place.c) ≡ opened_to x at = ap₂ opened_to (sym place.whole) place.counts in
      subst₂ (Marked []) (ap₂ ◌++◌ o (sym put_is)) (sym (place.replaced new)) (opened_marked y new (pieces T B right) new_marked place.c)

  in_term : at < size x
  in_term = let l = g.low in omega (arith, length_cells x, ap length g.holds.text, length-take-le len t g.few)

  pub put_size : at + length put ≡ size next
  put_size = omega (arith, marked_length [] next_marked, length-append (opened_to x at) put, opened_length x at in_term)

  -- the cells before it are those of the term
  pub front : take at t ≡ take at (cells x)
  front = let l = g.low in sym (take-take at len t (omega arith)) ∙ ap (take at) g.holds.text

  pub next_holds : (t₁ t₂ t₃ : List ℕ) (w : ℕ) → w ≡ at + length put → take w t₁ ≡ take at t ++ put → PathOpened t₁ at t₂ →
      CellsSized tab (take w t₂) (take w t₃) → HoldsClean tab rs t₃ w at next
  next_holds t₁ t₂ t₃ w n e O S =
      let a : at ≤ w = omega arith in
      let i : at + (w - at) ≡ w = omega arith in
      let taken : length (take at t) ≡ at = let l = g.low in let f = g.few in length-take-le at t (omega arith) in
      let same : take at t₁ ≡ take at t = sym (take-take at w t₁ a) ∙ ap (take at) e ∙ take_at (take at t) put at taken in
      let opened : take at t₂ ≡ opened_to x at = O.front tab x g.holds.wf in_term (same ∙ front) in
      let later : take (w - at) (drop at t₂) ≡ put =
      ap (take (w - at)) O.rest ∙ drop_take at w t₁ a ∙ ap (drop at) e ∙ drop_at (take at t) put at taken in
      let whole : take w t₂ ≡ opened_to x at ++ put = ap (λ m. take m t₂) (sym i) ∙ take-add at (w - at) t₂ ∙ ap₂ ◌++◌ opened later in
      record {
        wf = wf_next;
        text = S.is next wf_next (subst (λ l. Marked [] l next) (sym whole) next_marked);
        clean_to = λ q z d l. g.chosen.clean q z (before_at x at y new g.chosen.stands q z d l) (omega (arith, size_pos z));
      }
