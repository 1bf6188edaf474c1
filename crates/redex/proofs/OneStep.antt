-- `rewrite` by its returns: no rule, no unit left, too large, or the instance with what follows; the instance is well-formed. Assumes nothing.
-- Read first: specs/Step (FoundRule, RewritesRoot), matching/specs/Pieces (Put), proofs/Marking.
use mathlib.Core.Path.{◌≡◌, refl, sym, ◌∙◌, ap, ap₂, subst}
use mathlib.Core.Bool.{Bool, true, false}
use mathlib.Core.List.{List, ◌∷◌, ◌++◌}
use mathlib.Core.Option.{Option, none, some}
use Prim.Native.Nat.{ℕ, zero, suc, ◌+◌, ◌-◌, ◌*◌, ◌%◌, ◌<◌, ◌≤◌}
use native.Mathlib.Omega.{arith}
use lib.Dec.{ltb}
use borrow.Author.Tests.{lt-ltb, le-ltb}
use lib.ListN.{length, get_or, drop, take, set, length-set, length-append}
use lib.Seq.{drop_at, take-set-lt}
use Rattle.limits.specs.Limits.{most_apart, most_nodes, most_variables, cell_base}
use Rattle.terms.specs.Term.{Term, size}
use Rattle.terms.specs.Flat.{Wf}
use Rattle.terms.proofs.Flats.{wf_subst_below}
use Rattle.terms.proofs.Shape.{zero≢one}
use Rattle.unify.specs.Unify.{Binding}
use Rattle.rewriting.specs.Overlap.{Rule, sides_of}
use Rattle.rewriting.specs.Rewrite.{bound, bound_or_variable, instantiate, root_step}
use Rattle.rewriting.proofs.Matching.{by}
use Rattle.matching.specs.Cells.{cells, root_byte, cells_below, Stands}
use Rattle.matching.specs.Held.{Slot, Rep}
use Rattle.std.specs.Prelude.{Option as Optional, Some, None}
use Rattle.matching.specs.Pieces.{Put, PutUpTo, pieces, replaced}
use Rattle.matching.proofs.Celled.{length_cells, cells_root, root_low}
use Rattle.matching.proofs.Replacing.{take_less_zero}
use Rattle.slots.specs.Slots.{slot, right_of, Stored}
use Rattle.redex.specs.Marks.{Marked, ArgumentsNormal, open_cells}
use Rattle.redex.specs.Step.{Choice, FoundRule, out, StepTested, Wrote, RewritesRoot}
use Rattle.redex.specs.declared.Out.{Out}
use Rattle.redex.specs.declared.Step.{Step}
use Rattle.redex.specs.declared.Step.TheVariants.{Normal, Rewritten, Spent, TooLarge}
use Rattle.redex.proofs.Marking.{instance_marked, marked_length}
use Rattle.redex.proofs.Parts.{head_of}

-- an instance is well-formed
slot_wf : (tab T : List ℕ) (n x : ℕ) → x < most_variables → (k : ℕ) (o : Option Term) → Slot tab T n k o → Wf most_apart tab (bound_or_variable x o)
unfolding bound_or_variable Wf
slot_wf tab T n x h zero none s = omega arith
slot_wf tab T n x h zero (some u) s = absurd s
slot_wf tab T n x h (suc k) none s = absurd s
slot_wf tab T n x h (suc k) (some u) s = s.wf

pub wf_instance : (tab T : List ℕ) (n : ℕ) (B : List ℕ) (bs : List Binding) → Rep tab T n B bs → (r : Term) → Wf most_variables tab r →
    Wf most_apart tab (instantiate bs r)
unfolding instantiate
wf_instance tab T n B bs rep r w =
    wf_subst_below most_variables most_apart tab (by bs) (λ x h. slot_wf tab T n x h (get_or B x 0) (bound bs x) (rep x h)) r w

-- the root's cell with its size
rooted : (tab t : List ℕ) (len end c : ℕ) (x : Term) (post : List ℕ) → 0 < len → c ≡ get_or t 0 0 % cell_base + cell_base * end → Wf most_apart tab x →
    take len t ≡ open_cells x ++ post → end ≡ size x → take len (set t 0 c) ≡ cells x ++ post
unfolding open_cells
rooted tab t len end c x post h e w b d =
    let g : get_or t 0 0 ≡ root_byte x = head_of t len 0 (root_byte x) (cells_below x ++ post) b in
    let l : root_byte x < cell_base = root_low tab x w in
    let q : c ≡ root_byte x + cell_base * size x = omega arith in
    take-set-lt len t 0 c h ∙ ap (λ l. set l 0 c) b ∙ ap (λ z. z ∷ (cells_below x ++ post)) q ∙ ap (λ l. l ++ post) (sym (cells_root x))

-- the root's cell c has the size, and `find` answered o
pub record Tried (rules t : List ℕ) (number len end most : ℕ) (o : Optional ℕ) (B : List ℕ) (c : ℕ) : Type 0 where
  pub cell : c ≡ get_or t 0 0 % cell_base + cell_base * end
  pub binds : List ℕ
  pub found : FoundRule rules (take len (set t 0 c)) number o binds B
  pub some_cell : 0 < end
  pub ends : end ≤ len
  pub small : len ≤ most

pub tries : {rules t : List ℕ} {number len end most : ℕ} {o : Optional ℕ} {B₀ B : List ℕ} {c : ℕ} → c ≡ get_or t 0 0 % cell_base + cell_base * end →
    (0 < end) × (end ≤ len) × (len ≤ most) × (most ≤ length t) × (most ≤ most_nodes) → FoundRule rules (take (len - 0) (set t 0 c)) number o B₀ B →
    Tried rules t number len end most o B c
tries {rules} {t} {number} {len} {o = o} {B₀} {B} {c} e p f = record {
  cell = e;
  binds = B₀;
  found = subst (λ l. FoundRule rules l number o B₀ B) (take_less_zero len (set t 0 c)) f;
  some_cell = p.0;
  ends = p.1;
  small = p.2;
}

-- what stands there: the rules in their slots, and a term whose arguments are normal
record Given (rules t : List ℕ) (number len end : ℕ) (tab : List ℕ) (rs : List Rule) (x : Term) (post : List ℕ) : Type 0 where
  stored : Stored tab rules 0 (sides_of rs)
  counts : number ≡ length rs
  wf : Wf most_apart tab x
  text : take len t ≡ open_cells x ++ post
  ends : end ≡ size x
  normal : ArgumentsNormal rs x

module _ {rules t : List ℕ} {number len end most : ℕ} {o : Optional ℕ} {B : List ℕ} {c : ℕ} (g : Tried rules t number len end most o B c) where
  abbrev T : List ℕ
  T = take len (set t 0 c)

  abbrev Answer : List ℕ → ℕ → Out → Type 0
  Answer t' units o = (tab : List ℕ) (rs : List Rule) (x : Term) (post : List ℕ) → Given rules t number len end tab rs x post →
      Wrote tab rs t' x post most units o (root_step rs x)

  -- no step: the length and the end stay
  stays : {t' : List ℕ} {v : Step} {u units : ℕ} → length t' ≡ length t → (v ≡ Rewritten → ⊥) → u ≤ units →
      Answer t' units (out v u len end) → RewritesRoot rules number t t' len end most units (out v u len end)
  stays s l h a = record {
    same = s;
    ends = g.ends;
    small = g.small;
    left_over = h;
    paid = λ z. absurd (l z);
    place = λ z. (refl, refl);
    answer = λ tab rs st n x post w b d nb. a tab rs x post (record { stored = st; counts = n; wf = w; text = b; ends = d; normal = nb });
  }

  module _ {tab : List ℕ} {rs : List Rule} {x : Term} {post : List ℕ} (i : Given rules t number len end tab rs x post) where
    sized : T ≡ cells x ++ post
    sized = rooted tab t len end c x post (let p = g.some_cell in let q = g.ends in omega arith) g.cell i.wf i.text i.ends

    stands : Stands tab T (size x) 0 x
    stands = record { wf = i.wf; rest = post; text = sized; inside = omega arith }

pub step_none : {rules t : List ℕ} {number len end most : ℕ} {B : List ℕ} {c units : ℕ} → Tried rules t number len end most None B c →
    RewritesRoot rules number t (set t 0 c) len end most units (out Normal units len end)
step_none {rules} {t} {number} {len} {end} {most} {B} {c} {units} g =
    stays g (length-set t 0 c) (λ z. zero≢one (cc)) (omega arith) λ tab rs x post i.
    subst (λ y. Wrote tab rs (set t 0 c) x post most units (out Normal units len end) y)
    (sym (g.found.found tab rs i.stored i.counts x (stands g i))) (refl, refl, sized g i)

module _ {rules t : List ℕ} {number len end most k : ℕ} {B : List ℕ} {c : ℕ} (g : Tried rules t number len end most (Some k) B c) where
  abbrev right : List ℕ
  right = right_of (slot rules k)

  module _ {tab : List ℕ} {rs : List Rule} {x : Term} {post : List ℕ} (i : Given rules t number len end tab rs x post) where
    chosen : Choice tab rules (T g) B k x (root_step rs x)
    chosen = g.found.found.lowest tab rs i.stored i.counts x (stands g i)

    -- the right side's instance is put in the redex's place
    abbrev new : Term
    new = instantiate chosen.bindings chosen.rule.right

    marks : Marked rs (pieces (T g) B right) new
    marks =
        let h = chosen in
        let s = h.place.sides in
        instance_marked rs tab (T g) B x post i.wf (sized g i) i.normal h.bindings h.held right h.rule.right s.right_wf s.right_bytes

    rest : drop end (T g) ≡ post
    rest = ap (drop end) (sized g i) ∙ drop_at (cells x) post end (length_cells x ∙ sym i.ends)

    put_length : length (replaced (T g) B right end) ≡ size new + length post
    put_length = length-append (pieces (T g) B right) (drop end (T g)) ∙ ap₂ ◌+◌ (marked_length rs marks) (ap length rest)

    tested : (t' : List ℕ) (m : ℕ) (o : Out) (a : Bool) → ltb most (size new + length post) ≡ a → StepTested tab rs t' post m o new a →
        Wrote tab rs t' x post most (suc m) o (root_step rs x)
    tested t' m o a e s =
        subst (λ y. Wrote tab rs t' x post most (suc m) o y) (sym chosen.result) (subst (λ a. StepTested tab rs t' post m o new a) (sym e) s)

    large : (t' : List ℕ) (m : ℕ) → most < length (replaced (T g) B right end) →
        Wrote tab rs t' x post most (suc m) (out TooLarge m len end) (root_step rs x)
    large t' m l = tested t' m (out TooLarge m len end) true (lt-ltb most (size new + length post) (omega (arith, put_length))) (refl, refl)

    done : (t' : List ℕ) (m v : ℕ) → PutUpTo (set t 0 c) t' 0 most v (replaced (T g) B right end) →
        Wrote tab rs t' x post most (suc m) (out Rewritten m v 0) (root_step rs x)
    done t' m v p = tested t' m (out Rewritten m v 0) false (le-ltb most (size new + length post) (omega (arith, p.room, p.next, put_length))) (
      refl,
      refl,
      record {
        wf = wf_instance tab (T g) (size x) B chosen.bindings chosen.held chosen.rule.right chosen.place.sides.right_wf;
        marks = pieces (T g) B right;
        marked = marks;
        text = p.cells ∙ ap (λ z. pieces (T g) B right ++ z) rest;
      },
    )

  pub step_spent : {units : ℕ} → units ≡ 0 → RewritesRoot rules number t (set t 0 c) len end most units (out Spent 0 len end)
  step_spent {units} u = stays g (length-set t 0 c) (λ z. zero≢one (cc)) (omega arith) λ tab rs x post i.
      let h = chosen i in
      subst (λ y. Wrote tab rs (set t 0 c) x post most units (out Spent 0 len end) y) (sym h.result)
      (subst (λ m. Wrote tab rs (set t 0 c) x post most m (out Spent 0 len end) (some (instantiate h.bindings h.rule.right))) (sym u) (refl, refl))

  module _ {t' : List ℕ} where
    pub step_large : {units : ℕ} → Put (set t 0 c) t' 0 most None (replaced (T g) B right end) → (units ≡ 0 → ⊥) →
        RewritesRoot rules number t t' len end most units (out TooLarge (units - 1) len end)
    step_large {units = zero} p u = absurd (u refl)
    step_large {units = suc m} p u =
        let q : m ≡ suc m - 1 = omega arith in
        subst (λ z. RewritesRoot rules number t t' len end most (suc m) (out TooLarge z len end)) q
        (stays g (p.same ∙ length-set t 0 c) (λ z. zero≢one (cc)) (omega arith) λ tab rs x post i. large i t' m (let h = p.is in omega arith))

    pub step_done : {units v : ℕ} → Put (set t 0 c) t' 0 most (Some v) (replaced (T g) B right end) → (units ≡ 0 → ⊥) →
        RewritesRoot rules number t t' len end most units (out Rewritten (units - 1) v 0)
    step_done {units = zero} p u = absurd (u refl)
    step_done {units = suc m} {v = v} p u =
        let q : m ≡ suc m - 1 = omega arith in
        subst (λ z. RewritesRoot rules number t t' len end most (suc m) (out Rewritten z v 0)) q (record {
          same = p.same ∙ length-set t 0 c;
          ends = omega arith;
          small = p.is.room;
          left_over = omega arith;
          paid = λ z. omega arith;
          place = λ z. absurd (z refl);
          answer = λ tab rs st n x post w b d nb.
              let i : Given rules t number len end tab rs x post = record { stored = st; counts = n; wf = w; text = b; ends = d; normal = nb } in
              done i t' m v p.is;
        })
