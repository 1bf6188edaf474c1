-- The turns of `normalise_in`: normalising the term at hand, with the units left, comes to what was asked; and a lemma for each return. Assumes nothing.
-- Read first: specs/Settled (Settled), redex/specs/Step (CellsHold, RewritesRoot), redex/specs/Marks, proofs/Sequence, redex/proofs/Parts.
use mathlib.Core.Path.{◌≡◌, refl, sym, ◌∙◌, ap, ap₂, subst}
use mathlib.Core.Bool.{Bool, true, false}
use mathlib.Core.List.{List, [], ◌∷◌, ◌++◌}
use mathlib.Core.Logic.{◌⊎◌, inl, inr}
use mathlib.Core.Option.{Option, none, some}
use Prim.Native.Nat.{ℕ, zero, suc, ◌+◌, ◌-◌, ◌*◌, ◌/◌, ◌%◌, ◌<◌, ◌≤◌}
use native.Mathlib.Omega.{arith}
use native.Mathlib.Nat.{mod-eq_of_lt}
use lib.Dec.{ltb}
use borrow.Author.Tests.{lt-ltb, le-ltb, ltb-true, ltb-false}
use lib.ListN.{length, get_or, drop, take, length-append, length-take}
use lib.Seq.{take-take}
use Rattle.limits.specs.Limits.{most_nodes, most_apart}
use Rattle.std.specs.Prelude.{if◌then◌else◌}
use Rattle.terms.specs.Term.{Term, Terms, var, node, nil, cons, size, sizes, count}
use Rattle.terms.specs.Flat.{Wf, Wfs}
use Rattle.terms.specs.Scan.{owes}
use Rattle.terms.proofs.Places.{size_pos}
use Rattle.terms.proofs.Scans.{owes_symbol, owes_other}
use Rattle.terms.proofs.Shape.{zero≢one}
use Rattle.terms.proofs.Starts.{from}
use Rattle.rewriting.specs.Overlap.{Rule, sides_of}
use Rattle.rewriting.specs.Rewrite.{root_step, step, step_in, End, complete, neither_above, rules_full, log_full, Paid, done, stop, spent, too_large, and_then}
use Rattle.matching.specs.Cells.{cells, cells_all, root_byte, cells_below}
use Rattle.matching.proofs.Celled.{length_cells, cells_root, root_low, cell_size}
use Rattle.slots.specs.Slots.{Stored}
use Rattle.normaliser.specs.Inside.{pay_for, normalise_in, normalise_all}
use Rattle.redex.specs.Marks.{Marked, MarkedAll, leaf, visit, leave, no_more, ArgumentsNormal, open_cells}
use Rattle.redex.specs.Step.{CellsHold, StepTested, Wrote, RewritesRoot, out}
use Rattle.redex.specs.declared.Out.{Out}
use Rattle.redex.specs.declared.Step.{Step}
use Rattle.redex.specs.declared.Step.TheVariants.{Normal, Rewritten, Spent, TooLarge, NoTerm}
use Rattle.normaliser.specs.Settled.{CellsHoldAll, LeftNormal, StepStops, EndsWith, EndsAll, Limit, Settled, SettledAll}
use Rattle.normaliser.proofs.Sequence.{at_root, iterate_normal, normalise_normal, normalise_var, normalise_node, normalise_nil}
use Rattle.redex.proofs.Marking.{marked_length}
use Rattle.redex.proofs.Parts.{head_of, back, from_take, back_length, back_take}

-- `leave`
pub leave_long : {c len units e : ℕ} {o : Out} → o ≡ out NoTerm units len 0 → e ≡ c / 256 → len < e → LeftNormal c len units o
leave_long {c} {len} {units} d k h = subst (λ z. LeftNormal c len units z) (sym d)
    (record { whole = refl; left_over = refl; ends = omega arith; first = λ z. absurd (zero≢one (cc)); answer = λ z. absurd (omega arith) })

pub leave_done : {c len units e : ℕ} {o : Out} → o ≡ out Normal units len e → e ≡ c / 256 → e ≤ len → 256 ≤ c → LeftNormal c len units o
leave_done {c} {len} {units} d k h l = subst (λ z. LeftNormal c len units z) (sym d)
    (record { whole = refl; left_over = refl; ends = h; first = λ z. omega arith; answer = λ z. (refl, k) })

-- a stop is no normal form
pub stops_not : (e : End) {s : Step} → StepStops e s → s ≡ Normal → ⊥
stops_not complete h z = h
stops_not neither_above h z = h
stops_not spent h z = zero≢one (cc)
stops_not too_large h z = zero≢one (cc)
stops_not rules_full h z = h
stops_not log_full h z = h

-- the limit less what stands before
pub ltb_less : (m x d : ℕ) → d ≤ m → ltb m (d + x) ≡ ltb (m - d) x
ltb_less m x d h = go (ltb (m - d) x) refl
  where
    go : (b : Bool) → ltb (m - d) x ≡ b → ltb m (d + x) ≡ ltb (m - d) x
    go true e = let l : m - d < x = ltb-true (m - d) x e in lt-ltb m (d + x) (omega arith) ∙ sym e
    go false e = let l : x ≤ m - d = ltb-false (m - d) x e in le-ltb m (d + x) (omega arith) ∙ sym e

-- A term's arguments, and the term with others.
args : Term → Terms
args (var x) = nil
args (node f ts) = ts

with_args : Term → Terms → Term
with_args (var x) us = var x
with_args (node f ts) us = node f us

by_parts : (rs : List Rule) (big : ℕ → Bool) (y : Term) (u : ℕ) →
    normalise_in rs big y u ≡ and_then (normalise_all rs (λ n. big (suc n)) (args y) u) (λ us m. at_root rs big (with_args y us) m)
unfolding args with_args and_then
by_parts rs big (var x) u = normalise_var rs big x u ∙ ap (λ p. and_then p (λ us m. at_root rs big (var x) m)) (sym (normalise_nil rs (λ n. big (suc n)) u))
by_parts rs big (node f ts) u = normalise_node rs big f ts u

-- a term whose root has no size
record Opened (rs : List Rule) (t : List ℕ) (l : ℕ) (y : Term) (post : List ℕ) : Type 0 where
  marks : List ℕ
  marked : MarkedAll rs marks (args y)
  text : take l t ≡ root_byte y ∷ (marks ++ post)

record Closed (rs : List Rule) (t : List ℕ) (l : ℕ) (y : Term) (post : List ℕ) : Type 0 where
  text : take l t ≡ cells y ++ post
  normal : step rs y ≡ none

either : {rs : List Rule} {t : List ℕ} {l : ℕ} {y : Term} {post ms : List ℕ} → Marked rs ms y → take l t ≡ ms ++ post →
    Opened rs t l y post ⊎ Closed rs t l y post
unfolding args root_byte
either {post = post} (leaf d) b = inl (record { marks = []; marked = no_more refl; text = b ∙ ap (λ z. z ++ post) d })
either {post = post} (visit {m = m} d h) b = inl (record { marks = m; marked = h; text = b ∙ ap (λ z. z ++ post) d })
either {post = post} (leave d n) b = inr (record { text = b ∙ ap (λ z. z ++ post) d; normal = n })

closed_root : {rs : List Rule} {t : List ℕ} {l : ℕ} {y : Term} {post : List ℕ} → Closed rs t l y post → get_or t 0 0 ≡ root_byte y + 256 * size y
closed_root {t = t} {l} {y} {post} c = head_of t l 0 (root_byte y + 256 * size y) (cells_below y ++ post) (c.text ∙ ap (λ z. z ++ post) (cells_root y))

opened_root : {rs : List Rule} {t : List ℕ} {l : ℕ} {y : Term} {post : List ℕ} → Opened rs t l y post → get_or t 0 0 ≡ root_byte y
opened_root {t = t} {l} {y} {post} o = head_of t l 0 (root_byte y) (o.marks ++ post) o.text

-- What is true where a turn begins.
pub record Where (tab : List ℕ) (rs : List Rule) (x : Term) (post : List ℕ) (big : ℕ → Bool) (units : ℕ) (t : List ℕ) (l u : ℕ) : Type 0 where
  pub term : Term
  pub held : CellsHold tab rs t l term post
  pub answer : normalise_in rs big x units ≡ normalise_in rs big term u

pub record Turning (tab rules : List ℕ) (number : ℕ) (t₀ : List ℕ) (len most units : ℕ) (t : List ℕ) (l u : ℕ) : Type 0 where
  pub same : length t ≡ length t₀
  pub room : (most ≤ length t₀) × (most ≤ most_nodes)
  pub small : l ≤ most
  pub cost : 1000 * u + 2 * l ≤ 1000 * units + 2 * len
  pub place : (rs : List Rule) → Stored tab rules 0 (sides_of rs) → number ≡ length rs → (x : Term) (post : List ℕ) → CellsHold tab rs t₀ len x post →
      (big : ℕ → Bool) → Limit big most post → Where tab rs x post big units t l u

pub turn_start : {tab rules : List ℕ} {number : ℕ} {t : List ℕ} {len most units : ℕ} → (len ≤ most) × (most ≤ length t) × (most ≤ most_nodes) →
    Turning tab rules number t len most units t len units
turn_start h = record {
  same = refl;
  room = (h.1, h.2);
  small = h.0;
  cost = omega arith;
  place = λ rs st n x post h big lim. record { term = x; held = h; answer = refl };
}

module _
    {tab rules : List ℕ} {number : ℕ} {t₀ : List ℕ} {len most units : ℕ} {t : List ℕ} {l u : ℕ} (i : Turning tab rules number t₀ len most units t l u) where
  none_held : {rs : List Rule} {y : Term} {post : List ℕ} → l ≡ 0 → CellsHold tab rs t l y post → ⊥
  none_held {rs} {y} {post} e h =
      let q : [] ≡ h.marks ++ post = sym (ap (λ z. take z t) e) ∙ h.text in
      omega (arith, size_pos y, marked_length rs h.marked, ap length q, length-append h.marks post)

  pub turn_empty : {o : Out} → l ≡ 0 → o ≡ out NoTerm u 0 0 → Settled tab rules number t₀ t len most units o
  turn_empty e d = subst (λ o. Settled tab rules number t₀ t len most units o) (sym d) (record {
    bounds = record { same = i.same; ends = omega arith; small = omega arith; cost = let c = i.cost in omega arith };
    first = λ z. absurd (zero≢one (cc));
    answer = λ rs st n x post h big lim. absurd (none_held e (i.place rs st n x post h big lim).held);
  })

  -- a term whose root has its size is normal
  module _ (k : 256 ≤ get_or t 0 0) {o : Out} (lf : LeftNormal (get_or t 0 0) l u o) where
    leave_go : (rs : List Rule) (big : ℕ → Bool) (y : Term) (post : List ℕ) → Wf most_apart tab y → Opened rs t l y post ⊎ Closed rs t l y post →
        EndsWith tab t post o (normalise_in rs big y u)
    leave_go rs big y post w (inl p) = absurd (omega (arith, opened_root p, root_low tab y w))
    leave_go rs big y post w (inr p) =
        let d : get_or t 0 0 / 256 ≡ size y = ap (λ c. c / 256) (closed_root p) ∙ cell_size (root_byte y) (size y) (root_low tab y w) in
        let f : size y ≤ l = omega (arith, length-take l t, ap length p.text ∙ length-append (cells y) post, length_cells y) in
        let a = lf.answer (omega arith) in
        subst (λ z. EndsWith tab t post o z) (sym (normalise_normal rs big y u p.normal))
        (a.0, lf.left_over, a.1 ∙ d, ap (λ m. take m t) lf.whole ∙ p.text, w)

    pub turn_leave : Settled tab rules number t₀ t len most units o
    turn_leave =
        let e : o.len ≡ l = lf.whole in
        let v : o.units ≡ u = lf.left_over in
        record {
          bounds = record { same = i.same; ends = lf.ends; small = let m = i.small in omega arith; cost = let m = i.cost in omega arith };
          first = lf.first;
          answer = λ rs st n x post h big lim.
              let p = i.place rs st n x post h big lim in
              subst (λ z. EndsWith tab t post o z) (sym p.answer)
              (leave_go rs big p.term post p.held.wf (either p.held.marked p.held.text));
        }

-- the arguments were normalised
pub record Below (tab rules : List ℕ) (number : ℕ) (t₀ : List ℕ) (len most units : ℕ) (t : List ℕ) (l u n : ℕ) (q : List ℕ) (r : Out) : Type 0 where
  pub turning : Turning tab rules number t₀ len most units t l u
  pub some_cell : 0 < l
  pub no_size : get_or t 0 0 < 256
  pub arity : n ≡ owes tab (get_or t 0 0 % 256)
  pub settled : SettledAll tab rules number (from t 1) q n (l - 1) (most - 1) u r

module _
    {tab rules : List ℕ} {number : ℕ} {t₀ : List ℕ} {len most units : ℕ} {t : List ℕ} {l u n : ℕ} {q : List ℕ} {r : Out}
    (g : Below tab rules number t₀ len most units t l u n q r) where
  one : 1 ≤ length t
  one = let a = g.some_cell in let i = g.turning in let s = i.small in let e = i.same in let b = i.room in omega arith

  low : (big : ℕ → Bool) (post : List ℕ) → Limit big most post → Limit (λ k. big (suc k)) (most - 1) post
  low big post lim k =
      let s = g.turning.small in
      let z = g.some_cell in
      let e : suc k + length post ≡ 1 + (k + length post) = omega arith in
      lim (suc k) ∙ ap (ltb most) e ∙ ltb_less most (k + length post) 1 (omega arith)

  byte : {b : ℕ} {m : List ℕ} → take l t ≡ b ∷ m → take 1 t ≡ b ∷ []
  byte e = sym (take-take 1 l t (let z = g.some_cell in omega arith)) ∙ ap (take 1) e

  opened_of : {rs : List Rule} {y : Term} {post : List ℕ} → Opened rs t l y post ⊎ Closed rs t l y post → Opened rs t l y post
  opened_of (inl p) = p
  opened_of {y = y} (inr p) = absurd (let h = g.no_size in omega (arith, size_pos y, closed_root p))

  number_go : (y : Term) → Wf most_apart tab y → get_or t 0 0 ≡ root_byte y → count (args y) ≡ n
  unfolding args root_byte Wf count
  number_go (var x) w e = sym (g.arity ∙ ap (owes tab) (mod-eq_of_lt g.no_size ∙ e) ∙ owes_other tab (128 + x) (omega arith))
  number_go (node f ts) w e = w.1 ∙ sym (g.arity ∙ ap (owes tab) (mod-eq_of_lt g.no_size ∙ e) ∙ owes_symbol tab f w.0)

  args_wf : (y : Term) → Wf most_apart tab y → Wfs most_apart tab (args y)
  unfolding args Wf Wfs
  args_wf (var x) w = tt
  args_wf (node f ts) w = w.2

  inner : (rs : List Rule) → Stored tab rules 0 (sides_of rs) → number ≡ length rs → (y : Term) (post : List ℕ) → Wf most_apart tab y → Opened rs t l y post →
      (big : ℕ → Bool) → Limit big most post → EndsAll tab q post n r (normalise_all rs (λ k. big (suc k)) (args y) u)
  inner rs st m y post w o big lim =
      let h : CellsHoldAll tab rs (from t 1) (l - 1) (args y) post = record {
        wfs = args_wf y w;
        marks = o.marks;
        marked = o.marked;
        text = from_take 1 l t (let z = g.some_cell in omega arith) ∙ ap (drop 1) o.text;
      } in
      g.settled.answer rs st m (args y) post h (number_go y w (opened_root o)) (λ k. big (suc k)) (low big post lim)

  pub turn_room : (0 < r.end + 1) × (r.end + 1 ≤ r.len + 1) × (r.len + 1 ≤ most) × (most ≤ length (back 1 t q)) × (most ≤ most_nodes)
  turn_room =
      let d = g.settled.bounds in
      let e = d.ends in
      let s = d.small in
      let i = g.turning in
      let k = i.small in
      let z = g.some_cell in
      let v = i.same in
      let b = i.room in
      (omega arith, omega arith, omega arith, omega (arith, back_length 1 t q one d.same), b.1)

  -- an argument came to no end
  stop_go : (rs : List Rule) (big : ℕ → Bool) (post : List ℕ) (y : Term) → (r.step ≡ Normal → ⊥) → (p : Paid Terms) → EndsAll tab q post n r p →
      (t' : List ℕ) → EndsWith tab t' post r (and_then p (λ us m. at_root rs big (with_args y us) m))
  unfolding and_then
  stop_go rs big post y z (done us m) e t' = absurd (z e.0)
  stop_go rs big post y z (stop c m) e t' = e

  pub turn_stop : (r.step ≡ Normal → ⊥) → Settled tab rules number t₀ (back 1 t q) len most units r
  turn_stop z =
      let d = g.settled.bounds in
      let i = g.turning in
      let nz = g.some_cell in
      record {
        bounds = record {
          same = back_length 1 t q one d.same ∙ i.same;
          ends = d.ends;
          small = let s = d.small in omega arith;
          cost = let c = d.cost in let k = i.cost in omega arith;
        };
        first = λ o. absurd (z o);
        answer = λ rs st m x post h big lim.
            let p = i.place rs st m x post h big lim in
            let o = opened_of (either p.held.marked p.held.text) in
            subst (λ o. EndsWith tab (back 1 t q) post r o) (sym (p.answer ∙ by_parts rs big p.term u))
            (stop_go rs big post p.term z (normalise_all rs (λ k. big (suc k)) (args p.term) u)
            (inner rs st m p.term post p.held.wf o big lim) (back 1 t q));
      }

  -- the arguments are normal, and the root is tried
  module _
      (zr : r.step ≡ Normal) {t' : List ℕ} {s : Out}
      (w : RewritesRoot rules number (back 1 t q) t' (r.len + 1) (r.end + 1) most r.units s) where
    wf_with : (y : Term) (us : Terms) → Wf most_apart tab y → Wfs most_apart tab us → count us ≡ n → count (args y) ≡ n → Wf most_apart tab (with_args y us)
    unfolding with_args Wf args
    wf_with (var x) us v k e d = v
    wf_with (node f ts) us v k e d = (v.0, e ∙ sym d ∙ v.1, k)

    size_with : (y : Term) (us : Terms) → count us ≡ n → count (args y) ≡ n → r.end ≡ sizes us → r.end + 1 ≡ size (with_args y us)
    unfolding with_args size args count
    size_with (var x) nil e d o = omega arith
    size_with (var x) (cons b us) e d o = absurd (omega arith)
    size_with (node f ts) us e d o = omega arith

    cells_with : (y : Term) (us : Terms) (post ms : List ℕ) → take l t ≡ root_byte y ∷ ms → count us ≡ n → count (args y) ≡ n →
        take r.len q ≡ cells_all us ++ post → take (r.len + 1) (back 1 t q) ≡ open_cells (with_args y us) ++ post
    unfolding with_args open_cells root_byte cells_below cells_all args count
    cells_with (var x) nil post ms b e d o = back_take 1 r.len t q one ∙ ap₂ ◌++◌ (byte b) o
    cells_with (var x) (cons c us) post ms b e d o = absurd (omega arith)
    cells_with (node f ts) us post ms b e d o = back_take 1 r.len t q one ∙ ap₂ ◌++◌ (byte b) o

    normal_with : (rs : List Rule) (y : Term) (us : Terms) → step_in rs us ≡ none → ArgumentsNormal rs (with_args y us)
    unfolding with_args
    normal_with rs (var x) us e = tt
    normal_with rs (node f ts) us e = e

    -- what the step at the root says of `at_root`
    abbrev Next : List Rule → (ℕ → Bool) → List ℕ → Paid Term → Type 0
    Next rs big post p = ((s.step ≡ Rewritten → ⊥) → EndsWith tab t' post s p) ×
        (s.step ≡ Rewritten → (v : Term) × CellsHold tab rs t' s.len v post × (p ≡ normalise_in rs big v s.units))

    tested_go : (rs : List Rule) (big : ℕ → Bool) (post : List ℕ) (v : Term) (k : ℕ) (b : Bool) → StepTested tab rs t' post k s v b →
        Next rs big post (if b then stop too_large k else normalise_in rs big v k)
    tested_go rs big post v k true e = (λ z. e, λ z. absurd (let d : s.step ≡ TooLarge = e.0 in zero≢one (cc)))
    tested_go rs big post v k false e = (λ z. absurd (z e.0), λ z. (v, e.2, ap (normalise_in rs big v) (sym e.1)))

    root_go : (rs : List Rule) (big : ℕ → Bool) (post : List ℕ) → Limit big most post → (y : Term) → Wf most_apart tab y → r.end + 1 ≡ size y →
        (o : Option Term) (k : ℕ) → Wrote tab rs t' y post most k s o → Next rs big post (pay_for (λ v. big (size v)) (λ v m. normalise_in rs big v m) y o k)
    unfolding pay_for
    root_go rs big post lim y v d none k o = (
      λ z. (o.0, o.1, (w.place z).1 ∙ d, o.2, v),
      λ z. absurd (let h : s.step ≡ Normal = o.0 in zero≢one (cc)),
    )
    root_go rs big post lim y v d (some x) zero o = (λ z. o, λ z. absurd (let h : s.step ≡ Spent = o.0 in zero≢one (cc)))
    root_go rs big post lim y v d (some x) (suc k) o =
        tested_go rs big post x k (big (size x)) (subst (λ c. StepTested tab rs t' post k s x c) (sym (lim (size x))) o)

    root_next : (rs : List Rule) → Stored tab rules 0 (sides_of rs) → number ≡ length rs → (big : ℕ → Bool) (post : List ℕ) → Limit big most post →
        (y : Term) → Wf most_apart tab y → Opened rs t l y post → (p : Paid Terms) → normalise_all rs (λ k. big (suc k)) (args y) u ≡ p →
        EndsAll tab q post n r p → Next rs big post (and_then p (λ us m. at_root rs big (with_args y us) m))
    unfolding and_then
    root_next rs st m big post lim y v b (stop c k) j e = absurd (stops_not c e.0 zr)
    root_next rs st m big post lim y v b (done us k) j e =
        let d = number_go y v (opened_root b) in
        let f = wf_with y us v e.4 e.5 d in
        let h = size_with y us e.5 d e.2 in
        let nb = normal_with rs y us (iterate_normal (step_in rs) (λ us. big (suc (sizes us))) u (args y) us k j) in
        root_go rs big post lim (with_args y us) f h (root_step rs (with_args y us)) k
        (subst (λ j. Wrote tab rs t' (with_args y us) post most j s (root_step rs (with_args y us))) e.1
        (w.answer tab rs st m (with_args y us) post f (cells_with y us post (b.marks ++ post) b.text e.5 d e.3) h nb))

    next : (rs : List Rule) → Stored tab rules 0 (sides_of rs) → number ≡ length rs → (x : Term) (post : List ℕ) → CellsHold tab rs t₀ len x post →
        (big : ℕ → Bool) → Limit big most post → Next rs big post (normalise_in rs big x units)
    next rs st m x post h big lim =
        let p = g.turning.place rs st m x post h big lim in
        let o = opened_of (either p.held.marked p.held.text) in
        subst (λ o. Next rs big post o) (sym (p.answer ∙ by_parts rs big p.term u))
        (root_next rs st m big post lim p.term p.held.wf o (normalise_all rs (λ k. big (suc k)) (args p.term) u) refl
        (inner rs st m p.term post p.held.wf o big lim))

    pub turn_kept : length t' ≡ length t₀
    turn_kept = w.same ∙ back_length 1 t q one g.settled.bounds.same ∙ g.turning.same

    pub turn_end : (s.step ≡ Rewritten → ⊥) → Settled tab rules number t₀ t' len most units s
    turn_end z =
        let (ll, le) = w.place z in
        let nz = g.some_cell in
        record {
          bounds = record {
            same = turn_kept;
            ends = w.ends;
            small = w.small;
            cost = let c = g.settled.bounds.cost in let k = g.turning.cost in let o = w.left_over in omega arith;
          };
          first = λ o. omega arith;
          answer = λ rs st m x post h big lim. (next rs st m x post h big lim).0 z;
        }

    pub turn_less : s.step ≡ Rewritten → s.units < u
    turn_less z = let b = g.turning.room in let c = g.settled.bounds.cost in let k = g.turning.small in let o = w.paid z in omega arith

    pub turn_on : s.step ≡ Rewritten → Turning tab rules number t₀ len most units t' s.len s.units
    turn_on z = record {
      same = turn_kept;
      room = g.turning.room;
      small = w.small;
      cost =
          let c = g.settled.bounds.cost in
          let k = g.turning.cost in
          let o = w.paid z in
          let j = w.small in
          let b = g.turning.room in
          let nz = g.some_cell in omega arith;
      place = λ rs st m x post h big lim. let (y, f, e) = (next rs st m x post h big lim).1 z in record { term = y; held = f; answer = e };
    }
