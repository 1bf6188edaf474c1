-- The turns of `normalise_all`: the terms still to be normalised, behind those that are, come to what all come to; and a lemma for each return. Assumes
-- nothing.
-- Read first: specs/Settled (Settled, SettledAll), proofs/Sequence, redex/proofs/Parts.
use mathlib.Core.Path.{◌≡◌, refl, sym, ◌∙◌, ap, ap₂, subst}
use mathlib.Core.Bool.{Bool}
use mathlib.Core.List.{List, ◌++◌, append_assoc, append-nil}
use Prim.Native.Nat.{ℕ, suc, ◌+◌, ◌-◌, ◌*◌, ◌<◌, ◌≤◌}
use native.Mathlib.Omega.{arith}
use lib.Dec.{ltb}
use lib.ListN.{length, drop, take, length-append, take-append-drop}
use Rattle.limits.specs.Limits.{most_nodes, most_apart}
use lib.Seq.{drop_at, take_at, take-take, length-take-le}
use Rattle.terms.specs.Term.{Term, Terms, nil, cons, size, sizes, count}
use Rattle.terms.specs.Flat.{Wfs}
use Rattle.terms.proofs.Starts.{from}
use Rattle.rewriting.proofs.Holds.{and_then_assoc}
use Rattle.rewriting.specs.Overlap.{Rule, sides_of}
use Rattle.rewriting.specs.Rewrite.{Paid, done, stop, and_then}
use Rattle.matching.specs.Cells.{cells, cells_all}
use Rattle.matching.proofs.Celled.{length_cells}
use Rattle.normaliser.specs.Inside.{normalise_in, normalise_all}
use Rattle.redex.specs.Marks.{MarkedAll, no_more, more}
use Rattle.slots.specs.Slots.{Stored}
use Rattle.redex.specs.Step.{CellsHold, out}
use Rattle.normaliser.specs.Settled.{CellsHoldAll, EndsWith, EndsAll, Limit, Settled, SettledAll}
use Rattle.redex.specs.declared.Out.{Out}
use Rattle.redex.specs.declared.Step.TheVariants.{Normal}
use Rattle.normaliser.proofs.Settling.{stops_not, ltb_less}
use Rattle.normaliser.proofs.Sequence.{normalise_nil, normalise_cons, then_others}
use Rattle.redex.proofs.Marking.{marked_lengths}
use Rattle.redex.proofs.Parts.{back, from_take, back_length, back_take}

-- Of n terms k are done, and the others stand from the cell p on; `behind` puts the first k in front of them, and all come to `goal`.
pub record Ahead (tab : List ℕ) (rs : List Rule) (post t : List ℕ) (n most k p l u : ℕ) (goal : Paid Terms) : Type 0 where
  pub todo : Terms
  pub big : ℕ → Bool
  pub limit : Limit big (most - p) post
  pub held : CellsHoldAll tab rs (from t p) (l - p) todo post
  pub number : count todo + k ≡ n
  pub behind : Terms → Terms
  pub answer : goal ≡ and_then (normalise_all rs big todo u) (λ us m. done (behind us) m)
  pub behind_size : (us : Terms) → sizes (behind us) ≡ p + sizes us
  pub behind_count : (us : Terms) → count (behind us) ≡ k + count us
  pub behind_wf : (us : Terms) → Wfs most_apart tab us → Wfs most_apart tab (behind us)
  pub behind_cells : (us : Terms) → cells_all (behind us) ≡ take p t ++ cells_all us

pub record Row (tab rules : List ℕ) (number : ℕ) (t₀ : List ℕ) (n len most units : ℕ) (t : List ℕ) (k p l u : ℕ) : Type 0 where
  pub same : length t ≡ length t₀
  pub room : (most ≤ length t₀) × (most ≤ most_nodes)
  pub place : p ≤ l
  pub small : l ≤ most
  pub cost : 1000 * u + 2 * l ≤ 1000 * units + 2 * len
  pub ahead : (rs : List Rule) → Stored tab rules 0 (sides_of rs) → number ≡ length rs → (xs : Terms) (post : List ℕ) →
      CellsHoldAll tab rs t₀ len xs post → count xs ≡ n → (big : ℕ → Bool) → Limit big most post →
      Ahead tab rs post t n most k p l u (normalise_all rs big xs units)

and_done : (p : Paid Terms) → p ≡ and_then p (λ us m. done us m)
unfolding and_then
and_done (done us m) = refl
and_done (stop e m) = refl

pub row_start : {tab rules : List ℕ} {number : ℕ} {t : List ℕ} {n len most units : ℕ} → (len ≤ most) × (most ≤ length t) × (most ≤ most_nodes) →
    Row tab rules number t n len most units t 0 0 len units
row_start {t = t} {len = len} {most} {units} h = record {
  same = refl;
  room = (h.1, h.2);
  place = omega arith;
  small = h.0;
  cost = omega arith;
  ahead = λ rs st m xs post h e big lim. record {
    todo = xs;
    big = big;
    limit = λ j. lim j ∙ (let z : most ≡ most - 0 = omega arith in ap (λ m. ltb m (j + length post)) z);
    held = record { wfs = h.wfs; marks = h.marks; marked = h.marked; text = from_take 0 len t (omega arith) ∙ h.text };
    number = omega arith;
    behind = λ us. us;
    answer = and_done (normalise_all rs big xs units);
    behind_size = λ us. omega arith;
    behind_count = λ us. omega arith;
    behind_wf = λ us w. w;
    behind_cells = λ us. refl;
  };
}

module _
    {tab rules : List ℕ} {number : ℕ} {t₀ : List ℕ} {n len most units : ℕ} {t : List ℕ} {k p l u : ℕ}
    (i : Row tab rules number t₀ n len most units t k p l u) where
  fits : p ≤ length t
  fits = let a = i.same in let r = i.room in let b = i.place in let c = i.small in omega arith

  -- no term is left
  end_go : (rs : List Rule) (post : List ℕ) {goal : Paid Terms} (a : Ahead tab rs post t n most k p l u goal) → n ≤ k → (todo : Terms) → todo ≡ a.todo →
      {ms : List ℕ} → MarkedAll rs ms todo → take (l - p) (from t p) ≡ ms ++ post → EndsAll tab t post n (out Normal u l p) goal
  unfolding count sizes cells_all and_then Wfs
  end_go rs post a z (cons x xs) e h b = absurd (let c : suc (count xs) ≡ count a.todo = ap count e in let m = a.number in omega arith)
  end_go rs post a z nil e (no_more q) b =
      let v = a.answer ∙ ap (λ us. and_then (normalise_all rs a.big us u) (λ us m. done (a.behind us) m)) (sym e)
      ∙ ap (λ o. and_then o (λ us m. done (a.behind us) m)) (normalise_nil rs a.big u) in
      let y : drop p (take l t) ≡ post = sym (from_take p l t i.place) ∙ b ∙ ap (λ z. z ++ post) q in
      let x : take p (take l t) ≡ cells_all (a.behind nil) = take-take p l t i.place ∙ sym (append-nil (take p t)) ∙ sym (a.behind_cells nil) in
      let s = a.behind_size nil in
      let c = a.behind_count nil in
      let m = a.number in
      subst (λ o. EndsAll tab t post n (out Normal u l p) o) (sym v)
      (refl, refl, omega arith, sym (take-append-drop p (take l t)) ∙ ap₂ ◌++◌ x y, a.behind_wf nil tt, omega arith)

  pub row_end : {o : Out} → n ≤ k → o ≡ out Normal u l p → SettledAll tab rules number t₀ t n len most units o
  row_end z d = subst (λ o. SettledAll tab rules number t₀ t n len most units o) (sym d) (record {
    bounds = record { same = i.same; ends = i.place; small = i.small; cost = i.cost };
    answer = λ rs st m xs post h e big lim.
        let a = i.ahead rs st m xs post h e big lim in end_go rs post a z a.todo refl a.held.marked a.held.text;
  })

  -- the next term
  module _ (more_left : k < n) {q : List ℕ} {r : Out} (s : Settled tab rules number (from t p) q (l - p) (most - p) u r) where
    abbrev After : List Rule → List ℕ → Paid Terms → Type 0
    After rs post goal = (r.step ≡ Normal → Ahead tab rs post (back p t q) n most (k + 1) (r.end + p) (r.len + p) r.units goal) ×
        ((r.step ≡ Normal → ⊥) → EndsAll tab (back p t q) post n r goal)

    after_first : (rs : List Rule) (post : List ℕ) {goal : Paid Terms} (a : Ahead tab rs post t n most k p l u goal) (xs : Terms) {ms : List ℕ} →
        suc (count xs) + k ≡ n → Wfs most_apart tab xs → MarkedAll rs ms xs → (o : Paid Term) → EndsWith tab q (ms ++ post) r o →
        goal ≡ and_then (and_then o (λ y m. then_others rs a.big xs y m)) (λ us m. done (a.behind us) m) → After rs post goal
    unfolding and_then size sizes count Wfs cells_all
    after_first rs post a xs c w h (stop e j) f g =
        (λ z. absurd (stops_not e f.0 z), λ z. subst (λ o. EndsAll tab (back p t q) post n r o) (sym g) f)
    after_first rs post a xs {ms} c w h (done y j) f g =
        let e : r.end ≡ size y = f.2 in
        let le : r.end ≤ r.len = s.bounds.ends in
        let sm : r.len ≤ most - p = s.bounds.small in
        let others : ℕ → Paid Terms = λ v. normalise_all rs (λ j. a.big (size y + j)) xs v in
        let ly : length (cells y) ≡ r.end = length_cells y ∙ sym e in
        let top : take r.end q ≡ cells y =
        sym (take-take r.end r.len q le) ∙ ap (take r.end) f.3 ∙ take_at (cells y) (ms ++ post) r.end ly in
        let front : take (r.end + p) (back p t q) ≡ take p t ++ cells y = back_take p r.end t q fits ∙ ap (λ z. take p t ++ z) top in
        let whole : take (r.len + p) (back p t q) ≡ (take p t ++ cells y) ++ (ms ++ post) =
        back_take p r.len t q fits ∙ ap (λ z. take p t ++ z) f.3 ∙ sym (append_assoc (take p t) (cells y) (ms ++ post)) in
        let lf : length (take p t ++ cells y) ≡ r.end + p = length-append (take p t) (cells y) ∙ omega (arith, length-take-le p t fits) in (
          λ z. record {
            todo = xs;
            big = λ j. a.big (size y + j);
            limit = λ j.
                let v : size y + j + length post ≡ r.end + (j + length post) = omega arith in
                let z : most - p - r.end ≡ most - (r.end + p) = omega arith in
                a.limit (size y + j) ∙ ap (ltb (most - p)) v ∙ ltb_less (most - p) (j + length post) r.end (omega arith)
                ∙ ap (λ m. ltb m (j + length post)) z;
            held = record {
              wfs = w;
              marks = ms;
              marked = h;
              text = from_take (r.end + p) (r.len + p) (back p t q) (omega arith) ∙ ap (drop (r.end + p)) whole
                  ∙ drop_at (take p t ++ cells y) (ms ++ post) (r.end + p) lf;
            };
            number = omega arith;
            behind = λ us. a.behind (cons y us);
            answer = g ∙ and_then_assoc (others j) (λ us m. done (cons y us) m) (λ us m. done (a.behind us) m)
                ∙ ap (λ v. and_then (others v) (λ us m. done (a.behind (cons y us)) m)) (sym f.1);
            behind_size = λ us. a.behind_size (cons y us) ∙ omega arith;
            behind_count = λ us. (let v = a.behind_count (cons y us) in omega arith);
            behind_wf = λ us v. a.behind_wf (cons y us) (f.4, v);
            behind_cells = λ us. a.behind_cells (cons y us) ∙ sym (append_assoc (take p t) (cells y) (cells_all us))
                ∙ ap (λ z. z ++ cells_all us) (sym front);
          },
          λ z. absurd (z f.0),
        )

    after_go : (rs : List Rule) → Stored tab rules 0 (sides_of rs) → number ≡ length rs → (post : List ℕ) {goal : Paid Terms}
        (a : Ahead tab rs post t n most k p l u goal) (todo : Terms) → todo ≡ a.todo → Wfs most_apart tab todo → {ms : List ℕ} → MarkedAll rs ms todo →
        take (l - p) (from t p) ≡ ms ++ post → After rs post goal
    unfolding Wfs count
    after_go rs st m post a nil e w h b = absurd (let c : 0 ≡ count a.todo = ap count e in let m = a.number in omega arith)
    after_go rs st m post a (cons x xs) e w (more {a = y} {b = d} v h g) b =
        let big : ℕ → Bool = λ j. a.big (j + sizes xs) in
        let lim : Limit big (most - p) (d ++ post) = λ j.
        (let e : j + sizes xs + length post ≡ j + length (d ++ post) = omega (arith, length-append d post, marked_lengths rs g) in
        a.limit (j + sizes xs) ∙ ap (ltb (most - p)) e) in
        let held : CellsHold tab rs (from t p) (l - p) x (d ++ post) =
        record { wf = w.0; marks = y; marked = h; text = b ∙ ap (λ z. z ++ post) v ∙ append_assoc y d post } in
        let number : suc (count xs) + k ≡ n = let c : suc (count xs) ≡ count a.todo = ap count e in let m = a.number in omega arith in
        after_first rs post a xs number w.1 g (normalise_in rs big x u) (s.answer rs st m x (d ++ post) held big lim)
        (a.answer ∙ ap (λ us. and_then (normalise_all rs a.big us u) (λ us m. done (a.behind us) m)) (sym e)
        ∙ ap (λ o. and_then o (λ us m. done (a.behind us) m)) (normalise_cons rs a.big x xs u))

    after : (rs : List Rule) → Stored tab rules 0 (sides_of rs) → number ≡ length rs → (xs : Terms) (post : List ℕ) → CellsHoldAll tab rs t₀ len xs post →
        count xs ≡ n → (big : ℕ → Bool) → Limit big most post → After rs post (normalise_all rs big xs units)
    after rs st m xs post h e big lim =
        let a = i.ahead rs st m xs post h e big lim in after_go rs st m post a a.todo refl a.held.wfs a.held.marked a.held.text

    pub row_room : (length (back p t q) ≡ length t₀) × (r.end + p ≤ r.len + p) × (r.len + p ≤ most) × (most ≤ most_nodes) ×
        (1000 * r.units + 2 * (r.len + p) ≤ 1000 * units + 2 * len)
    row_room =
        let d = s.bounds in
        let pl = i.place in
        let sl = i.small in
        let x = d.ends in
        let y = d.small in
        let v = d.cost in
        let w = i.cost in
        (back_length p t q fits d.same ∙ i.same, omega arith, omega arith, i.room.1, omega arith)

    -- it came to no end
    pub row_stop : (r.step ≡ Normal → ⊥) → SettledAll tab rules number t₀ (back p t q) n len most units r
    row_stop z =
        let d = row_room in
        let x = d.4 in
        record {
          bounds = record { same = d.0; ends = s.bounds.ends; small = let y = d.2 in omega arith; cost = omega arith };
          answer = λ rs st m xs post h e big lim. (after rs st m xs post h e big lim).1 z;
        }

    -- it is normal
    pub row_on : r.step ≡ Normal → Row tab rules number t₀ n len most units (back p t q) (k + 1) (r.end + p) (r.len + p) r.units
    row_on z =
        let d = row_room in
        record {
          same = d.0;
          room = i.room;
          place = d.1;
          small = d.2;
          cost = d.4;
          ahead = λ rs st m xs post h e big lim. (after rs st m xs post h e big lim).0 z;
        }
