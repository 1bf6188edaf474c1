-- `again` and `advance` by their returns: equal or other symbols, a variable out of range, free so far, bound to a longer, the same or another term.
-- Assumes nothing.
-- Read first: specs/Held (Rep, Within, Again, Advanced), proofs/Celled, rewriting/specs/Rewrite (matching).
use mathlib.Core.Path.{◌≡◌, refl, sym, ◌∙◌, ap, subst}
use mathlib.Core.Bool.{Bool, true, false, false≢true}
use mathlib.Core.List.{List, ◌++◌}
use mathlib.Core.Option.{Option, none, some}
use Prim.Native.Nat.{ℕ, zero, suc, ◌+◌, ◌-◌, ◌/◌, ◌<◌, ◌≤◌}
use native.Mathlib.Omega.{arith}
use native.Mathlib.Numerals.{add-one}
use lib.Dec.{eqb}
use lib.ListN.{length, get_or, drop, take, set, length-set, take-append-drop}
use lib.Seq.{get_or-set_same, get_or-set_other}
use Rattle.std.specs.Prelude.{if◌then◌else◌, Option as Optional, Some, None}
use Rattle.terms.specs.Term.{Term, size, same}
use Rattle.terms.proofs.Places.{size_pos}
use Rattle.terms.proofs.Shape.{none≢some, Says, eqb_says, Decides, same_says}
use Rattle.unify.specs.Unify.{Binding}
use Rattle.rewriting.specs.Rewrite.{bound, bind_to}
use Rattle.matching.specs.Cells.{cells, Stands}
use Rattle.matching.specs.Held.{Slot, Rep, Spot, Within, Again, BoundTo, Advanced}
use Rattle.matching.proofs.Celled.{cells_unique, stands_size, stands_run, stands_length}

slot_free : (tab T : List ℕ) (n k : ℕ) (o : Option Term) → k ≡ 0 → Slot tab T n k o → o ≡ none
slot_free tab T n zero none e s = refl
slot_free tab T n zero (some u) e s = absurd s
slot_free tab T n (suc k) none e s = absurd s
slot_free tab T n (suc k) (some u) e s = absurd (omega arith)

slot_bound : (tab T : List ℕ) (n k a : ℕ) (o : Option Term) → 0 < k → a ≡ k - 1 → Slot tab T n k o → (u : Term) × (o ≡ some u) × Stands tab T n a u
slot_bound tab T n zero a o h e s = absurd (omega arith)
slot_bound tab T n (suc k) a none h e s = absurd s
slot_bound tab T n (suc k) a (some u) h e s = let q : k ≡ a = omega arith in (u, refl, subst (λ z. Stands tab T n z u) q s)

-- `again`: as many cells must be the same
module _ (T : List ℕ) (a j n e : ℕ) (l : j < length T) (nn : n ≡ get_or T a 0 / 256) (ee : e ≡ j + n) where
  -- equal terms have the size that the cell at a says
  size_is : (tab : List ℕ) (m : ℕ) (u v : Term) → Stands tab T m a v → v ≡ u → n ≡ size u
  size_is tab m u v s q = nn ∙ stands_size tab T m a v s ∙ ap size q

  pub again_long : length T < e → Again T a j None
  again_long h = record {
    place = λ k z. absurd (cc);
    equal = λ tab m u v s o q. absurd (let g = size_is tab m u v o q in let k = stands_length tab T m j u s l in omega arith);
    other = λ tab m u v s o q. refl;
  }

  module _ {p : Bool} (t : Decides p (take (a + n - a) (drop a T) ≡ take (e - j) (drop j T))) {r : Bool} (rr : r ≡ p) where
    tells : (tab : List ℕ) (m : ℕ) (u v : Term) → Stands tab T m j u → Stands tab T m a v → v ≡ u → r ≡ true
    tells tab m u v s o q =
        let g : n ≡ size v = nn ∙ stands_size tab T m a v o in
        let k : size v ≡ size u = ap size q in
        rr ∙ t.1 (stands_run tab T m a v o (a + n - a) (omega arith) ∙ ap cells q ∙ sym (stands_run tab T m j u s (e - j) (omega arith)))

    told : (tab : List ℕ) (m : ℕ) (u v : Term) → Stands tab T m j u → Stands tab T m a v → r ≡ true → v ≡ u
    told tab m u v s o i =
        let g : n ≡ size v = nn ∙ stands_size tab T m a v o in
        let k : take (e - j) (drop j T) ≡ cells v = sym (t.0 (sym rr ∙ i)) ∙ stands_run tab T m a v o (a + n - a) (omega arith) in
        let d : drop j T ≡ cells v ++ drop (e - j) (drop j T) = sym (take-append-drop (e - j) (drop j T)) ∙ ap (λ z. z ++ drop (e - j) (drop j T)) k in
        cells_unique tab v u (drop (e - j) (drop j T)) s.rest o.wf s.wf (sym d ∙ s.text)

    pub again_same : r ≡ true → e ≤ length T → Again T a j (Some e)
    again_same i h = record {
      place = λ k z. let q : e ≡ k = cc in omega arith;
      equal = λ tab m u v s o q. let g = size_is tab m u v o q in let k : e ≡ j + size u = omega arith in ap Some k;
      other = λ tab m u v s o q. absurd (q (told tab m u v s o i));
    }

    pub again_other : r ≡ false → Again T a j None
    again_other i = record {
      place = λ k z. absurd (cc);
      equal = λ tab m u v s o q. absurd (false≢true (sym i ∙ tells tab m u v s o q));
      other = λ tab m u v s o q. refl;
    }

-- a place that is held
pub held_at : (T B : List ℕ) (x k : ℕ) → Within T B → x < 16 → k ≡ get_or B x 0 → 0 < k → (k - 1 < length T) × (k - 1 + get_or T (k - 1) 0 / 256 ≤ length T)
held_at T B x k w h e z =
    let s : Spot T k = subst (λ n. Spot T n) (sym e) (w x h) in
    let p = s.place in
    (omega arith, s.inside (λ n. omega arith))

module _ (T : List ℕ) (b j : ℕ) (B : List ℕ) (w : Within T B) (l : j < length T) where
  module _ (x : ℕ) (p : x ≡ b - 128) (q : 128 ≤ b) where
    -- a variable out of range, or no sized cell
    adv_not : (x < 16 → (tab : List ℕ) (n : ℕ) (u : Term) → Stands tab T n j u → ⊥) → Advanced T b j B None B
    adv_not z = record {
      same = refl;
      within = w;
      place = λ k e. absurd (cc);
      differs = λ k. absurd (omega arith);
      symbol = λ f k. absurd (omega arith);
      variable = λ y c m tab n u s. absurd (z (omega arith) tab n u s);
    }

    module _ (h : x < 16) where
      -- a variable that is bound
      bound_go : (r : Optional ℕ) (tab : List ℕ) (n a : ℕ) (u v : Term) (bs : List Binding) → Again T a j r → Stands tab T n j u → Stands tab T n a v →
          Rep tab T n B bs → (c : Bool) → Says (v ≡ u) c →
          BoundTo tab T n j u r B (if c then some bs else none)
      bound_go r tab n a u v bs g s o rep true y = (g.equal tab n u v s o y, rep)
      bound_go r tab n a u v bs g s o rep false y = g.other tab n u v s o y

      pub adv_bound : (k a : ℕ) (r : Optional ℕ) → k ≡ get_or B x 0 → 0 < k → a ≡ k - 1 → Again T a j r → Advanced T b j B r B
      unfolding bind_to
      adv_bound k a r kk z aa g = record {
        same = refl;
        within = w;
        place = g.place;
        differs = λ k. absurd (omega arith);
        symbol = λ f k. absurd (omega arith);
        variable = λ y c m tab n u s bs o.
            let e : y ≡ x = omega arith in
            let (v, i, st) = slot_bound tab T n (get_or B x 0) a (bound bs x) (omega arith) (omega arith) (o x h) in
            subst (λ a. BoundTo tab T n j u r B (bind_to a u bs (bound bs a))) (sym e)
            (rw i (bound_go r tab n a u v bs g s st o (same v u) (same_says v u)));
      }

      -- a variable that is free so far
      module _ (n : ℕ) (nn : n ≡ get_or T j 0 / 256) where
        pub adv_none : n ≡ 0 → Advanced T b j B None B
        adv_none z = adv_not λ i tab m u s. omega (arith, size_pos u, stands_size tab T m j u s)

        pub adv_long : length T < j + n → Advanced T b j B None B
        adv_long z = adv_not λ i tab m u s. omega (arith, stands_length tab T m j u s l, stands_size tab T m j u s)

        -- its place is written
        module _ (v : 16 ≤ length B) (nz : n ≡ 0 → ⊥) (f : j + n ≤ length T) where
          here : Spot T (j + 1)
          here = let z : j + 1 - 1 ≡ j = omega arith in record { place = omega arith; sized = λ k. rw z (omega arith); inside = λ k. rw z (omega arith) }

          written_within : Within T (set B x (j + 1))
          written_within y m = go (eqb y x) (eqb_says y x)
            where
              go : (c : Bool) → Says (y ≡ x) c → Spot T (get_or (set B x (j + 1)) y 0)
              go true e = rw (e, get_or-set_same B x (j + 1) 0 (omega arith)) here
              go false e = rw (get_or-set_other B x y (j + 1) 0 e) (w y m)

          free_go : (tab : List ℕ) (m : ℕ) (u : Term) (bs : List Binding) → Stands tab T m j u → Rep tab T m B bs → (y : ℕ) → y < 16 → (c : Bool) →
              Says (y ≡ x) c →
              Slot tab T m (get_or (set B x (j + 1)) y 0) (if c then some u else bound bs y)
          free_go tab m u bs s r y g true e = rw (e, get_or-set_same B x (j + 1) 0 (omega arith), add-one j) s
          free_go tab m u bs s r y g false e = rw (get_or-set_other B x y (j + 1) 0 e) (r y g)

          free_bound : (tab : List ℕ) (m : ℕ) (u : Term) (bs : List Binding) → Stands tab T m j u → Rep tab T m B bs → (o : Option Term) → o ≡ none →
              BoundTo tab T m j u (Some (j + n)) (set B x (j + 1)) (bind_to x u bs o)
          unfolding bind_to bound
          free_bound tab m u bs s r none z =
              (ap (λ k. Some (j + k)) (nn ∙ stands_size tab T m j u s), λ y g. free_go tab m u bs s r y g (eqb y x) (eqb_says y x))
          free_bound tab m u bs s r (some a) z = absurd (none≢some (sym z))

          pub adv_free : get_or B x 0 ≡ 0 → Advanced T b j B (Some (j + n)) (set B x (j + 1))
          adv_free z = record {
            same = length-set B x (j + 1);
            within = written_within;
            place = λ k e. let q : j + n ≡ k = cc in omega arith;
            differs = λ k. absurd (omega arith);
            symbol = λ d k. absurd (omega arith);
            variable = λ y i m tab k u s bs r.
                let g : y ≡ x = omega arith in
                subst (λ a. BoundTo tab T k j u (Some (j + n)) (set B x (j + 1)) (bind_to a u bs (bound bs a))) (sym g)
                (free_bound tab k u bs s r (bound bs x) (slot_free tab T k (get_or B x 0) (bound bs x) z (r x h)));
          }
