-- Step 6: one older rule stays or goes behind all pairs, as the definition's `kept` and `removed` say; and the loop over all of them. Assumes nothing.
-- Read first: specs/Sifting, completion/specs/Turn (kept, removed), Rows.
use mathlib.Core.Path.{◌≡◌, refl, sym, ap, ◌∙◌, subst}
use mathlib.Core.Bool.{Bool, true, false}
use mathlib.Core.List.{List, [], ◌∷◌, ◌++◌, append_assoc, append-nil, map, map-append}
use Prim.Native.Nat.{ℕ, suc, ◌+◌, ◌-◌, ◌<◌, ◌≤◌}
use native.Mathlib.Omega.{arith}
use lib.ListN.{length, length-append}
use lib.Seq.{append_snoc}
use Rattle.limits.specs.Limits.{most_variables}
use Rattle.std.specs.Prelude.{if◌then◌else◌}
use Rattle.terms.proofs.Flats.{widen}
use Rattle.rewriting.specs.Overlap.{Rule}
use Rattle.normaliser.specs.Settled.{Reducible}
use Rattle.slots.specs.Slots.{slot, left_of, Layout, PairAt, Marked, Holds, MovedLast}
use Rattle.slots.proofs.Listing.{all_one}
use Rattle.slots.proofs.Changes.{moved_layout, moved_holds}
use Rattle.completion.specs.Turn.{Candidate, rewrites, kept, removed}
use Rattle.inputs.specs.Inputs.{marked}
use Rattle.collapse.specs.Rows.{as_removed}
use Rattle.collapse.specs.Sifting.{MovedIf, SiftedOne, Ruled, Sifted}
use Rattle.completion.specs.Calls.{origin_bytes}
use Rattle.items.specs.Written.{row}
use Rattle.collapse.proofs.Rows.{held_more, length_held, length_rows, length_marked, row_at}

-- `sift_one`
tested : (tab new slots t : List ℕ) (i : ℕ) (r : Bool) → t ≡ left_of (slot slots i) → Reducible tab new 1 t r → (x y : Rule) →
    PairAt most_variables tab new 0 x.sides → PairAt most_variables tab slots i y.sides → r ≡ rewrites x y
unfolding rewrites
tested tab new slots t i r e h x y p q =
    h.answer (x ∷ []) (all_one (PairAt 16 tab new) 0 x.sides p) refl y.sides.left
    (widen 16 32 tab y.sides.left (omega arith) q.sides.left_wf) (e ∙ q.sides.left_bytes)

module _ (tab new slots : List ℕ) (i count : ℕ) (t : List ℕ) (r : Bool) (q : t ≡ left_of (slot slots i)) (h : Reducible tab new 1 t r) where
  pub one_goes : (slots' : List ℕ) → r ≡ true → MovedLast slots i count slots' → SiftedOne tab new slots i count slots' r
  one_goes slots' e m = record { moved = subst (λ z. MovedIf slots i count slots' z) (sym e) m; answer = tested tab new slots t i r q h }

  pub one_stays : r ≡ false → SiftedOne tab new slots i count slots r
  one_stays e = record { moved = subst (λ z. MovedIf slots i count slots z) (sym e) refl; answer = tested tab new slots t i r q h }

-- the first of the rules that are left to look at
kept_one : (x old : Rule) (rest : List Rule) → rewrites x old ≡ false → kept x (old ∷ rest) ≡ old ∷ kept x rest
unfolding kept
kept_one x old rest e = rw e

kept_none : (x old : Rule) (rest : List Rule) → rewrites x old ≡ true → kept x (old ∷ rest) ≡ kept x rest
unfolding kept
kept_none x old rest e = rw e

removed_one : (x old : Rule) (rest : List Rule) → rewrites x old ≡ true → removed x (old ∷ rest) ≡ as_removed old ∷ removed x rest
unfolding removed as_removed
removed_one x old rest e = rw e

removed_none : (x old : Rule) (rest : List Rule) → rewrites x old ≡ false → removed x (old ∷ rest) ≡ removed x rest
unfolding removed
removed_none x old rest e = rw e

-- of the older rules ks stay, rm went behind all that waited, and the rest is still to look at
pub record Sift (tab : List ℕ) (x : Rule) (older : List Rule) (ws : List Candidate) (slots : List ℕ) (i stay count : ℕ) : Type 0 where
  pub ks : List Rule
  pub rest : List Rule
  pub rm : List Candidate
  pub holds : Holds tab slots 0 (map row ks ++ (map row rest ++ (row x ∷ map marked (ws ++ rm))))
  pub i_is : i ≡ length ks
  pub stay_is : stay ≡ i + suc (length rest)
  pub count_is : count ≡ stay + length (ws ++ rm)
  pub kept_is : ks ++ kept x rest ≡ kept x older
  pub removed_is : rm ++ removed x rest ≡ removed x older

module _ (tab new slots : List ℕ) (i stay count : ℕ) (low : i + 1 < stay) (slots' : List ℕ) (x : Rule) (older : List Rule) (ws : List Candidate)
    (p : PairAt most_variables tab new 0 x.sides) (g : Sift tab x older ws slots i stay count) where
  -- the rule at i
  at_i : (old : Rule) (rest : List Rule) → g.rest ≡ old ∷ rest → PairAt most_variables tab slots i old.sides
  unfolding as_removed
  at_i old rest q =
      (row_at tab slots i (map row g.ks) (row old) (map row rest ++ (row x ∷ map marked (ws ++ g.rm)))
      (subst (λ z. Holds tab slots 0 (map row g.ks ++ (map row z ++ (row x ∷ map marked (ws ++ g.rm))))) q g.holds)
      (length_rows g.ks ∙ sym g.i_is)
      ).pair

  gone : SiftedOne tab new slots i count slots' true → (rest : List Rule) → g.rest ≡ rest → Sift tab x older ws slots' i (stay - 1) count
  unfolding as_removed origin_bytes
  gone h [] q = let s = g.stay_is in absurd (omega (arith, ap length q))
  gone h (old ∷ rest) q =
      let yes : rewrites x old ≡ true = sym (h.answer x old p (at_i old rest q)) in
      let c : Candidate = as_removed old in
      let back : List Marked = row x ∷ map marked (ws ++ g.rm) in
      let all : ws ++ (g.rm ++ (c ∷ [])) ≡ (ws ++ g.rm) ++ (c ∷ []) = sym (append_assoc ws g.rm (c ∷ [])) in
      let s = g.stay_is in
      let n = g.count_is in
      let k = g.i_is in
      let m : length (map row rest ++ back) ≡ length rest + suc (length (ws ++ g.rm)) =
      length-append (map row rest) back ∙ omega (arith, length_rows rest, length_marked (ws ++ g.rm)) in
      record {
        ks = g.ks;
        rest = rest;
        rm = g.rm ++ (c ∷ []);
        holds =
            subst (λ z. Holds tab slots' 0 z)
            (append_assoc (map row g.ks) (map row rest ++ back) (row old ∷ [])
            ∙ ap (λ z. map row g.ks ++ z)
            (append_assoc (map row rest) back (row old ∷ [])
            ∙ ap (λ z. map row rest ++ (row x ∷ z)) (sym (map-append marked (ws ++ g.rm) (c ∷ [])) ∙ ap (map marked) (sym all))))
            (moved_holds tab (map row g.ks) (row old) (map row rest ++ back)
            (subst (λ z. Holds tab slots 0 (map row g.ks ++ (map row z ++ back))) q g.holds)
            (length_rows g.ks ∙ sym k)
            (length-append (map row g.ks) (row old ∷ (map row rest ++ back)) ∙ omega (arith, length_rows g.ks, ap length q))
            h.moved);
        i_is = k;
        stay_is = omega (arith, ap length q);
        count_is = omega (arith, ap length q, ap length all, length-append (ws ++ g.rm) (c ∷ []));
        kept_is = ap (λ z. g.ks ++ z) (sym (kept_none x old rest yes) ∙ ap (kept x) (sym q)) ∙ g.kept_is;
        removed_is = append_snoc g.rm c (removed x rest) ∙ ap (λ z. g.rm ++ z) (sym (removed_one x old rest yes) ∙ ap (removed x) (sym q)) ∙ g.removed_is;
      }

  kept_on : SiftedOne tab new slots i count slots' false → (rest : List Rule) → g.rest ≡ rest → Sift tab x older ws slots' (i + 1) stay count
  kept_on h [] q = let s = g.stay_is in absurd (omega (arith, ap length q))
  kept_on h (old ∷ rest) q =
      let no : rewrites x old ≡ false = sym (h.answer x old p (at_i old rest q)) in
      let back : List Marked = row x ∷ map marked (ws ++ g.rm) in
      let s = g.stay_is in
      record {
        ks = g.ks ++ (old ∷ []);
        rest = rest;
        rm = g.rm;
        holds =
            subst (λ z. Holds tab z 0 (map row (g.ks ++ (old ∷ [])) ++ (map row rest ++ back))) (sym h.moved)
            (subst (λ z. Holds tab slots 0 z)
            (ap (λ z. map row g.ks ++ (map row z ++ back)) q
            ∙ sym (append_assoc (map row g.ks) (row old ∷ []) (map row rest ++ back))
            ∙ ap (λ z. z ++ (map row rest ++ back)) (sym (map-append row g.ks (old ∷ []))))
            g.holds);
        i_is = ap (λ z. z + 1) g.i_is ∙ sym (length-append g.ks (old ∷ []));
        stay_is = omega (arith, ap length q);
        count_is = g.count_is;
        kept_is = append_snoc g.ks old (kept x rest) ∙ ap (λ z. g.ks ++ z) (sym (kept_one x old rest no) ∙ ap (kept x) (sym q)) ∙ g.kept_is;
        removed_is = ap (λ z. g.rm ++ z) (sym (removed_none x old rest no) ∙ ap (removed x) (sym q)) ∙ g.removed_is;
      }

-- the loop
pub record SiftedTo (tab new slots : List ℕ) (live count : ℕ) (slots' : List ℕ) (stay i : ℕ) : Type 0 where
  pub layout : Layout slots' count
  pub low : i < stay
  pub fewer : stay ≤ live
  pub sifted : (x : Rule) (older : List Rule) (ws : List Candidate) → PairAt most_variables tab new 0 x.sides →
      Ruled tab slots live count (older ++ (x ∷ [])) ws →
      Sift tab x older ws slots' i stay count

module _ (tab new slots : List ℕ) (live count : ℕ) where
  started : (x : Rule) (older : List Rule) (ws : List Candidate) → Ruled tab slots live count (older ++ (x ∷ [])) ws → Sift tab x older ws slots 0 live count
  started x older ws r =
      let e : ws ≡ ws ++ [] = sym (append-nil ws) in
      let n = length-append older (x ∷ []) in
      let l = r.live_are in
      let c = r.counted in
      record {
        ks = [];
        rest = older;
        rm = [];
        holds =
            subst (λ z. Holds tab slots 0 z)
            (held_more older x ws ∙ ap (λ z. map row older ++ (row x ∷ map marked z)) e)
            r.holds;
        i_is = refl;
        stay_is = omega (arith, n);
        count_is = omega (arith, length_held (older ++ (x ∷ [])) ws, ap length e);
        kept_is = refl;
        removed_is = refl;
      }

  pub sifting_start : Layout slots count → 0 < live → SiftedTo tab new slots live count slots live 0
  sifting_start y h = record { layout = y; low = h; fewer = omega arith; sifted = λ x older ws p r. started x older ws r }

  module _ (slots' : List ℕ) (stay i : ℕ) (g : SiftedTo tab new slots live count slots' stay i) where
    module _ (slots'' : List ℕ) (r : Bool) (turn : i + 1 < stay) (h : SiftedOne tab new slots' i count slots'' r) where
      pub sifting_goes : r ≡ true → live ≤ count → SiftedTo tab new slots live count slots'' (stay - 1) i
      sifting_goes e n =
          let f = g.fewer in
          let k : SiftedOne tab new slots' i count slots'' true = subst (λ z. SiftedOne tab new slots' i count slots'' z) e h in
          record {
            layout = moved_layout k.moved g.layout (omega arith);
            low = omega arith;
            fewer = omega arith;
            sifted = λ x older ws p q. let s = g.sifted x older ws p q in gone tab new slots' i stay count turn slots'' x older ws p s k s.rest refl;
          }

      pub sifting_stays : r ≡ false → SiftedTo tab new slots live count slots'' stay (i + 1)
      sifting_stays e =
          let f = g.fewer in
          let k : SiftedOne tab new slots' i count slots'' false = subst (λ z. SiftedOne tab new slots' i count slots'' z) e h in
          record {
            layout = subst (λ z. Layout z count) (sym k.moved) g.layout;
            low = turn;
            fewer = f;
            sifted = λ x older ws p q. let s = g.sifted x older ws p q in kept_on tab new slots' i stay count turn slots'' x older ws p s k s.rest refl;
          }

    module _ (end : stay ≤ i + 1) where
      ended : (x : Rule) (older : List Rule) (ws : List Candidate) (s : Sift tab x older ws slots' i stay count) (rest : List Rule) → s.rest ≡ rest →
          Ruled tab slots' stay count (kept x older ++ (x ∷ [])) (ws ++ removed x older)
      unfolding kept removed
      ended x older ws s (y ∷ rest) q = let n = s.stay_is in absurd (omega (arith, ap length q))
      ended x older ws s [] q =
          let e : s.ks ≡ kept x older = sym (append-nil s.ks) ∙ ap (λ z. s.ks ++ kept x z) (sym q) ∙ s.kept_is in
          let d : s.rm ≡ removed x older = sym (append-nil s.rm) ∙ ap (λ z. s.rm ++ removed x z) (sym q) ∙ s.removed_is in
          let n = s.stay_is in
          let k = s.i_is in
          let c = s.count_is in
          let one = length-append s.ks (x ∷ []) in
          let w : Ruled tab slots' stay count (s.ks ++ (x ∷ [])) (ws ++ s.rm) = record {
            holds =
                subst (λ z. Holds tab slots' 0 z)
                (ap (λ z. map row s.ks ++ (map row z ++ (row x ∷ map marked (ws ++ s.rm)))) q ∙ sym (held_more s.ks x (ws ++ s.rm)))
                s.holds;
            live_are = omega (arith, ap length q);
            counted = omega (arith, ap length q, length_held (s.ks ++ (x ∷ [])) (ws ++ s.rm));
          } in
          subst (λ z. Ruled tab slots' stay count (kept x older ++ (x ∷ [])) (ws ++ z)) d
          (subst (λ z. Ruled tab slots' stay count (z ++ (x ∷ [])) (ws ++ s.rm)) e w)

      pub sifting_end : Sifted tab new slots live count slots' stay
      sifting_end =
          let l = g.low in
          record {
            layout = g.layout;
            some = omega arith;
            fewer = g.fewer;
            sifted = λ x older ws p r. let s = g.sifted x older ws p r in ended x older ws s s.rest refl;
          }
