-- The right side of one rule, normalised by all live rules: written back (`composed`), or the end and the units left (`stopped`). Assumes nothing.
-- Read first: specs/Rights (Amid, One), proofs/Narrow, slots/proofs/{Listing, Layouts}.
use mathlib.Core.Path.{◌≡◌, refl, sym, ap, ◌∙◌, subst}
use mathlib.Core.List.{List, ◌∷◌, ◌++◌}
use Prim.Native.Nat.{ℕ, suc, ◌+◌, ◌-◌, ◌<◌}
use native.Mathlib.Omega.{arith}
use native.Mathlib.Decide.{ℕ_discrete}
use native.Mathlib.Nat.{sub-zero}
use lib.ListN.{length, drop, take, length-map}
use Rattle.limits.specs.Limits.{most_symbols, most_variables, most_apart}
use Rattle.terms.specs.Term.{Term, Pair, size}
use Rattle.terms.proofs.Flats.{widen, made_wf}
use Rattle.rewriting.specs.Overlap.{Rule, sides_of}
use Rattle.rewriting.specs.Rewrite.{Paid, done, stop, normalise}
use Rattle.std.specs.Prelude.{Ok, Err, Some, None}
use Rattle.rewriting.proofs.Holds.{Holds}
use Rattle.completion.proofs.Derived.{sides_append}
use Rattle.slots.specs.Slots.{slot, mark_of, right_of, Layout, PairAt, Stored, OnlySlot, PutRight}
use Rattle.slots.proofs.Listing.{all_split, all_join, all_first, all_rest, all_cons, stored_moved}
use Rattle.slots.proofs.Layouts.{layout_put, pair_right}
use Rattle.normaliser.specs.Settled.{end_of, FormStops, NormalIs, Normalised}
use Rattle.normaliser.proofs.Stopping.{stopping, stopped_end}
use Rattle.normaliser.proofs.Outcomes.{apart, same_length, not_stopped}
use Rattle.normaliser.specs.declared.Stop.{Stop}
use Rattle.normaliser.specs.declared.Reached.{Reached}
use Rattle.compose.specs.Rights.{Amid, RightsOnly, OneIs, One}
use Rattle.compose.proofs.Narrow.{Below, normal_below}

length_sides : (a : List Rule) → length (sides_of a) ≡ length a
length_sides a = length-map a (λ r. r.sides)

-- nothing changed
pub rights_none : (a e : ℕ) (slots : List ℕ) → RightsOnly a e slots slots
rights_none a e slots = record { same = refl; marks = λ i. refl; before = λ i h. refl; behind = λ i h. refl; layout = λ n y. y }

rule_here : (tab rules : List ℕ) (k count : ℕ) (before : List Rule) (old : Rule) (after : List Rule) →
    Amid tab rules k count before old after → PairAt most_variables tab rules k old.sides
rule_here tab rules k count before old after h =
    let s = all_split _ 0 (sides_of before) (sides_of (old ∷ after)) (subst (λ z. Stored tab rules 0 z) (sides_append before (old ∷ after)) h.stored) in
    let e : 0 + length (sides_of before) ≡ k = omega (arith, length_sides before, h.place) in
    all_first _ k old.sides (sides_of after) (subst (λ z. Stored tab rules z (sides_of (old ∷ after))) e s.1)

-- another right side in slot k
right_put : (tab rules : List ℕ) (k : ℕ) (right rules' : List ℕ) (before : List Pair) (old : Pair) (after : List Pair) (x : Term) → length before ≡ k →
    OnlySlot rules k rules' → PairAt most_variables tab rules' k (record { left = old.left; right = x }) →
    Stored tab rules 0 (before ++ (old ∷ after)) → Stored tab rules' 0 (before ++ (record { left = old.left; right = x } ∷ after))
right_put tab rules k right rules' before old after x e only here h =
    let s = all_split _ 0 before (old ∷ after) h in
    let f : 0 + length before ≡ k = omega (arith, e) in
    let t = all_rest _ k old after (subst (λ z. Stored tab rules z (old ∷ after)) f s.1) in
    all_join _ 0 before (record { left = old.left; right = x } ∷ after)
    (stored_moved tab rules rules' 0 0 before (λ i q. only.others (0 + i) (λ d. omega arith)) s.0)
    (subst (λ z. Stored tab rules' z (record { left = old.left; right = x } ∷ after)) (sym f)
    (all_cons _ k (record { left = old.left; right = x }) after here
    (stored_moved tab rules rules' (suc k) (suc k) after (λ i q. only.others (suc k + i) (λ d. omega arith)) t)))

module _ (tab rules : List ℕ) (k count units : ℕ) (t out out' : List ℕ) (o : Reached) (y : Layout rules count) (lower : k < count)
    (is : t ≡ right_of (slot rules k)) (s : Normalised normalise tab rules count t out out' units o) where
  module _ (before : List Rule) (old : Rule) (after : List Rule) (h : Amid tab rules k count before old after) where
    here : PairAt most_variables tab rules k old.sides
    here = rule_here tab rules k count before old after h

    normalised : NormalIs tab out' units o (normalise (before ++ (old ∷ after)) old.sides.right units)
    normalised =
        s.answer (before ++ (old ∷ after)) h.stored (sym h.total) old.sides.right
        (widen most_variables most_apart tab old.sides.right (omega arith) here.sides.right_wf) (is ∙ here.sides.right_bytes)

    low : Holds (Below most_variables) (λ e m. Unit {0}) (normalise (before ++ (old ∷ after)) old.sides.right units)
    low = normal_below tab rules (before ++ (old ∷ after)) h.stored old.sides.right here.sides.right_wf units

  -- no answer: nothing is written
  pub stopped : (f : Stop) → o.form ≡ Err f → One tab rules rules k count units (record { end = Some (end_of f); units = units - o.paid })
  stopped f g = record {
    only = rights_none k (k + 1) rules;
    left_over = omega arith;
    answer = λ before old after h. go before old after (normalise (before ++ (old ∷ after)) old.sides.right units) (normalised before old after h);
  }
    where
      go : (before : List Rule) (old : Rule) (after : List Rule) (p : Paid Term) → NormalIs tab out' units o p →
          OneIs tab rules before old after (record { end = Some (end_of f); units = units - o.paid }) p
      go before old after (done x left) e = absurd (apart g e.0)
      go before old after (stop c left) e = (ap Some (stopped_end (stopping c f (subst (FormStops c) g e.0))), omega (arith, e.1))

  -- the answer is written
  module _ (len : ℕ) (normal : o.form ≡ Ok len) (rules' : List ℕ) (written : PutRight rules k (take (len - 0) (drop 0 out')) rules') where
    only_right : RightsOnly k (k + 1) rules rules'
    only_right = record {
      same = written.only.same;
      marks = λ i. mark_kept i (ℕ_discrete i k);
      before = λ i h. written.only.others i (λ e. omega arith);
      behind = λ i h. written.only.others i (λ e. omega arith);
      layout = λ n z. layout_put z written.only (written.short (y.short k lower));
    }
      where
        mark_kept : (i : ℕ) → Dec (i ≡ k) → mark_of (slot rules' i) ≡ mark_of (slot rules i)
        mark_kept i (yes e) = rw e written.mark
        mark_kept i (no n) = ap mark_of (written.only.others i n)

    pub composed : One tab rules rules' k count units (record { end = None; units = units - o.paid })
    composed = record {
      only = only_right;
      left_over = omega arith;
      answer =
          λ before old after h. go before old after h (normalise (before ++ (old ∷ after)) old.sides.right units) (normalised before old after h)
          (low before old after h);
    }
      where
        go : (before : List Rule) (old : Rule) (after : List Rule) → Amid tab rules k count before old after →
            (p : Paid Term) → NormalIs tab out' units o p → Holds (Below most_variables) (λ e m. Unit {0}) p →
            OneIs tab rules' before old after (record { end = None; units = units - o.paid }) p
        go before old after h (done x left) e b =
            let n : len ≡ size x = same_length normal e.0 in (
              refl,
              omega (arith, e.1),
              right_put tab rules k (take (len - 0) (drop 0 out')) rules' (sides_of before) old.sides (sides_of after) x
                  (length_sides before ∙ h.place) written.only
                  (pair_right written (here before old after h) (made_wf (λ f. f < most_symbols) most_apart most_variables tab x e.3 b)
                  (ap (λ z. take z out') (sub-zero len ∙ n) ∙ e.2))
                  (subst (λ z. Stored tab rules 0 z) (sides_append before (old ∷ after)) h.stored),
            )
        go before old after h (stop c left) e b = absurd (not_stopped normal c e.0)
