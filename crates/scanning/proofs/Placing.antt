-- `scan_at` by what the overlap there is: none, too large (its peak or a side), or a pair that `join` compares. Assumes nothing.
-- Read first: forms/specs/Forms (compared, PairWalk), specs/Walk (visit, at_place), overlaps/specs/Answer (Overlapped), proofs/WellFormed, proofs/Going.
use mathlib.Core.Path.{◌≡◌, refl, sym, ◌∙◌, ap, subst, subst₂}
use mathlib.Core.Bool.{Bool, true, false}
use mathlib.Core.List.{List, map}
use mathlib.Core.Option.{Option, none, some}
use Prim.Native.Nat.{ℕ, ◌<◌}
use native.Mathlib.Omega.{arith}
use lib.Dec.{ltb}
use lib.ListN.{length, get_or, length-map, get_or-map}
use Rattle.terms.specs.Term.{Pair, size, renamed}
use Rattle.terms.proofs.Bytes.{length_bytes}
use Rattle.rewriting.specs.Overlap.{Rule, Overlap, overlap, Place}
use Rattle.rewriting.specs.Rewrite.{too_large, Paid, done, stop, Paying, return, end_with, and_then, ◌>>=◌, end_if, hold, normalise_pair}
use Rattle.completion.specs.Turn.{Origin, overlapping, Candidate, scan_overlap, if_different, if_different_overlap}
use Rattle.completion.specs.Calls.{origin_bytes}
use Rattle.slots.specs.Slots.{slot, left_length, Layout, PairAt, Stored, PutMark, overlapping_bytes}
use Rattle.slots.proofs.Layouts.{layout_less, left_long}
use Rattle.slots.proofs.Listing.{all_at}
use Rattle.critical_pairs.specs.Placed.{InSlot}
use Rattle.overlaps.specs.declared.Met.{Met}
use Rattle.overlaps.specs.declared.Met.TheVariants.{Nothing, TooLarge, Pair as Met-pair}
use Rattle.overlaps.specs.Answer.{PairIs, Says, Possible, Overlapped}
use Rattle.rewriting.specs.declared.End.TheVariants.{TooLarge as TooLargeEnd}
use Rattle.joining.specs.declared.Walk.{Walk}
use Rattle.joining.specs.declared.Joined.TheVariants.{Equal}
use Rattle.std.specs.Prelude.{Ok, Err}
use Rattle.forms.specs.Forms.{compared, large, on, PairWalk}
use Rattle.joining.proofs.Rooms.{found_is, units_is}
use Rattle.forms.proofs.Walking.{walked_from}
use Rattle.scanning.specs.declared.spots.Spot.{Spot}
use Rattle.scanning.specs.Walk.{visit, rule_at, no_rule, RulesIn, OverlapsAt, at_place, Walks}
use Rattle.scanning.proofs.WellFormed.{overlap_wf}
use Rattle.scanning.proofs.Going.{lent_none, lent_mark}

-- the definition at a place
module _ (rs : List Rule) (at : Place) where
  abbrev here : Option Overlap
  here = overlap at.inner.sides at.outer.sides at.position

  abbrev origin_of : Origin
  origin_of = overlapping at.inner.number at.outer.number at.position

  pub visit_none : here ≡ none → (next : Paying Candidate) → visit rs at next ≡ next
  unfolding visit scan_overlap ◌>>=◌ and_then return if_different_overlap
  visit_none e next = rw e

  -- by what the overlap is found to be: `one` is the slot where a pair stands
  abbrev Visited : List ℕ → Met → Type 0
  Visited one Nothing = (next : Paying Candidate) (u : ℕ) → visit rs at next u ≡ next u
  Visited one TooLarge = (next : Paying Candidate) (u : ℕ) → visit rs at next u ≡ stop too_large u
  Visited one Met-pair = (v : Overlap) × (here ≡ some v) × InSlot one (renamed v.sides) ×
      ((next : Paying Candidate) (u : ℕ) → visit rs at next u ≡ compared rs origin_of (renamed v.sides) next u)

  regroup : (next : Paying Candidate) (p : Paid Pair) →
      and_then (and_then p (λ f. return (some f))) (λ f. if_different_overlap at f next) ≡ and_then p (λ f. if_different origin_of f next)
  unfolding and_then return if_different_overlap
  regroup next (done f k) = refl
  regroup next (stop x k) = refl

  visit_some : (one : List ℕ) (m : Met) (v : Overlap) → here ≡ some v → (a b c : Bool) →
      ltb 120 (size v.peak) ≡ a → ltb 120 (size v.sides.left) ≡ b → ltb 120 (size v.sides.right) ≡ c →
      PairIs one m (renamed v.sides) a b c → Visited one m
  unfolding visit compared scan_overlap ◌>>=◌ and_then hold end_if end_with return
  visit_some one m v e true b c p q r s = subst (Visited one) (sym s) (λ next u. rw (e, p))
  visit_some one m v e false true c p q r s = subst (Visited one) (sym s) (λ next u. rw (e, p, q))
  visit_some one m v e false false true p q r s = subst (Visited one) (sym s) (λ next u. rw (e, p, q, r))
  visit_some one m v e false false false p q r s =
      subst (Visited one) (sym s.0) (v, e, s.1, λ next u. rw (e, p, q, r) (regroup next (normalise_pair rs (renamed v.sides) u)))

  visited : (one : List ℕ) (m : Met) (o : Option Overlap) → here ≡ o → Says one m o → Visited one m
  visited one m none e s = subst (Visited one) (sym s) (λ next u. ap (λ (f : Paying Candidate). f u) (visit_none e next))
  visited one m (some v) e s = visit_some one m v e _ _ _ refl refl refl s

-- what stands in a slot
pub stored_here : {A : Type 0} (sides : A → Pair) (d : A) {tab slots : List ℕ} (xs : List A) → Stored tab slots 0 (map sides xs) → (i : ℕ) → i < length xs →
    PairAt 16 tab slots i (sides (get_or xs i d))
stored_here sides d {tab} {slots} xs h i l =
    let at = all_at (PairAt 16 tab slots) 0 (map sides xs) (sides d) i h (omega (arith, length-map xs sides)) in
    subst₂ (PairAt 16 tab slots) (omega arith) (get_or-map sides xs i d) at

module _ {tab rules : List ℕ} {count : ℕ} {rs : List Rule} (h : RulesIn tab rules count rs) where
  rule_stands : (k : ℕ) → k < count → PairAt 16 tab rules k (rule_at rs k).sides
  rule_stands k l = stored_here (λ (r : Rule). r.sides) no_rule rs h.stored k (let c = h.counted in omega arith)

  pub left_size : Layout rules count → (k : ℕ) → k < count → left_length (slot rules k) ≡ size (rule_at rs k).sides.left
  left_size lay k l =
      sym (left_long rules k (layout_less (omega arith) lay)) ∙ ap length (rule_stands k l).sides.left_bytes ∙ length_bytes (rule_at rs k).sides.left

abbrev place : Spot → List Rule → Place
place at rs = record { inner = rule_at rs at.inner; outer = rule_at rs at.outer; position = at.position }

module _ {tab rules : List ℕ} {count : ℕ} (at : Spot) (li : at.inner < count) (lo : at.outer < count) where
  -- where there may be an overlap, and where there is none
  pub placed : {one one' : List ℕ} {units : ℕ} {b : Bool} {w : Walk} → Possible tab rules at.inner at.outer at.position b → b ≡ true →
      Walks (OverlapsAt tab rules count at) (at_place at) tab one one' units w → Walks (RulesIn tab rules count) (at_place at) tab one one' units w
  placed P e k = record {
    kept = k.kept;
    left_over = k.left_over;
    answer = λ rs h. k.answer rs (record { rules_are = h; symbol = P.symbol e _ (rule_stands h at.outer lo) });
  }

  pub missing : {one : List ℕ} {units : ℕ} {b : Bool} → Possible tab rules at.inner at.outer at.position b → b ≡ false →
      Walks (RulesIn tab rules count) (at_place at) tab one one units (record { found = Ok Equal; units = units })
  unfolding at_place
  missing {one} {units} P e = record {
    kept = lent_none one;
    left_over = omega arith;
    answer = λ rs h.
        let q = P.missing e _ _ (rule_stands h at.inner li) (rule_stands h at.outer lo) in
        on refl (λ next. ap (λ (f : Paying Candidate). f units) (visit_none rs (place at rs) q next));
  }

  module _ {peak peak' : List ℕ} {m : Met} (M : Overlapped tab rules at.inner at.outer at.position peak peak' m) where
    said : (x : Met) → m ≡ x → (rs : List Rule) → OverlapsAt tab rules count at rs → Visited rs (place at rs) peak' x
    said x e rs h =
        let r = h.rules_are in
        subst (Visited rs (place at rs) peak') e
        (visited rs (place at rs) peak' m _ refl (M.answer _ _ (rule_stands r at.inner li) (rule_stands r at.outer lo) h.symbol))

    pub place_nothing : {one : List ℕ} {units : ℕ} {w : Walk} → m ≡ Nothing → w ≡ record { found = Ok Equal; units = units } →
        Walks (OverlapsAt tab rules count at) (at_place at) tab one one units w
    unfolding at_place
    place_nothing {one} {units} e q = record {
      kept = lent_none one;
      left_over = let z = units_is q in omega arith;
      answer = λ rs h. on (found_is q) (λ next. said Nothing e rs h next units ∙ ap next (sym (units_is q)));
    }

    pub place_large : {one : List ℕ} {units : ℕ} {w : Walk} → m ≡ TooLarge → w ≡ record { found = Err TooLargeEnd; units = units } →
        Walks (OverlapsAt tab rules count at) (at_place at) tab one one units w
    unfolding at_place
    place_large {one} {units} e q = record {
      kept = lent_none one;
      left_over = let z = units_is q in omega arith;
      answer = λ rs h. large (found_is q) (λ next. said TooLarge e rs h next units ∙ ap (stop too_large) (sym (units_is q)));
    }

    pub place_pair : {mark one one' one'' : List ℕ} {units : ℕ} {w : Walk} → m ≡ Met-pair →
        mark ≡ overlapping_bytes rules at.inner at.outer at.position → PutMark one 0 mark one' →
        PairWalk tab peak' 0 rules count one' one'' units w → Walks (OverlapsAt tab rules count at) (at_place at) tab one one'' units w
    unfolding at_place origin_bytes
    place_pair {units = units} e f put k = record {
      kept = lent_mark put k.room.kept;
      left_over = k.room.left_over;
      answer = λ rs h.
          let r = h.rules_are in
          let s = said Met-pair e rs h in
          let i = (rule_stands r at.inner li).sides in
          let o = (rule_stands r at.outer lo).sides in
          let wf = overlap_wf tab _ _ at.position s.0 s.1 (i.left_wf, i.right_wf) (o.left_wf, o.right_wf) in
          walked_from (λ next. s.3 next units)
          (k.answer rs r.stored r.counted _ _ (put.mark_is ∙ f ∙ rw (r.numbered at.inner li, r.numbered at.outer lo) refl)
          (record { sides = record { left_wf = wf.0; right_wf = wf.1; left_bytes = s.2.0; right_bytes = s.2.1 } }));
    }
