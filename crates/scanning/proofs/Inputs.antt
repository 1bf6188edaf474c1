-- The input equations unroll one by one, and overlaps then inputs are the definition's `scan`. Assumes nothing.
-- Read first: forms/specs/Forms (PairWalk), specs/Walk (of_inputs, ScanIs), completion/specs/Turn (scan), proofs/Going, proofs/Places.
use mathlib.Core.Path.{◌≡◌, refl, sym, ◌∙◌, ap, subst}
use mathlib.Core.List.{List, [], ◌∷◌}
use Prim.Native.Nat.{ℕ, zero, suc, ◌+◌, ◌<◌, ◌≤◌}
use native.Mathlib.Omega.{arith}
use native.Mathlib.Numerals.{add-one}
use lib.ListN.{length, get_or, drop, drop_of_length-le}
use lib.Seq.{drop-cons}
use Rattle.rewriting.specs.Overlap.{Rule, all_places}
use Rattle.rewriting.specs.Rewrite.{complete, stop, Paying, end_with}
use Rattle.terms.specs.Term.{Pair}
use Rattle.completion.specs.Turn.{scanned_input, Candidate, candidates, scan_inputs, scan}
use Rattle.completion.specs.Calls.{origin_bytes}
use Rattle.completion.proofs.Limits.{length_candidates}
use Rattle.slots.specs.Slots.{PutMark, Layout, numbered_bytes}
use Rattle.joining.specs.declared.Walk.{Walk}
use Rattle.forms.specs.declared.Taken.{Taken}
use Rattle.forms.specs.Forms.{compared, Walked, found, short, large, on, PairWalk}
use Rattle.forms.proofs.Pairs.{pair_wider}
use Rattle.scanning.specs.Walk.{visits, visit_inputs, Walks, RulesIn, of_rules, World, world_inputs, InSlots, no_candidate, of_input, of_inputs}
use Rattle.scanning.specs.Walk.{rules_part, of_all, Finds, ScanIs}
use Rattle.scanning.proofs.Going.{Unrolls, Over, lent_mark}
use Rattle.scanning.proofs.Placing.{stored_here}
use Rattle.scanning.proofs.Places.{scan_visits}

origin_at : (n : ℕ) (es : List Pair) (k : ℕ) → k < length es → (get_or (candidates scanned_input n es) k no_candidate).origin ≡ scanned_input (n + k)
unfolding candidates
origin_at n [] k l = absurd (omega arith)
origin_at n (e ∷ es) zero l = ap scanned_input (omega arith)
origin_at n (e ∷ es) (suc k) l = origin_at (suc n) es k (omega arith) ∙ ap scanned_input (omega arith)

inputs_visits : (rs : List Rule) (cs : List Candidate) → scan_inputs rs cs ≡ visit_inputs rs cs (end_with complete)
unfolding scan_inputs visit_inputs compared
inputs_visits rs [] = refl
inputs_visits rs (c ∷ cs) = ap (compared rs c.origin c.sides) (inputs_visits rs cs)

end_complete : (u : ℕ) → end_with {A = Candidate} complete u ≡ stop complete u
unfolding end_with
end_complete u = refl

whole : (x : World) (u : ℕ) → scan x.rules (world_inputs x) (all_places [] x.rules) u ≡ of_all x (end_with complete) u
unfolding of_all of_rules of_inputs
whole x u =
    let ps = all_places [] x.rules in
    ap (λ (f : Paying Candidate). f u)
    (scan_visits x.rules (world_inputs x) ps ∙ ap (visits x.rules ps) (inputs_visits x.rules (world_inputs x)))

module _ {tab rules : List ℕ} {count : ℕ} {list : List ℕ} {number : ℕ} where
  few : (x : World) → InSlots tab rules count list number x → length (world_inputs x) ≡ number
  few x h = length_candidates scanned_input 1 x.equations ∙ sym h.number_is

  pub inputs_more : (k : ℕ) → k < number → Unrolls (InSlots tab rules count list number) (of_inputs k) (of_input k) (of_inputs (k + 1))
  unfolding of_inputs of_input visit_inputs
  inputs_more k l = record {
    is = λ x h next.
        let f = few x h in
        let d : drop k (world_inputs x) ≡ get_or (world_inputs x) k no_candidate ∷ drop (k + 1) (world_inputs x)
        = rw (add-one k) (drop-cons (world_inputs x) k no_candidate (omega arith)) in
        ap (λ cs. visit_inputs x.rules cs next) d;
  }

  pub inputs_over : (k : ℕ) → number ≤ k → Over (InSlots tab rules count list number) (of_inputs k)
  unfolding of_inputs visit_inputs
  inputs_over k l = record {
    is = λ x h next. let f = few x h in ap (λ cs. visit_inputs x.rules cs next) (drop_of_length-le (world_inputs x) {i = k} (omega arith));
  }

  origin_is : (x : World) → InSlots tab rules count list number x → (k : ℕ) → k < number →
      numbered_bytes 3 (k + 1) ≡ origin_bytes (get_or (world_inputs x) k no_candidate).origin
  unfolding origin_bytes
  origin_is x h k l =
      let n = h.number_is in
      let e : 1 + k ≡ k + 1 = omega arith in
      rw (origin_at 1 x.equations k (omega arith), e) refl

  pub input_walk : {k : ℕ} {mark one one₁ one₂ : List ℕ} {units : ℕ} {w : Walk} → k < number → mark ≡ numbered_bytes 3 (k + 1) → PutMark one 0 mark one₁ →
      PairWalk tab list k rules count one₁ one₂ units w → Walks (InSlots tab rules count list number) (of_input k) tab one one₂ units w
  unfolding of_input
  input_walk {k} l m put p = record {
    kept = lent_mark put p.room.kept;
    left_over = p.room.left_over;
    answer = λ x h.
        let f = few x h in
        let at = stored_here (λ (c : Candidate). c.sides) no_candidate (world_inputs x) h.inputs k (omega arith) in
        p.answer x.rules h.rules_are.stored h.rules_are.counted _ _ (put.mark_is ∙ m ∙ origin_is x h k l) (pair_wider at);
  }

  -- the whole scan
  pub all_parts : Unrolls (InSlots tab rules count list number) of_all rules_part (of_inputs 0)
  unfolding of_all rules_part
  all_parts = record { is = λ x h next. refl }

  pub rules_walk : {one one' : List ℕ} {units : ℕ} {w : Walk} → Walks (RulesIn tab rules count) (of_rules 0) tab one one' units w →
      Walks (InSlots tab rules count list number) rules_part tab one one' units w
  unfolding rules_part
  rules_walk p = record { kept = p.kept; left_over = p.left_over; answer = λ x h. p.answer x.rules h.rules_are }

  pub scanned : {one one' : List ℕ} {units : ℕ} {w : Walk} {t : Taken} → Layout one 1 →
      Walks (InSlots tab rules count list number) of_all tab one one' units w →
      t ≡ record { found = w.found; units = w.units; pair = one' } → ScanIs tab list number rules count units t
  scanned {one' = one'} {units = units} {w = w} lay p e = subst (ScanIs tab list number rules count units) (sym e) (record {
    layout = p.kept.layout lay;
    left_over = p.left_over;
    answer = λ x h. go x (p.answer x h);
  })
    where
      go : (x : World) → Walked tab one' (of_all x) units w →
          Finds tab (record { found = w.found; units = w.units; pair = one' }) (scan x.rules (world_inputs x) (all_places [] x.rules) units)
      go x (found c z f s) = rw (whole x units, f (end_with complete)) (z, refl, s)
      go x (short z f) = rw (whole x units, f (end_with complete)) (z, refl)
      go x (large z f) = rw (whole x units, f (end_with complete)) (z, refl)
      go x (on z f) = rw (whole x units, f (end_with complete), end_complete w.units) (z, refl)
