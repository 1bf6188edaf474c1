-- The rules and what waits, in the slots of a state: what stands there for each, and what stands there once right sides are others. Assumes nothing.
-- Read first: state/specs/Run (held, as_removed), slots/proofs/Listing, compose/specs/Rights (RightsOnly).
use mathlib.Core.Path.{◌≡◌, sym, ap, ◌∙◌, subst}
use mathlib.Core.List.{List, [], ◌∷◌, map, map-append}
use Prim.Native.Nat.{ℕ, suc, ◌+◌, ◌<◌}
use native.Mathlib.Omega.{arith}
use lib.ListN.{length, length-map}
use Rattle.terms.proofs.Shape.{zero≢one}
use Rattle.terms.specs.Base.{number_bytes}
use Rattle.rewriting.specs.Overlap.{Rule, sides_of}
use Rattle.completion.specs.Turn.{removed_rule, Candidate}
use Rattle.completion.specs.Calls.{origin_bytes}
use Rattle.slots.specs.Slots.{slot, mark_of, number_of, PairAt, MarkedAt, AllFrom, Stored, Holds}
use Rattle.slots.proofs.Listing.{all_split, all_join, all_map, all_at, holds_moved}
use Rattle.inputs.specs.Inputs.{marked}
use Rattle.scanning.specs.Walk.{no_rule, rule_at}
use Rattle.compose.specs.Rights.{RightsOnly}
use Rattle.collapse.specs.Rows.{as_removed, held}
use Rattle.items.proofs.Writing.{rule_number}

all_unmap : {A B : Type 0} (S : ℕ → B → Type 0) (f : A → B) (k : ℕ) (xs : List A) → AllFrom S k (map f xs) → AllFrom (λ i x. S i (f x)) k xs
unfolding AllFrom
all_unmap S f k [] h = tt
all_unmap S f k (x ∷ xs) h = (h.0, all_unmap S f (suc k) xs h.1)

-- a rule stands in its slot, its number in the mark
abbrev RuleIn : List ℕ → List ℕ → ℕ → Rule → Type 0
RuleIn tab slots k r = MarkedAt tab slots k (marked (as_removed r))

module _ (tab slots : List ℕ) (rs : List Rule) (cs : List Candidate) (h : Holds tab slots 0 (map marked (held rs cs))) where
  parts : Holds tab slots 0 (map marked (map as_removed rs)) × Holds tab slots (length rs) (map marked cs)
  parts =
      let p = all_split (MarkedAt tab slots) 0 (map marked (map as_removed rs)) (map marked cs)
      (subst (Holds tab slots 0) (map-append marked (map as_removed rs) cs) h) in
      let n : 0 + length (map marked (map as_removed rs)) ≡ length rs = omega (arith, length-map (map as_removed rs) marked, length-map rs as_removed) in
      (p.0, subst (λ k. Holds tab slots k (map marked cs)) n p.1)

  rules_in : AllFrom (RuleIn tab slots) 0 rs
  rules_in =
      all_unmap (λ k c. MarkedAt tab slots k (marked c)) as_removed 0 rs (all_unmap (MarkedAt tab slots) marked 0 (map as_removed rs) parts.0)

  -- the rules stand in the first slots
  pub rules_stored : Stored tab slots 0 (sides_of rs)
  unfolding as_removed
  rules_stored = all_map (RuleIn tab slots) (PairAt 16 tab slots) (λ (r : Rule). r.sides) (λ i r m. m.pair) 0 rs rules_in

  pub rules_numbered : (k : ℕ) → k < length rs → number_of (slot slots k) ≡ number_bytes 2 (rule_at rs k).number
  unfolding as_removed origin_bytes
  rules_numbered k l =
      let e : 0 + k ≡ k = omega arith in
      let m : RuleIn tab slots k (rule_at rs k) = subst (λ i. RuleIn tab slots i (rule_at rs k)) e (all_at (RuleIn tab slots) 0 rs no_rule k rules_in l) in
      rule_number (slot slots k) (rule_at rs k).number m.mark

  -- and behind them what waits
  pub waiting_held : Holds tab slots (length rs) (map marked cs)
  waiting_held = parts.1

-- Other right sides: the marks are the same, as the numbers are.
module _ (tab slots slots' : List ℕ) (m : (i : ℕ) → mark_of (slot slots' i) ≡ mark_of (slot slots i)) where
  marks_stay : (k : ℕ) (rs rs' : List Rule) → map (λ r. r.number) rs' ≡ map (λ r. r.number) rs → AllFrom (RuleIn tab slots) k rs →
      Stored tab slots' k (sides_of rs') → Holds tab slots' k (map marked (map as_removed rs'))
  unfolding AllFrom as_removed
  marks_stay k rs [] e h q = tt
  marks_stay k [] (y ∷ rs') e h q = absurd (zero≢one (cc))
  marks_stay k (x ∷ rs) (y ∷ rs') e h q =
      let a : x.number ≡ y.number = cc in
      let b : map (λ (r : Rule). r.number) rs' ≡ map (λ (r : Rule). r.number) rs = cc in (
        record { mark = m k ∙ h.0.mark ∙ ap (λ n. origin_bytes (removed_rule n)) a; pair = q.0 },
        marks_stay (suc k) rs rs' b h.1 q.1,
      )

pub same_many : (rs rs' : List Rule) → map (λ r. r.number) rs' ≡ map (λ r. r.number) rs → length rs' ≡ length rs
same_many rs rs' e = sym (length-map rs' (λ (r : Rule). r.number)) ∙ ap length e ∙ length-map rs (λ (r : Rule). r.number)

pub rights_held : (tab slots slots' : List ℕ) (rs rs' : List Rule) (cs : List Candidate) → RightsOnly 0 (length rs) slots slots' →
    map (λ r. r.number) rs' ≡ map (λ r. r.number) rs → Stored tab slots' 0 (sides_of rs') → Holds tab slots 0 (map marked (held rs cs)) →
    Holds tab slots' 0 (map marked (held rs' cs))
rights_held tab slots slots' rs rs' cs o e q h =
    let n : length rs ≡ 0 + length (map marked (map as_removed rs')) =
    omega (arith, length-map (map as_removed rs') marked, length-map rs' as_removed, same_many rs rs' e) in
    let w : Holds tab slots' (length rs) (map marked cs) =
    holds_moved tab slots slots' (length rs) (length rs) (map marked cs) (λ i l. o.behind (length rs + i) (omega arith))
    (waiting_held tab slots rs cs h) in
    let r = marks_stay tab slots slots' o.marks 0 rs rs' e (rules_in tab slots rs cs h) q in
    subst (Holds tab slots' 0) (sym (map-append marked (map as_removed rs') cs))
    (all_join (MarkedAt tab slots') 0 (map marked (map as_removed rs')) (map marked cs) r (subst (λ k. Holds tab slots' k (map marked cs)) n w))
