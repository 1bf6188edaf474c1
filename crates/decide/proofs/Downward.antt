-- `not_above`: the rules from slot k on, whose fields begin at a place, decide the answer; a lemma for each step and each return. Assumes nothing.
-- Read first: specs/Asking (FirstNotAbove), specs/Decide (all_above), items/specs/Readers (rules_at).
use mathlib.Core.Path.{◌≡◌, refl, ◌∙◌, ap}
use mathlib.Core.Bool.{Bool, true, false}
use mathlib.Core.List.{List, [], ◌∷◌}
use Prim.Native.Nat.{ℕ, zero, suc, ◌+◌, ◌<◌, ◌≤◌}
use native.Mathlib.Omega.{arith}
use lib.ListN.{length}
use Rattle.std.proofs.Common.{Some, None}
use Rattle.terms.specs.Term.{size}
use Rattle.terms.proofs.Bytes.{length_bytes}
use Rattle.order.specs.Order.{above}
use Rattle.order.specs.Walk.{IsAbove}
use Rattle.reading.specs.Answers.{symbols_of, Table}
use Rattle.problem.specs.Problem.{Reading, ok, refused, ◌>>=◌, refuse_if, rank_of}
use Rattle.rewriting.specs.Overlap.{Rule, sides_of}
use Rattle.slots.proofs.Layouts.{sides_read}
use Rattle.slots.specs.Slots.{slot, left_of, right_of, AllFrom, PairAt, Stored}
use Rattle.items.specs.Readers.{rules_at}
use Rattle.items.proofs.Holding.{sides_compared}
use Rattle.decide.specs.Decide.{all_above}
use Rattle.decide.specs.Asking.{above_told, FirstNotAbove}

module _ (tab slots : List ℕ) (count : ℕ) where
  -- whatever rules stand in the slots from k on, and fields begin at a place, the answer is r
  abbrev From : ℕ → ℕ → Reading (Unit {0}) → Type 0
  From place k r = (rs : List Rule) → Stored tab slots k (sides_of rs) → count ≡ k + length rs → all_above (symbols_of tab) (rules_at place rs) ≡ r

  -- the rules before slot k are passed: what those from k on answer is answered
  pub record Passed (place k : ℕ) : Type 0 where
    pub rest : (r : Reading (Unit {0})) → From place k r → From 11 0 r

  pub passed_none : Passed 11 0
  passed_none = record { rest = λ r h. h }

  -- the rule in slot k, compared
  module _ (T : Table tab) (place k : ℕ) (low : k < count) (left right : List ℕ) (ql : left ≡ left_of (slot slots k)) (qr : right ≡ right_of (slot slots k))
      (b : Bool) (h : IsAbove tab left right b) where
    here : (r : Rule) → PairAt 16 tab slots k r.sides → above (rank_of (symbols_of tab)) r.sides.left r.sides.right ≡ b
    here r at = sides_compared tab T (sides_read ql qr at) b h

    pub not_above : b ≡ false → From place k (refused 15 place)
    unfolding AllFrom rules_at all_above ◌>>=◌ refuse_if
    not_above i [] st ct = absurd (omega arith)
    not_above i (r ∷ rs) st ct = rw (here r st.0 ∙ i) refl

    pub one_passed : b ≡ true → Passed place k → Passed (place + (5 + length left + length right)) (k + 1)
    unfolding AllFrom rules_at all_above ◌>>=◌ refuse_if
    one_passed i P = record { rest = λ r f. P.rest r (step r f) }
      where
        step : (r : Reading (Unit {0})) → From (place + (5 + length left + length right)) (k + 1) r → From place k r
        step r f [] st ct = absurd (omega arith)
        step r f (q ∷ rs) st ct =
            let S = st.0.sides in
            let e : place + 5 + size q.sides.left + size q.sides.right ≡ place + (5 + length left + length right) =
            omega (arith, ap length (ql ∙ S.left_bytes), ap length (qr ∙ S.right_bytes), length_bytes q.sides.left, length_bytes q.sides.right) in
            let n : suc k ≡ k + 1 = omega arith in
            let s : Stored tab slots (k + 1) (sides_of rs) = rw (← n) st.1 in
            rw (here q st.0 ∙ i, e) (f rs s (omega arith))

  pub ends_not : (place k : ℕ) → Passed place k → From place k (refused 15 place) → FirstNotAbove tab slots count (Some place)
  unfolding above_told
  ends_not place k P f = record { is = λ rs st ct. P.rest _ f rs st (omega arith) }

  pub ends_all : (place k : ℕ) → Passed place k → count ≤ k → FirstNotAbove tab slots count None
  unfolding above_told rules_at all_above
  ends_all place k P h = record { is = λ rs st ct. P.rest _ none rs st (omega arith) }
    where
      none : From place k (ok tt)
      none [] st ct = refl
      none (r ∷ rs) st ct = absurd (omega arith)
