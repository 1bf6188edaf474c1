-- `join_right` and `join` by their returns: a side that comes to no last term, equal last terms, different ones. Assumes nothing.
-- Read first: specs/Joins, normaliser/proofs/Outcomes, proofs/Rooms.
use mathlib.Core.Path.{◌≡◌, refl, sym, ◌∙◌, ap, ap₂, subst, subst₂}
use mathlib.Core.Bool.{Bool, true, false}
use mathlib.Core.List.{List}
use Prim.Native.Nat.{ℕ, ◌-◌}
use native.Mathlib.Omega.{arith}
use lib.ListN.{take}
use Rattle.std.specs.Prelude.{Result, Ok, Err}
use Rattle.rewriting.specs.declared.End.{End as Ending}
use Rattle.limits.specs.Limits.{most_apart}
use Rattle.terms.specs.Term.{Term, Pair}
use Rattle.terms.proofs.Shape.{zero≢one}
use Rattle.rewriting.specs.Rewrite.{End, Paid, done, stop, Paying, return, and_then, ◌>>=◌, both_by}
use Rattle.slots.specs.Slots.{Sides, PutSides, KeptSlot}
use Rattle.slots.proofs.Layouts.{kept_none, kept_put, pair_put}
use Rattle.normaliser.specs.Settled.{Normalised, end_of}
use Rattle.normaliser.proofs.Stopping.{Stopping, no_unit, no_room}
use Rattle.normaliser.proofs.Outcomes.{no_form, normal_form, same_by}
use Rattle.normaliser.specs.declared.Reached.{Reached}
use Rattle.normaliser.specs.declared.Stop.{Stop}
use Rattle.joining.specs.Joins.{by_strategy, with_left, LastsAre, JoinIs, RightJoined, SidesJoined}
use Rattle.joining.specs.declared.Strategy.{Strategy}
use Rattle.joining.specs.declared.Walk.{Walk}
use Rattle.joining.specs.declared.Joined.{Joined}
use Rattle.joining.specs.declared.Joined.TheVariants.{Equal, Different}
use Rattle.joining.proofs.Rooms.{found_is, units_is, room_is}

-- what the definition does, by what the sides come to
module _ (last : Term → Paying Term) (u : ℕ) where
  right_stops : (l t : Term) (x : End) (v : ℕ) → last t u ≡ stop x v → with_left last l t u ≡ stop x v
  unfolding with_left ◌>>=◌ and_then
  right_stops l t x v q = rw q refl

  right_done : (l t y : Term) (v : ℕ) → last t u ≡ done y v → with_left last l t u ≡ done (record { left = l; right = y }) v
  unfolding with_left ◌>>=◌ and_then return
  right_done l t y v q = rw q refl

  left_stops : (e : Pair) (x : End) (v : ℕ) → last e.left u ≡ stop x v → both_by last e u ≡ stop x v
  unfolding both_by ◌>>=◌ and_then
  left_stops e x v q = rw q refl

  left_done : (e : Pair) (y : Term) (v : ℕ) → last e.left u ≡ done y v → both_by last e u ≡ with_left last y e.right v
  unfolding both_by with_left ◌>>=◌ and_then
  left_done e y v q = rw q refl

-- what is answered where a side comes to no last term
join_ends : (tab one : List ℕ) {w : Walk} {u k : ℕ} {m : Paid Pair} (x : End) (s : Stop) → w ≡ record { found = Err (end_of s); units = u } → k ≡ u →
    Stopping x s → m ≡ stop x k → JoinIs tab one w m
join_ends tab one {w} x s e z (no_unit i h) q =
    subst (JoinIs tab one w) (sym (q ∙ ap₂ stop i z)) (units_is e, found_is e ∙ ap (λ g. Err (end_of g)) h)
join_ends tab one {w} x s e z (no_room i h) q =
    subst (JoinIs tab one w) (sym (q ∙ ap₂ stop i z)) (units_is e, found_is e ∙ ap (λ g. Err (end_of g)) h)

-- a side that was normalised
module _
    {strategy : Strategy} {tab rules : List ℕ} {count : ℕ} {t out out' : List ℕ} {units : ℕ} {r : Reached}
    (hr : Normalised (by_strategy strategy) tab rules count t out out' units r) where
  -- it came to no last term
  module _ (s : Stop) (g : r.form ≡ Err s) {w : Walk} (e : w ≡ record { found = Err (end_of s); units = units - r.paid }) where
    pub right_ends : {first one : List ℕ} → RightJoined strategy tab rules count first t one one units w
    right_ends {one = one} = record {
      room = room_is e (kept_none one) (omega arith);
      answer = λ rs st ct l x wl wx bl bx.
          no_form hr s g _ (hr.answer rs st ct x wx bx) λ y k q h z.
          join_ends tab one y s e z h (right_stops (by_strategy strategy rs) units l x y k q);
    }

    pub left_ends : {right one : List ℕ} → SidesJoined strategy tab rules count t right one one units w
    left_ends {one = one} = record {
      room = room_is e (kept_none one) (omega arith);
      answer = λ rs st ct p S.
          no_form hr s g _ (hr.answer rs st ct p.left S.left_wf S.left_bytes) λ y k q h z.
          join_ends tab one y s e z h (left_stops (by_strategy strategy rs) units p y k q);
    }

  -- it came to a last term of n bytes
  module _ {n : ℕ} (g : r.form ≡ Ok n) where
    module _ {first one : List ℕ} where
      -- its bytes are compared with those of the first
      right_form : {one' : List ℕ} {f : Result Joined Ending} {w : Walk} → KeptSlot one one' → (b : Bool) → (b ≡ true → first ≡ take (n - 0) out') →
          (first ≡ take (n - 0) out' → b ≡ true) → ((p : Pair) → Sides most_apart tab first (take (n - 0) out') p → LastsAre tab one' f p b) →
          w ≡ record { found = f; units = units - r.paid } → RightJoined strategy tab rules count first t one one' units w
      right_form {one'} {f} {w} kept b agree agreed are e = record {
        room = room_is e kept (omega arith);
        answer = λ rs st ct l x wl wx bl bx.
            normal_form hr g _ (hr.answer rs st ct x wx bx) λ y k q z by wy.
            let p : Pair = record { left = l; right = y } in
            let h = are p (record { left_wf = wl; right_wf = wy; left_bytes = bl; right_bytes = by }) in
            subst (JoinIs tab one' w) (sym (right_done (by_strategy strategy rs) units l x y k q)) (
              units_is e ∙ sym z,
              subst₂ (λ i j. LastsAre tab one' i p j) (sym (found_is e)) (sym (same_by tab l y wl wy bl by b agree agreed)) h,
            );
      }

      pub right_same : {w : Walk} → first ≡ take (n - 0) out' → w ≡ record { found = Ok Equal; units = units - r.paid } →
          RightJoined strategy tab rules count first t one one units w
      right_same b = right_form (kept_none one) true (λ _. b) (λ _. refl) (λ p S. refl)

      pub right_differs : {one' : List ℕ} {w : Walk} (b : Bool) → b ≡ false → (first ≡ take (n - 0) out' → b ≡ true) →
          PutSides one 0 first (take (n - 0) out') one' → w ≡ record { found = Ok Different; units = units - r.paid } →
          RightJoined strategy tab rules count first t one one' units w
      right_differs b differs agrees put =
          right_form (kept_put put) false (λ z. absurd (zero≢one (cc))) (λ z. sym differs ∙ agrees z) (λ p S. (refl, pair_put put S))

    pub left_form : {right one one' : List ℕ} {w : Walk} → RightJoined strategy tab rules count (take (n - 0) out') right one one' (units - r.paid) w →
        SidesJoined strategy tab rules count t right one one' units w
    left_form {one' = one'} {w} R = record {
      room = record { kept = R.room.kept; left_over = let h = R.room.left_over in omega arith };
      answer = λ rs st ct p S.
          normal_form hr g _ (hr.answer rs st ct p.left S.left_wf S.left_bytes) λ y k q z by wy.
          let last : Term → Paying Term = by_strategy strategy rs in
          subst (JoinIs tab one' w) (sym (left_done last units p y k q ∙ ap (with_left last y p.right) z))
          (R.answer rs st ct y p.right wy S.right_wf by S.right_bytes);
    }
