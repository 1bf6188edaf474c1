-- Steps 4 and 5 of a turn by each test's outcome: which side is above, and the rule in its slot or why there is none; and the pair as it waits again.
-- Assumes nothing.
-- Read first: specs/Orients (IsUpper, RuleOf), specs/Seen (Counted), completion/specs/Turn (orient).
use mathlib.Core.Path.{◌≡◌, refl, sym, ap, ap₂, ◌∙◌, subst}
use mathlib.Core.Bool.{Bool, true, false}
use mathlib.Core.Logic.{⊎_elim}
use mathlib.Core.List.Memᴰ
use mathlib.Core.List.{List, [], ◌++◌, append-nil}
use Prim.Native.Nat.{ℕ, ◌<◌, ◌≤◌}
use native.Mathlib.Omega.{arith}
use lib.ListN.{length}
use Rattle.limits.specs.Limits.{most_apart}
use Rattle.std.specs.Prelude.{Ok, Err}
use Rattle.terms.specs.Term.{Term, Pair, term_bytes, pair_variables}
use Rattle.terms.specs.Flat.{Wf, Starts}
use Rattle.terms.proofs.Shape.{zero≢one}
use Rattle.terms.proofs.Below.{swapped_variables}
use Rattle.order.specs.Order.{above}
use Rattle.order.specs.Walk.{rank, IsAbove}
use Rattle.problem.specs.Problem.{rank_of, Theory}
use Rattle.completion.specs.Turn.{orient}
use Rattle.completion.specs.Calls.{origin_bytes}
use Rattle.completion.proofs.Sentences.{orient_neither}
use Rattle.slots.specs.Slots.{slot, mark_of, left_of, right_of, Sides, numbered_bytes}
use Rattle.slots.proofs.Layouts.{sides_read}
use Rattle.orient.specs.Seen.{Counted}
use Rattle.orient.specs.declared.Above.TheVariants.{Left, Right}
use Rattle.orient.specs.declared.Unoriented.{Unoriented}
use Rattle.orient.specs.declared.Unoriented.TheVariants.{Neither, TooLarge}
use Rattle.orient.specs.Orients.{Few, turned, LowBytes, IsUpper, Placed, Becomes, RuleOf, Renames}

starts : (tab left : List ℕ) (t : Term) → Wf 32 tab t → left ≡ term_bytes t → Starts tab left t
starts tab left t w e = record { wf = w; rest = []; bytes = e ∙ sym (append-nil (term_bytes t)) }

above_is : (tab left right : List ℕ) (T : Theory) → rank_of T.symbols ≡ rank tab → (e : Pair) → Sides 32 tab left right e → (t : Bool) →
    IsAbove tab left right t → above (rank_of T.symbols) e.left e.right ≡ t
above_is tab left right T q e s t h =
    ap (λ z. above z e.left e.right) q
    ∙ sym (h e.left e.right (starts tab left e.left s.left_wf s.left_bytes) (starts tab right e.right s.right_wf s.right_bytes))

turned_sides : {n : ℕ} {tab left right : List ℕ} {e : Pair} → Sides n tab left right e → Sides n tab right left (turned e)
turned_sides s = record { left_wf = s.right_wf; right_wf = s.left_wf; left_bytes = s.right_bytes; right_bytes = s.left_bytes }

-- `upper`
module _ (tab left right : List ℕ) (r : ℕ) (c : Counted left right r) where
  counted : (e : Pair) → Sides 32 tab left right e → r ≡ length (pair_variables e)
  counted e s = c.counts tab e s.left_wf s.right_wf s.left_bytes s.right_bytes

  pub upper_many : 16 < r → IsUpper tab left right (Err TooLarge)
  upper_many h = record { low = tt; answer = λ T q e s. omega (arith, counted e s) }

  module _ (few : r ≤ 16) where
    few_of : (e : Pair) → Sides 32 tab left right e → length (pair_variables e) ≤ 16
    few_of e s = omega (arith, counted e s)

    pub upper_left : (t : Bool) → t ≡ true → IsAbove tab left right t → IsUpper tab left right (Ok Left)
    unfolding orient
    upper_left t z h = record { low = c.low (omega arith); answer = λ T q e s. (few_of e s, rw (above_is tab left right T q e s t h ∙ z) refl) }

    module _ (t u : Bool) (y : t ≡ false) (g : IsAbove tab left right t) (h : IsAbove tab right left u) where
      pub upper_right : u ≡ true → IsUpper tab left right (Ok Right)
      unfolding orient
      upper_right z = record {
        low = c.low (omega arith);
        answer = λ T q e s.
            (few_of e s, rw (above_is tab left right T q e s t g ∙ y, above_is tab right left T q (turned e) (turned_sides s) u h ∙ z) refl);
      }

      pub upper_neither : u ≡ false → IsUpper tab left right (Err Neither)
      upper_neither z = record {
        low = c.low (omega arith);
        answer = λ T q e s. (
          few_of e s,
          orient_neither T e (above_is tab left right T q e s t g ∙ y) (above_is tab right left T q (turned e) (turned_sides s) u h ∙ z),
        );
      }

-- `rule_of`
pub turned_low : {tab left right : List ℕ} → IsUpper tab left right (Ok Right) → LowBytes (right ++ left)
turned_low {tab} {left} {right} u b i =
    u.low b (⊎_elim (λ j. Memᴰ.append_right left j) (λ j. Memᴰ.append_left right j) (Memᴰ.append_cases right i))

module _ (tab pair left right : List ℕ) (number : ℕ) (l : left ≡ left_of (slot pair 0)) (r : right ≡ right_of (slot pair 0)) where
  -- a rule, of two terms that were placed with its number
  module _ (mark one : List ℕ) (m : mark ≡ numbered_bytes 2 number) where
    placed_rule : {x y : List ℕ} → Placed x y mark one →
        ((T : Theory) → rank_of T.symbols ≡ rank tab → (e : Pair) → Sides most_apart tab left right e → Few e × Becomes tab one T e) →
        RuleOf tab pair number (Ok one)
    placed_rule p answer = record {
      numbered = record { layout = p.layout; marked = p.marked ∙ m ∙ unfold origin_bytes in refl };
      low = λ z. absurd (zero≢one (cc));
      answer = λ T q e h. answer T q e (sides_read l r h);
    }

    pub rule_left : IsUpper tab left right (Ok Left) → Placed left right mark one → RuleOf tab pair number (Ok one)
    rule_left u p = placed_rule p λ T q e s.
        let a = u.answer T q e s in
        (a.0, record { sides = _; oriented = a.1; stands = p.pair tab e s a.0 })

    pub rule_right : IsUpper tab left right (Ok Right) → Placed right left mark one → RuleOf tab pair number (Ok one)
    rule_right u p = placed_rule p λ T q e s.
        let a = u.answer T q e s in
        let few = a.0 in
        (few, record { sides = _; oriented = a.1; stands = p.pair tab (turned e) (turned_sides s) (omega (arith, swapped_variables e)) })

  pub rule_none : (why : Unoriented) → IsUpper tab left right (Err why) → RuleOf tab pair number (Err why)
  rule_none Neither u = record {
    numbered = tt;
    low = λ _. subst LowBytes (ap₂ ◌++◌ l r) u.low;
    answer = λ T q e h. u.answer T q e (sides_read l r h);
  }
  rule_none TooLarge u = record {
    numbered = tt;
    low = λ z. absurd (zero≢one (cc));
    answer = λ T q e h. u.answer T q e (sides_read l r h);
  }

-- `renamed`
pub pair_renamed : (pair left right mark one : List ℕ) → left ≡ left_of (slot pair 0) → right ≡ right_of (slot pair 0) → mark ≡ mark_of (slot pair 0) →
    Placed left right mark one → Renames pair one
pair_renamed pair left right mark one l r m p =
    record { layout = p.layout; marked = p.marked ∙ m; sides = λ tab e h few. p.pair tab e (sides_read l r h) few }
