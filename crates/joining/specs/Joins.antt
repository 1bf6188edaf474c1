-- What two terms come to by one of the two strategies, left then right, and what comparing their last terms answers. Assumes nothing.
-- Read first: rewriting/specs/Rewrite (both_by), rewriting/specs/Outermost, normaliser/specs/Settled (Normalised).
use Rattle.std.specs.Prelude.{◌≡◌, Bool, true, false, List, ℕ, ◌≤◌, length, Result, Ok, Err}
use Rattle.std.proofs.Math.Option.{Option}
use Rattle.limits.specs.Limits.{most_apart}
use Rattle.terms.specs.Term.{Term, Pair, same, term_bytes}
use Rattle.terms.specs.Flat.{Wf}
use Rattle.rewriting.specs.Overlap.{Rule, sides_of}
use Rattle.rewriting.specs.Rewrite.{End, complete, neither_above, spent, too_large, rules_full, log_full, Paid, done, stop, Paying, return, ◌>>=◌}
use Rattle.rewriting.specs.Rewrite.{step, normalise_by, both_by}
use Rattle.rewriting.specs.Outermost.{step_outer}
use Rattle.rewriting.specs.declared.End.{End as Ending}
use Rattle.rewriting.specs.declared.End.TheVariants.{Spent, TooLarge}
use Rattle.slots.specs.Slots.{Sides, PairAt, Stored, KeptSlot}
use Rattle.joining.specs.declared.Strategy.{Strategy}
use Rattle.joining.specs.declared.Strategy.TheVariants.{Innermost, Outermost}
use Rattle.joining.specs.declared.Walk.{Walk}
use Rattle.joining.specs.declared.Joined.{Joined}
use Rattle.joining.specs.declared.Joined.TheVariants.{Equal, Different}

-- one step from the inside out [7.3], or from the outside in [22.2]
unfoldable pub step_by : Strategy → List Rule → Term → Option Term
step_by Innermost = step
step_by Outermost = step_outer

abbrev pub by_strategy : Strategy → List Rule → Term → Paying Term
by_strategy strategy rules = normalise_by (step_by strategy rules)

-- the second side, where the first one's last term is known
unfoldable pub with_left : (Term → Paying Term) → Term → Term → Paying Pair
with_left last l t = last t >>= λ r. return (record { left = l; right = r })

-- the two ends to which terms can come
abbrev pub FoundStops : End → Result Joined Ending → Type 0
FoundStops complete f = ⊥
FoundStops neither_above f = ⊥
FoundStops spent f = f ≡ Err Spent
FoundStops too_large f = f ≡ Err TooLarge
FoundStops rules_full f = ⊥
FoundStops log_full f = ⊥

-- two last terms, by whether they are the same; if not, they stand in the slot `one`
abbrev pub LastsAre : List ℕ → List ℕ → Result Joined Ending → Pair → Bool → Type 0
LastsAre tab one f p true = f ≡ Ok Equal
LastsAre tab one f p false = (f ≡ Ok Different) × PairAt most_apart tab one 0 p

abbrev pub JoinIs : List ℕ → List ℕ → Walk → Paid Pair → Type 0
JoinIs tab one w (done p left) = (w.units ≡ left) × LastsAre tab one w.found p (same p.left p.right)
JoinIs tab one w (stop e left) = (w.units ≡ left) × FoundStops e w.found

-- what every answer has
pub record WalkRoom (one one' : List ℕ) (units : ℕ) (w : Walk) : Type 0 where
  pub kept : KeptSlot one one'
  pub left_over : w.units ≤ units

-- `join_right`: the left last term is known
pub record RightJoined (strategy : Strategy) (tab rules : List ℕ) (count : ℕ) (first t one one' : List ℕ) (units : ℕ) (w : Walk) : Type 0 where
  pub room : WalkRoom one one' units w
  pub answer : (rs : List Rule) → Stored tab rules 0 (sides_of rs) → count ≡ length rs → (l x : Term) → Wf most_apart tab l → Wf most_apart tab x →
      first ≡ term_bytes l → t ≡ term_bytes x → JoinIs tab one' w (with_left (by_strategy strategy rs) l x units)

-- `join`: exactly as the definition says, and the units left are those it leaves
pub record SidesJoined (strategy : Strategy) (tab rules : List ℕ) (count : ℕ) (left right one one' : List ℕ) (units : ℕ) (w : Walk) : Type 0 where
  pub room : WalkRoom one one' units w
  pub answer : (rs : List Rule) → Stored tab rules 0 (sides_of rs) → count ≡ length rs → (e : Pair) → Sides most_apart tab left right e →
      JoinIs tab one' w (both_by (by_strategy strategy rs) e units)
