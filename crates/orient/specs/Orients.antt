-- Steps 4 and 5 of a turn: what the definition makes of the taken pair, and what stands for it in a slot. Assumes nothing.
use Rattle.std.specs.Prelude.{◌≡◌, ℕ, ◌<◌, ◌≤◌, length, Result, Ok, Err, IfOk}
use mathlib.Core.List.{List, ◌++◌, Memᴰ}
use Rattle.std.proofs.Math.Option.{none, some}
use Rattle.limits.specs.Limits.{most_variables, most_apart, variables_end}
use Rattle.terms.specs.Term.{Pair, pair_variables, renamed}
use Rattle.order.specs.Walk.{rank}
use Rattle.problem.specs.Problem.{rank_of, Theory}
use Rattle.completion.specs.Turn.{removed_rule, orient}
use Rattle.completion.specs.Calls.{origin_bytes}
use Rattle.slots.specs.Slots.{slot, mark_of, left_of, right_of, Layout, Sides, PairAt}
use Rattle.orient.specs.declared.Above.{Above}
use Rattle.orient.specs.declared.Above.TheVariants.{Left, Right}
use Rattle.orient.specs.declared.Unoriented.{Unoriented}
use Rattle.orient.specs.declared.Unoriented.TheVariants.{Neither, TooLarge}

-- "The taken pair has at most 16 different variables"
abbrev pub Few : Pair → Type 0
Few e = length (pair_variables e) ≤ most_variables

-- the same pair from right to left
abbrev pub turned : Pair → Pair
turned e = record { left = e.right; right = e.left }

-- `upper`: which pair of sides the definition renames, if it does
abbrev pub UpperIs : Theory → Pair → Result Above Unoriented → Type 0
UpperIs T e (Ok Left) = Few e × (orient T e ≡ some (renamed e))
UpperIs T e (Ok Right) = Few e × (orient T e ≡ some (renamed (turned e)))
UpperIs T e (Err Neither) = Few e × (orient T e ≡ none)
UpperIs T e (Err TooLarge) = most_variables < length (pair_variables e)

-- no byte above those of the variables of two rules set apart
abbrev pub LowBytes : List ℕ → Type 0
LowBytes l = (b : ℕ) → Memᴰ b l → b < variables_end

abbrev pub LowPair : List ℕ → Type 0
LowPair pair = LowBytes (left_of (slot pair 0) ++ right_of (slot pair 0))

abbrev pub LowIfFew : List ℕ → Result Above Unoriented → Type 0
LowIfFew l (Ok side) = LowBytes l
LowIfFew l (Err Neither) = LowBytes l
LowIfFew l (Err TooLarge) = Unit {0}

pub record IsUpper (tab left right : List ℕ) (r : Result Above Unoriented) : Type 0 where
  pub low : LowIfFew (left ++ right) r
  pub answer : (T : Theory) → rank_of T.symbols ≡ rank tab → (e : Pair) → Sides most_apart tab left right e → UpperIs T e r

-- `placed`: the pair, renamed, stands in the slot, which has the mark
pub record Placed (left right mark one : List ℕ) : Type 0 where
  pub layout : Layout one 1
  pub marked : mark_of (slot one 0) ≡ mark
  pub pair : (tab : List ℕ) (e : Pair) → Sides most_apart tab left right e → Few e → PairAt most_variables tab one 0 (renamed e)

-- `rule_of`: the new rule's sides in its slot, or why there is none
pub record Becomes (tab one : List ℕ) (T : Theory) (e : Pair) : Type 0 where
  pub sides : Pair
  pub oriented : orient T e ≡ some sides
  pub stands : PairAt most_variables tab one 0 sides

abbrev pub OrientedIs : List ℕ → Theory → Pair → Result (List ℕ) Unoriented → Type 0
OrientedIs tab T e (Ok one) = Few e × Becomes tab one T e
OrientedIs tab T e (Err Neither) = Few e × (orient T e ≡ none)
OrientedIs tab T e (Err TooLarge) = most_variables < length (pair_variables e)

-- a slot with a pair whose mark is that of a rule of this number
pub record Numbered (number : ℕ) (one : List ℕ) : Type 0 where
  pub layout : Layout one 1
  pub marked : mark_of (slot one 0) ≡ origin_bytes (removed_rule number)

pub record RuleOf (tab pair : List ℕ) (number : ℕ) (o : Result (List ℕ) Unoriented) : Type 0 where
  pub numbered : IfOk o (Numbered number)
  pub low : o ≡ Err Neither → LowPair pair
  pub answer : (T : Theory) → rank_of T.symbols ≡ rank tab → (e : Pair) → PairAt most_apart tab pair 0 e → OrientedIs tab T e o

-- `renamed`
pub record Renames (pair one : List ℕ) : Type 0 where
  pub layout : Layout one 1
  pub marked : mark_of (slot one 0) ≡ mark_of (slot pair 0)
  pub sides : (tab : List ℕ) (e : Pair) → PairAt most_apart tab pair 0 e → Few e → PairAt most_variables tab one 0 (renamed e)
