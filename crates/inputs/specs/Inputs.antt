-- Candidates in slots; where the sides of the input equations stand in lent bytes, and what is left of them in the slots. Assumes nothing.
use Rattle.std.specs.Prelude.{◌≡◌, List, [], ◌∷◌, ◌++◌, map, ℕ, ◌+◌, ◌-◌, ◌<◌, ◌≤◌, length, drop, take}
use Rattle.limits.specs.Limits.{most_nodes, most_variables, first_variable}
use Rattle.terms.specs.Base.{Every}
use Rattle.terms.specs.Term.{Term, Pair, term_bytes, size, renamed}
use Rattle.terms.specs.Flat.{Wf}
use Rattle.slots.specs.Slots.{slot, mark_of, Short, PairAt, Marked, Holds, Layout, OnlySlot, numbered_bytes}
use Rattle.slots.specs.declared.Pairs.{Pairs}
use Rattle.reading.specs.Forms.{ok, due}
use Rattle.reading.specs.Answers.{field_at}
use Rattle.completion.specs.Turn.{waiting_input, Candidate, candidates}
use Rattle.completion.specs.Calls.{origin_bytes}

-- a candidate stands in a slot with its origin as the mark
abbrev pub marked : Candidate → Marked
marked c = record { mark = origin_bytes c.origin; sides = c.sides }

-- these candidates, and no more, stand in the slots
pub record Held (tab : List ℕ) (pairs : Pairs) (cs : List Candidate) : Type 0 where
  pub holds : Holds tab pairs.bytes 0 (map marked cs)
  pub counted : pairs.count ≡ length cs

-- no byte is above that of the last variable
abbrev pub KnownBytes : List ℕ → Type 0
KnownBytes l = Every (λ b. b < first_variable + most_variables) l

-- the two sides of a pair stand one behind the other, each of at most 120 nodes with variables below 16
pub record SidesAt (tab l : List ℕ) (at : ℕ) (p : Pair) : Type 0 where
  pub left_wf : Wf most_variables tab p.left
  pub right_wf : Wf most_variables tab p.right
  pub left_small : size p.left ≤ most_nodes
  pub right_small : size p.right ≤ most_nodes
  pub rest : List ℕ
  pub bytes : drop at l ≡ term_bytes p.left ++ (term_bytes p.right ++ rest)

-- `side_end`
pub record SideEnd (tab l : List ℕ) (at r : ℕ) : Type 0 where
  pub low : at ≤ r
  pub high : r ≤ at + most_nodes
  pub within : r ≤ length l
  pub known : KnownBytes (take (r - at) (drop at l))
  pub answer : (x : Term) (rest : List ℕ) → Wf most_variables tab x → size x ≤ most_nodes → drop at l ≡ term_bytes x ++ rest → r ≡ at + size x

-- `put_sides`
pub record PutsSides (tab l : List ℕ) (at : ℕ) (slots : List ℕ) (k : ℕ) (slots' : List ℕ) : Type 0 where
  pub only : OnlySlot slots k slots'
  pub mark : mark_of (slot slots' k) ≡ mark_of (slot slots k)
  pub short : Short (slot slots' k)
  pub answer : (p : Pair) → SidesAt tab l at p → PairAt most_variables tab slots' k (renamed p)

-- `put_equation`: the equation's number is one more than its slot's
pub record PutsEquation (tab l : List ℕ) (at : ℕ) (slots : List ℕ) (k : ℕ) (slots' : List ℕ) (r : ℕ) : Type 0 where
  pub only : OnlySlot slots k slots'
  pub mark : mark_of (slot slots' k) ≡ numbered_bytes 1 (k + 1)
  pub short : Short (slot slots k) → Short (slot slots' k)
  pub answer : (e : ℕ) (p : Pair) → due 0x03 at (drop at l) ≡ ok (field_at 0x03 l at e) → SidesAt tab l (at + 3) p →
      (r ≡ e) × PairAt most_variables tab slots' k (renamed p)

-- the equations stand in fields of tag 03, one behind the other, from `at` on; what stands behind them is of no account
unfoldable pub InFields : List ℕ → List ℕ → ℕ → List Pair → Type 0
InFields tab l at [] = Unit {0}
InFields tab l at (p ∷ es) = (e : ℕ) × (due 0x03 at (drop at l) ≡ ok (field_at 0x03 l at e)) × SidesAt tab l (at + 3) p × InFields tab l e es

-- `read`: "the waiting list (at first the equations in order)"
abbrev pub inputs_of : List Pair → List Candidate
inputs_of es = candidates waiting_input 1 es

pub record InputsRead (tab l : List ℕ) (at count : ℕ) (r : Pairs) : Type 0 where
  pub layout : Layout r.bytes r.count
  pub counted : r.count ≡ count
  pub held : (es : List Pair) → InFields tab l at es → length es ≡ count → Held tab r (inputs_of es)
