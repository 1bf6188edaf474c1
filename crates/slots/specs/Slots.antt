-- Pairs of terms in slots: where the parts of a slot stand, when pairs stand in slots, and what the functions on slots leave. Assumes nothing.
use Rattle.std.specs.Prelude.{◌≡◌, List, [], ◌∷◌, ◌++◌, ℕ, suc, ◌+◌, ◌*◌, ◌<◌, ◌≤◌, length, get_or, drop, take}
use Rattle.limits.specs.Limits.{most_nodes, most_pair, most_variables, origin_width}
use Rattle.terms.specs.Base.{number_bytes}
use Rattle.terms.specs.Term.{Pair, term_bytes}
use Rattle.terms.specs.Flat.{Wf}

-- a slot: the pair's mark, the lengths of its sides in one byte each, the left side, the right side. 248 bytes
abbrev pub left_at : ℕ
left_at = origin_width + 2

abbrev pub right_at : ℕ
right_at = left_at + most_nodes

abbrev pub slot_width : ℕ
slot_width = left_at + most_pair

-- the bytes of slot k
unfoldable pub slot : List ℕ → ℕ → List ℕ
slot slots k = take slot_width (drop (slot_width * k) slots)

-- the parts of a slot
unfoldable pub mark_of : List ℕ → List ℕ
mark_of s = take origin_width s

unfoldable pub left_length : List ℕ → ℕ
left_length s = get_or s origin_width 0

unfoldable pub right_length : List ℕ → ℕ
right_length s = get_or s (origin_width + 1) 0

unfoldable pub left_of : List ℕ → List ℕ
left_of s = take (left_length s) (drop left_at s)

unfoldable pub right_of : List ℕ → List ℕ
right_of s = take (right_length s) (drop right_at s)

-- the two bytes of a mark that hold its first number
unfoldable pub number_of : List ℕ → List ℕ
number_of s = take 2 (drop 1 s)

-- both sides of a slot have the lengths of sides
pub record Short (s : List ℕ) : Type 0 where
  pub left : left_length s ≤ most_nodes
  pub right : right_length s ≤ most_nodes

-- there is room for so many slots, and what stands in each is short
pub record Layout (slots : List ℕ) (count : ℕ) : Type 0 where
  pub room : slot_width * count ≤ length slots
  pub short : (k : ℕ) → k < count → Short (slot slots k)

-- The two lists are the bytes of a pair's sides, which are well-formed with variables below n.
pub record Sides (n : ℕ) (tab left right : List ℕ) (e : Pair) : Type 0 where
  pub left_wf : Wf n tab e.left
  pub right_wf : Wf n tab e.right
  pub left_bytes : left ≡ term_bytes e.left
  pub right_bytes : right ≡ term_bytes e.right

-- this pair stands in slot k
pub record PairAt (n : ℕ) (tab slots : List ℕ) (k : ℕ) (e : Pair) : Type 0 where
  pub sides : Sides n tab (left_of (slot slots k)) (right_of (slot slots k)) e

-- a pair with its mark
pub record Marked : Type 0 where
  pub mark : List ℕ
  pub sides : Pair

pub record MarkedAt (tab slots : List ℕ) (k : ℕ) (m : Marked) : Type 0 where
  pub mark : mark_of (slot slots k) ≡ m.mark
  pub pair : PairAt most_variables tab slots k m.sides

-- R of each element, with its place from k on
unfoldable pub AllFrom : {A : Type 0} → (ℕ → A → Type 0) → ℕ → List A → Type 0
AllFrom R k [] = Unit {0}
AllFrom R k (x ∷ xs) = R k x × AllFrom R (suc k) xs

-- these pairs stand in the slots from k on; with their marks
abbrev pub Stored : List ℕ → List ℕ → ℕ → List Pair → Type 0
Stored tab slots k ps = AllFrom (PairAt most_variables tab slots) k ps

abbrev pub Holds : List ℕ → List ℕ → ℕ → List Marked → Type 0
Holds tab slots k ms = AllFrom (MarkedAt tab slots) k ms

-- nothing but slot k changed
pub record OnlySlot (slots : List ℕ) (k : ℕ) (slots' : List ℕ) : Type 0 where
  pub same : length slots' ≡ length slots
  pub others : (i : ℕ) → (i ≡ k → ⊥) → slot slots' i ≡ slot slots i

-- a slot that is lent alone keeps its mark, and what stands in it stays short
pub record KeptSlot (one one' : List ℕ) : Type 0 where
  pub same : length one' ≡ length one
  pub mark : mark_of (slot one' 0) ≡ mark_of (slot one 0)
  pub layout : Layout one 1 → Layout one' 1

-- `put_sides`, `put_mark`, `put_right`
pub record PutSides (slots : List ℕ) (k : ℕ) (left right slots' : List ℕ) : Type 0 where
  pub only : OnlySlot slots k slots'
  pub mark : mark_of (slot slots' k) ≡ mark_of (slot slots k)
  pub left_is : left_of (slot slots' k) ≡ left
  pub right_is : right_of (slot slots' k) ≡ right
  pub short : Short (slot slots' k)

pub record PutMark (slots : List ℕ) (k : ℕ) (mark slots' : List ℕ) : Type 0 where
  pub only : OnlySlot slots k slots'
  pub mark_is : mark_of (slot slots' k) ≡ mark
  pub left_kept : left_of (slot slots' k) ≡ left_of (slot slots k)
  pub right_kept : right_of (slot slots' k) ≡ right_of (slot slots k)
  pub short : Short (slot slots k) → Short (slot slots' k)

pub record PutRight (slots : List ℕ) (k : ℕ) (right slots' : List ℕ) : Type 0 where
  pub only : OnlySlot slots k slots'
  pub mark : mark_of (slot slots' k) ≡ mark_of (slot slots k)
  pub left_kept : left_of (slot slots' k) ≡ left_of (slot slots k)
  pub right_is : right_of (slot slots' k) ≡ right
  pub short : Short (slot slots k) → Short (slot slots' k)

-- `remove`: of `count` slots the one at k is gone, and those behind it took the places before them
pub record Removed (slots : List ℕ) (k count : ℕ) (slots' : List ℕ) : Type 0 where
  pub same : length slots' ≡ length slots
  pub before : (i : ℕ) → i < k → slot slots' i ≡ slot slots i
  pub behind : (i : ℕ) → k ≤ i → i + 1 < count → slot slots' i ≡ slot slots (i + 1)

-- `insert`: one more slot stands at k, and those from k on took the places behind them
pub record Inserted (slots : List ℕ) (k count : ℕ) (one slots' : List ℕ) : Type 0 where
  pub same : length slots' ≡ length slots
  pub before : (i : ℕ) → i < k → slot slots' i ≡ slot slots i
  pub here : slot slots' k ≡ slot one 0
  pub behind : (i : ℕ) → k ≤ i → i < count → slot slots' (i + 1) ≡ slot slots i

-- `move_last`: the slot at k stands behind the others
pub record MovedLast (slots : List ℕ) (k count : ℕ) (slots' : List ℕ) : Type 0 where
  pub same : length slots' ≡ length slots
  pub before : (i : ℕ) → i < k → slot slots' i ≡ slot slots i
  pub behind : (i : ℕ) → k ≤ i → i + 1 < count → slot slots' i ≡ slot slots (i + 1)
  pub last : (i : ℕ) → i + 1 ≡ count → slot slots' i ≡ slot slots k

-- `numbered`: an origin of kinds 1 to 3, with its number
abbrev pub numbered_bytes : ℕ → ℕ → List ℕ
numbered_bytes kind n = kind ∷ (number_bytes 2 n ++ number_bytes 2 0 ++ number_bytes 1 0)

-- `overlapping`: of the rules in two slots
abbrev pub overlapping_bytes : List ℕ → ℕ → ℕ → ℕ → List ℕ
overlapping_bytes rules inner outer position = 4 ∷ (number_of (slot rules inner) ++ number_of (slot rules outer) ++ number_bytes 1 position)
