-- Document 02, Five: the walk to a subterm's end "counts the subterms still owed", and what that count says after each byte: section 20 of
-- docs/DEFINITION.md. Assumes nothing.
use Rattle.std.specs.Prelude.{◌≡◌, List, ◌++◌, ◌↔◌, ◌⊎◌, ℕ, ◌+◌, ◌*◌, ◌≤◌, ◌<◌, length, take}
use Rattle.limits.specs.Limits.{most_symbols, most_variables, first_variable}
use Rattle.terms.specs.Base.{Every}
use Rattle.terms.specs.Term.{Term, Terms, term_bytes, terms_bytes, size, count}
use Rattle.terms.specs.Flat.{Wf, Wfs, Starts}

-- Terms have variables below n here, for any n from 1 on: 16 in a problem, 32 in an overlap. A symbol that the table does not have counts as a constant.

-- a byte that a node may have: a symbol's or a variable's [2.3, 2.4]
abbrev pub IsNode : ℕ → ℕ → Type 0
IsNode n b = (b < most_symbols) ⊎ ((first_variable ≤ b) × (b < first_variable + n))

-- The terms complete the bytes read to one subterm: theirs, behind these, are those of one term [20.2].
pub record Completes (n : ℕ) (tab read : List ℕ) (ts : Terms) : Type 0 where
  pub subterm : Term
  pub wf : Wf n tab subterm
  pub bytes : term_bytes subterm ≡ read ++ terms_bytes ts

-- "exactly as many terms as the count complete the subterm" [20.2]
abbrev pub Owed : ℕ → List ℕ → List ℕ → ℕ → Type 0
Owed n tab read owed = (ts : Terms) → Wfs n tab ts → Completes n tab read ts ↔ (count ts ≡ owed)

-- What holds of the walk over the bytes l where it has read k of them and its count is `owed`.
pub record Counted (tab l : List ℕ) (k owed : ℕ) : Type 0 where
  -- "After each byte, exactly as many terms as the count complete the subterm" [20.2]
  pub exactly : (n : ℕ) → 0 < n → Every (IsNode n) (take k l) → Owed n tab (take k l) owed
  -- "and the count is first 0 at its end": over the subterm x, at its end and at no byte before, and the walk goes no further [20.3]
  pub first_zero : (x : Term) → Starts tab l x → (k ≤ size x) × ((owed ≡ 0) ↔ (k ≡ size x))

-- What holds besides where each byte is tested before it is counted: it is a node's of a problem, so `exactly` holds of all that is read [20.4].
pub record Tested (tab l : List ℕ) (k : ℕ) : Type 0 where
  pub nodes : length tab ≤ 2 * most_symbols → Every (IsNode most_variables) (take k l)
