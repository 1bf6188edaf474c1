-- The state of a run as the "E; R" of specs/Transitions. Assumes nothing.
-- Where document 01's letter differs from 004's: step 6 lets the two sides of a removed rule wait as they are, and they are rewritten when they are
-- taken; Collapse rewrites the left side as it removes the rule. So a removed rule counts among the rules until it is taken, and its Collapse is the
-- first step of normalising it; proofs/Postponed and proofs/Encompassed say that it is still allowed then, the condition s ▷ l included.
-- A pair of kind 3, an input at the scan, is no Deduce; none is ever taken (proofs/Published: `scan_takes_overlap`).
-- Read first: specs/Turn, specs/Transitions.
use Rattle.std.specs.Prelude.{Bool, true, false, ◌&&◌, List, [], ◌∷◌, ◌++◌, ℕ}
use Rattle.std.specs.Prelude.{if◌then◌else◌}
use Rattle.terms.specs.Term.{Pair}
use Rattle.order.specs.Order.{above}
use Rattle.problem.specs.Problem.{Theory}
use Rattle.rewriting.specs.Overlap.{Rule, sides_of}
use Rattle.completion.specs.Turn.{Origin, waiting_input, removed_rule, scanned_input, overlapping, Candidate, State}
use Rattle.completion.specs.Transitions.{System, ◌⨾◌}

-- Document 02, Six: an equation that was put back keeps its origin, so of those that wait with a removed rule's origin the rules are the ones that
-- still go down; what is put back has neither side above.
unfoldable pub from_removed : Origin → Bool
from_removed (waiting_input n) = false
from_removed (removed_rule n) = true
from_removed (scanned_input n) = false
from_removed (overlapping inner outer p) = false

unfoldable pub still_rule : (ℕ → ℕ) → Candidate → Bool
still_rule rank c = from_removed c.origin && above rank c.sides.left c.sides.right

-- of the pairs that wait, the equations, and the rules that were removed
unfoldable pub waiting_equations : (ℕ → ℕ) → List Candidate → List Pair
waiting_equations rank [] = []
waiting_equations rank (c ∷ cs) =
    let rest : List Pair = waiting_equations rank cs in
    if still_rule rank c then rest else (c.sides ∷ rest)

unfoldable pub waiting_rules : (ℕ → ℕ) → List Candidate → List Pair
waiting_rules rank [] = []
waiting_rules rank (c ∷ cs) =
    let rest : List Pair = waiting_rules rank cs in
    if still_rule rank c then (c.sides ∷ rest) else rest

-- live rules, with what waits
unfoldable pub together : (ℕ → ℕ) → List Rule → List Candidate → System
together rank rules waiting = waiting_equations rank waiting ⨾ sides_of rules ++ waiting_rules rank waiting

abbrev pub system_of : (ℕ → ℕ) → State → System
system_of rank s = together rank s.rules s.waiting

-- the equations of a theory, and no rule
abbrev pub given : Theory → System
given T = T.equations ⨾ []
