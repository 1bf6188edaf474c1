-- `ask_problem`: the problem is refused, or the rest is `ask`, of the parts that are lent. Assumes nothing.
-- Read first: specs/Decide (question-call), only_equation/specs/Places (IsSides), proofs/Questions.
use mathlib.Core.List.{List}
use Prim.Native.Nat.{ℕ, ◌≤◌}
use native.Mathlib.Omega.{arith}
use lib.ListN.{length}
use Rattle.std.proofs.Common.{Ok, rules}
use Rattle.items.proofs.Passed.{err_passed}
use Rattle.only_equation.specs.Places.{IsSides}
use Rattle.only_equation.specs.declared.Equation.{Equation}
use Rattle.only_equation.proofs.Singles.{found as places-found}
use Rattle.decide.specs.Answers.{decided_told}
use Rattle.decide.proofs.Questions.{problem_refused, lent_small, problem_asked}
use Rattle.decide.proofs.ask_problem.Goals as goal

-- the parts that are lent stand in the problem, one behind the other
order : {l : List ℕ} {q : Equation} → IsSides l (Ok q) →
    (3 ≤ q.table_end) × (q.table_end ≤ length l) × (q.left ≤ q.right) × (q.right ≤ q.end) × (q.end ≤ length l)
order s = let o = (places-found _ _ s).order in (o.0, o.1, o.2, o.3, o.4)

pub overflow_cast-sides : goal.overflow_cast-sides
overflow_cast-sides c =
    let A = c.in_ok-sides.ensures in
    let few = (lent_small _ _ _ _ _ _ A.1).2 in
    let is = A.2 in
    search rules

pub ask-requires : goal.ask-requires
ask-requires c =
    let A = c.in_ok-sides.ensures in
    let S = lent_small _ _ _ _ _ _ A.1 in
    record { table = A.1.known; left_len_bound = (S.0, S.1) }

pub returns-in_err-sides : goal.returns-in_err-sides
unfolding decided_told
returns-in_err-sides c = rw (err_passed _ c.from_residual.ensures.1) (problem_refused _ _ _ _ _ c.in_err-sides.ensures)

pub returns : goal.returns
returns c =
    let A = c.in_ok-sides.ensures in
    problem_asked _ _ _ _ _ _ A.1 _ _ _ A.2 _ c.ask.ensures
