-- The run of an accepted problem, from what is promised of its parser, of the reader of its equations and of the run; and what these ask. Assumes nothing.
-- Read first: problem/specs/Parser (ParsedAt), inputs/specs/Inputs (InputsRead), specs/Runs (Runs), state/specs/Run (Leaves).
use mathlib.Core.Path.{sym, ap, ◌∙◌, subst}
use mathlib.Core.List.{List}
use Prim.Native.Nat.{ℕ, ◌≤◌}
use native.Mathlib.Omega.{arith}
use lib.ListN.{length, length-map}
use Rattle.limits.specs.Limits.{field_head, most_equations, most_budget, symbols_width, two_byte_values}
use Rattle.problem.specs.Problem.{rank_of, Equation, Problem, theory}
use Rattle.problem.specs.Parser.{ParsedAt}
use Rattle.completion.specs.Turn.{initial, run_from, run}
use Rattle.completion.proofs.Accepts.{accepts, budget_accepted}
use Rattle.completion.proofs.Ranks.{ranks_are}
use Rattle.slots.specs.declared.Pairs.{Pairs}
use Rattle.items.specs.Readers.{part}
use Rattle.inputs.specs.Inputs.{InputsRead}
use Rattle.inputs.proofs.Fields.{problem_fields}
use Rattle.state.specs.Run.{Leaves}
use Rattle.run.specs.declared.Ran.{Ran}
use Rattle.run.specs.Runs.{Runs}

pub begun_leaves : (l : List ℕ) (e b at n : ℕ) (inputs : Pairs) (o : Ran) → InputsRead (part l 3 e) l at n inputs → Runs (part l 3 e) inputs b o →
    (P : Problem) → ParsedAt l e b at n P → Leaves (part l 3 e) (run P) o.state o.end o.paid
unfolding run
begun_leaves l e b at n inputs o I R P A =
    let tab : List ℕ = part l 3 e in
    let fields = problem_fields l e b at n P A in
    subst (λ k. Leaves tab (run_from (theory P) (initial (theory P)) k) o.state o.end o.paid) (sym A.budget_is)
    (R.answer (theory P) (record {
      ranks = ap rank_of A.symbols_are ∙ ranks_are tab A.table.table;
      held = I.held (theory P).equations fields.0 fields.1;
    }))

pub record Needs (l : List ℕ) (e b n : ℕ) : Type 0 where
  pub low : field_head ≤ e
  pub high : e ≤ symbols_width
  pub within : e ≤ length l
  pub small : length l ≤ two_byte_values
  pub few : n ≤ most_equations
  pub budget : b ≤ most_budget

pub accepted_needs : (l : List ℕ) (e b at n : ℕ) → ((P : Problem) × ParsedAt l e b at n P) → Needs l e b n
accepted_needs l e b at n (P, A) =
    record {
      low = omega (arith, A.table.low);
      high = A.table.high;
      within = A.table.within;
      small = omega (arith, A.small);
      few = omega (arith, A.number, (accepts l P A.is).equations_few, length-map P.equations (λ (e : Equation). e.sides));
      budget = omega (arith, A.budget_is, budget_accepted l P A.is);
    }
