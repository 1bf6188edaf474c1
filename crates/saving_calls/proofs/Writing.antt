-- What `save_if`, `leave` and `begin` promise, from the promises of their parts; and where the theory of a problem and of a saved record stands. Assumes
-- nothing.
-- Read first: specs/Leaving, report/specs/Report (Reports), saving/specs/Saves (Saves), saving/proofs/Filling, run/proofs/Begun.
use mathlib.Core.Path.{◌≡◌, refl, sym, ap, subst, ◌∙◌}
use mathlib.Core.List.{List, []}
use mathlib.Core.Logic.{⊎_elim}
use Prim.Native.Nat.{ℕ, ◌-◌, ◌*◌, ◌≤◌}
use native.Mathlib.Omega.{arith}
use lib.ListN.{length, drop, length-take, length-map}
use Rattle.limits.specs.Limits.{most_symbols, symbols_width}
use Rattle.terms.proofs.Shape.{zero≢one}
use Rattle.problem.specs.Problem.{Equation, Problem, theory}
use Rattle.problem.specs.Parser.{ParsedAt}
use Rattle.completion.specs.Calls.{written, Writes}
use Rattle.rewriting.specs.Rewrite.{End, complete, neither_above, spent, too_large, rules_full, log_full}
use Rattle.rewriting.specs.Ends.{ending}
use Rattle.rewriting.specs.declared.End.{End as Ending}
use Rattle.rewriting.specs.declared.End.TheVariants.{Spent}
use Rattle.items.specs.Readers.{part}
use Rattle.slots.specs.declared.Pairs.{Pairs}
use Rattle.checkpoint.specs.Checkpoint.{Checkpoint, checkpoint_bytes}
use Rattle.checkpoint.specs.Resume.{saved_at, leaves}
use Rattle.checkpoint.proofs.Again.{saved_or_none}
use Rattle.inputs.specs.Inputs.{InputsRead}
use Rattle.loading.specs.declared.Front.{Front}
use Rattle.loading.specs.declared.Counts.{Counts}
use Rattle.loading.specs.Loads.{LoadedAt}
use Rattle.state.specs.declared.State.{State}
use Rattle.report.specs.Report.{Reports}
use Rattle.run.specs.declared.Ran.{Ran}
use Rattle.run.specs.Runs.{Runs}
use Rattle.run.proofs.Begun.{begun_leaves}
use Rattle.saving.specs.Saves.{Saves}
use Rattle.saving.proofs.Filling.{problem_filled, record_filled}
use Rattle.saving_calls.specs.Leaving.{LeftFew, TheoryAt, SavesIf, LeavesBoth, RunsProblem}

-- `save_if`: with end 21 the record, with another nothing
saved_none : (e : End) (c : Checkpoint) → (ending e ≡ Spent → ⊥) → saved_at e c ≡ []
unfolding ending
saved_none e c h = ⊎_elim (λ q. absurd (h (ap ending q))) (λ q. q) (saved_or_none e c)

saved_spent : (e : End) (c : Checkpoint) → ending e ≡ Spent → saved_at e c ≡ checkpoint_bytes c
unfolding saved_at ending
saved_spent complete c h = absurd (zero≢one (cc))
saved_spent neither_above c h = absurd (zero≢one (cc))
saved_spent spent c h = refl
saved_spent too_large c h = absurd (zero≢one (cc))
saved_spent rules_full c h = absurd (zero≢one (cc))
saved_spent log_full c h = absurd (zero≢one (cc))

module _ {st : State} {end : Ending} {tab l : List ℕ} {from count : ℕ} {before : List ℕ} where
  pub saves_none : (end ≡ Spent → ⊥) → SavesIf st end tab l from count before before 0
  unfolding written
  saves_none other =
      record {
        few = omega arith;
        writes = λ c e is T R.
            let none : saved_at e c ≡ [] = saved_none e c (λ z. other (is ∙ z)) in
            record { bytes = rw none refl; count = sym (ap length none) };
      }

  pub saves_spent : {after : List ℕ} {r : ℕ} → end ≡ Spent → Saves st tab l from count before after r → SavesIf st end tab l from count before after r
  saves_spent {after} {r} h S =
      record {
        few = S.few;
        writes = λ c e is T R.
            subst (λ ys. Writes before ys after r) (sym (saved_spent e c (sym is ∙ h)))
            (S.writes c T.table T.symbols_are T.equations T.number R);
      }

-- `leave`
pub table_few : (l : List ℕ) (e : ℕ) → e ≤ symbols_width → length (part l 3 e) ≤ 2 * most_symbols
table_few l e h = omega (arith, length-take (e - 3) (drop 3 l))

pub leaves_both : {o : Ran} {l : List ℕ} {e from count : ℕ} {before after before' after' : List ℕ} {n m : ℕ} →
    Reports o.state o.end o.paid before after n → SavesIf o.state o.end (part l 3 e) l from count before' after' m →
    LeavesBoth o l e from count before after before' after' (record { result = n; saved = m })
unfolding leaves
leaves_both {o} {l} {e} R S =
    record {
      few = (R.few, S.few);
      both = λ T f there L. (R.writes (part l 3 e) f L, S.writes (record { theory = T; state = f.state }) f.end L.end_is there L.state);
    }

-- `begin`
pub runs_problem : {l : List ℕ} {e b at n : ℕ} {inputs : Pairs} {o : Ran} → InputsRead (part l 3 e) l at n inputs → Runs (part l 3 e) inputs b o →
    RunsProblem l e b at n o
runs_problem {l} {e} {b} {at} {n} {inputs} {o} I R = record { fine = R.fine; answer = begun_leaves l e b at n inputs o I R }

-- the theory of an accepted problem, and of a record that was read
pub problem_theory : {l : List ℕ} {e b at n : ℕ} {P : Problem} → ParsedAt l e b at n P → TheoryAt (part l 3 e) l at n (theory P)
problem_theory {l} {e} {b} {at} {n} {P} A =
    record {
      table = A.table.table;
      symbols_are = A.symbols_are;
      equations = problem_filled l e b at n P A;
      number = length-map P.equations (λ (q : Equation). q.sides) ∙ A.number;
    }

pub record_theory : {l : List ℕ} {front : Front} {slots log : List ℕ} {counts : Counts} {c : Checkpoint} → LoadedAt l front slots log counts c →
    TheoryAt (part l 3 front.table) l front.table front.equations c.theory
record_theory {l} {front} {c = c} L =
    record {
      table = L.table.table;
      symbols_are = L.symbols_are;
      equations = record_filled (part l 3 front.table) L.table.table l front.table front.end c.theory.equations L.equations_there;
      number = L.number;
    }
