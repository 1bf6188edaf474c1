-- Demand 3, the delivery theorem, as a promise about bytes: what complete writes, read back, holds the end and the live rules of the run, and where
-- the end is 0 these rules settle the buyer's equations. And demand 2: these rules are derived from the equations. Assumes nothing.
-- Read first: specs/Promise, proofs/Delivered, proofs/Published, proofs/Keeping, proofs/ReadBack.
use mathlib.Core.Path.{◌≡◌, refl, sym, ap, subst, ◌∙◌}
use mathlib.Core.Bool.{false}
use mathlib.Core.List.{List, [], ◌∷◌, ◌++◌, map, append_assoc}
use mathlib.Core.Logic.{◌↔◌}
use mathlib.Core.Option.{some}
use Prim.Native.Nat.{ℕ, ◌≤◌, ◌%◌}
use native.Mathlib.Omega.{arith}
use lib.Dec.{eqb}
use lib.ListN.{length}
use Rattle.terms.proofs.Shape.{zero≢one}
use Rattle.std.specs.Prelude.{if◌then◌else◌}
use Rattle.terms.specs.Base.{number_bytes, Field, Every, of_none, of_cons}
use Rattle.terms.proofs.Every.{every_one, every_append, every_map, every_both}
use Rattle.rewriting.specs.Overlap.{Rule}
use Rattle.rewriting.specs.Rewrite.{End, complete, neither_above, spent, too_large, rules_full, log_full, end_number}
use Rattle.problem.specs.Problem.{ok, Theory, Problem, theory, parse}
use Rattle.problem.proofs.Reading.{from_bind, ok_injective}
use Rattle.completion.specs.Turn.{Candidate, Entry, Finished, run}
use Rattle.completion.specs.Calls.{rule_field, entry_field, oldest_field, forms_field, result_fields, result_bytes, complete_call}
use Rattle.completion.specs.Promise.{fields_of, one_byte, end_in, rules_in, Promise, Delivers}
use Rattle.completion.proofs.Held.{RuleFits, Accepted}
use Rattle.completion.proofs.Limits.{Limits}
use Rattle.completion.proofs.OverRules.{OverRule}
use Rattle.completion.proofs.OverRun.{reachable_over}
use Rattle.completion.proofs.Stopped.{Stopped, run_stops}
use Rattle.completion.proofs.Kept.{reachable_limits}
use Rattle.completion.proofs.Accepts.{accepts, budget_accepted}
use Rattle.completion.proofs.Result.{fields_fit}
use Rattle.completion.proofs.Keeping.{run_keeps}
use Rattle.completion.proofs.ReadBack.{fields_are, Fits, no_rules, rules_back}
use Rattle.completion.proofs.Delivered.{delivered}
use Rattle.completion.proofs.Published.{run_derived, complete_derived}

-- "0, complete"; the other ends are 20 to 24.
end_zero : (e : End) → (some (end_number e % 256) ≡ some 0) ↔ (e ≡ complete)
unfolding end_number
end_zero complete = (λ h. refl, λ h. refl)
end_zero neither_above = (λ h. absurd (zero≢one (cc)), λ h. absurd (zero≢one (cc)))
end_zero spent = (λ h. absurd (zero≢one (cc)), λ h. absurd (zero≢one (cc)))
end_zero too_large = (λ h. absurd (zero≢one (cc)), λ h. absurd (zero≢one (cc)))
end_zero rules_full = (λ h. absurd (zero≢one (cc)), λ h. absurd (zero≢one (cc)))
end_zero log_full = (λ h. absurd (zero≢one (cc)), λ h. absurd (zero≢one (cc)))

-- the log and the oldest one waiting are no rules
entries_other : (log : List Entry) → Every (λ (f : Field). eqb f.tag 0x12 ≡ false) (map entry_field log)
unfolding entry_field
entries_other [] = of_none
entries_other (e ∷ log) = of_cons refl (entries_other log)

oldest_other : (waiting : List Candidate) → Every (λ (f : Field). eqb f.tag 0x12 ≡ false) (oldest_field waiting)
unfolding oldest_field
oldest_other [] = of_none
oldest_other (oldest ∷ waiting) = every_one refl

forms_other : (e : End) (waiting : List Candidate) → Every (λ (f : Field). eqb f.tag 0x12 ≡ false) (forms_field e waiting)
unfolding forms_field
forms_other complete waiting = of_none
forms_other neither_above waiting = oldest_other waiting
forms_other spent waiting = of_none
forms_other too_large waiting = of_none
forms_other rules_full waiting = of_none
forms_other log_full waiting = of_none

-- What turns of an accepted theory leave, that began in any state of a run.
module _ (T : Theory) (accepted : Accepted T) (budget : ℕ) (f : Finished) (h : Stopped T budget f) where
  limits : Limits (length T.symbols) f.state
  limits = reachable_limits T accepted h.reachable

  rule_fits : (r : Rule) → OverRule T.symbols r.sides × RuleFits (length T.symbols) f.state.made r →
      Fits T.symbols accepted.symbols_few r
  rule_fits r k =
      let a : r.number ≤ f.state.made = k.1.last in
      let b : f.state.made ≤ length f.state.log = limits.made_few in
      let c : length f.state.log ≤ 512 = limits.log_few in
      record {
        number = omega arith;
        left_over = k.0.over.0;
        right_over = k.0.over.1;
        left_named = k.1.fits.left.made;
        right_named = k.1.fits.right.made;
      }

  -- The fields of the result are those that its bytes hold.
  pub fields_read : fields_of (result_bytes f) ≡ ok (result_fields f)
  unfolding result_bytes
  fields_read =
      fields_are (result_fields f) (every_map (λ g k. let l : length g.contents ≤ 242 = k.length_fits in omega arith)
      (fields_fit (length T.symbols) accepted.symbols_few f limits))

  -- "which is so exactly when the turns defined above end with 0 for that problem"
  pub end_read : (end_in (result_fields f) ≡ some 0) ↔ (f.end ≡ complete)
  unfolding result_fields end_in one_byte number_bytes
  end_read = end_zero f.end

  -- the rules read back are the live rules: the same numbers, in the same order
  pub rules_read : rules_in T.symbols (result_fields f) ≡ ok f.state.rules
  unfolding result_fields rules_in
  rules_read =
      let forms : List Field = forms_field f.end f.state.waiting in
      rw (append_assoc (map rule_field f.state.rules) (map entry_field f.state.log) forms)
      (rules_back T.symbols accepted.symbols_few f.state.rules (map entry_field f.state.log ++ forms)
      (every_map rule_fits (every_both (reachable_over T.symbols T accepted.equations_over h.reachable) limits.rules_fit))
      (no_rules T.symbols accepted.symbols_few _ (every_append (entries_other f.state.log) (forms_other f.end f.state.waiting))))

  pub run_promise : budget ≤ 1_000_000 → Promise T f (result_bytes f)
  run_promise few =
      record {
        fields = result_fields f;
        are_fields = fields_read;
        exactly = end_read;
        rules = f.state.rules;
        are_rules = rules_read;
        are_live = refl;
        keeps = run_keeps T accepted budget f h few;
        decide = λ k. delivered T accepted.equations_over h (end_read.0 k);
        derived = run_derived T h;
        derived_alone = λ k. complete_derived T h (end_read.0 k);
      }

-- What a reader of kept results rests on, however they came to be: their bytes, what these promise, and that the symbols fit bytes.
pub record Kept (T : Theory) (f : Finished) (kept : List ℕ) : Type 0 where
  pub bytes : kept ≡ result_bytes f
  pub promise : Promise T f kept
  pub symbols_few : length T.symbols ≤ 16

pub stopped_kept : (T : Theory) → Accepted T → (budget : ℕ) (f : Finished) → Stopped T budget f → budget ≤ 1_000_000 → Kept T f (result_bytes f)
stopped_kept T a budget f h few = record { bytes = refl; promise = run_promise T a budget f h few; symbols_few = a.symbols_few }

-- The theorem: complete leaves what the turns from the first state leave.
pub promised : (problem : List ℕ) (buffer : ℕ) (r : List ℕ) → complete_call problem buffer ≡ ok r → Delivers problem r
unfolding Delivers complete_call
promised problem buffer r e P p =
    from_bind _ _ r e λ u a e.
    from_bind _ _ r e λ Q b e.
    let same : Q ≡ P = ok_injective (sym b ∙ p) in
    subst (Promise (theory P) (run P)) (ap (λ Q. result_bytes (run Q)) (sym same) ∙ ok_injective e)
    (run_promise (theory P) (accepts problem P p) P.budget (run P) (run_stops P) (budget_accepted problem P p))
