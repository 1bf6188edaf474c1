-- Normalising by steps of the rules, whichever node a step takes, comes to a last term, or to the end of its units, or to a term over 120 nodes. Assumes
-- nothing.
-- Read first: specs/Rewrite (normalise_by), proofs/Counts, proofs/Outer.
use mathlib.Core.Path.{◌≡◌, subst}
use mathlib.Core.List.{List}
use mathlib.Core.Option.{Option, none, some}
use Prim.Native.Nat.{ℕ}
use Rattle.terms.specs.Term.{Term}
use Rattle.rewriting.specs.Overlap.{Rule}
use Rattle.rewriting.specs.Rewrite.{step, complete, neither_above, spent, too_large, rules_full, log_full, Paid, done, stop, normalise_by}
use Rattle.rewriting.specs.Outermost.{step_outer}
use Rattle.rewriting.proofs.Relations
use Rattle.rewriting.proofs.Relations.{Star, Normal}
use Rattle.rewriting.proofs.Stepping.{StepBy, step_sound, step_none}
use Rattle.rewriting.proofs.Holds.{Holds, Pays, NormalEnd}
use Rattle.rewriting.proofs.Counts.{Chain, stays, moves, Outcome, counts}
use Rattle.rewriting.proofs.Outer.{outer_sound, outer_none}

-- `next` is a step by the rules wherever there is one
pub record Rewrites (rules : List Rule) (next : Term → Option Term) : Type 0 where
  pub sound : (t u : Term) → next t ≡ some u → StepBy rules t u
  pub rests : (t : Term) → next t ≡ none → Normal (StepBy rules) t

pub inner_rewrites : (rules : List Rule) → Rewrites rules (step rules)
inner_rewrites rules = record { sound = step_sound rules; rests = step_none rules }

pub outer_rewrites : (rules : List Rule) → Rewrites rules (step_outer rules)
outer_rewrites rules = record { sound = outer_sound rules; rests = outer_none rules }

module _ {rules : List Rule} {next : Term → Option Term} (R : Rewrites rules next) where
  chain_star : {t u : Term} {k : ℕ} → Chain next t u k → Star (StepBy rules) t u
  chain_star {t} (stays e q) = subst (Star (StepBy rules) t) e Relations.stop
  chain_star (moves {t} {u} e c q) = Relations.move (R.sound t u e) (chain_star c)

  -- An answer is a last term: reached by steps, and no step leads from it.
  pub last_by : (t u : Term) (left rest : ℕ) → normalise_by next t left ≡ done u rest → Star (StepBy rules) t u × Normal (StepBy rules) u
  last_by t u left rest e =
      let h : Outcome next t left (done u rest) = subst (Outcome next t left) e (counts next t left) in
      (chain_star h.0.chain, R.rests u h.1)

-- It ends with spent or too large and with no other end.
module _ (next : Term → Option Term) (t : Term) where
  one_end : (left : ℕ) (p : Paid Term) → Outcome next t left p → Holds (λ u. Unit {0}) (λ e rest. NormalEnd e) p
  one_end left (done u rest) h = tt
  one_end left (stop complete rest) h = h
  one_end left (stop neither_above rest) h = h
  one_end left (stop spent rest) h = tt
  one_end left (stop too_large rest) h = tt
  one_end left (stop rules_full rest) h = h
  one_end left (stop log_full rest) h = h

  pub ends_by : Pays (λ u. Unit {0}) (λ e rest. NormalEnd e) (normalise_by next t)
  ends_by = record { out = λ left. one_end left (normalise_by next t left) (counts next t left) }
