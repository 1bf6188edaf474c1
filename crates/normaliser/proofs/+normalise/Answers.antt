-- `normalise_in` and `normalise_all` call each other; 1000 times the units and twice the cells in use (and 1 for `normalise_all`) fall. Assumes nothing.
-- The loop of `normalise_in`: the term at hand comes to what was asked; the units fall. That of `normalise_all`: the terms still to do.
-- Read first: specs/Settled (Settled), proofs/Settling, proofs/Together.
use Rattle.std.proofs.Common.{◌≡◌, ℕ, ◌-◌, ◌<◌, ◌%◌, List, ◌∙◌, ap, arith}
use lib.ListN.{get_or}
use Rattle.terms.specs.Scan.{owes}
use Rattle.terms.proofs.Starts.{from}
use Rattle.redex.specs.declared.Out.{Out}
use Rattle.normaliser.specs.Settled.{SettledAll}
use Rattle.normaliser.proofs.Settling.{Turning, turn_empty, turn_leave, Below, turn_stop, turn_end, turn_on}
use Rattle.normaliser.proofs.Together.{row_start, row_end, row_stop, row_on}
use Rattle.normaliser.proofs.+normalise.Goals as goal

pub normalise_all-loop-init : goal.normalise_all-loop-init
normalise_all-loop-init t c = row_start c.requires.len_le_most

pub normalise_all-returns-in_default : goal.normalise_all-returns-in_default
normalise_all-returns-in_default t c = row_stop c.loop.invariant c.loop-test.true c.normalise_in-r.ensures c.in_default.not-Normal

pub normalise_all-loop-preserved : goal.normalise_all-loop-preserved
normalise_all-loop-preserved t c = row_on c.loop.invariant c.loop-test.true c.normalise_in-r.ensures c.in-Normal.is

pub normalise_all-returns : goal.normalise_all-returns
normalise_all-returns t c = row_end c.loop.invariant c.loop-test.false c.ended.ensures

pub normalise_in-returns-then-l-eq0 : goal.normalise_in-returns-then-l-eq0
normalise_in-returns-then-l-eq0 t c = turn_empty c.loop-l.invariant c.if-l-eq0.true c.ended.ensures

pub normalise_in-returns-then-c-ge-SIZED : goal.normalise_in-returns-then-c-ge-SIZED
normalise_in-returns-then-c-ge-SIZED t c = turn_leave c.loop-l.invariant c.if-c-ge-SIZED.true c.leave.ensures

-- what is known once the arguments were normalised
below : {tab rules : List ℕ} {number : ℕ} {t₀ : List ℕ} {len most units : ℕ} {t : List ℕ} {l u n : ℕ} {q : List ℕ} {r : Out} {b : ℕ} →
    Turning tab rules number t₀ len most units t l u → (l ≡ 0 → ⊥) → get_or t 0 0 < 256 → n ≡ owes tab b → b ≡ get_or t 0 0 % 256 →
    SettledAll tab rules number (from t 1) q n (l - 1) (most - 1) u r → Below tab rules number t₀ len most units t l u n q r
below {tab = tab} i some low owed byte settled = record {
  turning = i;
  some_cell = omega arith;
  no_size = low;
  arity = owed ∙ ap (owes tab) byte;
  settled = settled;
}

pub normalise_in-returns-in_default : goal.normalise_in-returns-in_default
normalise_in-returns-in_default t c =
    turn_stop (below c.loop-l.invariant c.if-l-eq0.false c.if-c-ge-SIZED.false c.owed_by-n.ensures.0 c.byte_of.ensures c.normalise_all-r.ensures)
    c.in_default.not-Normal

pub normalise_in-returns-in_default-step : goal.normalise_in-returns-in_default-step
normalise_in-returns-in_default-step t c =
    turn_end (below c.loop-l.invariant c.if-l-eq0.false c.if-c-ge-SIZED.false c.owed_by-n.ensures.0 c.byte_of.ensures c.normalise_all-r.ensures)
    c.in-Normal.is c.rewrite-s.ensures c.in_default-step.not-Rewritten

pub normalise_in-loop-l-preserved : goal.normalise_in-loop-l-preserved
normalise_in-loop-l-preserved t c =
    turn_on (below c.loop-l.invariant c.if-l-eq0.false c.if-c-ge-SIZED.false c.owed_by-n.ensures.0 c.byte_of.ensures c.normalise_all-r.ensures)
    c.in-Normal.is c.rewrite-s.ensures c.in-Rewritten.is
