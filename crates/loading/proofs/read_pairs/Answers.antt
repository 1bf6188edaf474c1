-- `read_pairs`: what `read_rules` and `read_waiting` answer, one behind the other. Assumes nothing.
-- Read first: specs/Loads (read-pairs, IsPairs), proofs/Whole.
use Prim.Native.Nat.{◌-◌}
use native.Mathlib.Omega.{arith}
use Rattle.items.proofs.Passed.{err_passed}
use Rattle.loading.proofs.Whole.{pairs_bad, waiting_unread, pairs_fine}
use Rattle.loading.proofs.read_pairs.Goals as goal

pub overflow_sub-next : goal.overflow_sub-next
overflow_sub-next c = c.requires.at_in_bounds.2

pub read_rules-requires : goal.read_rules-requires
read_rules-requires c =
    record {
      table = c.requires.table;
      at_in_bounds = (c.requires.at_in_bounds.0, omega (arith, c.requires.at_in_bounds.1));
      most_rules_in_bounds = omega (arith, c.requires.most_pairs_in_bounds);
    }

pub read_waiting-requires : goal.read_waiting-requires
read_waiting-requires c =
    let R = c.in_ok-rules.ensures in
    record {
      table = c.requires.table;
      at_in_bounds = (R.1.within, c.requires.at_in_bounds.1, R.2.few);
      most_pairs_in_bounds = omega (arith, c.requires.most_pairs_in_bounds, c.read_rules.auto.slots);
    }

pub returns-in_err-rules : goal.returns-in_err-rules
returns-in_err-rules c = rw (err_passed _ c.from_residual.ensures.1) (pairs_bad c.args.table.now c.args.saved.now _ _ _ c.in_err-rules.ensures)

pub returns-in_err-pairs : goal.returns-in_err-pairs
returns-in_err-pairs c =
    let R = c.in_ok-rules.ensures in
    rw (err_passed _ c.from_residual-in_err-pairs.ensures.1) (waiting_unread _ _ _ _ _ _ R.1 _ _ R.2 _ c.in_err-pairs.ensures)

pub returns : goal.returns
returns c =
    let R = c.in_ok-rules.ensures in
    let W = c.in_ok-pairs.ensures in
    pairs_fine _ _ _ _ _ _ R.1 _ _ R.2 W.0 _ _ _ W.1 W.2 W.3
