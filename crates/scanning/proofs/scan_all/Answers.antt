-- `scan_all`: the overlaps, then the inputs. Assumes nothing.
-- Read first: specs/Walk (of-all), proofs/Going, proofs/Inputs.
use Rattle.scanning.proofs.Inputs.{all_parts, rules_walk}
use Rattle.scanning.proofs.Going.{equal_yes, equal_no, going_start, going_on, going_stop, going_then}
use Rattle.scanning.proofs.scan_all.Goals as goal

pub returns-then-not-all_equal : goal.returns-then-not-all_equal
returns-then-not-all_equal c =
    going_stop going_start all_parts (rules_walk c.scan_rules-w.ensures)
    (equal_no _ _ c.all_equal.ensures c.if-not-all_equal.true)

pub scan_inputs-requires : goal.scan_inputs-requires
scan_inputs-requires c = (c.requires.1, c.requires.2, c.scan_rules-w.ensures.kept.layout c.requires.3)

pub returns : goal.returns
returns c =
    going_then (going_on going_start all_parts (rules_walk c.scan_rules-w.ensures) (equal_yes _ _ c.all_equal.ensures c.if-not-all_equal.false))
    c.scan_inputs.ensures
