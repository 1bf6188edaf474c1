-- `step`: a lemma for each return: none is matched (`step_none`), no unit (`step_spent`), too large (`step_large`), a step (`step_done`). Assumes nothing.
-- Read first: specs/Outer (SteppedOuter), proofs/Returning (Sought).
use native.Mathlib.Omega.{arith}
use Rattle.slots.proofs.Layouts.{layout_less}
use Rattle.std.specs.Prelude.{Some}
use Rattle.outer_normaliser.proofs.Returning.{Sought, sought, step_none, step_spent, step_large, step_done, place_low, places_within}
use Rattle.std.proofs.Common.{rules}
use Rattle.outer_normaliser.proofs.step.Goals as goal

pub returns-in_default : goal.returns-in_default
returns-in_default c = step_none (sought c.in_default.ensures c.requires.len_le_most_nodes) c.ended.ensures

pub returns-then-units-eq0 : goal.returns-then-units-eq0
returns-then-units-eq0 c =
    step_spent (sought c.in-Some.ensures c.requires.len_le_most_nodes) c.if-units-eq0.true c.ended-then-units-eq0.ensures

pub contract_at-requires : goal.contract_at-requires
contract_at-requires c =
    let k = c.in-Some.ensures.found.rule in
    let s = c.first_redex.ensures.same in
    let g : Sought c.args.system.now.rules.now c.args.t.now c.args.system.now.count c.args.len c.args.clean c.first_redex.new.binds (Some c.in-Some.f) =
    sought c.in-Some.ensures c.requires.len_le_most_nodes in
    record {
      layout = layout_less (omega arith) c.args.system.now.laid_out;
      at_lt_len = (place_low g, c.requires.len_le_most_nodes.0, c.requires.len_le_most_nodes.1);
      most_variables_in_bounds = (search rules, places_within g);
    }

pub returns-in_default-contract_at : goal.returns-in_default-contract_at
returns-in_default-contract_at c =
    step_large (sought c.in-Some.ensures c.requires.len_le_most_nodes) c.in_default-contract_at.ensures c.if-units-eq0.false
    c.ended-in_default-contract_at.ensures

pub returns : goal.returns
returns c =
    step_done (sought c.in-Some.ensures c.requires.len_le_most_nodes) _ c.in-Some-contract_at.ensures c.in-Some-contract_at.ensures.small
    c.if-units-eq0.false c.open_path.ensures c.size_cells.ensures c.ended-2.ensures
