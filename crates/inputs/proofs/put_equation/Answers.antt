-- `put_equation`: the slot is marked; no field there (`undue_field`), or a field, and the sides behind its head are put (`field_one`). Assumes
-- nothing.
-- Read first: specs/Inputs (PutsEquation), proofs/Placing.
use Rattle.inputs.proofs.Placing.{undue_field, field_one}
use native.Mathlib.Omega.{arith}
use Rattle.inputs.proofs.put_equation.Goals as goal

pub overflow_add-at : goal.overflow_add-at
overflow_add-at c = let d = c.in-Ok.ensures in omega (arith, d.1, d.2, c.requires.source_len_bound)

pub put_sides-requires : goal.put_sides-requires
put_sides-requires c =
    let d = c.in-Ok.ensures in
    record {
      k_in_bounds = omega (arith, c.put_mark.ensures.only.same, c.requires.k_in_bounds.0);
      at_in_bounds = (omega (arith, d.1, d.2), c.requires.source_len_bound);
    }

pub returns-in_default : goal.returns-in_default
returns-in_default c =
    undue_field _ _ _ _ _ _ _ c.numbered-mark.ensures c.put_mark.ensures c.due.result c.due.ensures c.in_default.not-Ok

pub returns : goal.returns
returns c =
    let d = c.in-Ok.ensures in
    field_one _ _ _ _ _ _ _ c.numbered-mark.ensures c.put_mark.ensures _ _ d.0
    c.put_sides.ensures
