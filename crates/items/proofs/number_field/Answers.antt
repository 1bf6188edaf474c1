-- `number_field`: the field that is due, and whether it has so many bytes. Assumes nothing.
-- Read first: specs/Readers (IsNumber), proofs/OneField.
use native.Mathlib.Omega.{arith}
use Rattle.items.specs.Fields.{read_number}
use Rattle.items.proofs.OneField.{one_ends, one_undue, one_read, one_unread, number_length, number_is}
use Rattle.items.proofs.number_field.Goals as goal

pub overflow_add-start : goal.overflow_add-start
overflow_add-start c =
    let d = c.in-Ok.ensures in omega (arith, d.1, d.2)

pub returns-then-e-start : goal.returns-then-e-start
returns-then-e-start c =
    let d = c.in-Ok.ensures in
    one_unread _ (read_number _) _ _ _ d (number_length _ _ _ _ _ d.1 d.2 c.if-e-start.true)

pub number-requires : goal.number-requires
number-requires c =
    let d = c.in-Ok.ensures in
    (omega (arith, c.if-e-start.false, d.1, d.2), c.requires)

pub returns : goal.returns
returns c =
    let d = c.in-Ok.ensures in
    let f = c.if-e-start.false in
    one_ends (omega (arith, d.1, f))
    (one_read _ (read_number _) _ _ _ d _ (number_is _ _ _ _ _ d.1 d.2 f _ c.number.ensures.value))

pub returns-in_default : goal.returns-in_default
returns-in_default c = one_undue _ (read_number _) _ _ c.due.result c.due.ensures c.in_default.not-Ok

pub overflow_sub-e : goal.overflow_sub-e
overflow_sub-e c =
    let found = c.in-Ok.ensures in
    found.1
