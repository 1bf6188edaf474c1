-- `slot`: a symbol and a variable from 16 on have none; any other has what its place holds. Assumes nothing.
-- Read first: specs/Pieces (slot_of), proofs/Filling.
use mathlib.Core.Path.{sym, ◌∙◌, ap}
use Prim.Native.Nat.{◌-◌}
use Rattle.matching.specs.Pieces.{before}
use Rattle.matching.proofs.Filling.{slot_symbol, slot_high, slot_variable, one_before}
use Rattle.std.proofs.Common.{rules}
use Rattle.matching.proofs.slot.Goals as goal

pub returns-then-b-lt-VARIABLE : goal.returns-then-b-lt-VARIABLE
returns-then-b-lt-VARIABLE c = sym (slot_symbol _ _ c.if-b-lt-VARIABLE.true)

pub returns-then-x-ge-VARIABLES : goal.returns-then-x-ge-VARIABLES
returns-then-x-ge-VARIABLES c = sym (slot_high _ _ _ c.if-b-lt-VARIABLE.false (search rules) c.if-x-ge-VARIABLES.true)

pub returns : goal.returns
returns c =
    one_before _ _ c.checked_sub.ensures ∙ ap before c.from.ensures
    ∙ sym (slot_variable c.args.binds.now _ (c.from-x.result - 128) c.if-b-lt-VARIABLE.false (search rules) c.if-x-ge-VARIABLES.false)
