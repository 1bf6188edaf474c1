-- `formed`: a lemma for each return: no node's byte, a variable, no symbol, too few terms behind a symbol, a symbol with its arguments. Assumes
-- nothing.
-- Read first: specs/Result (Formed), proofs/Laying.
use mathlib.Core.Path.{sym, subst}
use native.Mathlib.Omega.{arith}
use Rattle.mgu.specs.Result.{Formed}
use Rattle.mgu.proofs.Laying.{formed_high, formed_gap, formed_few, formed_variable, formed_symbol}
use Rattle.mgu.proofs.formed.Goals as goal

pub returns-then-b-ge-VARIABLES_END : goal.returns-then-b-ge-VARIABLES_END
returns-then-b-ge-VARIABLES_END c = formed_high _ _ _ c.if-b-ge-VARIABLES_END.true

pub returns-then-b-ge-VARIABLE : goal.returns-then-b-ge-VARIABLE
returns-then-b-ge-VARIABLE c = formed_variable _ _ _ c.if-b-ge-VARIABLE.true (omega (arith, c.if-b-ge-VARIABLES_END.false))

pub returns-then-b-ge-SYMBOLS_END : goal.returns-then-b-ge-SYMBOLS_END
returns-then-b-ge-SYMBOLS_END c = formed_gap _ _ _ c.if-b-ge-SYMBOLS_END.true (omega (arith, c.if-b-ge-VARIABLE.false))

pub returns-in_err-rest : goal.returns-in_err-rest
returns-in_err-rest c =
    subst (λ r. Formed c.args.table.now c.args.b c.args.have r) (sym c.from_residual.ensures)
    (formed_few _ _ _ _ c.owed_by.ensures.0 (omega arith) (omega (arith, c.in_err-rest.ensures)))

pub returns : goal.returns
returns c = formed_symbol _ _ _ _ _ c.owed_by.ensures.0 (omega arith) c.in_ok-rest.ensures.0 c.in_ok-rest.ensures.1
