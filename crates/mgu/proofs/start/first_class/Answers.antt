-- `first_class`: a symbol, a variable that is new, and one that was met before. Assumes nothing.
-- Read first: specs/Result (FirstClass, Firsts), proofs/Firsts.
use Rattle.mgu.proofs.Firsts.{first_symbol, first_new, first_old}
use native.Mathlib.Omega.{arith}
use Rattle.mgu.proofs.start.first_class.Goals as goal

pub returns-then-nodes-i-lt-VARIABLE : goal.returns-then-nodes-i-lt-VARIABLE
returns-then-nodes-i-lt-VARIABLE c = first_symbol _ _ c.if-nodes-i-lt-VARIABLE.true

pub returns-then-f-eq0 : goal.returns-then-f-eq0
returns-then-f-eq0 c =
    first_new _ _ _ _ _ c.requires.1 c.from-b.ensures c.if-nodes-i-lt-VARIABLE.false (omega (arith, c.type_inv.nodes c.args.i, c.from-b.ensures))
    c.from-f.ensures c.if-f-eq0.true

pub returns : goal.returns
returns c = first_old _ _ _ _ _ c.requires.1 c.from-b.ensures c.if-nodes-i-lt-VARIABLE.false c.from-f.ensures c.if-f-eq0.false
