-- `order::comparison` meets its contract. Assumes nothing.
-- Read first: proofs/Steps.
use Rattle.order.proofs.Steps.{compared_left, compared_right, compared_same, compared_neither}
use Rattle.order.proofs.comparison.Goals as goal

pub returns-then-above : goal.returns-then-above
returns-then-above c = compared_left _ _ _ _ c.above.ensures c.if-above.true

pub returns-then-above-2 : goal.returns-then-above-2
returns-then-above-2 c = compared_right _ _ _ _ c.above.ensures c.if-above.false _ c.above-2.ensures c.if-above-2.true

pub returns-then-same_term : goal.returns-then-same_term
returns-then-same_term c =
    compared_same _ _ _ _ c.above.ensures c.if-above.false _ c.above-2.ensures
    c.if-above-2.false _ c.same_term.ensures c.if-same_term.true

pub returns : goal.returns
returns c =
    compared_neither _ _ _ _ c.above.ensures c.if-above.false _ c.above-2.ensures
    c.if-above-2.false _ c.same_term.ensures c.if-same_term.false
