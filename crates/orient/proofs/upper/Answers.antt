-- `upper`: a lemma for each return, from the count of the variables and the outcomes of the two comparisons. Assumes nothing.
-- Read first: specs/Orients (IsUpper), proofs/Orienting.
use Rattle.orient.proofs.Orienting.{upper_many, upper_left, upper_right, upper_neither}
use native.Mathlib.Omega.{arith}
use Rattle.orient.proofs.upper.Goals as goal

pub returns-then-variable_count-gt-MOST_VARIABLES : goal.returns-then-variable_count-gt-MOST_VARIABLES
returns-then-variable_count-gt-MOST_VARIABLES c = upper_many _ _ _ _ c.variable_count.ensures
    (let a = c.if-variable_count-gt-MOST_VARIABLES.true in omega arith)

pub returns-then-above : goal.returns-then-above
returns-then-above c =
    upper_left _ _ _ _ c.variable_count.ensures c.if-variable_count-gt-MOST_VARIABLES.false _ c.if-above.true c.above.ensures

pub returns-then-above-2 : goal.returns-then-above-2
returns-then-above-2 c =
    upper_right _ _ _ _ c.variable_count.ensures c.if-variable_count-gt-MOST_VARIABLES.false _ _ c.if-above.false
    c.above.ensures c.above-2.ensures c.if-above-2.true

pub returns : goal.returns
returns c =
    upper_neither _ _ _ _ c.variable_count.ensures c.if-variable_count-gt-MOST_VARIABLES.false _ _ c.if-above.false
    c.above.ensures c.above-2.ensures c.if-above-2.false
