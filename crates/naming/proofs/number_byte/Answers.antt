-- `number_byte`: a symbol stays, a variable becomes its place among the names. Assumes nothing.
-- Read first: specs/Names (named), proofs/Finding.
use Rattle.naming.proofs.Finding.{number_symbol, number_variable}
use Rattle.naming.proofs.number_byte.Goals as goal

pub returns-then-b-lt-VARIABLE : goal.returns-then-b-lt-VARIABLE
returns-then-b-lt-VARIABLE c = number_symbol _ _ c.if-b-lt-VARIABLE.true

pub returns : goal.returns
returns c = number_variable _ _ _ _ c.if-b-lt-VARIABLE.false c.place_of.ensures c.unwrap_or-k.ensures
