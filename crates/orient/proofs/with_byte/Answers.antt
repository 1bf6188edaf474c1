-- `with_byte`: a symbol adds no bit, a variable its bit, a byte above all variables every bit: a lemma for each return. Assumes nothing.
-- Read first: specs/Seen (Seen), proofs/Seeing.
use Rattle.orient.proofs.Seeing.{see_symbol, see_high, see_variable}
use mathlib.Core.Path.{refl}
use Rattle.std.proofs.Common.{rules}
use Rattle.orient.proofs.with_byte.Goals as goal

pub returns-then-b-lt-VARIABLE : goal.returns-then-b-lt-VARIABLE
returns-then-b-lt-VARIABLE c = see_symbol _ _ (search rules) c.if-b-lt-VARIABLE.true

pub returns-then-b-ge-VARIABLES_END : goal.returns-then-b-ge-VARIABLES_END
returns-then-b-ge-VARIABLES_END c = see_high _ _ c.if-b-ge-VARIABLES_END.true

pub returns : goal.returns
returns c = see_variable _ _ _ (search rules) c.if-b-lt-VARIABLE.false c.if-b-ge-VARIABLES_END.false refl
