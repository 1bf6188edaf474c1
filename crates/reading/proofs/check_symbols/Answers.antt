-- `check_symbols`: what is wrong of the length, and what `ranked` answers of a right one, by `symbols_are`. Assumes nothing.
-- Read first: specs/Answers (IsSymbols), proofs/Tables.
use Rattle.reading.proofs.Tables.{wrong_none, wrong_odd, wrong_many, symbols_are}
use Rattle.reading.proofs.check_symbols.Goals.{then-n-eq0-via-then-n-eq0, then-n-eq0-via-else-n-eq0+then-n-eq1}
use Rattle.reading.proofs.check_symbols.Goals.{then-n-eq0-via-else-n-eq0+else-n-eq1+then-n-gt-TABLE}
use Rattle.reading.proofs.check_symbols.Goals as goal

pub returns-then-n-eq0 : goal.returns-then-n-eq0
returns-then-n-eq0 c =
    elim c.then-n-eq0.branch [
      | then-n-eq0-via-then-n-eq0 w ↦ wrong_none _ w.if-n-eq0.true
      | then-n-eq0-via-else-n-eq0+then-n-eq1 w ↦ wrong_odd _ w.if-n-eq0.false w.if-n-eq1.true
      | then-n-eq0-via-else-n-eq0+else-n-eq1+then-n-gt-TABLE w ↦ wrong_many _ w.if-n-eq0.false w.if-n-eq1.false w.if-n-gt-TABLE.true
    ]

pub returns : goal.returns
returns c = symbols_are c.args.table.now c.if-n-eq0.false c.if-n-eq1.false c.if-n-gt-TABLE.false c.ranked.result c.ranked.ensures
