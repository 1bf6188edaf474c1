-- `owed_by`: a return where the table ends before, one where the byte is no symbol, and one for a symbol. Assumes nothing.
-- Read first: specs/Scan (owes), proofs/Scans.
use Rattle.terms.proofs.Scans.{owes_none, owes_other, owes_read}
use mathlib.Core.Path.{sym, ◌∙◌}
use Rattle.std.proofs.Common.{rules}
use Rattle.terms.proofs.owed_by.Goals as goal

pub returns-then-k-table : goal.returns-then-k-table
returns-then-k-table c = (sym (owes_none _ _ _ c.from-f.ensures c.if-k-table.true), search rules)

pub returns-then-b-ge-SYMBOLS_END : goal.returns-then-b-ge-SYMBOLS_END
returns-then-b-ge-SYMBOLS_END c = (sym (owes_other _ _ c.if-b-ge-SYMBOLS_END.true), search rules)

pub returns-else-b-ge-SYMBOLS_END : goal.returns-else-b-ge-SYMBOLS_END
returns-else-b-ge-SYMBOLS_END c = let n = c.from-n.ensures in (n ∙ owes_read _ _ _ c.from-f.ensures c.if-b-ge-SYMBOLS_END.false, search rules)
