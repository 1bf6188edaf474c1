-- `choose`: the field is refused, a byte follows it, or its table decides: `table_unread`, `table_behind`, `table_alone`. Assumes nothing.
-- Read first: specs/Lower (which), problem/specs/Parser (IsSymbols), proofs/Wholes, proofs/Lowers.
use native.Mathlib.Omega.{arith}
use Rattle.lower.proofs.Wholes.{table_unread, table_behind, table_alone}
use Rattle.lower.proofs.Lowers.{no_symbols, over_symbols}
use Rattle.lower.proofs.choose.Goals as goal

pub returns-in_default : goal.returns-in_default
returns-in_default c = no_symbols _ _ _ (table_unread _ _ _ c.in_default.ensures)

pub returns-then-end-symbols : goal.returns-then-end-symbols
returns-then-end-symbols c = no_symbols _ _ _ (table_behind _ _ c.in-Ok.ensures (omega (arith, c.if-end-symbols.true)))

pub lower_over-requires : goal.lower_over-requires
lower_over-requires c = let found = c.in-Ok.ensures in found.table

pub returns : goal.returns
returns c = over_symbols _ _ _ _ _ (table_alone _ _ c.in-Ok.ensures (omega (arith, c.if-end-symbols.false))) c.lower_over.ensures
