-- `terms::is_node` meets its contract. Assumes nothing.
-- Read first: proofs/Scans.
use Rattle.terms.proofs.Scans.{node_symbol, node_gap, node_high}
use borrow.Author.Tests.{lt-ltb, lt-leb}
use mathlib.Core.Path.{sym, ◌∙◌}
use Rattle.std.proofs.Common.{rules}
use Rattle.terms.proofs.is_node.Goals as goal

pub returns-then-f-table : goal.returns-then-f-table
returns-then-f-table c = lt-ltb _ _ c.if-f-table.true ∙ sym (node_symbol _ _ (search rules))

pub returns-then-b-ge-VARIABLE : goal.returns-then-b-ge-VARIABLE
returns-then-b-ge-VARIABLE c = sym (node_high _ _ (search rules) c.if-b-ge-VARIABLE.true)

pub returns-else-b-ge-VARIABLE : goal.returns-else-b-ge-VARIABLE
returns-else-b-ge-VARIABLE c = lt-leb _ _ c.if-b-ge-VARIABLE.false ∙ sym (node_gap _ _ (search rules) c.if-b-ge-VARIABLE.false)
