-- `listed`: a lemma for each of its cases. Assumes nothing.
-- Read first: specs/Record (listed-end), proofs/Whole.
use mathlib.Core.Path.{◌∙◌}
use borrow.Author.Tests.{eq-eqb, lt-leb}
use Rattle.record.proofs.Whole.{listed_none, listed_low, listed_high}
use Rattle.record.proofs.listed.Goals as goal

pub returns-then-end-eq0 : goal.returns-then-end-eq0
returns-then-end-eq0 c = eq-eqb _ 0 c.if-end-eq0.true ∙ listed_none _ c.if-end-eq0.true

pub returns-else-end-ge-FIRST_STOP : goal.returns-else-end-ge-FIRST_STOP
returns-else-end-ge-FIRST_STOP c =
    lt-leb 20 c.args.end c.if-end-ge-FIRST_STOP.false ∙ listed_low _ c.if-end-eq0.false c.if-end-ge-FIRST_STOP.false

pub returns-then-end-ge-FIRST_STOP : goal.returns-then-end-ge-FIRST_STOP
returns-then-end-ge-FIRST_STOP c = listed_high _ c.if-end-ge-FIRST_STOP.true
