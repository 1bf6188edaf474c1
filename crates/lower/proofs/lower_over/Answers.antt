-- `lower_over`: one of the two is no whole term, or the path order decides: `no_first`, `no_second`, `both`. Assumes nothing.
-- Read first: specs/Lower (lower-of), order/specs/Walk (IsAbove), proofs/Lowers.
use mathlib.Core.Path.{◌∙◌, sym}
use Rattle.lower.proofs.Lowers.{no_first, no_second, few, second_lower, first_lower}
use Rattle.lower.proofs.lower_over.Goals.{then-not-is_term-via-then-not-is_term, then-not-is_term-via-else-not-is_term+then-not-is_term-2}
use Rattle.lower.proofs.lower_over.Goals as goal

pub returns-then-not-is_term : goal.returns-then-not-is_term
returns-then-not-is_term c =
    elim c.then-not-is_term.branch [
      | then-not-is_term-via-then-not-is_term w ↦ no_first _ _ _ (sym w.if-not-is_term.true ∙ c.is_term.ensures)
      | then-not-is_term-via-else-not-is_term+then-not-is_term-2 w ↦ no_second _ _ _ (sym w.if-not-is_term-2.true ∙ w.is_term-else-not-is_term.ensures)
    ]

pub above-above-requires : goal.above-above-requires
above-above-requires c = record {
  left = few _ c.requires _ (sym c.if-not-is_term.false ∙ c.is_term.ensures);
  right = few _ c.requires _ (sym c.if-not-is_term-2.false ∙ c.is_term-else-not-is_term.ensures);
}

pub returns-then-above : goal.returns-then-above
returns-then-above c =
    second_lower _ c.requires _ _ (sym c.if-not-is_term.false ∙ c.is_term.ensures)
    (sym c.if-not-is_term-2.false ∙ c.is_term-else-not-is_term.ensures) (rw c.if-above.true at c.above-above.ensures)

pub returns-else-above : goal.returns-else-above
returns-else-above c =
    first_lower _ c.requires _ _ (sym c.if-not-is_term.false ∙ c.is_term.ensures)
    (sym c.if-not-is_term-2.false ∙ c.is_term-else-not-is_term.ensures) (rw c.if-above.false at c.above-above.ensures)
