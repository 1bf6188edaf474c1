-- `rule_sides`: the pair that fills the bytes, and where rules are ordered whether its left side is above its right side. Assumes nothing.
-- Read first: specs/Readers (AreRuleSides), proofs/Holding.
use mathlib.Core.Path.{◌≡◌, refl, ◌∙◌}
use native.Mathlib.Omega.{arith}
use Rattle.items.proofs.Holding.{sides_compared, fill_short, sides_refused, sides_any, sides_above, sides_not}
use Rattle.std.proofs.Common.{None}
use Rattle.items.proofs.rule_sides.Goals.{else-ordered-via-then-ordered+else-not-above, else-ordered-via-else-ordered}
use Rattle.items.proofs.rule_sides.Goals as goal

pub returns-in_err-middle : goal.returns-in_err-middle
returns-in_err-middle c =
    let gone : c.from_residual.result ≡ None = grind arith in
    rw gone (sides_refused _ _ _ _ c.in_err-middle.ensures)

pub slice_bounds-above-end-then-ordered : goal.slice_bounds-above-end-then-ordered
slice_bounds-above-end-then-ordered c = let F = c.in_ok-middle.ensures.2 in omega (arith, F.ends)

pub slice_bounds-above-end : goal.slice_bounds-above-end
slice_bounds-above-end c = let F = c.in_ok-middle.ensures.2 in omega (arith, F.ends, c.requires.at_le_end.1)

pub slice_bounds-above-count : goal.slice_bounds-above-count
slice_bounds-above-count c = let F = c.in_ok-middle.ensures.2 in omega (arith, F.middle)

pub slice_bounds-above-start : goal.slice_bounds-above-start
slice_bounds-above-start c = let F = c.in_ok-middle.ensures.2 in omega (arith, F.middle)

pub above-requires : goal.above-requires
above-requires c =
    let f = c.in_ok-middle.ensures in
    let h = fill_short _ _ _ _ _ _ f.2 in
    record { left = omega (arith, h.0); right = omega (arith, h.1) }

pub returns : goal.returns
returns c =
    let f = c.in_ok-middle.ensures in
    elim c.else-ordered.branch [
      | else-ordered-via-then-ordered+else-not-above w ↦
          let e = sides_compared _ c.requires.table f.2.sides _ w.above.ensures in (f.0, sides_above _ _ _ _ _ f.1 (e ∙ w.if-not-above.false), f.2)
      | else-ordered-via-else-ordered w ↦ (f.0, sides_any _ _ _ _ _ f.1 (rw w.if-ordered.false refl), f.2)
    ]

pub returns-then-not-above : goal.returns-then-not-above
returns-then-not-above c =
    let f = c.in_ok-middle.ensures in
    let e = sides_compared _ c.requires.table f.2.sides _ c.above.ensures in
    sides_not _ _ _ _ _ f.1 (rw c.if-ordered.true refl) (e ∙ c.if-not-above.true)
