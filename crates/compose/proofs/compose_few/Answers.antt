-- `compose_few`: too many live rules, or `compose`. Assumes nothing.
-- Read first: specs/Rights (ComposesFew).
use mathlib.Core.Path.{refl}
use mathlib.Core.Logic.{inl, inr}
use native.Mathlib.Omega.{arith}
use Rattle.compose.proofs.compose_few.Goals as goal

pub returns-then-live-gt-RULES : goal.returns-then-live-gt-RULES
returns-then-live-gt-RULES c = inl (let many = c.if-live-gt-RULES.true in omega arith, refl)

pub returns : goal.returns
returns c = inr (let few = c.if-live-gt-RULES.false in omega arith, c.compose.ensures)
