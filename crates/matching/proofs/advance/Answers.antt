-- `advance`: a variable that is bound (`adv_bound`), or that is free: no sized term there (`adv_none`, `adv_long`), or its place (`adv_free`).
-- Assumes nothing.
-- Read first: specs/Held (Advanced), proofs/Advancing.
use mathlib.Core.Path.{refl}
use Prim.Native.Nat.{◌-◌}
use Rattle.matching.proofs.Advancing.{held_at, adv_bound, adv_none, adv_long, adv_free}
use Rattle.std.proofs.Common.{rules}
use Rattle.matching.proofs.advance.Goals.{then-n-eq0-via-then-n-eq0, then-n-eq0-via-else-n-eq0+then-e-t}
use Rattle.matching.proofs.advance.Goals as goal

pub again-requires-clause-a_in_bounds : goal.again-requires-clause-a_in_bounds
again-requires-clause-a_in_bounds c =
    held_at _ _ _ _ c.requires.most_variables_in_bounds.1 c.if-x-ge-VARIABLES.false c.from-k.ensures c.if-k-gt0.true

pub returns-then-k-gt0 : goal.returns-then-k-gt0
returns-then-k-gt0 c =
    adv_bound _ _ _ _ c.requires.most_variables_in_bounds.1 (search rules) _ (search rules) (search rules) c.if-x-ge-VARIABLES.false _ _ _
    c.from-k.ensures c.if-k-gt0.true refl c.again.ensures

pub returns-then-n-eq0 : goal.returns-then-n-eq0
returns-then-n-eq0 c = elim c.then-n-eq0.branch [
  | then-n-eq0-via-then-n-eq0 w ↦
      adv_none _ _ _ _ c.requires.most_variables_in_bounds.1 (search rules) (c.from-x.result - 128) (search rules) (search rules)
      c.if-x-ge-VARIABLES.false _ c.size_of-n.ensures.0 w.if-n-eq0.true
  | then-n-eq0-via-else-n-eq0+then-e-t w ↦
      adv_long _ _ _ _ c.requires.most_variables_in_bounds.1 (search rules) (c.from-x.result - 128) (search rules) (search rules)
      c.if-x-ge-VARIABLES.false _ c.size_of-n.ensures.0 w.if-e-t.true
]

pub returns : goal.returns
returns c =
    adv_free _ _ _ _ c.requires.most_variables_in_bounds.1 (search rules) _ (search rules) (search rules) c.if-x-ge-VARIABLES.false _
    c.size_of-n.ensures.0 (search rules) c.if-n-eq0.false c.if-e-t.false (search rules)
