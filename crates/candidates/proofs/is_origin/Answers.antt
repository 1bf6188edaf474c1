-- `is_origin`: kind, second number and position. Assumes nothing.
-- Read first: specs/Candidates (origin-test), proofs/Origins.
use mathlib.Core.Path.{refl}
use native.Mathlib.Omega.{arith}
use Rattle.candidates.proofs.Origins.{kind_none, kind_large, kind_overlap, kind_other}
use Rattle.candidates.proofs.is_origin.Goals.{then-kind-eq0-via-then-kind-eq0, then-kind-eq0-via-else-kind-eq0+then-kind-gt-OVERLAPPING}
use Rattle.candidates.proofs.is_origin.Goals as goal

pub returns-then-kind-eq0 : goal.returns-then-kind-eq0
returns-then-kind-eq0 c = elim c.then-kind-eq0.branch [
  | then-kind-eq0-via-then-kind-eq0 w ↦ kind_none c.args.saved.now c.args.at _ refl w.if-kind-eq0.true
  | then-kind-eq0-via-else-kind-eq0+then-kind-gt-OVERLAPPING w ↦ kind_large c.args.saved.now c.args.at _ refl (omega (arith, w.if-kind-gt-OVERLAPPING.true))
]

pub returns-then-kind-eq-OVERLAPPING : goal.returns-then-kind-eq-OVERLAPPING
returns-then-kind-eq-OVERLAPPING c = kind_overlap c.args.saved.now c.args.at _ refl c.if-kind-eq-OVERLAPPING.true

pub returns : goal.returns
returns c =
    kind_other c.args.saved.now c.args.at _ refl c.if-kind-eq0.false c.if-kind-gt-OVERLAPPING.false c.if-kind-eq-OVERLAPPING.false
    _ c.number-second.ensures.value _ c.from-position.ensures
