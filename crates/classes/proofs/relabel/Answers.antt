-- `relabel`: the invariant is that the entries passed are relabelled and the others are as they were. Assumes nothing.
-- Read first: specs/Steps (relabelled), naming/proofs/Filling (Mapped).
use mathlib.Core.Path.{◌∙◌}
use Rattle.naming.proofs.Filling.{mapped_start, mapped_more, mapped_end}
use Rattle.classes.proofs.Joining.{relabelled_yes, relabelled_no}
use Rattle.classes.proofs.relabel.Goals as goal
use Rattle.classes.proofs.relabel.Goals.{then-b-from, else-b-from}

pub loop-b-init : goal.loop-b-init
loop-b-init c = mapped_start _ _

pub loop-b-preserved : goal.loop-b-preserved
loop-b-preserved c =
    mapped_more _ _ _ _ _ c.loop-b.invariant c.loop-b-test.true (elim c.if-b-from.branch [
      | then-b-from w ↦ w.b-is ∙ relabelled_yes _ _ _ w.if-b-from.true
      | else-b-from w ↦ w.b-is ∙ relabelled_no _ _ _ w.if-b-from.false
    ])

pub returns : goal.returns
returns c = mapped_end _ _ _ _ c.loop-b.invariant c.loop-b-test.false
