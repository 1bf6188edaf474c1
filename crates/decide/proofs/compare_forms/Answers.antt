-- `compare_forms`: what `join` found is answered, with the units that are not left. Assumes nothing.
-- Read first: specs/Asking (FormsCompared), joining/specs/Joins (SidesJoined), proofs/Comparing.
use mathlib.Core.Path.{sym, subst}
use Rattle.slots.proofs.Layouts.{layout_zeros}
use Rattle.std.proofs.Common.{Err}
use Rattle.joining.specs.declared.Joined.TheVariants.{Equal, Different}
use Rattle.decide.specs.Asking.{FormsCompared}
use Rattle.decide.proofs.Comparing.{forms_compared, forms_joined}
use Rattle.decide.proofs.compare_forms.Goals as goal

pub join-w-requires : goal.join-w-requires
join-w-requires c = record { layout = layout_zeros; left_len_bound = c.requires.left_len_bound }

pub returns-in-Equal : goal.returns-in-Equal
returns-in-Equal c = forms_joined c.join-w.ensures _ Equal c.in-Ok.is c.in-Equal.is

pub returns-in-Different : goal.returns-in-Different
returns-in-Different c = forms_joined c.join-w.ensures _ Different c.in-Ok.is c.in-Different.is

pub returns-in-Err : goal.returns-in-Err
returns-in-Err c = subst (FormsCompared _ _ _ _ _ _ _) (sym c.stopped.ensures) (forms_compared c.join-w.ensures (Err _) c.in-Err.is)
