-- `reducible`: settling with no unit stops where a step is due, by `reduces` and `reduces_not`. Assumes nothing.
-- Read first: specs/Settled (Reducible), proofs/Whole.
use Rattle.normaliser.proofs.Whole.{reduces, reduces_not}
use mathlib.Core.Path.{refl}
use Rattle.normaliser.proofs.reducible.Goals as goal

pub returns-in-Spent : goal.returns-in-Spent
returns-in-Spent c = reduces c.args.t.now _ c.requires.t_len_bound refl c.load.ensures c.normalise_in-r.ensures refl c.in-Spent.is

pub returns-in_default : goal.returns-in_default
returns-in_default c =
    reduces_not c.args.t.now _ c.requires.t_len_bound refl c.load.ensures c.normalise_in-r.ensures refl
    c.in_default.not-Spent
