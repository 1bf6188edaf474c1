-- `normalise`: the bytes are loaded, normalised with at most 120 cells, and unloaded; and the units that it took, by `whole`. Assumes nothing.
-- Read first: specs/Settled (Normalised), proofs/Whole.
use Rattle.normaliser.proofs.Whole.{whole}
use Rattle.matching.proofs.Replacing.{take_less_zero}
use mathlib.Core.Path.{refl}
use Rattle.normaliser.proofs.normalise.Goals as goal

pub returns : goal.returns
returns c =
    let p = c.requires.t_len_bound in
    whole c.args.t.now _ p.0 refl c.load.ensures c.normalise_in-r.ensures c.args.out.now p.1
    (take_less_zero c.normalise_in-r.result.len c.normalise_in-r.new.t) c.unload.ensures
    c.form_of.ensures
