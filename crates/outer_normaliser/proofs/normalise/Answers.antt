-- `normalise`: `load`, `steps`, `unload`. Assumes nothing.
-- Read first: normaliser/specs/Settled (Normalised), proofs/Reaching (whole).
use mathlib.Core.Path.{refl}
use Rattle.matching.proofs.Replacing.{take_less_zero}
use Rattle.outer_normaliser.proofs.Reaching.{whole}
use Rattle.outer_normaliser.proofs.normalise.Goals as goal

pub returns : goal.returns
returns c =
    let p = c.requires.t_len_bound in
    whole c.args.t.now _ p.0 refl c.load.ensures c.steps-r.ensures c.args.out.now p.1
    (take_less_zero c.steps-r.result.len c.steps-r.new.t) c.unload.ensures
    c.form_of.ensures
