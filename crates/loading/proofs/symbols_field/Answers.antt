-- `symbols_field`: the field that the problem's reader finds. Assumes nothing.
-- Read first: specs/Loads (IsFirst), proofs/Singles.
use Rattle.loading.proofs.Singles.{first_bad, first_one}
use Rattle.loading.proofs.symbols_field.Goals as goal

pub returns-in_default : goal.returns-in_default
returns-in_default c = first_bad _ c.symbols.result c.symbols.ensures c.in_default.not-Ok

pub returns : goal.returns
returns c =
    let S = c.in-Ok.ensures in
    (S, first_one _ _ S)
