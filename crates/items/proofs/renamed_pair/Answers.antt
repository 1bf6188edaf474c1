-- `renamed_pair`: what `pair_at` answers, and whether the pair is renamed. Assumes nothing.
-- Read first: specs/Readers (IsPairFound), proofs/Holding.
use Rattle.items.proofs.Holding.{pair_unfilled, pair_fills, pair_other, pair_renamed}
use Rattle.items.proofs.renamed_pair.Goals as goal

pub returns : goal.returns
returns c =
    let q = c.in-Ok.ensures in
    let r = pair_renamed _ _ _ _ c.requires.table _ _ q.1 _ c.is_renamed.ensures c.if-not-is_renamed.false in
    (q.0, r, pair_fills _ _ _ _ c.requires.table _ _ q.1)

pub returns-in_default : goal.returns-in_default
returns-in_default c = pair_unfilled _ _ _ _ c.pair_at.result c.pair_at.ensures c.in_default.not-Ok

pub returns-then-not-is_renamed : goal.returns-then-not-is_renamed
returns-then-not-is_renamed c =
    let q = c.in-Ok.ensures in
    pair_other _ _ _ _ c.requires.table _ _ q.1 _ c.is_renamed.ensures c.if-not-is_renamed.true
