-- `pair_at`: a side, a side behind it, and nothing behind that; a lemma for each of its four returns. Assumes nothing.
-- Read first: specs/Answers (IsPair), proofs/Scanned.
use Rattle.reading.proofs.Scanned.{left_refused, right_refused, pair_more, pair_fills}
use Rattle.reading.proofs.pair_at.Goals as goal

pub returns-in-Err : goal.returns-in-Err
returns-in-Err c =
    left_refused _ c.requires.table _ _ _ c.requires.at_le_end.0 c.requires.at_le_end.1 _ c.in-Err.ensures _ c.of_pair.ensures

pub returns-in-Err-side_at : goal.returns-in-Err-side_at
returns-in-Err-side_at c =
    let X = c.in-Ok.ensures in
    right_refused _ c.requires.table _ _ _ c.requires.at_le_end.0 c.requires.at_le_end.1 _ X.0 X.1 _
    c.in-Err-side_at.ensures _ c.of_pair-in-Err-side_at.ensures

pub returns-then-last-end : goal.returns-then-last-end
returns-then-last-end c =
    let X = c.in-Ok.ensures in
    let Y = c.in-Ok-side_at.ensures in
    pair_more _ c.requires.table _ _ _ c.requires.at_le_end.0 c.requires.at_le_end.1 _ X.0 X.1 _ Y.0 Y.1 c.if-last-end.true

pub returns : goal.returns
returns c =
    let X = c.in-Ok.ensures in
    let Y = c.in-Ok-side_at.ensures in
    pair_fills _ c.requires.table _ _ _ c.requires.at_le_end.0 c.requires.at_le_end.1 _ X.0 X.1 _ Y.0 Y.1 c.if-last-end.false
