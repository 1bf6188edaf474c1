-- `next`: a lemma for each return: the next position, back, the next earlier rule, the rule with itself, the next rule. Assumes nothing.
-- Read first: specs/Order (Follows, to-come), proofs/Places.
use Rattle.scanning.proofs.Places.{next_position, next_back, next_later, next_itself, next_earlier}
use Rattle.scanning.proofs.spots.next.Goals as goal

pub left_size-requires : goal.left_size-requires
left_size-requires c = c.requires.3.room

pub returns-then-p-left_size : goal.returns-then-p-left_size
returns-then-p-left_size c = next_position _ _ _ _ _ _ c.requires c.left_size.ensures c.if-p-left_size.true c.spot_at.ensures

pub returns-then-inner-outer : goal.returns-then-inner-outer
returns-then-inner-outer c =
    next_back _ _ _ _ _ _ c.requires c.left_size.ensures c.if-p-left_size.false c.if-inner-outer.true
    c.spot_at-then-inner-outer.ensures

pub returns-then-outer-inner : goal.returns-then-outer-inner
returns-then-outer-inner c =
    next_earlier _ _ _ _ _ _ c.requires c.left_size.ensures c.if-p-left_size.false c.if-outer-inner.true
    c.spot_at-then-outer-inner.ensures

pub returns-then-outer-inner-2 : goal.returns-then-outer-inner-2
returns-then-outer-inner-2 c =
    next_itself _ _ _ _ _ _ c.requires c.left_size.ensures c.if-p-left_size.false c.if-outer-inner-2.true
    c.if-outer-inner.false c.spot_at-then-outer-inner-2.ensures

pub returns : goal.returns
returns c =
    next_later _ _ _ _ _ _ c.requires c.left_size.ensures c.if-p-left_size.false c.if-inner-outer.false
    c.if-outer-inner-2.false c.spot_at-2.ensures
