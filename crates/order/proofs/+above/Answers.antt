-- `order::above`, `above_all`, `above_some` and `above_walk`, which call each other, meet their contracts. Assumes nothing.
-- Read first: proofs/Steps.
use Rattle.order.proofs.Steps.{above_no_left, above_no_right, above_left_variable, above_right_variable, above_same_symbol, above_greater_rank}
use Rattle.order.proofs.Steps.{above_no_greater_rank, walk_end, walk_cut, walk_equal, walk_equal_last, walk_above, walk_above_last, walk_not_above}
use Rattle.order.proofs.Steps.{walk_not_above_last, some_end, some_cut, some_equal, some_above, some_last, some_next, all_end, all_cut, all_last}
use Rattle.order.proofs.Steps.{all_next, all_not_above}
use Rattle.terms.proofs.Starts.{end_pos}
use Rattle.std.proofs.Common.{◌≡◌, ℕ, Bool, true, false, eqb, List, length, rules, sym, ◌∙◌}
use Rattle.std.proofs.lemmas.Bool.{eqb-true, eqb-false}
use Rattle.order.proofs.+above.Goals as goal
use Rattle.order.proofs.+above.Goals.{above-then-is_empty-via-then-is_empty, above-then-is_empty-via-else-is_empty+then-is_empty-2}
use Rattle.order.proofs.+above.Goals.{above_all-then-is_empty-via-then-is_empty, above_all-then-is_empty-via-else-is_empty+then-not-above}
use Rattle.order.proofs.+above.Goals.{above_some-then-n-eq0-via-then-n-eq0, above_some-then-n-eq0-via-else-n-eq0+then-is_empty}
use Rattle.order.proofs.+above.Goals.{above_some-then-same_term-via-then-same_term, above_some-then-same_term-via-else-same_term+then-above}
use Rattle.order.proofs.+above.Goals.{above_walk-then-n-eq0-via-then-n-eq0, above_walk-then-n-eq0-via-else-n-eq0+then-is_empty}

no_bytes : (s : List ℕ) (b : Bool) → b ≡ eqb (length s) 0 → b ≡ true → length s ≡ 0
no_bytes s b e h = eqb-true _ _ (sym e ∙ h)

some_bytes : (s : List ℕ) (b : Bool) → b ≡ eqb (length s) 0 → b ≡ false → length s ≡ 0 → ⊥
some_bytes s b e h = eqb-false _ _ (sym e ∙ h)

pub above-returns-then-is_empty : goal.above-returns-then-is_empty
above-returns-then-is_empty t c =
    elim c.then-is_empty.branch [
      | above-then-is_empty-via-then-is_empty w ↦ above_no_left _ _ _ (no_bytes _ _ c.is_empty.ensures w.if-is_empty.true)
      | above-then-is_empty-via-else-is_empty+then-is_empty-2 w ↦ above_no_right _ _ _ (no_bytes _ _ w.is_empty-else-is_empty.ensures w.if-is_empty-2.true)
    ]

pub above-returns-then-f-ge-SYMBOLS_END : goal.above-returns-then-f-ge-SYMBOLS_END
above-returns-then-f-ge-SYMBOLS_END t c = above_left_variable _ _ _ c.if-f-ge-SYMBOLS_END.true

pub above-returns-then-g-ge-SYMBOLS_END : goal.above-returns-then-g-ge-SYMBOLS_END
above-returns-then-g-ge-SYMBOLS_END t c =
    above_right_variable _ _ _ _ _ c.if-f-ge-SYMBOLS_END.false c.owed_by-n.ensures.0 c.if-g-ge-SYMBOLS_END.true c.above_some.ensures

pub above-returns-then-f-g : goal.above-returns-then-f-g
above-returns-then-f-g t c =
    above_same_symbol _ _ _ _ _ c.if-f-ge-SYMBOLS_END.false c.if-g-ge-SYMBOLS_END.false c.owed_by-n.ensures.0 c.if-f-g.true
    c.above_walk.ensures

pub above-returns-then-rank_g-rank_f : goal.above-returns-then-rank_g-rank_f
above-returns-then-rank_g-rank_f t c =
    let lt = rw (c.rank_of-rank_g.ensures, c.rank_of-rank_f.ensures) at c.if-rank_g-rank_f.true in
    above_greater_rank _ _ _ _ _ c.if-f-ge-SYMBOLS_END.false c.if-g-ge-SYMBOLS_END.false c.owed_by-m.ensures.0 lt c.above_all.ensures

pub above-returns : goal.above-returns
above-returns t c =
    let le = rw (c.rank_of-rank_g.ensures, c.rank_of-rank_f.ensures) at c.if-rank_g-rank_f.false in
    above_no_greater_rank _ _ _ _ _ c.if-f-ge-SYMBOLS_END.false c.if-g-ge-SYMBOLS_END.false c.owed_by-n.ensures.0 c.if-f-g.false le
    c.above_some-2.ensures

pub above_all-returns-then-n-eq0 : goal.above_all-returns-then-n-eq0
above_all-returns-then-n-eq0 t c = all_end _ _ _ _ c.if-n-eq0.true

pub above_all-returns-then-is_empty : goal.above_all-returns-then-is_empty
above_all-returns-then-is_empty t c =
    elim c.then-is_empty.branch [
      | above_all-then-is_empty-via-then-is_empty w ↦ all_cut _ _ _ _ c.if-n-eq0.false (no_bytes _ _ c.is_empty.ensures w.if-is_empty.true)
      | above_all-then-is_empty-via-else-is_empty+then-not-above w ↦ all_not_above _ _ _ _ c.if-n-eq0.false _ w.above.ensures w.if-not-above.true
    ]

pub above_all-returns-then-n-eq1 : goal.above_all-returns-then-n-eq1
above_all-returns-then-n-eq1 t c = all_last _ _ _ _ c.if-n-eq0.false _ c.above.ensures c.if-not-above.false c.if-n-eq1.true

pub above_all-above_all-requires : goal.above_all-above_all-requires
above_all-above_all-requires t c = let pos = end_pos _ _ _ (some_bytes _ _ c.is_empty.ensures c.if-is_empty.false) c.term_end-e.ensures.bytes in search rules

pub above_all-returns : goal.above_all-returns
above_all-returns t c =
    all_next _ _ _ _ c.if-n-eq0.false _ c.above.ensures c.if-not-above.false _ c.term_end-e.ensures.term _ c.above_all.ensures

pub above_some-returns-then-n-eq0 : goal.above_some-returns-then-n-eq0
above_some-returns-then-n-eq0 t c =
    elim c.then-n-eq0.branch [
      | above_some-then-n-eq0-via-then-n-eq0 w ↦ some_end _ _ _ _ w.if-n-eq0.true
      | above_some-then-n-eq0-via-else-n-eq0+then-is_empty w ↦ some_cut _ _ _ _ w.if-n-eq0.false (no_bytes _ _ w.is_empty.ensures w.if-is_empty.true)
    ]

pub above_some-returns-then-same_term : goal.above_some-returns-then-same_term
above_some-returns-then-same_term t c =
    elim c.then-same_term.branch [
      | above_some-then-same_term-via-then-same_term w ↦ some_equal _ _ _ _ c.if-n-eq0.false _ c.same_term.ensures w.if-same_term.true
      | above_some-then-same_term-via-else-same_term+then-above w ↦
          some_above _ _ _ _ c.if-n-eq0.false _ c.same_term.ensures w.if-same_term.false _ w.above.ensures w.if-above.true
    ]

pub above_some-returns-then-n-eq1 : goal.above_some-returns-then-n-eq1
above_some-returns-then-n-eq1 t c =
    some_last _ _ _ _ c.if-n-eq0.false _ c.same_term.ensures c.if-same_term.false _ c.above.ensures c.if-above.false c.if-n-eq1.true

pub above_some-above_some-requires : goal.above_some-above_some-requires
above_some-above_some-requires t c = let pos = end_pos _ _ _ (some_bytes _ _ c.is_empty.ensures c.if-is_empty.false) c.term_end-e.ensures.bytes in search rules

pub above_some-returns : goal.above_some-returns
above_some-returns t c =
    some_next _ _ _ _ c.if-n-eq0.false _ c.same_term.ensures c.if-same_term.false _ c.above.ensures c.if-above.false _
    c.term_end-e.ensures.term _ c.above_some.ensures

pub above_walk-returns-then-n-eq0 : goal.above_walk-returns-then-n-eq0
above_walk-returns-then-n-eq0 t c =
    elim c.then-n-eq0.branch [
      | above_walk-then-n-eq0-via-then-n-eq0 w ↦ walk_end _ _ _ _ _ _ w.if-n-eq0.true
      | above_walk-then-n-eq0-via-else-n-eq0+then-is_empty w ↦
          walk_cut _ _ _ _ _ _ w.if-n-eq0.false (no_bytes _ _ w.is_empty.ensures w.if-is_empty.true)
    ]

pub above_walk-returns-then-n-eq1 : goal.above_walk-returns-then-n-eq1
above_walk-returns-then-n-eq1 t c =
    walk_equal_last _ _ _ _ _ _ c.if-n-eq0.false _ c.same_term.ensures c.if-same_term.true c.if-n-eq1.true

pub above_walk-above_walk-requires : goal.above_walk-above_walk-requires
above_walk-above_walk-requires t c = let pos = end_pos _ _ _ (some_bytes _ _ c.is_empty.ensures c.if-is_empty.false) c.term_end-d.ensures.bytes in search rules

pub above_walk-returns-then-same_term : goal.above_walk-returns-then-same_term
above_walk-returns-then-same_term t c =
    walk_equal _ _ _ _ _ _ c.if-n-eq0.false _ c.same_term.ensures c.if-same_term.true _ _ c.term_end-d.ensures.term
    c.term_end-e.ensures.term _ c.above_walk.ensures

pub above_walk-returns-then-n-eq1-2 : goal.above_walk-returns-then-n-eq1-2
above_walk-returns-then-n-eq1-2 t c =
    walk_above_last _ _ _ _ _ _ c.if-n-eq0.false _ c.same_term.ensures c.if-same_term.false _ c.above.ensures c.if-above.true
    c.if-n-eq1-2.true

pub above_walk-returns-then-above : goal.above_walk-returns-then-above
above_walk-returns-then-above t c =
    walk_above _ _ _ _ _ _ c.if-n-eq0.false _ c.same_term.ensures c.if-same_term.false _ c.above.ensures c.if-above.true _
    c.term_end-e-then-above.ensures.term _ c.above_all.ensures

pub above_walk-returns-then-n-eq1-3 : goal.above_walk-returns-then-n-eq1-3
above_walk-returns-then-n-eq1-3 t c =
    walk_not_above_last _ _ _ _ _ _ c.if-n-eq0.false _ c.same_term.ensures c.if-same_term.false _ c.above.ensures c.if-above.false
    c.if-n-eq1-3.true

pub above_walk-returns : goal.above_walk-returns
above_walk-returns t c =
    walk_not_above _ _ _ _ _ _ c.if-n-eq0.false _ c.same_term.ensures c.if-same_term.false _ c.above.ensures c.if-above.false _
    c.term_end-d-2.ensures.term _ c.above_some.ensures
