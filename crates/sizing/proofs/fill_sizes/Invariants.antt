-- `fill_sizes`: passes from the last node; sizes found are right, where a pass has found none no node from i on can have one, and where it has lost
-- none each of them has one. Assumes nothing. A size found lowers the count of noughts, else the pass goes on: `size_left` falls.
-- Read first: specs/Sizes (SizedTo), proofs/Sizing (Sizing).
use Rattle.sizing.proofs.Sizing.{Sizing, size_left}
use Rattle.sizing.proofs.fill_sizes.Given as goal

abbrev pub invariant-loop-i : goal.invariant-loop-i
invariant-loop-i l =
    Sizing l.arena.nodes.now l.arena.table.now l.arena.ends.now l.arena.class.now l.initial.sizes l.sizes l.i l.found l.lost

abbrev pub decreases-loop-i : goal.decreases-loop-i
decreases-loop-i l = size_left l.sizes l.i l.found
