-- `place`: a lemma for each way: the peak, the left or the right side too large, or the pair written. Assumes nothing.
-- Read first: specs/Placed (PairPlaced), proofs/Placing.
use Rattle.critical_pairs.proofs.Placing.{pair_small, place_peak, place_left, place_right, place_found}
use native.Mathlib.Omega.{arith}
use Rattle.critical_pairs.proofs.place.Goals as goal
use Rattle.critical_pairs.proofs.place.Goals.{then-from-gt-NODES-via-then-from-gt-NODES, then-from-gt-NODES-via-else-from-gt-NODES+then-from-gt-NODES-2}
use Rattle.critical_pairs.proofs.place.Goals.{then-from-gt-NODES-via-else-from-gt-NODES+else-from-gt-NODES-2+then-from-gt-NODES-3}

pub returns-then-from-gt-NODES : goal.returns-then-from-gt-NODES
returns-then-from-gt-NODES c =
    elim c.then-from-gt-NODES.branch [
      | then-from-gt-NODES-via-then-from-gt-NODES w ↦
          place_peak c.requires.sized.0 c.requires.sized.1 (omega (arith, c.from.ensures, w.if-from-gt-NODES.true))
      | then-from-gt-NODES-via-else-from-gt-NODES+then-from-gt-NODES-2 w ↦
          place_left c.requires.sized.0 c.requires.sized.1 (omega (arith, c.from.ensures, w.if-from-gt-NODES.false))
          (omega (arith, w.from-else-from-gt-NODES.ensures, w.if-from-gt-NODES-2.true))
      | then-from-gt-NODES-via-else-from-gt-NODES+else-from-gt-NODES-2+then-from-gt-NODES-3 w ↦
          place_right c.requires.sized.0 c.requires.sized.1 (omega (arith, c.from.ensures, w.if-from-gt-NODES.false))
          (omega (arith, w.from-else-from-gt-NODES.ensures, w.if-from-gt-NODES-2.false))
          (omega (arith, w.from-else-from-gt-NODES-2.ensures, w.if-from-gt-NODES-3.true))
    ]

pub put_pair-requires : goal.put_pair-requires
put_pair-requires c =
    let within = c.requires.nodes_nonzero in
    record {
      low = c.requires.sized.2;
      both_small = pair_small c.requires.sized.0 c.requires.sized.1 (omega arith) (omega arith)
          (omega (arith, c.from-else-from-gt-NODES.ensures)) (omega (arith, c.from-else-from-gt-NODES-2.ensures));
      layout = c.requires.layout;
    }

pub returns : goal.returns
returns c =
    place_found c.requires.sized.0 c.requires.sized.1 (omega (arith, c.from.ensures, c.if-from-gt-NODES.false))
    (omega (arith, c.from-else-from-gt-NODES.ensures, c.if-from-gt-NODES-2.false))
    (omega (arith, c.from-else-from-gt-NODES-2.ensures, c.if-from-gt-NODES-3.false))
    c.put_pair.ensures
