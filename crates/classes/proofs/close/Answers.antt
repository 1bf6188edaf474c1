-- `close`: passes over the nodes; the classes stay right, and where a pass has joined nothing the nodes before i are closed. Assumes nothing. A join
-- lowers the sum of keys, else the pass goes on: `left_over` falls.
-- Read first: specs/Steps (ClosedTo), proofs/Closing (Closing).
use Rattle.classes.proofs.Closing.{closing_start, closing_done, closing_again, closing_rounds, closing_next, closing_falls}
use Rattle.classes.proofs.Closing.{closing_clash, closing_requires, closing_more, closing_less}
use Rattle.classes.proofs.close.Goals as goal

pub loop-i-init : goal.loop-i-init
loop-i-init c = closing_start _ _ _ _ c.requires

pub invariant_of-arena : goal.invariant_of-arena
invariant_of-arena c = record { ready = c.loop-i.invariant.ready }

pub loop-i-smaller-in-Done : goal.loop-i-smaller-in-Done
loop-i-smaller-in-Done c = closing_falls _ _ _ _ _ _ _ c.loop-i.invariant c.if-i-nodes.true c.step_at.result c.step_at.ensures

pub loop-i-preserved-in-Done : goal.loop-i-preserved-in-Done
loop-i-preserved-in-Done c =
    closing_next _ _ _ _ _ _ _ c.loop-i.invariant c.if-i-nodes.true c.step_at.result
    c.step_at.ensures c.in-Done.is

pub shape_of-class-in-Clash : goal.shape_of-class-in-Clash
shape_of-class-in-Clash c = c.loop-i.invariant.long

pub returns-in-Clash : goal.returns-in-Clash
returns-in-Clash c =
    let all = closing_clash _ _ _ _ _ _ _ c.loop-i.invariant c.if-i-nodes.true c.step_at.result c.step_at.ensures c.in-Clash.is in
    record {
      ready = all.0;
      closed_to = all.1;
    }

pub join-requires : goal.join-requires
join-requires c =
    let all = closing_requires _ _ _ _ _ _ _ c.loop-i.invariant c.if-i-nodes.true c.step_at.result c.step_at.ensures _ _ c.in-Join.is in
    record {
      a_in_bounds = all.0;
      a_in_bounds_2 = all.1;
    }

pub loop-i-smaller-in-Join : goal.loop-i-smaller-in-Join
loop-i-smaller-in-Join c =
    closing_less _ _ _ _ _ _ _ c.loop-i.invariant c.if-i-nodes.true c.step_at.result
    c.step_at.ensures _ _ c.in-Join.is _ c.join.ensures

pub loop-i-preserved-in-Join : goal.loop-i-preserved-in-Join
loop-i-preserved-in-Join c =
    closing_more _ _ _ _ _ _ _ c.loop-i.invariant c.if-i-nodes.true c.step_at.result
    c.step_at.ensures _ _ c.in-Join.is _ c.join.ensures

pub shape_of-class-then-not-again : goal.shape_of-class-then-not-again
shape_of-class-then-not-again c = c.loop-i.invariant.long

pub returns-then-not-again : goal.returns-then-not-again
returns-then-not-again c =
    let all = closing_done _ _ _ _ _ _ _ c.loop-i.invariant c.if-i-nodes.false c.if-not-again.true in
    record {
      ready = all.0;
      closed_to = all.1;
    }

pub loop-i-smaller : goal.loop-i-smaller
loop-i-smaller c = closing_rounds _ _ _ _ _ _ _ c.loop-i.invariant c.if-not-again.false

pub loop-i-preserved : goal.loop-i-preserved
loop-i-preserved c = closing_again _ _ _ _ _ _ _ c.loop-i.invariant
