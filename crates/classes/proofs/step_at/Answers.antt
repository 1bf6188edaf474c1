-- `step_at`: its own root (`root_closed`) and a variable are closed, another symbol at the root is a clash (`ready_clash`), else the arguments decide
-- (`ready_step`). Assumes nothing.
-- Read first: specs/Steps (StepIs), proofs/Walks.
use Rattle.classes.proofs.Walks.{root_closed, ready_within, ready_clash, ready_arguments, ready_step}
use native.Mathlib.Omega.{arith}
use Rattle.classes.proofs.step_at.Goals as goal
use Rattle.classes.proofs.step_at.Goals.{then-r-i-via-then-r-i, then-r-i-via-else-r-i+then-f-ge-VARIABLE}

pub returns-then-r-i : goal.returns-then-r-i
returns-then-r-i c =
    elim c.then-r-i.branch [
      | then-r-i-via-then-r-i w ↦ root_closed _ _ _ _ c.from-r.ensures w.if-r-i.true
      | then-r-i-via-else-r-i+then-f-ge-VARIABLE w ↦ λ l. absurd (omega (arith, w.if-f-ge-VARIABLE.true))
    ]

pub bounds-arena-r : goal.bounds-arena-r
bounds-arena-r c = ready_within _ _ _ _ c.args.arena.now.ready _ _ c.requires c.from-r.ensures

pub returns-then-arena-r : goal.returns-then-arena-r
returns-then-arena-r c =
    ready_clash _ _ _ _ c.args.arena.now.ready _ _ c.requires c.from-r.ensures c.if-f-ge-VARIABLE.false c.if-arena-r.true

pub apart-requires : goal.apart-requires
apart-requires c =
    ready_arguments _ _ _ _ c.args.arena.now.ready _ _ _ c.requires c.from-r.ensures c.if-f-ge-VARIABLE.false c.if-arena-r.false
    c.owed_by-k.ensures.0

pub returns : goal.returns
returns c =
    ready_step _ _ _ _ c.args.arena.now.ready _ _ _ c.requires c.from-r.ensures c.if-f-ge-VARIABLE.false
    c.if-arena-r.false c.owed_by-k.ensures.0 c.apart.result c.apart.ensures
