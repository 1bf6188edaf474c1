-- `open_places`: the invariant is that the places before i are collected. Assumes nothing.
-- Read first: specs/Contraction (OpenPlaces), proofs/Places (Collected).
use native.Mathlib.Omega.{arith}
use mathlib.Core.Path.{refl, sym, ◌∙◌}
use Rattle.redex.proofs.Places.{collect_start, collect_skip, collect_more, collect_done}
use Rattle.redex.proofs.open_places.Goals as goal

pub loop-i-init : goal.loop-i-init
loop-i-init c = (refl, omega arith, omega arith, collect_start _ _)

pub loop-i-preserved-then-n-eq0 : goal.loop-i-preserved-then-n-eq0
loop-i-preserved-then-n-eq0 c =
    let l = c.loop-i-test.true in
    let p = c.requires in
    let v = c.loop-i.invariant in
    let C = collect_more v.3 l (omega arith) (sym c.size_of-n.ensures.0 ∙ c.if-n-eq0.true) in
    (C.same, C.after, omega arith, C)

pub loop-i-preserved : goal.loop-i-preserved
loop-i-preserved c =
    let l = c.loop-i-test.true in
    let s = c.size_of-n.ensures.1 in
    let C = collect_skip c.loop-i.invariant.3 l c.size_of-n.ensures.0 c.if-n-eq0.false in
    (C.same, C.after, omega arith, C)

pub returns : goal.returns
returns c = collect_done c.loop-i.invariant.3 c.loop-i-test.false
