-- `matches`: the invariant is that what is left of both, with the bindings so far, matches as the whole does. Assumes nothing.
-- Read first: specs/Held (Matched), proofs/Walking (Here, Going), proofs/Clearing.
use Rattle.matching.proofs.Clearing.{cleared_front, cleared_length}
use Rattle.matching.proofs.Walking.{here_start, here_on, goes_done, goes_over, goes_wrong}
use mathlib.Core.Path.{◌∙◌}
use Rattle.std.proofs.Common.{rules}
use Rattle.matching.proofs.matches.Goals as goal

pub loop-b-init : goal.loop-b-init
loop-b-init c =
    let z = c.fill.ensures.after (λ y h. h) in
    here_start _ _ _ _ (cleared_length c.args.binds.now _ c.requires.1 z) (cleared_front c.args.binds.now _ c.requires.1 z)

pub returns-then-j-t : goal.returns-then-j-t
returns-then-j-t c = let h = c.loop-b.invariant in goes_over _ _ _ _ _ _ c.loop-b-test.true c.if-j-t.true h.same h.within h.goes

pub advance-requires-clause-most_variables_in_bounds : goal.advance-requires-clause-most_variables_in_bounds
advance-requires-clause-most_variables_in_bounds c = let h = c.loop-b.invariant in let s = h.same in (search rules, h.within)

pub returns-in_default : goal.returns-in_default
returns-in_default c =
    let h = c.loop-b.invariant in
    goes_wrong _ _ _ _ _ _ _ c.loop-b-test.true c.if-j-t.false c.advance.ensures h.goes c.in_default.is _ (c.advance.ensures.same ∙ h.same)

pub loop-b-preserved : goal.loop-b-preserved
loop-b-preserved c = here_on _ _ _ _ _ _ _ _ _ c.loop-b-test.true c.if-j-t.false c.loop-b.invariant c.advance.ensures c.in-Some.is

pub returns : goal.returns
returns c = let h = c.loop-b.invariant in goes_done _ _ _ _ _ _ c.loop-b-test.false h.same h.within h.goes
