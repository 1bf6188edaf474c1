-- `unload`: the invariant is that the bytes of the first i cells are in t. Assumes nothing.
-- Read first: proofs/Loading.
use Rattle.redex.proofs.Sizing.{bytes_length, bytes_at}
use Rattle.normaliser.proofs.Loading.{load_start, load_more, load_done}
use native.Mathlib.Omega.{arith}
use mathlib.Core.Path.{sym, ◌∙◌}
use Rattle.normaliser.proofs.unload.Goals as goal

pub loop-i-init : goal.loop-i-init
loop-i-init c = load_start _ _ (let e = bytes_length c.args.cells.now in let p = c.requires in omega arith)

pub loop-i-preserved : goal.loop-i-preserved
loop-i-preserved c =
    let cells = c.args.cells.now in
    load_more c.loop-i.invariant (let e = bytes_length cells in let p = c.loop-i-test.true in omega arith)
    (c.byte_of.ensures ∙ sym (bytes_at cells _))

pub returns : goal.returns
returns c = load_done c.loop-i.invariant (sym (bytes_length c.args.cells.now)) c.loop-i-test.false
