-- `put_mark`: six bytes at the begin of the slot. Assumes nothing.
-- Read first: `put_mark` in src/lib.rt, proofs/Filling.
use mathlib.Core.Path.{◌≡◌, ◌∙◌, ap}
use native.Mathlib.Omega.{arith}
use Prim.Native.Nat.{◌+◌, ◌*◌}
use Rattle.fields.specs.Puts.{patched}
use Rattle.slots.specs.Slots.{slot_width}
use Rattle.slots.proofs.Filling.{put_mark}
use Rattle.slots.proofs.put_mark.Goals as goal

pub returns : goal.returns
returns c =
    let slots = c.args.slots.now in
    let k = c.args.k in
    let mark = c.args.mark.now in
    let e : slot_width * k ≡ slot_width * k + 0 = omega arith in
    put_mark slots k c.requires.k_in_bounds mark _ c.requires.mark_len (c.paste.ensures ∙ ap (λ z. patched z mark slots) e)
