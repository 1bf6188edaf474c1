-- `State::put_back`: the renamed pair is added behind all others and an entry to the log, by `put_back_done`. Assumes nothing.
-- Read first: specs/Steps (PutsBack), proofs/PuttingBack.
use mathlib.Core.Path.{◌≡◌}
use Prim.Native.Nat.{◌*◌}
use native.Mathlib.Omega.{arith}
use lib.ListN.{length}
use Rattle.limits.specs.Limits.{most_pairs, most_entries}
use Rattle.slots.specs.Slots.{slot_width}
use Rattle.items.specs.Written.{logged_width}
use Rattle.state.proofs.PuttingBack.{put_back_done}
use Rattle.std.proofs.Common.{rules}
use Rattle.state.proofs.State.put_back.Goals as goal

pub returns : goal.returns
returns c =
    let l : length c.args.self.pairs.bytes ≡ slot_width * most_pairs = search rules in
    let long : length c.args.self.log.bytes ≡ logged_width * most_entries = search rules in
    let few = c.requires.fine.1 in
    let k = long in
    put_back_done _ _ _ _ c.requires.fine.0 few (omega arith) c.renamed-one.ensures c.insert.ensures
    c.requires.fine.2 (omega arith) _ c.push.ensures
