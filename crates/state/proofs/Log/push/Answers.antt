-- `Log::push`: the number is put behind the origin, by `entry_put`. Assumes nothing.
-- Read first: specs/Steps (Enters), fields/specs/Puts, proofs/Logging.
use mathlib.Core.Path.{◌≡◌, refl}
use native.Mathlib.Omega.{arith}
use Prim.Native.Nat.{◌*◌}
use lib.ListN.{length}
use Rattle.limits.specs.Limits.{most_entries}
use Rattle.items.specs.Written.{logged_width}
use Rattle.state.proofs.Logging.{entry_put}
use Rattle.std.proofs.Common.{rules}
use Rattle.state.proofs.Log.push.Goals as goal

pub returns : goal.returns
returns c =
    let six : length c.mark.result ≡ 6 = search rules in
    let long : length c.args.self.now.bytes ≡ logged_width * most_entries = search rules in
    let room = c.requires.0 in
    let e = six in
    let l = long in
    entry_put _ _ _ _ _ _ refl c.mark.ensures (omega arith) e c.paste.ensures (rw c.from.ensures at c.put_number.ensures)
