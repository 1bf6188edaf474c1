-- `State::enter_rule`: as `settle`, with the newest rule's number, which has two bytes. Assumes nothing.
-- Read first: specs/Steps (Logs), proofs/Logging, proofs/State/settle.
use mathlib.Core.Path.{◌≡◌}
use Prim.Native.Nat.{◌*◌}
use native.Mathlib.Omega.{arith}
use lib.ListN.{length}
use Rattle.limits.specs.Limits.{most_entries}
use Rattle.items.specs.Written.{logged_width}
use Rattle.state.proofs.Logging.{log_done}
use Rattle.std.proofs.Common.{rules}
use Rattle.state.proofs.State.enter_rule.Goals as goal

pub returns : goal.returns
returns c =
    let long : length c.args.self.log.bytes ≡ logged_width * most_entries = search rules in
    let l = long in
    log_done _ _ _ c.requires.1 (omega arith) _ c.push.ensures
