-- `put_entry`: an origin, then the number of the rule made, by `entry_put`. Assumes nothing.
-- Read first: specs/Candidates (entry-copy), proofs/Logged.
use mathlib.Core.Path.{◌≡◌}
use native.Mathlib.Omega.{arith}
use lib.ListN.{length}
use Rattle.candidates.proofs.Logged.{entry_put}
use Rattle.std.proofs.Common.{rules}
use Rattle.candidates.proofs.put_entry.Goals as goal

pub returns : goal.returns
returns c =
    let six : length c.origin_at-origin.result ≡ 6 = search rules in
    entry_put c.args.saved.now c.args.at _ _ _ _ _ _ _ c.origin_at-origin.ensures six
    (omega (arith, c.requires.1)) c.paste.ensures c.put_number.ensures c.number-made.ensures.value
