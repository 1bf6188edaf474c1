-- `put_candidate`: the head of its field is the mark, by `puts_candidate`. Assumes nothing.
-- Read first: specs/Saves (waiting_slot), proofs/Putting.
use mathlib.Core.Path.{◌≡◌}
use lib.ListN.{length}
use Rattle.saving.proofs.Putting.{puts_candidate}
use Rattle.std.proofs.Common.{rules}
use Rattle.saving.proofs.put_candidate.Goals as goal

pub returns : goal.returns
returns c =
    let six : length c.mark-mark.result ≡ 6 = search rules in
    puts_candidate c.args.pairs.now c.args.k six c.mark-mark.ensures c.put_pair.ensures
