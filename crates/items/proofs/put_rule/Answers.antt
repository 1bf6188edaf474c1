-- `put_rule`: the head of its field is the rule's number, by `puts_rule`. Assumes nothing.
-- Read first: specs/Written (slot_field), proofs/Writing.
use mathlib.Core.Path.{◌≡◌}
use lib.ListN.{length}
use Rattle.std.proofs.Common.{rules}
use Rattle.items.proofs.Writing.{puts_rule}
use Rattle.items.proofs.put_rule.Goals as goal

pub returns : goal.returns
returns c =
    let two : length c.number-number.result ≡ 2 = search rules in
    puts_rule c.args.rules.now c.args.k two c.number-number.ensures c.put_pair.ensures
