-- `State::orient`: the new rule's slot is inserted behind the live ones, by `orient_done`, or there is none, by `orient_none`. Assumes nothing.
-- Read first: specs/Steps (Orients), orient/specs/Orients (RuleOf), proofs/Changing.
use mathlib.Core.Path.{◌≡◌}
use Prim.Native.Nat.{◌*◌}
use native.Mathlib.Omega.{arith}
use lib.ListN.{length}
use Rattle.limits.specs.Limits.{most_pairs}
use Rattle.slots.specs.Slots.{slot_width}
use Rattle.state.proofs.Changing.{orient_none, orient_done}
use Rattle.std.proofs.Common.{rules}
use Rattle.std.proofs.lemmas.Result.{err_from_is_err_and}
use Rattle.state.proofs.State.orient.Goals as goal

pub returns-in_err-new : goal.returns-in_err-new
returns-in_err-new c =
    let p = err_from_is_err_and c.from_residual.result c.from_residual.ensures.1 in
    rw (p.1, p.2) (orient_none _ _ _ _ _ c.in_err-new.ensures)

pub returns : goal.returns
returns c =
    let l : length c.args.self.pairs.bytes ≡ slot_width * most_pairs = search rules in
    let few = c.requires.1 in
    orient_done _ _ _ _ c.requires.0 c.in_ok-new.ensures few (omega arith) _ c.insert.ensures
