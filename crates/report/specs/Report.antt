-- What the writer of the result promises: of whatever run the last state, the end and the units paid are, its result's bytes. Assumes nothing.
-- Read first: items/specs/Written (pair_field), completion/specs/Calls (result_bytes).
use Rattle.std.specs.Prelude.{List, [], ℕ, ◌≤◌, ltb}
use Rattle.limits.specs.Limits.{most_result}
use Rattle.std.specs.Prelude.{if◌then◌else◌}
use Rattle.terms.specs.Base.{field_bytes}
use Rattle.completion.specs.Turn.{Finished}
use Rattle.completion.specs.Calls.{result_bytes, Writes}
use Rattle.rewriting.specs.declared.End.{End as Ending}
use Rattle.rewriting.specs.declared.End.TheVariants.{Complete, NeitherAbove, Spent, TooLarge, RulesFull, LogFull}
use Rattle.items.specs.Written.{pair_field}
use Rattle.state.specs.declared.State.{State}
use Rattle.state.specs.Run.{Leaves}

-- field 14, only with end 20: of the pair behind so many rules, if there is one
unfoldable pub oldest_if : Ending → List ℕ → ℕ → ℕ → List ℕ
oldest_if Complete slots live count = []
oldest_if NeitherAbove slots live count = if ltb live count then field_bytes (pair_field 0x14 [] slots live) else []
oldest_if Spent slots live count = []
oldest_if TooLarge slots live count = []
oldest_if RulesFull slots live count = []
oldest_if LogFull slots live count = []

-- "Complete .. return the count of result bytes"; "bytes past the result" are left as they were
pub record Reports (st : State) (end : Ending) (paid : ℕ) (before after : List ℕ) (r : ℕ) : Type 0 where
  pub writes : (tab : List ℕ) (f : Finished) → Leaves tab f st end paid → Writes before (result_bytes f) after r
  pub few : r ≤ most_result
