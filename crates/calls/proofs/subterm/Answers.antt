-- `subterm`: the part that is handed back lies in the lent block at those bounds, and is empty only if refused. Assumes nothing.
-- Read first: specs/Answers (IsPart, PartAt), completion/specs/Calls (subterm-call), proofs/Parts.
use Rattle.calls.proofs.Parts.{part_bytes}
use Rattle.calls.proofs.subterm.Goals as goal

pub returns-in-Some-clause-result_value : goal.returns-in-Some-clause-result_value
returns-in-Some-clause-result_value c = part_bytes _ _ _ _ c.in-Some.ensures

pub returns-in-None-clause-result_value : goal.returns-in-None-clause-result_value
returns-in-None-clause-result_value c = part_bytes _ _ _ _ c.in-None.ensures
