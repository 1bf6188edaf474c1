-- How the rules and what waits stand in slots, one behind the other. Assumes nothing.
-- Read first: completion/specs/Turn (Candidate).
use Rattle.std.specs.Prelude.{List, ◌++◌, map}
use Rattle.rewriting.specs.Overlap.{Rule}
use Rattle.completion.specs.Turn.{removed_rule, Candidate}

-- a live rule stands in its slot as the candidate that it is once it is removed
unfoldable pub as_removed : Rule → Candidate
as_removed r = record { origin = removed_rule r.number; sides = r.sides }

-- the rules, then what waits
abbrev pub held : List Rule → List Candidate → List Candidate
held rules waiting = map as_removed rules ++ waiting
