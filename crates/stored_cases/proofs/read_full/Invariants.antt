-- `read_full`: each turn fills a byte or more, and what stands at the buffer's start is what the input lost. Assumes nothing.
-- Read first: `read_full` in src/lib.rt.
use Rattle.std.proofs.Common.{◌≤◌, length, take}
use Rattle.std.specs.Io.KnownBytes.{Consumes}
use Rattle.stored_cases.proofs.read_full.Given as goal

abbrev pub invariant-loop : goal.invariant-loop
invariant-loop g l =
    (l.counter ≤ l.filled) × (l.filled ≤ length l.buffer) × Consumes (g.R.Read.remaining l.initial.input) (g.R.Read.remaining l.input) (take l.filled l.buffer)
