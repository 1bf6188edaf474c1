-- `go_on_saved`: `state_of` makes the state that was saved, and `go_on` goes on from it. Assumes nothing.
-- Read first: specs/Resumes (state_of, RunsRecord).
use Rattle.resume.proofs.go_on_saved.Goals as goal

pub go_on-requires : goal.go_on-requires
go_on-requires c =
    let q = c.requires.front in
    (q.0, q.1, q.2, rw c.state_of-first.ensures c.requires.first.1)

pub returns : goal.returns
returns c = rw c.state_of-first.ensures at c.go_on.ensures
