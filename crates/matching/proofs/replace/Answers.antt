-- `replace`: too long for the buffer (`replace_over`), or put back (`replace_done`). Assumes nothing.
-- Read first: specs/Pieces (replaced), proofs/Replacing.
use Rattle.matching.proofs.Replacing.{take_less_zero, part_within, contracted, replace_over, replace_done}
use Rattle.std.proofs.Common.{rules}
use Rattle.matching.proofs.replace.Goals as goal

pub contract-requires : goal.contract-requires
contract-requires c =
    let a = c.args in
    record {
      most_in_bounds = search rules;
      t_len_bound = (search rules, search rules, part_within a.t.now a.binds.now a.len c.requires.most_variables_in_bounds.1);
    }

pub returns-in_err-w : goal.returns-in_err-w
returns-in_err-w c =
    let a = c.args in
    rw c.from_residual.ensures
    (replace_over (contracted a.t.now a.binds.now _ a.right.now a.len a.end (take_less_zero a.len a.t.now)) c.in_err-w.ensures)

pub returns : goal.returns
returns c =
    let a = c.args in
    replace_done (contracted a.t.now a.binds.now _ a.right.now a.len a.end (take_less_zero a.len a.t.now)) c.in_ok-w.ensures c.put_run.ensures
