-- `contract_at`: `contract` in the cells from there on tells what came back (`contract_over`, `contract_done`). Assumes nothing.
-- Read first: specs/Contraction (ContractedAt), proofs/Contracting (CameBack).
use Rattle.redex.proofs.Contracting.{came_back, contract_over, contract_done}
use Rattle.redex.proofs.contract_at.Goals as goal

pub returns-in_err-w : goal.returns-in_err-w
returns-in_err-w c =
    rw c.from_residual.ensures (contract_over (came_back c.requires.at_lt_len c.in_err-w.ensures c.size_of-n.ensures.0))

pub returns : goal.returns
returns c = contract_done (came_back c.requires.at_lt_len c.in_ok-w.ensures c.size_of-n.ensures.0)
