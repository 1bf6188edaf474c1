-- `rename_front`: the front that is lent to `rename` has few names, and comes back renamed. Assumes nothing.
-- Read first: specs/Names (renamed-bytes), proofs/Finding.
use Rattle.naming.proofs.Finding.{front_ready, front_back}
use Rattle.naming.proofs.rename_front.Goals as goal

pub rename-requires : goal.rename-requires
rename-requires c = front_ready _ c.args.out.now c.requires.0 c.requires.1 c.requires.2

pub returns : goal.returns
returns c = front_back c.args.e c.args.out.now _ c.rename.ensures
