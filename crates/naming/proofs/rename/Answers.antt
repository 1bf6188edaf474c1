-- `rename`: the names that `names_of` collects are few, and the bytes numbered by them are the renamed bytes: `renamed_is`. Assumes nothing.
-- Read first: specs/Names (renamed-bytes), proofs/Finding.
use Rattle.naming.proofs.Finding.{count_few, renamed_is}
use Rattle.naming.proofs.rename.Goals as goal

pub renumber-requires : goal.renumber-requires
renumber-requires c = count_few c.args.bytes.now c.names_of-n.new.names _ c.names_of-n.ensures.1 c.requires.1

pub returns : goal.returns
returns c = renamed_is c.args.bytes.now c.names_of-n.new.names _ _ c.names_of-n.ensures.1 c.renumber.ensures
