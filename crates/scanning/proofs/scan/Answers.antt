-- `scan`: a slot of its own for `scan_all`, whose parts are the definition's `scan`. Assumes nothing.
-- Read first: specs/Walk (ScanIs), proofs/Inputs (scanned).
use Rattle.scanning.proofs.Inputs.{scanned}
use Rattle.slots.proofs.Layouts.{layout_zeros}
use Rattle.scanning.proofs.scan.Goals as goal

pub scan_all-w-requires : goal.scan_all-w-requires
scan_all-w-requires c = (c.requires.0, c.requires.1, c.requires.2, layout_zeros)

pub returns : goal.returns
returns c = scanned layout_zeros c.scan_all-w.ensures c.with_pair.ensures
