-- Terms over a problem's symbols, passed on. Assumes nothing.
-- Read first: reading/specs/Over.
unfoldable pub use Rattle.reading.specs.Over.{Over, OverAll}
