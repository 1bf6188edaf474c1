-- What an error leaves of a text that was to be written or of a buffer that was to be filled. Assumes nothing.
use Rattle.std.specs.Prelude.{List, ℕ, ◌≤◌, length, take, Option}
use Rattle.std.specs.Io.KnownBytes.{Appends, Consumes}

-- known bytes grow by the first n of bs, for some n
abbrev pub AppendsStart : Option (List ℕ) → Option (List ℕ) → List ℕ → Type 0
AppendsStart old new bs = (n : ℕ) × (n ≤ length bs) × Appends old new (take n bs)

-- known bytes begin with the first n of bs, for some n, and lose them
abbrev pub ConsumesStart : Option (List ℕ) → Option (List ℕ) → List ℕ → Type 0
ConsumesStart old new bs = (n : ℕ) × (n ≤ length bs) × Consumes old new (take n bs)
