-- What the text of a result and of a refusal is. Assumes nothing.
use Rattle.std.specs.Prelude.{◌≡◌, ℕ, ◌<◌, length}
use mathlib.Core.List.{List, ◌++◌, flat_map}
use Rattle.terms.specs.Base.{Field, field_bytes, Every}
use Rattle.completion.specs.Settle.{ascii, decimal, line}
use Rattle.completion.specs.Calls.{Writes}

-- "a line a field": for all fields that the bytes may be [13.1]
abbrev pub Lines : List ℕ → List ℕ → List ℕ → ℕ → Type 0
Lines result before after r =
    (fs : List Field) → Every (λ (f : Field). length f.contents < 65_536) fs → result ≡ flat_map field_bytes fs → Writes before (flat_map line fs) after r

-- "A refusal prints "refused 4 at 0"." [13.2]
abbrev pub Refusal : ℕ → ℕ → List ℕ → List ℕ → ℕ → Type 0
Refusal number place before after r = Writes before (ascii "refused " ++ decimal number ++ ascii " at " ++ decimal place ++ ascii "\n") after r
