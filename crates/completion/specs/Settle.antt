-- Document 01, "The result and settle": what the program settle prints, in ASCII, for what it reads; section 13 of docs/DEFINITION.md.
-- Assumes nothing.
use mathlib.Core.List.{List, [], ◌∷◌, ◌++◌, flat_map}
use Rattle.std.specs.Prelude.{ℕ, zero, suc, ◌+◌, ◌/◌, ◌%◌, ltb, length}
use Prim.Native.Char.{code}
use Prim.Native.String.{String}
use Rattle.std.specs.Prelude.{if◌then◌else◌}
use Rattle.terms.specs.Base.{Field}
use Rattle.problem.specs.Problem.{ok, refused, parse}
use Rattle.completion.specs.Turn.{run}
use Rattle.completion.specs.Calls.{result_fields}

-- a text's characters as bytes
unfoldable pub ascii : String → List ℕ
ascii String.[] = []
ascii (String.◌∷◌ c text) = code c ∷ ascii text

unfoldable pub hex_digit : ℕ → ℕ
hex_digit n = if ltb n 10 then 48 + n else 87 + n

unfoldable pub hex_byte : ℕ → List ℕ
hex_byte b = hex_digit (b / 16) ∷ hex_digit (b % 16) ∷ []

-- a number in decimal, of at most so many digits
unfoldable pub decimal_in : ℕ → ℕ → List ℕ
decimal_in zero n = []
decimal_in (suc digits) n =
    let more : List ℕ = decimal_in digits (n / 10) ++ ((48 + n % 10) ∷ []) in
    if ltb n 10 then ((48 + n) ∷ []) else more

unfoldable pub decimal : ℕ → List ℕ
decimal n = decimal_in (suc n) n

-- "a line a field: tag in two hexadecimal digits, length, contents in hexadecimal" [13.1]
unfoldable pub line : Field → List ℕ
line f = hex_byte f.tag ++ ascii " " ++ decimal (length f.contents) ++ ascii " " ++ flat_map hex_byte f.contents ++ ascii "\n"

-- "A refusal prints "refused 4 at 0"." [13.1, 13.2]
unfoldable pub settle : List ℕ → List ℕ
settle bytes =
    elim (parse bytes) [
      | ok P ↦ flat_map line (result_fields (run P))
      | refused n at ↦ ascii "refused " ++ decimal n ++ ascii " at " ++ decimal at ++ ascii "\n"
    ]
