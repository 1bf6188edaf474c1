-- Document 01, "Stops and what they leave", and document 02: the refusals' numbers, each once. The ends of a run have theirs in `end_number` of
-- rewriting/specs/Rewrite. Where a refusal is given, and with which place, stands at its use. Assumes nothing.
use Rattle.std.specs.Prelude.{ℕ}

-- "result buffer under 16,384 bytes (complete, unify)" [4.1]
abbrev pub short_buffer : ℕ
short_buffer = 1

-- "problem over 8,192 bytes" [4.2]
abbrev pub long_problem : ℕ
long_problem = 2

-- "field's header or contents pass the end" [4.3]
abbrev pub cut_field : ℕ
cut_field = 3

-- "tag not the one due, or the problem ends where tag 01 or 02 is due" [4.4]
abbrev pub wrong_tag : ℕ
wrong_tag = 4

-- "symbol field's length 0, odd or over 32" [4.5]
abbrev pub wrong_symbol_field : ℕ
wrong_symbol_field = 5

-- "arity above 4 or rank above 15" [4.6]
abbrev pub wrong_arity_or_rank : ℕ
wrong_arity_or_rank = 6

-- "budget field not 4 bytes, or above 1,000,000" [4.8]
abbrev pub wrong_budget : ℕ
wrong_budget = 8

-- "seventeenth equation field" [4.9]
abbrev pub many_equations : ℕ
many_equations = 9

-- "byte that is no symbol and no variable; field ends inside a term; byte after the right term" [4.10]
abbrev pub wrong_term : ℕ
wrong_term = 10

-- "side over 120 nodes" [4.11]
abbrev pub large_side : ℕ
large_side = 11

-- "compare, unify, subterm: equation fields are not exactly one" [4.12]
abbrev pub not_one_equation : ℕ
not_one_equation = 12

-- Document 02, Three: "when the record is over 16,384 bytes .., ends where a field is due .., or has a field that is cut, out of order or against
-- document 01's layout, renaming and limits" [18.3, 18.4]
abbrev pub wrong_record : ℕ
wrong_record = 13

-- "when the record's end is not 0" [18.10]
abbrev pub not_complete : ℕ
not_complete = 14

-- "when a rule's left side is not above its right side" [18.11]
abbrev pub not_above : ℕ
not_above = 15

-- Document 02, Seven: "when a saved record breaks the form and limits that docs/ gives it" [21.13]
abbrev pub wrong_saved : ℕ
wrong_saved = 16

-- "when the new budget is above 1,000,000" [21.17]
abbrev pub large_budget : ℕ
large_budget = 17
