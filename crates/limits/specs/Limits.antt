-- Document 01's limits, each once, and the sizes that follow from them. Assumes nothing.
use Rattle.std.specs.Prelude.{ℕ, ◌+◌, ◌*◌, ◌-◌}

-- "Symbol n (0 to 15) is byte n." [16.1]
abbrev pub most_symbols : ℕ
most_symbols = 16

-- "arity 0 to 4" [16.10]
abbrev pub most_arity : ℕ
most_arity = 4

-- "rank 0 to 15" [16.10]
abbrev pub most_rank : ℕ
most_rank = 15

-- "Variable n (0 to 15) is byte 80 + n." "The taken pair has at most 16 different variables." [16.2]
abbrev pub most_variables : ℕ
most_variables = 16

-- the variables of two rules that are set apart: 32 [16.2]
abbrev pub most_apart : ℕ
most_apart = 2 * most_variables

-- the values of a byte, and of two bytes: 65,536
abbrev pub byte_values : ℕ
byte_values = 256

abbrev pub two_byte_values : ℕ
two_byte_values = byte_values * byte_values

-- the bytes of variable 0 and of variable 15: 80 and 8f, which are 128 and 143
abbrev pub first_variable : ℕ
first_variable = 0x80

abbrev pub last_variable : ℕ
last_variable = first_variable + (most_variables - 1)

-- the byte behind those of the variables of two rules that are set apart: a0, 160
abbrev pub variables_end : ℕ
variables_end = first_variable + most_apart

-- how many variables have a byte: 128
abbrev pub variable_bytes : ℕ
variable_bytes = byte_values - first_variable

-- A cell is a node's byte, and so many times the size of its subterm: a byte's values.
abbrev pub cell_base : ℕ
cell_base = byte_values

-- "side over 120 nodes", "Every term on the way is held to 120 nodes." [16.3]
abbrev pub most_nodes : ℕ
most_nodes = 120

-- the nodes of a pair's two sides: 240
abbrev pub most_pair : ℕ
most_pair = 2 * most_nodes

-- the nodes of an overlap's terms: two left sides, the left side with a right side in it, and a right side. 600
abbrev pub arena_width : ℕ
arena_width = 5 * most_nodes

-- "tag 03, 0 to 16 times" [16.4]
abbrev pub most_equations : ℕ
most_equations = 16

-- "Over 32 live: 23." [16.8]
abbrev pub most_rules : ℕ
most_rules = 32

-- Live rules and waiting equations together: the newest rule joins before the older ones are counted. 33 [16.8]
abbrev pub most_pairs : ℕ
most_pairs = most_rules + 1

-- "24 when a 513th log entry is due" [16.9]
abbrev pub most_entries : ℕ
most_entries = 512

-- "rule numbers 1 to 512": a rule is made with an entry [16.11]
abbrev pub most_number : ℕ
most_number = most_entries

-- "the budget, four bytes, high byte first, 0 to 1,000,000" [16.5]
abbrev pub most_budget : ℕ
most_budget = 1_000_000

-- "problem over 8,192 bytes" [16.6]
abbrev pub most_problem : ℕ
most_problem = 8192

-- "result buffer under 16,384 bytes" [16.7]
abbrev pub least_buffer : ℕ
least_buffer = 16_384

-- "the record is over 16,384 bytes" [16.12]
abbrev pub most_record : ℕ
most_record = least_buffer

-- A field's tag in one byte and the length of its contents in two.
abbrev pub field_head : ℕ
field_head = 3

-- An origin: its kind in one byte, two numbers in two bytes each, a position in one. 6
abbrev pub origin_width : ℕ
origin_width = 1 + 2 + 2 + 1

-- The field of a log entry: an origin, and the number of the rule made in two bytes. 11
abbrev pub entry_width : ℕ
entry_width = field_head + origin_width + 2

-- The field of a rule at most: its number in two bytes, and its sides. 245
abbrev pub rule_width : ℕ
rule_width = field_head + 2 + most_pair

-- The field of two forms at most: 243
abbrev pub forms_width : ℕ
forms_width = field_head + most_pair

-- A result at most, 13,726 bytes: the end, the units, the rules, the log and the forms.
abbrev pub most_result : ℕ
most_result = (field_head + 1) + (field_head + 4) + rule_width * most_rules + entry_width * most_entries + forms_width

-- Document 02, Seven: "a second lent buffer of at least 49,152 bytes" [16.13]
abbrev pub least_saved : ℕ
least_saved = 49_152

-- "1 and 2 read 49,152 bytes for saved records" [16.13]
abbrev pub most_saved : ℕ
most_saved = least_saved

-- the next rule number at most: 513 [16.11]
abbrev pub most_next : ℕ
most_next = most_number + 1

-- The symbol field at most: 35. The field of a waiting equation at most, an origin and its sides: 249
abbrev pub symbols_width : ℕ
symbols_width = field_head + 2 * most_symbols

abbrev pub waiting_width : ℕ
waiting_width = field_head + origin_width + most_pair

-- A saved record at most, 17,781 bytes: the symbols, the equations, the next rule number, rules and waiting equations, the log and the count.
abbrev pub longest_saved : ℕ
longest_saved = symbols_width + forms_width * most_equations + (field_head + 2) + waiting_width * most_pairs + entry_width * most_entries + (field_head + 1)
