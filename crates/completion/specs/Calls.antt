-- Document 01, "The result and settle": the result's fields, and the four calls, from the bytes that they are lent to what they answer;
-- sections 11 and 12 of docs/DEFINITION.md. Assumes nothing.
use Rattle.std.specs.Prelude.{◌≡◌, ℕ, ◌+◌, ltb, length, take, drop}
use mathlib.Core.List.{List, [], ◌∷◌, ◌++◌, map, flat_map}
use Rattle.std.proofs.Math.Option.{Option, none, some}
use Rattle.limits.specs.Limits.{most_nodes, least_buffer}
use Rattle.std.specs.Prelude.{if◌then◌else◌}
use Rattle.terms.specs.Base.{number_bytes, Field, field_bytes}
use Rattle.terms.specs.Term.{Term, Pair, term_bytes, size, subterm_at, renamed}
use Rattle.problem.specs.Problem.{Reading, ok, refused, ◌>>=◌, refuse_if, Symbol, rank_of, Equation, parse, only_equation}
use Rattle.problem.specs.Stops.{short_buffer}
use Rattle.order.specs.Order.{comparison}
use Rattle.unify.specs.Unify.{Binding, mgu, under}
use Rattle.rewriting.specs.Overlap.{Rule}
use Rattle.rewriting.specs.Rewrite.{End, complete, neither_above, spent, too_large, rules_full, log_full, end_number}
use Rattle.completion.specs.Turn.{Origin, waiting_input, removed_rule, scanned_input, overlapping, Candidate, Entry, Finished, run}

unfoldable pub pair_bytes : Pair → List ℕ
pair_bytes e = term_bytes e.left ++ term_bytes e.right

-- "12, once a rule: number in two bytes, left, right" [11.4]
unfoldable pub rule_field : Rule → Field
rule_field r = record { tag = 0x12; contents = number_bytes 2 r.number ++ pair_bytes r.sides }

-- "kind in one byte (1 waiting input, 2 waiting from a removed rule, 3 input at the scan, 4 overlap), first number in two bytes (input, removed
-- rule, input, inner rule), second in two (outer rule, else 0), position in one (else 0)" [11.6]
unfoldable pub origin_bytes : Origin → List ℕ
origin_bytes (waiting_input n) = 1 ∷ (number_bytes 2 n ++ number_bytes 2 0 ++ number_bytes 1 0)
origin_bytes (removed_rule n) = 2 ∷ (number_bytes 2 n ++ number_bytes 2 0 ++ number_bytes 1 0)
origin_bytes (scanned_input n) = 3 ∷ (number_bytes 2 n ++ number_bytes 2 0 ++ number_bytes 1 0)
origin_bytes (overlapping inner outer p) = 4 ∷ (number_bytes 2 inner ++ number_bytes 2 outer ++ number_bytes 1 p)

-- "13, once a log entry": where its pair came from, then "rule made in two (0 if settled)", ffff if put back [11.5]
unfoldable pub entry_field : Entry → Field
entry_field e = record { tag = 0x13; contents = origin_bytes e.origin ++ number_bytes 2 e.made }

-- "14, only with end 20: the two normal forms, renamed as a pair": "Field 14 shows the oldest one waiting", as it is held [11.7]
unfoldable pub oldest_field : List Candidate → List Field
oldest_field [] = []
oldest_field (oldest ∷ waiting) = record { tag = 0x14; contents = pair_bytes oldest.sides } ∷ []

unfoldable pub forms_field : End → List Candidate → List Field
forms_field complete waiting = []
forms_field neither_above waiting = oldest_field waiting
forms_field spent waiting = []
forms_field too_large waiting = []
forms_field rules_full waiting = []
forms_field log_full waiting = []

-- "tag 10, the end, one byte; 11, units, four bytes; 12, once a rule .. ascending; 13, once a log entry, oldest first; 14 .."
-- [11.2 to 11.5, 11.7]
unfoldable pub result_fields : Finished → List Field
result_fields f =
    record { tag = 0x10; contents = number_bytes 1 (end_number f.end) }
    ∷ record { tag = 0x11; contents = number_bytes 4 f.units }
    ∷ (map rule_field f.state.rules ++ map entry_field f.state.log ++ forms_field f.end f.state.waiting)

unfoldable pub result_bytes : Finished → List ℕ
result_bytes f = flat_map field_bytes (result_fields f)

-- 1: "result buffer under 16,384 bytes (complete, unify)", place 0 [4.1]
unfoldable pub enough : ℕ → Reading (Unit {0})
enough buffer = refuse_if (ltb buffer least_buffer) short_buffer 0

-- complete, from the problem's bytes and the result buffer's length: the result's bytes, of which it returns the count, or the refusal
-- [4.15, 11.1]
unfoldable pub complete_call : List ℕ → ℕ → Reading (List ℕ)
complete_call bytes buffer = do
  _ ← enough buffer
  P ← parse bytes
  ok (result_bytes (run P))

-- what compare, unify, subterm and decide read [4.15, 12.1, 18.1]
pub record Single : Type 0 where
  pub symbols : List Symbol
  pub budget : ℕ
  pub equation : Equation

unfoldable pub parse_single : List ℕ → Reading Single
parse_single bytes = do
  P ← parse bytes
  e ← only_equation (length bytes) P.equations
  ok (record { symbols = P.symbols; budget = P.budget; equation = e })

-- compare: 1 to 4, or the refusal [12.2]
unfoldable pub compare_call : List ℕ → Reading ℕ
compare_call bytes = do
  P ← parse_single bytes
  ok (comparison (rank_of P.symbols) P.equation.sides.left P.equation.sides.right)

-- unify: "one field, tag 15: the most general common instance, renamed"; "none"; 22, "a common instance over 120 nodes" [12.3 to 12.6]
pub data CommonInstance : Type 0 where
  instance : List ℕ → CommonInstance
  no_instance : CommonInstance
  instance_too_large : CommonInstance

unfoldable pub unified : Term → Option (List Binding) → CommonInstance
unified s none = no_instance
unified s (some m) =
    let t : Term = under m s in
    if ltb most_nodes (size t) then instance_too_large
    else instance (field_bytes (record { tag = 0x15; contents = term_bytes (renamed (record { left = t; right = t })).left }))

-- "Unify reads both sides over the same variables." [12.1, 12.3]
unfoldable pub unify_call : List ℕ → ℕ → Reading CommonInstance
unify_call bytes buffer = do
  _ ← enough buffer
  P ← parse_single bytes
  let e : Pair = P.equation.sides
  ok (unified e.left (mgu e.left e.right))

-- "Subterm takes lent problem bytes and a position in the left side of the only equation; it must hand back that part of the lent bytes."
-- The part's first byte, counted from that of the lent bytes, and how many bytes it has. [12.7]
pub record Part : Type 0 where
  pub start : ℕ
  pub bytes : ℕ

-- The node's own byte stands behind the field's three header bytes and the nodes before it. A refusal has no byte; that its place is then the
-- first one is this project's choice. [12.7 to 12.9]
unfoldable pub part_of : ℕ → ℕ → Option Term → Part
part_of first p none = record { start = 0; bytes = 0 }
part_of first p (some t) = record { start = first + 3 + p; bytes = size t }

unfoldable pub subterm_part : List ℕ → ℕ → Part
subterm_part l p =
    elim (parse_single l) [
      | ok P ↦ part_of P.equation.first p (subterm_at P.equation.sides.left p)
      | refused n place ↦ record { start = 0; bytes = 0 }
    ]

-- "An empty part, and only it, means refused (2 to 12, or a position not below the node count)." [12.7, 12.8]
unfoldable pub subterm_call : List ℕ → ℕ → List ℕ
subterm_call l p = take (subterm_part l p).bytes (drop (subterm_part l p).start l)

-- "Left as it was": what the lent result buffer holds after a call that writes these bytes at its front. [4.14, 11.1, 12.4]
unfoldable pub written : List ℕ → List ℕ → List ℕ
written bytes buffer = bytes ++ drop (length bytes) buffer

-- these bytes stand at the front, all else is as it was, and r counts them
pub record Writes (before ys after : List ℕ) (r : ℕ) : Type 0 where
  pub bytes : after ≡ written ys before
  pub count : r ≡ length ys

-- "Complete and unify return the count of result bytes"; a refusal has its number and its place.
unfoldable pub counted : Reading (List ℕ) → Reading ℕ
counted (ok bytes) = ok (length bytes)
counted (refused number place) = refused number place

unfoldable pub after_complete : Reading (List ℕ) → List ℕ → List ℕ
after_complete (ok bytes) buffer = written bytes buffer
after_complete (refused n at) buffer = buffer

unfoldable pub after_unify : Reading CommonInstance → List ℕ → List ℕ
after_unify (ok (instance bytes)) buffer = written bytes buffer
after_unify (ok no_instance) buffer = buffer
after_unify (ok instance_too_large) buffer = buffer
after_unify (refused n at) buffer = buffer
