-- Document 02, Three: the fields of rules, log entries and forms, read front to back. A caller gives the refusal's number, and whatever is wrong with
-- a field, the place is its first byte; section 18 of docs/DEFINITION.md. Assumes nothing.
-- Read first: reading/specs/Forms, problem/specs/Problem (due).
use Rattle.std.specs.Prelude.{Bool, not, ◌&&◌, ◌||◌, List, [], ◌∷◌, map, ℕ, zero, suc, ◌+◌, eqb, ltb, leb, length, take, drop, get_or}
use Rattle.std.proofs.Math.Option.{Option, none, some}
use Rattle.std.specs.Prelude.{if◌then◌else◌}
use Rattle.terms.specs.Base.{number_from}
use Rattle.terms.specs.Term.{Pair, same, renamed}
use Rattle.order.specs.Order.{above}
use Rattle.problem.specs.Problem.{Reading, ok, refused, ◌>>=◌, refuse_if, ReadField, due, Symbol, rank_of, read_pair, ReadPart}
use Rattle.rewriting.specs.Overlap.{Rule}

-- "that field's first byte": whatever is wrong with what is due at a place, the refusal has the number n and that place [18.4]
unfoldable pub or_refuse : {A : Type 0} → ℕ → ℕ → Reading A → Reading A
or_refuse n at (ok a) = ok a
or_refuse n at (refused m place) = refused n at

-- what a field must keep; `or_refuse` puts the number and the place
unfoldable pub demand : Bool → Reading (Unit {0})
demand b = refuse_if (not b) 0 0

-- the field of this tag that is due at a place, as `read` reads it [18.4, 18.5]
unfoldable pub one_field : {A : Type 0} → ℕ → ℕ → (ReadField → Reading A) → ℕ → List ℕ → Reading (ReadPart A)
one_field n tag read at bytes =
    or_refuse n at (do
      f ← due tag at bytes
      a ← read f
      ok (record { part = a; end = f.end; rest = f.rest }))

-- a number that fills its field, in so many bytes
unfoldable pub read_number : ℕ → ReadField → Reading ℕ
read_number width f = do
  _ ← demand (eqb (length f.contents) width)
  ok (number_from 0 f.contents)

-- The fields of this tag that stand at a place, at most so many; `read` is told what the field before it held. They end where another tag stands, or
-- where one more would be too many: what is due behind them then refuses it. [18.5]
unfoldable pub fields_there : {A : Type 0} → ℕ → ℕ → (Option A → ReadField → Reading A) → ℕ → Option A → ℕ → List ℕ → Reading (ReadPart (List A))
fields_there n tag read zero before at bytes = ok (record { part = []; end = at; rest = bytes })
fields_there n tag read (suc more) before at [] = ok (record { part = []; end = at; rest = [] })
fields_there {A} n tag read (suc more) before at (b ∷ bytes) =
    let here : Reading (ReadPart (List A)) =
    one_field n tag (read before) at (b ∷ bytes) >>= λ a.
    fields_there n tag read more (some a.part) a.end a.rest >>= λ later.
    ok (record { part = a.part ∷ later.part; end = later.end; rest = later.rest }) in
    if eqb b tag then here else ok (record { part = []; end = at; rest = b ∷ bytes })

-- "A pair of terms is renamed by numbering its variables 0, 1, 2 .. in order of first occurrence, left term first." [2.10]
unfoldable pub is_renamed : Pair → Bool
is_renamed e = same (renamed e).left e.left && same (renamed e).right e.right

-- two terms over the symbols, at most 120 nodes each, nothing behind them, renamed as a pair [18.7, 18.9]
unfoldable pub renamed_pair : List Symbol → ℕ → List ℕ → Reading Pair
renamed_pair Σ at bytes = do
  sides ← read_pair Σ at bytes
  _ ← demand (is_renamed sides)
  ok sides

-- the sides of a rule: those of such a pair, and where rules are to be ordered the left one above the right one
unfoldable pub rule_sides : List Symbol → Bool → ℕ → List ℕ → Reading Pair
rule_sides Σ ordered at bytes = do
  sides ← renamed_pair Σ at bytes
  let descends = above (rank_of Σ) sides.left sides.right
  _ ← demand (not ordered || descends)
  ok sides

-- "12, once a rule: number in two bytes, left, right, ascending"; "rule numbers 1 to 512". The first number is the largest that is allowed, the second
-- one that of the rule before, or 0. [18.7]
unfoldable pub read_rule : List Symbol → Bool → ℕ → ℕ → ReadField → Reading Rule
read_rule Σ ordered most before f = do
  let number = number_from 0 (take 2 f.contents)
  sides ← rule_sides Σ ordered (f.first + 5) (drop 2 f.contents)
  _ ← demand (ltb before number && leb number most)
  ok (record { number = number; sides = sides })

-- A rule, with the place of its field's first byte.
pub record RuleAt : Type 0 where
  pub first : ℕ
  pub rule : Rule

abbrev pub rules_of : List RuleAt → List Rule
rules_of rules = map (λ r. r.rule) rules

unfoldable pub number_before : Option RuleAt → ℕ
number_before none = 0
number_before (some r) = r.rule.number

-- a rule behind another one, or behind none [18.7]
unfoldable pub read_rule_at : List Symbol → Bool → ℕ → Option RuleAt → ReadField → Reading RuleAt
read_rule_at Σ ordered most before f = do
  r ← read_rule Σ ordered most (number_before before) f
  ok (record { first = f.first; rule = r })

-- "of a log entry only length and kind are read": 8 bytes, of which the first is 1 to 4 [18.8]
unfoldable pub read_kind : ReadField → Reading ℕ
read_kind f = do
  let kind = get_or f.contents 0 0
  _ ← demand (eqb (length f.contents) 8 && leb 1 kind && leb kind 4)
  ok kind

-- "14 ..: the two normal forms, renamed as a pair" [18.9]
unfoldable pub read_forms : List Symbol → ReadField → Reading Pair
read_forms Σ f = renamed_pair Σ (f.first + 3) f.contents
