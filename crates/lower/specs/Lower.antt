-- Document 02, Four: "the lower of two lent terms". Assumes nothing.
-- Read first: reading/specs/Forms (a side), problem/specs/Problem (the symbol field), order/specs/Order (above).
use Rattle.std.specs.Prelude.{Bool, true, not, ◌||◌, List, [], ◌∷◌, ℕ}
use Rattle.std.proofs.Math.Option.{Option, none, some}
use Rattle.std.specs.Borrow.{Bor}
use Rattle.std.specs.Prelude.{if◌then◌else◌, Option as Chosen, Some, None}
use Rattle.terms.specs.Base.{is_some}
use Rattle.terms.specs.Term.{Term}
use Rattle.order.specs.Order.{above}
use Rattle.problem.specs.Problem.{Reading, ok, refused, ◌>>=◌, ReadPart, Symbol, rank_of, due, symbol_field, read_side}
use Rattle.lower.specs.declared.Which.{Which}
use Rattle.lower.specs.declared.Which.TheVariants.{First, Second}

-- what was read, where the problem's rules do not refuse it and no bytes follow it [19.2, 19.3]
unfoldable pub whole : {A : Type 0} → Reading (ReadPart A) → Option A
whole (ok p) = elim p.rest [ [] ↦ some p.part | b ∷ more ↦ none ]
whole (refused n at) = none

-- "a tag 01 field": 3, 4, 5, 6 [19.2]
unfoldable pub read_table : List ℕ → Reading (ReadPart (List Symbol))
read_table bytes = do
  f ← due 0x01 0 bytes
  Σ ← symbol_field f
  ok (record { part = Σ; end = f.end; rest = f.rest })

abbrev pub whole_table : List ℕ → Option (List Symbol)
whole_table bytes = whole (read_table bytes)

-- "two terms": 10, 11 [19.3]
abbrev pub whole_term : List Symbol → List ℕ → Option Term
whole_term Σ bytes = whole (read_side Σ 0 bytes)

-- "It is the second if the first is above it, else the first." [19.4]
unfoldable pub lower_of : List Symbol → Option Term → Option Term → Chosen Which
lower_of Σ (some s) (some t) = Some (if above (rank_of Σ) s t then Second else First)
lower_of Σ (some s) none = None
lower_of Σ none t = None

abbrev pub lower_over : List Symbol → List ℕ → List ℕ → Chosen Which
lower_over Σ first second = lower_of Σ (whole_term Σ first) (whole_term Σ second)

unfoldable pub which : List ℕ → List ℕ → List ℕ → Chosen Which
which symbols first second = elim (whole_table symbols) [ some Σ ↦ lower_over Σ first second | none ↦ None ]

-- the bytes of the part that is handed back [19.5, 19.6]
unfoldable pub bytes_of : Chosen Which → List ℕ → List ℕ → List ℕ
bytes_of (Some First) first second = first
bytes_of (Some Second) first second = second
bytes_of None first second = []

unfoldable pub lower_call : List ℕ → List ℕ → List ℕ → List ℕ
lower_call symbols first second = bytes_of (which symbols first second) first second

-- where that part begins, a block of memory and a place in it: "the lower of two lent terms" is the lent slice itself; the empty part begins where
-- the first does [19.5, 19.6]
unfoldable pub place_of : Chosen Which → Bor (List ℕ) → Bor (List ℕ) → ℕ × ℕ
place_of (Some First) first second = first.ref_ptr
place_of (Some Second) first second = second.ref_ptr
place_of None first second = first.ref_ptr

-- "The part is empty exactly if the problem's rules refuse the symbol field or a term, or bytes follow any of the three." [19.6]
unfoldable pub lower_refused : List ℕ → List ℕ → List ℕ → Bool
lower_refused symbols first second =
    elim (whole_table symbols) [
      | some Σ ↦ not (is_some (whole_term Σ first)) || not (is_some (whole_term Σ second))
      | none ↦ true
    ]
