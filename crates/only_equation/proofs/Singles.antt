-- A problem with one equation: a lemma for each return of `sides`. Assumes nothing.
-- Read first: specs/Places (SidesAt), problem/proofs/Laid, terms/specs/Flat (Starts).
use mathlib.Core.Path.{◌≡◌, refl, ap, sym, ◌∙◌}
use mathlib.Core.List.{List, [], ◌∷◌}
use Prim.Native.Nat.{ℕ, ◌+◌, ◌<◌, ◌≤◌}
use native.Mathlib.Omega.{arith}
use lib.ListN.{length, drop}
use Rattle.terms.specs.Term.{Term, size}
use Rattle.terms.specs.Flat.{Starts}
use Rattle.reading.specs.Answers.{WholeAt}
use Rattle.reading.proofs.Reading.{no_ok, ok_injective, bind_ok, bind_refused}
use Rattle.problem.specs.Problem.{ok, refused, ◌>>=◌, ReadField, read_field, due, Equation, Problem, parse, only_equation}
use Rattle.problem.specs.Parser.{field_at, ParsedAt}
use Rattle.reading.proofs.Fields.{due_read}
use Rattle.problem.proofs.Laid.{Laid, parsed_laid}
use Rattle.completion.specs.Calls.{Single, parse_single}
use Rattle.only_equation.specs.Places.{table, SidesAt, Found, IsSides}
use Rattle.only_equation.specs.declared.Equation.{Equation as Sides}
use Rattle.std.specs.Prelude.{Ok}

module _ (l : List ℕ) where
  single_is : (P : Problem) → parse l ≡ ok P →
      parse_single l ≡ (only_equation (length l) P.equations >>= λ e. ok (record { symbols = P.symbols; budget = P.budget; equation = e }))
  unfolding parse_single
  single_is P h = bind_ok _ h

  pub sides_unread : (n p : ℕ) → parse l ≡ refused n p → parse_single l ≡ refused n p
  unfolding parse_single
  sides_unread n p h = bind_refused _ h

  module _ (e b at n : ℕ) (P : Problem) (A : ParsedAt l e b at n P) where
    -- the equation fields that follow the budget, each where the one before it ends
    abbrev Follow : List Equation → Type 0
    Follow es = Laid (table l e) A.table.table l at es

    -- the equations, taken apart: none, or a first one
    with_equations : {C : Type 0} → (n ≡ 0 → P.equations ≡ [] → length l ≤ at → C) →
        ((q : Equation) (qs : List Equation) → P.equations ≡ q ∷ qs → n ≡ length (q ∷ qs) → Follow (q ∷ qs) → C) → C
    unfolding Laid
    with_equations {C} none some = go P.equations refl (parsed_laid l e b at n P A)
      where
        go : (es : List Equation) → P.equations ≡ es → Follow es → C
        go [] i L = none (sym A.number ∙ ap length i) i L
        go (q ∷ qs) i L = some q qs i (sym A.number ∙ ap length i) L

    pub sides_none : read_field at (drop at l) ≡ refused 3 at → parse_single l ≡ refused 12 (length l)
    unfolding Laid only_equation
    sides_none h =
        with_equations (λ _ i _. single_is P A.is ∙ bind_refused _ (rw i refl))
        λ q qs i m L. absurd (no_ok (sym h ∙ (due_read 0x03 at (drop at l) _ L.1).0))

    module _ (tag start k : ℕ) (F : WholeAt l at tag start k) where
      end_is : (f : ReadField) → due 0x03 at (drop at l) ≡ ok f → f.end ≡ k
      unfolding field_at
      end_is f h = ap (λ (f : ReadField). f.end) (ok_injective (sym (due_read 0x03 at (drop at l) f h).0 ∙ F.read))

      pub sides_more : 1 < n → parse_single l ≡ refused 12 k
      unfolding Laid only_equation field_at
      sides_more h = with_equations (λ m _ _. absurd (omega arith)) go
        where
          go : (q : Equation) (qs : List Equation) → P.equations ≡ q ∷ qs → n ≡ length (q ∷ qs) → Follow (q ∷ qs) → parse_single l ≡ refused 12 k
          go q [] i m L = absurd (omega arith)
          go q (q' ∷ qs) i m L = single_is P A.is ∙ bind_refused _ (rw i (ap (refused 12) (L.5.4.first_is ∙ end_is _ L.1)))

      pub sides_at : n ≤ 1 → (r : ℕ) → ((x : Term) → Starts (table l e) (drop start l) x → r ≡ start + size x) →
          (S : Single) × SidesAt l e start r k S × (S.budget ≡ b)
      unfolding Laid only_equation field_at
      sides_at h r right = with_equations (λ _ _ m. absurd (omega (arith, F.starts, F.low, F.within))) go
        where
          go : (q : Equation) (qs : List Equation) → P.equations ≡ q ∷ qs → n ≡ length (q ∷ qs) → Follow (q ∷ qs) →
              (S : Single) × SidesAt l e start r k S × (S.budget ≡ b)
          go q (q' ∷ qs) i m L = absurd (omega arith)
          go q [] i m L =
              let B = L.4 in
              let s : start ≡ at + 3 = F.starts in
              let left : Starts (table l e) (drop start l) q.sides.left = rw s B.left in
              let w : r ≡ start + size q.sides.left = right q.sides.left left in
              let k_is : L.0 ≡ k = end_is _ L.1 in (
                record { symbols = P.symbols; budget = P.budget; equation = q },
                record {
                  is = single_is P A.is ∙ bind_ok _ (rw i refl);
                  small = A.small;
                  symbols_are = A.symbols_are;
                  known = A.table.table;
                  low = A.table.low;
                  table_within = A.table.within;
                  left_is = omega (arith, B.first_is);
                  right_is = w;
                  end_is = omega (arith, B.end_is);
                  within = F.within;
                  left = left;
                  right = rw (w, s) B.right;
                },
                A.budget_is,
              )

-- what `sides` found where it refuses nothing
pub found : (l : List ℕ) (q : Sides) → IsSides l (Ok q) → Found l q.table_end q.left q.right q.end
found l q A =
    let P = A.1 in
    record {
      single = A.0;
      stand = P;
      order = (omega (arith, P.low), P.table_within, omega (arith, P.right_is), omega (arith, P.end_is), P.within, P.small);
    }
