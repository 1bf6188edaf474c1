-- The loop over equation fields, and the problem as a whole: a lemma for each step and each return. Assumes nothing.
-- Read first: specs/Parser, proofs/Fields, proofs/Pairs, proofs/Laid.
use mathlib.Core.Path.{◌≡◌, refl, ap, sym, ◌∙◌}
use mathlib.Core.List.{List, [], ◌∷◌, ◌++◌, append_assoc, append-nil}
use Prim.Native.Nat.{ℕ, zero, suc, ◌+◌, ◌-◌, ◌<◌, ◌≤◌}
use native.Mathlib.Omega.{arith}
use lib.ListN.{length, take, drop, length-append, length-drop, length-take, drop_of_length-le}
use borrow.Author.Tests.{lt-ltb, le-ltb}
use Rattle.problem.specs.Problem.{Reading, ok, refused, ◌>>=◌, refuse_if, due, Symbol, symbol_field, budget_field, Equation, equation_fields, Problem}
use Rattle.problem.specs.Problem.{parse}
use Rattle.problem.specs.Parser.{field_at, symbols_of, Table, SymbolsAt, FieldAt, parse_rest, RestAt, IsParsed, begins_at, told, parsed_of}
use Rattle.std.specs.Prelude.{Result, Ok, Err}
use Rattle.problem.specs.Reasons.{number_of_reason}
use Rattle.problem.specs.declared.Input.{Input}
use Rattle.problem.specs.declared.Reason.TheVariants.{LongProblem}
use Rattle.problem.specs.declared.Refusal.{Refusal}
use Rattle.reading.specs.Answers.{DueTo}
use Rattle.reading.proofs.Reading.{bind_ok, bind_refused}
use Rattle.problem.proofs.Pairs.{one_more}
use Rattle.problem.proofs.Laid.{Laid, laid}

unfoldable pub prepend : List Equation → Reading (List Equation) → Reading (List Equation)
prepend done (ok es) = ok (done ++ es)
prepend done (refused n p) = refused n p

prepend_none : (r : Reading (List Equation)) → r ≡ prepend [] r
unfolding prepend
prepend_none (ok es) = refl
prepend_none (refused n p) = refl

prepend_one : (done : List Equation) (q : Equation) (r : Reading (List Equation)) → prepend done (r >>= λ es. ok (q ∷ es)) ≡ prepend (done ++ (q ∷ [])) r
unfolding prepend ◌>>=◌
prepend_one done q (ok es) = ap ok (sym (append_assoc done (q ∷ []) es))
prepend_one done q (refused n p) = refl

-- the equations that were read before place i
pub record SoFar (tab l : List ℕ) (at count i : ℕ) : Type 0 where
  pub done : List Equation
  pub number : length done ≡ count
  pub is : equation_fields (symbols_of tab) 16 at (drop at l) ≡ prepend done (equation_fields (symbols_of tab) (16 - count) i (drop i l))

module _ (tab l : List ℕ) (at : ℕ) where
  pub fields_start : SoFar tab l at 0 at
  fields_start = record { done = []; number = refl; is = prepend_none (equation_fields (symbols_of tab) 16 at (drop at l)) }

  module _ (count i : ℕ) (s : SoFar tab l at count i) where
    pub fields_turn : i < length l → (e : ℕ) → FieldAt tab l i count e → SoFar tab l at (count + 1) e
    unfolding field_at
    fields_turn h e f =
        let z : 16 - count ≡ suc (16 - (count + 1)) = omega (arith, f.more) in
        let step : equation_fields (symbols_of tab) (16 - count) i (drop i l) ≡
        (equation_fields (symbols_of tab) (16 - (count + 1)) e (drop e l) >>= λ es. ok (f.equation ∷ es)) =
        rw z (one_more (symbols_of tab) i (16 - (count + 1)) (drop i l) (field_at 0x03 l i e) (λ q. omega (arith, length-drop i l)) f.field
        ∙ bind_ok _ f.read) in
        record {
          done = s.done ++ (f.equation ∷ []);
          number = length-append s.done (f.equation ∷ []) ∙ omega (arith, s.number);
          is = s.is ∙ ap (prepend s.done) step ∙ prepend_one s.done f.equation (equation_fields (symbols_of tab) (16 - (count + 1)) e (drop e l));
        }

    pub fields_bad : (n p : ℕ) → equation_fields (symbols_of tab) (16 - count) i (drop i l) ≡ refused n p →
        equation_fields (symbols_of tab) 16 at (drop at l) ≡ refused n p
    unfolding prepend
    fields_bad n p e = s.is ∙ rw e refl

    none_behind : (more : ℕ) → equation_fields (symbols_of tab) more i [] ≡ ok []
    unfolding equation_fields
    none_behind zero = refl
    none_behind (suc more) = refl

    pub fields_end : length l ≤ i → (es : List Equation) × (equation_fields (symbols_of tab) 16 at (drop at l) ≡ ok es) × (length es ≡ count)
    unfolding prepend
    fields_end h = (s.done ++ [], s.is ∙ rw (drop_of_length-le l h, none_behind (16 - count)) refl, ap length (append-nil s.done) ∙ s.number)

-- `parse_rest` returns
module _ (tab l : List ℕ) (at : ℕ) where
  pub rest_not_due : (n p : ℕ) → due 0x02 at (drop at l) ≡ refused n p → parse_rest (symbols_of tab) at (drop at l) ≡ refused n p
  unfolding parse_rest
  rest_not_due n p h = bind_refused _ h

  module _ (e : ℕ) (d : DueTo 0x02 l at e) where
    pub rest_budget_refused : (n p : ℕ) → budget_field (field_at 0x02 l at e) ≡ refused n p → parse_rest (symbols_of tab) at (drop at l) ≡ refused n p
    unfolding parse_rest
    rest_budget_refused n p h = bind_ok _ d.0 ∙ bind_refused _ h

    module _ (b : ℕ) (B : budget_field (field_at 0x02 l at e) ≡ ok b) where
      behind : parse_rest (symbols_of tab) at (drop at l) ≡
          (equation_fields (symbols_of tab) 16 e (drop e l) >>= λ es. ok (record { symbols = symbols_of tab; budget = b; equations = es }))
      unfolding parse_rest field_at
      behind = bind_ok _ d.0 ∙ bind_ok _ B

      pub rest_equations_refused : (n p : ℕ) → equation_fields (symbols_of tab) 16 e (drop e l) ≡ refused n p →
          parse_rest (symbols_of tab) at (drop at l) ≡ refused n p
      rest_equations_refused n p q = behind ∙ bind_refused _ q

      pub rest_fine : (n : ℕ) → ((es : List Equation) × (equation_fields (symbols_of tab) 16 e (drop e l) ≡ ok es) × (length es ≡ n)) →
          (P : Problem) × RestAt tab l at b e n P
      rest_fine n q = (
        record { symbols = symbols_of tab; budget = b; equations = q.0 },
        record {
          is = behind ∙ bind_ok _ q.1;
          symbols_are = refl;
          budget_is = refl;
          field = d.0;
          within = d.2;
          equations_are = q.1;
          number = q.2;
        },
      )

-- where the equations begin
begins_there : (tab : List ℕ) (T : Table tab) (l : List ℕ) (at : ℕ) → at ≤ length l → (qs : List Equation) → Laid tab T l at qs → begins_at (length l) qs ≡ at
unfolding Laid begins_at
begins_there tab T l at h [] L = omega arith
begins_there tab T l at h (q ∷ qs) L = L.4.first_is

-- the problem
bind_both : {A B C : Type 0} (m : Reading A) (f : A → Reading B) (g : A → B → Reading C) (n p : ℕ) → (m >>= f) ≡ refused n p →
    (m >>= λ a. f a >>= g a) ≡ refused n p
unfolding ◌>>=◌
bind_both (ok a) f g n p h = rw h refl
bind_both (refused k q) f g n p h = cc

equal_bad : (l : List ℕ) (n p : ℕ) → parse l ≡ refused n p → refused n p ≡ parsed_of (length l) (parse l)
unfolding parsed_of
equal_bad l n p h = rw h refl

-- what `parse` answers
abbrev pub Answer : List ℕ → Result Input Refusal → Type 0
Answer l r = (told r ≡ parsed_of (length l) (parse l)) × IsParsed l r

module _ (l : List ℕ) where
  answer_bad : (r : Refusal) → parse l ≡ refused (number_of_reason r.reason) r.place → Answer l (Err r)
  answer_bad r h = (equal_bad l (number_of_reason r.reason) r.place h, h)

  pub parse_long : 8192 < length l → Answer l (Err (record { reason = LongProblem; place = 8192 }))
  unfolding parse ◌>>=◌ refuse_if
  parse_long h = answer_bad (record { reason = LongProblem; place = 8192 }) (rw (lt-ltb 8192 (length l) h) refl)

  module _ (h : length l ≤ 8192) where
    parse_is : parse l ≡ (due 0x01 0 l >>= λ s. symbol_field s >>= λ Σ. parse_rest Σ s.end s.rest)
    unfolding parse ◌>>=◌ refuse_if parse_rest
    parse_is = rw (le-ltb 8192 (length l) h) refl

    pub parse_symbols_refused : (r : Refusal) → (due 0x01 0 l >>= symbol_field) ≡ refused (number_of_reason r.reason) r.place → Answer l (Err r)
    parse_symbols_refused r e =
        answer_bad r (parse_is ∙ bind_both (due 0x01 0 l) symbol_field (λ s Σ. parse_rest Σ s.end s.rest) (number_of_reason r.reason) r.place e)

    module _ (e : ℕ) (S : SymbolsAt l e) where
      abbrev tab : List ℕ
      tab = take (e - 3) (drop 3 l)

      parse_then : parse l ≡ parse_rest (symbols_of tab) e (drop e l)
      unfolding field_at
      parse_then = parse_is ∙ bind_ok _ S.field ∙ bind_ok _ S.read

      pub parse_rest_refused : (r : Refusal) → parse_rest (symbols_of tab) e (drop e l) ≡ refused (number_of_reason r.reason) r.place → Answer l (Err r)
      parse_rest_refused r q = answer_bad r (parse_then ∙ q)

      pub parse_fine : (b at n : ℕ) (P : Problem) → RestAt tab l e b at n P → Answer l (Ok (record { table_end = e; budget = b; equations = at; count = n }))
      unfolding parsed_of
      parse_fine b at n P R =
          let is : parse l ≡ ok P = parse_then ∙ R.is in
          let z : 3 + (length P.symbols + length P.symbols) ≡ e =
          ap (λ (Σ : List Symbol). 3 + (length Σ + length Σ)) R.symbols_are
          ∙ omega (arith, S.table.even, length-take (e - 3) (drop 3 l), length-drop 3 l, S.low, S.within) in
          let w = begins_there tab S.table l at R.within P.equations (laid tab S.table l 16 at P.equations R.equations_are) in (
            sym (ap (parsed_of (length l)) is ∙ rw (z, R.budget_is, w, R.number) refl),
            (
              P,
              record {
                is = is;
                small = h;
                table = S;
                symbols_are = R.symbols_are;
                budget_is = R.budget_is;
                within = R.within;
                equations_are = R.equations_are;
                number = R.number;
              },
            ),
          )
