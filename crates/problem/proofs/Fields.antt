-- The parser's fields: a lemma for each place where `symbols` and `budget` return. Assumes nothing.
-- Read first: specs/Problem, specs/Parser, reading/specs/Answers.
use mathlib.Core.Path.{◌≡◌, refl, ap, sym, ◌∙◌}
use mathlib.Core.Bool.{true}
use mathlib.Core.List.{List}
use Prim.Native.Nat.{ℕ, ◌+◌, ◌-◌, ◌<◌, ◌≤◌}
use native.Mathlib.Omega.{arith}
use lib.Dec.{ltb}
use lib.ListN.{length, take, drop, length-take, length-drop}
use borrow.Author.Tests.{lt-ltb, le-ltb, eq-eqb, ne_eqb}
use Rattle.terms.proofs.Lists.{take_drop}
use Rattle.terms.specs.Base.{number_from}
use Rattle.reading.specs.Answers.{DueTo, wrong_length, SymbolsAre}
use Rattle.reading.proofs.Reading.{bind_ok}
use Rattle.reading.proofs.Fields.{contents_length}
use Rattle.problem.specs.Problem.{ok, refused, ◌>>=◌, refuse_if, due, read_symbols, symbol_field, budget_field}
use Rattle.problem.specs.Parser.{field_at, symbols_of, SymbolsAt}

-- `symbols`
module _ (l : List ℕ) (e : ℕ) (d : DueTo 0x01 l 0 e) where
  abbrev tab : List ℕ
  tab = take (e - 3) (drop 3 l)

  pub table_long : length tab ≡ e - 3
  table_long = length-take (e - 3) (drop 3 l) ∙ omega (arith, length-drop 3 l, d.2)

  field_is : symbol_field (field_at 0x01 l 0 e) ≡ (refuse_if (wrong_length (length tab)) 5 0 >>= λ _. read_symbols 3 tab)
  unfolding symbol_field field_at
  field_is =
      let q : 3 + (e - 3) ≡ e = omega (arith, d.1) in
      let t : drop 3 (take e l) ≡ tab = sym (take_drop 3 (e - 3) l ∙ rw q refl) in
      rw t refl

  pub symbols_length : wrong_length (length tab) ≡ true → (due 0x01 0 l >>= symbol_field) ≡ refused 5 0
  unfolding ◌>>=◌ refuse_if
  symbols_length h = bind_ok symbol_field d.0 ∙ field_is ∙ rw h refl

  pub symbols_refused : (n p : ℕ) → SymbolsAre tab (λ at. refused n (at + p)) → (due 0x01 0 l >>= symbol_field) ≡ refused n (3 + p)
  unfolding ◌>>=◌ refuse_if
  symbols_refused n p S = bind_ok symbol_field d.0 ∙ field_is ∙ rw S.right (S.read 3)

  pub symbols_fine : SymbolsAre tab (λ at. ok (symbols_of tab)) → SymbolsAt l e
  unfolding ◌>>=◌ refuse_if
  symbols_fine S =
      record {
        field = d.0;
        read = field_is ∙ rw S.right (S.read 3);
        table = S.table;
        low = omega (arith, S.some, table_long);
        high = omega (arith, S.table.small, table_long);
        within = d.2;
      }

-- `budget`
module _ (l : List ℕ) (at e : ℕ) (low : at + 3 ≤ e) (within : e ≤ length l) where
  pub budget_length : (e - (at + 3) ≡ 4 → ⊥) → budget_field (field_at 0x02 l at e) ≡ refused 8 at
  unfolding budget_field field_at ◌>>=◌ refuse_if
  budget_length h = rw (contents_length 0x02 l at e within, ne_eqb (e - (at + 3)) 4 h) refl

  module _ (h : e - (at + 3) ≡ 4) (n : ℕ) (i : n ≡ number_from 0 (take 4 (drop (at + 3) l))) where
    budget_is : budget_field (field_at 0x02 l at e) ≡ (refuse_if (ltb 1_000_000 n) 8 at >>= λ _. ok n)
    unfolding budget_field field_at ◌>>=◌ refuse_if
    budget_is =
        let q : at + 3 + 4 ≡ e = omega arith in
        let t : take 4 (drop (at + 3) l) ≡ drop (at + 3) (take e l) = take_drop (at + 3) 4 l ∙ rw q refl in
        let m : number_from 0 (drop (at + 3) (take e l)) ≡ n = sym (i ∙ ap (number_from 0) t) in
        rw (contents_length 0x02 l at e within, eq-eqb (e - (at + 3)) 4 h, m) refl

    pub budget_large : 1_000_000 < n → budget_field (field_at 0x02 l at e) ≡ refused 8 at
    unfolding ◌>>=◌ refuse_if
    budget_large k = budget_is ∙ rw (lt-ltb 1_000_000 n k) refl

    pub budget_fine : n ≤ 1_000_000 → budget_field (field_at 0x02 l at e) ≡ ok n
    unfolding ◌>>=◌ refuse_if
    budget_fine k = budget_is ∙ rw (le-ltb 1_000_000 n k) refl
