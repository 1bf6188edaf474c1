-- The symbols of a table: a lemma for each step and each return of `ranked`, and what `check_symbols` makes of them. Assumes nothing.
-- Read first: specs/Forms (read_symbols), specs/Answers (check_symbols, IsSymbols).
use mathlib.Core.Path.{◌≡◌, refl, ap, sym, ◌∙◌}
use mathlib.Core.Bool.{Bool, true, false}
use mathlib.Core.List.{List, [], ◌∷◌}
use Prim.Native.Nat.{ℕ, suc, ◌+◌, ◌%◌, ◌<◌, ◌≤◌}
use native.Mathlib.Omega.{arith}
use native.Mathlib.Numerals.{add-one}
use lib.Dec.{ltb}
use lib.ListN.{length, drop, get_or, length-drop}
use lib.Seq.{drop-cons}
use borrow.Author.Tests.{lt-ltb, le-ltb, eq-eqb, ne_eqb}
use Rattle.reading.specs.Forms.{Reading, ok, refused, ◌>>=◌, refuse_if, Symbol, read_symbols}
use Rattle.reading.specs.Answers.{symbols_of, check_symbols, wrong_length, SymbolsAre, IsRanked, IsSymbols}
use Rattle.reading.specs.declared.SymbolsError.{SymbolsError}
use Rattle.reading.specs.declared.SymbolsError.TheVariants.{WrongLength, WrongByte}
use Rattle.std.specs.Prelude.{Result, Ok, Err}
use Rattle.reading.proofs.Reading.{bind_ok, bind_refused}

-- `ranked`
two_bytes : (tab : List ℕ) (i : ℕ) → i + 1 < length tab → drop i tab ≡ get_or tab i 0 ∷ get_or tab (i + 1) 0 ∷ drop (i + 2) tab
two_bytes tab i h =
    let k : suc (i + 1) ≡ i + 2 = omega arith in
    drop-cons tab i 0 (omega arith) ∙ ap (λ (m : List ℕ). get_or tab i 0 ∷ m) (rw (← add-one i) (drop-cons tab (i + 1) 0 h ∙ rw k refl))

module _ (tab : List ℕ) (at i : ℕ) (h : i + 1 < length tab) where
  pub table_arity : 4 < get_or tab i 0 → check_symbols at (drop i tab) ≡ refused 6 at
  unfolding check_symbols ◌>>=◌ refuse_if
  table_arity k = rw (two_bytes tab i h, lt-ltb 4 _ k) refl

  module _ (k : get_or tab i 0 ≤ 4) where
    pub table_rank : 15 < get_or tab (i + 1) 0 → check_symbols at (drop i tab) ≡ refused 6 (at + 1)
    unfolding check_symbols ◌>>=◌ refuse_if
    table_rank j = rw (two_bytes tab i h, le-ltb 4 _ k, lt-ltb 15 _ j) refl

    table_symbol : get_or tab (i + 1) 0 ≤ 15 → check_symbols at (drop i tab) ≡ check_symbols (at + 2) (drop (i + 2) tab)
    unfolding check_symbols ◌>>=◌ refuse_if
    table_symbol j = rw (two_bytes tab i h, le-ltb 4 _ k, le-ltb 15 _ j) refl

table_nil : (at : ℕ) → check_symbols at [] ≡ ok tt
unfolding check_symbols
table_nil at = refl

table_one : (at a : ℕ) → check_symbols at (a ∷ []) ≡ ok tt
unfolding check_symbols
table_one at a = refl

pub table_end : (tab : List ℕ) (at i : ℕ) → length tab ≤ i + 1 → check_symbols at (drop i tab) ≡ ok tt
table_end tab at i h = go (drop i tab) (omega (arith, length-drop i tab))
  where
    go : (m : List ℕ) → length m ≤ 1 → check_symbols at m ≡ ok tt
    go [] k = table_nil at
    go (a ∷ []) k = table_one at a
    go (a ∷ b ∷ m) k = absurd (omega arith)

pub table_turn : (tab : List ℕ) (k : ℕ) → k + k + 1 < length tab → get_or tab (k + k) 0 ≤ 4 → get_or tab (k + k + 1) 0 ≤ 15 → (at : ℕ) →
    check_symbols (at + (k + 1 + (k + 1))) (drop (k + 1 + (k + 1)) tab) ≡ check_symbols (at + (k + k)) (drop (k + k) tab)
table_turn tab k h a b at =
    let p : k + 1 + (k + 1) ≡ k + k + 2 = omega arith in
    let q : at + (k + k + 2) ≡ at + (k + k) + 2 = omega arith in
    rw (p, q) (sym (table_symbol tab (at + (k + k)) (k + k) h a b))

-- the symbols that `read_symbols` reads are those of the table
then_symbols : (m : Reading (Unit {0})) (s : Symbol) (Σ : List Symbol) →
    ((m >>= λ _. ok Σ) >>= λ (Σ : List Symbol). ok (s ∷ Σ)) ≡ (m >>= λ _. ok (s ∷ Σ))
unfolding ◌>>=◌
then_symbols (ok a) s Σ = refl
then_symbols (refused n p) s Σ = refl

read_step : (a b : Bool) (at : ℕ) (s : Symbol) (Σ : List Symbol) (read : Reading (List Symbol)) (check : Reading (Unit {0})) →
    read ≡ (check >>= λ _. ok Σ) →
    (refuse_if a 6 at >>= λ _. refuse_if b 6 (at + 1) >>= λ _. read >>= λ (Σ : List Symbol). ok (s ∷ Σ))
    ≡ ((refuse_if a 6 at >>= λ _. refuse_if b 6 (at + 1) >>= λ _. check) >>= λ _. ok (s ∷ Σ))
unfolding ◌>>=◌ refuse_if
read_step true b at s Σ read check e = refl
read_step false true at s Σ read check e = refl
read_step false false at s Σ read check e = rw e (then_symbols check s Σ)

pub read_is : (at : ℕ) (l : List ℕ) → read_symbols at l ≡ (check_symbols at l >>= λ _. ok (symbols_of l))
unfolding read_symbols check_symbols symbols_of ◌>>=◌
read_is at [] = refl
read_is at (a ∷ []) = refl
read_is at (a ∷ r ∷ l) = read_step (ltb 4 a) (ltb 15 r) at (record { arity = a; rank = r }) (symbols_of l) _ _ (read_is (at + 2) l)

-- `check_symbols`
even_of : (l : List ℕ) → (length l % 2 ≡ 1 → ⊥) → length (symbols_of l) + length (symbols_of l) ≡ length l
unfolding symbols_of
even_of [] h = refl
even_of (a ∷ []) h = absurd (h refl)
even_of (a ∷ r ∷ l) h = let k = even_of l (λ e. h (omega arith)) in omega arith

pub wrong_none : (n : ℕ) → n ≡ 0 → wrong_length n ≡ true
wrong_none n h = rw (eq-eqb n 0 h) refl

pub wrong_odd : (n : ℕ) → (n ≡ 0 → ⊥) → n % 2 ≡ 1 → wrong_length n ≡ true
wrong_odd n h k = rw (ne_eqb n 0 h, eq-eqb (n % 2) 1 k) refl

pub wrong_many : (n : ℕ) → (n ≡ 0 → ⊥) → (n % 2 ≡ 1 → ⊥) → 32 < n → wrong_length n ≡ true
wrong_many n h k j = rw (ne_eqb n 0 h, ne_eqb (n % 2) 1 k, lt-ltb 32 n j) refl

module _ (tab : List ℕ) (h : length tab ≡ 0 → ⊥) (k : length tab % 2 ≡ 1 → ⊥) (j : length tab ≤ 32) where
  are : (r : (at : ℕ) → Reading (List Symbol)) → ((at : ℕ) → read_symbols at tab ≡ r at) → SymbolsAre tab r
  are r q = record {
    right = rw (ne_eqb (length tab) 0 h, ne_eqb (length tab % 2) 1 k, le-ltb 32 (length tab) j) refl;
    table = record { even = even_of tab k; small = j };
    some = omega (arith, h, k);
    read = q;
  }

  pub symbols_are : (r : Result (Unit {0}) SymbolsError) → IsRanked tab r → IsSymbols tab r
  symbols_are (Ok u) q = are _ (λ at. read_is at tab ∙ bind_ok (λ _. ok (symbols_of tab)) (q at))
  symbols_are (Err WrongLength) q = absurd q
  symbols_are (Err (WrongByte p)) q = (q.0, are _ (λ at. read_is at tab ∙ bind_refused (λ _. ok (symbols_of tab)) (q.1 at)))
