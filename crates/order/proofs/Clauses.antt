-- `above` is what the document's three clauses say; of equally many arguments, word for word. Assumes nothing. Terms over a problem's symbols have
-- them: completion/proofs/Clauses.
-- Read first: specs/Order, specs/Walk (`all_above`), proofs/Decide.
use mathlib.Core.Path.{◌≡◌, refl, ap, ap₂, ◌∙◌}
use mathlib.Core.Bool.{Bool, false, ◌&&◌, ◌||◌, and-true, or-false}
use Prim.Native.Nat.{ℕ}
use native.Mathlib.Omega.{arith}
use lib.Dec.{eqb, ltb}
use borrow.Author.Tests.{le-ltb, ne_eqb}
use Rattle.std.specs.Prelude.{if◌then◌else◌}
use Rattle.terms.specs.Term.{Terms, var, node, nil, cons, same, count}
use Rattle.order.specs.Order.{by_clauses, by_clauses_all, above, some_reaches, first_above}
use Rattle.order.specs.Walk.{all_above}
use Rattle.order.proofs.PathOrder.{SameLen, len_nil, len_cons}
use Rattle.order.proofs.Decide.{len_dec}

module _ (rank : ℕ → ℕ) where
  every_is : (f : ℕ) (ss ts : Terms) → by_clauses_all rank f (some_reaches rank ss) (first_above rank ss) ts ≡ all_above rank (node f ss) ts
  unfolding above all_above by_clauses
  every_is f ss nil = refl
  every_is f ss (cons t ts) = ap (λ b. above rank (node f ss) t && b) (every_is f ss ts)

  -- Of two terms with symbols at the root.
  pub clauses : (f g : ℕ) (ss ts : Terms) →
      above rank (node f ss) (node g ts) ≡
      (some_reaches rank ss (node g ts)
      || ltb (rank g) (rank f) && all_above rank (node f ss) ts
      || eqb f g && all_above rank (node f ss) ts && first_above rank ss ts)
  unfolding above by_clauses
  clauses f g ss ts =
      ap (λ every. some_reaches rank ss (node g ts) || ltb (rank g) (rank f) && every || eqb f g && every && first_above rank ss ts)
      (every_is f ss ts)

  -- "For two different symbols of equal rank, clause 2 of the path order now holds for neither." Clause 3 asks for one symbol: clause 1 is left. [5.5]
  pub clause_equal_rank : (f g : ℕ) (ss ts : Terms) → (f ≡ g → ⊥) → rank f ≡ rank g →
      above rank (node f ss) (node g ts) ≡ some_reaches rank ss (node g ts)
  clause_equal_rank f g ss ts other equal =
      clauses f g ss ts ∙ rw (le-ltb (rank g) (rank f) (omega (arith, equal)), ne_eqb f g other) (or-false _ ∙ or-false _)

  pub clause_variable : (f y : ℕ) (ss : Terms) → above rank (node f ss) (var y) ≡ some_reaches rank ss (var y)
  unfolding above by_clauses
  clause_variable f y ss = refl

  -- 3. "at the first argument where they differ that of s is above that of t"
  unfoldable pub differ_above : Terms → Terms → Bool
  differ_above nil ts = false
  differ_above (cons s ss) nil = false
  differ_above (cons s ss) (cons t ts) = if same s t then differ_above ss ts else above rank s t

  -- Of equally many arguments `first_above` says this: its test of the length holds.
  pub first_differ : {ss ts : Terms} → SameLen ss ts → first_above rank ss ts ≡ differ_above ss ts
  unfolding above differ_above
  first_differ len_nil = refl
  first_differ (len_cons {s} {t} {ss} {ts} l) =
      ap₂ (λ a b. if same s t then a else (above rank s t && b)) (first_differ l) ((len_dec ss ts).1 l)
      ∙ ap (λ b. if same s t then differ_above ss ts else b) (and-true (above rank s t))

-- as many terms in both lists
pub count_len : (ss ts : Terms) → count ss ≡ count ts → SameLen ss ts
unfolding count
count_len nil nil e = len_nil
count_len nil (cons t ts) e = absurd (omega arith)
count_len (cons s ss) nil e = absurd (omega arith)
count_len (cons s ss) (cons t ts) e = len_cons (count_len ss ts (omega arith))
