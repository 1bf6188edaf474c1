-- The lowest rule that matches at the root, found in the slots: the rules from k on decide the step as all do. Assumes nothing.
-- Read first: slots/specs/Slots, specs/Step (Fitted, FoundRule), matching/specs/Held (Matched), rewriting/specs/Rewrite (root_step).
use mathlib.Core.Path.{◌≡◌, refl, sym, ◌∙◌, subst}
use mathlib.Core.Bool.{Bool, true, false, true≢false, false≢true}
use mathlib.Core.List.{List, [], ◌∷◌}
use mathlib.Core.Option.{Option, none, some}
use Prim.Native.Nat.{ℕ, ◌+◌, ◌%◌, ◌<◌, ◌≤◌}
use native.Mathlib.Omega.{arith}
use native.Mathlib.Numerals.{add-one}
use lib.Dec.{eqb}
use lib.ListN.{length, get_or}
use Rattle.limits.specs.Limits.{first_variable, cell_base}
use Rattle.std.specs.Prelude.{if◌then◌else◌, Some, None}
use Rattle.terms.specs.Base.{mapped, or_else}
use Rattle.terms.specs.Term.{Term, var, node, term_bytes, terms_bytes, size}
use Rattle.terms.proofs.Shape.{Says, eqb_says}
use Rattle.unify.specs.Unify.{Binding}
use Rattle.rewriting.specs.Overlap.{Rule, sides_of}
use Rattle.rewriting.specs.Rewrite.{matching, matching_all, root_step}
use Rattle.matching.specs.Cells.{root_byte, Stands}
use Rattle.matching.specs.Held.{MatchingIs, Matched}
use Rattle.matching.proofs.Celled.{stands_byte}
use Rattle.slots.specs.Slots.{left_at, slot, left_of, left_length, AllFrom, Stored}
use Rattle.redex.specs.Step.{Fitted, Choice, FoundRule}
use Rattle.redex.proofs.Parts.{head_of}

-- a left side in the slot s whose first byte b is a symbol other than the term's does not match
root_none : (s : List ℕ) (b : ℕ) → b ≡ get_or s left_at 0 → b < first_variable → (l x : Term) → left_of s ≡ term_bytes l → (root_byte x ≡ b → ⊥) →
    matching l x [] ≡ none
unfolding left_of term_bytes matching root_byte
root_none s b eb h (var y) x e z = absurd (omega (arith, head_of s (left_length s) left_at (first_variable + y) [] e))
root_none s b eb h (node f ps) (var y) e z = refl
root_none s b eb h (node f ps) (node g ys) e z = go (eqb f g) (eqb_says f g)
  where
    go : (b : Bool) → Says (f ≡ g) b → (if b then matching_all ps ys [] else none) ≡ none
    go true q = absurd (z (sym q ∙ sym (eb ∙ head_of s (left_length s) left_at f (terms_bytes ps) e)))
    go false q = refl

module _ {rules T : List ℕ} {k : ℕ} {B : List ℕ} where
  pub fits_by : {left : List ℕ} {r : Bool} {B' : List ℕ} → left ≡ left_of (slot rules k) → Matched left T B r B' → Fitted rules T k B r B'
  fits_by e m = record {
    same = m.same;
    within = λ q. m.within;
    answer = λ tab p a x s. m.answer tab p.left x a.sides.left_wf (e ∙ a.sides.left_bytes) s;
  }

  pub fits_not : {b : ℕ} → b ≡ get_or (slot rules k) left_at 0 → b < first_variable → (get_or T 0 0 % cell_base ≡ b → ⊥) → Fitted rules T k B false B
  fits_not {b} eb h z = record {
    same = refl;
    within = λ q. absurd (false≢true q);
    answer = λ tab p a x s.
        subst (λ o. MatchingIs tab T (size x) false B o)
        (sym (root_none (slot rules k) b eb h p.left x a.sides.left_bytes (λ e. z (stands_byte tab T (size x) 0 x s ∙ e)))) refl;
  }

-- the search: the rules from k on are `rest`, and they decide the step as all do
pub record Remaining (tab rules : List ℕ) (number k : ℕ) (rs : List Rule) (x : Term) : Type 0 where
  pub rest : List Rule
  pub stored : Stored tab rules k (sides_of rest)
  pub counts : number ≡ k + length rest
  pub same_step : root_step rest x ≡ root_step rs x

pub record Searching (rules T : List ℕ) (number k : ℕ) (B₀ B : List ℕ) : Type 0 where
  pub bounded : k ≤ number
  pub same : length B ≡ length B₀
  pub remaining : (tab : List ℕ) (rs : List Rule) → Stored tab rules 0 (sides_of rs) → number ≡ length rs → (x : Term) → Stands tab T (size x) 0 x →
      Remaining tab rules number k rs x

pub search_start : {rules T : List ℕ} {number : ℕ} {B : List ℕ} → Searching rules T number 0 B B
search_start = record {
  bounded = omega arith;
  same = refl;
  remaining = λ tab rs s n x w. record { rest = rs; stored = s; counts = omega arith; same_step = refl };
}

module _ {rules T : List ℕ} {number k : ℕ} {B₀ B : List ℕ} (s : Searching rules T number k B₀ B) where
  pub search_end : number ≤ k → FoundRule rules T number None B₀ B
  unfolding root_step
  search_end h = record {
    same = s.same;
    found = λ tab rs st n x w. let m = s.remaining tab rs st n x w in sym m.same_step ∙ go m.rest m.counts x;
  }
    where
      go : (rest : List Rule) → number ≡ k + length rest → (x : Term) → root_step rest x ≡ none
      go [] e x = refl
      go (r ∷ rest) e x = absurd (omega arith)

  -- rule k was tried
  module _ (l : k < number) {r : Bool} {B' : List ℕ} (f : Fitted rules T k B r B') where
    abbrev Tells : List ℕ → List Rule → Term → Type 0
    Tells tab rs x = (r ≡ false → Remaining tab rules number (k + 1) rs x) × (r ≡ true → Choice tab rules T B' k x (root_step rs x))

    tells_of : (tab : List ℕ) (rs : List Rule) (x : Term) → Stands tab T (size x) 0 x → (rest : List Rule) → Stored tab rules k (sides_of rest) →
        number ≡ k + length rest → root_step rest x ≡ root_step rs x → Tells tab rs x
    unfolding AllFrom root_step mapped or_else
    tells_of tab rs x w [] st n q = absurd (omega arith)
    tells_of tab rs x w (a ∷ rest) st n q = go (matching a.sides.left x []) refl (f.answer tab a.sides st.0 x w)
      where
        go : (o : Option (List Binding)) → matching a.sides.left x [] ≡ o → MatchingIs tab T (size x) r B' o → Tells tab rs x
        go none m v = (
          λ e. record { rest = rest; stored = rw (add-one k) st.1; counts = omega arith; same_step = sym (rw m refl) ∙ q },
          λ e. absurd (true≢false (sym e ∙ v)),
        )
        go (some bs) m v = (
          λ e. absurd (true≢false (sym v.0 ∙ e)),
          λ e. record { rule = a.sides; bindings = bs; matched = m; place = st.0; held = v.1; result = sym q ∙ rw m refl },
        )

    tells : (tab : List ℕ) (rs : List Rule) → Stored tab rules 0 (sides_of rs) → number ≡ length rs → (x : Term) → Stands tab T (size x) 0 x → Tells tab rs x
    tells tab rs st n x w = let m = s.remaining tab rs st n x w in tells_of tab rs x w m.rest m.stored m.counts m.same_step

    pub search_on : r ≡ false → Searching rules T number (k + 1) B₀ B'
    search_on e = record {
      bounded = omega arith;
      same = f.same ∙ s.same;
      remaining = λ tab rs st n x w. (tells tab rs st n x w).0 e;
    }

    pub search_hit : r ≡ true → FoundRule rules T number (Some k) B₀ B'
    search_hit e = record {
      same = f.same ∙ s.same;
      found = record { below = l; within = f.within e; lowest = λ tab rs st n x w. (tells tab rs st n x w).1 e };
    }
