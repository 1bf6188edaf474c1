-- The first node of each variable, by a table of their first nodes. Assumes nothing.
-- Read first: specs/Result (FirstClass, Firsts).
use mathlib.Core.Path.{◌≡◌, refl, sym, ap, ◌∙◌}
use mathlib.Core.List.{List}
use Prim.Native.Nat.{ℕ, zero, suc, ◌+◌, ◌-◌, ◌≤◌, ◌<◌}
use native.Mathlib.Omega.{arith}
use lib.Dec.{eqb}
use lib.ListN.{length, set, length-set, replicate}
use lib.Seq.{get_or-set_same, get_or-set_other}
use Rattle.terms.proofs.Shape.{Says, eqb_says}
use mathlib.Core.Bool.{Bool, true, false}
use Rattle.classes.specs.Steps.{at}
use Rattle.classes.proofs.Ranges.{below_more}
use Rattle.mgu.specs.Result.{FirstClass, Firsts}

-- an empty table
pub zeros_at : (n b : ℕ) → at (replicate n 0) b ≡ 0
zeros_at zero b = refl
zeros_at (suc n) zero = refl
zeros_at (suc n) (suc b) = zeros_at n b

pub firsts_start : (l firsts : List ℕ) → length firsts ≡ 256 → ((b : ℕ) → at firsts b ≡ 0) → Firsts l firsts 0
firsts_start l firsts h z = record {
  long = h;
  none = λ b k m e j q. absurd (omega arith);
  some = λ b k n. absurd (n (z b));
}

-- the class of node i
pub first_symbol : (l : List ℕ) (i : ℕ) → at l i < 128 → FirstClass l i i × (i ≤ i)
first_symbol l i h = (record { symbol = λ x. refl; variable = λ x. absurd (omega arith) }, omega arith)

pub first_new : (l firsts : List ℕ) (i b f : ℕ) → Firsts l firsts i → b ≡ at l i → 128 ≤ at l i → b < 256 → f ≡ at firsts b → f ≡ 0 → FirstClass l i i × (i ≤ i)
first_new l firsts i b f g e h m q z = (
  record {
    symbol = λ x. refl;
    variable = λ x. record { within = omega arith; alike = refl; first = λ j k r. g.none b (omega arith) m (sym q ∙ z) j k (r ∙ sym e) };
  },
  omega arith,
)

pub first_old : (l firsts : List ℕ) (i b f : ℕ) → Firsts l firsts i → b ≡ at l i → 128 ≤ at l i → f ≡ at firsts b → (f ≡ 0 → ⊥) →
    FirstClass l i (f - 1) × (f - 1 ≤ i)
first_old l firsts i b f g e h q z =
    let s = g.some b (omega arith) (λ r. z (q ∙ r)) in
    let w : f - 1 < i = omega (arith, q, s.0) in (
      record {
        symbol = λ x. absurd (omega arith);
        variable = λ x. record {
          within = omega arith;
          alike = ap (λ z. at l (z - 1)) q ∙ s.1 ∙ e;
          first = λ j k r. s.2 j (omega (arith, q)) (r ∙ sym e);
        };
      },
      omega arith,
    )

-- the table with node i
module _ (l firsts : List ℕ) (i b c : ℕ) (g : Firsts l firsts i) (e : b ≡ at l i) (m : b < 256) (f : FirstClass l i c) (h : c ≤ i) where
  none_more : (a : ℕ) → 128 ≤ a → a < 256 → (t : Bool) → Says (a ≡ b) t → at (set firsts b (c + 1)) a ≡ 0 → (j : ℕ) → j < i + 1 → at l j ≡ a → ⊥
  none_more a p q true y z = λ j k r.
      let s : at (set firsts b (c + 1)) a ≡ c + 1 = ap (at (set firsts b (c + 1))) y ∙ get_or-set_same firsts b (c + 1) 0 (omega (arith, g.long)) in
      omega arith
  none_more a p q false y z =
      below_more (λ j. at l j ≡ a → ⊥) i (g.none a p q (sym (get_or-set_other firsts b a (c + 1) 0 y) ∙ z)) (λ r. y (sym r ∙ sym e))

  some_more : (a : ℕ) → 128 ≤ a → (t : Bool) → Says (a ≡ b) t → (at (set firsts b (c + 1)) a ≡ 0 → ⊥) →
      (at (set firsts b (c + 1)) a ≤ i + 1) × (at l (at (set firsts b (c + 1)) a - 1) ≡ a) × ((j : ℕ) → j + 1 < at (set firsts b (c + 1)) a → at l j ≡ a → ⊥)
  some_more a p true y n =
      let s : at (set firsts b (c + 1)) a ≡ c + 1 = ap (at (set firsts b (c + 1))) y ∙ get_or-set_same firsts b (c + 1) 0 (omega (arith, g.long)) in
      let v = f.variable (omega arith) in
      let z : c + 1 - 1 ≡ c = omega arith in
      (omega arith, ap (λ k. at l (k - 1)) s ∙ ap (at l) z ∙ v.alike ∙ sym e ∙ sym y, λ j k r. v.first j (omega arith) (r ∙ y ∙ e))
  some_more a p false y n =
      let s : at (set firsts b (c + 1)) a ≡ at firsts a = get_or-set_other firsts b a (c + 1) 0 y in
      let o = g.some a p (λ r. n (s ∙ r)) in
      (omega (arith, o.0), ap (λ k. at l (k - 1)) s ∙ o.1, λ j k r. o.2 j (omega arith) r)

  pub firsts_more : Firsts l (set firsts b (c + 1)) (i + 1)
  firsts_more = record {
    long = length-set firsts b (c + 1) ∙ g.long;
    none = λ a p q. none_more a p q (eqb a b) (eqb_says a b);
    some = λ a p. some_more a p (eqb a b) (eqb_says a b);
  }
