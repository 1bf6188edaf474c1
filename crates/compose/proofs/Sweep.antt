-- All right sides, ascending: the definition's `normalise_rights` is that of the rules to come with the units left. Assumes nothing.
-- Read first: specs/Rights (One, All), completion/specs/Turn (normalise_rights), proofs/Single.
use mathlib.Core.Path.{◌≡◌, refl, sym, ap, ◌∙◌, subst}
use mathlib.Core.List.{List, [], ◌∷◌, ◌++◌, append_assoc, append-nil, map-append}
use Prim.Native.Nat.{ℕ, ◌+◌, ◌<◌, ◌≤◌}
use native.Mathlib.Omega.{arith}
use lib.ListN.{length, length-append}
use Rattle.terms.specs.Term.{Term}
use Rattle.rewriting.specs.Overlap.{Rule, sides_of}
use Rattle.rewriting.specs.Rewrite.{Paid, done, stop, and_then, ◌>>=◌, return, normalise}
use Rattle.std.specs.Prelude.{None}
use Rattle.rewriting.proofs.Verdicts.{goes≢ends}
use Rattle.slots.specs.Slots.{Stored}
use Rattle.completion.specs.Turn.{normalise_rights}
use Rattle.completion.proofs.Ends.{with_right}
use Rattle.completion.proofs.Limits.{numbers}
use Rattle.completion.proofs.Derived.{sides_append}
use Rattle.compose.specs.Rights.{RightsOnly, OneIs, One, AllIs, All}
use Rattle.compose.specs.declared.Composed.{Composed}
use Rattle.compose.proofs.Single.{rights_none}

-- The rules `before` are done and the rules `later` are to come.
pub record Midway (tab rules : List ℕ) (rs : List Rule) (new : Rule) (k units left : ℕ) (before later : List Rule) : Type 0 where
  pub place : length before ≡ k
  pub total : length before + length later ≡ length rs
  pub stored : Stored tab rules 0 (sides_of (before ++ later ++ (new ∷ [])))
  pub run : normalise_rights [] rs new units ≡ normalise_rights before later new left
  pub same_numbers : numbers (before ++ later ++ (new ∷ [])) ≡ numbers (rs ++ (new ∷ []))

-- the first k right sides are done
pub record SweptTo (tab rules rules' : List ℕ) (count units k left : ℕ) : Type 0 where
  pub only : RightsOnly 0 count rules rules'
  pub left_over : left ≤ units
  pub answer : (rs : List Rule) (new : Rule) → length (rs ++ (new ∷ [])) ≡ count → Stored tab rules 0 (sides_of (rs ++ (new ∷ []))) →
      (before : List Rule) × (later : List Rule) × Midway tab rules' rs new k units left before later

pub sweep_start : (tab rules : List ℕ) (count units : ℕ) → SweptTo tab rules rules count units 0 units
sweep_start tab rules count units = record {
  only = rights_none 0 count rules;
  left_over = omega arith;
  answer = λ rs new e h. ([], rs, record { place = refl; total = omega arith; stored = h; run = refl; same_numbers = refl });
}

numbers_with : (before : List Rule) (old : Rule) (x : Term) (after : List Rule) →
    numbers (before ++ (with_right old x ∷ after)) ≡ numbers (before ++ (old ∷ after))
numbers_with before old x after = map-append (λ r. r.number) before (with_right old x ∷ after) ∙ sym (map-append (λ r. r.number) before (old ∷ after))

-- the definition's two cases
abbrev then_rest : List Rule → Rule → List Rule → Rule → Paid Term → Paid (List Rule)
then_rest before old later new p = and_then p (λ r. normalise_rights (before ++ (with_right old r ∷ [])) later new)

next_right : (before : List Rule) (old : Rule) (later : List Rule) (new : Rule) (left : ℕ) →
    normalise_rights before (old ∷ later) new left ≡ then_rest before old later new
    (normalise (before ++ (old ∷ (later ++ (new ∷ [])))) old.sides.right left)
unfolding normalise_rights ◌>>=◌
next_right before old later new left =
    ap (λ z. then_rest before old later new (normalise z old.sides.right left)) (append_assoc before (old ∷ later) (new ∷ []))

last_right : (before : List Rule) (new : Rule) (left : ℕ) → normalise_rights before [] new left ≡ done (before ++ (new ∷ [])) left
unfolding normalise_rights return
last_right before new left = refl

module _ (tab rules rules₁ : List ℕ) (count units k left : ℕ) (g : SweptTo tab rules rules₁ count units k left) where
  module _ (more : k + 1 < count) (rules₂ : List ℕ) (o : Composed) (one : One tab rules₁ rules₂ k count left o) where
    still : RightsOnly 0 count rules rules₂
    still = record {
      same = one.only.same ∙ g.only.same;
      marks = λ i. one.only.marks i ∙ g.only.marks i;
      before = λ i h. absurd (omega arith);
      behind = λ i h. one.only.behind i (omega arith) ∙ g.only.behind i h;
      layout = λ n y. one.only.layout n (g.only.layout n y);
    }

    still_few : o.units ≤ units
    still_few = let q = one.left_over in let r = g.left_over in omega arith

    module _ (rs : List Rule) (new : Rule) (number : length (rs ++ (new ∷ [])) ≡ count) where
      -- what was said of the next rule
      module _ (before later : List Rule) (old : Rule) (m : Midway tab rules₁ rs new k units left before (old ∷ later)) where
        said : OneIs tab rules₂ before old (later ++ (new ∷ [])) o (normalise (before ++ (old ∷ (later ++ (new ∷ [])))) old.sides.right left)
        said =
            let t = m.total in
            one.answer before old (later ++ (new ∷ []))
            (record {
              place = m.place;
              total = omega (arith, number, length-append rs (new ∷ []), length-append before (old ∷ (later ++ (new ∷ []))), length-append later (new ∷ []));
              stored = subst (λ z. Stored tab rules₁ 0 (sides_of z)) (append_assoc before (old ∷ later) (new ∷ [])) m.stored;
            })

        runs : normalise_rights [] rs new units ≡ then_rest before old later new (normalise (before ++ (old ∷ (later ++ (new ∷ [])))) old.sides.right left)
        runs = m.run ∙ next_right before old later new left

        behind : (x : Term) → before ++ (with_right old x ∷ []) ++ later ++ (new ∷ []) ≡ before ++ (with_right old x ∷ (later ++ (new ∷ [])))
        behind x = ap (λ z. z ++ (new ∷ [])) (append_assoc before (with_right old x ∷ []) later) ∙ append_assoc before (with_right old x ∷ later) (new ∷ [])

      further : o.end ≡ None → (before later : List Rule) (old : Rule) → Midway tab rules₁ rs new k units left before (old ∷ later) →
          (p : Paid Term) → OneIs tab rules₂ before old (later ++ (new ∷ [])) o p → normalise_rights [] rs new units ≡ then_rest before old later new p →
          (before : List Rule) × (later : List Rule) × Midway tab rules₂ rs new (k + 1) units o.units before later
      unfolding and_then
      further v before later old m (done x n) e f =
          let l = length-append before (with_right old x ∷ []) in
          let q = m.place in
          let t = m.total in (
            before ++ (with_right old x ∷ []),
            later,
            record {
              place = omega arith;
              total = omega arith;
              stored =
                  subst (λ z. Stored tab rules₂ 0 z)
                  (sym (ap sides_of (behind before later old m x) ∙ sides_append before (with_right old x ∷ (later ++ (new ∷ []))))) e.2;
              run = f ∙ ap (normalise_rights (before ++ (with_right old x ∷ [])) later new) (sym e.1);
              same_numbers =
                  ap numbers (behind before later old m x)
                  ∙ numbers_with before old x (later ++ (new ∷ []))
                  ∙ ap numbers (sym (append_assoc before (old ∷ later) (new ∷ [])))
                  ∙ m.same_numbers;
            },
          )
      further v before later old m (stop c n) e f = absurd (goes≢ends v e.0)

      ended : (o.end ≡ None → ⊥) → (before later : List Rule) (old : Rule) (p : Paid Term) → OneIs tab rules₂ before old (later ++ (new ∷ [])) o p →
          normalise_rights [] rs new units ≡ then_rest before old later new p → AllIs tab rules₂ (rs ++ (new ∷ [])) o (normalise_rights [] rs new units)
      unfolding and_then
      ended v before later old (done x n) e f = absurd (v e.0)
      ended v before later old (stop c n) e f = rw f e

      next_midway : o.end ≡ None → (before later : List Rule) → Midway tab rules₁ rs new k units left before later →
          (before : List Rule) × (later : List Rule) × Midway tab rules₂ rs new (k + 1) units o.units before later
      next_midway v before [] m = absurd (omega (arith, m.place, m.total, number, length-append rs (new ∷ [])))
      next_midway v before (old ∷ later) m = further v before later old m _ (said before later old m) (runs before later old m)

      next_ended : (o.end ≡ None → ⊥) → (before later : List Rule) → Midway tab rules₁ rs new k units left before later →
          AllIs tab rules₂ (rs ++ (new ∷ [])) o (normalise_rights [] rs new units)
      next_ended v before [] m = absurd (omega (arith, m.place, m.total, number, length-append rs (new ∷ [])))
      next_ended v before (old ∷ later) m = ended v before later old _ (said before later old m) (runs before later old m)

    pub sweep_on : o.end ≡ None → SweptTo tab rules rules₂ count units (k + 1) o.units
    sweep_on v = record {
      only = still;
      left_over = still_few;
      answer = λ rs new number h. let m = g.answer rs new number h in next_midway rs new number v m.0 m.1 m.2;
    }

    pub sweep_stop : (o.end ≡ None → ⊥) → All tab rules rules₂ count units o
    sweep_stop v = record {
      only = still;
      left_over = still_few;
      answer = λ rs new number h. let m = g.answer rs new number h in next_ended rs new number v m.0 m.1 m.2;
    }

  pub sweep_end : count ≤ k + 1 → All tab rules rules₁ count units (record { end = None; units = left })
  sweep_end over = record {
    only = g.only;
    left_over = g.left_over;
    answer = λ rs new number h. let m = g.answer rs new number h in last rs new number m.0 m.1 m.2;
  }
    where
      last : (rs : List Rule) (new : Rule) → length (rs ++ (new ∷ [])) ≡ count → (before later : List Rule) →
          Midway tab rules₁ rs new k units left before later →
          AllIs tab rules₁ (rs ++ (new ∷ [])) (record { end = None; units = left }) (normalise_rights [] rs new units)
      last rs new number before [] m =
          let e : before ++ [] ≡ before = append-nil before in
          let q = m.total in
          rw (m.run ∙ last_right before new left) (
            refl,
            refl,
            subst (λ z. Stored tab rules₁ 0 (sides_of (z ++ (new ∷ [])))) e m.stored,
            ap (λ z. numbers (z ++ (new ∷ []))) (sym e) ∙ m.same_numbers,
          )
      last rs new number before (old ∷ later) m = absurd (omega (arith, m.place, m.total, number, length-append rs (new ∷ [])))
