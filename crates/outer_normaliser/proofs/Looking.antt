-- `first_redex` by its turns: a node that is skipped has no matched node in its subterm, and what is found is the earliest one. Assumes nothing.
-- Read first: specs/Outer (Skipped, CleanTo, FirstRedex), redex/specs/Step (FoundRule), redex/proofs/Standing, rewriting/proofs/Outer (First).
use mathlib.Core.Path.{◌≡◌, refl, sym, ◌∙◌, ap}
use mathlib.Core.List.{List, [], append-nil}
use mathlib.Core.Option.{Option, none, some}
use Prim.Native.Nat.{ℕ, ◌+◌, ◌<◌, ◌≤◌}
use native.Mathlib.Omega.{arith}
use native.Mathlib.Decide.{dec_lt}
use lib.ListN.{length, get_or, drop}
use Rattle.limits.specs.Limits.{most_apart}
use Rattle.terms.specs.Term.{Term, size, subterm_at}
use Rattle.terms.specs.Flat.{Wf}
use Rattle.terms.proofs.Shape.{none≢some, some_inj}
use Rattle.terms.proofs.Places.{place}
use Rattle.terms.proofs.Positions.{subterm_is, subterm_below}
use Rattle.terms.proofs.Starts.{from, from_drop}
use Rattle.std.specs.Prelude.{Some, None}
use Rattle.rewriting.specs.Overlap.{Rule, sides_of}
use Rattle.rewriting.specs.Rewrite.{root_step}
use Rattle.rewriting.specs.Outermost.{step_outer}
use Rattle.rewriting.proofs.Earliest.{Redex}
use Rattle.rewriting.proofs.Outer.{outer_first}
use Rattle.matching.specs.Cells.{cells, Stands}
use Rattle.matching.proofs.Celled.{length_cells, stands_size}
use Rattle.slots.specs.Slots.{Stored}
use Rattle.redex.specs.Step.{FoundRule, Lowest}
use Rattle.redex.proofs.Standing.{stands_at, stands_inside}
use Rattle.outer_normaliser.specs.Outer.{Passed, CleanTo, NoneBefore, FirstRedex}

-- so far none was found
pub record Looked (rules t : List ℕ) (clean number i : ℕ) : Type 0 where
  pub is : (tab : List ℕ) (rs : List Rule) → Stored tab rules 0 (sides_of rs) → number ≡ length rs → (x : Term) → Wf most_apart tab x → t ≡ cells x →
      CleanTo rs x clean → NoneBefore rs x i

pub look_start : (rules t : List ℕ) (clean number : ℕ) → Looked rules t clean number 0
look_start rules t clean number = record { is = λ tab rs st n x w e k q y s h. absurd (omega arith) }

module _ {rules t : List ℕ} {clean number i : ℕ} (L : Looked rules t clean number i) (below : i < length t) where
  -- the term at i, and its cells
  module _ (tab : List ℕ) (x : Term) (w : Wf most_apart tab x) (e : t ≡ cells x) where
    low : i < size x
    low = omega (arith, ap length e, length_cells x)

    abbrev here : Term
    here = (place x i low).s

    stands : (q : ℕ) (y : Term) → subterm_at x q ≡ some y → Stands tab t (size x) q y
    stands = stands_at tab x [] t w (e ∙ sym (append-nil (cells x)))

    stands_here : Stands tab t (size x) i here
    stands_here = stands i here (subterm_is x i low)

    stands_first : Stands tab (drop i t) (size here) 0 here
    stands_first = let s = stands_here in record { wf = s.wf; rest = s.rest; text = s.text; inside = omega arith }

  -- a subterm that ends at `clean` or before
  pub look_skip : {n : ℕ} → Passed (get_or t i 0) i clean n → Looked rules t clean number (i + n)
  look_skip {n} S = record {
    is = λ tab rs st c x w e k q u d h.
        let s = stands_here tab x w e in
        let m : n ≡ size (here tab x w e) = S.size ∙ stands_size tab t (size x) i (here tab x w e) s in
        let o = S.ends in
        elim (dec_lt q i) [
          | yes a ↦ L.is tab rs st c x w e k q u d a
          | no a ↦ k q u d (omega (arith, stands_inside s (stands tab x w e q u d) (omega arith) (omega arith)))
        ];
  }

  -- no rule matches there
  pub look_more : {B B' : List ℕ} → FoundRule rules (from t i) number None B B' → Looked rules t clean number (i + 1)
  look_more F = record {
    is = λ tab rs st c x w e k q u d h.
        elim (dec_lt q i) [
          | yes a ↦ L.is tab rs st c x w e k q u d a
          | no a ↦
              let j : q ≡ i = omega arith in
              let same : u ≡ here tab x w e = some_inj (sym d ∙ ap (subterm_at x) j ∙ subterm_is x i (low tab x w e)) in
              let s : Stands tab (from t i) (size (here tab x w e)) 0 (here tab x w e) = rw (from_drop t i) (stands_first tab x w e) in
              ap (root_step rs) same ∙ F.found tab rs st c (here tab x w e) s
        ];
  }

  -- one does
  pub look_found : {r : ℕ} {B₀ B B' : List ℕ} → FoundRule rules (from t i) number (Some r) B B' → length B ≡ length B₀ →
      FirstRedex rules t clean number B₀ B' (Some (record { at = i; rule = r }))
  look_found {r} {B' = B'} F same =
      let l : Lowest rules (drop i t) number r B' = rw (from_drop t i) at F.found in
      record {
        same = F.same ∙ same;
        found = record {
          low = below;
          rule = l.below;
          within = l.within;
          chosen = λ tab rs st c x w e k. record {
            subterm = here tab x w e;
            stands = subterm_is x i (low tab x w e);
            choice = l.lowest tab rs st c (here tab x w e) (stands_first tab x w e);
            clean = L.is tab rs st c x w e k;
          };
        };
      }

-- none is matched: there is no step
no_step : (rs : List Rule) (x : Term) → ((q : ℕ) (y : Term) → subterm_at x q ≡ some y → root_step rs y ≡ none) → step_outer rs x ≡ none
no_step rs x n = go (step_outer rs x) refl
  where
    go : (o : Option Term) → step_outer rs x ≡ o → step_outer rs x ≡ none
    go none e = e
    go (some u) e =
        let r : Redex rs (subterm_at x) _ = (outer_first rs x u e).redex in
        absurd (none≢some (sym (n _ r.subterm r.stands) ∙ r.matched))

pub look_end : {rules t : List ℕ} {clean number i : ℕ} {B B' : List ℕ} → Looked rules t clean number i → length t ≤ i → length B' ≡ length B →
    FirstRedex rules t clean number B B' None
look_end L o same = record {
  same = same;
  found = λ tab rs st c x w e k.
      no_step rs x (λ q y d. L.is tab rs st c x w e k q y d (omega (arith, subterm_below x q y d, ap length e, length_cells x)));
}
