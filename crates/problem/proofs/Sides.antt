-- The two sides of an equation field, and the first of the equation fields: where they stand in a problem's bytes. Assumes nothing.
-- Read first: reading/proofs/Standing, proofs/Pairs, terms/specs/Flat.
use mathlib.Core.Path.{◌≡◌, refl, ap, sym, ◌∙◌, subst}
use mathlib.Core.List.{List, [], ◌∷◌, ◌++◌, append_assoc}
use Prim.Native.Nat.{ℕ, suc, ◌+◌, ◌≤◌}
use native.Mathlib.Omega.{arith}
use lib.ListN.{length, take, drop, length-take, length-drop, length-append, take-append-drop}
use lib.Seq.{drop-append-le, drop_at, drop-drop}
use Rattle.terms.specs.Term.{size, term_bytes, Pair}
use Rattle.terms.specs.Flat.{Wf, Starts}
use Rattle.terms.proofs.Bytes.{length_bytes}
use Rattle.terms.proofs.Flats.{widen}
use Rattle.reading.specs.Answers.{between}
use Rattle.reading.proofs.Reading.{from_bind, ok_injective}
use Rattle.reading.proofs.Standing.{PairStands, pair_stands}
use Rattle.problem.specs.Problem.{ok, ReadField, due, Symbol, Equation, equation_field, equation_fields}
use Rattle.problem.specs.Parser.{field_at, symbols_of, Table}
use Rattle.problem.proofs.Pairs.{equation_is}

module _ (tab : List ℕ) (T : Table tab) where
  -- both sides of an equation field
  pub record Both (l : List ℕ) (at e : ℕ) (q : Equation) : Type 0 where
    pub first_is : q.first ≡ at
    pub end_is : e ≡ at + 3 + size q.sides.left + size q.sides.right
    pub left_wf : Wf 16 tab q.sides.left
    pub right_wf : Wf 16 tab q.sides.right
    pub left : Starts tab (drop (at + 3) l) q.sides.left
    pub right : Starts tab (drop (at + 3 + size q.sides.left) l) q.sides.right

  module _ (l : List ℕ) (at e : ℕ) (low : at + 3 ≤ e) (within : e ≤ length l) where
    both_of : (p : Pair) → PairStands tab T (between l (at + 3) e) p → Both l at e (record { first = at; sides = p })
    both_of p P =
        let x = p.left in
        let y = p.right in
        let f : drop (at + 3) l ≡ term_bytes x ++ (term_bytes y ++ drop e l) =
        ap (drop (at + 3)) (sym (take-append-drop e l)) ∙ drop-append-le (at + 3) (take e l) (drop e l) (omega (arith, length-take e l))
        ∙ ap (λ (m : List ℕ). m ++ drop e l) P.filled ∙ append_assoc (term_bytes x) (term_bytes y) (drop e l) in
        record {
          first_is = refl;
          end_is = omega (
            arith,
            ap length P.filled,
            length-append (term_bytes x) (term_bytes y),
            length_bytes x,
            length_bytes y,
            length-drop (at + 3) (take e l),
            length-take e l,
          );
          left_wf = P.left_wf;
          right_wf = P.right_wf;
          left = record { wf = widen 16 32 tab x (omega arith) P.left_wf; rest = term_bytes y ++ drop e l; bytes = f };
          right = record {
            wf = widen 16 32 tab y (omega arith) P.right_wf;
            rest = drop e l;
            bytes = sym (drop-drop (size x) (at + 3) l) ∙ ap (drop (size x)) f ∙ drop_at (term_bytes x) (term_bytes y ++ drop e l) (size x) (length_bytes x);
          };
        }

    pub both_sides : (q : Equation) → equation_field (symbols_of tab) (field_at 0x03 l at e) ≡ ok q → Both l at e q
    both_sides q h =
        from_bind _ _ q (sym (equation_is (symbols_of tab) l at e) ∙ h) λ p e₁ e₂.
        subst (Both l at e) (ok_injective e₂) (both_of p (pair_stands tab T (at + 3) (between l (at + 3) e) p e₁))

-- the first of the equation fields
pub record First (Σ : List Symbol) (more at : ℕ) (m : List ℕ) (q : Equation) (es : List Equation) : Type 0 where
  pub field : ReadField
  pub due_is : due 0x03 at m ≡ ok field
  pub read_is : equation_field Σ field ≡ ok q
  pub rest_is : equation_fields Σ more field.end field.rest ≡ ok es

pub first_of : (Σ : List Symbol) (more at : ℕ) (m : List ℕ) (q : Equation) (es : List Equation) →
    equation_fields Σ (suc more) at m ≡ ok (q ∷ es) → First Σ more at m q es
unfolding equation_fields
first_of Σ more at [] q es h = absurd (let e : [] ≡ q ∷ es = ok_injective h in let n : ◌≡◌ {A = ℕ} 0 1 = cc in omega arith)
first_of Σ more at (b ∷ m) q es h =
    from_bind _ _ (q ∷ es) h λ f e₁ k.
    from_bind _ _ (q ∷ es) k λ q' e₂ k'.
    from_bind _ _ (q ∷ es) k' λ es' e₃ e₄.
    let e : q' ∷ es' ≡ q ∷ es = ok_injective e₄ in
    let i : q' ≡ q = cc in
    let j : es' ≡ es = cc in
    record { field = f; due_is = e₁; read_is = e₂ ∙ ap ok i; rest_is = e₃ ∙ ap ok j }
