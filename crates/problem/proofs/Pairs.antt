-- An equation field is a pair that fills its contents: a lemma for each return of `equation`. Assumes nothing.
-- Read first: specs/Parser, reading/specs/Forms (read_pair), reading/specs/Answers (PairAt).
use mathlib.Core.Path.{◌≡◌, refl, ◌∙◌}
use mathlib.Core.List.{List, [], ◌∷◌}
use Prim.Native.Nat.{ℕ, zero, suc, ◌+◌, ◌-◌, ◌<◌, ◌≤◌}
use native.Mathlib.Omega.{arith}
use lib.ListN.{length, drop, length-drop}
use Rattle.terms.specs.Term.{Pair}
use Rattle.reading.specs.Forms.{read_pair}
use Rattle.reading.specs.Answers.{DueTo, between, PairAt, IsPair}
use Rattle.reading.proofs.Reading.{bind_ok, bind_refused}
use Rattle.problem.specs.Problem.{ok, refused, ◌>>=◌, ReadField, due, Symbol, equation_field, equation_fields}
use Rattle.std.specs.Prelude.{Err}
use Rattle.reading.specs.declared.PairError.{PairError}
use Rattle.reading.specs.declared.PairError.TheVariants.{Wrong, Large}
use Rattle.problem.specs.Reasons.{refusal_of_pair}
use Rattle.problem.specs.Parser.{field_at, symbols_of, FieldAt, IsEquation}

pub equation_is : (Σ : List Symbol) (l : List ℕ) (at e : ℕ) →
    equation_field Σ (field_at 0x03 l at e) ≡ (read_pair Σ (at + 3) (between l (at + 3) e) >>= λ p. ok (record { first = at; sides = p }))
unfolding equation_field field_at
equation_is Σ l at e = refl

-- `equation` returns: m is what is left at `at`
module _ (Σ : List Symbol) (at : ℕ) where
  due_fails : (more : ℕ) (m : List ℕ) (n p : ℕ) → (length m ≡ 0 → ⊥) → due 0x03 at m ≡ refused n p → equation_fields Σ more at m ≡ refused n p
  unfolding equation_fields
  due_fails more [] n p z h = absurd (z refl)
  due_fails zero (b ∷ m) n p z h = bind_refused _ h
  due_fails (suc more) (b ∷ m) n p z h = bind_refused _ h

  seventeenth : (m : List ℕ) (f : ReadField) → (length m ≡ 0 → ⊥) → due 0x03 at m ≡ ok f → equation_fields Σ 0 at m ≡ refused 9 at
  unfolding equation_fields
  seventeenth [] f z h = absurd (z refl)
  seventeenth (b ∷ m) f z h = bind_ok _ h

  pub one_more : (more : ℕ) (m : List ℕ) (f : ReadField) → (length m ≡ 0 → ⊥) → due 0x03 at m ≡ ok f →
      equation_fields Σ (suc more) at m ≡ (equation_field Σ f >>= λ q. equation_fields Σ more f.end f.rest >>= λ es. ok (q ∷ es))
  unfolding equation_fields
  one_more more [] f z h = absurd (z refl)
  one_more more (b ∷ m) f z h = bind_ok _ h

module _ (tab l : List ℕ) (at count : ℕ) (h : at < length l) where
  some_left : length (drop at l) ≡ 0 → ⊥
  some_left z = omega (arith, length-drop at l)

  pub equation_not_due : (n p : ℕ) → due 0x03 at (drop at l) ≡ refused n p → equation_fields (symbols_of tab) (16 - count) at (drop at l) ≡ refused n p
  equation_not_due n p e = due_fails (symbols_of tab) at (16 - count) (drop at l) n p some_left e

  module _ (e : ℕ) (d : DueTo 0x03 l at e) where
    pub equation_seventeenth : count ≡ 16 → equation_fields (symbols_of tab) (16 - count) at (drop at l) ≡ refused 9 at
    equation_seventeenth k = let z : 16 - count ≡ 0 = omega arith in rw z (seventeenth (symbols_of tab) at (drop at l) (field_at 0x03 l at e) some_left d.0)

    module _ (k : count ≡ 16 → ⊥) (s : count ≤ 16) where
      refused_with : (n p : ℕ) → read_pair (symbols_of tab) (at + 3) (between l (at + 3) e) ≡ refused n p →
          equation_fields (symbols_of tab) (16 - count) at (drop at l) ≡ refused n p
      refused_with n p q =
          let z : 16 - count ≡ suc (15 - count) = omega (arith, k) in
          rw z (one_more (symbols_of tab) at (15 - count) (drop at l) (field_at 0x03 l at e) some_left d.0
          ∙ bind_refused _ (equation_is (symbols_of tab) l at e ∙ bind_refused _ q))

      -- its pair is
      pub equation_refused : (r : PairError) → IsPair tab l (at + 3) e (Err r) → IsEquation tab l at count (Err (refusal_of_pair r))
      equation_refused (Wrong p) q = refused_with _ p q
      equation_refused (Large p) q = refused_with _ p q

      pub equation_fine : (m : ℕ) (p : Pair) → PairAt tab l (at + 3) e m p → FieldAt tab l at count e
      equation_fine m p q = record {
        equation = record { first = at; sides = p };
        field = d.0;
        read = equation_is (symbols_of tab) l at e ∙ bind_ok _ q.read;
        more = omega (arith, k);
        low = d.1;
        within = d.2;
      }
