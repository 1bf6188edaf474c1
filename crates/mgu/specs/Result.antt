-- What unification is given, begins with and leaves behind. Assumes nothing.
use Rattle.std.specs.Prelude.{◌≡◌, Bool, true, false, List, ◌∷◌, ◌++◌, ℕ, ◌+◌, ◌-◌, ◌<◌, ◌≤◌, length, drop, Option, Some, None}
use Rattle.std.proofs.Math.Option.{some}
use Rattle.limits.specs.Limits.{most_apart, byte_values, first_variable, variable_bytes}
use Rattle.terms.specs.Base.{is_some}
use Rattle.terms.specs.Term.{Term, Terms, term_bytes, terms_bytes, subterm_in, count}
use Rattle.terms.specs.Scan.{skip}
use Rattle.terms.specs.Flat.{Wf, Wfs}
use Rattle.unify.specs.Unify.{mgu}
use Rattle.classes.specs.Arena.{Classes, AllClosed}
use Rattle.classes.specs.Steps.{at, Each, arena, Ready}
use Rattle.sizing.specs.Sizes.{Sized, SizesKnown}

-- the arena holds the terms ts, one after the other
pub record Laid (l tab : List ℕ) (ts : Terms) : Type 0 where
  pub wf : Wfs variable_bytes tab ts
  pub bytes : l ≡ terms_bytes ts

abbrev pub LaidOut : List ℕ → List ℕ → Type 0
LaidOut l tab = (ts : Terms) × Laid l tab ts

-- b and the bytes of `have` terms are those of r terms
pub record Begins (tab : List ℕ) (b have r : ℕ) : Type 0 where
  pub most : r ≤ have + 1
  pub more : (ts : Terms) → Wfs most_apart tab ts → count ts ≡ have →
      (us : Terms) × Wfs most_apart tab us × (count us ≡ r) × (b ∷ terms_bytes ts ≡ terms_bytes us)

-- b and the bytes of `have` terms are those of so many terms, or can begin none
abbrev pub Formed : List ℕ → ℕ → ℕ → Option ℕ → Type 0
Formed tab b have (Some r) = Begins tab b have r
Formed tab b have None = (ts : Terms) → Wfs most_apart tab ts → count ts ≡ have → (u : Term) (rest : List ℕ) → Wf most_apart tab u →
    b ∷ terms_bytes ts ≡ term_bytes u ++ rest → ⊥

-- whether the bytes are those of terms with variables below `most_apart`
pub record IsTerms (l tab : List ℕ) (r : Bool) : Type 0 where
  pub sound : r ≡ true → (ts : Terms) × (Wfs most_apart tab ts × (l ≡ terms_bytes ts))
  pub complete : (ts : Terms) → Wfs most_apart tab ts → l ≡ terms_bytes ts → r ≡ true

abbrev pub EndAt : List ℕ → List ℕ → ℕ → ℕ → Type 0
EndAt l tab i e = e ≡ i + skip tab (drop i l) 1

-- the ends of the nodes from p on are known
pub record EndsFrom (l tab ends : List ℕ) (p : ℕ) : Type 0 where
  pub each : (i : ℕ) → p ≤ i → i < length l → EndAt l tab i (at ends i)

-- r is the first node with the byte of node i
pub record FirstLike (l : List ℕ) (i r : ℕ) : Type 0 where
  pub within : r ≤ i
  pub alike : at l r ≡ at l i
  pub first : (j : ℕ) → j < r → at l j ≡ at l i → ⊥

pub record FirstClass (l : List ℕ) (i r : ℕ) : Type 0 where
  pub symbol : at l i < first_variable → r ≡ i
  pub variable : first_variable ≤ at l i → FirstLike l i r

-- the entries of a table, for each variable's byte b: 0 where no node below i has it, else one more than the first that has
pub record Firsts (l firsts : List ℕ) (i : ℕ) : Type 0 where
  pub long : length firsts ≡ byte_values
  pub none : (b : ℕ) → first_variable ≤ b → b < byte_values → at firsts b ≡ 0 → (j : ℕ) → j < i → at l j ≡ b → ⊥
  pub some : (b : ℕ) → first_variable ≤ b → (at firsts b ≡ 0 → ⊥) →
      (at firsts b ≤ i) × (at l (at firsts b - 1) ≡ b) × ((j : ℕ) → j + 1 < at firsts b → at l j ≡ b → ⊥)

-- the classes when the terms at nodes n₁ and n₂ have been joined
pub record Joined (l tab : List ℕ) (n₁ n₂ : ℕ) (ends cs : List ℕ) : Type 0 where
  pub ended : Each (EndAt l tab) ends (length l)
  pub ready : Ready l tab ends cs
  pub classes : Classes (arena l tab ends) n₁ n₂ (at cs)
  pub started : at cs n₁ ≡ at cs n₂

-- the terms at nodes n₁ and n₂ are unified
pub record Solved (l tab : List ℕ) (n₁ n₂ : ℕ) (ends cs zs : List ℕ) : Type 0 where
  pub ended : Each (EndAt l tab) ends (length l)
  pub sized : Sized l tab ends cs zs
  pub classes : Classes (arena l tab ends) n₁ n₂ (at cs)
  pub closed : AllClosed (arena l tab ends) (at cs)
  pub started : at cs n₁ ≡ at cs n₂
  pub known : SizesKnown (arena l tab ends) (at zs) true

abbrev pub SolvedIf : List ℕ → List ℕ → ℕ → ℕ → List ℕ → List ℕ → List ℕ → Bool → Type 0
SolvedIf l tab n₁ n₂ ends cs zs true = Solved l tab n₁ n₂ ends cs zs
SolvedIf l tab n₁ n₂ ends cs zs false = Unit {0}

-- the answer is whether the terms at n₁ and n₂ have a unifier
abbrev pub Decided : List ℕ → List ℕ → ℕ → ℕ → Bool → Type 0
Decided l tab n₁ n₂ r = (ts : Terms) → Laid l tab ts → (s t : Term) → subterm_in ts n₁ ≡ some s → subterm_in ts n₂ ≡ some t → r ≡ is_some (mgu s t)
