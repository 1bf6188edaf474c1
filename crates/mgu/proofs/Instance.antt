-- After unification a node spells an instance under a most general unifier, of the size found; renamed, it is the definition's. Assumes nothing.
-- Read first: specs/Result (Solved), proofs/Verdict, naming/proofs/Renaming.
use mathlib.Core.Path.{◌≡◌, sym, ap, subst, ◌∙◌}
use mathlib.Core.Option.{some}
use mathlib.Core.List.{List, [], ◌++◌, append-nil}
use Prim.Native.Nat.{ℕ, ◌≤◌, ◌<◌}
use native.Mathlib.Omega.{arith}
use Rattle.terms.specs.Term.{Term, Terms, nil, cons, size, subst_term, subst_terms, variables, variables_of, term_bytes, terms_bytes}
use Rattle.classes.specs.Arena.{Arena, Spells, free, made, SpellsAll, none, more, same}
use Rattle.classes.specs.Steps.{at, arena}
use Rattle.mgu.specs.Result.{Solved}
use Rattle.classes.specs.Unique.{spells_within}
use Rattle.mgu.proofs.Verdict.{the_mgu, solved_spells, solved_image, solved_renames}
use Rattle.sizing.specs.Sizes.{cap}
use Rattle.sizing.proofs.Sizing.{known_size}
use Rattle.naming.specs.Names.{renamed_bytes}
use Rattle.naming.proofs.Renaming.{Low, Lows, renamed_terms}
use Rattle.unify.specs.Unify.{Binding, mgu, under}
use Rattle.terms.proofs.Rename.{rename, renames, numbered}

-- symbols are below 128
mutual
  unfolding Low Lows

  spells_low : {A : Arena} {c : ℕ → ℕ} {i : ℕ} {t : Term} → Spells A c i t → Low t
  spells_low (free h e) = tt
  spells_low (made h e l r) = (l, spells_lows r)

  pub spells_lows : {A : Arena} {c : ℕ → ℕ} {p k : ℕ} {ts : Terms} → SpellsAll A c p k ts → Lows ts
  spells_lows none = tt
  spells_lows (more r s) = (spells_low r, spells_lows s)

module _ (l tab : List ℕ) (n₁ n₂ : ℕ) (ends cs zs : List ℕ) (k : Solved l tab n₁ n₂ ends cs zs) (i : ℕ) (t : Term)
    (p : Spells (arena l tab ends) same i t) where
  abbrev the_instance : Term
  the_instance = subst_term (the_mgu l tab n₁ n₂ ends cs zs k) t

  pub spells_instance : Spells (arena l tab ends) (at cs) i the_instance
  spells_instance =
      let w = solved_spells l tab n₁ n₂ ends cs zs k i (spells_within (arena l tab ends) p) in
      subst (λ u. Spells (arena l tab ends) (at cs) i u) (sym (solved_image l tab n₁ n₂ ends cs zs k i t w.0 p w.1)) w.1

  spells_alone : SpellsAll (arena l tab ends) (at cs) i 1 (cons the_instance nil)
  spells_alone = more spells_instance none

  found_size : at zs i ≡ cap (size the_instance)
  found_size = known_size l tab ends cs zs k.sized k.known i the_instance spells_instance

  -- a size of at most 120 is the size
  pub small_size : at zs i ≤ 120 → at zs i ≡ size the_instance
  small_size h = omega (arith, found_size)

  -- and one above is above
  pub large_size : 120 < at zs i → 120 < size the_instance
  large_size h = omega (arith, found_size)

  -- numbered, it is the instance under the unifier that the definition finds, renamed
  pub instance_renamed : (s t' : Term) → Spells (arena l tab ends) same n₁ s → Spells (arena l tab ends) same n₂ t' → (b : List Binding) → mgu s t' ≡ some b →
      renamed_bytes (term_bytes the_instance) ≡ term_bytes (rename (under b t))
  unfolding renames rename terms_bytes variables_of subst_terms Low
  instance_renamed s t' q q' b e =
      ap renamed_bytes (sym (append-nil (term_bytes the_instance)))
      ∙ renamed_terms (cons the_instance nil) (spells_lows spells_alone)
      ∙ append-nil (term_bytes (subst_term (numbered (variables the_instance ++ [])) the_instance))
      ∙ ap (λ x. term_bytes (subst_term (numbered x) the_instance)) (append-nil (variables the_instance))
      ∙ ap term_bytes (sym (solved_renames l tab n₁ n₂ ends cs zs k s t' q q' b e t))
