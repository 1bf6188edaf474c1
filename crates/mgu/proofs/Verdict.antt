-- The answer of unification, and what it leaves: the classes give a most general unifier, whose instances are the definition's up to renaming. Assumes
-- nothing.
-- Read first: specs/Result (Solved, Decided), unify/proofs/Unique, classes/proofs/Solution, proofs/Starting.
use mathlib.Core.Path.{◌≡◌, refl, sym, ap, subst, ◌∙◌}
use mathlib.Core.Bool.{Bool, true, false}
use mathlib.Core.Option.{Option, none, some}
use mathlib.Core.List.{List}
use Prim.Native.Nat.{ℕ, ◌<◌}
use lib.ListN.{length}
use Rattle.terms.specs.Base.{is_some}
use Rattle.terms.specs.Term.{Term, size, subst_term, Pair, renamed}
use Rattle.terms.proofs.Subst.{Subst}
use Rattle.terms.proofs.Limits.{size_vars}
use Rattle.terms.proofs.Rename.{rename}
use Rattle.unify.specs.Unify.{Binding, mgu, under}
use Rattle.classes.specs.Arena.{Arena, Spells, same, Never, Descends}
use Rattle.classes.specs.Steps.{at, Each, arena, ClosedTo}
use Rattle.sizing.specs.Sizes.{Sized, Unknown, SizesKnown, SizedTo}
use Rattle.mgu.specs.Result.{EndAt, Joined, Solved, SolvedIf, Decided}
use Rattle.unify.proofs.Correct.{Mgu, unifier, mgu_right, mgu_none}
use Rattle.unify.proofs.Unique.{most_general, mgu_unique, mgu_unique_pair}
use Rattle.classes.proofs.Solution.{unifies_joins, solution, solution_mgu, image, never_circle}
use Rattle.mgu.proofs.Starting.{laid_at}

never_none : (A : Arena) (n₁ n₂ : ℕ) (s t : Term) → Spells A same n₁ s → Spells A same n₂ t → Never A n₁ n₂ → (o : Option (List Binding)) → mgu s t ≡ o →
    false ≡ is_some o
unfolding is_some
never_none A n₁ n₂ s t p q n none e = refl
never_none A n₁ n₂ s t p q n (some b) e = absurd (n (unifier b) (unifies_joins A (unifier b) n₁ n₂ s t p q (mgu_right s t b e).unifies))

never_decided : (l tab : List ℕ) (n₁ n₂ : ℕ) (ends : List ℕ) → Each (EndAt l tab) ends (length l) → Never (arena l tab ends) n₁ n₂ → Decided l tab n₁ n₂ false
never_decided l tab n₁ n₂ ends f n ts d s t p q =
    never_none (arena l tab ends) n₁ n₂ s t (laid_at l tab ends f ts d n₁ s p) (laid_at l tab ends f ts d n₂ t q) n (mgu s t) refl

-- a renamed term has the size of the term
size_rename : (t : Term) → size (rename t) ≡ size t
unfolding rename
size_rename t = size_vars _ t

-- every node stands for a term
pub solved_spells : (l tab : List ℕ) (n₁ n₂ : ℕ) (ends cs zs : List ℕ) → Solved l tab n₁ n₂ ends cs zs → (i : ℕ) → i < length l →
    (u : Term) × Spells (arena l tab ends) (at cs) i u
solved_spells l tab n₁ n₂ ends cs zs k i h = let w = k.sized.measured i h (k.known i h) in (w.0, w.1)

module _ (l tab : List ℕ) (n₁ n₂ : ℕ) (ends cs zs : List ℕ) (k : Solved l tab n₁ n₂ ends cs zs) where
  pub the_mgu : Subst
  the_mgu = solution (arena l tab ends) n₁ n₂ (at cs) k.sized.ready.whole k.classes k.closed (solved_spells l tab n₁ n₂ ends cs zs k)

  -- what a node stands for is the instance of its term
  pub solved_image : (i : ℕ) (t u : Term) → Spells (arena l tab ends) same i t → Spells (arena l tab ends) (at cs) i u → subst_term the_mgu t ≡ u
  unfolding the_mgu
  solved_image i t u p q = image (arena l tab ends) n₁ n₂ (at cs) k.sized.ready.whole k.classes k.closed (solved_spells l tab n₁ n₂ ends cs zs k) p q

  module _ (s t : Term) (p : Spells (arena l tab ends) same n₁ s) (q : Spells (arena l tab ends) same n₂ t) where
    solved_mgu : Mgu s t the_mgu
    unfolding the_mgu
    solved_mgu =
        solution_mgu (arena l tab ends) n₁ n₂ (at cs) k.sized.ready.whole k.classes k.closed (solved_spells l tab n₁ n₂ ends cs zs k) s t p q
        k.started

    some_there : (o : Option (List Binding)) → mgu s t ≡ o → true ≡ is_some o
    unfolding is_some
    some_there none e = absurd (mgu_none s t e the_mgu solved_mgu.unifies)
    some_there (some b) e = refl

    -- after renaming, an instance is that of the unifier that the definition finds
    pub solved_renames : (b : List Binding) → mgu s t ≡ some b → (w : Term) → rename (under b w) ≡ rename (subst_term the_mgu w)
    solved_renames b e w = mgu_unique s t b the_mgu e (most_general solved_mgu) w

    -- so their sizes are the same
    pub solved_sizes : (b : List Binding) → mgu s t ≡ some b → (w : Term) → size (under b w) ≡ size (subst_term the_mgu w)
    solved_sizes b e w = sym (size_rename (under b w)) ∙ ap size (solved_renames b e w) ∙ size_rename (subst_term the_mgu w)

    -- and so is a pair of instances
    pub solved_renamed : (b : List Binding) → mgu s t ≡ some b → (e : Pair) →
        renamed (record { left = under b e.left; right = under b e.right })
        ≡ renamed (record { left = subst_term the_mgu e.left; right = subst_term the_mgu e.right })
    solved_renamed b e w = mgu_unique_pair s t b the_mgu e (most_general solved_mgu) w

pub solved_decided : (l tab : List ℕ) (n₁ n₂ : ℕ) (ends cs zs : List ℕ) → Solved l tab n₁ n₂ ends cs zs → Decided l tab n₁ n₂ true
solved_decided l tab n₁ n₂ ends cs zs k ts d s t p q =
    some_there l tab n₁ n₂ ends cs zs k s t (laid_at l tab ends k.ended ts d n₁ s p) (laid_at l tab ends k.ended ts d n₂ t q) (mgu s t) refl

pub outcome_solved : (l tab : List ℕ) (n₁ n₂ : ℕ) (ends cs zs : List ℕ) (r : Bool) → SolvedIf l tab n₁ n₂ ends cs zs r → r ≡ true →
    Solved l tab n₁ n₂ ends cs zs
outcome_solved l tab n₁ n₂ ends cs zs r o e = subst (λ k. SolvedIf l tab n₁ n₂ ends cs zs k) e o

module _ (l tab : List ℕ) (n₁ n₂ : ℕ) (h : n₁ < length l) (h' : n₂ < length l) (ends cs : List ℕ) (g : Joined l tab n₁ n₂ ends cs) (ds : List ℕ) where
  pub begun_never : (zs : List ℕ) (r : Bool) → ClosedTo (arena l tab ends) (at cs) (at ds) r → r ≡ false →
      Decided l tab n₁ n₂ false × SolvedIf l tab n₁ n₂ ends ds zs false
  begun_never zs r n e = (never (subst (λ x. ClosedTo (arena l tab ends) (at cs) (at ds) x) e n), tt)
    where
      never : ClosedTo (arena l tab ends) (at cs) (at ds) false → Decided l tab n₁ n₂ false
      never n = never_decided l tab n₁ n₂ ends g.ended (n n₁ n₂ g.classes)

  module _ (u : ClosedTo (arena l tab ends) (at cs) (at ds) true) (zs : List ℕ) (y : Sized l tab ends ds zs)
      (q : Descends (arena l tab ends) (at ds) (Unknown (at zs))) where
    begun_solved : SizesKnown (arena l tab ends) (at zs) true → Solved l tab n₁ n₂ ends ds zs
    begun_solved w =
        record {
          ended = g.ended;
          sized = y;
          classes = u.0.classes n₁ n₂ g.classes;
          closed = u.1;
          started = u.0.keeps n₁ n₂ h h' g.started;
          known = w;
        }

    circle : SizesKnown (arena l tab ends) (at zs) false → Never (arena l tab ends) n₁ n₂
    circle (i, b, e) = never_circle (arena l tab ends) n₁ n₂ (at ds) y.ready.whole (u.0.classes n₁ n₂ g.classes) (Unknown (at zs)) q i b e

    begun_outcome : (r : Bool) → SizesKnown (arena l tab ends) (at zs) r → Decided l tab n₁ n₂ r × SolvedIf l tab n₁ n₂ ends ds zs r
    begun_outcome true w = let k = begun_solved w in (solved_decided l tab n₁ n₂ ends ds zs k, k)
    begun_outcome false w = (never_decided l tab n₁ n₂ ends g.ended (circle w), tt)

  -- from what the calls answer
  pub begun_answer : (b : Bool) → ClosedTo (arena l tab ends) (at cs) (at ds) b → b ≡ true → (zs : List ℕ) (r : Bool) → SizedTo l tab ends ds zs r →
      Decided l tab n₁ n₂ r × SolvedIf l tab n₁ n₂ ends ds zs r
  begun_answer b u e zs r w = begun_outcome (subst (λ x. ClosedTo (arena l tab ends) (at cs) (at ds) x) e u) zs w.sized w.descends r w.known
