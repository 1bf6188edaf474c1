-- A term in cells some of which have no size: a subterm whose cell has one is normal, and needs no visit. Assumes nothing.
-- Read first: matching/specs/Cells, rewriting/specs/Rewrite (step).
use Rattle.std.specs.Prelude.{◌≡◌, List, [], ◌∷◌, ◌++◌, ℕ, ◌+◌}
use Rattle.std.proofs.Math.Option.{none}
use Rattle.limits.specs.Limits.{first_variable}
use Rattle.terms.specs.Term.{Term, Terms, var, node, nil, cons}
use Rattle.rewriting.specs.Overlap.{Rule}
use Rattle.rewriting.specs.Rewrite.{step, step_in}
use Rattle.matching.specs.Cells.{cells, root_byte, cells_below}

mutual
  pub data Marked (rs : List Rule) : List ℕ → Term → Type 0 where
    leaf : {l : List ℕ} {y : ℕ} → l ≡ (first_variable + y) ∷ [] → Marked rs l (var y)
    visit : {l m : List ℕ} {f : ℕ} {ts : Terms} → l ≡ f ∷ m → MarkedAll rs m ts → Marked rs l (node f ts)
    leave : {l : List ℕ} {x : Term} → l ≡ cells x → step rs x ≡ none → Marked rs l x

  pub data MarkedAll (rs : List Rule) : List ℕ → Terms → Type 0 where
    no_more : {l : List ℕ} → l ≡ [] → MarkedAll rs l nil
    more : {l a b : List ℕ} {t : Term} {ts : Terms} → l ≡ a ++ b → Marked rs a t → MarkedAll rs b ts → MarkedAll rs l (cons t ts)

-- a term's arguments are normal
abbrev pub ArgumentsNormal : List Rule → Term → Type 0
ArgumentsNormal rs (var y) = Unit {0}
ArgumentsNormal rs (node f ts) = step_in rs ts ≡ none

-- the cells of a term whose arguments, and no more, are known to be normal
unfoldable pub open_cells : Term → List ℕ
open_cells x = root_byte x ∷ cells_below x
