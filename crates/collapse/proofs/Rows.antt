-- The slots of a state in rows: one for each rule, then one for each pair that waits. Assumes nothing.
-- Read first: specs/Rows (as_removed, held), inputs/specs/Inputs (marked), items/specs/Written (row).
use mathlib.Core.Path.{◌≡◌, refl, ap, ◌∙◌, subst}
use mathlib.Core.List.{List, [], ◌∷◌, ◌++◌, map}
use Prim.Native.Nat.{ℕ, ◌+◌}
use native.Mathlib.Omega.{arith}
use lib.ListN.{length, length-append, length-map}
use Rattle.rewriting.specs.Overlap.{Rule}
use Rattle.slots.specs.Slots.{Marked, MarkedAt, Holds}
use Rattle.slots.proofs.Listing.{all_split, all_first}
use Rattle.completion.specs.Turn.{Candidate}
use Rattle.completion.specs.Calls.{origin_bytes}
use Rattle.items.specs.Written.{row}
use Rattle.inputs.specs.Inputs.{marked}
use Rattle.collapse.specs.Rows.{as_removed, held}

pub held_rows : (rs : List Rule) (cs : List Candidate) → map marked (held rs cs) ≡ map row rs ++ map marked cs
unfolding as_removed origin_bytes
held_rows [] cs = refl
held_rows (r ∷ rs) cs = ap (λ z. row r ∷ z) (held_rows rs cs)

-- with one rule more
pub held_more : (rs : List Rule) (x : Rule) (cs : List Candidate) → map marked (held (rs ++ (x ∷ [])) cs) ≡ map row rs ++ (row x ∷ map marked cs)
unfolding as_removed origin_bytes
held_more [] x cs = refl
held_more (r ∷ rs) x cs = ap (λ z. row r ∷ z) (held_more rs x cs)

pub length_held : (rs : List Rule) (cs : List Candidate) → length (held rs cs) ≡ length rs + length cs
length_held rs cs = length-append (map as_removed rs) cs ∙ ap (λ z. z + length cs) (length-map rs as_removed)

pub length_rows : (rs : List Rule) → length (map row rs) ≡ length rs
length_rows rs = length-map rs row

pub length_marked : (cs : List Candidate) → length (map marked cs) ≡ length cs
length_marked cs = length-map cs marked

-- what stands behind xs
pub row_at : (tab slots : List ℕ) (k : ℕ) (xs : List Marked) (m : Marked) (ys : List Marked) → Holds tab slots 0 (xs ++ (m ∷ ys)) →
    length xs ≡ k → MarkedAt tab slots k m
row_at tab slots k xs m ys h e =
    let p = all_first (MarkedAt tab slots) (0 + length xs) m ys (all_split (MarkedAt tab slots) 0 xs (m ∷ ys) h).1 in
    let z : 0 + length xs ≡ k = omega arith in
    subst (λ i. MarkedAt tab slots i m) z p
