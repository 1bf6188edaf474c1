-- Origins in the bytes of a saved record: when six bytes are one, which one they are, and what is copied of them. Assumes nothing.
-- Read first: specs/Candidates (origin_test, origin_copy), checkpoint/specs/Checkpoint (read_origin).
use mathlib.Core.Path.{◌≡◌, refl, ap, sym, ◌∙◌}
use mathlib.Core.Bool.{Bool, true, false, true≢false, ◌&&◌, ◌||◌}
use mathlib.Core.List.{List, [], ◌∷◌, ◌++◌}
use Prim.Native.Nat.{ℕ, zero, suc, ◌+◌, ◌<◌, ◌≤◌}
use native.Mathlib.Nat.{add-zero}
use native.Mathlib.Omega.{arith}
use lib.Dec.{eqb, leb}
use lib.ListN.{take, drop, get_or}
use lib.Seq.{get_or-take, get_or-drop, take-take, drop-drop}
use borrow.Author.Tests.{le-leb, lt-leb, ne_eqb, eqb-true}
use Rattle.std.specs.Prelude.{if◌then◌else◌}
use Rattle.terms.specs.Base.{number_bytes, number_from}
use Rattle.terms.proofs.Lists.{take_drop}
use Rattle.fields.specs.Puts.{patched}
use Rattle.reading.specs.Answers.{between}
use Rattle.problem.specs.Problem.{ok, ◌>>=◌}
use Rattle.completion.specs.Turn.{Origin}
use Rattle.completion.specs.Calls.{origin_bytes}
use Rattle.items.specs.Fields.{demand}
use Rattle.items.specs.Readers.{Unread}
use Rattle.items.proofs.OneField.{demand_kept, demand_broken}
use Rattle.checkpoint.specs.Checkpoint.{origin_with, read_origin}
use Rattle.candidates.specs.Candidates.{second_in, origin_test, origin_copy}

-- An origin that is read has the bytes that it is read from.
abbrev of_numbers : ℕ → ℕ → ℕ → ℕ → List ℕ
of_numbers kind first second position = kind ∷ (number_bytes 2 first ++ number_bytes 2 second ++ number_bytes 1 position)

abbrev test : ℕ → ℕ → ℕ → Bool
test kind second position = leb 1 kind && leb kind 4 && (eqb kind 4 || eqb (second + position) 0)

both_zero : (second position : ℕ) → eqb (second + position) 0 ≡ true → (second ≡ 0) × (position ≡ 0)
both_zero second position h = let s = eqb-true (second + position) 0 h in (omega arith, omega arith)

copied : (kind first second position : ℕ) → test kind second position ≡ true →
    origin_bytes (origin_with kind first second position) ≡ of_numbers kind first second position
unfolding origin_with origin_bytes
copied zero first second position h = absurd (true≢false (sym h))
copied (suc zero) first second position h = let z = both_zero second position h in rw (z.0, z.1) refl
copied (suc (suc zero)) first second position h = let z = both_zero second position h in rw (z.0, z.1) refl
copied (suc (suc (suc zero))) first second position h = let z = both_zero second position h in rw (z.0, z.1) refl
copied (suc (suc (suc (suc zero)))) first second position h = refl
copied (suc (suc (suc (suc (suc k))))) first second position h =
    let z : leb (suc (suc (suc (suc (suc k))))) 4 ≡ false = lt-leb (suc (suc (suc (suc (suc k))))) 4 (omega arith) in
    let y : leb 1 (suc (suc (suc (suc (suc k))))) ≡ true = le-leb 1 (suc (suc (suc (suc (suc k))))) (omega arith) in
    absurd (true≢false (sym h ∙ rw (y, z) refl))

-- the origin in the first six bytes
abbrev pub origin_in : List ℕ → Origin
origin_in m = origin_with (get_or m 0 0) (number_from 0 (take 2 (drop 1 m))) (second_in m) (get_or m 5 0)

origin_is : (m : List ℕ) → read_origin m ≡ (demand (origin_test m) >>= λ _. ok (origin_in m))
unfolding read_origin origin_test second_in
origin_is m = refl

-- The six bytes from a place on, in a field that ends at e: they are those that stand there.
module _ (l : List ℕ) (at e : ℕ) where
  byte_there : (k : ℕ) → at + k < e → get_or (between l at e) k 0 ≡ get_or (drop at l) k 0
  byte_there k h = get_or-drop at (take e l) k 0 ∙ get_or-take e l (at + k) 0 h ∙ sym (get_or-drop at l k 0)

  two_there : (k : ℕ) → at + k + 2 ≤ e → take 2 (drop k (between l at e)) ≡ take 2 (drop k (drop at l))
  two_there k h =
      ap (take 2) (drop-drop k at (take e l))
      ∙ take_drop (at + k) 2 (take e l)
      ∙ ap (drop (at + k)) (take-take (at + k + 2) e l h)
      ∙ sym (take_drop (at + k) 2 l)
      ∙ ap (take 2) (sym (drop-drop k at l))

  module _ (h : at + 6 ≤ e) where
    test_there : origin_test (between l at e) ≡ origin_test (drop at l)
    unfolding origin_test second_in
    test_there = rw (byte_there 0 (omega arith), byte_there 5 (omega arith), two_there 3 (omega arith)) refl

    copy_there : origin_copy (between l at e) ≡ origin_copy (drop at l)
    unfolding origin_copy second_in
    copy_there = rw (byte_there 0 (omega arith), byte_there 5 (omega arith), two_there 1 (omega arith), two_there 3 (omega arith)) refl

    pub origin_unread : origin_test (drop at l) ≡ false → Unread (read_origin (between l at e))
    origin_unread t = rw (origin_is (between l at e)) (demand_broken _ (test_there ∙ t))

    pub origin_read : origin_test (drop at l) ≡ true → read_origin (between l at e) ≡ ok (origin_in (between l at e))
    origin_read t = origin_is (between l at e) ∙ demand_kept _ (test_there ∙ t)

    pub origin_copied : origin_test (drop at l) ≡ true → origin_bytes (origin_in (between l at e)) ≡ origin_copy (drop at l)
    unfolding origin_test origin_copy
    origin_copied t = copied _ _ (second_in (between l at e)) _ (test_there ∙ t) ∙ copy_there

-- the kind, a number, and the position, of the bytes from a place on
module _ (l : List ℕ) (at : ℕ) where
  kind_at : (kind : ℕ) → kind ≡ get_or l at 0 → get_or (drop at l) 0 0 ≡ kind
  kind_at kind k = get_or-drop at l 0 0 ∙ ap (λ i. get_or l i 0) (add-zero at) ∙ sym k

  pub number_at : (k n : ℕ) → n ≡ number_from 0 (take 2 (drop (at + k) l)) → number_from 0 (take 2 (drop k (drop at l))) ≡ n
  number_at k n e = ap (λ m. number_from 0 (take 2 m)) (drop-drop k at l) ∙ sym e

  position_at : (position : ℕ) → position ≡ get_or l (at + 5) 0 → get_or (drop at l) 5 0 ≡ position
  position_at position p = get_or-drop at l 5 0 ∙ sym p

-- `is_origin`: what the kind says, and where it is 1 to 3 the second number and the position
module _ (l : List ℕ) (at kind : ℕ) (k : kind ≡ get_or l at 0) where
  pub kind_none : kind ≡ 0 → false ≡ origin_test (drop at l)
  unfolding origin_test
  kind_none h = rw (kind_at l at kind k, lt-leb 1 kind (omega arith)) refl

  pub kind_large : 4 < kind → false ≡ origin_test (drop at l)
  unfolding origin_test
  kind_large h = rw (kind_at l at kind k, le-leb 1 kind (omega arith), lt-leb kind 4 h) refl

  pub kind_overlap : kind ≡ 4 → true ≡ origin_test (drop at l)
  unfolding origin_test
  kind_overlap h = rw (kind_at l at kind k, h) refl

  pub kind_other : (kind ≡ 0 → ⊥) → kind ≤ 4 → (kind ≡ 4 → ⊥) → (second : ℕ) → second ≡ number_from 0 (take 2 (drop (at + 3) l)) → (position : ℕ) →
      position ≡ get_or l (at + 5) 0 → eqb (second + position) 0 ≡ origin_test (drop at l)
  unfolding origin_test second_in
  kind_other z few n second s position p =
      let a = number_at l at 3 second s in
      let b = position_at l at position p in
      rw (kind_at l at kind k, le-leb 1 kind (omega (arith, z)), le-leb kind 4 few, ne_eqb kind 4 n, a, b) refl

-- `origin_at`: the kind, then the numbers one behind the other
pub origin_put : (l : List ℕ) (at kind first second position : ℕ) → kind ≡ get_or l at 0 → first ≡ number_from 0 (take 2 (drop (at + 1) l)) →
    second ≡ number_from 0 (take 2 (drop (at + 3) l)) → position ≡ get_or l (at + 5) 0 → (m₀ m₁ m₂ m₃ : List ℕ) →
    m₀ ≡ kind ∷ 0 ∷ 0 ∷ 0 ∷ 0 ∷ 0 ∷ [] → m₁ ≡ patched 1 (number_bytes 2 first) m₀ → m₂ ≡ patched 3 (number_bytes 2 second) m₁ →
    m₃ ≡ patched 5 (number_bytes 1 position) m₂ → m₃ ≡ origin_copy (drop at l)
unfolding patched number_bytes origin_copy second_in
origin_put l at kind first second position k f s p m₀ m₁ m₂ m₃ e₀ e₁ e₂ e₃ =
    let a = number_at l at 1 first f in
    let b = number_at l at 3 second s in
    let d = position_at l at position p in
    rw (e₃, e₂, e₁, e₀, kind_at l at kind k, a, b, d) refl
