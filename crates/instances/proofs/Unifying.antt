-- Two sides one behind the other are an arena; its classes give the definition's common instance up to renaming. Assumes nothing. A lemma for each
-- return of `common_instance`.
-- Read first: specs/Common (SidesUnify, Gives), mgu/proofs/Instance.
use mathlib.Core.Path.{◌≡◌, refl, ap, sym, ◌∙◌}
use mathlib.Core.Bool.{Bool, true, false}
use mathlib.Core.List.{List, ◌++◌, append-nil}
use mathlib.Core.Option.{none, some}
use Prim.Native.Nat.{ℕ, ◌+◌, ◌<◌, ◌≤◌}
use native.Mathlib.Omega.{arith}
use lib.ListN.{length, length-append}
use borrow.Author.Tests.{lt-ltb, le-ltb}
use Rattle.limits.specs.Limits.{most_nodes, most_pair}
use Rattle.terms.specs.Base.{is_some, field_bytes}
use Rattle.terms.specs.Term.{Term, nil, cons, size, term_bytes, terms_bytes, subterm_in, subst_term}
use Rattle.terms.specs.Flat.{Wf}
use Rattle.terms.proofs.Bytes.{length_bytes}
use Rattle.terms.proofs.Places.{size_pos}
use Rattle.terms.proofs.Rename.{renamed_twice}
use Rattle.terms.proofs.Shape.{not_some, some_of}
use Rattle.unify.specs.Unify.{Binding, mgu, under}
use Rattle.classes.specs.Arena.{Spells, same}
use Rattle.classes.specs.Steps.{at, arena}
use Rattle.mgu.specs.Result.{Laid, LaidOut, Decided, SolvedIf, Solved}
use Rattle.mgu.proofs.Starting.{laid_at}
use Rattle.mgu.proofs.Verdict.{the_mgu, solved_image, solved_sizes}
use Rattle.mgu.proofs.Instance.{small_size, large_size, instance_renamed}
use Rattle.terms.proofs.Positions.{in_head, in_later}
use Rattle.completion.specs.Calls.{instance, instance_too_large, unified, after_unify}
use Rattle.instances.specs.Common.{found_of, SidesOf, TwoSides, SidesUnify, instance_field, Spelt, WritesSpelt}
use Rattle.instances.specs.declared.Found.TheVariants.{Instance, Nothing, TooLarge}

-- the two sides as an arena
module _ (l tab : List ℕ) (s t : Term) (k : SidesOf l tab s t) where
  pub sides_laid : Laid l tab (cons s (cons t nil))
  unfolding terms_bytes Wf
  sides_laid = record { wf = (k.left, (k.right, tt)); bytes = k.bytes ∙ ap (λ (x : List ℕ). term_bytes s ++ x) (sym (append-nil (term_bytes t))) }

  pub first_side : subterm_in (cons s (cons t nil)) 0 ≡ some s
  first_side = in_head s (cons t nil) 0 refl

  pub second_side : subterm_in (cons s (cons t nil)) (size s) ≡ some t
  second_side = in_later s (cons t nil) (size s) 0 (omega arith) ∙ in_head t nil 0 refl

  pub sides_length : length l ≡ size s + size t
  sides_length = omega (arith, ap length k.bytes, length-append (term_bytes s) (term_bytes t), length_bytes s, length_bytes t)

  pub sides_spell : (b : ℕ) (ends cs zs : List ℕ) → Solved l tab 0 b ends cs zs → b ≡ size s →
      Spells (arena l tab ends) same 0 s × Spells (arena l tab ends) same b t
  sides_spell b ends cs zs h e = (
    laid_at l tab ends h.ended (cons s (cons t nil)) sides_laid 0 s first_side,
    laid_at l tab ends h.ended (cons s (cons t nil)) sides_laid b t (ap (subterm_in (cons s (cons t nil))) e ∙ second_side),
  )

  pub sides_decide : (b : ℕ) (r : Bool) → Decided l tab 0 b r → b ≡ size s → r ≡ is_some (mgu s t)
  sides_decide b r h e = h (cons s (cons t nil)) sides_laid s t first_side (ap (subterm_in (cons s (cons t nil))) e ∙ second_side)

-- `common_instance` asks `unify`
pub unify_asks : (l tab : List ℕ) (b : ℕ) → TwoSides l tab b →
    ((length l ≤ 600) × (length l ≤ most_pair) × (length l ≤ most_pair) × (length l ≤ most_pair)) × (LaidOut l tab × (0 < length l) × (b < length l))
unify_asks l tab b k =
    let n = sides_length l tab k.s k.t k.sides in
    let p = size_pos k.s in
    let q = size_pos k.t in
    let x = k.sides.small_left in
    let y = k.sides.small_right in (
      (omega arith, omega arith, omega arith, omega arith),
      ((cons k.s (cons k.t nil), sides_laid l tab k.s k.t k.sides), omega arith, omega (arith, k.begins)),
    )

-- no instance
pub answers_none : (l tab : List ℕ) (b : ℕ) (r : Bool) (d : List ℕ) → Decided l tab 0 b r → r ≡ false → SidesUnify l tab b Nothing d d
unfolding unified found_of after_unify
answers_none l tab b r d h z =
    record {
      unifies = λ s t k e.
          let n : mgu s t ≡ none = not_some (mgu s t) (sym z ∙ sides_decide l tab s t k b r h e) in
          rw n (record { answer = refl; leaves = refl });
    }

-- a common instance
module _ (l tab : List ℕ) (b : ℕ) (ends cs zs : List ℕ) (h : Solved l tab 0 b ends cs zs) where
  module _ (s t : Term) (k : SidesOf l tab s t) (e : b ≡ size s) (m : List Binding) (f : mgu s t ≡ some m) where
    abbrev found : Term
    found = subst_term (the_mgu l tab 0 b ends cs zs h) s

    spelt : Spells (arena l tab ends) same 0 s
    spelt = (sides_spell l tab s t k b ends cs zs h e).0

    sizes_agree : size (under m s) ≡ size found
    sizes_agree = solved_sizes l tab 0 b ends cs zs h s t spelt (sides_spell l tab s t k b ends cs zs h e).1 m f s

    large_found : most_nodes < at zs 0 → unified s (some m) ≡ instance_too_large
    unfolding unified
    large_found z = rw (lt-ltb most_nodes (size (under m s)) (omega (arith, sizes_agree, large_size l tab 0 b ends cs zs h 0 s spelt z))) refl

    field_found : at zs 0 ≤ most_nodes → unified s (some m) ≡ instance (instance_field found)
    unfolding unified instance_field
    field_found z =
        rw (le-ltb most_nodes (size (under m s)) (omega (arith, sizes_agree, small_size l tab 0 b ends cs zs h 0 s spelt z)))
        (ap (λ (x : List ℕ). instance (field_bytes (record { tag = 0x15; contents = x })))
        (ap term_bytes (renamed_twice (under m s))
        ∙ sym (instance_renamed l tab 0 b ends cs zs h 0 s spelt s t spelt (sides_spell l tab s t k b ends cs zs h e).1 m f)))

  module _ (r : Bool) (a : Decided l tab 0 b r) (y : r ≡ true) where
    the_found : (s t : Term) → SidesOf l tab s t → b ≡ size s → (m : List Binding) × (mgu s t ≡ some m)
    the_found s t k e = some_of (mgu s t) (sym y ∙ sides_decide l tab s t k b r a e)

    pub answers_large : most_nodes < at zs 0 → (d : List ℕ) → SidesUnify l tab b TooLarge d d
    unfolding found_of after_unify
    answers_large z d =
        record {
          unifies = λ s t k e.
              let (m, f) = the_found s t k e in
              let g : unified s (mgu s t) ≡ instance_too_large = ap (unified s) f ∙ large_found s t k e m f z in
              rw g (record { answer = refl; leaves = refl });
        }

    pub answers_instance : at zs 0 ≤ most_nodes → 0 < length l → (n : ℕ) (d d' : List ℕ) → WritesSpelt l tab ends cs n d d' →
        SidesUnify l tab b (Instance n) d d'
    unfolding found_of after_unify
    answers_instance z p n d d' w =
        record {
          unifies = λ s t k e.
              let (m, f) = the_found s t k e in
              let (u, q, _) = h.sized.measured 0 p (h.known 0 p) in
              let i : found s t k e m f ≡ u = solved_image l tab 0 b ends cs zs h 0 s u (spelt s t k e m f) q in
              let g : unified s (mgu s t) ≡ instance (instance_field u) =
              ap (unified s) f ∙ field_found s t k e m f z ∙ ap (λ (x : Term). instance (instance_field x)) i in
              rw g (record { answer = ap Instance (w.count u q); leaves = w.leaves u q });
        }

  pub solved_spelt : at zs 0 ≤ most_nodes → 0 < length l → Spelt l tab ends cs
  solved_spelt z p = let (u, q, i) = h.sized.measured 0 p (h.known 0 p) in record { term = u; spells = q; small = omega arith }

pub outcome_solved : (l tab : List ℕ) (b : ℕ) (ends cs zs : List ℕ) (r : Bool) → SolvedIf l tab 0 b ends cs zs r → r ≡ true → Solved l tab 0 b ends cs zs
outcome_solved l tab b ends cs zs true h e = h
outcome_solved l tab b ends cs zs false h e = absurd (let z : ◌≡◌ {A = ℕ} 0 1 = cc in omega arith)
