-- Lists in general: a list of no length, a part of a front, and lists made of one list for each element. Assumes nothing.
-- Read first: nothing.
use mathlib.Core.Path.{◌≡◌, refl, sym, ap, ◌∙◌}
use mathlib.Core.List.{List, [], ◌∷◌, ◌++◌, append_assoc, append-nil, flat_map}
use Prim.Native.Nat.{ℕ, zero, suc, ◌+◌}
use native.Mathlib.Nat.{zero-add, suc-add}
use native.Mathlib.Omega.{arith}
use lib.ListN.{length, take, drop}
use lib.Seq.{take-nil}

pub nothing : {A : Type 0} (l : List A) → length l ≡ 0 → l ≡ []
nothing [] h = refl
nothing (x ∷ l) h = absurd (omega arith)

pub take_drop : (a n : ℕ) (l : List ℕ) → take n (drop a l) ≡ drop a (take (a + n) l)
take_drop zero n l = rw (zero-add n) refl
take_drop (suc a) n [] = take-nil n ∙ sym (ap (drop (suc a)) (take-nil (suc a + n)))
take_drop (suc a) n (x ∷ l) = rw (suc-add a n) (take_drop a n l)

pub flat_map_append : {A : Type 0} (f : A → List ℕ) (l m : List A) → flat_map f (l ++ m) ≡ flat_map f l ++ flat_map f m
unfolding flat_map
flat_map_append f [] m = refl
flat_map_append f (x ∷ l) m = ap (λ z. f x ++ z) (flat_map_append f l m) ∙ sym (append_assoc (f x) (flat_map f l) (flat_map f m))

pub flat_map_one : {A : Type 0} (f : A → List ℕ) (x : A) → flat_map f (x ∷ []) ≡ f x
unfolding flat_map
flat_map_one f x = append-nil (f x)
