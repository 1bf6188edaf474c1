-- Lists that are the same but for the order. Assumes nothing.
-- Read first: specs/Transitions (`Reordered`).
use mathlib.Core.Path.{◌≡◌, sym, subst}
use mathlib.Core.Logic.{⊎_elim}
use mathlib.Core.List.Memᴰ
use mathlib.Core.List.{List, [], ◌∷◌, ◌++◌, append-nil, Memᴰ}
use Rattle.completion.specs.Transitions.{Reordered, unmoved, swap, behind, moved}

module _ {A : Type 0} where
  pub reordered_in : {l m : List A} {x : A} → Reordered l m → Memᴰ x l → Memᴰ x m
  reordered_in unmoved i = i
  reordered_in swap i =
      ⊎_elim (λ e. Memᴰ.tail (Memᴰ.head e))
      (λ j. ⊎_elim (λ e. Memᴰ.head e) (λ k. Memᴰ.tail (Memᴰ.tail k)) (Memᴰ.cases_cons j)) (Memᴰ.cases_cons i)
  reordered_in (behind r) i = ⊎_elim (λ e. Memᴰ.head e) (λ j. Memᴰ.tail (reordered_in r j)) (Memᴰ.cases_cons i)
  reordered_in (moved q r) i = reordered_in r (reordered_in q i)

  pub reordered_back : {l m : List A} → Reordered l m → Reordered m l
  reordered_back unmoved = unmoved
  reordered_back swap = swap
  reordered_back (behind r) = behind (reordered_back r)
  reordered_back (moved q r) = moved (reordered_back r) (reordered_back q)

  pub reordered_eq : {l m : List A} → l ≡ m → Reordered l m
  reordered_eq {l} e = subst (λ k. Reordered l k) e unmoved

  -- the same list behind both, or before both
  pub with_behind : {l m : List A} (k : List A) → Reordered l m → Reordered (l ++ k) (m ++ k)
  with_behind k unmoved = unmoved
  with_behind k swap = swap
  with_behind k (behind r) = behind (with_behind k r)
  with_behind k (moved q r) = moved (with_behind k q) (with_behind k r)

  pub with_before : (k : List A) {l m : List A} → Reordered l m → Reordered (k ++ l) (k ++ m)
  with_before [] r = r
  with_before (x ∷ k) r = behind (with_before k r)

  -- the first goes further back
  pub put_back : (x : A) (l m : List A) → Reordered (x ∷ (l ++ m)) (l ++ (x ∷ m))
  put_back x [] m = unmoved
  put_back x (y ∷ l) m = moved swap (behind (put_back x l m))

  -- two parts change places
  pub exchanged : (l m : List A) → Reordered (l ++ m) (m ++ l)
  exchanged [] m = reordered_eq (sym (append-nil m))
  exchanged (x ∷ l) m = moved (behind (exchanged l m)) (put_back x m l)
