-- A pair that is normalised and compared before what follows, whatever that is: what its outcome says of the normal forms. Assumes nothing.
-- Read first: specs/Turn.
use mathlib.Core.Path.{◌≡◌, refl, sym, ap}
use mathlib.Core.Bool.{Bool, true, false}
use Prim.Native.Nat.{ℕ}
use Rattle.rewriting.proofs.Holds.{stop≢done}
use Rattle.std.specs.Prelude.{if◌then◌else◌}
use Rattle.terms.specs.Term.{Pair, same}
use Rattle.rewriting.specs.Rewrite.{End, complete, Paid, done, stop, Paying, return, and_then}
use Rattle.completion.specs.Turn.{Origin, Candidate, if_different}

done_answer : {A : Type 0} {a b : A} {m n : ℕ} → done a m ≡ done b n → a ≡ b
done_answer e = cc

done_left : {A : Type 0} {a b : A} {m n : ℕ} → done a m ≡ done b n → m ≡ n
done_left e = cc

done≢stop : {A : Type 0} {a : A} {e : End} {m n : ℕ} → done a m ≡ stop e n → ⊥
done≢stop h = stop≢done (sym h)

module _ (o : Origin) where
  abbrev compared : Paid Pair → Paying Candidate → Paid Candidate
  compared p next = and_then p (λ f. if_different o f next)

  abbrev tested : Bool → Pair → ℕ → Paying Candidate → Paid Candidate
  tested b f left next = (if b then next else return (record { origin = o; sides = f })) left

  -- the forms differ, and are what was found
  pub record Found (p : Paid Pair) (c : Candidate) (left : ℕ) : Type 0 where
    pub forms : Pair
    pub is : p ≡ done forms left
    pub differ : same forms.left forms.right ≡ false
    pub candidate : c ≡ record { origin = o; sides = forms }

  pub found_forms : (p : Paid Pair) (c : Candidate) (left : ℕ) → ((next : Paying Candidate) → compared p next ≡ done c left) → Found p c left
  unfolding and_then if_different return
  found_forms (stop e l) c left h = absurd (done≢stop (sym (h (λ n. stop complete n))))
  found_forms (done f l) c left h = go (same f.left f.right) refl h
    where
      go : (b : Bool) → same f.left f.right ≡ b → ((next : Paying Candidate) → tested b f l next ≡ done c left) → Found (done f l) c left
      go true e k = absurd (done≢stop (sym (k (λ n. stop complete n))))
      go false e k =
          let q : done (record { origin = o; sides = f }) l ≡ done c left = k (λ n. stop complete n) in
          record { forms = f; is = ap (done f) (done_left q); differ = e; candidate = sym (done_answer q) }

  -- the forms are the same, and what follows goes on
  pub record Equal (p : Paid Pair) (left : ℕ) : Type 0 where
    pub forms : Pair
    pub is : p ≡ done forms left
    pub equal : same forms.left forms.right ≡ true

  pub equal_forms : (p : Paid Pair) (left : ℕ) (c : Candidate) → ((next : Paying Candidate) → compared p next ≡ next left) → Equal p left
  unfolding and_then if_different return
  equal_forms (stop e l) left c h = absurd (done≢stop (sym (h (λ n. done c n))))
  equal_forms (done f l) left c h = go (same f.left f.right) refl h
    where
      go : (b : Bool) → same f.left f.right ≡ b → ((next : Paying Candidate) → tested b f l next ≡ next left) → Equal (done f l) left
      go true e k = record { forms = f; is = ap (done f) (done_left (k (λ n. done c n))); equal = e }
      go false e k = absurd (done≢stop (k (λ n. stop complete n)))

  -- normalising stopped
  pub stop_forms : (p : Paid Pair) (e : End) (left : ℕ) (c : Candidate) → ((next : Paying Candidate) → compared p next ≡ stop e left) → p ≡ stop e left
  unfolding and_then if_different return
  stop_forms (stop f l) e left c h = let q : ◌≡◌ {A = Paid Candidate} (stop f l) (stop e left) = h (λ n. done c n) in cc
  stop_forms (done f l) e left c h = go (same f.left f.right) h
    where
      go : (b : Bool) → ((next : Paying Candidate) → tested b f l next ≡ stop e left) → done f l ≡ stop e left
      go true k = absurd (done≢stop (k (λ n. done c n)))
      go false k = absurd (done≢stop (k (λ n. done c n)))
