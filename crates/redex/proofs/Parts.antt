-- Parts of a list: the first element of one, and the part from a place on, lent and given back. Assumes nothing.
-- Read first: terms/proofs/Starts (from).
use mathlib.Core.Path.{◌≡◌, sym, ◌∙◌, ap, ap₂}
use mathlib.Core.List.{List, ◌∷◌, ◌++◌, append-nil, nil≢cons}
use Prim.Native.Nat.{ℕ, zero, suc, ◌+◌, ◌-◌, ◌≤◌}
use native.Mathlib.Omega.{arith}
use lib.ListN.{length, get_or, drop, take, length-append, length-drop, drop_of_length-le}
use lib.Seq.{take-append-add, length-take-le, get_or-take, get_or-drop}
use Rattle.terms.proofs.Lists.{take_drop}
use Rattle.terms.proofs.Starts.{from, from_drop}

-- what stands first in a part of a list
pub head_of : (t : List ℕ) (n a b : ℕ) (l : List ℕ) → take n (drop a t) ≡ b ∷ l → get_or t a 0 ≡ b
head_of t zero a b l e = absurd (nil≢cons e)
head_of t (suc n) a b l e =
    let i : a + 0 ≡ a = omega arith in
    sym (get_or-take (suc n) (drop a t) 0 0 (omega arith) ∙ get_or-drop a t 0 0 ∙ ap (λ z. get_or t z 0) i) ∙ ap (λ z. get_or z 0 0) e

-- the part from a to l
pub drop_take : (a l : ℕ) (t : List ℕ) → a ≤ l → take (l - a) (drop a t) ≡ drop a (take l t)
drop_take a l t h = let e : a + (l - a) ≡ l = omega arith in take_drop a (l - a) t ∙ ap (λ z. drop a (take z t)) e

pub from_take : (a l : ℕ) (t : List ℕ) → a ≤ l → take (l - a) (from t a) ≡ drop a (take l t)
from_take a l t h = ap (take (l - a)) (from_drop t a) ∙ drop_take a l t h

pub from_length : (a : ℕ) (t : List ℕ) → length (from t a) ≡ length t - a
from_length a t = ap length (from_drop t a) ∙ length-drop a t

-- q is what came back of it
abbrev pub back : ℕ → List ℕ → List ℕ → List ℕ
back a t q = take a t ++ (q ++ drop (length t - a) (drop a t))

back_is : (a : ℕ) (t q : List ℕ) → back a t q ≡ take a t ++ q
back_is a t q =
    let j : length (drop a t) ≤ length t - a = omega (arith, length-drop a t) in
    ap (λ z. take a t ++ z) (ap (λ z. q ++ z) (drop_of_length-le (drop a t) j) ∙ append-nil q)

pub back_length : (a : ℕ) (t q : List ℕ) → a ≤ length t → length q ≡ length (from t a) → length (back a t q) ≡ length t
back_length a t q h e = ap length (back_is a t q) ∙ length-append (take a t) q ∙ omega (arith, length-take-le a t h, from_length a t)

pub back_take : (a m : ℕ) (t q : List ℕ) → a ≤ length t → take (m + a) (back a t q) ≡ take a t ++ take m q
back_take a m t q h =
    let n : length (take a t) ≡ a = length-take-le a t h in
    let e : m + a ≡ length (take a t) + m = omega arith in
    ap₂ (λ z l. take z l) e (back_is a t q) ∙ take-append-add (take a t) q m
