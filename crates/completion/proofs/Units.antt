-- The units: nothing that pays leaves more than it had, and a turn leaves less. Assumes nothing.
-- Read first: specs/Turn, proofs/Lawful.
use mathlib.Core.Path.{◌≡◌, refl}
use mathlib.Core.Bool.{Bool, true, false}
use mathlib.Core.List.{List}
use mathlib.Core.Option.{Option, none, some}
use Prim.Native.Nat.{ℕ, zero, suc, ◌≤◌}
use native.Mathlib.Omega.{arith}
use Rattle.std.specs.Prelude.{if◌then◌else◌, ltb}
use Rattle.limits.specs.Limits.{most_nodes}
use Rattle.terms.specs.Term.{Term, size}
use Rattle.problem.specs.Problem.{Theory}
use Rattle.rewriting.specs.Overlap.{Rule}
use Rattle.rewriting.specs.Rewrite.{step, too_large, End, Paid, done, stop, Paying, return, end_with, and_then, ◌>>=◌, pay, normalise, normalise_by}
use Rattle.completion.proofs.Lawful.{Lawful, rest_lawful}
use Rattle.completion.specs.Turn.{State, turn}

-- the units left
unfoldable pub left_of : {A : Type 0} → Paid A → ℕ
left_of (done a left) = left
left_of (stop e left) = left

unfoldable pub Fair : {A : Type 0} → Paying A → Type 0
Fair m = (left : ℕ) → left_of (m left) ≤ left

and_then_fair : {A B : Type 0} (p : Paid A) (next : A → Paying B) (n : ℕ) → left_of p ≤ n → ((a : A) → Fair (next a)) → left_of (and_then p next) ≤ n
unfolding left_of Fair and_then
and_then_fair (done a l) next n h f = let g : left_of (next a l) ≤ l = f a l in omega arith
and_then_fair (stop e l) next n h f = h

pub bind_fair : {A B : Type 0} (m : Paying A) (next : A → Paying B) → Fair m → ((a : A) → Fair (next a)) → Fair (m >>= next)
unfolding Fair ◌>>=◌
bind_fair m next f g left = and_then_fair (m left) next left (f left) g

pub return_fair : {A : Type 0} (a : A) → Fair (return a)
unfolding Fair return left_of
return_fair a left = omega arith

pub end_with_fair : (A : Type 0) (e : End) → Fair (end_with {A = A} e)
unfolding Fair end_with left_of
end_with_fair A e left = omega arith

pub pay_fair : Fair pay
unfolding Fair pay left_of
pay_fair zero = omega arith
pay_fair (suc left) = omega arith

if_left : {A : Type 0} (b : Bool) (p q : Paid A) (n : ℕ) → left_of p ≤ n → left_of q ≤ n → left_of (if b then p else q) ≤ n
if_left true p q n f g = f
if_left false p q n f g = g

pub normalise_fair : (rules : List Rule) (t : Term) (left : ℕ) → left_of (normalise rules t left) ≤ left
unfolding normalise_by left_of
normalise_fair rules t zero = go (step rules t) refl
  where
    go : (o : Option Term) → step rules t ≡ o → left_of (normalise rules t zero) ≤ zero
    go none e = rw (e, normalise_by) (omega arith)
    go (some u) e = rw (e, normalise_by) (omega arith)
normalise_fair rules t (suc left) = go (step rules t) refl (λ u. normalise_fair rules u left)
  where
    go : (o : Option Term) → step rules t ≡ o → ((u : Term) → left_of (normalise rules u left) ≤ left) → left_of (normalise rules t (suc left)) ≤ suc left
    go none e ih = rw (e, normalise_by) (omega arith)
    go (some u) e ih = let h = ih u in rw (e, normalise_by)
        (if_left (ltb most_nodes (size u)) (stop too_large left) (normalise rules u left) (suc left) (omega arith) (omega arith))

pub fair : Lawful (λ A m. Fair m)
unfolding Fair
fair =
    record {
      returned = λ A a. return_fair a;
      ended = λ A e o. end_with_fair A e;
      bound = λ A B m next f g. bind_fair m next f g;
      paid = pay_fair;
      normalised = normalise_fair;
    }

-- "beginning a turn costs one unit"
pub rest_of_turn : (T : Theory) (s : State) (left : ℕ) → left_of (turn T s (suc left)) ≤ left
unfolding turn ◌>>=◌ and_then pay Fair
rest_of_turn T s left = rest_lawful (λ A m. Fair m) fair T s left
