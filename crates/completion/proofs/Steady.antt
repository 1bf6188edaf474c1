-- More units change nothing but what is left: what comes to an end with some units, other than for want of them, comes to it with more. Assumes
-- nothing.
-- Read first: proofs/Lawful.
use mathlib.Core.Path.{◌≡◌, refl, sym, ap, subst}
use mathlib.Core.Bool.{Bool, true, false}
use mathlib.Core.List.{List}
use mathlib.Core.Option.{Option, none, some}
use Prim.Native.Nat.{ℕ, zero, suc, ◌+◌}
use native.Mathlib.Omega.{arith}
use lib.Dec.{ltb}
use Rattle.std.specs.Prelude.{if◌then◌else◌}
use Rattle.terms.specs.Term.{Term, size}
use Rattle.problem.specs.Problem.{Theory}
use Rattle.rewriting.specs.Overlap.{Rule}
use Rattle.rewriting.specs.Rewrite.{step, End, complete, neither_above, spent, too_large, rules_full, log_full, Paid, done, stop, Paying, return}
use Rattle.rewriting.specs.Rewrite.{end_with, and_then, ◌>>=◌, pay, normalise, normalise_by}
use Rattle.completion.proofs.Lawful.{Unless, Other, Lawful, turn_lawful}
use Rattle.completion.specs.Turn.{State, turn}

-- With k units more: the same answer or end, and k more left; at 21 no unit is left.
abbrev pub WithMore : {A : Type 0} → Paid A → ℕ → Paid A → Type 0
WithMore (done a left) k p = p ≡ done a (left + k)
WithMore (stop e left) k p = Unless e (left ≡ 0) (p ≡ stop e (left + k))

abbrev pub Steady : {A : Type 0} → Paying A → Type 0
Steady m = (left k more : ℕ) → more ≡ left + k → WithMore (m left) k (m more)

stop_then : {A B : Type 0} (e : End) (left k : ℕ) (p : Paid A) (next : A → Paying B) → WithMore (stop e left) k p →
    WithMore {A = B} (stop e left) k (and_then p next)
unfolding and_then
stop_then complete left k p next h = ap (λ q. and_then q next) h
stop_then neither_above left k p next h = ap (λ q. and_then q next) h
stop_then spent left k p next h = h
stop_then too_large left k p next h = ap (λ q. and_then q next) h
stop_then rules_full left k p next h = ap (λ q. and_then q next) h
stop_then log_full left k p next h = ap (λ q. and_then q next) h

then_steady : {A B : Type 0} (p q : Paid A) (next : A → Paying B) (k : ℕ) → WithMore p k q → ((a : A) → Steady (next a)) →
    WithMore (and_then p next) k (and_then q next)
unfolding and_then
then_steady (done a left) q next k h f = subst (λ z. WithMore (next a left) k (and_then z next)) (sym h) (f a left k (left + k) refl)
then_steady (stop e left) q next k h f = stop_then e left k q next h

pub bind_steady : {A B : Type 0} (m : Paying A) (next : A → Paying B) → Steady m → ((a : A) → Steady (next a)) → Steady (m >>= next)
unfolding ◌>>=◌
bind_steady m next h f left k more e = then_steady (m left) (m more) next k (h left k more e) f

pub return_steady : {A : Type 0} (a : A) → Steady (return a)
unfolding return
return_steady a left k more e = ap (done a) e

end_steady : (A : Type 0) (e : End) → Other e → Steady (end_with {A = A} e)
unfolding end_with
end_steady A complete o left k more e = ap (stop complete) e
end_steady A neither_above o left k more e = ap (stop neither_above) e
end_steady A spent o left k more e = absurd o
end_steady A too_large o left k more e = ap (stop too_large) e
end_steady A rules_full o left k more e = ap (stop rules_full) e
end_steady A log_full o left k more e = ap (stop log_full) e

pub pay_steady : Steady pay
unfolding pay
pay_steady zero k more e = refl
pay_steady (suc left) k zero e = absurd (omega arith)
pay_steady (suc left) k (suc more) e = ap (done tt) (omega arith)

if_grown : {A : Type 0} (b : Bool) (p q p' q' : Paid A) (k : ℕ) → WithMore p k p' → WithMore q k q' →
    WithMore {A = A} (if b then p else q) k (if b then p' else q')
if_grown true p q p' q' k h l = h
if_grown false p q p' q' k h l = l

pub normalise_steady : (rules : List Rule) (t : Term) (left k more : ℕ) → more ≡ left + k → WithMore (normalise rules t left) k (normalise rules t more)
unfolding normalise_by
normalise_steady rules t zero k zero e = go (step rules t) refl
  where
    go : (o : Option Term) → step rules t ≡ o → WithMore (normalise rules t zero) k (normalise rules t zero)
    go none q = rw (q, normalise_by) (ap (done t) e)
    go (some u) q = rw (q, normalise_by) refl
normalise_steady rules t zero k (suc more) e = go (step rules t) refl
  where
    go : (o : Option Term) → step rules t ≡ o → WithMore (normalise rules t zero) k (normalise rules t (suc more))
    go none q = rw (q, normalise_by) (ap (done t) e)
    go (some u) q = rw (q, normalise_by) refl
normalise_steady rules t (suc left) k zero e = absurd (omega arith)
normalise_steady rules t (suc left) k (suc more) e = go (step rules t) refl (λ u e. normalise_steady rules u left k more e)
  where
    go : (o : Option Term) → step rules t ≡ o → ((u : Term) → more ≡ left + k → WithMore (normalise rules u left) k (normalise rules u more)) →
        WithMore (normalise rules t (suc left)) k (normalise rules t (suc more))
    go none q ih = rw (q, normalise_by) (ap (done t) e)
    go (some u) q ih =
        let l : more ≡ left + k = omega arith in
        rw (q, normalise_by) (if_grown (ltb 120 (size u)) (stop too_large left) (normalise rules u left) (stop too_large more) (normalise rules u more) k
        (ap (stop too_large) l) (ih u l))

pub steady : Lawful (λ A m. Steady m)
steady =
    record {
      returned = λ A a. return_steady a;
      ended = end_steady;
      bound = λ A B m next f g. bind_steady m next f g;
      paid = pay_steady;
      normalised = normalise_steady;
    }

-- A turn that ends with another end than 21, or with a state, does so with more units, and leaves as many more.
pub turn_steady : (T : Theory) (s : State) → Steady (turn T s)
turn_steady T s = turn_lawful (λ A m. Steady m) steady T s
