-- Equational logic: the least congruence that has all instances of the equations. It is `Conv (Step E)`. Assumes nothing.
-- Read first: proofs/Relations, proofs/Steps.
use mathlib.Core.Path.{◌≡◌}
use mathlib.Core.Logic.{◌↔◌}
use Prim.Native.Nat.{ℕ}
use Rattle.terms.specs.Term.{Term, Terms, node, nil, cons, subst_term}
use Rattle.rewriting.proofs.Relations.{Conv, same, ahead, back, Rules, Step, Steps, root, inside, here, there}
use Rattle.rewriting.proofs.Abstract.{chain, turn}
use Rattle.rewriting.proofs.Steps.{conv_node, conv_cons}

mutual
  pub data Equal (E : Term → Term → Type 0) : Term → Term → Type 0 where
    by : {l r t u : Term} → E l r → (σ : ℕ → Term) → t ≡ subst_term σ l → u ≡ subst_term σ r → Equal E t u
    itself : {t : Term} → Equal E t t
    other_way : {t u : Term} → Equal E t u → Equal E u t
    through : {t u v : Term} → Equal E t u → Equal E u v → Equal E t v
    apply : {f : ℕ} {ts us : Terms} → Equals E ts us → Equal E (node f ts) (node f us)

  pub data Equals (E : Term → Term → Type 0) : Terms → Terms → Type 0 where
    none : Equals E nil nil
    both : {t u : Term} {ts us : Terms} → Equal E t u → Equals E ts us → Equals E (cons t ts) (cons u us)

module _ {E : Rules} where
  mutual
    pub equal_conv : {t u : Term} → Equal E t u → Conv (Step E) t u
    equal_conv (by ρ σ e d) = ahead (root ρ σ e d) same
    equal_conv itself = same
    equal_conv (other_way e) = turn (equal_conv e)
    equal_conv (through e d) = chain (equal_conv e) (equal_conv d)
    equal_conv (apply {f = f} e) = conv_node f (equals_conv e)

    pub equals_conv : {t u : Terms} → Equals E t u → Conv (Steps E) t u
    equals_conv none = same
    equals_conv (both e d) = conv_cons (equal_conv e) (equals_conv d)

  pub equals_itself : (ts : Terms) → Equals E ts ts
  equals_itself = elim [ nil ↦ none | cons t (ts → h) ↦ both itself h ]

  mutual
    pub step_equal : {t u : Term} → Step E t u → Equal E t u
    step_equal (root ρ σ e d) = by ρ σ e d
    step_equal (inside s) = apply (steps_equal s)

    pub steps_equal : {t u : Terms} → Steps E t u → Equals E t u
    steps_equal (here {ts = ts} s) = both (step_equal s) (equals_itself ts)
    steps_equal (there s) = both itself (steps_equal s)

  pub conv_equal : {t u : Term} → Conv (Step E) t u → Equal E t u
  conv_equal same = itself
  conv_equal (ahead x s) = through (step_equal x) (conv_equal s)
  conv_equal (back x s) = through (other_way (step_equal x)) (conv_equal s)

  pub equal_is_conv : (t u : Term) → Equal E t u ↔ Conv (Step E) t u
  equal_is_conv t u = (equal_conv, conv_equal)
