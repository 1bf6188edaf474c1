-- Innermost leftmost normalising by parts: the first term, then the others; the arguments, then the root; and the whole. Assumes nothing.
-- Read first: specs/Inside (iterate, normalise_in, normalise_all), rewriting/specs/Rewrite (step, normalise).
use mathlib.Core.Path.{◌≡◌, refl, sym, ◌∙◌, ap, subst}
use mathlib.Core.Bool.{Bool, true, false}
use mathlib.Core.List.{List}
use mathlib.Core.Option.{Option, none, some}
use Prim.Native.Nat.{ℕ, zero, suc, ◌+◌}
use native.Mathlib.Omega.{arith}
use lib.Dec.{ltb}
use Rattle.limits.specs.Limits.{most_nodes}
use Rattle.std.specs.Prelude.{if◌then◌else◌}
use Rattle.terms.specs.Base.{mapped, or_else}
use Rattle.terms.specs.Term.{Term, Terms, var, node, nil, cons, size, sizes}
use Rattle.rewriting.specs.Overlap.{Rule}
use Rattle.rewriting.specs.Rewrite.{step, step_in, root_step, Paid, done, stop, spent, too_large, Paying, and_then, normalise, normalise_by}
use Rattle.rewriting.proofs.Holds.{stop≢done}
use Rattle.normaliser.specs.Inside.{pay_for, iterate, normalise_in, normalise_all}

-- pay for a step, and iterate
abbrev onward : {A : Type 0} → (A → Option A) → (A → Bool) → A → Option A → Paying A
onward one big = pay_for big (λ u n. iterate one big u n)

module _ {A : Type 0} (one : A → Option A) (big : A → Bool) where
  zero_go : (t : A) (o : Option A) → pay_for big (λ u n. stop spent n) t o zero ≡ onward one big t o zero
  unfolding pay_for
  zero_go t none = refl
  zero_go t (some u) = refl

  suc_go : (t : A) (left : ℕ) (o : Option A) → pay_for big (λ u n. iterate one big u left) t o (suc left) ≡ onward one big t o (suc left)
  unfolding pay_for
  suc_go t left none = refl
  suc_go t left (some u) = refl

  pub iterate_step : (t : A) (left : ℕ) → iterate one big t left ≡ onward one big t (one t) left
  unfolding iterate
  iterate_step t zero = zero_go t (one t)
  iterate_step t (suc left) = suc_go t left (one t)

-- what comes to its end has no step
module _ {A : Type 0} (one : A → Option A) (big : A → Bool) where
  if_done : (b : Bool) (m : ℕ) (rest : Paid A) (u : A) (n : ℕ) → (if b then stop too_large m else rest) ≡ done u n → rest ≡ done u n
  if_done true m rest u n e = absurd (stop≢done e)
  if_done false m rest u n e = e

  pay_done : (t : A) (left : ℕ) (u : A) (n : ℕ) (o : Option A) → one t ≡ o → ((v : A) (m : ℕ) → left ≡ suc m → iterate one big v m ≡ done u n → one u ≡ none) →
      onward one big t o left ≡ done u n → one u ≡ none
  unfolding pay_for
  pay_done t left u n none e ih p = let q : t ≡ u = cc in rw q at e
  pay_done t zero u n (some v) e ih p = absurd (stop≢done p)
  pay_done t (suc m) u n (some v) e ih p = ih v m refl (if_done (big v) m (iterate one big v m) u n p)

  pub iterate_normal : (left : ℕ) (t u : A) (n : ℕ) → iterate one big t left ≡ done u n → one u ≡ none
  iterate_normal zero t u n p = pay_done t zero u n (one t) refl (λ v m e. absurd (omega arith)) (sym (iterate_step one big t zero) ∙ p)
  iterate_normal (suc left) t u n p =
      pay_done t (suc left) u n (one t) refl (λ v m e q. iterate_normal left v u n (subst (λ z. iterate one big v z ≡ done u n) (omega arith) q))
      (sym (iterate_step one big t (suc left)) ∙ p)

and_then_if : {A B : Type 0} (b : Bool) (n : ℕ) (p : Paid A) (k : A → Paying B) (q : Paid B) → q ≡ and_then p k →
    (if b then stop too_large n else q) ≡ and_then (if b then stop too_large n else p) k
unfolding and_then
and_then_if true n p k q e = refl
and_then_if false n p k q e = e

pub and_then_same : {A B : Type 0} (p : Paid A) (k j : A → Paying B) → ((a : A) (n : ℕ) → p ≡ done a n → k a n ≡ j a n) → and_then p k ≡ and_then p j
unfolding and_then
and_then_same (done a n) k j h = h a n refl
and_then_same (stop e n) k j h = refl

-- steps of a part come first
module _
    {A B : Type 0} (one : A → Option A) (big : A → Bool) (part : B → Option B) (f : B → A) (rest : B → Option A)
    (law : (b : B) → one (f b) ≡ or_else (mapped f (part b)) (rest b)) where
  continue : B → Paying A
  continue b m = onward one big (f b) (rest b) m

  part_go : (b : B) (left : ℕ) (o : Option B) →
      ((v : B) (m : ℕ) → left ≡ suc m → iterate one big (f v) m ≡ and_then (iterate part (λ z. big (f z)) v m) continue) →
      onward one big (f b) (or_else (mapped f o) (rest b)) left ≡ and_then (onward part (λ z. big (f z)) b o left) continue
  unfolding pay_for mapped or_else and_then continue
  part_go b left none ih = refl
  part_go b zero (some v) ih = refl
  part_go b (suc m) (some v) ih = and_then_if (big (f v)) m (iterate part (λ z. big (f z)) v m) continue (iterate one big (f v) m) (ih v m refl)

  pub sequence : (left : ℕ) (b : B) → iterate one big (f b) left ≡ and_then (iterate part (λ z. big (f z)) b left) (λ v m. onward one big (f v) (rest v) m)
  unfolding continue
  sequence zero b =
      iterate_step one big (f b) zero ∙ ap (λ o. onward one big (f b) o zero) (law b) ∙ part_go b zero (part b) (λ v m e. absurd (omega arith))
      ∙ ap (λ p. and_then p continue) (sym (iterate_step part (λ z. big (f z)) b zero))
  sequence (suc left) b =
      iterate_step one big (f b) (suc left) ∙ ap (λ o. onward one big (f b) o (suc left)) (law b)
      ∙ part_go b (suc left) (part b)
      (λ v m e. subst (λ z. iterate one big (f v) z ≡ and_then (iterate part (λ z. big (f z)) v z) continue) (omega arith) (sequence left v))
      ∙ ap (λ p. and_then p continue) (sym (iterate_step part (λ z. big (f z)) b (suc left)))

-- what stands at the root when the arguments are normal
abbrev pub at_root : List Rule → (ℕ → Bool) → Term → Paying Term
at_root rules big t = pay_for (λ u. big (size u)) (λ u n. normalise_in rules big u n) t (root_step rules t)

-- what is normal stays
pub normalise_normal : (rules : List Rule) (big : ℕ → Bool) (x : Term) (left : ℕ) → step rules x ≡ none → normalise_in rules big x left ≡ done x left
unfolding pay_for
normalise_normal rules big x left e =
    iterate_step (step rules) (λ u. big (size u)) x left ∙ ap (λ o. onward (step rules) (λ u. big (size u)) x o left) e

pub normalise_var : (rules : List Rule) (big : ℕ → Bool) (x : ℕ) (left : ℕ) → normalise_in rules big (var x) left ≡ at_root rules big (var x) left
unfolding step
normalise_var rules big x left = iterate_step (step rules) (λ u. big (size u)) (var x) left

pub normalise_node : (rules : List Rule) (big : ℕ → Bool) (f : ℕ) (ts : Terms) (left : ℕ) →
    normalise_in rules big (node f ts) left ≡ and_then (normalise_all rules (λ n. big (suc n)) ts left) (λ us m. at_root rules big (node f us) m)
unfolding step size
normalise_node rules big f ts left =
    sequence (step rules) (λ u. big (size u)) (step_in rules) (node f) (λ us. root_step rules (node f us)) (λ us. refl) left ts

or_none : {A : Type 0} (o : Option A) → o ≡ or_else o none
unfolding or_else
or_none none = refl
or_none (some a) = refl

step_cons : (rules : List Rule) (u : Term) (ts : Terms) → step rules u ≡ none → step_in rules (cons u ts) ≡ mapped (cons u) (step_in rules ts)
unfolding step_in mapped or_else
step_cons rules u ts e = rw e

pub normalise_nil : (rules : List Rule) (big : ℕ → Bool) (left : ℕ) → normalise_all rules big nil left ≡ done nil left
unfolding step_in pay_for
normalise_nil rules big left = iterate_step (step_in rules) (λ us. big (sizes us)) nil left

-- the first, then the others
abbrev pub then_others : List Rule → (ℕ → Bool) → Terms → Term → Paying Terms
then_others rules big ts u m = and_then (normalise_all rules (λ n. big (size u + n)) ts m) (λ us k. done (cons u us) k)

others : (rules : List Rule) (big : ℕ → Bool) (ts : Terms) (u : Term) (m : ℕ) → step rules u ≡ none →
    normalise_all rules big (cons u ts) m ≡ then_others rules big ts u m
unfolding size
others rules big ts u m e =
    sequence (step_in rules) (λ vs. big (sizes vs)) (step_in rules) (cons u) (λ us. none) laws m ts
    ∙ and_then_same (normalise_all rules (λ n. big (size u + n)) ts m) _ (λ us k. done (cons u us) k) (λ us k q. pay us k)
  where
    laws : (us : Terms) → step_in rules (cons u us) ≡ or_else (mapped (cons u) (step_in rules us)) none
    laws us = step_cons rules u us e ∙ or_none (mapped (cons u) (step_in rules us))

    pay : (us : Terms) (k : ℕ) → pay_for (λ vs. big (sizes vs)) (λ vs n. normalise_all rules big vs n) (cons u us) none k ≡ done (cons u us) k
    pay us k = unfold pay_for in refl

pub normalise_cons : (rules : List Rule) (big : ℕ → Bool) (t : Term) (ts : Terms) (left : ℕ) →
    normalise_all rules big (cons t ts) left ≡ and_then (normalise_in rules (λ n. big (n + sizes ts)) t left) (λ u m. then_others rules big ts u m)
unfolding step_in size
normalise_cons rules big t ts left =
    sequence (step_in rules) (λ vs. big (sizes vs)) (step rules) (λ u. cons u ts) (λ u. mapped (cons u) (step_in rules ts)) (λ u. refl) left t
    ∙ and_then_same (normalise_in rules (λ n. big (n + sizes ts)) t left) _ (λ u m. then_others rules big ts u m)
    (λ u m q.
    let e : step rules u ≡ none = iterate_normal (step rules) (λ v. big (size v + sizes ts)) left t u m q in
    ap (λ o. pay_for (λ vs. big (sizes vs)) (λ vs n. normalise_all rules big vs n) (cons u ts) o m) (sym (step_cons rules u ts e))
    ∙ sym (iterate_step (step_in rules) (λ vs. big (sizes vs)) (cons u ts) m)
    ∙ others rules big ts u m e)

-- the whole
pub normalise_whole : (rules : List Rule) (left : ℕ) (t : Term) → normalise_in rules (ltb most_nodes) t left ≡ normalise rules t left
unfolding normalise_by iterate pay_for
normalise_whole rules zero t = go (step rules t) refl
  where
    go : (o : Option Term) → step rules t ≡ o → normalise_in rules (ltb most_nodes) t zero ≡ normalise rules t zero
    go none e = rw (e, normalise_by, iterate, pay_for)
    go (some u) e = rw (e, normalise_by, iterate, pay_for)
normalise_whole rules (suc left) t = go (step rules t) refl (λ u. normalise_whole rules left u)
  where
    go : (o : Option Term) → step rules t ≡ o → ((u : Term) → normalise_in rules (ltb most_nodes) u left ≡ normalise rules u left) →
        normalise_in rules (ltb most_nodes) t (suc left) ≡ normalise rules t (suc left)
    go none e ih = rw (e, normalise_by, iterate, pay_for)
    go (some u) e ih = rw (e, normalise_by, iterate, pay_for) (ap (λ p. if ltb most_nodes (size u) then stop too_large left else p) (ih u))
