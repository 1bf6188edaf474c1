-- The six transition rules of completion, after Bachmair and Dershowitz, as source document 004 prints them in its appendix A; document 01 takes their
-- names from there and from 001. What it is that equations and rules are derived from others. Assumes nothing.
-- The source has sets, here are lists: whatever is derived so is derived by the source's rules of the sets of the lists' members, since "E ∪ {s = t}"
-- does not say that s = t is not in E.
-- Read first: specs/Delivery (`AtNode`).
use Rattle.std.specs.Prelude.{◌≡◌, true, ℕ}
use mathlib.Core.List.{List, ◌∷◌, Memᴰ}
use Rattle.std.proofs.Math.Option.{some}
use Rattle.terms.specs.Term.{Term, Pair, subst_term, subterm_at}
use Rattle.order.specs.Order.{above}
use Rattle.completion.specs.Delivery.{AtNode}

-- "E; R": equations and rules
infix 20 ◌⨾◌
pub data System : Type 0 where
  ◌⨾◌ : List Pair → List Pair → System

abbrev pub pair : Term → Term → Pair
pair s t = record { left = s; right = t }

-- s →R t: at some node of s stands an instance of a rule's left side, and t has that of its right side there
pub record Rewrites (R : List Pair) (s t : Term) : Type 0 where
  pub rule : Pair
  pub is_rule : Memᴰ rule R
  pub substitution : ℕ → Term
  pub at_node : AtNode (subst_term substitution rule.left) (subst_term substitution rule.right) s t

-- the same but for the names of variables: each pair is an instance of the other
pub record Variants (d e : Pair) : Type 0 where
  pub there : ℕ → Term
  pub left_there : e.left ≡ subst_term there d.left
  pub right_there : e.right ≡ subst_term there d.right
  pub back : ℕ → Term
  pub left_back : d.left ≡ subst_term back e.left
  pub right_back : d.right ≡ subst_term back e.right

-- the same but for the order
pub data Reordered {A : Type 0} : List A → List A → Type 0 where
  unmoved : {l : List A} → Reordered l l
  swap : {x y : A} {l : List A} → Reordered (x ∷ y ∷ l) (y ∷ x ∷ l)
  behind : {x : A} {l m : List A} → Reordered l m → Reordered (x ∷ l) (x ∷ m)
  moved : {k l m : List A} → Reordered k l → Reordered l m → Reordered k m

-- The same equations and rules: E and R have no order, an equation has no direction, and the names of a pair's variables are of no account.
pub data Same : System → System → Type 0 where
  reorder : {E E' R R' : List Pair} → Reordered E E' → Reordered R R' → Same (E ⨾ R) (E' ⨾ R')
  turn_round : {E R : List Pair} {s t : Term} → Same (pair s t ∷ E ⨾ R) (pair t s ∷ E ⨾ R)
  rename_equation : {E R : List Pair} {d e : Pair} → Variants d e → Same (d ∷ E ⨾ R) (e ∷ E ⨾ R)
  rename_rule : {E R : List Pair} {d e : Pair} → Variants d e → Same (E ⨾ d ∷ R) (E ⨾ e ∷ R)
  unchanged : {S : System} → Same S S
  also : {S T U : System} → Same S T → Same T U → Same S U

-- some subterm of s is an instance of l
abbrev pub Encompasses : Term → Term → Type 0
Encompasses s l = (p : ℕ) × (σ : ℕ → Term) × (subterm_at s p ≡ some (subst_term σ l))

-- s ▷ l, a sign that 004 does not explain; with Bachmair and Dershowitz it is the strict part of encompassment
abbrev pub Properly : Term → Term → Type 0
Properly s l = Encompasses s l × (Encompasses l s → ⊥)

-- One transition, over the path order of these ranks. `Beyond` is the condition of Collapse: `Properly`, as published. (That transitions are sound does
-- not depend on it.)
module _ (rank : ℕ → ℕ) (Beyond : Term → Term → Type 0) where
  pub data Transition : System → System → Type 0 where
    -- Delete: E ∪ {s = s}; R ⊢ E; R
    delete : {E R : List Pair} {s : Term} → Transition (pair s s ∷ E ⨾ R) (E ⨾ R)
    -- Compose: E; R ∪ {s → t} ⊢ E; R ∪ {s → u} if t →R u
    compose : {E R : List Pair} {s t u : Term} → Rewrites R t u → Transition (E ⨾ pair s t ∷ R) (E ⨾ pair s u ∷ R)
    -- Simplify: E ∪ {s = t}; R ⊢ E ∪ {s = u}; R if t →R u
    simplify : {E R : List Pair} {s t u : Term} → Rewrites R t u → Transition (pair s t ∷ E ⨾ R) (pair s u ∷ E ⨾ R)
    -- Orient: E ∪ {s = t}; R ⊢ E; R ∪ {s → t} if s > t
    orient : {E R : List Pair} {s t : Term} → above rank s t ≡ true → Transition (pair s t ∷ E ⨾ R) (E ⨾ pair s t ∷ R)
    -- Collapse: E; R ∪ {s → t} ⊢ E ∪ {u = t}; R if s →R u by a rule l → r ∈ R with s ▷ l
    collapse : {E R : List Pair} {s t u : Term} (w : Rewrites R s u) → Beyond s w.rule.left → Transition (E ⨾ pair s t ∷ R) (pair u t ∷ E ⨾ R)
    -- Deduce: E; R ⊢ E ∪ {s = t}; R if s ←R u →R t for some u
    deduce : {E R : List Pair} {s t u : Term} → Rewrites R u s → Rewrites R u t → Transition (E ⨾ R) (pair s t ∷ E ⨾ R)

  -- one transition, however the equations and rules are written
  pub record Derives (S T : System) : Type 0 where
    pub before : System
    pub after : System
    pub is_before : Same S before
    pub transition : Transition before after
    pub is_after : Same after T

  -- finitely many, none included
  pub data Derivation : System → System → Type 0 where
    written : {S T : System} → Same S T → Derivation S T
    by : {S T U : System} → Derives S T → Derivation T U → Derivation S U
