-- The steps that look for two nodes to join: along the arguments of two nodes (`Walk`), at a node and its root, and over all nodes. Assumes nothing.
-- Read first: specs/Arena (Agree, AllClosed), specs/Steps (Apart, StepIs), specs/Unique.
use mathlib.Core.Path.{◌≡◌, refl, sym, ap, subst, subst₂, ◌∙◌}
use mathlib.Core.List.{List}
use Prim.Native.Nat.{ℕ, zero, suc, ◌+◌, ◌-◌, ◌≤◌, ◌<◌}
use native.Mathlib.Omega.{arith}
use Rattle.terms.specs.Scan.{owes}
use native.Mathlib.Numerals.{add-one}
use lib.ListN.{length}
use Rattle.terms.specs.Term.{nil, Term, node, cons, subst_term, subst_terms}
use Rattle.terms.proofs.Shape.{node_args, cons_head, cons_tail}
use Rattle.terms.proofs.Subst.{Subst}
use Rattle.classes.specs.Arena.{Arena, Spells, made, SpellsAll, more, same, NodesSpell, Joins, Agree, ClosedAt}
use Rattle.classes.specs.Steps.{at, arena, Ready, SpellsSome, JoinsAll, Apart, Clashes, StepIs}
use Rattle.classes.specs.declared.Step.{Step}
use Rattle.classes.specs.declared.Step.TheVariants.{Done, Clash, Join}
use Rattle.classes.proofs.Ranges.{below_more}
use Rattle.classes.specs.Unique.{spells_within, unmake}

-- n arguments from p on are those that are left of k from a on, and n from q on those of k from b on
pub record Walk (A : Arena) (c : ℕ → ℕ) (a b k p q n : ℕ) : Type 0 where
  pub ps : SpellsSome A p n
  pub qs : SpellsSome A q n
  pub back : Agree A c p q n → Agree A c a b k
  pub forth : (τ : Subst) → JoinsAll A τ a b k → JoinsAll A τ p q n

pub walk_start : (A : Arena) (c : ℕ → ℕ) (a b k : ℕ) → SpellsSome A a k × SpellsSome A b k → Walk A c a b k a b k
walk_start A c a b k h = record { ps = h.0; qs = h.1; back = λ g. g; forth = λ τ g. g }

first_within : (A : Arena) (p n : ℕ) → SpellsSome A p n → 0 < n → p < A.nodes
first_within A p zero s h = absurd (omega arith)
first_within A p (suc n) (ts, more r s) h = spells_within A r

pub rest_spells : (A : Arena) (p n : ℕ) → SpellsSome A p (suc n) → SpellsSome A (A.end p) n
rest_spells A p n (nil, x) = elim x [ ]
rest_spells A p n (cons t ts, more r s) = (ts, s)

first_spells : (A : Arena) (p n : ℕ) → SpellsSome A p (suc n) → (t : Term) × Spells A same p t
first_spells A p n (nil, x) = elim x [ ]
first_spells A p n (cons t ts, more r s) = (t, r)

pub some_within : (A : Arena) (p n N : ℕ) → SpellsSome A p n → 0 < n → A.nodes ≤ N → p < N
some_within A p n N s h l = omega (arith, first_within A p n s h)

pub walk_turn : (A : Arena) (c : ℕ → ℕ) (a b k p q n p' q' : ℕ) → Walk A c a b k p q n → 0 < n → c p ≡ c q → p' ≡ A.end p → q' ≡ A.end q →
    Walk A c a b k p' q' (n - 1)
unfolding Agree subst_terms
walk_turn A c a b k p q zero p' q' w h e ep eq = absurd (omega arith)
walk_turn A c a b k p q (suc n) p' q' w h e ep eq =
    let z : n ≡ suc n - 1 = omega arith in
    let r = first_spells A p n w.ps in
    let s = first_spells A q n w.qs in
    subst (λ j. Walk A c a b k p' q' j) z
    (subst₂ (λ x y. Walk A c a b k x y n) (sym ep) (sym eq)
    (record {
      ps = rest_spells A p n w.ps;
      qs = rest_spells A q n w.qs;
      back = λ g. w.back (e, g);
      forth = λ τ g ts us x y. cons_tail (w.forth τ g (cons r.0 ts) (cons s.0 us) (more r.1 x) (more s.1 y));
    }))

pub walk_end : (A : Arena) (c : ℕ → ℕ) (a b k p q n : ℕ) → Walk A c a b k p q n → n ≤ 0 → Apart A c a b k Done
unfolding Agree
walk_end A c a b k p q zero w h = w.back tt
walk_end A c a b k p q (suc n) w h = absurd (omega arith)

walk_joins : (A : Arena) (c : ℕ → ℕ) (a b k p q n : ℕ) → Walk A c a b k p q (suc n) → (τ : Subst) → JoinsAll A τ a b k → Joins A τ p q
unfolding subst_terms
walk_joins A c a b k p q n w τ g s t x y =
    let r = rest_spells A p n w.ps in
    let u = rest_spells A q n w.qs in
    cons_head (w.forth τ g (cons s r.0) (cons t u.0) (more x r.1) (more y u.1))

pub walk_join : (A : Arena) (c : ℕ → ℕ) (a b k p q n : ℕ) → Walk A c a b k p q n → 0 < n → (c p ≡ c q → ⊥) → Apart A c a b k (Join p q)
walk_join A c a b k p q zero w h e = absurd (omega arith)
walk_join A c a b k p q (suc n) w h e = (first_within A p (suc n) w.ps h, first_within A q (suc n) w.qs h, e, walk_joins A c a b k p q n w)

-- the arguments of a node that is a symbol
pub arguments : (A : Arena) → NodesSpell A → (i f k p : ℕ) → i < A.nodes → A.byte i ≡ f → f < 128 → k ≡ A.arity f → p ≡ i + 1 → SpellsSome A p k
arguments A w i f k p h e l ek ep =
    let u = unmake A f (w i h).1 e l in
    subst₂ (λ x y. SpellsSome A x y) (sym (ep ∙ add-one i)) (sym ek) (u.0, u.2)

-- what the arguments of node i and of its root r answer is what node i asks for
step_apart : (A : Arena) (c : ℕ → ℕ) (i r f k : ℕ) (s : Step) → i < A.nodes → r < A.nodes → r ≡ c i → f ≡ A.byte i → f < 128 → A.byte r ≡ f →
    k ≡ A.arity f → Apart A c (i + 1) (r + 1) k s → StepIs A c i s
unfolding subst_term
step_apart A c i r f k Done hi hr er ef l eb ek g =
    let arguments = subst₂ (λ x y. Agree A c x y k) (add-one i) (add-one r) g in
    λ q. (ap A.byte (sym er) ∙ eb ∙ ef, subst₂ (λ x y. Agree A c (suc i) x y) (ap suc er) (ek ∙ ap A.arity ef) arguments)
step_apart A c i r f k Clash hi hr er ef l eb ek g = absurd g
step_apart A c i r f k (Join p q) hi hr er ef l eb ek (a, b, n, j) = (a, b, n, λ τ h. j τ (all τ (subst (λ z. Joins A τ i z) (sym er) (h i))))
  where
    all : (τ : Subst) → Joins A τ i r → JoinsAll A τ (i + 1) (r + 1) k
    all τ h ts us x y =
        let here = made hi (sym ef) l (subst₂ (λ z w. SpellsAll A same z w ts) (add-one i) ek x) in
        let root = made hr eb l (subst₂ (λ z w. SpellsAll A same z w us) (add-one r) ek y) in
        node_args (h (node f ts) (node f us) here root)

-- a node that is its own root is closed
agree_same : (A : Arena) (c : ℕ → ℕ) (p k : ℕ) → Agree A c p p k
unfolding Agree
agree_same A c p zero = tt
agree_same A c p (suc k) = (refl, agree_same A c (A.end p) k)

pub root_closed : (A : Arena) (c : ℕ → ℕ) (i r : ℕ) → r ≡ c i → r ≡ i → ClosedAt A c i
root_closed A c i r e q h =
    subst (λ z. (A.byte z ≡ A.byte i) × Agree A c (suc i) (suc z) (A.arity (A.byte i))) (sym q ∙ e) (refl, agree_same A c (suc i) (A.arity (A.byte i)))

-- the same, of the lists
pub ready_within : (l tab ends cs : List ℕ) → Ready l tab ends cs → (i r : ℕ) → i < length l → r ≡ at cs i → r < length l
ready_within l tab ends cs y i r h e = subst (λ z. z < length l) (sym e) (y.within i h)

pub ready_clash : (l tab ends cs : List ℕ) → Ready l tab ends cs → (i r : ℕ) → i < length l → r ≡ at cs i → at l i < 128 → (at l r ≡ at l i → ⊥) →
    Clashes (arena l tab ends) (at cs)
ready_clash l tab ends cs y i r h e k n = (i, h, k, λ q. n (ap (at l) e ∙ q))

pub ready_arguments : (l tab ends cs : List ℕ) → Ready l tab ends cs → (i r k : ℕ) → i < length l → r ≡ at cs i → at l i < 128 → at l r ≡ at l i →
    k ≡ owes tab (at l i) →
    SpellsSome (arena l tab ends) (i + 1) k × SpellsSome (arena l tab ends) (r + 1) k
ready_arguments l tab ends cs y i r k h e f b q = (
  arguments (arena l tab ends) y.whole i (at l i) k (i + 1) h refl f q refl,
  arguments (arena l tab ends) y.whole r (at l i) k (r + 1) (ready_within l tab ends cs y i r h e) b f q refl,
)

pub ready_step : (l tab ends cs : List ℕ) → Ready l tab ends cs → (i r k : ℕ) → i < length l → r ≡ at cs i → at l i < 128 → at l r ≡ at l i →
    k ≡ owes tab (at l i) →
    (s : Step) → Apart (arena l tab ends) (at cs) (i + 1) (r + 1) k s → StepIs (arena l tab ends) (at cs) i s
ready_step l tab ends cs y i r k h e f b q s g = step_apart (arena l tab ends) (at cs) i r (at l i) k s h (ready_within l tab ends cs y i r h e) e refl f b q g

-- over all nodes
abbrev pub ClosedBelow : Arena → (ℕ → ℕ) → ℕ → Type 0
ClosedBelow A c n = (i : ℕ) → i < n → ClosedAt A c i

pub below_next : (A : Arena) (c : ℕ → ℕ) (n : ℕ) → ClosedBelow A c n → (s : Step) → StepIs A c n s → s ≡ Done → ClosedBelow A c (n + 1)
below_next A c n f s g e = below_more (λ i. ClosedAt A c i) n f (subst (λ z. StepIs A c n z) e g)
