-- Which node and which rule a step takes, and how normalising goes on, in document 01's own words. Assumes nothing.
-- Read first: specs/Rewrite (root_step, step, normalise), terms/specs/Term (subterm_at, replace_at); then here the records `Earliest` and `LowestRule`.
use mathlib.Core.Path.{◌≡◌, refl, sym, ap, ap₂, ◌∙◌}
use mathlib.Core.Bool.{Bool, true, false}
use mathlib.Core.List.{List, [], ◌∷◌, ◌++◌}
use mathlib.Core.Option.{Option, none, some}
use Prim.Native.Nat.{ℕ, suc, zero, ◌+◌, ◌-◌, ◌<◌, ◌≤◌}
use native.Mathlib.Omega.{arith}
use native.Mathlib.Decide.{dec_lt}
use lib.Dec.{ltb}
use lib.ListN.{length, length-append}
use borrow.Author.Tests.{lt-ltb, le-ltb}
use Rattle.std.specs.Prelude.{if◌then◌else◌}
use Rattle.terms.specs.Base.{mapped, or_else, Every, of_none, of_cons}
use Rattle.terms.specs.Term.{Term, Terms, var, node, nil, cons, size, sizes, term_bytes, subterm_at, subterm_in, replace_at, replace_in}
use Rattle.terms.proofs.Shape.{none≢some, some_inj}
use Rattle.terms.proofs.Context.{hole, plug}
use Rattle.terms.proofs.Places.{number, size_pos}
use Rattle.terms.proofs.Positions.{at_zero, in_first, in_later, replace_plug, subterm_below, subterm_in_below}
use Rattle.terms.proofs.Bytes.{Around, around, around_in, length_bytes, length_bytes_all}
use Rattle.unify.specs.Unify.{Binding}
use Rattle.rewriting.specs.Overlap.{Rule}
use Rattle.rewriting.specs.Rewrite.{matching, instantiate, root_step, step, step_in, too_large, stop, Paying, return, and_then, ◌>>=◌, end_if}
use Rattle.rewriting.specs.Rewrite.{end_with, pay, hold, normalise, normalise_by}

-- A node that a rule's left side matches, by its position: `at` tells which subterm stands at each.
pub record Redex (rules : List Rule) (at : ℕ → Option Term) (position : ℕ) : Type 0 where
  pub subterm : Term
  pub stands : at position ≡ some subterm
  pub rewritten : Term
  pub matched : root_step rules subterm ≡ some rewritten

-- no node is matched
abbrev pub NoRedex : List Rule → (ℕ → Option Term) → Type 0
NoRedex rules at = (p : ℕ) → Redex rules at p → ⊥

-- One strictly below the node at p, where x stands: in preorder a node's subterm is the run of nodes from it on.
pub record RedexBelow (rules : List Rule) (at : ℕ → Option Term) (p : ℕ) (x : Term) : Type 0 where
  pub position : ℕ
  pub after : p < position
  pub within : position < p + size x
  pub redex : Redex rules at position

-- "The node is the earliest in preorder among those with no matched node strictly below": none is below it, and each matched node before it has
-- one below. What comes out is the whole with the node's subterm rewritten: `put` replaces the subterm at a position.
pub record Earliest (rules : List Rule) {A : Type 0} (at : ℕ → Option Term) (put : ℕ → Term → A) (u : A) : Type 0 where
  pub position : ℕ
  pub redex : Redex rules at position
  pub none_below : RedexBelow rules at position redex.subterm → ⊥
  pub earliest : (q : ℕ) → q < position → (r : Redex rules at q) → RedexBelow rules at q r.subterm
  pub result : u ≡ put position redex.rewritten

-- what an answer of `step` or `step_in` says
abbrev Picks : List Rule → {A : Type 0} → (ℕ → Option Term) → (ℕ → Term → A) → Option A → Type 0
Picks rules at put none = NoRedex rules at
Picks rules at put (some u) = Earliest rules at put u

-- a subterm ends where its term does, or before
run_within : {bytes : List ℕ} {with_v : Term → List ℕ} {p : ℕ} {x : Term} → Around bytes with_v p x → p + size x ≤ length bytes
run_within {x = x} r =
    let n = ap length r.holds in
    omega (arith, n, r.begins, length-append r.before (term_bytes x ++ r.after), length-append (term_bytes x) r.after, length_bytes x)

subterm_within : (t : Term) (p : ℕ) (x : Term) → subterm_at t p ≡ some x → p + size x ≤ size t
subterm_within t p x e = omega (arith, run_within (around t p x e), length_bytes t)

subterm_in_within : (ts : Terms) (p : ℕ) (x : Term) → subterm_in ts p ≡ some x → p + size x ≤ sizes ts
subterm_in_within ts p x e = omega (arith, run_within (around_in ts p x e), length_bytes_all ts)

pub replace_root : (t v : Term) → replace_at t 0 v ≡ v
unfolding plug number
replace_root t v = replace_plug hole t v

pub replace_first : (t : Term) (ts : Terms) (p : ℕ) (v : Term) → p < size t → replace_in (cons t ts) p v ≡ cons (replace_at t p v) ts
unfolding replace_in
replace_first t ts p v h = rw (lt-ltb p (size t) h) refl

pub replace_later : (t : Term) (ts : Terms) (p : ℕ) (v : Term) → replace_in (cons t ts) (size t + p) v ≡ cons t (replace_in ts p v)
unfolding replace_in
replace_later t ts p v =
    let z : size t + p - size t ≡ p = omega arith in
    rw (le-ltb (size t + p) (size t) (omega arith), z) refl

module _ (rules : List Rule) where
  -- A part's n positions are those of the whole from k on: its redexes are the whole's, and so is its earliest, where each before the part has one below.
  module _ (at at' : ℕ → Option Term) (k n : ℕ) (agrees : (p q : ℕ) → q ≡ k + p → p < n → at' q ≡ at p)
      (inside : (p : ℕ) (x : Term) → at p ≡ some x → p + size x ≤ n) where
    abbrev to_part : (p q : ℕ) → q ≡ k + p → p < n → Redex rules at' q → Redex rules at p
    to_part p q e h r = record { subterm = r.subterm; stands = sym (agrees p q e h) ∙ r.stands; rewritten = r.rewritten; matched = r.matched }

    abbrev to_whole : (p q : ℕ) → q ≡ k + p → Redex rules at p → Redex rules at' q
    to_whole p q e r =
        record {
          subterm = r.subterm;
          stands = agrees p q e (omega (arith, inside p r.subterm r.stands, size_pos r.subterm)) ∙ r.stands;
          rewritten = r.rewritten;
          matched = r.matched;
        }

    to_whole_below : (p q : ℕ) (x : Term) → q ≡ k + p → RedexBelow rules at p x → RedexBelow rules at' q x
    to_whole_below p q x e b =
        let a = b.after in
        let w = b.within in
        record { position = k + b.position; after = omega arith; within = omega arith; redex = to_whole b.position (k + b.position) refl b.redex }

    to_whole_earliest : {A B : Type 0} {put : ℕ → Term → A} {put' : ℕ → Term → B} {u : A} (u' : B) → (c : Earliest rules at put u) → (m : ℕ) →
        m ≡ k + c.position →
        ((q : ℕ) → q < k → (r : Redex rules at' q) → RedexBelow rules at' q r.subterm) → u' ≡ put' m c.redex.rewritten → Earliest rules at' put' u'
    to_whole_earliest u' c m at_m before e =
        let i : c.position + size c.redex.subterm ≤ n = inside c.position c.redex.subterm c.redex.stands in
        record {
          position = m;
          redex = to_whole c.position m at_m c.redex;
          none_below =
              λ b.
              let a = b.after in
              let w = b.within in
              c.none_below (record {
                position = b.position - k;
                after = omega arith;
                within = omega arith;
                redex = to_part (b.position - k) b.position (omega arith) (omega arith) b.redex;
              });
          earliest = λ q h r. go q h r (dec_lt q k);
          result = e;
        }
      where
        go : (q : ℕ) → q < m → (r : Redex rules at' q) → Dec (q < k) → RedexBelow rules at' q r.subterm
        go q h r (yes l) = before q l r
        go q h r (no l) =
            let i : c.position + size c.redex.subterm ≤ n = inside c.position c.redex.subterm c.redex.stands in
            to_whole_below (q - k) q r.subterm (omega arith) (c.earliest (q - k) (omega arith) (to_part (q - k) q (omega arith) (omega arith) r))

  -- At the root: none is before it, and the others are below.
  pub none_at_root : (t : Term) → root_step rules t ≡ none → Redex rules (subterm_at t) 0 → ⊥
  none_at_root t e r =
      let same : t ≡ r.subterm = some_inj (sym (at_zero t) ∙ r.stands) in
      none≢some (sym e ∙ ap (root_step rules) same ∙ r.matched)

  at_root : (t u : Term) → root_step rules t ≡ some u → ((q : ℕ) → Redex rules (subterm_at t) (suc q) → ⊥) → Earliest rules (subterm_at t) (replace_at t) u
  at_root t u e n = record {
    position = 0;
    redex = record { subterm = t; stands = at_zero t; rewritten = u; matched = e };
    none_below = λ b. go b.position b.after b.redex;
    earliest = λ q h r. absurd (omega arith);
    result = sym (replace_root t u);
  }
    where
      go : (q : ℕ) → 0 < q → Redex rules (subterm_at t) q → ⊥
      go zero h r = absurd (omega arith)
      go (suc q) h r = n q r

  root_picks : (t : Term) → ((q : ℕ) → Redex rules (subterm_at t) (suc q) → ⊥) → (o : Option Term) → root_step rules t ≡ o →
      Picks rules (subterm_at t) (replace_at t) o
  root_picks t n (some u) e = at_root t u e n
  root_picks t n none e = go
    where
      go : (p : ℕ) → Redex rules (subterm_at t) p → ⊥
      go zero r = none_at_root t e r
      go (suc q) r = n q r

  pub var_none : (x q : ℕ) → Redex rules (subterm_at (var x)) (suc q) → ⊥
  unfolding subterm_at
  var_none x q r = none≢some r.stands

  -- Beneath a symbol: the root alone is before them, and they are below it.
  module _ (f : ℕ) (ts : Terms) where
    node_agrees : (p q : ℕ) → q ≡ 1 + p → p < sizes ts → subterm_at (node f ts) q ≡ subterm_in ts p
    unfolding subterm_at
    node_agrees p q e h =
        let z : q ≡ suc p = omega arith in
        ap (subterm_at (node f ts)) z

    pub node_none : NoRedex rules (subterm_in ts) → (q : ℕ) → Redex rules (subterm_at (node f ts)) (suc q) → ⊥
    unfolding subterm_at
    node_none n q r = n q (record { subterm = r.subterm; stands = r.stands; rewritten = r.rewritten; matched = r.matched })

    node_some : (us : Terms) → Earliest rules (subterm_in ts) (replace_in ts) us → Earliest rules (subterm_at (node f ts)) (replace_at (node f ts)) (node f us)
    unfolding subterm_at replace_at size
    node_some us c =
        to_whole_earliest (subterm_in ts) (subterm_at (node f ts)) 1 (sizes ts) node_agrees (subterm_in_within ts) (node f us) c (suc c.position)
        (omega arith) go (ap (node f) c.result)
      where
        go : (q : ℕ) → q < 1 → (r : Redex rules (subterm_at (node f ts)) q) → RedexBelow rules (subterm_at (node f ts)) q r.subterm
        go (suc q) h r = absurd (omega arith)
        go zero h r =
            let i = subterm_in_within ts c.position c.redex.subterm c.redex.stands in
            let same : size (node f ts) ≡ size r.subterm = ap size (some_inj r.stands) in
            record {
              position = suc c.position;
              after = omega arith;
              within = omega (arith, size_pos c.redex.subterm);
              redex = to_whole (subterm_in ts) (subterm_at (node f ts)) 1 (sizes ts) node_agrees (subterm_in_within ts) c.position
                  (suc c.position) (omega arith) c.redex;
            }

    node_picks : (o : Option Terms) → Picks rules (subterm_in ts) (replace_in ts) o → (p : Option Term) → root_step rules (node f ts) ≡ p →
        Picks rules (subterm_at (node f ts)) (replace_at (node f ts)) (or_else (mapped (node f) o) p)
    unfolding mapped or_else
    node_picks (some us) c p e = node_some us c
    node_picks none n p e = root_picks (node f ts) (node_none n) p e

  -- Of several terms, the positions of the first come before those of the others.
  module _ (t : Term) (ts : Terms) where
    first_some : (u : Term) → Earliest rules (subterm_at t) (replace_at t) u → Earliest rules (subterm_in (cons t ts)) (replace_in (cons t ts)) (cons u ts)
    first_some u c =
        to_whole_earliest (subterm_at t) (subterm_in (cons t ts)) 0 (size t)
        (λ p q e h. let z : q ≡ p = omega arith in ap (subterm_in (cons t ts)) z ∙ in_first t ts p h)
        (subterm_within t) (cons u ts) c c.position (omega arith) (λ q h r. absurd (omega arith))
        (ap (λ v. cons v ts) c.result
        ∙ sym (replace_first t ts c.position c.redex.rewritten (subterm_below t c.position c.redex.subterm c.redex.stands)))

    later_agrees : (p q : ℕ) → q ≡ size t + p → p < sizes ts → subterm_in (cons t ts) q ≡ subterm_in ts p
    later_agrees p q e h = in_later t ts q p e

    pub first_none : NoRedex rules (subterm_at t) → (q : ℕ) → q < size t → Redex rules (subterm_in (cons t ts)) q → ⊥
    first_none n q h r = n q (record { subterm = r.subterm; stands = sym (in_first t ts q h) ∙ r.stands; rewritten = r.rewritten; matched = r.matched })

    later_some : NoRedex rules (subterm_at t) → (us : Terms) → Earliest rules (subterm_in ts) (replace_in ts) us →
        Earliest rules (subterm_in (cons t ts)) (replace_in (cons t ts)) (cons t us)
    later_some n us c =
        to_whole_earliest (subterm_in ts) (subterm_in (cons t ts)) (size t) (sizes ts) later_agrees (subterm_in_within ts) (cons t us) c
        (size t + c.position) refl
        (λ q h r. absurd (first_none n q h r))
        (ap (cons t) c.result ∙ sym (replace_later t ts c.position c.redex.rewritten))

    pub both_none : NoRedex rules (subterm_at t) → NoRedex rules (subterm_in ts) → NoRedex rules (subterm_in (cons t ts))
    unfolding sizes
    both_none n m q r = go (dec_lt q (size t))
      where
        go : Dec (q < size t) → ⊥
        go (yes h) = first_none n q h r
        go (no h) =
            let i : q < size t + sizes ts = subterm_in_below (cons t ts) q r.subterm r.stands in
            m (q - size t) (to_part (subterm_in ts) (subterm_in (cons t ts)) (size t) (sizes ts) later_agrees (subterm_in_within ts) (q - size t) q
            (omega arith) (omega arith) r)

    cons_picks : (o : Option Term) → Picks rules (subterm_at t) (replace_at t) o → (p : Option Terms) → Picks rules (subterm_in ts) (replace_in ts) p →
        Picks rules (subterm_in (cons t ts)) (replace_in (cons t ts)) (or_else (mapped (λ u. cons u ts) o) (mapped (cons t) p))
    unfolding mapped or_else
    cons_picks (some u) c p h = first_some u c
    cons_picks none n (some us) c = later_some n us c
    cons_picks none n none m = both_none n m

  pub nil_none : NoRedex rules (subterm_in nil)
  unfolding subterm_in
  nil_none p r = none≢some r.stands

  mutual
    unfolding step step_in

    picks : (t : Term) → Picks rules (subterm_at t) (replace_at t) (step rules t)
    picks (var x) = root_picks (var x) (var_none x) (root_step rules (var x)) refl
    picks (node f ts) = node_picks f ts (step_in rules ts) (picks_in ts) (root_step rules (node f ts)) refl

    picks_in : (ts : Terms) → Picks rules (subterm_in ts) (replace_in ts) (step_in rules ts)
    picks_in nil = nil_none
    picks_in (cons t ts) = cons_picks t ts (step rules t) (picks t) (step_in rules ts) (picks_in ts)

  -- A step rewrites the earliest matched node with none below.
  pub step_earliest : (t u : Term) → step rules t ≡ some u → Earliest rules (subterm_at t) (replace_at t) u
  step_earliest t u e = rw e at (picks t)

  -- Where there is no step, no node is matched.
  pub step_no_redex : (t : Term) → step rules t ≡ none → NoRedex rules (subterm_at t)
  step_no_redex t e = rw e at (picks t)

  -- There is one such node only: so it is the one that a step rewrites.
  not_before : {A : Type 0} {at : ℕ → Option Term} {put : ℕ → Term → A} {u v : A} (c : Earliest rules at put u) (d : Earliest rules at put v) →
      c.position < d.position → ⊥
  not_before c d h = c.none_below (d.earliest c.position h c.redex)

  pub same_redex : {at : ℕ → Option Term} (p q : ℕ) → p ≡ q → (r : Redex rules at p) (s : Redex rules at q) → r.rewritten ≡ s.rewritten
  same_redex p q e r s =
      let a = r.stands in
      let b = s.stands in
      let c = r.matched in
      let d = s.matched in
      cc

  pub earliest_unique : {A : Type 0} {at : ℕ → Option Term} {put : ℕ → Term → A} {u v : A} → Earliest rules at put u → Earliest rules at put v → u ≡ v
  earliest_unique {put = put} c d =
      let h : ¬ (c.position < d.position) = not_before c d in
      let k : ¬ (d.position < c.position) = not_before d c in
      let e : c.position ≡ d.position = omega arith in
      c.result ∙ ap₂ put e (same_redex c.position d.position e c.redex d.redex) ∙ sym d.result

  pub earliest_step : (t u : Term) → Earliest rules (subterm_at t) (replace_at t) u → step rules t ≡ some u
  earliest_step t u c = go (step rules t) refl
    where
      go : (o : Option Term) → step rules t ≡ o → step rules t ≡ some u
      go none e = absurd (step_no_redex t e c.position c.redex)
      go (some v) e = e ∙ ap some (earliest_unique (step_earliest t v e) c)

-- the rule's left side does not match the term
abbrev pub Misses : Term → Rule → Type 0
Misses t rule = matching rule.sides.left t [] ≡ none

-- "the rule is the lowest numbered that matches there": the first, and a state's rules stand in ascending order (completion/proofs/Limits: `ascending`).
pub record LowestRule (rules : List Rule) (t u : Term) : Type 0 where
  pub before : List Rule
  pub rule : Rule
  pub after : List Rule
  pub split : rules ≡ before ++ (rule ∷ after)
  pub none_before : Every (Misses t) before
  pub bindings : List Binding
  pub matches : matching rule.sides.left t [] ≡ some bindings
  pub result : u ≡ instantiate bindings rule.sides.right

-- what an answer of `root_step` says
abbrev Takes : List Rule → Term → Option Term → Type 0
Takes rules t none = Every (Misses t) rules
Takes rules t (some u) = LowestRule rules t u

takes_cons : (rule : Rule) (rules : List Rule) (t : Term) (o : Option (List Binding)) → matching rule.sides.left t [] ≡ o → (p : Option Term) →
    Takes rules t p →
    Takes (rule ∷ rules) t (or_else (mapped (λ bs. instantiate bs rule.sides.right) o) p)
unfolding mapped or_else
takes_cons rule rules t (some bs) e p h =
    record { before = []; rule = rule; after = rules; split = refl; none_before = of_none; bindings = bs; matches = e; result = refl }
takes_cons rule rules t none e none h = of_cons e h
takes_cons rule rules t none e (some u) h = record {
  before = rule ∷ h.before;
  rule = h.rule;
  after = h.after;
  split = ap (λ l. rule ∷ l) h.split;
  none_before = of_cons e h.none_before;
  bindings = h.bindings;
  matches = h.matches;
  result = h.result;
}

takes_lowest : (rules : List Rule) (t : Term) → Takes rules t (root_step rules t)
unfolding root_step
takes_lowest [] t = of_none
takes_lowest (rule ∷ rules) t = takes_cons rule rules t (matching rule.sides.left t []) refl (root_step rules t) (takes_lowest rules t)

pub root_step_lowest : (rules : List Rule) (t u : Term) → root_step rules t ≡ some u → LowestRule rules t u
root_step_lowest rules t u e = rw e at (takes_lowest rules t)

pub root_step_none : (rules : List Rule) (t : Term) → root_step rules t ≡ none → Every (Misses t) rules
root_step_none rules t e = rw e at (takes_lowest rules t)

lowest_taken : (rule : Rule) (after : List Rule) (t : Term) (bs : List Binding) → matching rule.sides.left t [] ≡ some bs →
    (before : List Rule) → Every (Misses t) before → root_step (before ++ (rule ∷ after)) t ≡ some (instantiate bs rule.sides.right)
unfolding root_step mapped or_else
lowest_taken rule after t bs e [] h = rw e refl
lowest_taken rule after t bs e (r ∷ before) (of_cons q h) = rw q (lowest_taken rule after t bs e before h)

pub lowest_root_step : (rules : List Rule) (t u : Term) → LowestRule rules t u → root_step rules t ≡ some u
lowest_root_step rules t u l =
    ap (λ rs. root_step rs t) l.split ∙ lowest_taken l.rule l.after t l.bindings l.matches l.before l.none_before ∙ ap some
    (sym l.result)

-- The answer where step says none, and where it says some u: "while some rule's left side matches a node, rewrite. .. The unit is paid first; the step's
-- term is tested for size after."
abbrev pub unfolded : List Rule → Term → Option Term → Paying Term
unfolded rules t none = return t
unfolded rules t (some u) = do
  _ ← pay
  _ ← hold u
  normalise rules u

pub normalise_unfolds : (rules : List Rule) (t : Term) (left : ℕ) → normalise rules t left ≡ unfolded rules t (step rules t) left
unfolding normalise_by return end_with and_then ◌>>=◌ end_if pay hold
normalise_unfolds rules t zero = go (step rules t) refl
  where
    go : (o : Option Term) → step rules t ≡ o → normalise rules t zero ≡ unfolded rules t o zero
    go none e = rw (e, normalise_by) refl
    go (some u) e = rw (e, normalise_by) refl
normalise_unfolds rules t (suc left) = go (step rules t) refl
  where
    tested : (u : Term) (b : Bool) → (if b then stop too_large left else normalise rules u left) ≡ and_then (end_if b too_large left) (λ _. normalise rules u)
    tested u true = refl
    tested u false = refl

    go : (o : Option Term) → step rules t ≡ o → normalise rules t (suc left) ≡ unfolded rules t o (suc left)
    go none e = rw (e, normalise_by) refl
    go (some u) e = rw (e, normalise_by) (tested u (ltb 120 (size u)))
