-- Rewriting from the outside in: a step of `step_outer` is at the earliest matched node, and is a step by the rules; none means that the term is normal.
-- Assumes nothing.
-- Read first: specs/Outermost, proofs/Stepping, proofs/Earliest.
use mathlib.Core.Path.{◌≡◌, refl, sym, ap, ap₂, ◌∙◌}
use mathlib.Core.List.{List}
use mathlib.Core.Option.{Option, none, some}
use Prim.Native.Nat.{ℕ, suc, zero, ◌+◌, ◌-◌, ◌<◌}
use native.Mathlib.Omega.{arith}
use native.Mathlib.Decide.{dec_lt}
use Rattle.terms.specs.Base.{mapped, or_else}
use Rattle.terms.specs.Term.{Term, Terms, var, node, nil, cons, size, subterm_at, subterm_in, replace_at, replace_in}
use Rattle.terms.proofs.Positions.{at_zero, in_first, in_later, subterm_below}
use Rattle.rewriting.specs.Overlap.{Rule}
use Rattle.rewriting.specs.Rewrite.{root_step}
use Rattle.rewriting.specs.Outermost.{step_outer, step_outer_in}
use Rattle.rewriting.proofs.Relations.{Normal, inside}
use Rattle.rewriting.proofs.Stepping.{StepBy, Rooted, rooted, Stepped, SteppedIn, applied_step, normal_node, normal_nil, var_go, cons_go}
use Rattle.rewriting.proofs.Earliest.{Redex, NoRedex, replace_root, replace_first, replace_later, none_at_root, var_none, node_none}
use Rattle.rewriting.proofs.Earliest.{first_none, both_none, nil_none, same_redex}

-- "the earliest matched node in preorder": none before it is matched
pub record First (rules : List Rule) {A : Type 0} (at : ℕ → Option Term) (put : ℕ → Term → A) (u : A) : Type 0 where
  pub position : ℕ
  pub redex : Redex rules at position
  pub none_before : (q : ℕ) → q < position → Redex rules at q → ⊥
  pub result : u ≡ put position redex.rewritten

abbrev Picks : List Rule → {A : Type 0} → (ℕ → Option Term) → (ℕ → Term → A) → Option A → Type 0
Picks rules at put none = NoRedex rules at
Picks rules at put (some u) = First rules at put u

module _ (rules : List Rule) where
  root_first : (t u : Term) → root_step rules t ≡ some u → First rules (subterm_at t) (replace_at t) u
  root_first t u e =
      record {
        position = 0;
        redex = record { subterm = t; stands = at_zero t; rewritten = u; matched = e };
        none_before = λ q h r. absurd (omega arith);
        result = sym (replace_root t u);
      }

  var_picks : (x : ℕ) (p : Option Term) → root_step rules (var x) ≡ p → Picks rules (subterm_at (var x)) (replace_at (var x)) p
  var_picks x (some u) e = root_first (var x) u e
  var_picks x none e = go
    where
      go : (p : ℕ) → Redex rules (subterm_at (var x)) p → ⊥
      go zero r = none_at_root rules (var x) e r
      go (suc q) r = var_none rules x q r

  module _ (f : ℕ) (ts : Terms) (e : root_step rules (node f ts) ≡ none) where
    node_nothing : NoRedex rules (subterm_in ts) → (p : ℕ) → Redex rules (subterm_at (node f ts)) p → ⊥
    node_nothing n zero r = none_at_root rules (node f ts) e r
    node_nothing n (suc q) r = node_none rules f ts n q r

    node_first : (us : Terms) → First rules (subterm_in ts) (replace_in ts) us → First rules (subterm_at (node f ts)) (replace_at (node f ts)) (node f us)
    unfolding subterm_at replace_at
    node_first us c =
        record {
          position = suc c.position;
          redex = record { subterm = c.redex.subterm; stands = c.redex.stands; rewritten = c.redex.rewritten; matched = c.redex.matched };
          none_before = go;
          result = ap (node f) c.result;
        }
      where
        go : (q : ℕ) → q < suc c.position → Redex rules (subterm_at (node f ts)) q → ⊥
        go zero h r = none_at_root rules (node f ts) e r
        go (suc q) h r = c.none_before q (omega arith) (record { subterm = r.subterm; stands = r.stands; rewritten = r.rewritten; matched = r.matched })

  node_picks : (f : ℕ) (ts : Terms) (p : Option Term) → root_step rules (node f ts) ≡ p → (o : Option Terms) → Picks rules (subterm_in ts) (replace_in ts) o →
      Picks rules (subterm_at (node f ts)) (replace_at (node f ts)) (or_else p (mapped (node f) o))
  unfolding mapped or_else
  node_picks f ts (some u) e o h = root_first (node f ts) u e
  node_picks f ts none e (some us) c = node_first f ts e us c
  node_picks f ts none e none n = node_nothing f ts e n

  module _ (t : Term) (ts : Terms) where
    first_first : (u : Term) → First rules (subterm_at t) (replace_at t) u → First rules (subterm_in (cons t ts)) (replace_in (cons t ts)) (cons u ts)
    first_first u c =
        let i : c.position < size t = subterm_below t c.position c.redex.subterm c.redex.stands in
        record {
          position = c.position;
          redex = record {
            subterm = c.redex.subterm;
            stands = in_first t ts c.position i ∙ c.redex.stands;
            rewritten = c.redex.rewritten;
            matched = c.redex.matched;
          };
          none_before = λ q h r.
              c.none_before q h
              (record { subterm = r.subterm; stands = sym (in_first t ts q (omega arith)) ∙ r.stands; rewritten = r.rewritten; matched = r.matched });
          result = ap (λ v. cons v ts) c.result ∙ sym (replace_first t ts c.position c.redex.rewritten i);
        }

    later_first : NoRedex rules (subterm_at t) → (us : Terms) → First rules (subterm_in ts) (replace_in ts) us →
        First rules (subterm_in (cons t ts)) (replace_in (cons t ts)) (cons t us)
    later_first n us c =
        record {
          position = size t + c.position;
          redex = record {
            subterm = c.redex.subterm;
            stands = in_later t ts (size t + c.position) c.position refl ∙ c.redex.stands;
            rewritten = c.redex.rewritten;
            matched = c.redex.matched;
          };
          none_before = λ q h r. go q h r (dec_lt q (size t));
          result = ap (cons t) c.result ∙ sym (replace_later t ts c.position c.redex.rewritten);
        }
      where
        go : (q : ℕ) → q < size t + c.position → Redex rules (subterm_in (cons t ts)) q → Dec (q < size t) → ⊥
        go q h r (yes l) = first_none rules t ts n q l r
        go q h r (no l) =
            c.none_before (q - size t) (omega arith)
            (record {
              subterm = r.subterm;
              stands = sym (in_later t ts q (q - size t) (omega arith)) ∙ r.stands;
              rewritten = r.rewritten;
              matched = r.matched;
            })

    cons_picks : (o : Option Term) → Picks rules (subterm_at t) (replace_at t) o → (p : Option Terms) → Picks rules (subterm_in ts) (replace_in ts) p →
        Picks rules (subterm_in (cons t ts)) (replace_in (cons t ts)) (or_else (mapped (λ u. cons u ts) o) (mapped (cons t) p))
    unfolding mapped or_else
    cons_picks (some u) c p h = first_first u c
    cons_picks none n (some us) c = later_first n us c
    cons_picks none n none m = both_none rules t ts n m

  mutual
    unfolding step_outer step_outer_in

    picks : (t : Term) → Picks rules (subterm_at t) (replace_at t) (step_outer rules t)
    picks (var x) = var_picks x (root_step rules (var x)) refl
    picks (node f ts) = node_picks f ts (root_step rules (node f ts)) refl (step_outer_in rules ts) (picks_in ts)

    picks_in : (ts : Terms) → Picks rules (subterm_in ts) (replace_in ts) (step_outer_in rules ts)
    picks_in nil = nil_none rules
    picks_in (cons t ts) = cons_picks t ts (step_outer rules t) (picks t) (step_outer_in rules ts) (picks_in ts)

  -- A step rewrites the earliest matched node; the rule is the lowest there (proofs/Earliest: `root_step_lowest`).
  pub outer_first : (t u : Term) → step_outer rules t ≡ some u → First rules (subterm_at t) (replace_at t) u
  outer_first t u e = rw e at (picks t)

  pub outer_no_redex : (t : Term) → step_outer rules t ≡ none → NoRedex rules (subterm_at t)
  outer_no_redex t e = rw e at (picks t)

  -- There is one such node only: so it is the one that a step rewrites.
  pub first_unique : {A : Type 0} {at : ℕ → Option Term} {put : ℕ → Term → A} {u v : A} → First rules at put u → First rules at put v → u ≡ v
  first_unique {put = put} c d =
      let h : ¬ (c.position < d.position) = λ l. d.none_before c.position l c.redex in
      let k : ¬ (d.position < c.position) = λ l. c.none_before d.position l d.redex in
      let e : c.position ≡ d.position = omega arith in
      c.result ∙ ap₂ put e (same_redex rules c.position d.position e c.redex d.redex) ∙ sym d.result

  pub first_step : (t u : Term) → First rules (subterm_at t) (replace_at t) u → step_outer rules t ≡ some u
  first_step t u c = go (step_outer rules t) refl
    where
      go : (o : Option Term) → step_outer rules t ≡ o → step_outer rules t ≡ some u
      go none e = absurd (outer_no_redex t e c.position c.redex)
      go (some v) e = e ∙ ap some (first_unique (outer_first t v e) c)

module _ (rules : List Rule) where
  outer_go : (f : ℕ) (ts : Terms) (p : Option Term) → Rooted rules (node f ts) p → (o : Option Terms) → SteppedIn rules ts o →
      Stepped rules (node f ts) (or_else p (mapped (node f) o))
  unfolding mapped or_else
  outer_go f ts (some u) a o h = applied_step rules a
  outer_go f ts none m (some us) s = inside s
  outer_go f ts none m none n = normal_node rules f ts m n

  mutual
    unfolding step_outer step_outer_in

    outer_stepped : (t : Term) → Stepped rules t (step_outer rules t)
    outer_stepped (var x) = var_go rules x (root_step rules (var x)) (rooted rules (var x))
    outer_stepped (node f ts) = outer_go f ts (root_step rules (node f ts)) (rooted rules (node f ts)) (step_outer_in rules ts) (outer_stepped_in ts)

    outer_stepped_in : (ts : Terms) → SteppedIn rules ts (step_outer_in rules ts)
    outer_stepped_in nil = normal_nil rules
    outer_stepped_in (cons t ts) = cons_go rules t ts (step_outer rules t) (outer_stepped t) (step_outer_in rules ts) (outer_stepped_in ts)

  -- What `step_outer` answers is one step.
  pub outer_sound : (t u : Term) → step_outer rules t ≡ some u → StepBy rules t u
  outer_sound t u e = rw e at (outer_stepped t)

  -- Where it answers none, the term is normal.
  pub outer_none : (t : Term) → step_outer rules t ≡ none → Normal (StepBy rules) t
  outer_none t e = rw e at (outer_stepped t)
