-- What the functions that normalise from the outside in answer. Assumes nothing.
-- Read first: rewriting/specs/Outermost, matching/specs/Cells, redex/specs/Step (Choice), normaliser/specs/Settled (WholeEnds).
use Rattle.std.specs.Prelude.{◌≡◌, Bool, true, false, List, [], ◌∷◌, ◌++◌, ◌⊎◌, ℕ, zero, suc, ◌+◌, ◌-◌, ◌/◌, ◌<◌, ◌≤◌, ltb, length, take, drop, Option as Optional, Some, None}
use Rattle.std.proofs.Math.Option.{Option, none, some}
use Rattle.limits.specs.Limits.{most_nodes, most_apart, byte_values, cell_base}
use Rattle.std.specs.Prelude.{if◌then◌else◌}
use Rattle.terms.specs.Term.{Term, Terms, var, node, nil, cons, term_bytes, size, subterm_at}
use Rattle.terms.specs.Flat.{Wf}
use Rattle.rewriting.specs.Overlap.{Rule, sides_of}
use Rattle.rewriting.specs.Rewrite.{root_step}
use Rattle.rewriting.specs.Outermost.{step_outer, normalise_outer}
use Rattle.matching.specs.Cells.{cells}
use Rattle.matching.specs.Held.{Within}
use Rattle.slots.specs.Slots.{Stored}
use Rattle.redex.specs.Step.{Choice}
use Rattle.redex.specs.declared.Out.{Out}
use Rattle.redex.specs.declared.Step.TheVariants.{Normal, Rewritten, Spent, TooLarge}
use Rattle.normaliser.specs.Settled.{WholeEnds}
use Rattle.outer_normaliser.specs.declared.Found.{Found}

-- `skipped`
pub record Passed (c i clean r : ℕ) : Type 0 where
  pub few : r < byte_values
  pub some_node : 0 < r
  pub size : r ≡ c / cell_base
  pub ends : i + r ≤ clean

abbrev pub Skipped : ℕ → ℕ → ℕ → Optional ℕ → Type 0
Skipped c i clean (Some r) = Passed c i clean r
Skipped c i clean None = (c / cell_base ≡ 0) ⊎ (clean < i + c / cell_base)

-- no rule matches a node before i
abbrev pub NoneBefore : List Rule → Term → ℕ → Type 0
NoneBefore rs x i = (q : ℕ) (y : Term) → subterm_at x q ≡ some y → q < i → root_step rs y ≡ none

-- no rule matches a node whose subterm ends at p or before
abbrev pub CleanTo : List Rule → Term → ℕ → Type 0
CleanTo rs x p = (q : ℕ) (y : Term) → subterm_at x q ≡ some y → q + size y ≤ p → root_step rs y ≡ none

-- the earliest matched node of x is at `at`, and the rule in slot k is the lowest there
pub record Chosen (tab rules t B : List ℕ) (at k : ℕ) (rs : List Rule) (x : Term) : Type 0 where
  pub subterm : Term
  pub stands : subterm_at x at ≡ some subterm
  pub choice : Choice tab rules (drop at t) B k subterm (root_step rs subterm)
  pub clean : NoneBefore rs x at

-- `first_redex`
pub record Earliest (rules t : List ℕ) (clean number : ℕ) (B' : List ℕ) (f : Found) : Type 0 where
  pub low : f.at < length t
  pub rule : f.rule < number
  pub within : Within (drop f.at t) B'
  pub chosen : (tab : List ℕ) (rs : List Rule) → Stored tab rules 0 (sides_of rs) → number ≡ length rs → (x : Term) →
      Wf most_apart tab x → t ≡ cells x → CleanTo rs x clean → Chosen tab rules t B' f.at f.rule rs x

abbrev pub IsFirst : List ℕ → List ℕ → ℕ → ℕ → List ℕ → Optional Found → Type 0
IsFirst rules t clean number B' (Some f) = Earliest rules t clean number B' f
IsFirst rules t clean number B' None = (tab : List ℕ) (rs : List Rule) → Stored tab rules 0 (sides_of rs) → number ≡ length rs → (x : Term) →
    Wf most_apart tab x → t ≡ cells x → CleanTo rs x clean → step_outer rs x ≡ none

pub record FirstRedex (rules t : List ℕ) (clean number : ℕ) (B B' : List ℕ) (o : Optional Found) : Type 0 where
  pub same : length B' ≡ length B
  pub found : IsFirst rules t clean number B' o

-- the cells before the node at p, where those above it have no size
unfoldable mutual
  pub opened_to : Term → ℕ → List ℕ
  opened_to (var y) p = []
  opened_to (node f ts) zero = []
  opened_to (node f ts) (suc p) = f ∷ opened_in ts p

  pub opened_in : Terms → ℕ → List ℕ
  opened_in nil p = []
  opened_in (cons t ts) p =
      let later : List ℕ = cells t ++ opened_in ts (p - size t) in
      if ltb p (size t) then opened_to t p else later

-- `open_path`: whatever stands from `at` on
pub record PathOpened (t : List ℕ) (at : ℕ) (t' : List ℕ) : Type 0 where
  pub same : length t' ≡ length t
  pub rest : drop at t' ≡ drop at t
  pub front : (tab : List ℕ) (x : Term) → Wf most_apart tab x → at < size x → take at t ≡ take at (cells x) → take at t' ≡ opened_to x at

-- the first `len` cells are those of a term, and no rule matches a node that ends at `clean` or before
pub record HoldsClean (tab : List ℕ) (rs : List Rule) (t : List ℕ) (len clean : ℕ) (x : Term) : Type 0 where
  pub wf : Wf most_apart tab x
  pub text : take len t ≡ cells x
  pub clean_to : CleanTo rs x clean

-- `step`
abbrev pub OuterTested : List ℕ → List Rule → List ℕ → ℕ → Out → Term → Bool → Type 0
OuterTested tab rs t n o u true = (o.step ≡ TooLarge) × (o.units ≡ n)
OuterTested tab rs t n o u false = (o.step ≡ Rewritten) × (o.units ≡ n) × HoldsClean tab rs t o.len o.end u

abbrev pub OuterStep : List ℕ → List Rule → List ℕ → Term → ℕ → Out → Option Term → Type 0
OuterStep tab rs t x units o none = (o.step ≡ Normal) × (o.units ≡ units) × (take o.len t ≡ cells x)
OuterStep tab rs t x zero o (some u) = (o.step ≡ Spent) × (o.units ≡ 0)
OuterStep tab rs t x (suc n) o (some u) = OuterTested tab rs t n o u (ltb most_nodes (size u))

pub record SteppedOuter (tab rules : List ℕ) (number : ℕ) (t : List ℕ) (len clean units : ℕ) (t' : List ℕ) (o : Out) : Type 0 where
  pub same : length t' ≡ length t
  pub small : o.len ≤ most_nodes
  pub left_over : o.units ≤ units
  pub paid : o.step ≡ Rewritten → o.units + 1 ≡ units
  pub answer : (rs : List Rule) → Stored tab rules 0 (sides_of rs) → number ≡ length rs → (x : Term) → HoldsClean tab rs t len clean x →
      OuterStep tab rs t' x units o (step_outer rs x)

-- `steps`: from a term's bytes to its last term
pub record ReachedOuter (tab rules : List ℕ) (number : ℕ) (t : List ℕ) (len units : ℕ) (t' : List ℕ) (o : Out) : Type 0 where
  pub same : length t' ≡ length t
  pub small : o.len ≤ most_nodes
  pub left_over : o.units ≤ units
  pub answer : (rs : List Rule) → Stored tab rules 0 (sides_of rs) → number ≡ length rs → (x : Term) → Wf most_apart tab x →
      take len t ≡ term_bytes x → WholeEnds tab t' o (normalise_outer rs x units)
