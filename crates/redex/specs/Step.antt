-- What the functions that look for a redex and rewrite it answer. Assumes nothing.
-- Read first: specs/Marks, slots/specs/Slots (PairAt, Stored), matching/specs/Held (Rep, MatchingIs), rewriting/specs/Rewrite (root_step).
use Rattle.std.specs.Prelude.{◌≡◌, Bool, true, false, List, [], ◌++◌, ℕ, zero, suc, ◌+◌, ◌<◌, ◌≤◌, ltb, length, take, Option as Optional, Some, None}
use Rattle.std.proofs.Math.Option.{Option, none, some}
use Rattle.limits.specs.Limits.{most_apart, most_variables}
use Rattle.terms.specs.Term.{Term, Pair, size}
use Rattle.terms.specs.Flat.{Wf}
use Rattle.unify.specs.Unify.{Binding}
use Rattle.rewriting.specs.Overlap.{Rule, sides_of}
use Rattle.rewriting.specs.Rewrite.{matching, instantiate, root_step}
use Rattle.matching.specs.Cells.{cells, Stands}
use Rattle.matching.specs.Held.{Rep, Within, MatchingIs}
use Rattle.redex.specs.Marks.{Marked, ArgumentsNormal, open_cells}
use Rattle.slots.specs.Slots.{PairAt, Stored}
use Rattle.redex.specs.declared.Out.{Out}
use Rattle.redex.specs.declared.Step.{Step}
use Rattle.redex.specs.declared.Step.TheVariants.{Normal, Rewritten, Spent, TooLarge}

-- `fits`
pub record Fitted (rules T : List ℕ) (k : ℕ) (B : List ℕ) (r : Bool) (B' : List ℕ) : Type 0 where
  pub same : length B' ≡ length B
  pub within : r ≡ true → Within T B'
  pub answer : (tab : List ℕ) (p : Pair) → PairAt most_variables tab rules k p → (x : Term) → Stands tab T (size x) 0 x →
      MatchingIs tab T (size x) r B' (matching p.left x [])

-- `find`
pub record Choice (tab rules T B : List ℕ) (k : ℕ) (x : Term) (o : Option Term) : Type 0 where
  pub rule : Pair
  pub bindings : List Binding
  pub matched : matching rule.left x [] ≡ some bindings
  pub place : PairAt most_variables tab rules k rule
  pub held : Rep tab T (size x) B bindings
  pub result : o ≡ some (instantiate bindings rule.right)

pub record Lowest (rules T : List ℕ) (number k : ℕ) (B' : List ℕ) : Type 0 where
  pub below : k < number
  pub within : Within T B'
  pub lowest : (tab : List ℕ) (rs : List Rule) → Stored tab rules 0 (sides_of rs) → number ≡ length rs → (x : Term) →
      Stands tab T (size x) 0 x → Choice tab rules T B' k x (root_step rs x)

abbrev pub IsFound : List ℕ → List ℕ → ℕ → List ℕ → Optional ℕ → Type 0
IsFound rules T number B' (Some k) = Lowest rules T number k B'
IsFound rules T number B' None = (tab : List ℕ) (rs : List Rule) → Stored tab rules 0 (sides_of rs) → number ≡ length rs → (x : Term) →
    Stands tab T (size x) 0 x → root_step rs x ≡ none

pub record FoundRule (rules T : List ℕ) (number : ℕ) (o : Optional ℕ) (B B' : List ℕ) : Type 0 where
  pub same : length B' ≡ length B
  pub found : IsFound rules T number B' o

-- the term u, of which some subterms are known to be normal, and then `post` are the first `len` cells
pub record CellsHold (tab : List ℕ) (rs : List Rule) (t : List ℕ) (len : ℕ) (u : Term) (post : List ℕ) : Type 0 where
  pub wf : Wf most_apart tab u
  pub marks : List ℕ
  pub marked : Marked rs marks u
  pub text : take len t ≡ marks ++ post

abbrev pub out : Step → ℕ → ℕ → ℕ → Out
out step units len end = record { step = step; units = units; len = len; end = end }

-- `rewrite`
abbrev pub StepTested : List ℕ → List Rule → List ℕ → List ℕ → ℕ → Out → Term → Bool → Type 0
StepTested tab rs t post n o u true = (o.step ≡ TooLarge) × (o.units ≡ n)
StepTested tab rs t post n o u false = (o.step ≡ Rewritten) × (o.units ≡ n) × CellsHold tab rs t o.len u post

abbrev pub Wrote : List ℕ → List Rule → List ℕ → Term → List ℕ → ℕ → ℕ → Out → Option Term → Type 0
Wrote tab rs t x post most units o none = (o.step ≡ Normal) × (o.units ≡ units) × (take o.len t ≡ cells x ++ post)
Wrote tab rs t x post most zero o (some u) = (o.step ≡ Spent) × (o.units ≡ 0)
Wrote tab rs t x post most (suc n) o (some u) = StepTested tab rs t post n o u (ltb most (size u + length post))

pub record RewritesRoot (rules : List ℕ) (number : ℕ) (t t' : List ℕ) (len end most units : ℕ) (o : Out) : Type 0 where
  pub same : length t' ≡ length t
  pub ends : o.end ≤ o.len
  pub small : o.len ≤ most
  pub left_over : o.units ≤ units
  pub paid : o.step ≡ Rewritten → o.units + 1 ≡ units
  pub place : (o.step ≡ Rewritten → ⊥) → (o.len ≡ len) × (o.end ≡ end)
  pub answer : (tab : List ℕ) (rs : List Rule) → Stored tab rules 0 (sides_of rs) → number ≡ length rs → (x : Term) (post : List ℕ) → Wf most_apart tab x →
      take len t ≡ open_cells x ++ post → end ≡ size x → ArgumentsNormal rs x →
      Wrote tab rs t' x post most units o (root_step rs x)
