-- Two sides laid out one behind the other, and what is answered and written for their most general common instance. Assumes nothing.
use Rattle.std.specs.Prelude.{◌≡◌, List, ◌++◌, ℕ, ◌≤◌, length}
use Rattle.limits.specs.Limits.{most_nodes, variable_bytes}
use Rattle.terms.specs.Term.{Term, size, term_bytes}
use Rattle.terms.specs.Flat.{Wf}
use Rattle.terms.specs.Base.{field_bytes}
use Rattle.classes.specs.Arena.{Spells}
use Rattle.classes.specs.Steps.{at, arena}
use Rattle.classes.specs.declared.arena.Arena.{Arena as Lent}
use Rattle.naming.specs.Names.{renamed_bytes}
use Rattle.unify.specs.Unify.{mgu}
use Rattle.problem.specs.Problem.{ok}
use Rattle.completion.specs.Calls.{CommonInstance, instance, no_instance, instance_too_large, unified, written, after_unify}
use Rattle.instances.specs.declared.Found.{Found}
use Rattle.instances.specs.declared.Found.TheVariants.{Instance, Nothing, TooLarge}

-- nodes that are those of the two sides, one behind the other
pub record SidesOf (l tab : List ℕ) (s t : Term) : Type 0 where
  pub left : Wf variable_bytes tab s
  pub right : Wf variable_bytes tab t
  pub small_left : size s ≤ most_nodes
  pub small_right : size t ≤ most_nodes
  pub bytes : l ≡ term_bytes s ++ term_bytes t

-- "one field, tag 15"
unfoldable pub instance_field : Term → List ℕ
instance_field u = field_bytes (record { tag = 0x15; contents = renamed_bytes (term_bytes u) })

-- the second side begins at b
pub record TwoSides (l tab : List ℕ) (b : ℕ) : Type 0 where
  pub s : Term
  pub t : Term
  pub sides : SidesOf l tab s t
  pub begins : b ≡ size s

-- the answer for what the definition says
unfoldable pub found_of : CommonInstance → Found
found_of (instance bytes) = Instance (length bytes)
found_of no_instance = Nothing
found_of instance_too_large = TooLarge

-- the answer and the result buffer, before and after
pub record Gives (u : CommonInstance) (r : Found) (d d' : List ℕ) : Type 0 where
  pub answer : r ≡ found_of u
  pub leaves : d' ≡ after_unify (ok u) d

pub record SidesUnify (l tab : List ℕ) (b : ℕ) (r : Found) (d d' : List ℕ) : Type 0 where
  pub unifies : (s t : Term) → SidesOf l tab s t → b ≡ size s → Gives (unified s (mgu s t)) r d d'

-- node 0 stands for a term of at most 120 nodes when each node is read at the root of its class
pub record Spelt (l tab ends cs : List ℕ) : Type 0 where
  pub term : Term
  pub spells : Spells (arena l tab ends) (at cs) 0 term
  pub small : size term ≤ most_nodes

-- that term is written, renamed, in r bytes
pub record WritesSpelt (l tab ends cs : List ℕ) (r : ℕ) (d d' : List ℕ) : Type 0 where
  pub count : (u : Term) → Spells (arena l tab ends) (at cs) 0 u → r ≡ length (instance_field u)
  pub leaves : (u : Term) → Spells (arena l tab ends) (at cs) 0 u → d' ≡ written (instance_field u) d

-- the same, of an arena that functions read
abbrev pub SpeltIn : Lent → Type 0
SpeltIn a = Spelt a.nodes.now a.table.now a.ends.now a.class.now

abbrev pub WritesSpeltIn : Lent → ℕ → List ℕ → List ℕ → Type 0
WritesSpeltIn a r d d' = WritesSpelt a.nodes.now a.table.now a.ends.now a.class.now r d d'
