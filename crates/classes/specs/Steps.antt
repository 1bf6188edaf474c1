-- What the steps that join and close classes answer: the arena of three lists, and its classes in a list. Assumes nothing.
use Rattle.std.specs.Prelude.{◌≡◌, Bool, true, false, List, [], ◌∷◌, map, ℕ, ◌+◌, ◌<◌, ◌≤◌, eqb, ltb, length, get_or}
use Rattle.limits.specs.Limits.{first_variable, arena_width}
use Rattle.std.specs.Prelude.{if◌then◌else◌}
use Rattle.terms.specs.Term.{Term, Terms, subst_terms}
use Rattle.terms.specs.Scan.{owes}
use Rattle.classes.specs.Arena.{Arena, SpellsAll, same, NodesSpell, Joins, Classes, Agree, ClosedAt, AllClosed, Never}
use Rattle.classes.specs.declared.Step.{Step}
use Rattle.classes.specs.declared.Step.TheVariants.{Done, Clash, Join}

abbrev pub at : List ℕ → ℕ → ℕ
at l i = get_or l i 0

-- every entry below n has the property
abbrev pub Each : (ℕ → ℕ → Type 0) → List ℕ → ℕ → Type 0
Each P d n = (i : ℕ) → i < n → P i (at d i)

abbrev pub arena : List ℕ → List ℕ → List ℕ → Arena
arena l tab ends = record { nodes = length l; byte = at l; arity = owes tab; end = at ends }

abbrev pub ClassesWithin : Arena → (ℕ → ℕ) → Type 0
ClassesWithin A c = (i : ℕ) → i < A.nodes → c i < A.nodes

-- the arena and its classes, in room
pub record Ready (l tab ends cs : List ℕ) : Type 0 where
  pub small : length l ≤ arena_width
  pub ended : length l ≤ length ends
  pub classed : length l ≤ length cs
  pub whole : NodesSpell (arena l tab ends)
  pub within : ClassesWithin (arena l tab ends) (at cs)

abbrev pub SpellsSome : Arena → ℕ → ℕ → Type 0
SpellsSome A p k = (ts : Terms) × SpellsAll A same p k ts

abbrev pub JoinsAll : Arena → (ℕ → Term) → ℕ → ℕ → ℕ → Type 0
JoinsAll A τ a b k = (ts us : Terms) → SpellsAll A same a k ts → SpellsAll A same b k us → subst_terms τ ts ≡ subst_terms τ us

-- of k arguments from a on and from b on: all in the same classes, or these two are not
abbrev pub Apart : Arena → (ℕ → ℕ) → ℕ → ℕ → ℕ → Step → Type 0
Apart A c a b k Done = Agree A c a b k
Apart A c a b k Clash = ⊥
Apart A c a b k (Join p q) = (p < A.nodes) × (q < A.nodes) × (c p ≡ c q → ⊥) × ((τ : ℕ → Term) → JoinsAll A τ a b k → Joins A τ p q)

abbrev pub Clashes : Arena → (ℕ → ℕ) → Type 0
Clashes A c = (i : ℕ) × (i < A.nodes) × (A.byte i < first_variable) × (A.byte (c i) ≡ A.byte i → ⊥)

-- nodes of two classes that every substitution that respects the classes makes one
abbrev pub Linked : Arena → (ℕ → ℕ) → ℕ → ℕ → Type 0
Linked A c p q = (p < A.nodes) × (q < A.nodes) × (c p ≡ c q → ⊥) × ((τ : ℕ → Term) → ((i : ℕ) → Joins A τ i (c i)) → Joins A τ p q)

abbrev pub StepIs : Arena → (ℕ → ℕ) → ℕ → Step → Type 0
StepIs A c i Done = ClosedAt A c i
StepIs A c i Clash = Clashes A c
StepIs A c i (Join p q) = Linked A c p q

-- what the key of a variable's node has above its place: more than an arena has nodes
abbrev pub behind_symbols : ℕ
behind_symbols = 1024

-- symbols come before variables, and smaller nodes before larger
unfoldable pub key : List ℕ → ℕ → ℕ
key l r = if ltb (at l r) first_variable then r else (r + behind_symbols)

unfoldable pub relabelled : ℕ → ℕ → ℕ → ℕ
relabelled from to b = if eqb b from then to else b

unfoldable pub joined : List ℕ → List ℕ → ℕ → ℕ → List ℕ
joined l cs a b =
    if ltb (key l (at cs a)) (key l (at cs b)) then map (relabelled (at cs b) (at cs a)) cs else map (relabelled (at cs a) (at cs b)) cs

-- later classes: of the same unifiers, and no node of one class is in two
pub record Grown (A : Arena) (c d : ℕ → ℕ) : Type 0 where
  pub classes : (n₁ n₂ : ℕ) → Classes A n₁ n₂ c → Classes A n₁ n₂ d
  pub keeps : (i j : ℕ) → i < A.nodes → j < A.nodes → c i ≡ c j → d i ≡ d j

abbrev pub ClosedTo : Arena → (ℕ → ℕ) → (ℕ → ℕ) → Bool → Type 0
ClosedTo A c d true = Grown A c d × AllClosed A d
ClosedTo A c d false = (n₁ n₂ : ℕ) → Classes A n₁ n₂ c → Never A n₁ n₂

-- what the key of every entry adds up to
unfoldable pub weight : List ℕ → List ℕ → ℕ
weight l [] = 0
weight l (r ∷ cs) = key l r + weight l cs
