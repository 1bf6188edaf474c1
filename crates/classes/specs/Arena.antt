-- Terms in an arena of n nodes: byte i is the byte of node i, arity f the arguments of symbol f, end i the node after the subterm of node i.
-- The arguments of node i are at suc i, end (suc i), end (end (suc i)) .. Classes of nodes are given by a function c to their roots.
-- Assumes nothing.
use Rattle.std.specs.Prelude.{◌≡◌, ◌⊎◌, ℕ, zero, suc, ◌+◌, ◌<◌, ◌≤◌}
use Rattle.limits.specs.Limits.{first_variable}
use Rattle.terms.specs.Term.{Term, var, node, Terms, nil, cons, subst_term}

pub record Arena : Type 0 where
  pub nodes : ℕ
  pub byte : ℕ → ℕ
  pub arity : ℕ → ℕ
  pub end : ℕ → ℕ

-- The term that node i stands for when each node is read at the root of its class; with the identity, the term in the arena.
module _ (A : Arena) (c : ℕ → ℕ) where
  mutual
    pub data Spells : ℕ → Term → Type 0 where
      free : {i x : ℕ} → i < A.nodes → A.byte (c i) ≡ first_variable + x → Spells i (var x)
      made : {i f : ℕ} {ts : Terms} → i < A.nodes → A.byte (c i) ≡ f → f < first_variable → SpellsAll (suc (c i)) (A.arity f) ts → Spells i (node f ts)

    pub data SpellsAll : ℕ → ℕ → Terms → Type 0 where
      none : {p : ℕ} → SpellsAll p 0 nil
      more : {p k : ℕ} {t : Term} {ts : Terms} → Spells p t → SpellsAll (A.end p) k ts → SpellsAll p (suc k) (cons t ts)

abbrev pub same : ℕ → ℕ
same i = i

-- every node stands for a term
abbrev pub NodesSpell : Arena → Type 0
NodesSpell A = (i : ℕ) → i < A.nodes → (t : Term) × Spells A same i t

-- τ makes the terms at nodes a and b one
abbrev pub Joins : Arena → (ℕ → Term) → ℕ → ℕ → Type 0
Joins A τ a b = (s t : Term) → Spells A same a s → Spells A same b t → subst_term τ s ≡ subst_term τ t

-- the classes on the way: the terms at nodes n₁ and n₂ are to be made one
pub record Classes (A : Arena) (n₁ n₂ : ℕ) (c : ℕ → ℕ) : Type 0 where
  pub within : (i : ℕ) → i < A.nodes → c i < A.nodes
  pub rooted : (i : ℕ) → i < A.nodes → c (c i) ≡ c i
  pub shared : (i j : ℕ) → i < A.nodes → j < A.nodes → first_variable ≤ A.byte i → A.byte i ≡ A.byte j → c i ≡ c j
  pub headed : (i : ℕ) → i < A.nodes → A.byte i < first_variable → A.byte (c i) < first_variable
  pub respects : (τ : ℕ → Term) → Joins A τ n₁ n₂ → (i : ℕ) → Joins A τ i (c i)

-- k arguments from p on are in the classes of those from q on
unfoldable pub Agree : Arena → (ℕ → ℕ) → ℕ → ℕ → ℕ → Type 0
Agree A c p q zero = Unit {0}
Agree A c p q (suc k) = (c p ≡ c q) × Agree A c (A.end p) (A.end q) k

abbrev pub ClosedAt : Arena → (ℕ → ℕ) → ℕ → Type 0
ClosedAt A c i = A.byte i < first_variable → (A.byte (c i) ≡ A.byte i) × Agree A c (suc i) (suc (c i)) (A.arity (A.byte i))

abbrev pub AllClosed : Arena → (ℕ → ℕ) → Type 0
AllClosed A c = (i : ℕ) → i < A.nodes → ClosedAt A c i

-- no substitution joins the two terms
abbrev pub Never : Arena → ℕ → ℕ → Type 0
Never A n₁ n₂ = (τ : ℕ → Term) → Joins A τ n₁ n₂ → ⊥

-- one of the k arguments from p on has the property
unfoldable pub Among : Arena → (ℕ → Type 0) → ℕ → ℕ → Type 0
Among A U p zero = ⊥
Among A U p (suc k) = U p ⊎ Among A U (A.end p) k

-- each node with the property has an argument with it
abbrev pub Descends : Arena → (ℕ → ℕ) → (ℕ → Type 0) → Type 0
Descends A c U = (i : ℕ) → i < A.nodes → U i → (A.byte (c i) < first_variable) × Among A U (suc (c i)) (A.arity (A.byte (c i)))
