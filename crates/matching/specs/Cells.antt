-- Terms in cells: a node's byte, and `cell_base` times the size of its subterm. Assumes nothing.
use Rattle.std.specs.Prelude.{◌≡◌, List, [], ◌∷◌, ◌++◌, map, ℕ, suc, ◌+◌, ◌*◌, ◌%◌, ◌≤◌, drop}
use Rattle.limits.specs.Limits.{most_apart, first_variable, cell_base}
use Rattle.terms.specs.Term.{Term, Terms, var, node, nil, cons, size, sizes}
use Rattle.terms.specs.Flat.{Wf}

unfoldable mutual
  pub cells : Term → List ℕ
  cells (var x) = (first_variable + x + cell_base * 1) ∷ []
  cells (node f ts) = (f + cell_base * suc (sizes ts)) ∷ cells_all ts

  pub cells_all : Terms → List ℕ
  cells_all nil = []
  cells_all (cons t ts) = cells t ++ cells_all ts

-- the root's byte, and the cells of the arguments
unfoldable pub root_byte : Term → ℕ
root_byte (var x) = first_variable + x
root_byte (node f ts) = f

unfoldable pub cells_below : Term → List ℕ
cells_below (var x) = []
cells_below (node f ts) = cells_all ts

-- u, which is well-formed, stands in the cells T at k and ends at n or before
pub record Stands (tab T : List ℕ) (n k : ℕ) (u : Term) : Type 0 where
  pub wf : Wf most_apart tab u
  pub rest : List ℕ
  pub text : drop k T ≡ cells u ++ rest
  pub inside : k + size u ≤ n

-- the nodes' bytes
unfoldable pub node_bytes : List ℕ → List ℕ
node_bytes l = map (λ c. c % cell_base) l
