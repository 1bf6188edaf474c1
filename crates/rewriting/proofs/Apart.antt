-- Document 01, "Overlaps": "variables renamed apart". No variable of the inner rule, as it is laid out, is one of the outer rule. Assumes nothing.
-- Read first: specs/Overlap (`apart`).
use mathlib.Core.Logic.{⊎_elim}
use mathlib.Core.List.Memᴰ
use Prim.Native.Nat.{ℕ, ◌+◌, ◌<◌}
use native.Mathlib.Omega.{arith}
use Rattle.terms.specs.Term.{Term, var, variables}
use Rattle.terms.proofs.Subst.{In, VarsIn, From, vars_subst}
use Rattle.rewriting.specs.Overlap.{apart}

pub apart_variables : (inner outer : Term) → VarsIn (λ (x : ℕ). x < 16) outer → (x : ℕ) → In x (variables outer) → In x (variables (apart inner)) → ⊥
unfolding apart From variables
apart_variables inner outer low x i j =
    let f : From (λ y. var (16 + y)) (variables inner) x = vars_subst (λ y. var (16 + y)) inner x j in
    let h : x < 16 = low x i in
    ⊎_elim (λ e. omega arith) (λ k. Memᴰ.not-nil k) (Memᴰ.cases_cons f.2)
