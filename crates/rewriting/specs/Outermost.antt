-- Document 02, Eight: normalising from the outside in, with the units that it pays: [22.2 to 22.5] of docs/DEFINITION.md. Assumes nothing.
-- Read first: Rewrite.
use Rattle.std.specs.Prelude.{List}
use Rattle.std.proofs.Math.Option.{Option, none}
use Rattle.terms.specs.Base.{mapped, or_else}
use Rattle.terms.specs.Term.{Term, var, node, Terms, nil, cons}
use Rattle.rewriting.specs.Overlap.{Rule}
use Rattle.rewriting.specs.Rewrite.{root_step, Paying, normalise_by}

-- one step: "the earliest matched node in preorder and the lowest rule there", so the root comes first, then the arguments from the left [22.2]
unfoldable mutual
  pub step_outer : List Rule → Term → Option Term
  step_outer rules (var x) = root_step rules (var x)
  step_outer rules (node f ts) =
      let inside : Option Term = mapped (node f) (step_outer_in rules ts) in
      or_else (root_step rules (node f ts)) inside

  pub step_outer_in : List Rule → Terms → Option Terms
  step_outer_in rules nil = none
  step_outer_in rules (cons t ts) =
      let later : Option Terms = mapped (cons t) (step_outer_in rules ts) in
      or_else (mapped (λ u. cons u ts) (step_outer rules t)) later

-- while there is a step, make it, as in normalising [22.3]
abbrev pub normalise_outer : List Rule → Term → Paying Term
normalise_outer rules = normalise_by (step_outer rules)
