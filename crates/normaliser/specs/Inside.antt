-- Normalising a part of a term: the same steps, with a test of its own for what is too large. Assumes nothing.
use Rattle.std.specs.Prelude.{Bool, List, ℕ, zero, suc}
use Rattle.std.proofs.Math.Option.{Option, none, some}
use Rattle.std.specs.Prelude.{if◌then◌else◌}
use Rattle.terms.specs.Term.{Term, Terms, size, sizes}
use Rattle.rewriting.specs.Overlap.{Rule}
use Rattle.rewriting.specs.Rewrite.{step, step_in, Paid, done, stop, spent, too_large, Paying}

-- one step that is found, or none: the unit is paid first, and the size is tested after
unfoldable pub pay_for : {A : Type 0} → (A → Bool) → (A → Paying A) → A → Option A → Paying A
pay_for big next t none left = done t left
pay_for big next t (some u) zero = stop spent zero
pay_for big next t (some u) (suc left) =
    let rest : Paid _ = next u left in
    if big u then stop too_large left else rest

unfoldable pub iterate : {A : Type 0} → (A → Option A) → (A → Bool) → A → Paying A
iterate one big t zero = pay_for big (λ u n. stop spent n) t (one t) zero
iterate one big t (suc left) = pay_for big (λ u n. iterate one big u left) t (one t) (suc left)

-- a term, or terms, of which n nodes are too many where `big n`
abbrev pub normalise_in : List Rule → (ℕ → Bool) → Term → Paying Term
normalise_in rules big = iterate (step rules) (λ u. big (size u))

abbrev pub normalise_all : List Rule → (ℕ → Bool) → Terms → Paying Terms
normalise_all rules big = iterate (step_in rules) (λ us. big (sizes us))
