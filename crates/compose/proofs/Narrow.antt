-- Rules and a term with variables below 16 normalise to a term with variables below 16. Assumes nothing.
-- Read first: rewriting/specs/Rewrite (normalise), rewriting/proofs/Holds, slots/specs/Slots (Stored).
use mathlib.Core.List.{List, [], ◌∷◌}
use Prim.Native.Nat.{ℕ, suc, ◌<◌}
use Rattle.limits.specs.Limits.{most_symbols, most_variables}
use Rattle.terms.proofs.Flats.{wf_made}
use Rattle.terms.specs.Term.{Term}
use Rattle.terms.specs.Flat.{Wf}
use Rattle.terms.proofs.Limits.{Made}
use Rattle.terms.specs.Base.{Every, of_none, of_cons}
use Rattle.rewriting.specs.Overlap.{Rule, sides_of}
use Rattle.rewriting.specs.Rewrite.{normalise}
use Rattle.rewriting.proofs.Limits.{step_made}
use Rattle.rewriting.proofs.Holds.{Holds, Form, reached_keeps, pays_weaker, normalise_holds}
use Rattle.slots.specs.Slots.{Stored, AllFrom}

abbrev pub Below : ℕ → Term → Type 0
Below n t = Made (λ f. f < most_symbols) (λ x. x < n) t

rights_below : (tab rules : List ℕ) (k : ℕ) (rs : List Rule) → Stored tab rules k (sides_of rs) → Every (λ rule. Below most_variables rule.sides.right) rs
unfolding AllFrom
rights_below tab rules k [] h = of_none
rights_below tab rules k (r ∷ rs) h = of_cons (wf_made most_variables tab r.sides.right h.0.sides.right_wf) (rights_below tab rules (suc k) rs h.1)

-- by stored rules, whose variables are below 16
pub normal_below : (tab rules : List ℕ) (rs : List Rule) → Stored tab rules 0 (sides_of rs) → (x : Term) → Wf most_variables tab x → (units : ℕ) →
    Holds (Below most_variables) (λ e n. Unit {0}) (normalise rs x units)
normal_below tab rules rs h x w units =
    (pays_weaker (normalise rs x)
    (λ y (f : Form rs x y). reached_keeps (Below most_variables)
    (λ a b e l q. step_made (λ f. f < most_symbols) (λ v. v < most_variables) (λ v. v < most_variables) (λ v z. z) rs
    (rights_below tab rules 0 rs h) a b q e) f.reached (wf_made most_variables tab x w))
    (normalise_holds (λ e n. Unit {0}) rs tt x (λ o n. tt))
    ).out units
