-- The equations of a saved record stand in its fields 03, as `inputs` reads them. Assumes nothing.
-- Read first: inputs/specs/Inputs (SidesAt, InFields), items/proofs/Each (ReadEach), checkpoint/specs/Checkpoint (read_equation).
use mathlib.Core.Path.{◌≡◌, sym, ap, ◌∙◌}
use mathlib.Core.List.{List, [], ◌∷◌, ◌++◌, append_assoc}
use Prim.Native.Nat.{ℕ, ◌+◌, ◌-◌, ◌≤◌}
use native.Mathlib.Omega.{arith}
use lib.ListN.{take, drop, take-append-drop}
use Rattle.terms.specs.Term.{Pair, term_bytes}
use Rattle.terms.proofs.Lists.{take_drop}
use Rattle.reading.specs.Answers.{symbols_of, Table, field_at}
use Rattle.reading.proofs.Standing.{PairStands, pair_stands}
use Rattle.problem.specs.Problem.{ok}
use Rattle.items.specs.Readers.{There}
use Rattle.items.proofs.Each.{ReadEach, there_each}
use Rattle.checkpoint.specs.Checkpoint.{read_equation}
use Rattle.inputs.specs.Inputs.{SidesAt, InFields}

module _ (tab : List ℕ) (T : Table tab) (l : List ℕ) where
  -- the sides that a field held stand behind its head
  sides_there : (at e : ℕ) (q : Pair) → at + 3 ≤ e → read_equation (symbols_of tab) (field_at 0x03 l at e) ≡ ok q → SidesAt tab l (at + 3) q
  unfolding read_equation field_at
  sides_there at e q low h =
      let S : PairStands tab T (drop (at + 3) (take e l)) q = pair_stands tab T (at + 3) (drop (at + 3) (take e l)) q h in
      let k : ℕ = e - (at + 3) in
      let z : at + 3 + k ≡ e = omega arith in
      let front : take k (drop (at + 3) l) ≡ drop (at + 3) (take e l) = take_drop (at + 3) k l ∙ ap (λ n. drop (at + 3) (take n l)) z in
      record {
        left_wf = S.left_wf;
        right_wf = S.right_wf;
        left_small = S.left_small;
        right_small = S.right_small;
        rest = drop k (drop (at + 3) l);
        bytes = sym (take-append-drop k (drop (at + 3) l)) ∙ ap (λ z. z ++ drop k (drop (at + 3) l)) (front ∙ S.filled)
            ∙ append_assoc (term_bytes q.left) (term_bytes q.right) (drop k (drop (at + 3) l));
      }

  each_in : (at : ℕ) (es : List Pair) → ReadEach 0x03 (read_equation (symbols_of tab)) l at es → InFields tab l at es
  unfolding ReadEach InFields
  each_in at [] h = tt
  each_in at (q ∷ es) h = (h.0, h.1.field, sides_there at h.0 q h.1.low h.1.is, each_in h.0 es h.2)

  pub equations_stand : (most at e : ℕ) (es : List Pair) → There 0x03 (λ _ f. read_equation (symbols_of tab) f) most l at e es → InFields tab l at es
  equations_stand most at e es E = each_in at es (there_each 0x03 (read_equation (symbols_of tab)) l most at e es E)
