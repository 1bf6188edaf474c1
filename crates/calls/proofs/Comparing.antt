-- What `compare` tells: a lemma for each return. Assumes nothing.
-- Read first: specs/Answers (compared_told), only_equation/specs/Places (SidesAt), order/specs/Walk (IsCompared).
use mathlib.Core.Path.{◌≡◌, ap, sym, ◌∙◌}
use mathlib.Core.List.{List}
use Prim.Native.Nat.{ℕ}
use Rattle.terms.proofs.Starts.{from, from_drop}
use Rattle.order.specs.Order.{comparison}
use Rattle.order.specs.Walk.{rank, IsCompared}
use Rattle.problem.specs.Problem.{ok, refused, Symbol, rank_of}
use Rattle.reading.proofs.Reading.{bind_ok, bind_refused}
use Rattle.completion.specs.Calls.{Single, parse_single, compare_call}
use Rattle.completion.proofs.Ranks.{ranks_are}
use Rattle.only_equation.specs.Places.{table, left_side, right_side, SidesAt}
use Rattle.calls.specs.Answers.{compared_told}
use Rattle.std.specs.Prelude.{Ok, Err}
use Rattle.order.specs.declared.Compared.{Compared}
use Rattle.order.specs.Walk.{number_of_compared}
use Rattle.problem.specs.declared.Refusal.{Refusal}
use Rattle.problem.specs.Reasons.{number_of_reason}

module _ (l : List ℕ) where
  pub compare_unread : (r : Refusal) → parse_single l ≡ refused (number_of_reason r.reason) r.place → compared_told (Err r) ≡ compare_call l
  unfolding compared_told compare_call
  compare_unread r h = sym (bind_refused _ h)

  module _ (e a b c : ℕ) (S : Single) (A : SidesAt l e a b c S) (r : Compared) (h : IsCompared (table l e) (from l a) (from l b) r) where
    compared : number_of_compared r ≡ comparison (rank (table l e)) (left_side S) (right_side S)
    compared = h (left_side S) (right_side S) (rw (from_drop l a) A.left) (rw (from_drop l b) A.right)

    pub compare_read : compared_told (Ok r) ≡ compare_call l
    unfolding compared_told compare_call
    compare_read =
        ap ok (compared ∙ ap (λ (f : ℕ → ℕ). comparison f (left_side S) (right_side S)) (sym (ranks_are (table l e) A.known))
        ∙ ap (λ (Σ : List Symbol). comparison (rank_of Σ) (left_side S) (right_side S)) (sym A.symbols_are))
        ∙ sym (bind_ok _ A.is)
