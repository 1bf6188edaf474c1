-- `vb_subterm`: start and length of the part that `calls::subterm_bounds` promises, in one number, which is 0 exactly if it is refused (`subterm_zero`).
-- Assumes nothing.
-- Read first: specs/Codes (part_code), calls/specs/Answers (PartAt, subterm-refused), proofs/Unpacked.
use mathlib.Core.Path.{ap, ap₂, sym, ◌∙◌}
use Prim.Native.Nat.{ℕ, ◌+◌, ◌*◌, ◌%◌}
use lib.Dec.{eqb}
use Rattle.capi.specs.Codes.{value_end, part_code}
use Rattle.capi.proofs.Unpacked.{subterm_zero}
use Rattle.completion.specs.Calls.{subterm_part}
use Rattle.calls.specs.Answers.{PartAt, subterm_refused}
use mathlib.Core.List.{List}
use mathlib.Core.Path.{◌≡◌}
use Rattle.capi.proofs.vb_subterm.Goals as goal

code_refused : (problem : List ℕ) (position a b n : ℕ) (P : PartAt problem position a b) → n ≡ part_code (subterm_part problem position) →
    eqb n 0 ≡ subterm_refused problem position
code_refused problem position a b n P e =
    ap (λ (n : ℕ). eqb n 0) e ∙ subterm_zero problem position ∙ ap (λ (n : ℕ). eqb n 0) (sym P.bytes) ∙ P.only

pub returns-in-Some : goal.returns-in-Some
unfolding part_code
returns-in-Some c =
    let P = c.in-Some.ensures in
    let a = ap₂ (λ (a b : ℕ). a % value_end * value_end + b % value_end) P.start P.bytes in
    record { value = a; refused = code_refused _ _ _ _ _ P a }

pub returns-in-None : goal.returns-in-None
unfolding part_code
returns-in-None c =
    let P = c.in-None.ensures in
    let a = ap₂ (λ (a b : ℕ). a % value_end * value_end + b % value_end) P.start P.bytes in
    record { value = a; refused = code_refused _ _ _ _ _ P a }
