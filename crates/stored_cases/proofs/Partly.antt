-- What is done so far, and a part of the next, is a part of the whole. Assumes nothing.
-- Read first: specs/Partly.
use Rattle.std.proofs.Common.{ℕ, ◌+◌, ◌-◌, List, length, take, drop, Option, sym, subst}
use Rattle.std.specs.Io.KnownBytes.{Appends}
use Rattle.std.proofs.KnownBytes.{Appends-trans}
use Rattle.std.proofs.Math.Seq.{take-add}
use Rattle.std.proofs.lemmas.List.{take_rest}

-- so many done, and n of the rest
pub more_done : (a b c : Option (List ℕ)) (text : List ℕ) (done n : ℕ) → Appends a b (take done text)
    → Appends b c (take n (take (length text - done) (drop done text))) → Appends a c (take (done + n) text)
more_done a b c text done n p q =
    let rest = take_rest text done in
    subst (Appends a c) (sym (take-add done n text)) (Appends-trans a b c _ _ p (subst (λ l. Appends b c (take n l)) rest q))
