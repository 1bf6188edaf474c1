-- `replace` by its returns: the instance with what follows is too long for the buffer, or is put back. Assumes nothing.
-- Read first: specs/Pieces (replaced, Put).
use mathlib.Core.Path.{◌≡◌, refl, sym, ◌∙◌, ap, subst}
use mathlib.Core.List.{List, ◌++◌}
use Prim.Native.Nat.{ℕ, ◌+◌, ◌-◌, ◌<◌}
use native.Mathlib.Nat.{sub-zero}
use lib.ListN.{length, drop, take}
use Rattle.matching.specs.Held.{Within}
use Rattle.std.specs.Prelude.{Option as Optional, Some, None}
use Rattle.matching.specs.Pieces.{Put, pieces, replaced}

pub take_less_zero : (n : ℕ) (l : List ℕ) → take (n - 0) l ≡ take n l
take_less_zero n l = ap (λ z. take z l) (sub-zero n)

-- the places of a part that is lent whole
pub part_within : (t B : List ℕ) (n : ℕ) → Within (take n t) B → Within (take (n - 0) t) B
part_within t B n w = subst (λ l. Within l B) (sym (take_less_zero n t)) w

-- what `contract` puts
pub contracted : (t B T right : List ℕ) (len end : ℕ) → T ≡ take len t → pieces T B right ++ drop end T ≡ replaced (take len t) B right end
contracted t B T right len end e = rw e

-- the whole does not fit, and t stays; or it is put back
pub replace_over : {t out out' p P : List ℕ} {most : ℕ} → p ≡ P → Put out out' 0 most None p → Put t t 0 most None P
replace_over {most = most} e h = record { same = refl; is = subst (λ q. most < 0 + length q) e h.is }

pub replace_done : {t t' out out' p P : List ℕ} {most w : ℕ} {r : Optional ℕ} → p ≡ P → Put out out' 0 most (Some w) p →
    Put t t' 0 most r (take (w - 0) out') → Put t t' 0 most r P
replace_done {t = t} {t' = t'} {out' = out'} {P = P} {most = most} {w = w} {r = r} e h k =
    let g : take (w - 0) out' ≡ P = take_less_zero w out' ∙ h.is.cells ∙ e in
    subst (λ l. Put t t' 0 most r l) g k
