-- `Puts` one behind the other compose; so parts that stand one behind the other are put at once. Assumes nothing.
-- Read first: specs/Puts, proofs/Appending.
use mathlib.Core.Path.{◌≡◌, refl, ap, ap₂, ◌∙◌}
use mathlib.Core.List.{List, [], ◌∷◌, ◌++◌}
use Prim.Native.Nat.{ℕ, ◌+◌, ◌-◌, ◌≤◌, ◌<◌}
use native.Mathlib.Omega.{arith}
use lib.ListN.{length, take, drop, set, length-append, length-drop}
use lib.Seq.{length-take-le}
use Rattle.terms.specs.Base.{number_bytes, field_bytes}
use Rattle.fields.proofs.Patching.{length_patched}
use Rattle.fields.specs.Puts.{patched, Puts, tagged}
use Rattle.fields.proofs.Appending.{patched_behind, patched_one}

-- the buffer's length stays
pub puts_length : (l : List ℕ) (at n : ℕ) (xs l' : List ℕ) (r : ℕ) → at + n ≤ length l → Puts l at n xs l' r → length l' ≡ length l
puts_length l at n xs l' r room p = ap length p.bytes ∙ length_patched at xs l (omega (arith, p.counted))

-- one behind the other
pub puts_then : (l : List ℕ) (at n m : ℕ) (xs ys l₁ l₂ : List ℕ) (a r : ℕ) → at + n ≤ length l → Puts l at n xs l₁ a → Puts l₁ a m ys l₂ r →
    Puts l at (n + m) (xs ++ ys) l₂ r
puts_then l at n m xs ys l₁ l₂ a r room p q =
    let b : a ≡ at + length xs = omega (arith, p.next, p.counted) in
    let e : patched a ys l₁ ≡ patched (at + length xs) ys (patched at xs l) = ap₂ (λ z k. patched z ys k) b p.bytes in
    record {
      bytes = q.bytes ∙ e ∙ patched_behind at xs ys l (omega (arith, p.counted));
      counted = length-append xs ys ∙ omega (arith, p.counted, q.counted);
      next = q.next ∙ omega (arith, p.next);
    }

-- one byte
pub puts_byte : (l : List ℕ) (at b : ℕ) → at < length l → Puts l at 1 (b ∷ []) (set l at b) (at + 1)
puts_byte l at b h = record { bytes = patched_one at b l h; counted = refl; next = refl }

pub puts_counted : (l : List ℕ) (at n : ℕ) (xs l' : List ℕ) (r : ℕ) → Puts l at n xs l' r → Puts l at (length xs) xs l' r
puts_counted l at n xs l' r p = record { bytes = p.bytes; counted = refl; next = p.next ∙ omega (arith, p.counted) }
