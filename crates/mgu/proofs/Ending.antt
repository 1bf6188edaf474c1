-- The subterms' ends, filled in from the last node to the first. Assumes nothing.
-- Read first: specs/Result (EndAt, EndsFrom).
use mathlib.Core.Path.{◌≡◌, refl, sym, ap, ◌∙◌}
use mathlib.Core.List.{List, [], ◌∷◌}
use Prim.Native.Nat.{ℕ, zero, suc, ◌+◌, ◌-◌, ◌≤◌, ◌<◌}
use native.Mathlib.Omega.{arith}
use native.Mathlib.Nat.{zero-add, suc-add}
use lib.ListN.{length, get_or, drop, set, length-set, length-drop}
use lib.Seq.{drop-drop, get_or-set_same, get_or-set_other}
use Rattle.terms.specs.Scan.{owes, skip}
use Rattle.terms.proofs.Scans.{skip_turn}
use Rattle.classes.specs.Steps.{at, Each}
use Rattle.classes.proofs.Ranges.{from_less}
use Rattle.mgu.specs.Result.{EndAt, EndsFrom}

skip_most : (tab l : List ℕ) (n : ℕ) → skip tab l n ≤ length l
unfolding skip
skip_most tab [] n = omega arith
skip_most tab (b ∷ l) zero = omega arith
skip_most tab (b ∷ l) (suc n) = omega (arith, skip_most tab l (owes tab b + n))

-- m + n subterms are m, then n
skip_add : (tab l : List ℕ) (m n : ℕ) → skip tab l (m + n) ≡ skip tab l m + skip tab (drop (skip tab l m) l) n
unfolding skip
skip_add tab [] m n = refl
skip_add tab (b ∷ l) zero n = rw (zero-add n) (omega arith)
skip_add tab (b ∷ l) (suc m) n =
    let e : owes tab b + (m + n) ≡ owes tab b + m + n = omega arith in
    rw (suc-add m n, e) (omega (arith, skip_add tab l (owes tab b + m) n))

-- a hop over the first of k subterms
pub hop_more : (l tab ends : List ℕ) (p q left k r : ℕ) → EndsFrom l tab ends p → p ≤ q → q < length l → 0 < left →
    q + skip tab (drop q l) left ≡ p + skip tab (drop p l) k → r ≡ at ends q →
    (q ≤ r) × (r ≤ length l) × (r + skip tab (drop r l) (left - 1) ≡ p + skip tab (drop p l) k)
hop_more l tab ends p q zero k r f h h' z e g = absurd (omega arith)
hop_more l tab ends p q (suc n) k r f h h' z e g =
    let a : r ≡ q + skip tab (drop q l) 1 = g ∙ f.each q h h' in
    let b : suc n - 1 ≡ n = omega arith in
    let d : suc n ≡ 1 + n = omega arith in
    let c : skip tab (drop q l) (suc n) ≡ skip tab (drop q l) 1 + skip tab (drop r l) n =
    ap (skip tab (drop q l)) d ∙ skip_add tab (drop q l) 1 n
    ∙ ap (λ z. skip tab (drop q l) 1 + skip tab z n) (drop-drop (skip tab (drop q l) 1) q l ∙ ap (λ z. drop z l) (sym a)) in
    let m : skip tab (drop q l) 1 ≤ length l - q = omega (arith, skip_most tab (drop q l) 1, length-drop q l) in
    (omega arith, omega arith, rw b (omega arith))

-- the node at i ends where its arguments do
pub end_node : (l tab : List ℕ) (i k r : ℕ) → i < length l → k ≡ owes tab (get_or l i 0) → r ≡ i + 1 + skip tab (drop (i + 1) l) k → EndAt l tab i r
end_node l tab i k r h e g =
    let z : 1 - 1 + k ≡ k = omega arith in
    g ∙ ap (λ m. i + 1 + skip tab (drop (i + 1) l) m) (sym z) ∙ skip_turn tab l i 1 k h (λ q. omega arith) e

-- what the loop from the last node to the first keeps
pub record EndsSoFar (l tab ends₀ ends : List ℕ) (i : ℕ) : Type 0 where
  pub within : i ≤ length l
  pub long : length ends ≡ length ends₀
  pub later : EndsFrom l tab ends i

pub ended_start : (l tab ends : List ℕ) → EndsSoFar l tab ends ends (length l)
ended_start l tab ends = record { within = omega arith; long = refl; later = record { each = λ i a b. absurd (omega arith) } }

pub ended_later : (l tab ends₀ ends : List ℕ) (i : ℕ) → EndsSoFar l tab ends₀ ends i → 0 < i → EndsFrom l tab ends (i - 1 + 1)
ended_later l tab ends₀ ends i f h = record { each = λ j a b. f.later.each j (omega arith) b }

pub ended_less : (l tab ends₀ ends : List ℕ) (i v : ℕ) → EndsSoFar l tab ends₀ ends i → 0 < i → length l ≤ length ends₀ → EndAt l tab (i - 1) v →
    EndsSoFar l tab ends₀ (set ends (i - 1) v) (i - 1)
ended_less l tab ends₀ ends i v f h k e =
    record {
      within = omega (arith, f.within);
      long = length-set ends (i - 1) v ∙ f.long;
      later = record {
        each = from_less (λ j. EndAt l tab j (at (set ends (i - 1) v) j)) i (length l)
            (λ j a b. get_or-set_other ends (i - 1) j v 0 (λ q. omega arith) ∙ f.later.each j a b)
            (get_or-set_same ends (i - 1) v 0 (omega (arith, f.within, f.long)) ∙ e);
      };
    }

pub ended_all : (l tab ends₀ ends : List ℕ) (i : ℕ) → EndsSoFar l tab ends₀ ends i → i ≤ 0 → (length ends ≡ length ends₀) × Each (EndAt l tab) ends (length l)
ended_all l tab ends₀ ends i f h = (f.long, λ j k. f.later.each j (omega arith) k)
