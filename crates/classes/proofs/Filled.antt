-- A loop that fills a list from the first entry on. Assumes nothing.
-- Read first: specs/Steps (Each).
use mathlib.Core.Path.{◌≡◌, refl, sym, subst, ◌∙◌}
use mathlib.Core.List.{List}
use Prim.Native.Nat.{ℕ, ◌+◌, ◌≤◌, ◌<◌}
use native.Mathlib.Omega.{arith}
use lib.ListN.{length, set, length-set}
use lib.Seq.{get_or-set_same, get_or-set_other}
use Rattle.classes.specs.Steps.{at, Each}
use Rattle.classes.proofs.Ranges.{below_more}

pub record FilledTo (P : ℕ → ℕ → Type 0) (d₀ d : List ℕ) (n : ℕ) : Type 0 where
  pub long : length d ≡ length d₀
  pub each : Each P d n

pub filled_start : (P : ℕ → ℕ → Type 0) (d : List ℕ) → FilledTo P d d 0
filled_start P d = record { long = refl; each = λ i h. absurd (omega arith) }

pub filled_more : (P : ℕ → ℕ → Type 0) (d₀ d : List ℕ) (n v : ℕ) → FilledTo P d₀ d n → n < length d₀ → P n v → FilledTo P d₀ (set d n v) (n + 1)
filled_more P d₀ d n v f h p =
    record {
      long = length-set d n v ∙ f.long;
      each = below_more (λ i. P i (at (set d n v) i)) n
          (λ i l. subst (λ x. P i x) (sym (get_or-set_other d n i v 0 (λ e. omega arith))) (f.each i l))
          (subst (λ x. P n x) (sym (get_or-set_same d n v 0 (omega (arith, f.long)))) p);
    }

pub filled_end : (P : ℕ → ℕ → Type 0) (d₀ d : List ℕ) (n k : ℕ) → FilledTo P d₀ d n → k ≤ n → (length d ≡ length d₀) × Each P d k
filled_end P d₀ d n k f h = (f.long, λ i q. f.each i (omega arith))
