-- `load` and `unload`: one element after the other to the front of a buffer. Assumes nothing.
use mathlib.Core.Path.{◌≡◌, sym, ◌∙◌, ap, ap₂}
use mathlib.Core.List.{List, ◌++◌}
use Prim.Native.Nat.{ℕ, ◌+◌, ◌<◌, ◌≤◌}
use native.Mathlib.Omega.{arith}
use native.Mathlib.Numerals.{add-one}
use lib.ListN.{length, get_or, drop, set}
use lib.Seq.{take_all, paste, paste-zero, paste-suc, length-paste}

-- i elements of s are at the front of d, which is now `out`
pub record Loaded (d s out : List ℕ) (i : ℕ) : Type 0 where
  pub few : i ≤ length s
  pub room : length s ≤ length d
  pub text : out ≡ paste d 0 s i

pub load_start : (d s : List ℕ) → length s ≤ length d → Loaded d s d 0
load_start d s h = record { few = omega arith; room = h; text = paste-zero d 0 s }

module _ {d s out : List ℕ} {i : ℕ} (p : Loaded d s out i) where
  pub loaded_length : length out ≡ length d
  loaded_length = let r = p.room in ap length p.text ∙ length-paste d 0 s i (omega arith) p.few

  pub load_more : i < length s → {v : ℕ} → v ≡ get_or s i 0 → Loaded d s (set out i v) (i + 1)
  load_more h {v} e =
      let r = p.room in
      let z : 0 + i ≡ i = omega arith in
      let t : set out i v ≡ set (paste d 0 s i) (0 + i) (get_or s i 0) =
      ap₂ (λ l w. set l i w) p.text e ∙ ap (λ m. set (paste d 0 s i) m (get_or s i 0)) (sym z) in
      record { few = omega arith; room = r; text = t ∙ rw (add-one i) (paste-suc d 0 s i 0 (omega arith) h) }

  pub load_done : {n : ℕ} → n ≡ length s → n ≤ i → out ≡ s ++ drop n d
  load_done e h =
      let f = p.few in
      let z : 0 + i ≡ length s = omega arith in
      p.text ∙ ap₂ ◌++◌ (take_all i s (omega arith)) (ap (λ m. drop m d) (z ∙ sym e))
