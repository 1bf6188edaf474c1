-- The end of a side: a walk of at most 120 known bytes stops where the term ends, if a term of a side stands there. Assumes nothing.
-- Read first: specs/Inputs (KnownBytes, SideEnd), terms/specs/Flat (Wf).
use mathlib.Core.Path.{◌≡◌, sym, ap, ◌∙◌, subst}
use mathlib.Core.List.{List, [], ◌∷◌, ◌++◌}
use Prim.Native.Nat.{ℕ, suc, ◌+◌, ◌-◌, ◌<◌, ◌≤◌}
use native.Mathlib.Omega.{arith}
use lib.ListN.{length, get_or, drop, take, length-drop, get_or-append}
use lib.Seq.{take-suc, get_or-drop}
use Rattle.terms.specs.Term.{Term, size, term_bytes}
use Rattle.terms.specs.Flat.{Wf, Starts}
use Rattle.terms.specs.Base.{of_none}
use Rattle.terms.proofs.Every.{every_one, every_append, every_at}
use Rattle.terms.proofs.Flats.{widen, wf_bytes}
use Rattle.terms.proofs.Bytes.{length_bytes}
use Rattle.inputs.specs.Inputs.{KnownBytes, SideEnd}

-- the walk is at i: the bytes from `at` on are known
pub record SideWalk (l : List ℕ) (at e i : ℕ) : Type 0 where
  pub low : at ≤ i
  pub high : i ≤ at + 120
  pub below : i ≤ e
  pub known : KnownBytes (take (i - at) (drop at l))

pub side_start : (l : List ℕ) (at e : ℕ) → at ≤ e → SideWalk l at e at
side_start l at e h =
    let z : 0 ≡ at - at = omega arith in
    record { low = omega arith; high = omega arith; below = h; known = subst (λ n. KnownBytes (take n (drop at l))) z of_none }

pub side_more : (l : List ℕ) (at e i : ℕ) → SideWalk l at e i → e ≤ length l → i < e → i - at < 120 → get_or l i 0 ≤ 143 → SideWalk l at e (i + 1)
side_more l at e i g h j n b =
    let p = g.low in
    let a : suc (i - at) ≡ i + 1 - at = omega arith in
    let c : at + (i - at) ≡ i = omega arith in
    let v : get_or l i 0 ≡ get_or (drop at l) (i - at) 0 = sym (get_or-drop at l (i - at) 0 ∙ ap (λ z. get_or l z 0) c) in
    let k : KnownBytes (take (i - at) (drop at l) ++ (get_or (drop at l) (i - at) 0 ∷ [])) =
    every_append g.known (every_one (let u : get_or (drop at l) (i - at) 0 < 144 = omega (arith, v) in u)) in
    record {
      low = omega arith;
      high = omega arith;
      below = omega arith;
      known = subst (λ z. KnownBytes (take z (drop at l))) a
          (subst (λ z. KnownBytes z) (sym (take-suc (drop at l) (i - at) 0 (omega (arith, length-drop at l)))) k);
    }

-- the walk of `term_end` ends at e
module _ (tab l : List ℕ) (at e : ℕ) (within : e ≤ length l) (ends : (x : Term) → Starts tab (drop at l) x → e ≡ at + size x) where
  stop : (i : ℕ) → SideWalk l at e i →
      ((x : Term) (rest : List ℕ) → Wf 16 tab x → size x ≤ 120 → drop at l ≡ term_bytes x ++ rest → e ≡ at + size x → i ≡ at + size x) → SideEnd tab l at i
  stop i g f =
      let b = g.below in
      record {
        low = g.low;
        high = g.high;
        within = omega arith;
        known = g.known;
        answer = λ x rest w s q. f x rest w s q (ends x (record { wf = widen 16 32 tab x (omega arith) w; rest = rest; bytes = q }));
      }

  pub side_far : (i : ℕ) → SideWalk l at e i → i < e → 120 ≤ i - at → SideEnd tab l at i
  side_far i g h n = let a = g.low in stop i g (λ x rest w s q k. absurd (omega arith))

  pub side_bad : (i : ℕ) → SideWalk l at e i → i < e → 143 < get_or l i 0 → SideEnd tab l at i
  side_bad i g h b =
      let a = g.low in
      let c : at + (i - at) ≡ i = omega arith in
      stop i g
      (λ x rest w s q k.
      let m = length_bytes x in
      let v : get_or l i 0 ≡ get_or (term_bytes x) (i - at) 0 =
      sym (get_or-drop at l (i - at) 0 ∙ ap (λ z. get_or l z 0) c) ∙ ap (λ z. get_or z (i - at) 0) q
      ∙ get_or-append (term_bytes x) rest 0 (i - at) (omega arith) in
      let u = every_at (wf_bytes 16 tab x w) (i - at) 0 (omega arith) in
      absurd (omega arith))

  pub side_whole : (i : ℕ) → SideWalk l at e i → e ≤ i → SideEnd tab l at e
  side_whole i g h =
      let b = g.below in
      let q : i ≡ e = omega arith in
      subst (SideEnd tab l at) q (stop i g (λ x rest w s q k. omega arith))
