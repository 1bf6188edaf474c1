-- The tests of sizes in `place`, a lemma for each return: the peak, the left side or the right side too large, or the pair. Assumes nothing.
-- Read first: specs/Placed (PairPlaced, PlacedIf), sizing/specs/Sizes (Sized, SizesKnown), sizing/proofs/Sizing (known_size).
use mathlib.Core.Path.{◌≡◌, refl}
use mathlib.Core.Bool.{true, false}
use mathlib.Core.List.{List}
use Prim.Native.Nat.{ℕ, ◌≤◌, ◌<◌}
use native.Mathlib.Omega.{arith}
use lib.Dec.{ltb}
use lib.ListN.{length}
use borrow.Author.Tests.{lt-ltb, le-ltb}
use Rattle.terms.specs.Term.{Term, size}
use Rattle.classes.specs.Arena.{Spells}
use Rattle.classes.specs.Steps.{at, arena}
use Rattle.sizing.specs.Sizes.{Sized, SizesKnown}
use Rattle.sizing.proofs.Sizing.{known_size}
use Rattle.slots.proofs.Layouts.{kept_none}
use Rattle.critical_pairs.specs.Placed.{BothSmall, PutPair, PairPlaced}

module _ {l tab ends cs zs : List ℕ} (k : Sized l tab ends cs zs) (w : SizesKnown (arena l tab ends) (at zs) true) where
  small : (i : ℕ) (u : Term) → at zs i ≤ 120 → Spells (arena l tab ends) (at cs) i u → ltb 120 (size u) ≡ false
  small i u h p = le-ltb 120 (size u) (omega (arith, known_size l tab ends cs zs k w i u p))

  large : (i : ℕ) (u : Term) → 120 < at zs i → Spells (arena l tab ends) (at cs) i u → ltb 120 (size u) ≡ true
  large i u h p = lt-ltb 120 (size u) (omega (arith, known_size l tab ends cs zs k w i u p))

  pub pair_small : {a b : ℕ} → a < length l → b < length l → at zs a ≤ 120 → at zs b ≤ 120 → BothSmall (arena l tab ends) (at cs) a b
  pair_small {a} {b} ha hb sm sn =
      let u = k.measured a ha (w a ha) in
      let v = k.measured b hb (w b hb) in
      (u.0, v.0, u.1, v.1, omega (arith, u.2), omega (arith, v.2))

  module _ {a b : ℕ} {one : List ℕ} where
    pub place_peak : 120 < at zs 0 → PairPlaced (arena l tab ends) (at cs) a b one one false
    place_peak h = record { kept = kept_none one; answer = λ x y z p q r. rw (large 0 x h p) refl }

    module _ (h : at zs 0 ≤ 120) where
      pub place_left : 120 < at zs a → PairPlaced (arena l tab ends) (at cs) a b one one false
      place_left i = record { kept = kept_none one; answer = λ x y z p q r. rw (small 0 x h p, large a y i q) refl }

      module _ (i : at zs a ≤ 120) where
        pub place_right : 120 < at zs b → PairPlaced (arena l tab ends) (at cs) a b one one false
        place_right j = record { kept = kept_none one; answer = λ x y z p q r. rw (small 0 x h p, small a y i q, large b z j r) refl }

        pub place_found : at zs b ≤ 120 → {one' : List ℕ} → PutPair (arena l tab ends) (at cs) a b one one' →
            PairPlaced (arena l tab ends) (at cs) a b one one' true
        place_found j t = record {
          kept = t.kept;
          answer = λ x y z p q r. rw (small 0 x h p, small a y i q, small b z j r) (refl, t.bytes y z q r);
        }
