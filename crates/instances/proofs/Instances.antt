-- The term that node 0 spells is written, renamed, as a field of tag 15: lemmas for `write_instance`. Assumes nothing.
-- Read first: specs/Common (Spelt, WritesSpelt, instance_field), naming/specs/Names (renamed_bytes), fields/specs/Puts.
use mathlib.Core.Path.{◌≡◌, ap, ◌∙◌}
use mathlib.Core.List.{List, [], ◌++◌}
use Prim.Native.Nat.{ℕ, ◌+◌, ◌≤◌}
use native.Mathlib.Omega.{arith}
use lib.ListN.{length, take, drop, length-take}
use lib.Seq.{take_at, length-take-le}
use Rattle.limits.specs.Limits.{most_nodes, most_pair}
use Rattle.terms.specs.Base.{field_bytes}
use Rattle.terms.specs.Term.{Term, size, term_bytes}
use Rattle.terms.proofs.Bytes.{length_bytes}
use Rattle.classes.specs.Arena.{Spells}
use Rattle.classes.specs.Steps.{at, arena}
use Rattle.naming.specs.Names.{collect, renamed_bytes}
use Rattle.naming.proofs.Renaming.{length_renamed}
use Rattle.naming.proofs.Few.{collect_few}
use Rattle.mgu.specs.Written.{WritesTerm}
use Rattle.mgu.proofs.Writing.{put_reads}
use Rattle.completion.specs.Calls.{written}
use Rattle.fields.specs.Puts.{Puts, tagged}
use Rattle.fields.proofs.Appending.{patched_front}
use Rattle.instances.specs.Common.{instance_field, Spelt, WritesSpelt}

-- `write_instance`
pub front_room : (n : ℕ) (l : List ℕ) → n ≤ most_nodes → length l ≡ most_nodes → (n ≤ length l) × (n ≤ most_pair) × (length (collect [] (take n l)) ≤ 127)
front_room n l h k = (omega arith, omega arith, omega (arith, collect_few [] (take n l), length-take n l))

module _ (l tab ends cs : List ℕ) (k : Spelt l tab ends cs) where
  pub spelt_room : (u : Term) × Spells (arena l tab ends) (at cs) 0 u × (size u ≤ most_nodes) × (0 + size u ≤ most_nodes)
  spelt_room = (k.term, k.spells, k.small, omega (arith, k.small))

  module _ (d e : List ℕ) (r : ℕ) (z : length d ≡ most_nodes) (w : WritesTerm (arena l tab ends) (at cs) 0 0 d r e) where
    spelt_end : (u : Term) → Spells (arena l tab ends) (at cs) 0 u → r ≡ size u
    spelt_end u p = omega (arith, w.ends u p)

    pub spelt_few : (r ≤ most_nodes) × (length e ≡ most_nodes)
    spelt_few = (omega (arith, spelt_end k.term k.spells, k.small), w.long ∙ z)

    spelt_bytes : (u : Term) → Spells (arena l tab ends) (at cs) 0 u → take r e ≡ term_bytes u
    spelt_bytes u p =
        let n : r ≡ length (term_bytes u) = omega (arith, spelt_end u p, length_bytes u) in
        ap (λ (n : ℕ). take n e) n
        ∙ ap (take (length (term_bytes u))) (w.bytes u p)
        ∙ put_reads (term_bytes u) d (omega (arith, spelt_few.0))

    module _ (q : List ℕ) (h : q ≡ renamed_bytes (take r e) ++ drop r e) where
      front_is : take r q ≡ renamed_bytes (take r e)
      front_is =
          ap (take r) h
          ∙ take_at (renamed_bytes (take r e)) (drop r e) r
          (length_renamed (take r e) ∙ length-take-le r e (omega (arith, spelt_few.0, spelt_few.1)))

      pub spelt_written : (n : ℕ) (d₀ d₁ : List ℕ) {d₂ : List ℕ} → d₂ ≡ d₁ → Puts d₀ 0 (3 + length (take r q)) (field_bytes (tagged 0x15 (take r q))) d₁ n →
          WritesSpelt l tab ends cs n d₀ d₂
      unfolding instance_field
      spelt_written n d₀ d₁ {d₂} same f =
          let c : (u : Term) → Spells (arena l tab ends) (at cs) 0 u → take r q ≡ renamed_bytes (term_bytes u)
          = λ u p. front_is ∙ ap renamed_bytes (spelt_bytes u p) in
          let k : n ≡ length (field_bytes (tagged 0x15 (take r q))) = omega (arith, f.next, f.counted) in
          let w : d₂ ≡ written (field_bytes (tagged 0x15 (take r q))) d₀ = unfold written in
          same ∙ f.bytes ∙ patched_front (field_bytes (tagged 0x15 (take r q))) d₀ in
          record { count = λ u p. rw (c u p) at k; leaves = λ u p. rw (c u p) at w }
