-- Two sides, renamed in a buffer, cut again and put into a slot with a mark, are the renamed pair, with variables below 16. Assumes nothing.
-- Read first: specs/Orients (Placed), naming/proofs/Pairs, slots/proofs/Layouts.
use mathlib.Core.Path.{◌≡◌, ap, ap₂, ◌∙◌}
use mathlib.Core.List.{List, [], ◌++◌}
use Prim.Native.Nat.{ℕ, ◌+◌, ◌-◌, ◌≤◌}
use native.Mathlib.Omega.{arith}
use lib.ListN.{length, drop, take, replicate}
use Rattle.terms.specs.Term.{Pair, size, pair_variables, renamed}
use Rattle.terms.proofs.Bytes.{length_bytes}
use Rattle.naming.specs.Names.{collect, renamed_bytes}
use Rattle.naming.proofs.Few.{names_few}
use Rattle.naming.proofs.Pairs.{wf_low, left_cut, right_cut, renamed_left_wf, renamed_right_wf}
use Rattle.fields.specs.Puts.{patched}
use Rattle.fields.proofs.Appending.{both_front}
use Rattle.slots.specs.Slots.{slot_width, Sides, PutSides, PutMark}
use Rattle.slots.proofs.Layouts.{layout_zeros, layout_put, pair_put, pair_mark}
use Rattle.orient.specs.Orients.{LowBytes, Placed}

-- `placed`: d₁ has the left side at its front, d₂ the right side behind it
module _ (left right d d₁ d₂ : List ℕ) (p : d₁ ≡ patched 0 left d) (q : d₂ ≡ patched (length left) right d₁) where
  pub few_names : LowBytes (left ++ right) → length (collect [] (take (length left + length right) d₂)) ≤ 127
  few_names f = rw (both_front left right d d₁ d₂ p q) (omega (arith, names_few 32 (left ++ right) f))

  -- d₃ has both sides renamed
  module _ (d₃ : List ℕ) (r : d₃ ≡ renamed_bytes (take (length left + length right) d₂) ++ drop (length left + length right) d₂) where
    renamed_sides : (tab : List ℕ) (e : Pair) → Sides 32 tab left right e → length (pair_variables e) ≤ 16 →
        Sides 16 tab (take (length left - 0) d₃) (take (length left + length right - length left) (drop (length left) d₃)) (renamed e)
    renamed_sides tab e s few =
        let m : length left ≡ size e.left = ap length s.left_bytes ∙ length_bytes e.left in
        let n : length right ≡ size e.right = ap length s.right_bytes ∙ length_bytes e.right in
        let rest : List ℕ = drop (length left + length right) d₂ in
        let u = wf_low 32 tab e.left s.left_wf in
        let v = wf_low 32 tab e.right s.right_wf in
        let w = r ∙ ap (λ z. renamed_bytes z ++ rest) (both_front left right d d₁ d₂ p q ∙ ap₂ ◌++◌ s.left_bytes s.right_bytes) in
        record {
          left_wf = renamed_left_wf 16 32 tab e few s.left_wf;
          right_wf = renamed_right_wf 16 32 tab e few s.right_wf;
          left_bytes = left_cut e u v d₃ rest w (length left - 0) (omega arith);
          right_bytes = right_cut e u v d₃ rest w (length left) (length left + length right - length left) m (omega arith);
        }

    pub in_slot : (mark one one' : List ℕ) →
        PutSides (replicate slot_width 0) 0 (take (length left - 0) d₃) (take (length left + length right - length left) (drop (length left) d₃)) one →
        PutMark one 0 mark one' → Placed left right mark one'
    in_slot mark one one' s t = record {
      layout = layout_put (layout_put layout_zeros s.only s.short) t.only (t.short s.short);
      marked = t.mark_is;
      pair = λ tab e h few. pair_mark t (pair_put s (renamed_sides tab e h few));
    }
