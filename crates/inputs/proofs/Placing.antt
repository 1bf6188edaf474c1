-- Two sides, found in the problem's bytes, renamed together and put into a slot: what each of the functions that do so leaves behind. Assumes
-- nothing.
-- Read first: specs/Inputs (SidesAt, PutsSides, PutsEquation), naming/proofs/Pairs, slots/proofs/Layouts.
use mathlib.Core.Path.{◌≡◌, refl, sym, ap, ◌∙◌, subst}
use mathlib.Core.List.{List, [], ◌++◌, append_assoc}
use Prim.Native.Nat.{ℕ, ◌+◌, ◌-◌, ◌≤◌}
use native.Mathlib.Omega.{arith}
use lib.ListN.{length, drop, take, length-drop, length-append}
use lib.Seq.{take_at, drop_at, take-add, drop-drop, length-take-le}
use Rattle.fields.specs.Puts.{patched}
use Rattle.terms.specs.Term.{Pair, size, term_bytes, renamed}
use Rattle.terms.proofs.Every.{every_append, every_in}
use Rattle.terms.proofs.Bytes.{length_bytes}
use Rattle.naming.specs.Names.{collect, renamed_bytes}
use Rattle.naming.proofs.Few.{names_few}
use Rattle.naming.proofs.Pairs.{wf_low, left_cut, right_cut, wf_few, renamed_left_wf, renamed_right_wf}
use Rattle.slots.specs.Slots.{Sides, PutSides, PutMark, numbered_bytes}
use Rattle.slots.proofs.Layouts.{pair_put}
use Rattle.reading.specs.Forms.{ok, refused, ReadField, due}
use Rattle.reading.specs.Answers.{field_at, IsDue}
use Rattle.std.proofs.Common.{Result, Ok, Err}
use Rattle.reading.specs.declared.DueError.{DueError}
use Rattle.reading.specs.declared.DueError.TheVariants.{Cut, Other}
use Rattle.reading.proofs.Reading.{no_ok, ok_injective}
use Rattle.inputs.specs.Inputs.{KnownBytes, SidesAt, SideEnd, PutsSides, PutsEquation}

-- `put_sides`: the two sides, from `at` to m and from m to e, are copied to the front of a buffer, then h₁
module _ (tab l : List ℕ) (at m e : ℕ) (a : SideEnd tab l at m) (b : SideEnd tab l m e) where
  known : KnownBytes (take (e - at) (drop at l))
  known =
      let p = a.low in
      let q = b.low in
      let c : m - at + (e - m) ≡ e - at = omega arith in
      let d : at + (m - at) ≡ m = omega arith in
      let f : take (e - at) (drop at l) ≡ take (m - at) (drop at l) ++ take (e - m) (drop m l) =
      ap (λ z. take z (drop at l)) (sym c) ∙ take-add (m - at) (e - m) (drop at l)
      ∙ ap (λ z. take (m - at) (drop at l) ++ take (e - m) z) (drop-drop (m - at) at l ∙ ap (λ z. drop z l) d) in
      subst (λ z. KnownBytes z) (sym f) (every_append a.known b.known)

  module _ (h h₁ : List ℕ) (c : h₁ ≡ patched 0 (take (e - at) (drop at l)) h) where
    copied : take (e - at) h₁ ≡ take (e - at) (drop at l)
    unfolding patched
    copied =
        let p = a.low in
        let q = b.low in
        let r = b.within in
        let s : List ℕ = take (e - at) (drop at l) in
        ap (take (e - at)) c ∙ take_at s (drop (0 + length s) h) (e - at) (length-take-le (e - at) (drop at l) (omega (arith, length-drop at l)))

    pub few_names : length (collect [] (take (e - at) h₁)) ≤ 127
    few_names =
        subst (λ y. length (collect [] y) ≤ 127) (sym copied) (omega (arith, names_few 16 (take (e - at) (drop at l)) (λ b i. every_in known i)))

    -- renamed there, the buffer is h₂
    module _ (h₂ : List ℕ) (r : h₂ ≡ renamed_bytes (take (e - at) h₁) ++ drop (e - at) h₁) where
      renamed_sides : (p : Pair) → SidesAt tab l at p →
          Sides 16 tab (take (m - at - 0) h₂) (take (e - at - (m - at)) (drop (m - at) h₂)) (renamed p)
      renamed_sides p S =
          let u : List ℕ = term_bytes p.left in
          let v : List ℕ = term_bytes p.right in
          let rest : List ℕ = drop (e - at) h₁ in
          let few = wf_few 16 tab p S.left_wf S.right_wf in
          let i : m ≡ at + size p.left = a.answer p.left (v ++ S.rest) S.left_wf S.left_small S.bytes in
          let j : e ≡ m + size p.right =
          b.answer p.right S.rest S.right_wf S.right_small
          (ap (λ z. drop z l) i ∙ sym (drop-drop (size p.left) at l) ∙ ap (drop (size p.left)) S.bytes
          ∙ drop_at u (v ++ S.rest) (size p.left) (length_bytes p.left)) in
          let both : take (e - at) (drop at l) ≡ u ++ v =
          ap (take (e - at)) (S.bytes ∙ sym (append_assoc u v S.rest))
          ∙ take_at (u ++ v) S.rest (e - at) (length-append u v ∙ omega (arith, length_bytes p.left, length_bytes p.right)) in
          let w = r ∙ ap (λ z. renamed_bytes z ++ rest) (copied ∙ both) in
          let x = wf_low 16 tab p.left S.left_wf in
          let y = wf_low 16 tab p.right S.right_wf in
          record {
            left_wf = renamed_left_wf 16 16 tab p few S.left_wf;
            right_wf = renamed_right_wf 16 16 tab p few S.right_wf;
            left_bytes = left_cut p x y h₂ rest w (m - at - 0) (omega arith);
            right_bytes = right_cut p x y h₂ rest w (m - at) (e - at - (m - at)) (omega arith) (omega arith);
          }

      pub sides_put : (slots : List ℕ) (k : ℕ) (slots' : List ℕ) →
          PutSides slots k (take (m - at - 0) h₂) (take (e - at - (m - at)) (drop (m - at) h₂)) slots' → PutsSides tab l at slots k slots'
      sides_put slots k slots' s = record { only = s.only; mark = s.mark; short = s.short; answer = λ p S. pair_put s (renamed_sides p S) }

-- `put_equation`
same_end : (l : List ℕ) (at e f : ℕ) → field_at 0x03 l at e ≡ field_at 0x03 l at f → e ≡ f
unfolding field_at
same_end l at e f q = ap (λ (x : ReadField). x.end) q

module _ (tab l : List ℕ) (at : ℕ) (slots : List ℕ) (k : ℕ) (mark slots' : List ℕ) (m : mark ≡ numbered_bytes 1 (k + 1))
    (p : PutMark slots k mark slots') where
  field_none : (n place : ℕ) → due 0x03 at (drop at l) ≡ refused n place → PutsEquation tab l at slots k slots' at
  field_none n place d = record { only = p.only; mark = p.mark_is ∙ m; short = p.short; answer = λ e p q S. absurd (no_ok (sym d ∙ q)) }

  pub undue_field : (r : Result ℕ DueError) → IsDue 0x03 l at r → ((e : ℕ) → r ≡ Ok e → ⊥) → PutsEquation tab l at slots k slots' at
  undue_field (Ok e) d none = absurd (none e refl)
  undue_field (Err Cut) d none = field_none _ _ d
  undue_field (Err Other) d none = field_none _ _ d

  pub field_one : (slots₂ : List ℕ) (r : ℕ) → due 0x03 at (drop at l) ≡ ok (field_at 0x03 l at r) → PutsSides tab l (at + 3) slots' k slots₂ →
      PutsEquation tab l at slots k slots₂ r
  field_one slots₂ r d s = record {
    only = record { same = s.only.same ∙ p.only.same; others = λ i n. s.only.others i n ∙ p.only.others i n };
    mark = s.mark ∙ p.mark_is ∙ m;
    short = λ _. s.short;
    answer = λ e p q S. (same_end l at r e (ok_injective (sym d ∙ q)), s.answer p S);
  }
