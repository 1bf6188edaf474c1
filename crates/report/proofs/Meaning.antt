-- The fields written from slots and log are the result fields of the run that these stand for. Assumes nothing.
-- Read first: state/specs/Run (Represents, Leaves), completion/specs/Calls (result_bytes), proofs/Whole.
use mathlib.Core.Path.{◌≡◌, refl, sym, ap, subst, ◌∙◌}
use mathlib.Core.List.{List, [], ◌∷◌, ◌++◌, map, flat_map, append_assoc, append-nil}
use Prim.Native.Nat.{ℕ, ◌≤◌}
use native.Mathlib.Omega.{arith}
use lib.ListN.{length}
use borrow.Author.Tests.{lt-ltb, le-ltb}
use Rattle.std.specs.Prelude.{if◌then◌else◌}
use Rattle.terms.specs.Base.{number_bytes, Field, field_bytes}
use Rattle.terms.proofs.Lists.{flat_map_append}
use Rattle.rewriting.specs.Overlap.{Rule}
use Rattle.rewriting.specs.Rewrite.{End, complete, neither_above, spent, too_large, rules_full, log_full, end_number}
use Rattle.rewriting.specs.Ends.{ending, number_of as end_of}
use Rattle.rewriting.specs.declared.End.{End as Ending}
use Rattle.rewriting.specs.declared.End.TheVariants.{NeitherAbove}
use Rattle.rewriting.proofs.Holds.{number_of_ending}
use Rattle.slots.specs.Slots.{MarkedAt, Holds}
use Rattle.completion.specs.Turn.{Candidate, Finished}
use Rattle.completion.specs.Calls.{pair_bytes, rule_field, entry_field, oldest_field, forms_field, result_fields, result_bytes, Writes}
use Rattle.fields.specs.Puts.{tagged}
use Rattle.inputs.specs.Inputs.{marked}
use Rattle.items.specs.Written.{row, each, slot_field, logged_field}
use Rattle.items.proofs.Writing.{forms_are as pair_is}
use Rattle.collapse.specs.Rows.{held}
use Rattle.state.specs.Run.{Leaves}
use Rattle.state.proofs.Written.{rules_written, log_written}
use Rattle.collapse.proofs.Rows.{held_rows, length_held, length_rows, row_at}
use Rattle.state.specs.declared.State.{State}
use Rattle.limits.specs.Limits.{most_result}
use Rattle.fields.specs.declared.writer.Writer.{Writer}
use Rattle.report.specs.Report.{oldest_if, Reports}
use Rattle.report.proofs.Whole.{all_bytes}

-- Field 14.
module _ (tab slots : List ℕ) where
  -- what waits stands behind the rules
  oldest_are : (rs : List Rule) (ws : List Candidate) (live count : ℕ) → live ≡ length rs → count ≡ length (held rs ws) →
      Holds tab slots 0 (map marked (held rs ws)) → oldest_if NeitherAbove slots live count ≡ flat_map field_bytes (oldest_field ws)
  unfolding oldest_if oldest_field flat_map
  oldest_are rs [] live count l n h = rw (le-ltb live count (omega (arith, length_held rs []))) refl
  oldest_are rs (c ∷ ws) live count l n h =
      let m : MarkedAt tab slots live (marked c) =
      row_at tab slots live (map row rs) (marked c) (map marked ws) (subst (λ z. Holds tab slots 0 z) (held_rows rs (c ∷ ws)) h) (length_rows rs ∙ sym l) in
      rw (lt-ltb live count (omega (arith, length_held rs (c ∷ ws))))
      (ap field_bytes (pair_is tab slots live c.sides m.pair) ∙ sym (append-nil (field_bytes (tagged 0x14 (pair_bytes c.sides)))))

  forms_are : (x : End) (rs : List Rule) (ws : List Candidate) (live count : ℕ) → live ≡ length rs → count ≡ length (held rs ws) →
      Holds tab slots 0 (map marked (held rs ws)) → oldest_if (ending x) slots live count ≡ flat_map field_bytes (forms_field x ws)
  unfolding ending forms_field
  forms_are complete rs ws live count l n h = unfold oldest_if flat_map in refl
  forms_are neither_above rs ws live count l n h = oldest_are rs ws live count l n h
  forms_are spent rs ws live count l n h = unfold oldest_if flat_map in refl
  forms_are too_large rs ws live count l n h = unfold oldest_if flat_map in refl
  forms_are rules_full rs ws live count l n h = unfold oldest_if flat_map in refl
  forms_are log_full rs ws live count l n h = unfold oldest_if flat_map in refl

behind_units : (R L F : List Field) → flat_map field_bytes (R ++ L ++ F) ≡ flat_map field_bytes R ++ (flat_map field_bytes L ++ flat_map field_bytes F)
behind_units R L F =
    flat_map_append field_bytes (R ++ L) F ∙ ap (λ l. l ++ flat_map field_bytes F) (flat_map_append field_bytes R L)
    ∙ append_assoc (flat_map field_bytes R) (flat_map field_bytes L) (flat_map field_bytes F)

module _ (tab : List ℕ) (f : Finished) (st : State) (end : Ending) (paid : ℕ) (h : Leaves tab f st end paid) where
  end_is : end_of end ≡ end_number f.end
  end_is = ap end_of h.end_is ∙ number_of_ending f.end

  abbrev oldest_bytes : Ending → List ℕ
  oldest_bytes e = oldest_if e st.pairs.bytes st.live st.pairs.count

  forms_put : oldest_bytes end ≡ flat_map field_bytes (forms_field f.end f.state.waiting)
  forms_put =
      ap oldest_bytes h.end_is
      ∙ forms_are tab st.pairs.bytes f.end f.state.rules f.state.waiting st.live st.pairs.count
      h.state.live h.state.pairs.counted h.state.pairs.holds

  abbrev put : ℕ → List ℕ
  put n =
      all_bytes n paid (each (slot_field st.pairs.bytes) 0 st.live) (each (logged_field st.log.bytes) 0 st.log.count)
      (oldest_bytes end)

  bytes_are : put (end_of end) ≡ result_bytes f
  unfolding all_bytes result_bytes result_fields flat_map
  bytes_are =
      rw (end_is, h.paid_is, rules_written tab st f.state h.state, log_written tab st f.state h.state, forms_put)
      (ap (λ (l : List ℕ). field_bytes (tagged 0x10 (number_bytes 1 (end_number f.end))) ++ (field_bytes (tagged 0x11 (number_bytes 4 f.units)) ++ l))
      (sym (behind_units (map rule_field f.state.rules) (map entry_field f.state.log) (forms_field f.end f.state.waiting))))

  pub reported : (before after : List ℕ) (r n : ℕ) → n ≡ end_of end → Writes before (put n) after r → Writes before (result_bytes f) after r
  reported before after r n e w = subst (λ ys. Writes before ys after r) (ap put e ∙ bytes_are) w

-- `report`: what the writer's buffer holds is what the lent bytes hold behind it
abbrev all_put : State → Ending → ℕ → ℕ → List ℕ
all_put st end paid n =
    all_bytes n paid (each (slot_field st.pairs.bytes) 0 st.live) (each (logged_field st.log.bytes) 0 st.log.count)
    (oldest_if end st.pairs.bytes st.live st.pairs.count)

pub reports : (st : State) (end : Ending) (paid n : ℕ) (before : List ℕ) {after : List ℕ} (w : Writer) → after ≡ w.out.now → n ≡ end_of end →
    w.at ≤ most_result → Writes before (all_put st end paid n) w.out.now w.at → Reports st end paid before after w.at
reports st end paid n before w e is few p = rw e (record { writes = λ tab f h. reported tab f st end paid h before w.out.now w.at n is p; few = few })
