-- The fields written from lent bytes, slots and log are those of the theory and the state that these stand for, and the whole is the saved record.
-- Assumes nothing.
-- Read first: specs/Saves, state/specs/Run (Represents), checkpoint/specs/Checkpoint (checkpoint_bytes), state/proofs/Written.
use mathlib.Core.Path.{◌≡◌, refl, sym, ap, ap₂, subst, ◌∙◌}
use mathlib.Core.List.{List, [], ◌∷◌, ◌++◌, map, flat_map, append-nil}
use Prim.Native.Nat.{ℕ, suc, ◌+◌, ◌-◌, ◌≤◌}
use native.Mathlib.Omega.{arith}
use lib.ListN.{length}
use Rattle.limits.specs.Limits.{longest_saved}
use Rattle.terms.specs.Base.{number_bytes, Field, field_bytes}
use Rattle.terms.proofs.Lists.{flat_map_append}
use Rattle.rewriting.specs.Overlap.{Rule}
use Rattle.slots.specs.Slots.{MarkedAt, Holds}
use Rattle.slots.proofs.Listing.{all_split, all_first, all_rest}
use Rattle.reading.specs.Answers.{symbols_of, Table}
use Rattle.completion.specs.Turn.{Candidate}
use Rattle.completion.specs.Calls.{pair_bytes, rule_field, entry_field, Writes}
use Rattle.fields.specs.Puts.{tagged}
use Rattle.fields.specs.declared.writer.Writer.{Writer}
use Rattle.inputs.specs.Inputs.{marked}
use Rattle.items.specs.Written.{row, each, pair_field}
use Rattle.collapse.specs.Rows.{held}
use Rattle.collapse.proofs.Rows.{held_rows, length_held, length_rows}
use Rattle.state.specs.declared.State.{State}
use Rattle.state.specs.Run.{Represents}
use Rattle.state.proofs.Written.{rules_written, log_written}
use Rattle.checkpoint.specs.Checkpoint.{Checkpoint, symbol_bytes, equation_field_of, waiting_field, checkpoint_fields, checkpoint_bytes}
use Rattle.checkpoint.proofs.Items.{table_bytes}
use Rattle.saving.specs.Saves.{waiting_slot, state_bytes, PutsEquations, Saves}

-- Fields 21.
module _ (tab slots : List ℕ) where
  one_waits : (k : ℕ) (c : Candidate) → MarkedAt tab slots k (marked c) → waiting_slot slots k ≡ waiting_field c
  unfolding waiting_slot pair_field waiting_field pair_bytes
  one_waits k c h = let s = h.pair.sides in ap (tagged 0x21) (ap₂ ◌++◌ h.mark (ap₂ ◌++◌ s.left_bytes s.right_bytes))

  waiting_are : (k : ℕ) (ws : List Candidate) → Holds tab slots k (map marked ws) → each (waiting_slot slots) k (length ws) ≡ map waiting_field ws
  unfolding each
  waiting_are k [] h = refl
  waiting_are k (c ∷ ws) h =
      ap₂ ◌∷◌ (one_waits k c (all_first (MarkedAt tab slots) k _ _ h)) (waiting_are (suc k) ws (all_rest (MarkedAt tab slots) k _ _ h))

  -- what waits stands behind the rules
  behind_rules : (rs : List Rule) (ws : List Candidate) → Holds tab slots 0 (map marked (held rs ws)) → Holds tab slots (length rs) (map marked ws)
  behind_rules rs ws h =
      let parts = all_split (MarkedAt tab slots) 0 (map row rs) (map marked ws) (subst (Holds tab slots 0) (held_rows rs ws) h) in
      let n : 0 + length (map row rs) ≡ length rs = omega (arith, length_rows rs) in
      subst (λ z. Holds tab slots z (map marked ws)) n parts.1

module _ (tab : List ℕ) (st : State) (c : Checkpoint) (R : Represents tab st c.state) where
  waiting_written : each (waiting_slot st.pairs.bytes) st.live (st.pairs.count - st.live) ≡ map waiting_field c.state.waiting
  waiting_written =
      let n : st.pairs.count - st.live ≡ length c.state.waiting =
      omega (arith, R.live, R.pairs.counted, length_held c.state.rules c.state.waiting) in
      ap₂ (each (waiting_slot st.pairs.bytes)) R.live n
      ∙ waiting_are tab st.pairs.bytes (length c.state.rules) c.state.waiting
      (behind_rules tab st.pairs.bytes c.state.rules c.state.waiting R.pairs.holds)

  next_is : st.made + 1 ≡ suc c.state.made
  next_is = omega (arith, R.made)

  symbols_are : Table tab → c.theory.symbols ≡ symbols_of tab → tab ≡ symbol_bytes c.theory.symbols
  symbols_are T e = sym (ap symbol_bytes e ∙ table_bytes tab (λ odd. omega (arith, T.even)))

  bytes_are : (eqs : List ℕ) → tab ≡ symbol_bytes c.theory.symbols → eqs ≡ flat_map field_bytes (map equation_field_of c.theory.equations) →
      field_bytes (tagged 0x01 tab) ++ (eqs ++ state_bytes st) ≡ checkpoint_bytes c
  unfolding state_bytes checkpoint_bytes checkpoint_fields flat_map
  bytes_are eqs e₁ e₂ =
      let es : List Field = map equation_field_of c.theory.equations in
      let rules : List Field = map rule_field c.state.rules in
      let waiting : List Field = map waiting_field c.state.waiting in
      let log : List Field = map entry_field c.state.log in
      let f20 : Field = tagged 0x20 (number_bytes 2 (suc c.state.made)) in
      let f22 : Field = tagged 0x22 (number_bytes 1 c.state.put_back) in
      rw (e₂, next_is, rules_written tab st c.state R, waiting_written, log_written tab st c.state R, R.back)
      (ap₂ (λ (x y : List ℕ). field_bytes (tagged 0x01 x) ++ y) e₁
      (sym (flat_map_append field_bytes es (f20 ∷ (rules ++ (waiting ++ (log ++ (f22 ∷ [])))))
      ∙ ap (λ l. flat_map field_bytes es ++ (field_bytes f20 ++ l))
      (flat_map_append field_bytes rules (waiting ++ (log ++ (f22 ∷ [])))
      ∙ ap (λ l. flat_map field_bytes rules ++ l)
      (flat_map_append field_bytes waiting (log ++ (f22 ∷ []))
      ∙ ap (λ l. flat_map field_bytes waiting ++ l)
      (flat_map_append field_bytes log (f22 ∷ []) ∙ ap (λ l. flat_map field_bytes log ++ l) (append-nil (field_bytes f22))))))))

-- `save`: what the writer's buffer holds is what the lent bytes hold behind it
pub saved : {st : State} {tab l out after : List ℕ} {w₁ w₂ : Writer} (w₃ : Writer) {from count : ℕ} (q : PutsEquations l from count w₁ w₂) →
    after ≡ w₃.out.now →
    w₃.at ≤ longest_saved → Writes out (field_bytes (tagged 0x01 tab) ++ (q.ys ++ state_bytes st)) w₃.out.now w₃.at →
    Saves st tab l from count out after w₃.at
saved {st} {tab} {out = out} w₃ q e few p = record {
  few = few;
  writes = λ c T s f n R.
      rw e (subst (λ ys. Writes out ys w₃.out.now w₃.at) (bytes_are tab st c R q.ys (symbols_are tab st c R T s) (q.answer c.theory.equations f n)) p);
}
