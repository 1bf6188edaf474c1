-- The result: at most 13,726 bytes, each below 256, and every field's length below 256. Assumes nothing.
-- Read first: specs/Calls, proofs/Widths, proofs/Kept.
use mathlib.Core.Path.{◌≡◌, refl, ap, ◌∙◌}
use mathlib.Core.List.{List, [], ◌∷◌, ◌++◌, map, flat_map}
use Prim.Native.Nat.{ℕ, ◌+◌, ◌*◌, ◌≤◌}
use native.Mathlib.Omega.{arith}
use lib.ListN.{length, length-append}
use Rattle.limits.specs.Limits.{most_result}
use Rattle.terms.proofs.Lists.{flat_map_append}
use Rattle.terms.specs.Base.{number_bytes, Field, field_bytes, Every, of_none, of_cons}
use Rattle.terms.specs.Term.{Pair}
use Rattle.terms.proofs.Limits.{Bytes, number_bytes_bytes, length_number_bytes}
use Rattle.terms.proofs.Every.{every_head, every_tail, every_one, every_append, every_map, every_mapped, every_of}
use Rattle.rewriting.specs.Overlap.{Rule}
use Rattle.rewriting.specs.Rewrite.{End, complete, neither_above, spent, too_large, rules_full, log_full, end_number}
use Rattle.completion.specs.Turn.{Candidate, Entry, Finished}
use Rattle.completion.specs.Calls.{pair_bytes, rule_field, entry_field, oldest_field, forms_field, result_fields, result_bytes}
use Rattle.completion.proofs.Held.{HeldPair, RuleFits}
use Rattle.completion.proofs.Limits.{CandidateFits, Limits}
use Rattle.completion.proofs.Widths.{FieldFits, flat, flat_bytes, flat_cons, pair_bytes_length, pair_bytes_fit, rule_field_fits, entry_length}
use Rattle.completion.proofs.Widths.{entry_field_fits}

rules_fit : (n made : ℕ) → n ≤ 16 → (rules : List Rule) → Every (RuleFits n made) rules → Every (FieldFits 242) (map rule_field rules)
rules_fit n made l rules h = every_mapped rule_field (every_map (rule_field_fits n made l) h)

rules_length : (rules : List Rule) → Every (FieldFits 242) (map rule_field rules) → length (flat (map rule_field rules)) ≤ 245 * length rules
rules_length [] h = unfold flat_map in omega arith
rules_length (r ∷ rules) h =
    let a : FieldFits 242 (rule_field r) = every_head h in
    let c : length (rule_field r).contents ≤ 242 = a.length_fits in
    let k = rules_length rules (every_tail h) in
    omega (arith, flat_cons (rule_field r) (map rule_field rules))

entries_fit : (log : List Entry) → Every (FieldFits 242) (map entry_field log)
entries_fit log = every_mapped entry_field (every_of log (λ e i. entry_field_fits e))

entries_length : (log : List Entry) → length (flat (map entry_field log)) ≡ 11 * length log
entries_length [] = unfold flat_map in refl
entries_length (e ∷ log) =
    let k = entries_length log in
    omega (arith, flat_cons (entry_field e) (map entry_field log), entry_length e)

-- what is left of the room behind the log, and the oldest one waiting with end 20
record FormsFit (log : ℕ) (fs : List Field) : Type 0 where
  fit : Every (FieldFits 242) fs
  room : length (flat fs) + 11 * log ≤ 5875

no_forms : (log : ℕ) → log ≤ 512 → FormsFit log []
no_forms log l = record { fit = of_none; room = unfold flat_map in omega arith }

one_forms : (n log : ℕ) (e : Pair) → n ≤ 16 → log ≤ 512 → HeldPair n 16 e → FormsFit log (record { tag = 0x14; contents = pair_bytes e } ∷ [])
one_forms n log e l m h =
    let c : length (pair_bytes e) ≤ 240 = omega (arith, pair_bytes_length e, h.left.small, h.right.small) in
    record {
      fit = every_one (record { tag_fits = omega arith; contents_fit = pair_bytes_fit n l e h; length_fits = omega arith });
      room = let z : length (flat []) ≡ 0 = unfold flat_map in refl in omega (arith, flat_cons (record { tag = 0x14; contents = pair_bytes e }) []);
    }

oldest_fits : (n made log : ℕ) (waiting : List Candidate) → n ≤ 16 → log ≤ 512 → Every (CandidateFits n 16 made) waiting → FormsFit log (oldest_field waiting)
unfolding oldest_field
oldest_fits n made log [] l m h = no_forms log m
oldest_fits n made log (oldest ∷ waiting) l m h = one_forms n log oldest.sides l m (every_head h).fits

-- What is left in a state that keeps the limits, with n symbols.
module _ (n : ℕ) (few : n ≤ 16) (f : Finished) (lim : Limits n f.state) where
  forms_fit : (end : End) → FormsFit (length f.state.log) (forms_field end f.state.waiting)
  unfolding forms_field
  forms_fit complete = no_forms _ lim.log_few
  forms_fit neither_above =
      oldest_fits n f.state.made (length f.state.log) f.state.waiting few
      lim.log_few lim.waiting_fit
  forms_fit spent = no_forms _ lim.log_few
  forms_fit too_large = no_forms _ lim.log_few
  forms_fit rules_full = no_forms _ lim.log_few
  forms_fit log_full = no_forms _ lim.log_few

  pub fields_fit : Every (FieldFits 242) (result_fields f)
  unfolding result_fields
  fields_fit =
      of_cons {x = record { tag = 0x10; contents = number_bytes 1 (end_number f.end) }}
      (record {
        tag_fits = omega arith;
        contents_fit = number_bytes_bytes 1 (end_number f.end);
        length_fits = omega
            (arith, length_number_bytes 1 (end_number f.end));
      })
      (of_cons {x = record { tag = 0x11; contents = number_bytes 4 f.units }}
      (record { tag_fits = omega arith; contents_fit = number_bytes_bytes 4 f.units; length_fits = omega (arith, length_number_bytes 4 f.units) })
      (every_append
      (every_append
      (rules_fit n f.state.made few f.state.rules lim.rules_fit)
      (entries_fit f.state.log))
      (forms_fit f.end).fit))

  -- every byte of the result is one
  pub result_is_bytes : Bytes (result_bytes f)
  unfolding result_bytes
  result_is_bytes = flat_bytes 242 (result_fields f) fields_fit

  -- 4 for the end, 7 for the units, 245 a rule, 11 an entry, 243 for the oldest one waiting
  pub result_length : length (result_bytes f) ≤ most_result
  unfolding result_bytes result_fields
  result_length =
      let rules : List Field = map rule_field f.state.rules in
      let log : List Field = map entry_field f.state.log in
      let forms : List Field = forms_field f.end f.state.waiting in
      let c1 = flat_cons (record { tag = 0x10; contents = number_bytes 1 (end_number f.end) })
      (record { tag = 0x11; contents = number_bytes 4 f.units } ∷ (rules ++ log ++ forms)) in
      let c2 = flat_cons (record { tag = 0x11; contents = number_bytes 4 f.units }) (rules ++ log ++ forms) in
      let c3 = ap length (flat_map_append field_bytes (rules ++ log) forms) ∙ length-append (flat (rules ++ log)) (flat forms) in
      let c4 = ap length (flat_map_append field_bytes rules log) ∙ length-append (flat rules) (flat log) in
      let r : length (flat rules) ≤ 245 * length f.state.rules =
      rules_length f.state.rules (rules_fit n f.state.made few f.state.rules lim.rules_fit) in
      let l : length (flat log) ≡ 11 * length f.state.log = entries_length f.state.log in
      let m : length (flat forms) + 11 * length f.state.log ≤ 5875 = (forms_fit f.end).room in
      let live : length f.state.rules ≤ 32 = lim.live in
      omega (arith, length_number_bytes 1 (end_number f.end), length_number_bytes 4 f.units)
