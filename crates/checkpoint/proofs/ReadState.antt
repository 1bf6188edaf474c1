-- Every saved record that is read, whoever wrote it, keeps the form and limits: it is one that can be written, and is read back from what is written.
-- Assumes nothing.
-- Read first: proofs/ReadItems, proofs/RoundTrip (Writable), items/proofs/Parts (OneRead, ThereRead).
use mathlib.Core.Path.{◌≡◌, refl, subst}
use mathlib.Core.Bool.{true}
use mathlib.Core.List.{List, [], ◌∷◌, map}
use mathlib.Core.Option.{none}
use Prim.Native.Nat.{ℕ, zero, suc, ◌-◌, ◌≤◌}
use native.Mathlib.Omega.{arith}
use lib.ListN.{length, length-map}
use borrow.Author.Tests.{ltb-false}
use Rattle.limits.specs.Limits.{most_equations, most_rules, most_pairs, most_entries}
use Rattle.terms.proofs.Limits.{Bytes}
use Rattle.terms.proofs.Every.{every_tail, every_left, every_right, every_map, every_mapped}
use Rattle.reading.specs.Stops.{wrong_saved}
use Rattle.reading.proofs.Refusals.{was_read}
use Rattle.problem.specs.Problem.{ok, Symbol, symbol_field}
use Rattle.problem.proofs.Reading.{from_bind, ok_injective, passed}
use Rattle.completion.specs.Promise.{fields_from, rules_in}
use Rattle.completion.proofs.Accepts.{symbols_few}
use Rattle.items.specs.Fields.{number_before, RuleAt, rules_of, read_rule_at}
use Rattle.items.proofs.Parts.{plain, AreFields, one_read, there_read, rules_again}
use Rattle.items.proofs.Refusals.{one_within}
use Rattle.checkpoint.specs.Checkpoint.{Checkpoint, read_equation, read_next, read_waiting, read_entry, read_put_back, checkpoint_bytes}
use Rattle.checkpoint.specs.Checkpoint.{read_checkpoint}
use Rattle.checkpoint.proofs.Items.{EntryWide, SymbolsRead, symbols_back}
use Rattle.checkpoint.proofs.RoundTrip.{WaitingKeeps, Writable, checkpoint_back}
use Rattle.checkpoint.proofs.ReadItems.{fields_bytes, items_have, there_few, entry_read, next_read, put_back_read, entries_read, equation_read}
use Rattle.checkpoint.proofs.ReadItems.{waiting_read, rules_read}

none_left : (at : ℕ) (bytes : List ℕ) → length bytes ≤ 0 → AreFields at bytes []
unfolding fields_from
none_left at [] h zero l = absurd (omega arith)
none_left at [] h (suc more) l = refl
none_left at (b ∷ bytes) h more l = absurd (omega arith)

pub read_writable : (bytes : List ℕ) (c : Checkpoint) → Bytes bytes → read_checkpoint bytes ≡ ok c → Writable c
unfolding read_checkpoint number_before rules_in
read_writable bytes c b e =
    from_bind _ _ c e λ _ _ e.
    from_bind _ _ c e λ Σ e₁ e.
    from_bind _ _ c e λ es e₂ e.
    from_bind _ _ c e λ next e₃ e.
    from_bind _ _ c e λ rules e₄ e.
    from_bind _ _ c e λ waiting e₅ e.
    from_bind _ _ c e λ log e₆ e.
    from_bind _ _ c e λ u₇ e₇ e.
    from_bind _ _ c e λ back e₈ e.
    from_bind _ _ c e λ u₉ e₉ e.
    let r₁ = one_read wrong_saved 0x01 symbol_field 0 bytes Σ e₁ in
    let r₂ = there_read wrong_saved 0x03 (λ _ f. read_equation Σ.part f) most_equations none Σ.end Σ.rest es e₂ in
    let r₃ = one_read wrong_saved 0x20 read_next es.end es.rest next e₃ in
    let r₄ = there_read wrong_saved 0x12 (read_rule_at Σ.part true (next.part - 1)) most_rules none next.end next.rest rules e₄ in
    let r₅ = there_read wrong_saved 0x21 (λ _ f. read_waiting Σ.part f) (most_pairs - length rules.part) none rules.end rules.rest waiting e₅ in
    let r₆ = there_read wrong_saved 0x13 (λ _ f. read_entry f) most_entries none waiting.end waiting.rest log e₆ in
    let r₈ = one_read wrong_saved 0x22 (read_put_back (length waiting.part)) log.end log.rest back e₈ in
    let are_last = r₈.more_fields [] (none_left back.end back.rest (ltb-false 0 (length back.rest) (passed _ 16 back.end u₉ e₉))) in
    let are = r₁.more_fields _ (r₂.more_fields _ (r₃.more_fields _ (r₄.more_fields _ (r₅.more_fields _ (r₆.more_fields _ are_last))))) in
    let from03 = every_tail (fields_bytes (suc (length bytes)) 0 bytes _ (are (suc (length bytes)) (omega arith)) b) in
    let from12 = every_tail (every_right (map plain r₂.fields) _ from03) in
    let from21 = every_right (map plain r₄.fields) _ from12 in
    let from13 = every_right (map plain r₅.fields) _ from21 in
    let symbols : SymbolsRead Σ.part × (length Σ.part ≤ 16) =
    (was_read (one_within (λ (Σ : List Symbol). SymbolsRead Σ × (length Σ ≤ 16)) wrong_saved 0 wrong_saved refl 0x01 symbol_field
    (λ f Σ low h. (symbols_back f Σ (omega arith) h, symbols_few f Σ h)) 0 bytes (omega arith)) e₁).1 in
    let few_rules : length (rules_of rules.part) ≤ most_rules =
    omega (arith, length-map rules.part (λ (r : RuleAt). r.rule), there_few wrong_saved 0x12 _ most_rules none next.end next.rest rules e₄) in
    let few_waiting : length waiting.part ≤ most_pairs - length rules.part =
    there_few wrong_saved 0x21 _ _ none rules.end rules.rest waiting e₅ in
    let numbers = next_read r₃.field next.part r₃.is in
    let each = (rules_again Σ.part symbols.1 true (next.part - 1) r₄.items [] refl).1 in
    subst Writable (ok_injective e)
    (record {
      symbols_read = symbols.0;
      few = symbols.1;
      equations_few = there_few wrong_saved 0x03 _ most_equations none Σ.end Σ.rest es e₂;
      equations_fit = items_have _ 0x03 _ (λ _ f a _ h. equation_read Σ.part f a h) r₂.items (every_left (map plain r₂.fields) _ from03);
      rules_few = few_rules;
      rules_keep = rules_read Σ.part (next.part - 1) (omega (arith, numbers.1)) r₄.items each;
      rules_old = every_mapped (λ r. r.rule) (every_map (λ r q. q.high) each);
      together = omega (arith, length-map rules.part (λ (r : RuleAt). r.rule));
      waiting_keep = items_have (WaitingKeeps Σ.part) 0x21 _
          (λ _ f a b h. let k = waiting_read Σ.part f a b h in record { from = k.0; sides = k.1 })
          r₅.items (every_left (map plain r₅.fields) _ from21);
      made_few = omega (arith, entries_read next.part (length log.part) (passed _ 16 log.end u₇ e₇));
      log_few = there_few wrong_saved 0x13 _ most_entries none waiting.end waiting.rest log e₆;
      log_fit = items_have EntryWide 0x13 _ (λ _ f a b h. entry_read f a b h) r₆.items (every_left (map plain r₆.fields) _ from13);
      put_back_few = put_back_read (length waiting.part) r₈.field back.part r₈.is;
    })

-- So what is read is read again from what is written of it.
pub read_again : (bytes : List ℕ) (c : Checkpoint) → Bytes bytes → read_checkpoint bytes ≡ ok c → read_checkpoint (checkpoint_bytes c) ≡ ok c
read_again bytes c b e = checkpoint_back c (read_writable bytes c b e)
