-- Field 14 is put or left out, and all fields one behind the other fill the front of the buffer, which has room for them. Assumes nothing.
-- Read first: specs/Report (oldest_if), completion/specs/Calls (Writes), fields/proofs/Putting.
use mathlib.Core.Path.{◌≡◌, refl, sym, ap, ◌∙◌}
use mathlib.Core.List.{List, [], ◌++◌, flat_map}
use Prim.Native.Nat.{ℕ, ◌+◌, ◌-◌, ◌*◌, ◌<◌, ◌≤◌}
use native.Mathlib.Omega.{arith}
use lib.ListN.{length}
use borrow.Author.Tests.{lt-ltb, le-ltb}
use Rattle.limits.specs.Limits.{most_pair, most_rules, most_entries, field_head, rule_width, entry_width, forms_width, most_result}
use Rattle.terms.specs.Base.{number_bytes, Field, field_bytes}
use Rattle.rewriting.specs.declared.End.{End as Ending}
use Rattle.rewriting.specs.declared.End.TheVariants.{Complete, NeitherAbove, Spent, TooLarge, RulesFull, LogFull}
use Rattle.completion.specs.Calls.{written, Writes}
use Rattle.fields.specs.Puts.{patched, tagged}
use Rattle.fields.specs.Adds.{Adds, AddsSome}
use Rattle.fields.specs.declared.writer.Writer.{Writer}
use Rattle.fields.proofs.Writing.{writes_length}
use Rattle.fields.proofs.Appending.{patched_none, patched_front}
use Rattle.fields.proofs.Putting.{puts_length, puts_then}
use Rattle.items.specs.Written.{pair_field}
use Rattle.report.specs.Report.{oldest_if}

-- `put_oldest`
module _ {w : Writer} where
  nothing : (ys : List ℕ) → ys ≡ [] → AddsSome forms_width w w 1 ys
  nothing ys e = rw e (record {
    same = refl;
    puts = record { puts = record { bytes = sym (patched_none w.at w.out.now); counted = refl; next = omega arith }; room = omega arith };
  })

  pub oldest_none : (end : Ending) (slots : List ℕ) (live count : ℕ) → (end ≡ NeitherAbove → ⊥) → AddsSome forms_width w w 1 (oldest_if end slots live count)
  oldest_none end slots live count h = nothing _ (go end h)
    where
      go : (e : Ending) → (e ≡ NeitherAbove → ⊥) → oldest_if e slots live count ≡ []
      go Complete h = unfold oldest_if in refl
      go NeitherAbove h = absurd (h refl)
      go Spent h = unfold oldest_if in refl
      go TooLarge h = unfold oldest_if in refl
      go RulesFull h = unfold oldest_if in refl
      go LogFull h = unfold oldest_if in refl

  module _ (end : Ending) (slots : List ℕ) (live count : ℕ) (neither : end ≡ NeitherAbove) where
    pub none_oldest : count ≤ live → AddsSome forms_width w w 1 (oldest_if end slots live count)
    none_oldest h = nothing _ (unfold oldest_if in rw (neither, le-ltb live count h) refl)

    pub oldest_put : {w' : Writer} → live < count → AddsSome (field_head + 0 + most_pair) w w' 1 (field_bytes (pair_field 0x14 [] slots live)) →
        AddsSome forms_width w w' 1 (oldest_if end slots live count)
    unfolding oldest_if
    oldest_put h p =
        rw (neither, lt-ltb live count h) (record { same = p.same; puts = record { puts = p.puts.puts; room = let m = p.puts.room in omega arith } })

-- all fields
unfoldable pub all_bytes : ℕ → ℕ → List Field → List Field → List ℕ → List ℕ
all_bytes end units rules log forms =
    field_bytes (tagged 0x10 (number_bytes 1 end))
    ++ (field_bytes (tagged 0x11 (number_bytes 4 units)) ++ (flat_map field_bytes rules ++ (flat_map field_bytes log ++ forms)))

-- `report`: room behind the end and the units, which have eleven bytes, then behind the rules and the log
module _ {w w₁ : Writer} {n : ℕ} {x₁ : List ℕ} (front : w.at ≡ 0) (room : most_result ≤ length w.out.now) (p : Adds w w₁ n x₁) where
  pub units_room : n ≤ 11 → w₁.at + (11 - n) + rule_width * most_rules + entry_width * most_entries + forms_width ≤ length w₁.out.now
  units_room few = omega (arith, writes_length (omega arith) p, p.puts.next)

  module _ {w₂ : Writer} {m : ℕ} {x₂ : List ℕ} (q : Adds w₁ w₂ m x₂) (both : n + m ≤ 11) where
    pub rules_room : w₂.at + rule_width * most_rules + entry_width * most_entries + forms_width ≤ length w₂.out.now
    rules_room = let r = units_room (omega arith) in omega (arith, writes_length (omega arith) q, q.puts.next)

    module _ {w₃ : Writer} {x₃ : List ℕ} {live : ℕ} (s : AddsSome rule_width w₂ w₃ live x₃) (live_few : live ≤ most_rules) where
      pub log_room : w₃.at + entry_width * most_entries + forms_width ≤ length w₃.out.now
      log_room = let r = rules_room in let n = s.puts.puts.next in omega (arith, s.puts.room, puts_length _ _ _ _ _ _ (omega (arith, s.puts.room)) s.puts.puts)

      pub forms_room : {w₄ : Writer} {x₄ : List ℕ} {entries : ℕ} → AddsSome entry_width w₃ w₄ entries x₄ → entries ≤ most_entries →
          w₄.at + forms_width ≤ length w₄.out.now
      forms_room t few =
          let r = log_room in
          let n = t.puts.puts.next in
          omega (arith, t.puts.room, puts_length _ _ _ _ _ _ (omega (arith, t.puts.room)) t.puts.puts)

module _ {w w₁ w₂ w₃ w₄ w₅ : Writer} (front : w.at ≡ 0) (room : most_result ≤ length w.out.now) (end units live entries : ℕ)
    (rules log : List Field) (forms : List ℕ) (live_few : live ≤ most_rules) (log_few : entries ≤ most_entries)
    (p : Adds w w₁ 4 (field_bytes (tagged 0x10 (number_bytes 1 end)))) (q : Adds w₁ w₂ 7 (field_bytes (tagged 0x11 (number_bytes 4 units))))
    (s : AddsSome rule_width w₂ w₃ live (flat_map field_bytes rules)) (t : AddsSome entry_width w₃ w₄ entries (flat_map field_bytes log))
    (u : AddsSome forms_width w₄ w₅ 1 forms) where
  pub wrote_few : w₅.at ≤ most_result
  wrote_few = omega (arith, p.puts.next, q.puts.next, s.puts.room, t.puts.room, u.puts.room)

  pub wrote_all : Writes w.out.now (all_bytes end units rules log forms) w₅.out.now w₅.at
  unfolding all_bytes written
  wrote_all =
      let ys : List ℕ = field_bytes (tagged 0x10 (number_bytes 1 end))
      ++ (field_bytes (tagged 0x11 (number_bytes 4 units)) ++ (flat_map field_bytes rules ++ (flat_map field_bytes log ++ forms))) in
      let r₁ = units_room front room p (omega arith) in
      let r₂ = rules_room front room p q (omega arith) in
      let r₃ = log_room front room p q (omega arith) s live_few in
      let x₄ = puts_then _ _ _ _ _ forms _ _ _ _ (omega (arith, t.puts.puts.next, t.puts.room)) t.puts.puts u.puts.puts in
      let x₃ = puts_then _ _ _ _ _ _ _ _ _ _ (omega (arith, s.puts.puts.next, s.puts.room)) s.puts.puts x₄ in
      let x₂ = puts_then _ _ 7 _ _ _ _ _ _ _ (omega arith) q.puts x₃ in
      let x₁ = puts_then _ _ 4 _ _ _ _ _ _ _ (omega arith) p.puts x₂ in
      record { bytes = x₁.bytes ∙ ap (λ z. patched z ys w.out.now) front ∙ patched_front _ w.out.now; count = omega (arith, x₁.next, x₁.counted) }
