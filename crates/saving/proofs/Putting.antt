-- Fields 21 are put from their slots, and the parts of a saved record stand one behind the other. Assumes nothing.
-- Read first: specs/Saves, items/proofs/Writing (Listing), fields/proofs/Putting (puts_then), fields/proofs/Writing.
use mathlib.Core.Path.{◌≡◌, refl, ap, subst, ◌∙◌}
use mathlib.Core.List.{List, ◌∷◌, ◌++◌, flat_map}
use Prim.Native.Nat.{ℕ, zero, suc, ◌+◌, ◌-◌, ◌*◌, ◌≤◌}
use native.Mathlib.Omega.{arith}
use native.Mathlib.Nat.{add-zero}
use lib.ListN.{length}
use Rattle.limits.specs.Limits.{most_pair, most_symbols, most_equations, most_entries, origin_width, longest_saved}
use Rattle.limits.specs.Limits.{field_head, rule_width, forms_width, waiting_width, entry_width}
use Rattle.terms.specs.Base.{number_bytes, Field, field_bytes}
use Rattle.slots.specs.Slots.{slot, mark_of}
use Rattle.completion.specs.Calls.{Writes, written}
use Rattle.fields.specs.Puts.{patched, tagged}
use Rattle.fields.specs.Adds.{Adds, AddsSome}
use Rattle.fields.specs.declared.writer.Writer.{Writer}
use Rattle.fields.proofs.Writing.{writes_length}
use Rattle.fields.proofs.Appending.{patched_front}
use Rattle.fields.proofs.Putting.{puts_length, puts_then, puts_counted}
use Rattle.items.specs.Written.{each, pair_field, slot_field, logged_field}
use Rattle.state.specs.declared.State.{State}
use Rattle.state.specs.Run.{Fine}
use Rattle.saving.specs.Saves.{waiting_slot, state_bytes, state_width}

-- `put_candidate`: the head is the mark
pub puts_candidate : {w w' : Writer} {mark : List ℕ} (slots : List ℕ) (k : ℕ) → length mark ≡ origin_width → mark ≡ mark_of (slot slots k) →
    AddsSome (field_head + length mark + most_pair) w w' 1 (field_bytes (pair_field 0x21 mark slots k)) →
    AddsSome waiting_width w w' 1 (field_bytes (waiting_slot slots k))
unfolding waiting_slot
puts_candidate {w} {w'} {mark} slots k six is p =
    let q : AddsSome waiting_width w w' 1 (field_bytes (pair_field 0x21 mark slots k)) =
    record { same = p.same; puts = record { puts = p.puts.puts; room = let m = p.puts.room in omega arith } } in
    subst (λ n. AddsSome waiting_width w w' 1 (field_bytes (pair_field 0x21 n slots k))) is q

-- `put_waiting`: the i-th place behind `live`
abbrev pub behind : List ℕ → ℕ → ℕ → Field
behind slots live i = waiting_slot slots (live + i)

each_behind : {A : Type 0} (f : ℕ → A) (a k n : ℕ) → each (λ i. f (a + i)) k n ≡ each f (a + k) n
unfolding each
each_behind f a k zero = refl
each_behind f a k (suc n) = let s : a + suc k ≡ suc (a + k) = omega arith in ap (λ l. f (a + k) ∷ l) (each_behind f a (suc k) n ∙ ap (λ z. each f z n) s)

pub puts_waiting : {w w' : Writer} (slots : List ℕ) (live count : ℕ) →
    AddsSome waiting_width w w' count (flat_map field_bytes (each (behind slots live) 0 count)) →
    AddsSome waiting_width w w' count (flat_map field_bytes (each (waiting_slot slots) live count))
puts_waiting {w} {w'} slots live count p =
    let e : each (behind slots live) 0 count ≡ each (waiting_slot slots) live count =
    each_behind (waiting_slot slots) live 0 count ∙ ap (λ z. each (waiting_slot slots) z count) (add-zero live) in
    subst (λ fs. AddsSome waiting_width w w' count (flat_map field_bytes fs)) e p

-- `put_state`: room behind the number, the rules, the waiting equations, and the log
module _ {st : State} (fine : Fine st) {w w₁ : Writer} {x₁ : List ℕ} (room : w.at + state_width ≤ length w.out.now) (p : Adds w w₁ 5 x₁) where
  pub rules_room : w₁.at + rule_width * st.live + waiting_width * (st.pairs.count - st.live) + entry_width * most_entries + 4 ≤ length w₁.out.now
  rules_room = omega (arith, fine.within, fine.together, writes_length (omega arith) p, p.puts.next)

  module _ {w₂ : Writer} {x₂ : List ℕ} (q : AddsSome rule_width w₁ w₂ st.live x₂) where
    pub waiting_room : w₂.at + waiting_width * (st.pairs.count - st.live) + entry_width * most_entries + 4 ≤ length w₂.out.now
    waiting_room =
        let r = rules_room in
        let n = q.puts.puts.next in
        omega (arith, q.puts.room, puts_length _ _ _ _ _ _ (omega (arith, q.puts.room)) q.puts.puts)

    module _ {w₃ : Writer} {x₃ : List ℕ} (s : AddsSome waiting_width w₂ w₃ (st.pairs.count - st.live) x₃) where
      pub log_room : w₃.at + entry_width * most_entries + 4 ≤ length w₃.out.now
      log_room =
          let r = waiting_room in
          let n = s.puts.puts.next in
          omega (arith, s.puts.room, puts_length _ _ _ _ _ _ (omega (arith, s.puts.room)) s.puts.puts)

      pub back_room : {w₄ : Writer} {n : ℕ} {x₄ : List ℕ} → AddsSome entry_width w₃ w₄ n x₄ → n ≤ most_entries → w₄.at + 4 ≤ length w₄.out.now
      back_room t few =
          let r = log_room in
          let n = t.puts.puts.next in
          omega (arith, t.puts.room, puts_length _ _ _ _ _ _ (omega (arith, t.puts.room)) t.puts.puts)

pub puts_state : {st : State} (fine : Fine st) {w w₁ w₂ w₃ w₄ w₅ : Writer} → w.at + state_width ≤ length w.out.now →
    Adds w w₁ 5 (field_bytes (tagged 0x20 (number_bytes 2 (st.made + 1)))) →
    AddsSome rule_width w₁ w₂ st.live (flat_map field_bytes (each (slot_field st.pairs.bytes) 0 st.live)) →
    AddsSome waiting_width w₂ w₃ (st.pairs.count - st.live)
    (flat_map field_bytes (each (waiting_slot st.pairs.bytes) st.live (st.pairs.count - st.live))) →
    AddsSome entry_width w₃ w₄ st.log.count (flat_map field_bytes (each (logged_field st.log.bytes) 0 st.log.count)) →
    Adds w₄ w₅ 4 (field_bytes (tagged 0x22 (number_bytes 1 st.back))) → AddsSome state_width w w₅ 1 (state_bytes st)
unfolding state_bytes
puts_state {st} fine {w} {w₅ = w₅} room p q s t u =
    let r₁ = rules_room fine room p in
    let r₂ = waiting_room fine room p q in
    let r₃ = log_room fine room p q s in
    let few = fine.log_few in
    let x₄ = puts_then _ _ _ 4 _ _ _ _ _ _ (omega (arith, t.puts.puts.next, t.puts.room)) t.puts.puts u.puts in
    let x₃ = puts_then _ _ _ _ _ _ _ _ _ _ (omega (arith, s.puts.puts.next, s.puts.room)) s.puts.puts x₄ in
    let x₂ = puts_then _ _ _ _ _ _ _ _ _ _ (omega (arith, q.puts.puts.next, q.puts.room)) q.puts.puts x₃ in
    let x₁ = puts_then _ _ 5 _ _ _ _ _ _ _ (omega arith) p.puts x₂ in
    let short : w₅.at ≤ w.at + state_width * 1 =
    omega (arith, fine.together, fine.within, p.puts.next, q.puts.room, s.puts.room, t.puts.room, u.puts.next) in
    record {
      same = u.same ∙ t.same ∙ s.same ∙ q.same ∙ p.same;
      puts = record { puts = puts_counted _ _ _ _ _ _ x₁; room = short };
    }

-- `save`: room behind the symbols' field, and behind the equations'
module _ (tab : List ℕ) {w w₁ : Writer} (front : w.at ≡ 0) (room : longest_saved ≤ length w.out.now) (small : length tab ≤ 2 * most_symbols)
    (p : Adds w w₁ (3 + length tab) (field_bytes (tagged 0x01 tab))) where
  pub equations_room : w₁.at + forms_width * most_equations + state_width ≤ length w₁.out.now
  equations_room = omega (arith, writes_length (omega arith) p, p.puts.next)

  pub last_room : {w₂ : Writer} {count : ℕ} {eqs : List ℕ} → count ≤ most_equations → AddsSome forms_width w₁ w₂ count eqs →
      w₂.at + state_width ≤ length w₂.out.now
  last_room few q =
      let r = equations_room in
      let n = q.puts.puts.next in
      omega (arith, q.puts.room, puts_length _ _ _ _ _ _ (omega (arith, q.puts.room)) q.puts.puts)

-- `save`: the symbols' field, the equations', then the state's
module _ (tab eqs ys : List ℕ) {w w₁ w₂ w₃ : Writer} {count : ℕ} (front : w.at ≡ 0) (room : longest_saved ≤ length w.out.now)
    (small : length tab ≤ 2 * most_symbols) (few : count ≤ most_equations) (p : Adds w w₁ (3 + length tab) (field_bytes (tagged 0x01 tab)))
    (q : AddsSome forms_width w₁ w₂ count eqs) (s : AddsSome state_width w₂ w₃ 1 ys) where
  pub saved_few : w₃.at ≤ longest_saved
  saved_few = omega (arith, p.puts.next, q.puts.room, s.puts.room)

  pub wrote_saved : Writes w.out.now (field_bytes (tagged 0x01 tab) ++ (eqs ++ ys)) w₃.out.now w₃.at
  unfolding written
  wrote_saved =
      let na : w₁.at ≡ 0 + (3 + length tab) = omega (arith, p.puts.next) in
      let nb = q.puts.room in
      let mb = q.puts.puts.next in
      let k₁ = writes_length (omega arith) p in
      let x₂ = puts_then _ _ _ _ eqs ys _ _ _ _ (omega arith) q.puts.puts s.puts.puts in
      let x₁ = puts_then _ _ _ _ _ _ _ _ _ _ (omega arith) p.puts x₂ in
      record {
        bytes = x₁.bytes ∙ ap (λ z. patched z (field_bytes (tagged 0x01 tab) ++ (eqs ++ ys)) w.out.now) front ∙ patched_front _ w.out.now;
        count = omega (arith, x₁.next, x₁.counted);
      }
