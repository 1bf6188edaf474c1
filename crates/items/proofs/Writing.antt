-- Fields put from their parts: of a pair, head and the two sides of its slot; an entry of the log; and such fields one behind the other. Then what they
-- are: the fields of the rules, entries and forms that stand in the slots and in the log. Assumes nothing.
-- Read first: specs/Written, fields/specs/Adds, fields/proofs/Writing, completion/specs/Calls (rule_field, entry_field).
use mathlib.Core.Path.{◌≡◌, refl, ap, ap₂, subst, subst₂, sym, ◌∙◌}
use mathlib.Core.List.{List, ◌∷◌, ◌++◌, [], flat_map, map, append_assoc}
use Prim.Native.Nat.{ℕ, ◌+◌, ◌-◌, ◌*◌, ◌≤◌, suc, ◌<◌}
use native.Mathlib.Omega.{arith}
use lib.ListN.{length, take, drop, length-drop, length-append, take-append-drop}
use lib.Seq.{length-take-le, take_at, drop_at, take-take, drop-drop}
use native.Mathlib.Nat.{sub-zero, mul-le-mul_left, mul-add, mul-one}
use Rattle.limits.specs.Limits.{most_nodes, most_pair, field_head, rule_width, entry_width}
use Rattle.terms.specs.Base.{number_bytes, field_bytes, Field}
use Rattle.slots.specs.Slots.{slot, number_of, left_of, right_of, mark_of, numbered_bytes, PairAt, Marked, MarkedAt, Holds}
use Rattle.fields.specs.Puts.{patched, Puts, PutsSome, tagged}
use Rattle.fields.specs.Adds.{Adds, AddsSome}
use Rattle.fields.specs.declared.writer.Writer.{Writer}
use Rattle.fields.proofs.Patching.{part_is}
use Rattle.fields.proofs.Putting.{puts_length, puts_counted}
use Rattle.fields.proofs.Writing.{writes_room, writes_then, writes_field}
use Rattle.fields.proofs.Appending.{patched_none, patched_behind}
use Rattle.terms.specs.Term.{Pair}
use Rattle.terms.proofs.Lists.{take_drop}
use Rattle.rewriting.specs.Overlap.{Rule}
use Rattle.slots.proofs.Listing.{all_first, all_rest}
use Rattle.completion.specs.Turn.{Entry}
use Rattle.completion.specs.Calls.{pair_bytes, rule_field, entry_field}
use Rattle.completion.proofs.Widths.{entry_length}
use Rattle.items.specs.Written.{logged_width, pair_field, slot_field, logged_field, each, row, logged}

-- `put_pair`: tag and length, then the head, left side, right side
module _ (tag : ℕ) (head slots : List ℕ) (k : ℕ) (left right : List ℕ) (left_is : left ≡ left_of (slot slots k)) (right_is : right ≡ right_of (slot slots k))
    (left_short : length left ≤ most_nodes) (right_short : length right ≤ most_nodes) where
  module _ {w w₁ : Writer} (room : w.at + (field_head + length head + most_pair) ≤ length w.out.now)
      (p : Adds w w₁ 3 (tag ∷ number_bytes 2 (length head + length left + length right))) where
    pub head_room : w₁.at + length head + most_pair ≤ length w₁.out.now
    head_room = let r = writes_room (omega arith) p (length head + most_pair) (omega arith) in omega arith

    pub sides_room : {w₂ : Writer} → Adds w₁ w₂ (length head) head → w₂.at + most_pair ≤ length w₂.out.now
    sides_room q = let r = head_room in writes_room (omega arith) q most_pair (omega arith)

    pub puts_pair : {w₂ w₃ w₄ : Writer} → Adds w₁ w₂ (length head) head → Adds w₂ w₃ (length left) left → Adds w₃ w₄ (length right) right →
        AddsSome (field_head + length head + most_pair) w w₄ 1 (field_bytes (pair_field tag head slots k))
    unfolding pair_field
    puts_pair {w₂} {w₃} {w₄} q₂ q₃ q₄ =
        let r₁ = head_room in
        let r₂ = sides_room q₂ in
        let contents = writes_then (omega arith) q₂ (writes_then (omega arith) q₃ q₄) in
        let are : head ++ (left ++ right) ≡ head ++ (left_of (slot slots k) ++ right_of (slot slots k)) = ap (λ z. head ++ z) (ap₂ ◌++◌ left_is right_is) in
        let sum : length head + (length left + length right) ≡ length head + length left + length right = omega arith in
        let field = writes_field (omega arith) p (subst₂ (λ x y. Adds w₁ w₄ x y) sum are contents) in
        record { same = field.same; puts = record { puts = puts_counted _ _ _ _ _ _ field.puts; room = let n = field.puts.next in omega arith } }

-- `put_rule`: the head is the rule's number
pub puts_rule : {w w' : Writer} {number : List ℕ} (slots : List ℕ) (k : ℕ) → length number ≡ 2 → number ≡ number_of (slot slots k) →
    AddsSome (field_head + length number + most_pair) w w' 1 (field_bytes (pair_field 0x12 number slots k)) →
    AddsSome rule_width w w' 1 (field_bytes (slot_field slots k))
unfolding slot_field
puts_rule {w} {w'} {number} slots k two is p =
    let q : AddsSome rule_width w w' 1 (field_bytes (pair_field 0x12 number slots k)) =
    record { same = p.same; puts = record { puts = p.puts.puts; room = let m = p.puts.room in omega arith } } in
    subst (λ n. AddsSome rule_width w w' 1 (field_bytes (pair_field 0x12 n slots k))) is q

-- field 13, its contents cut from the log
pub puts_entry : (log : List ℕ) (k : ℕ) → logged_width * (k + 1) ≤ length log → {w w' : Writer} →
    Adds w w' (3 + length (take (logged_width * k + logged_width - logged_width * k) (drop (logged_width * k) log)))
    (field_bytes (tagged 0x13 (take (logged_width * k + logged_width - logged_width * k) (drop (logged_width * k) log)))) →
    AddsSome entry_width w w' 1 (field_bytes (logged_field log k))
unfolding logged_field
puts_entry log k room {w} {w'} p =
    let e : ℕ = logged_width * k in
    let q = subst (λ z. Adds w w' (3 + length z) (field_bytes (tagged 0x13 z))) (part_is log e logged_width) p in
    let n : w'.at ≡ w.at + (3 + length (take logged_width (drop e log))) = q.puts.next in
    let m : length (take logged_width (drop e log)) ≡ logged_width = length-take-le logged_width (drop e log) (omega (arith, length-drop e log)) in
    record { same = q.same; puts = record { puts = puts_counted _ _ _ _ _ _ q.puts; room = omega arith } }

-- i fields were put, and the others are still to put
pub record Listing (field : ℕ → Field) (width : ℕ) (w₀ : Writer) (count : ℕ) (w : Writer) (i : ℕ) : Type 0 where
  pub within : i ≤ count
  pub name : w.out.ghost_name ≡ w₀.out.ghost_name
  pub same : length w.out.now ≡ length w₀.out.now
  pub room : w.at ≤ w₀.at + width * i
  pub to_do : patched w.at (flat_map field_bytes (each field i (count - i))) w.out.now ≡ patched w₀.at (flat_map field_bytes (each field 0 count)) w₀.out.now
  pub total : w.at + length (flat_map field_bytes (each field i (count - i))) ≡ w₀.at + length (flat_map field_bytes (each field 0 count))

module _ (field : ℕ → Field) (width : ℕ) where
  abbrev bytes : ℕ → ℕ → List ℕ
  bytes i n = flat_map field_bytes (each field i n)

  next_field : (i count : ℕ) → i < count → bytes i (count - i) ≡ field_bytes (field i) ++ bytes (i + 1) (count - (i + 1))
  unfolding flat_map each
  next_field i count h =
      let a : count - i ≡ suc (count - (i + 1)) = omega arith in
      let b : suc i ≡ i + 1 = omega arith in
      ap (bytes i) a ∙ ap (λ (k : ℕ). field_bytes (field i) ++ bytes k (count - (i + 1))) b

  pub listing_start : (w : Writer) (count : ℕ) → Listing field width w count w 0
  listing_start w count =
      record { within = omega arith; name = refl; same = refl; room = omega arith; to_do = rw (sub-zero count) refl; total = rw (sub-zero count) refl }

  module _ {w₀ w : Writer} {count i : ℕ} (room : w₀.at + width * count ≤ length w₀.out.now) (h : Listing field width w₀ count w i) where
    pub listing_room : i < count → w.at + width ≤ length w.out.now
    listing_room l =
        let here : width * (i + 1) ≤ width * count = mul-le-mul_left width (let j : i + 1 ≤ count = omega arith in j) in
        let more : width * (i + 1) ≡ width * i + width = mul-add width i 1 ∙ ap (λ (z : ℕ). width * i + z) (mul-one width) in
        omega (arith, h.room, h.same)

    pub listing_more : {w' : Writer} → i < count → AddsSome width w w' 1 (field_bytes (field i)) → Listing field width w₀ count w' (i + 1)
    listing_more {w'} l p =
        let x : List ℕ = field_bytes (field i) in
        let rest : List ℕ = bytes (i + 1) (count - (i + 1)) in
        let e : bytes i (count - i) ≡ x ++ rest = next_field i count l in
        let n : w'.at ≡ w.at + length x = p.puts.puts.next in
        let few : w'.at ≤ w.at + width * 1 = p.puts.room in
        let s : length w.out.now ≡ length w₀.out.now = h.same in
        let free : w.at + width ≤ length w.out.now = listing_room l in
        let was : w.at ≤ w₀.at + width * i = h.room in
        let more : width * (i + 1) ≡ width * i + width = mul-add width i 1 ∙ ap (λ (z : ℕ). width * i + z) (mul-one width) in
        let one : width * 1 ≡ width = mul-one width in
        let t = h.total in
        record {
          within = omega arith;
          name = p.same ∙ h.name;
          same = puts_length _ _ _ x _ _ (omega arith) p.puts.puts ∙ s;
          room = omega arith;
          to_do = ap₂ (λ k z. patched k rest z) n p.puts.puts.bytes ∙ patched_behind w.at x rest w.out.now (omega arith)
              ∙ ap (λ z. patched w.at z w.out.now) (sym e) ∙ h.to_do;
          total = omega (arith, ap length e ∙ length-append x rest);
        }

    pub listing_end : count ≤ i → AddsSome width w₀ w count (bytes 0 count)
    unfolding flat_map each
    listing_end l =
        let k : i ≤ count = h.within in
        let z : bytes i (count - i) ≡ [] = ap (bytes i) (let e : count - i ≡ 0 = omega arith in e) in
        let was : w.at ≤ w₀.at + width * i = h.room in
        let j : i ≡ count = omega arith in
        let t = h.total in
        let bytes_are = sym (patched_none w.at w.out.now) ∙ ap (λ b. patched w.at b w.out.now) (sym z) ∙ h.to_do in
        record {
          same = h.name;
          puts = record { puts = record { bytes = bytes_are; counted = refl; next = omega (arith, ap length z) }; room = rw (sym j) was };
        }

-- the number in a rule's mark
pub rule_number : (s : List ℕ) (n : ℕ) → mark_of s ≡ numbered_bytes 2 n → number_of s ≡ number_bytes 2 n
unfolding number_of mark_of number_bytes
rule_number s n e = take_drop 1 2 s ∙ ap (drop 1) (sym (take-take 3 6 s (omega arith)) ∙ ap (take 3) e)

module _ (tab slots : List ℕ) where
  -- fields 12
  rule_is : (k : ℕ) (r : Rule) → MarkedAt tab slots k (row r) → slot_field slots k ≡ rule_field r
  unfolding slot_field pair_field rule_field pair_bytes
  rule_is k r h =
      let s = h.pair.sides in
      ap (tagged 0x12) (ap₂ ◌++◌ (rule_number (slot slots k) r.number h.mark) (ap₂ ◌++◌ s.left_bytes s.right_bytes))

  pub rules_are : (k : ℕ) (rs : List Rule) (ms : List Marked) → Holds tab slots k (map row rs ++ ms) → each (slot_field slots) k (length rs) ≡ map rule_field rs
  unfolding each
  rules_are k [] ms h = refl
  rules_are k (r ∷ rs) ms h =
      ap₂ ◌∷◌ (rule_is k r (all_first (MarkedAt tab slots) k _ _ h)) (rules_are (suc k) rs ms (all_rest (MarkedAt tab slots) k _ _ h))

  -- field 14
  pub forms_are : (k : ℕ) (p : Pair) → PairAt 16 tab slots k p → pair_field 0x14 [] slots k ≡ tagged 0x14 (pair_bytes p)
  unfolding pair_field pair_bytes
  forms_are k p h = let s = h.sides in ap (tagged 0x14) (ap₂ ◌++◌ s.left_bytes s.right_bytes)

-- fields 13
module _ (log : List ℕ) where
  entry_is : (k : ℕ) (e : Entry) → take logged_width (drop (logged_width * k) log) ≡ logged e → logged_field log k ≡ entry_field e
  unfolding logged_field entry_field
  entry_is k e h = ap (tagged 0x13) h

  entries_from : (k : ℕ) (es : List Entry) (rest : List ℕ) → drop (logged_width * k) log ≡ flat_map logged es ++ rest →
      each (logged_field log) k (length es) ≡ map entry_field es
  unfolding each flat_map
  entries_from k [] rest h = refl
  entries_from k (e ∷ es) rest h =
      let q : drop (logged_width * k) log ≡ logged e ++ (flat_map logged es ++ rest) = h ∙ append_assoc (logged e) (flat_map logged es) rest in
      let here : take logged_width (drop (logged_width * k) log) ≡ logged e =
      ap (take logged_width) q ∙ take_at (logged e) (flat_map logged es ++ rest) logged_width (entry_length e) in
      let next : logged_width * suc k ≡ logged_width * k + logged_width = omega arith in
      let behind : drop (logged_width * suc k) log ≡ flat_map logged es ++ rest =
      ap (λ (n : ℕ). drop n log) next ∙ sym (drop-drop logged_width (logged_width * k) log) ∙ ap (drop logged_width) q
      ∙ drop_at (logged e) (flat_map logged es ++ rest) logged_width (entry_length e) in
      ap₂ ◌∷◌ (entry_is k e here) (entries_from (suc k) es rest behind)

  pub entries_are : (es : List Entry) → take (logged_width * length es) log ≡ flat_map logged es → each (logged_field log) 0 (length es) ≡ map entry_field es
  entries_are es h =
      let n : ℕ = logged_width * length es in
      entries_from 0 es (drop n log) (sym (take-append-drop n log) ∙ ap (λ l. l ++ drop n log) h)
