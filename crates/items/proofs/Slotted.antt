-- A pair that is held in a slot; rules, field behind field, in slots: the loop of `read_rules`. Assumes nothing.
-- Read first: specs/Readers (rules_at, InSlots, RuleIs, HoldsPair), proofs/Walking (Walked), slots/proofs/Listing, slots/proofs/Layouts.
use mathlib.Core.Path.{◌≡◌, refl, ap, sym, subst, ◌∙◌}
use mathlib.Core.Bool.{Bool}
use mathlib.Core.List.{List, [], ◌∷◌, ◌++◌, map, map-append, map-map}
use mathlib.Core.Option.{Option, none, some}
use Prim.Native.Nat.{ℕ, suc, ◌+◌, ◌*◌, ◌<◌, ◌≤◌}
use native.Mathlib.Omega.{arith}
use lib.ListN.{length, get_or, length-append, length-map}
use Rattle.limits.specs.Limits.{most_rules, most_variables}
use Rattle.terms.specs.Term.{Pair, size}
use Rattle.reading.specs.Answers.{symbols_of}
use Rattle.problem.specs.Problem.{Reading, ok, ReadField}
use Rattle.rewriting.specs.Overlap.{Rule, sides_of}
use Rattle.slots.specs.Slots.{slot_width, numbered_bytes, Sides, Marked, MarkedAt, Stored, Holds, PutMark, PutSides}
use Rattle.slots.proofs.Listing.{all_none, stored_of, holds_next}
use Rattle.slots.proofs.Layouts.{layout_put, layout_more}
use Rattle.items.specs.Fields.{read_rule, RuleAt, rules_of, number_before, read_rule_at}
use Rattle.items.specs.Written.{row}
use Rattle.items.specs.Readers.{part, OneAt, OneBad, There, ThereBad, RuleIs, HoldsPair, rules_at, InSlots}
use Rattle.items.proofs.OneField.{more_bad, more_read}
use Rattle.items.proofs.Walking.{Walked, walk_start, walk_full, walk_none, walk_other, walk_bad, walk_more}

-- `hold_pair`
pub pair_held : {slots slots₁ slots₂ mark left right : List ℕ} {k : ℕ} → PutMark slots k mark slots₁ → PutSides slots₁ k left right slots₂ →
    HoldsPair slots k mark left right slots₂
pair_held m s = record {
  only = record { same = s.only.same ∙ m.only.same; others = λ i n. s.only.others i n ∙ m.only.others i n };
  mark_is = s.mark ∙ m.mark_is;
  left_is = s.left_is;
  right_is = s.right_is;
  short = s.short;
}

-- the pair that stands in the slot
pub held_at : {tab slots mark left right slots' : List ℕ} {k : ℕ} {p : Pair} → HoldsPair slots k mark left right slots' →
    Sides most_variables tab left right p → MarkedAt tab slots' k (record { mark = mark; sides = p })
held_at H s = record {
  mark = H.mark_is;
  pair = record {
    sides = record { left_wf = s.left_wf; right_wf = s.right_wf; left_bytes = H.left_is ∙ s.left_bytes; right_bytes = H.right_is ∙ s.right_bytes };
  };
}

-- the sides of rules that stand in slots
pub slots_store : {tab slots : List ℕ} {count : ℕ} {rules : List Rule} → InSlots tab slots count rules → Stored tab slots 0 (sides_of rules)
slots_store {tab} {slots} {rules = rules} I =
    subst (Stored tab slots 0) (map-map (λ (m : Marked). m.sides) row rules) (stored_of tab slots 0 (map row rules) I.holds)

-- the place behind a rule's field, and behind those of rules one behind the other
abbrev pub behind_rule : ℕ → Rule → ℕ
behind_rule at r = at + 5 + size r.sides.left + size r.sides.right

unfoldable pub behind_rules : ℕ → List Rule → ℕ
behind_rules at [] = at
behind_rules at (r ∷ rules) = behind_rules (behind_rule at r) rules

pub rules_at_append : (at : ℕ) (rules more : List Rule) → rules_at at (rules ++ more) ≡ rules_at at rules ++ rules_at (behind_rules at rules) more
unfolding rules_at behind_rules
rules_at_append at [] more = refl
rules_at_append at (r ∷ rules) more = ap (λ (l : List RuleAt). record { first = at; rule = r } ∷ l) (rules_at_append (behind_rule at r) rules more)

pub behind_rules_append : (at : ℕ) (rules more : List Rule) → behind_rules at (rules ++ more) ≡ behind_rules (behind_rules at rules) more
unfolding behind_rules
behind_rules_append at [] more = refl
behind_rules_append at (r ∷ rules) more = behind_rules_append (behind_rule at r) rules more

pub length_rules_at : (at : ℕ) (rules : List Rule) → length (rules_at at rules) ≡ length rules
unfolding rules_at
length_rules_at at [] = refl
length_rules_at at (r ∷ rules) = ap suc (length_rules_at (behind_rule at r) rules)

-- rules without their places
pub rules_of_at : (at : ℕ) (rules : List Rule) → rules_of (rules_at at rules) ≡ rules
unfolding rules_at
rules_of_at at [] = refl
rules_of_at at (r ∷ rules) = ap (λ l. r ∷ l) (rules_of_at (behind_rule at r) rules)

-- over a table: rules are ordered or not, and have numbers of at most so much
module _ (tab : List ℕ) (ordered : Bool) (top : ℕ) where
  abbrev read : ℕ → ReadField → Reading Rule
  read before = read_rule (symbols_of tab) ordered top before

  abbrev pub read_at : Option RuleAt → ReadField → Reading RuleAt
  read_at before = read_rule_at (symbols_of tab) ordered top before

  -- with its place
  abbrev placed_rule : ℕ → Rule → Reading RuleAt
  placed_rule first r = ok (record { first = first; rule = r })

  -- The rules whose fields stand from `at` to i are read, and stand in the first `count` slots. The next number is to be above that of the last.
  pub record RulesSoFar (l : List ℕ) (at : ℕ) (slots : List ℕ) (count before i : ℕ) : Type 0 where
    pub rules : List Rule
    pub last : Option RuleAt
    pub walked : Walked 0x12 read_at most_rules l at (rules_at at rules) last i
    pub told : number_before last ≡ before
    pub place : behind_rules at rules ≡ i
    pub slotted : InSlots tab slots count rules

  module _ (l : List ℕ) (at : ℕ) (slots : List ℕ) where
    pub rules_start : at ≤ length l → RulesSoFar l at slots 0 0 at
    unfolding rules_at behind_rules number_before
    rules_start h = record {
      rules = [];
      last = none;
      walked = walk_start 0x12 read_at most_rules l at h;
      told = refl;
      place = refl;
      slotted = record {
        counted = refl;
        few = omega arith;
        holds = all_none (MarkedAt tab slots) 0;
        layout = record { room = omega arith; short = λ k j. absurd (omega arith) };
      };
    }

    module _ (count before i : ℕ) (s : RulesSoFar l at slots count before i) where
      abbrev Found : Type 0
      Found = (rules : List Rule) × There 0x12 read_at most_rules l at i (rules_at at rules) × InSlots tab slots count rules

      counted : length (rules_at at s.rules) ≡ count
      counted = length_rules_at at s.rules ∙ sym s.slotted.counted

      pub rules_full : count ≡ most_rules → Found
      rules_full h = (s.rules, walk_full _ _ _ _ _ _ _ _ s.walked (counted ∙ h), s.slotted)

      pub rules_none : length l ≤ i → Found
      rules_none h = (s.rules, walk_none _ _ _ _ _ _ _ _ s.walked h, s.slotted)

      module _ (h : i < length l) where
        pub rules_other : (get_or l i 0 ≡ 0x12 → ⊥) → Found
        rules_other t = (s.rules, walk_other _ _ _ _ _ _ _ _ s.walked h t, s.slotted)

        module _ (f : count ≡ most_rules → ⊥) (t : get_or l i 0 ≡ 0x12) where
          room_left : length (rules_at at s.rules) ≡ most_rules → ⊥
          room_left e = f (sym counted ∙ e)

          pub rules_bad : OneBad 0x12 (read before) l i i → ThereBad 0x12 read_at most_rules l at i
          unfolding read_rule_at
          rules_bad B =
              let b = subst (λ z. OneBad 0x12 (read z) l i i) (sym s.told) B in
              walk_bad _ _ _ _ _ _ _ _ s.walked h room_left t i (more_bad 0x12 (read (number_before s.last)) placed_rule l i i b)

          module _ (number m e : ℕ) (p : Pair) (R : RuleIs tab ordered top l i before number m e p) (mark slots' : List ℕ)
              (q : mark ≡ numbered_bytes 2 number) (H : HoldsPair slots count mark (part l (i + 5) m) (part l m e) slots')
              (room : slot_width * most_rules ≤ length slots) where
            abbrev rule : Rule
            rule = record { number = number; sides = p }

            abbrev rules' : List Rule
            rules' = s.rules ++ (rule ∷ [])

            walked_on : Walked 0x12 read_at most_rules l at (rules_at at rules') (some (record { first = i; rule = rule })) e
            unfolding rules_at read_rule_at
            walked_on =
                let o = subst (λ z. OneAt 0x12 (read z) l i rule e) (sym s.told) R.one in
                let d : rules_at at rules' ≡ rules_at at s.rules ++ (record { first = i; rule = rule } ∷ []) =
                rules_at_append at s.rules (rule ∷ []) ∙ ap (λ z. rules_at at s.rules ++ rules_at z (rule ∷ [])) s.place in
                rw d (walk_more _ _ _ _ _ _ _ _ s.walked h room_left t _ e
                (more_read 0x12 (read (number_before s.last)) placed_rule l i rule e o _ refl))

            put_on : InSlots tab slots' (count + 1) rules'
            put_on =
                let k = s.slotted in
                let c : length (map row s.rules) ≡ count = length-map s.rules row ∙ sym k.counted in
                let full : slot_width * (count + 1) ≤ length slots = omega (arith, f, k.few, room) in
                let here : MarkedAt tab slots' count (row rule) =
                subst (λ z. MarkedAt tab slots' count (record { mark = z; sides = p })) q (held_at H R.held.sides) in
                record {
                  counted = sym (length-append s.rules (rule ∷ []) ∙ omega (arith, k.counted));
                  few = omega (arith, f, k.few);
                  holds = subst (Holds tab slots' 0) (sym (map-append row s.rules (rule ∷ [])))
                      (holds_next tab slots slots' count H.only (map row s.rules) (row rule) c k.holds here);
                  layout = layout_more (layout_put k.layout H.only H.short) (omega (arith, H.only.same)) H.short;
                }

            pub rules_more : RulesSoFar l at slots' (count + 1) number e
            unfolding behind_rules number_before
            rules_more = record {
              rules = rules';
              last = some (record { first = i; rule = rule });
              walked = walked_on;
              told = refl;
              place = behind_rules_append at s.rules (rule ∷ []) ∙ omega (arith, s.place, R.held.middle, R.held.ends);
              slotted = put_on;
            }
