-- What is to come from a place on is that place and what is to come from the next, in each of the five cases of `next`. Assumes nothing.
-- Read first: specs/Order (to_come, Follows), rewriting/specs/Overlap (all_places).
use mathlib.Core.Path.{◌≡◌, refl, sym, ◌∙◌, ap, subst}
use mathlib.Core.Bool.{Bool, true, false}
use mathlib.Core.List.{List, [], ◌∷◌, ◌++◌}
use Prim.Native.Nat.{ℕ, suc, ◌+◌, ◌-◌, ◌<◌, ◌≤◌}
use native.Mathlib.Nat.{sub-zero}
use native.Mathlib.Omega.{arith}
use native.Mathlib.Numerals.{add-one}
use lib.Dec.{ltb}
use lib.ListN.{length, take, drop, drop_of_length-le}
use lib.Seq.{length-take-le, take-suc, drop-cons, get_or-take}
use borrow.Author.Tests.{ltb-true, ltb-false, lt-ltb, le-ltb}
use Rattle.terms.specs.Base.{count_from}
use Rattle.terms.specs.Term.{size}
use Rattle.rewriting.specs.Overlap.{Rule, Place, places, positions, places_with, places_self, all_places}
use Rattle.rewriting.specs.Rewrite.{Paying}
use Rattle.overlaps.proofs.Meeting.{overlap_behind}
use Rattle.completion.specs.Turn.{Candidate, scan, scan_inputs}
use Rattle.slots.specs.Slots.{slot, left_length, Layout}
use Rattle.scanning.specs.declared.spots.Spot.{Spot}
use Rattle.scanning.specs.Walk.{visit, visits, rule_at, no_rule, at_place, of_rules}
use Rattle.scanning.specs.Order.{at_positions, with_earlier, behind, to_come, place_rank, Follows}
use Rattle.scanning.proofs.Placing.{visit_none}

visits_append : (rs : List Rule) (ps qs : List Place) (next : Paying Candidate) → visits rs (ps ++ qs) next ≡ visits rs ps (visits rs qs next)
unfolding visits
visits_append rs [] qs next = refl
visits_append rs (p ∷ ps) qs next = ap (visit rs p) (visits_append rs ps qs next)

pub scan_visits : (rs : List Rule) (cs : List Candidate) (ps : List Place) → scan rs cs ps ≡ visits rs ps (scan_inputs rs cs)
unfolding scan visits visit
scan_visits rs cs [] = refl
scan_visits rs cs (p ∷ ps) = ap (visit rs p) (scan_visits rs cs ps)

abbrev spot : ℕ → ℕ → ℕ → Spot
spot i o p = record { inner = i; outer = o; position = p }

module _ (rs : List Rule) where
  abbrev left_size : ℕ → ℕ
  left_size k = size (rule_at rs k).sides.left

  -- the positions from p on
  positions_over : (i o p : ℕ) (next : Paying Candidate) → left_size o ≤ p → at_positions i o p rs next ≡ next
  unfolding at_positions visits places count_from
  positions_over i o p next l = let e : left_size o - p ≡ 0 = omega arith in ap (λ n. visits rs (places (rule_at rs i) (rule_at rs o) (count_from p n)) next) e

  positions_more : (i o p : ℕ) (next : Paying Candidate) → at_positions i o p rs next ≡ at_place (spot i o p) rs (at_positions i o (p + 1) rs next)
  unfolding at_positions at_place visits places count_from
  positions_more i o p next = go (ltb p (left_size o)) refl
    where
      place : Place
      place = record { inner = rule_at rs i; outer = rule_at rs o; position = p }

      rest : ℕ → Paying Candidate
      rest q = visits rs (places (rule_at rs i) (rule_at rs o) (count_from q (left_size o - q))) next

      go : (b : Bool) → ltb p (left_size o) ≡ b → rest p ≡ visit rs place (rest (p + 1))
      go true e =
          let l : p < left_size o = ltb-true _ _ e in
          let n : left_size o - p ≡ suc (left_size o - (p + 1)) = omega arith in
          rw (n, add-one p) refl
      go false e =
          let l : left_size o ≤ p = ltb-false _ _ e in
          let n : left_size o - p ≡ 0 = omega arith in
          let m : left_size o - (p + 1) ≡ 0 = omega arith in
          rw (n, m) (sym (visit_none rs place (overlap_behind _ _ p l) next))

  all_positions : (i o : ℕ) (next : Paying Candidate) →
      visits rs (places (rule_at rs i) (rule_at rs o) (positions (rule_at rs o))) next ≡ at_positions i o 0 rs next
  unfolding at_positions positions
  all_positions i o next = ap (λ n. visits rs (places (rule_at rs i) (rule_at rs o) (count_from 0 n)) next) (sym (sub-zero (left_size o)))

  -- a rule with the earlier rules
  with_more : (a b : ℕ) (next : Paying Candidate) → a < b → b < length rs →
      with_earlier a b rs next ≡ at_positions a b 0 rs (at_positions b a 0 rs (with_earlier (a + 1) b rs next))
  unfolding with_earlier places_with
  with_more a b next l m =
      let n : length (take b rs) ≡ b = length-take-le b rs (omega arith) in
      let rest : List Rule = drop (a + 1) (take b rs) in
      let d : drop a (take b rs) ≡ rule_at rs a ∷ rest
      = rw (add-one a) (drop-cons (take b rs) a no_rule (omega arith) ∙ ap (λ r. r ∷ drop (suc a) (take b rs)) (get_or-take b rs a no_rule l)) in
      let r : Rule = rule_at rs b in
      let e : Rule = rule_at rs a in
      let last : Paying Candidate = at_positions b b 1 rs (of_rules (b + 1) rs next) in
      ap (λ es. visits rs (places_with es r) last) d
      ∙ visits_append rs (places e r (positions r) ++ places r e (positions e)) (places_with rest r) last
      ∙ visits_append rs (places e r (positions r)) (places r e (positions e)) (visits rs (places_with rest r) last)
      ∙ all_positions a b (visits rs (places r e (positions e)) (visits rs (places_with rest r) last))
      ∙ ap (at_positions a b 0 rs) (all_positions b a (visits rs (places_with rest r) last))

  with_over : (b : ℕ) (next : Paying Candidate) → b < length rs → with_earlier b b rs next ≡ at_positions b b 1 rs (of_rules (b + 1) rs next)
  unfolding with_earlier visits places_with
  with_over b next m =
      let n : length (take b rs) ≡ b = length-take-le b rs (omega arith) in
      ap (λ es. visits rs (places_with es (rule_at rs b)) (at_positions b b 1 rs (of_rules (b + 1) rs next)))
      (drop_of_length-le (take b rs) {i = b} (omega arith))

  -- the rules from b on
  rules_more : (b : ℕ) (next : Paying Candidate) → b < length rs → of_rules b rs next ≡ with_earlier 0 b rs next
  unfolding of_rules with_earlier at_positions all_places places_self
  rules_more b next l =
      let r : Rule = rule_at rs b in
      let t : take b rs ++ (r ∷ []) ≡ take (b + 1) rs = rw (add-one b) (sym (take-suc rs b no_rule l)) in
      let d : drop b rs ≡ r ∷ drop (b + 1) rs = rw (add-one b) (drop-cons rs b no_rule l) in
      let later : List Rule → List Place = λ earlier. all_places earlier (drop (b + 1) rs) in
      ap (λ rest. visits rs (all_places (take b rs) rest) next) d
      ∙ visits_append rs (places_with (take b rs) r ++ places_self r) (later (take b rs ++ (r ∷ []))) next
      ∙ visits_append rs (places_with (take b rs) r) (places_self r) (visits rs (later (take b rs ++ (r ∷ []))) next)
      ∙ ap (λ earlier. visits rs (places_with (take b rs) r) (visits rs (places_self r) (visits rs (later earlier) next))) t

  rules_over : (b : ℕ) (next : Paying Candidate) → length rs ≤ b → of_rules b rs next ≡ next
  unfolding of_rules visits all_places
  rules_over b next l = ap (λ rest. visits rs (all_places (take b rs) rest) next) (drop_of_length-le rs l)

  -- what is to come
  come_in : (i o p : ℕ) (next : Paying Candidate) → o < length rs → to_come (spot i o p) rs next ≡ at_positions i o p rs (behind i o rs next)
  unfolding to_come
  come_in i o p next l = rw (lt-ltb o (length rs) l)

  pub come_out : (at : Spot) (next : Paying Candidate) → length rs ≤ at.outer → to_come at rs next ≡ next
  unfolding to_come
  come_out at next l = rw (le-ltb at.outer (length rs) l)

  behind_earlier : (i o : ℕ) (next : Paying Candidate) → i < o → behind i o rs next ≡ at_positions o i 0 rs (with_earlier (i + 1) o rs next)
  unfolding behind
  behind_earlier i o next l = rw (lt-ltb i o l)

  behind_later : (i o : ℕ) (next : Paying Candidate) → o < i → behind i o rs next ≡ with_earlier (o + 1) i rs next
  unfolding behind
  behind_later i o next l = rw (le-ltb i o (omega arith), lt-ltb o i l)

  behind_itself : (b : ℕ) (next : Paying Candidate) → behind b b rs next ≡ of_rules (b + 1) rs next
  unfolding behind
  behind_itself b next = rw (le-ltb b b (omega arith))

  -- past the last position, what is to come from the next place
  back : (i o : ℕ) (next : Paying Candidate) → i < o → o < length rs → behind i o rs next ≡ to_come (spot o i 0) rs next
  back i o next l m = behind_earlier i o next l ∙ sym (come_in o i 0 next (omega arith) ∙ ap (at_positions o i 0 rs) (behind_later o i next l))

  fresh : (a b : ℕ) (next : Paying Candidate) → a < b → b < length rs → with_earlier a b rs next ≡ to_come (spot a b 0) rs next
  fresh a b next l m = with_more a b next l m ∙ sym (come_in a b 0 next m ∙ ap (at_positions a b 0 rs) (behind_earlier a b next l))

  itself : (b : ℕ) (next : Paying Candidate) → b < length rs → with_earlier b b rs next ≡ to_come (spot b b 1) rs next
  itself b next m = with_over b next m ∙ sym (come_in b b 1 next m ∙ ap (at_positions b b 1 rs) (behind_itself b next))

  later : (b : ℕ) (next : Paying Candidate) → of_rules (b + 1) rs next ≡ to_come (spot 0 (b + 1) 0) rs next
  later b next = go (ltb (b + 1) (length rs)) refl
    where
      go : (t : Bool) → ltb (b + 1) (length rs) ≡ t → of_rules (b + 1) rs next ≡ to_come (spot 0 (b + 1) 0) rs next
      go true e = let l : b + 1 < length rs = ltb-true _ _ e in rules_more (b + 1) next l ∙ fresh 0 (b + 1) next (omega arith) l
      go false e = let l : length rs ≤ b + 1 = ltb-false _ _ e in rules_over (b + 1) next l ∙ sym (come_out (spot 0 (b + 1) 0) next l)

  pub from_first : (next : Paying Candidate) → of_rules 0 rs next ≡ to_come (spot 0 0 1) rs next
  from_first next = go (ltb 0 (length rs)) refl
    where
      go : (t : Bool) → ltb 0 (length rs) ≡ t → of_rules 0 rs next ≡ to_come (spot 0 0 1) rs next
      go true e = let l : 0 < length rs = ltb-true _ _ e in rules_more 0 next l ∙ itself 0 next l
      go false e = let l : length rs ≤ 0 = ltb-false _ _ e in rules_over 0 next l ∙ sym (come_out (spot 0 0 1) next l)

  -- the next place, by what follows the positions
  pub on : (i o p : ℕ) (next : Paying Candidate) → o < length rs →
      to_come (spot i o p) rs next ≡ at_place (spot i o p) rs (at_positions i o (p + 1) rs (behind i o rs next))
  on i o p next m = come_in i o p next m ∙ positions_more i o p (behind i o rs next)

  past : (i o p : ℕ) (r : Spot) (next : Paying Candidate) → o < length rs → left_size o ≤ p + 1 → behind i o rs next ≡ to_come r rs next →
      to_come (spot i o p) rs next ≡ at_place (spot i o p) rs (to_come r rs next)
  past i o p r next m l e = on i o p next m ∙ ap (at_place (spot i o p) rs) (positions_over i o (p + 1) (behind i o rs next) l ∙ e)

-- the returns of `next`
module _ (rules : List ℕ) (i o p : ℕ) (r : Spot) (n : ℕ) (low : (i < 33) × (o < 33) × (p < 256) × Layout rules (o + 1))
    (z : n ≡ left_length (slot rules o)) where
  pub next_position : p + 1 < n → r ≡ spot i o (p + 1) → Follows rules (spot i o p) r
  unfolding place_rank
  next_position l e = subst (Follows rules (spot i o p)) (sym e) (record {
    low = let few = (low.3.short o (omega arith)).left in omega arith;
    within = λ count a b c. omega arith;
    rises = omega arith;
    leads = λ rs s a b next. on rs i o p next b ∙ ap (at_place (spot i o p) rs) (sym (come_in rs i o (p + 1) next b));
  })

  module _ (l : n ≤ p + 1) where
    follow : (q : Spot) → r ≡ q → q.position < 256 → ((count : ℕ) → i < count → o < count → q.outer < count → q.inner < count) →
        place_rank (spot i o p) < place_rank q →
        ((rs : List Rule) (next : Paying Candidate) → i < length rs → o < length rs → behind i o rs next ≡ to_come q rs next) → Follows rules (spot i o p) r
    follow q e f w up g = subst (Follows rules (spot i o p)) (sym e) (record {
      low = f;
      within = w;
      rises = up;
      leads = λ rs s a b next. past rs i o p q next b (omega (arith, s o b)) (g rs next a b);
    })

    pub next_back : i < o → r ≡ spot o i 0 → Follows rules (spot i o p) r
    unfolding place_rank
    next_back h e = follow (spot o i 0) e (omega arith) (λ count a b c. omega arith) (omega arith) (λ rs next a b. back rs i o next h b)

    pub next_earlier : o + 1 < i → r ≡ spot (o + 1) i 0 → Follows rules (spot i o p) r
    unfolding place_rank
    next_earlier h e =
        follow (spot (o + 1) i 0) e (omega arith) (λ count a b c. omega arith) (omega arith)
        (λ rs next a b. behind_later rs i o next (omega arith) ∙ fresh rs (o + 1) i next h a)

    pub next_itself : o < i → i ≤ o + 1 → r ≡ spot i i 1 → Follows rules (spot i o p) r
    unfolding place_rank
    next_itself f g e =
        follow (spot i i 1) e (omega arith) (λ count a b c. omega arith) (omega arith)
        (λ rs next a b. behind_later rs i o next f ∙ ap (λ k. with_earlier k i rs next) (omega arith) ∙ itself rs i next a)

    pub next_later : o ≤ i → i ≤ o → r ≡ spot 0 (o + 1) 0 → Follows rules (spot i o p) r
    unfolding place_rank
    next_later f g e =
        follow (spot 0 (o + 1) 0) e (omega arith) (λ count a b c. omega arith) (omega arith)
        (λ rs next a b. ap (λ k. behind k o rs next) (omega arith) ∙ behind_itself rs o next ∙ later rs o next)
