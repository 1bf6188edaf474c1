-- A waiting equation in its field; waiting equations, field behind field, in slots behind those that are taken: the loop of `read_waiting`. Assumes nothing.
-- Read first: specs/Candidates (WaitingIs, InRows), proofs/Origins, items/proofs/Walking (Walked), items/proofs/Slotted (held_at).
use mathlib.Core.Path.{◌≡◌, refl, ap, sym, subst, ◌∙◌}
use mathlib.Core.Bool.{true, false}
use mathlib.Core.List.{List, [], ◌∷◌, ◌++◌, map, map-append, append_assoc, append-nil}
use mathlib.Core.Option.{Option, none, some}
use Prim.Native.Nat.{ℕ, ◌+◌, ◌-◌, ◌*◌, ◌<◌, ◌≤◌}
use native.Mathlib.Omega.{arith}
use lib.ListN.{length, take, drop, get_or, length-take, length-drop, length-append, drop_of_length-le}
use lib.Seq.{drop-drop}
use Rattle.limits.specs.Limits.{most_pairs, most_rules, most_variables}
use Rattle.terms.specs.Term.{Pair}
use Rattle.reading.specs.Answers.{symbols_of, between, field_at}
use Rattle.reading.proofs.Reading.{bind_ok}
use Rattle.problem.specs.Problem.{Reading, ok, ◌>>=◌, ReadField, Symbol, read_term, read_side, read_pair}
use Rattle.slots.specs.Slots.{slot_width, Sides, Marked}
use Rattle.slots.proofs.Listing.{holds_next}
use Rattle.slots.proofs.Layouts.{layout_put, layout_more}
use Rattle.completion.specs.Turn.{Candidate}
use Rattle.completion.specs.Calls.{origin_bytes}
use Rattle.items.specs.Fields.{renamed_pair}
use Rattle.items.specs.Readers.{Unread, part, OneBad, There, ThereBad, HoldsPair}
use Rattle.items.proofs.OneField.{unread_bind, unread_then}
use Rattle.items.proofs.Walking.{Walked, walk_start, walk_full, walk_none, walk_other, walk_bad, walk_more}
use Rattle.items.proofs.Slotted.{held_at}
use Rattle.checkpoint.specs.Checkpoint.{read_origin, read_waiting}
use Rattle.inputs.specs.Inputs.{marked}
use Rattle.candidates.specs.Candidates.{origin_test, origin_copy, WaitingIs, InRows}
use Rattle.candidates.proofs.Origins.{origin_in, origin_unread, origin_read, origin_copied}

-- no term, so no pair
no_pair : (Σ : List Symbol) (at : ℕ) → Unread (renamed_pair Σ at [])
unfolding renamed_pair read_pair read_side read_term ◌>>=◌ Unread
no_pair Σ at = tt

-- a waiting equation, in the field from `at` to e
module _ (tab l : List ℕ) (at e : ℕ) (within : e ≤ length l) where
  abbrev waiting_read : Reading Candidate
  waiting_read = read_waiting (symbols_of tab) (field_at 0x21 l at e)

  abbrev sides_read : Reading Pair
  sides_read = renamed_pair (symbols_of tab) (at + 9) (between l (at + 9) e)

  abbrev contents : List ℕ
  contents = between l (at + 3) e

  pub waiting_short : e < at + 9 → Unread waiting_read
  unfolding read_waiting field_at
  waiting_short h =
      let none : drop 6 contents ≡ [] =
      drop_of_length-le contents {i = 6} (omega (arith, length-drop (at + 3) (take e l), length-take e l)) in
      rw none (unread_then (read_origin contents) _ (λ o. unread_bind (renamed_pair (symbols_of tab) (at + 9) []) _ (no_pair (symbols_of tab) (at + 9))))

  module _ (h : at + 9 ≤ e) where
    pub waiting_unmarked : origin_test (drop (at + 3) l) ≡ false → Unread waiting_read
    unfolding read_waiting field_at
    waiting_unmarked t = unread_bind (read_origin contents) _ (origin_unread l (at + 3) e (omega arith) t)

    module _ (t : origin_test (drop (at + 3) l) ≡ true) where
      abbrev pub candidate_of : Pair → Candidate
      candidate_of p = record { origin = origin_in contents; sides = p }

      waiting_is : waiting_read ≡ (sides_read >>= λ p. ok (candidate_of p))
      unfolding read_waiting field_at
      waiting_is =
          let q : at + 3 + 6 ≡ at + 9 = omega arith in
          let s : drop 6 contents ≡ between l (at + 9) e = drop-drop 6 (at + 3) (take e l) ∙ rw q refl in
          bind_ok _ (origin_read l (at + 3) e (omega arith) t) ∙ rw s refl

      pub waiting_unheld : Unread sides_read → Unread waiting_read
      waiting_unheld u = rw waiting_is (unread_bind sides_read _ u)

      pub waiting_fine : (p : Pair) → sides_read ≡ ok p → waiting_read ≡ ok (candidate_of p)
      waiting_fine p r = waiting_is ∙ bind_ok _ r

      pub waiting_mark : origin_bytes (origin_in contents) ≡ origin_copy (drop (at + 3) l)
      waiting_mark = origin_copied l (at + 3) e (omega arith) t

-- one row more
pub row_more : {tab slots mark left right slots' : List ℕ} {count : ℕ} {rows : List Marked} {p : Pair} → InRows tab slots count rows →
    slot_width * (count + 1) ≤ length slots → HoldsPair slots count mark left right slots' → Sides most_variables tab left right p →
    InRows tab slots' (count + 1) (rows ++ (record { mark = mark; sides = p } ∷ []))
row_more {tab} {slots} {slots' = slots'} {count = count} {rows = rows} I room H s = record {
  counted = length-append rows _ ∙ ap (λ n. n + 1) I.counted;
  holds = holds_next tab slots slots' count H.only rows _ I.counted I.holds (held_at H s);
  layout = layout_more (layout_put I.layout H.only H.short) (omega (arith, H.only.same)) H.short;
}

-- rows, and behind them those of candidates: one candidate more
rows_one : (rows : List Marked) (ws : List Candidate) (c : Candidate) → rows ++ map marked ws ++ (marked c ∷ []) ≡ rows ++ map marked (ws ++ (c ∷ []))
rows_one rows ws c =
    append_assoc rows (map marked ws) (marked c ∷ []) ∙ ap (λ (ms : List Marked). rows ++ ms) (sym (map-append marked ws (c ∷ [])))

module _ (tab : List ℕ) where
  abbrev read : Option Candidate → ReadField → Reading Candidate
  read _ f = read_waiting (symbols_of tab) f

  -- The equations whose fields stand from `at` to i are read, and stand in the slots from `live` to k.
  pub record WaitingSoFar (l : List ℕ) (at live : ℕ) (slots₀ slots : List ℕ) (k i : ℕ) : Type 0 where
    pub waiting : List Candidate
    pub last : Option Candidate
    pub walked : Walked 0x21 read (most_pairs - live) l at waiting last i
    pub counted : k ≡ live + length waiting
    pub few : k ≤ most_pairs
    pub rows : (before : List Marked) → InRows tab slots₀ live before → InRows tab slots k (before ++ map marked waiting)

  pub waiting_start : (l : List ℕ) (at live : ℕ) (slots : List ℕ) → at ≤ length l → live ≤ most_rules → WaitingSoFar l at live slots slots live at
  waiting_start l at live slots h few = record {
    waiting = [];
    last = none;
    walked = walk_start 0x21 read (most_pairs - live) l at h;
    counted = omega arith;
    few = omega arith;
    rows = λ before I. subst (InRows tab slots live) (sym (append-nil before)) I;
  }

  module _ (l : List ℕ) (at live : ℕ) (slots₀ slots : List ℕ) (k i : ℕ) (s : WaitingSoFar l at live slots₀ slots k i) where
    abbrev Found : Type 0
    Found =
        (ws : List Candidate) × There 0x21 read (most_pairs - live) l at i ws
        × ((before : List Marked) → InRows tab slots₀ live before → InRows tab slots k (before ++ map marked ws)) × (k ≡ live + length ws)

    ended : There 0x21 read (most_pairs - live) l at i s.waiting → Found
    ended t = (s.waiting, t, s.rows, s.counted)

    pub waiting_full : k ≡ most_pairs → Found
    waiting_full h = ended (walk_full _ _ _ _ _ _ _ _ s.walked (omega (arith, s.counted)))

    pub waiting_none : length l ≤ i → Found
    waiting_none h = ended (walk_none _ _ _ _ _ _ _ _ s.walked h)

    module _ (h : i < length l) where
      pub waiting_other : (get_or l i 0 ≡ 0x21 → ⊥) → Found
      waiting_other t = ended (walk_other _ _ _ _ _ _ _ _ s.walked h t)

      module _ (f : k ≡ most_pairs → ⊥) (t : get_or l i 0 ≡ 0x21) where
        room_left : length s.waiting ≡ most_pairs - live → ⊥
        room_left e = f (omega (arith, s.counted, s.few))

        pub waiting_bad : OneBad 0x21 (read_waiting (symbols_of tab)) l i i → ThereBad 0x21 read (most_pairs - live) l at i
        waiting_bad B = walk_bad _ _ _ _ _ _ _ _ s.walked h room_left t i B

        pub waiting_more : (m e : ℕ) (c : Candidate) → WaitingIs tab l i m e c → (mark slots' : List ℕ) → mark ≡ origin_copy (drop (i + 3) l) →
            HoldsPair slots k mark (part l (i + 9) m) (part l m e) slots' → slot_width * most_pairs ≤ length slots →
            WaitingSoFar l at live slots₀ slots' (k + 1) e
        waiting_more m e c W mark slots' q H room =
            let full : slot_width * (k + 1) ≤ length slots = omega (arith, f, s.few, room) in
            let H' = subst (λ z. HoldsPair slots k z (part l (i + 9) m) (part l m e) slots') (q ∙ sym W.mark) H in
            record {
              waiting = s.waiting ++ (c ∷ []);
              last = some c;
              walked = walk_more _ _ _ _ _ _ _ _ s.walked h room_left t c e W.one;
              counted = omega (arith, s.counted, length-append s.waiting (c ∷ []));
              few = omega (arith, f, s.few);
              rows = λ before I. subst (InRows tab slots' (k + 1)) (rows_one before s.waiting c)
                  (row_more (s.rows before I) full H' W.held.sides);
            }
