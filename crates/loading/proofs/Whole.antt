-- The parts of a saved record, one behind the other: `read_end`, `read_pairs` and `read_checkpoint`, a lemma for each return. Assumes nothing.
-- Read first: specs/Loads (read_end, read_pairs, FrontAt, LoadedAt), checkpoint/specs/Checkpoint (read_checkpoint).
use mathlib.Core.Path.{◌≡◌, refl, ap, sym, subst, ◌∙◌}
use mathlib.Core.Bool.{Bool, true, false}
use mathlib.Core.List.{List, [], ◌∷◌, ◌++◌, map}
use mathlib.Core.Option.{none}
use Prim.Native.Nat.{ℕ, suc, ◌+◌, ◌-◌, ◌<◌, ◌≤◌}
use native.Mathlib.Omega.{arith}
use lib.ListN.{length, drop, length-drop, length-map}
use borrow.Author.Tests.{lt-ltb, le-ltb}
use Rattle.limits.specs.Limits.{most_equations, most_rules, most_pairs, most_entries, most_next, most_saved}
use Rattle.terms.specs.Term.{Pair}
use Rattle.reading.specs.Stops.{long_problem, wrong_saved}
use Rattle.reading.specs.Answers.{symbols_of}
use Rattle.reading.proofs.Reading.{bind_ok, bind_refused, refuses}
use Rattle.problem.specs.Problem.{Reading, ok, refused, ◌>>=◌, refuse_if, symbol_field, Theory}
use Rattle.problem.specs.Parser.{SymbolsAt}
use Rattle.rewriting.specs.Overlap.{Rule}
use Rattle.slots.specs.Slots.{Marked}
use Rattle.completion.specs.Turn.{Candidate, Entry}
use Rattle.items.specs.Fields.{fields_there, read_rule_at, rules_of}
use Rattle.items.specs.Written.{row}
use Rattle.items.specs.Readers.{part, OneAt, OneBad, There, ThereBad, rules_at, InSlots}
use Rattle.items.proofs.Slotted.{length_rules_at, rules_of_at}
use Rattle.checkpoint.specs.Checkpoint.{Checkpoint, read_equation, read_next, read_waiting, read_entry, read_put_back, few_entries, read_checkpoint}
use Rattle.inputs.specs.Inputs.{marked}
use Rattle.candidates.specs.Candidates.{InRows}
use Rattle.loading.specs.declared.Front.{Front}
use Rattle.loading.specs.Loads.{read_end, EndIs, PairsAre, read_pairs, FrontAt, LoadedAt}
use Rattle.loading.proofs.Singles.{first_one}
use Rattle.loading.proofs.Equations.{equations_stand}

goes_on : {A : Type 0} (b : Bool) (n at : ℕ) (f : Unit {0} → Reading A) → b ≡ false → (refuse_if b n at >>= f) ≡ f tt
unfolding refuse_if ◌>>=◌
goes_on b n at f e = rw e refl

-- `read_end`
module _ (l : List ℕ) (at next waiting : ℕ) where
  -- whatever is made of what is read, it is refused at p
  abbrev EndRefused : ℕ → Type 0
  EndRefused p = (k : List Entry → ℕ → Checkpoint) → read_end k next waiting at (drop at l) ≡ refused wrong_saved p

  pub end_bad : (p : ℕ) → ThereBad 0x13 (λ _ f. read_entry f) most_entries l at p → EndRefused p
  unfolding read_end
  end_bad p B k = bind_refused _ (B wrong_saved)

  module _ (es : List Entry) (e : ℕ) (L : There 0x13 (λ _ f. read_entry f) most_entries l at e es) where
    pub end_few : suc (length es) < next → EndRefused e
    unfolding read_end few_entries
    end_few h k = bind_ok _ (L.is wrong_saved) ∙ refuses _ wrong_saved e _ (lt-ltb (suc (length es)) next h)

    module _ (enough : next ≤ suc (length es)) where
      pub end_unread : (p : ℕ) → OneBad 0x22 (read_put_back waiting) l e p → EndRefused p
      unfolding read_end few_entries
      end_unread p B k =
          bind_ok _ (L.is wrong_saved) ∙ goes_on _ wrong_saved e _ (le-ltb (suc (length es)) next enough) ∙ bind_refused _ (B wrong_saved)

      module _ (back : ℕ) (B : OneAt 0x22 (read_put_back waiting) l e back (e + 4)) where
        pub end_more : e + 4 < length l → EndRefused (e + 4)
        unfolding read_end few_entries
        end_more h k =
            bind_ok _ (L.is wrong_saved) ∙ goes_on _ wrong_saved e _ (le-ltb (suc (length es)) next enough) ∙ bind_ok _ (B.is wrong_saved)
            ∙ refuses _ wrong_saved (e + 4) _ (lt-ltb 0 (length (drop (e + 4) l)) (omega (arith, length-drop (e + 4) l)))

        pub end_fine : length l ≤ e + 4 → (k : List Entry → ℕ → Checkpoint) → read_end k next waiting at (drop at l) ≡ ok (k es back)
        unfolding read_end few_entries
        end_fine h k =
            bind_ok _ (L.is wrong_saved) ∙ goes_on _ wrong_saved e _ (le-ltb (suc (length es)) next enough) ∙ bind_ok _ (B.is wrong_saved)
            ∙ goes_on _ wrong_saved (e + 4) _ (le-ltb 0 (length (drop (e + 4) l)) (omega (arith, length-drop (e + 4) l)))

-- `read_pairs`
module _ (tab l : List ℕ) (at next : ℕ) where
  -- what is read behind the rules and the waiting equations
  abbrev Behind : Type 0
  Behind = List Rule → List Candidate → ℕ → List ℕ → Reading Checkpoint

  abbrev PairsRefused : ℕ → Type 0
  PairsRefused p = (k : Behind) → read_pairs k (symbols_of tab) next at (drop at l) ≡ refused wrong_saved p

  pub pairs_bad : (p : ℕ) → ThereBad 0x12 (read_rule_at (symbols_of tab) true (next - 1)) most_rules l at p → PairsRefused p
  unfolding read_pairs
  pairs_bad p B k = bind_refused _ (B wrong_saved)

  module _ (rules : List Rule) (m : ℕ) (R : There 0x12 (read_rule_at (symbols_of tab) true (next - 1)) most_rules l at m (rules_at at rules)) where
    rules_then : (k : Behind) → read_pairs k (symbols_of tab) next at (drop at l) ≡
        (fields_there wrong_saved 0x21 (λ _ f. read_waiting (symbols_of tab) f) (most_pairs - length rules) none m (drop m l) >>= λ w.
        k rules w.part w.end w.rest)
    unfolding read_pairs
    rules_then k = bind_ok _ (R.is wrong_saved) ∙ rw (length_rules_at at rules, rules_of_at at rules) refl

    pairs_read : (ws : List Candidate) (e : ℕ) → There 0x21 (λ _ f. read_waiting (symbols_of tab) f) (most_pairs - length rules) l m e ws →
        (k : Behind) → read_pairs k (symbols_of tab) next at (drop at l) ≡ k rules ws e (drop e l)
    pairs_read ws e W k = rules_then k ∙ bind_ok _ (W.is wrong_saved)

    module _ (slots : List ℕ) (live : ℕ) (I : InSlots tab slots live rules) where
      pub waiting_unread : (p : ℕ) → ThereBad 0x21 (λ _ f. read_waiting (symbols_of tab) f) (most_pairs - live) l m p → PairsRefused p
      waiting_unread p B k =
          rules_then k
          ∙ bind_refused _ (subst (λ n. ThereBad 0x21 (λ _ f. read_waiting (symbols_of tab) f) (most_pairs - n) l m p) I.counted B wrong_saved)

      pub pairs_fine : (ws : List Candidate) (e count : ℕ) (slots' : List ℕ) →
          There 0x21 (λ _ f. read_waiting (symbols_of tab) f) (most_pairs - live) l m e ws →
          ((rows : List Marked) → InRows tab slots live rows → InRows tab slots' count (rows ++ map marked ws)) → count ≡ live + length ws →
          PairsAre tab l at next slots' live count e
      pairs_fine ws e count slots' W J q = record {
        rules = rules;
        waiting = ws;
        middle = m;
        rules_there = R;
        waiting_there = subst (λ n. There 0x21 (λ _ f. read_waiting (symbols_of tab) f) (most_pairs - n) l m e ws) I.counted W;
        slotted = J (map row rules) (record { counted = length-map rules row ∙ sym I.counted; holds = I.holds; layout = I.layout });
        live_is = I.counted;
        live_few = I.few;
        count_is = q;
        count_few = omega (arith, q, I.few, W.few);
      }

-- the record's state, from its parts
abbrev made_of : Theory → ℕ → List Rule → List Candidate → List Entry → ℕ → Checkpoint
made_of T next rules waiting log back =
    record { theory = T; state = record { rules = rules; made = next - 1; waiting = waiting; log = log; put_back = back } }

-- the front, and what is read behind it
module _ (l : List ℕ) (front : Front) (F : FrontAt l front) where
  abbrev tab : List ℕ
  tab = part l 3 front.table

  abbrev T : Theory
  T = record { symbols = symbols_of tab; equations = F.equations }

  abbrev behind : List Rule → List Candidate → ℕ → List ℕ → Reading Checkpoint
  behind rules waiting at bytes = read_end (made_of T front.next rules waiting) front.next (length waiting) at bytes

  front_then : read_checkpoint l ≡ read_pairs behind (symbols_of tab) front.next (front.end + 5) (drop (front.end + 5) l)
  unfolding read_checkpoint read_pairs read_end
  front_then =
      goes_on _ long_problem most_saved _ (le-ltb most_saved (length l) F.small) ∙ bind_ok _ ((first_one l front.table F.table).is wrong_saved)
      ∙ bind_ok _ (F.there.is wrong_saved) ∙ bind_ok _ (F.next.is wrong_saved)

  pub behind_bad : (p : ℕ) → PairsRefused tab l (front.end + 5) front.next p → read_checkpoint l ≡ refused wrong_saved p
  behind_bad p B = front_then ∙ B behind

  module _ (slots : List ℕ) (live count e : ℕ) (P : PairsAre tab l (front.end + 5) front.next slots live count e) where
    waits : count - live ≡ length P.waiting
    waits = omega (arith, P.count_is)

    pairs_then : read_checkpoint l ≡ read_end (made_of T front.next P.rules P.waiting) front.next (count - live) e (drop e l)
    pairs_then = front_then ∙ pairs_read tab l _ _ P.rules _ P.rules_there P.waiting e P.waiting_there behind ∙ rw waits refl

    pub end_refused : (p : ℕ) → EndRefused l e front.next (count - live) p → read_checkpoint l ≡ refused wrong_saved p
    end_refused p B = pairs_then ∙ B _

    pub loaded : (log : List ℕ) (entries back : ℕ) → EndIs l e front.next (count - live) log entries back →
        (c : Checkpoint) × LoadedAt l front slots log (record { live = live; pairs = count; entries = entries; back = back }) c
    loaded log entries back E =
        let k : List Entry → ℕ → Checkpoint = made_of T front.next P.rules P.waiting in
        let some = F.next_some in (
          k E.entered back,
          record {
            is = pairs_then ∙ E.is k;
            small = F.small;
            table = F.table;
            symbols_are = refl;
            equations_there = F.there;
            equations_in = equations_stand tab F.table.table l most_equations _ _ _ F.there;
            number = F.number;
            next_is = omega (arith, some);
            live_is = P.live_is;
            live_few = P.live_few;
            pairs_few = P.count_few;
            slotted = P.slotted;
            entries_few = E.entries_few;
            entries_are = E.entries_are;
            log_is = E.log_is;
            next_few = E.next_few;
            back_is = refl;
            back_few = omega (arith, E.back_few, P.count_few);
          },
        )

-- the front, from its parts
pub front_at : (l : List ℕ) → length l ≤ most_saved → (t : ℕ) → SymbolsAt l t → (es : List Pair) (e count : ℕ) →
    There 0x03 (λ _ f. read_equation (symbols_of (part l 3 t)) f) most_equations l t e es → length es ≡ count →
    (next : ℕ) → OneAt 0x20 read_next l e next (e + 5) → 1 ≤ next → next ≤ most_next →
    FrontAt l (record { table = t; equations = count; end = e; next = next })
front_at l small t S es e count Q n next N some few =
    record { small = small; table = S; equations = es; there = Q; number = n; next = N; next_some = some; next_few = few }

-- `load`, and what stands before the rules
module _ (l : List ℕ) where
  pub too_long : most_saved < length l → read_checkpoint l ≡ refused long_problem most_saved
  unfolding read_checkpoint
  too_long h = refuses _ long_problem most_saved _ (lt-ltb most_saved (length l) h)

  module _ (small : length l ≤ most_saved) where
    pub first_refused : (p : ℕ) → OneBad 0x01 symbol_field l 0 p → read_checkpoint l ≡ refused wrong_saved p
    unfolding read_checkpoint
    first_refused p B = goes_on _ long_problem most_saved _ (le-ltb most_saved (length l) small) ∙ bind_refused _ (B wrong_saved)

    module _ (t : ℕ) (S : SymbolsAt l t) where
      pub equations_refused : (p : ℕ) → ThereBad 0x03 (λ _ f. read_equation (symbols_of (part l 3 t)) f) most_equations l t p →
          read_checkpoint l ≡ refused wrong_saved p
      unfolding read_checkpoint
      equations_refused p B =
          goes_on _ long_problem most_saved _ (le-ltb most_saved (length l) small) ∙ bind_ok _ ((first_one l t S).is wrong_saved)
          ∙ bind_refused _ (B wrong_saved)

      pub next_refused : (es : List Pair) (e p : ℕ) → There 0x03 (λ _ f. read_equation (symbols_of (part l 3 t)) f) most_equations l t e es →
          OneBad 0x20 read_next l e p → read_checkpoint l ≡ refused wrong_saved p
      unfolding read_checkpoint
      next_refused es e p Q B =
          goes_on _ long_problem most_saved _ (le-ltb most_saved (length l) small) ∙ bind_ok _ ((first_one l t S).is wrong_saved)
          ∙ bind_ok _ (Q.is wrong_saved) ∙ bind_refused _ (B wrong_saved)
