-- An entry in its field; entries, field behind field, at the front of the log: the loop of `read_log`. Assumes nothing.
-- Read first: specs/Candidates (EntryIs, entry_copy), proofs/Origins, fields/specs/Puts (patched), items/proofs/Walking (Walked).
use mathlib.Core.Path.{◌≡◌, refl, ap, ap₂, sym, ◌∙◌}
use mathlib.Core.Bool.{true, false}
use mathlib.Core.List.{List, [], ◌∷◌, ◌++◌, flat_map}
use mathlib.Core.Option.{Option, none, some}
use Prim.Native.Nat.{ℕ, ◌+◌, ◌-◌, ◌*◌, ◌<◌, ◌≤◌}
use native.Mathlib.Omega.{arith}
use lib.ListN.{length, take, drop, get_or, length-append}
use lib.Seq.{drop-drop}
use borrow.Author.Tests.{eq-eqb, ne_eqb}
use Rattle.limits.specs.Limits.{most_entries}
use Rattle.terms.specs.Base.{number_bytes, number_from}
use Rattle.terms.proofs.Lists.{take_drop, flat_map_append, flat_map_one}
use Rattle.fields.specs.Puts.{patched, Puts}
use Rattle.fields.proofs.Patching.{front_more}
use Rattle.fields.proofs.Appending.{patched_behind}
use Rattle.reading.specs.Answers.{between, field_at}
use Rattle.reading.proofs.Fields.{contents_length}
use Rattle.reading.proofs.Reading.{bind_ok}
use Rattle.problem.specs.Problem.{Reading, ok, ◌>>=◌, ReadField}
use Rattle.completion.specs.Turn.{Entry}
use Rattle.completion.specs.Calls.{entry_field}
use Rattle.completion.proofs.Widths.{entry_length}
use Rattle.items.specs.Written.{logged_width, logged}
use Rattle.items.specs.Readers.{Unread, OneBad, There, ThereBad}
use Rattle.items.proofs.OneField.{unread_bind, demand_kept, demand_broken}
use Rattle.items.proofs.Walking.{Walked, walk_start, walk_full, walk_none, walk_other, walk_bad, walk_more}
use Rattle.checkpoint.specs.Checkpoint.{read_origin, read_entry}
use Rattle.candidates.specs.Candidates.{origin_test, origin_copy, entry_copy, EntryIs}
use Rattle.candidates.proofs.Origins.{origin_in, origin_unread, origin_read, origin_copied, number_at}

-- an entry, in the field from `at` to e
module _ (l : List ℕ) (at e : ℕ) (low : at + 3 ≤ e) (within : e ≤ length l) where
  abbrev entry_read : Reading Entry
  entry_read = read_entry (field_at 0x13 l at e)

  abbrev contents : List ℕ
  contents = between l (at + 3) e

  pub entry_long : (e - at ≡ 11 → ⊥) → Unread entry_read
  unfolding read_entry
  entry_long h = demand_broken _ (rw (contents_length 0x13 l at e within) (ne_eqb (e - (at + 3)) 8 (λ k. h (omega arith))))

  module _ (h : e - at ≡ 11) where
    entry_is : entry_read ≡ (read_origin contents >>= λ o. ok (record { origin = o; made = number_from 0 (drop 6 contents) }))
    unfolding read_entry field_at
    entry_is = demand_kept _ (eq-eqb (length contents) 8 (unfold field_at in contents_length 0x13 l at e within ∙ omega arith))

    pub entry_unmarked : origin_test (drop (at + 3) l) ≡ false → Unread entry_read
    entry_unmarked t = rw entry_is (unread_bind (read_origin contents) _ (origin_unread l (at + 3) e (omega arith) t))

    module _ (t : origin_test (drop (at + 3) l) ≡ true) where
      abbrev pub entry_of : Entry
      entry_of = record { origin = origin_in contents; made = number_from 0 (drop 6 contents) }

      pub entry_fine : entry_read ≡ ok entry_of
      entry_fine = entry_is ∙ bind_ok _ (origin_read l (at + 3) e (omega arith) t)

      pub entry_bytes : logged entry_of ≡ entry_copy (drop (at + 3) l)
      unfolding entry_field entry_copy
      entry_bytes =
          let q : at + 3 + 6 + 2 ≡ e = omega arith in
          let made : drop 6 contents ≡ take 2 (drop 6 (drop (at + 3) l)) =
          drop-drop 6 (at + 3) (take e l)
          ∙ ap (λ z. drop (at + 3 + 6) (take z l)) (sym q)
          ∙ sym (take_drop (at + 3 + 6) 2 l)
          ∙ ap (take 2) (sym (drop-drop 6 (at + 3) l)) in
          ap₂ (λ x y. x ++ number_bytes 2 (number_from 0 y)) (origin_copied l (at + 3) e (omega arith) t) made

-- `put_entry`: an origin, and the number of the rule made behind it
pub entry_put : (l : List ℕ) (at : ℕ) (log log₁ log₂ origin : List ℕ) (a made r : ℕ) → origin ≡ origin_copy (drop at l) → length origin ≡ 6 →
    a + 6 ≤ length log → log₁ ≡ patched a origin log → Puts log₁ (a + 6) 2 (number_bytes 2 made) log₂ r → made ≡ number_from 0 (take 2 (drop (at + 6) l)) →
    log₂ ≡ patched a (entry_copy (drop at l)) log
unfolding entry_copy
entry_put l at log log₁ log₂ origin a made r from six room e p m =
    let k : a + 6 ≡ a + length origin = omega arith in
    p.bytes
    ∙ ap₂ (λ z y. patched z (number_bytes 2 made) y) k e
    ∙ patched_behind a origin (number_bytes 2 made) log (omega arith)
    ∙ ap₂ (λ o n. patched a (o ++ number_bytes 2 n) log) from (sym (number_at l at 6 made m))

-- one entry more
log_more : (log log' bytes : List ℕ) (count : ℕ) (es : List Entry) (x : Entry) → logged_width * (count + 1) ≤ length log →
    take (logged_width * count) log ≡ flat_map logged es → log' ≡ patched (logged_width * count) bytes log → logged x ≡ bytes →
    take (logged_width * (count + 1)) log' ≡ flat_map logged (es ++ (x ∷ []))
log_more log log' bytes count es x room before e q =
    let n : length bytes ≡ logged_width = ap length (sym q) ∙ entry_length x in
    ap (take (logged_width * (count + 1))) e
    ∙ front_more (logged_width * count) (logged_width * (count + 1)) bytes log (omega arith) (omega arith)
    ∙ ap₂ ◌++◌ before (sym q ∙ sym (flat_map_one logged x))
    ∙ sym (flat_map_append logged es (x ∷ []))

-- `read_log`: the entries whose fields stand from `at` to i are read, and stand at the front of the log.
abbrev read : Option Entry → ReadField → Reading Entry
read _ f = read_entry f

pub record LogSoFar (l : List ℕ) (at : ℕ) (log : List ℕ) (count i : ℕ) : Type 0 where
  pub entries : List Entry
  pub last : Option Entry
  pub walked : Walked 0x13 read most_entries l at entries last i
  pub counted : length entries ≡ count
  pub front : take (logged_width * count) log ≡ flat_map logged entries

module _ (l : List ℕ) (at : ℕ) (log : List ℕ) where
  pub log_start : at ≤ length l → LogSoFar l at log 0 at
  unfolding flat_map
  log_start h = record { entries = []; last = none; walked = walk_start 0x13 read most_entries l at h; counted = refl; front = refl }

  module _ (count i : ℕ) (s : LogSoFar l at log count i) where
    abbrev Found : Type 0
    Found = (es : List Entry) × There 0x13 read most_entries l at i es × (length es ≡ count) × (take (logged_width * count) log ≡ flat_map logged es)

    pub log_few : count ≤ most_entries
    log_few = omega (arith, s.counted, s.walked.few)

    ended : There 0x13 read most_entries l at i s.entries → Found
    ended t = (s.entries, t, s.counted, s.front)

    pub log_full : count ≡ most_entries → Found
    log_full h = ended (walk_full _ _ _ _ _ _ _ _ s.walked (s.counted ∙ h))

    pub log_none : length l ≤ i → Found
    log_none h = ended (walk_none _ _ _ _ _ _ _ _ s.walked h)

    module _ (h : i < length l) where
      pub log_other : (get_or l i 0 ≡ 0x13 → ⊥) → Found
      log_other t = ended (walk_other _ _ _ _ _ _ _ _ s.walked h t)

      module _ (f : count ≡ most_entries → ⊥) (t : get_or l i 0 ≡ 0x13) where
        room_left : length s.entries ≡ most_entries → ⊥
        room_left e = f (sym s.counted ∙ e)

        pub log_bad : (p : ℕ) → OneBad 0x13 read_entry l i p → ThereBad 0x13 read most_entries l at p
        log_bad p B = walk_bad _ _ _ _ _ _ _ _ s.walked h room_left t p B

        pub log_on : (e : ℕ) (x : Entry) → EntryIs l i e x → (log' : List ℕ) → log' ≡ patched (logged_width * count) (entry_copy (drop (i + 3) l)) log →
            logged_width * most_entries ≤ length log → LogSoFar l at log' (count + 1) e
        log_on e x E log' q room = record {
          entries = s.entries ++ (x ∷ []);
          last = some x;
          walked = walk_more _ _ _ _ _ _ _ _ s.walked h room_left t x e E.one;
          counted = length-append s.entries (x ∷ []) ∙ ap (λ n. n + 1) s.counted;
          front = log_more log log' _ count s.entries x (omega (arith, f, log_few, room)) s.front q E.bytes;
        }
