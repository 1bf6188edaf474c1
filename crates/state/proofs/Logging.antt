-- One entry more: the eight bytes behind the log's are those of the entry. `push`, `settle`, `enter_rule`. Assumes nothing.
-- Read first: specs/Run (Logged), specs/Steps (Logs), fields/proofs/Patching.
use mathlib.Core.Path.{◌≡◌, refl, sym, ap, ap₂, ◌∙◌}
use mathlib.Core.List.{List, [], ◌∷◌, ◌++◌}
use Prim.Native.Nat.{ℕ, ◌+◌, ◌*◌, ◌<◌, ◌≤◌}
use native.Mathlib.Omega.{arith}
use lib.ListN.{length, take, length-append}
use Rattle.limits.specs.Limits.{most_entries}
use Rattle.terms.specs.Base.{number_bytes}
use Rattle.terms.proofs.Lists.{flat_map_append, flat_map_one}
use Rattle.terms.proofs.Limits.{length_number_bytes}
use Rattle.fields.specs.Puts.{patched, Puts}
use Rattle.fields.proofs.Appending.{patched_behind}
use Rattle.fields.proofs.Patching.{front_more}
use Rattle.slots.specs.Slots.{slot, mark_of}
use Rattle.completion.specs.Turn.{Origin, Entry}
use Rattle.completion.specs.Calls.{origin_bytes, entry_field}
use Rattle.completion.proofs.Widths.{origin_bytes_length}
use Rattle.state.specs.declared.Log.{Log}
use Rattle.state.specs.declared.State.{State}
use Rattle.items.specs.Written.{logged_width, logged}
use Rattle.state.specs.Run.{Logged, FineBut}
use Rattle.state.specs.Steps.{Enters, Logs}

-- `push`
pub entry_put : {made : ℕ} {pair : List ℕ} (log : Log) (log₁ log₂ origin : List ℕ) (at r : ℕ) → at ≡ logged_width * log.count →
    origin ≡ mark_of (slot pair 0) → at + length origin ≤ length log.bytes → length origin ≡ 6 → log₁ ≡ patched at origin log.bytes →
    Puts log₁ (at + 6) 2 (number_bytes 2 made) log₂ r → Enters made pair log (record { bytes = log₂; count = log.count + 1 })
entry_put {made} log log₁ log₂ origin at r place from room six e p =
    let k : at + 6 ≡ at + length origin = omega arith in
    record {
      bytes =
          p.bytes ∙ ap₂ (λ z l. patched z (number_bytes 2 made) l) k e ∙ patched_behind at origin (number_bytes 2 made) log.bytes room
          ∙ ap₂ (λ z o. patched z (o ++ number_bytes 2 made) log.bytes) place from;
      more = refl;
    }

-- a log with one entry more
module _ (log log' : Log) (pair : List ℕ) (n : ℕ) (room : log.count < most_entries) (long : logged_width * most_entries ≤ length log.bytes)
    (e : Enters n pair log log') where
  pub logged_more : (es : List Entry) (o : Origin) → Logged log es → mark_of (slot pair 0) ≡ origin_bytes o →
      Logged log' (es ++ (record { origin = o; made = n } ∷ []))
  unfolding entry_field
  logged_more es o r q =
      let origin : List ℕ = mark_of (slot pair 0) in
      let new : Entry = record { origin = o; made = n } in
      let more = e.more in
      let k : length (origin ++ number_bytes 2 n) ≡ 8 =
      length-append origin (number_bytes 2 n) ∙ omega (arith, ap length q, origin_bytes_length o, length_number_bytes 2 n) in
      record {
        bytes =
            ap (take (logged_width * log'.count)) e.bytes
            ∙ front_more (logged_width * log.count) (logged_width * log'.count) (origin ++ number_bytes 2 n) log.bytes (omega arith) (omega arith)
            ∙ ap₂ ◌++◌ r.bytes (ap (λ z. z ++ number_bytes 2 n) q ∙ sym (flat_map_one logged new))
            ∙ sym (flat_map_append logged es (new ∷ []));
        counted = more ∙ ap (λ z. z + 1) r.counted ∙ sym (length-append es (new ∷ []));
      }

-- none was put back since: `settle`, `enter_rule`
module _ (st : State) (pair : List ℕ) (n : ℕ) (room : st.log.count < most_entries) (long : logged_width * most_entries ≤ length st.log.bytes)
    (log : Log) (e : Enters n pair st.log log) where
  abbrev with_log : State
  with_log = record { pairs = st.pairs; live = st.live; made = st.made; log = log; back = 0; units = st.units }

  log_fine : (over : ℕ) → FineBut over 1 st → FineBut over 0 with_log
  log_fine over F =
      let m = F.made_few in
      let more = e.more in
      record {
        layout = F.layout;
        within = F.within;
        together = F.together;
        live_few = F.live_few;
        log_few = omega arith;
        made_few = omega arith;
        back_few = omega arith;
      }

  pub log_done : Logs st (mark_of (slot pair 0)) n with_log
  log_done =
      record {
        fine = log_fine;
        entries = e.more;
        units = refl;
        represents = λ tab s o r q. record {
          pairs = r.pairs;
          live = r.live;
          made = r.made;
          log = logged_more st.log log pair n room long e s.log o r.log q;
          back = refl;
        };
      }
