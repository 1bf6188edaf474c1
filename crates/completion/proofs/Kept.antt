-- Every state of a run keeps the limits. Assumes nothing.
-- Read first: proofs/Limits, proofs/Closed.
use mathlib.Core.Path.{◌≡◌, refl, sym, ap, ◌∙◌, subst}
use mathlib.Core.Bool.{Bool, true, false}
use mathlib.Core.Logic.{◌⊎◌, inl, inr, ⊎_elim}
use mathlib.Core.List.{List, [], ◌∷◌, ◌++◌, append_assoc, append-nil, map-append}
use mathlib.Core.Option.{some}
use Prim.Native.Nat.{ℕ, suc, ◌+◌, ◌≤◌, ◌<◌}
use native.Mathlib.Omega.{arith}
use lib.ListN.{length, length-append, length-map}
use Rattle.completion.proofs.Sentences.{MayTake, new_rule, next_state}
use Rattle.std.specs.Prelude.{if◌then◌else◌}
use Rattle.terms.specs.Base.{Every, of_none, of_cons}
use Rattle.terms.specs.Term.{Term, Pair, size, pair_variables, renamed}
use Rattle.terms.proofs.Every.{every_head, every_tail, every_one, every_in, every_append, every_map, every_both, every_mapped, mapped_every}
use Rattle.rewriting.specs.Overlap.{Rule, Overlap, overlap, Place, all_places}
use Rattle.rewriting.specs.Rewrite.{step}
use Rattle.rewriting.proofs.Limits.{step_made, MaybeOverlap, overlap_made}
use Rattle.rewriting.proofs.Covers.{all_places_hold}
use Rattle.rewriting.proofs.Holds.{Reached, reached_keeps}
use Rattle.problem.specs.Problem.{Theory}
use Rattle.completion.specs.Turn.{Origin, overlapping, scanned_input, Candidate, made_put_back, State, Taken, rewrites, kept, removed}
use Rattle.completion.specs.Turn.{waits_again, settled}
use Rattle.completion.proofs.Held.{HeldTo, HeldPair, RuleFits, Accepted}
use Rattle.completion.proofs.Limits.{OriginFits, CandidateFits, EntryFits, Ascending, numbers, Limits}
use Rattle.completion.proofs.Held.{pair_wide, renamed_held, few_variables}
use Rattle.completion.proofs.Limits.{later_origin, later_candidate, later_entry, candidates_fit}
use Rattle.completion.proofs.Limits.{initial_limits}
use Rattle.completion.proofs.Ends.{inputs, Small, Source, of_waiting, of_overlap, of_input, Takes, Rights, none_yet, one_more, with_right}
use Rattle.completion.proofs.Ends.{older_rules, Next, settles, makes, puts_back}
use Rattle.completion.proofs.Closed.{Closed, Has, taken_has, next_has, kept_every, removed_every}
use Rattle.completion.proofs.Reachable.{Reachable, from_start, by_turn, turn_next}

-- Places.
pub record PlaceFits (n made : ℕ) (at : Place) : Type 0 where
  pub inner_fits : RuleFits n made at.inner
  pub outer_fits : RuleFits n made at.outer
  pub position_fits : at.position < 120

pub all_places_fit : {n made : ℕ} (rules : List Rule) → Every (RuleFits n made) rules → Every (PlaceFits n made) (all_places [] rules)
all_places_fit {n} {made} rules h =
    every_map
    (λ at b. record { inner_fits = b.inner_holds; outer_fits = b.outer_holds; position_fits = omega (arith, b.within, b.outer_holds.fits.left.small) })
    (all_places_hold (RuleFits n made) [] rules of_none h)

-- Each older rule is kept or joins the waiting list.
removed_fit : {n made : ℕ} (new : Rule) {rules : List Rule} → Every (RuleFits n made) rules → Every (CandidateFits n 16 made) (removed new rules)
unfolding OriginFits
removed_fit new h = removed_every new (λ old q. record { from = (q.first, q.last); fits = q.fits }) h

module _ (new : Rule) where
  split_count : (b : Bool) (old : Rule) (c : Candidate) (rules : List Rule) (cs : List Candidate) (k : ℕ) → length rules + length cs ≡ k →
      length (if b then rules else (old ∷ rules)) + length (if b then (c ∷ cs) else cs) ≡ suc k
  split_count true old c rules cs k h = omega arith
  split_count false old c rules cs k h = omega arith

  pub kept_removed : (rules : List Rule) → length (kept new rules) + length (removed new rules) ≡ length rules
  unfolding kept removed
  kept_removed [] = refl
  kept_removed (old ∷ rules) = split_count (rewrites new old) old _ (kept new rules) (removed new rules) (length rules) (kept_removed rules)

pub ascending_from : (a b : ℕ) → a ≤ b → (ks : List ℕ) → Ascending b ks → Ascending a ks
unfolding Ascending
ascending_from a b l [] h = tt
ascending_from a b l (k ∷ ks) h = (omega arith, h.1)

ascending_keep : (b : Bool) (lo : ℕ) (old : Rule) (rules : List Rule) → lo < old.number → Ascending old.number (numbers rules) →
    Ascending lo (numbers (if b then rules else (old ∷ rules)))
unfolding Ascending
ascending_keep true lo old rules l h = ascending_from lo old.number (omega arith) (numbers rules) h
ascending_keep false lo old rules l h = (l, h)

pub ascending_kept : (new : Rule) (lo : ℕ) (rules : List Rule) → Ascending lo (numbers rules) → Ascending lo (numbers (kept new rules))
unfolding kept Ascending
ascending_kept new lo [] h = tt
ascending_kept new lo (old ∷ rules) h = ascending_keep (rewrites new old) lo old (kept new rules) h.0 (ascending_kept new old.number rules h.1)

pub ascending_last : (n made lo : ℕ) (rules : List Rule) (new : Rule) → lo ≤ made → made < new.number → Every (RuleFits n made) rules →
    Ascending lo (numbers rules) →
    Ascending lo (numbers (rules ++ (new ∷ [])))
unfolding Ascending
ascending_last n made lo [] new l m of_none h = (omega arith, tt)
ascending_last n made lo (r ∷ rules) new l m (of_cons q f) h = (h.0, ascending_last n made r.number rules new q.last m f h.1)

numbers_append : (a b : List Rule) → numbers (a ++ b) ≡ numbers a ++ numbers b
numbers_append = map-append (λ (r : Rule). r.number)

-- Normalising right sides keeps the numbers.
moved : (before later : List Rule) (old old' : Rule) → old'.number ≡ old.number → numbers (before ++ (old' ∷ []) ++ later) ≡ numbers (before ++ (old ∷ later))
moved before later old old' e =
    ap numbers (append_assoc before (old' ∷ []) later) ∙ numbers_append before (old' ∷ later) ∙ ap (λ k. numbers before ++ (k ∷ numbers later)) e
    ∙ sym (numbers_append before (old ∷ later))

rights_same : {new : Rule} {older done later : List Rule} → Rights new older done later → numbers (done ++ later) ≡ numbers older
rights_same (none_yet e d) = rw (e, d) refl
rights_same (one_more {before} {done} {later} {old} {r} g f e) = rw e (moved before later old (with_right old r) refl ∙ rights_same g)

rights_numbers : {new : Rule} {older done : List Rule} → Rights new older done [] → numbers (done ++ (new ∷ [])) ≡ numbers (older ++ (new ∷ []))
rights_numbers {new} {older} {done} g =
    numbers_append done (new ∷ []) ∙ ap (λ k. k ++ (new.number ∷ [])) (ap numbers (sym (append-nil done)) ∙ rights_same g)
    ∙ sym (numbers_append older (new ∷ []))

-- Steps keep sizes and variables.
module _ (n v : ℕ) (wide : 16 ≤ v) (rules : List Rule) (fit : Every (λ (r : Rule). HeldPair n 16 r.sides) rules) where
  step_held : (t u : Term) → step rules t ≡ some u → size u ≤ 120 → HeldTo n v t → HeldTo n v u
  step_held t u e l h =
      record {
        small = l;
        made = step_made (λ f. f < n) (λ x. x < v) (λ x. x < 16) (λ x k. omega arith) rules (every_map (λ r k. k.right.made) fit) t u h.made e;
      }

  pub reached_held : (t u : Term) → Reached rules t u → HeldTo n v t → HeldTo n v u
  reached_held t u r h = reached_keeps (HeldTo n v) step_held r h

module _ (T : Theory) (ok : Accepted T) where
  abbrev pub symbols : ℕ
  symbols = length T.symbols

  overlap_held : (inner outer : Pair) (p : ℕ) (o : Overlap) → overlap inner outer p ≡ some o → Small o → HeldPair symbols 16 inner →
      HeldPair symbols 16 outer → HeldPair symbols 32 (renamed o.sides)
  overlap_held inner outer p o e small a b =
      let k : MaybeOverlap (λ f. f < symbols) (overlap inner outer p) =
      overlap_made (λ f. f < symbols) inner outer p (a.left.made, a.right.made) (b.left.made, b.right.made) in
      let h : MaybeOverlap (λ f. f < symbols) (some o) = subst (MaybeOverlap (λ f. f < symbols)) e k in
      let q : HeldPair symbols 32 o.sides =
      record { left = record { small = small.left; made = h.left_made }; right = record { small = small.right; made = h.right_made } } in
      renamed_held symbols 32 32 o.sides (few_variables symbols 32 o.sides q) q

  pub held_closed : Closed T (HeldPair symbols 16) (HeldPair symbols 16) (HeldPair symbols 32)
  held_closed =
      record {
        given = λ e i. let h : HeldPair symbols 16 e = every_in ok.equations_fit i in renamed_held symbols 16 16 e
            (few_variables symbols 16 e h) h;
        taken = λ e h. pair_wide symbols 16 32 (omega arith) e h;
        overlapped = overlap_held;
        rewritten = λ rules fit e f l r h.
            record {
              left = reached_held symbols 32 (omega arith) rules fit e.left f.left l h.left;
              right = reached_held symbols 32 (omega arith) rules fit e.right f.right r h.right;
            };
        turned = λ e h. record { left = h.right; right = h.left };
        oriented = λ e h few a. renamed_held symbols 32 16 e few h;
        composed = λ rules fit e r s h. record { left = h.left; right = reached_held symbols 16 (omega arith) rules fit e.right r s h.right };
        put_off = λ e h. h;
        put_again = λ e h few. renamed_held symbols 32 16 e few h;
      }

  -- The turn that begins with s.
  module _ (s : State) (lim : Limits symbols s) where
    abbrev HasHeld : State → Type 0
    HasHeld = Has T (HeldPair symbols 16) (HeldPair symbols 16) (HeldPair symbols 32) held_closed

    has : HasHeld s
    has = record { rules = every_map (λ r h. h.fits) lim.rules_fit; waiting = every_map (λ c h. h.fits) lim.waiting_fit }

    pub record TakenFits (t : Taken) : Type 0 where
      pub from : OriginFits s.made t.pair.origin
      pub fits : HeldPair symbols 32 t.pair.sides
      pub waiting_fits : Every (CandidateFits symbols 16 s.made) t.waiting
      pub room : length s.rules + suc (length t.waiting) ≤ 33
      pub waiting_few : suc (length t.waiting) ≤ 32
      pub behind : MayTake s → s.put_back ≤ length t.waiting

    inputs_fit : Every (CandidateFits symbols 16 s.made) (inputs T)
    unfolding OriginFits
    inputs_fit = candidates_fit symbols s.made scanned_input (λ k l m. (l, m)) 1 T.equations (omega arith)
        (let few : length T.equations ≤ 16 = ok.equations_few in omega arith) ok.equations_fit

    abbrev SourceFits : Origin → List Candidate → Type 0
    SourceFits o cs =
        OriginFits s.made o × Every (CandidateFits symbols 16 s.made) cs × (length s.rules + suc (length cs) ≤ 33) × (suc (length cs) ≤ 32)
        × (MayTake s → s.put_back ≤ length cs)

    none_wait : (o : Origin) → s.waiting ≡ [] → OriginFits s.made o → SourceFits o []
    none_wait o w h =
        let l : length s.rules ≤ 32 = lim.live in
        let b : s.put_back ≤ length s.waiting = lim.put_back_few in
        let n : length s.waiting ≡ 0 = ap length w in
        (h, of_none, omega arith, omega arith, λ g. omega arith)

    source_fits : (c : Candidate) (cs : List Candidate) → Source T s c cs → SourceFits c.origin cs
    unfolding OriginFits
    source_fits c cs (of_waiting e) =
        let h : Every (CandidateFits symbols 16 s.made) (c ∷ cs) = subst (Every (CandidateFits symbols 16 s.made)) e lim.waiting_fit in
        let l : length s.rules + length (c ∷ cs) ≤ 33 = subst (λ w. length s.rules + length w ≤ 33) e lim.together in
        let m : length (c ∷ cs) ≤ 32 = subst (λ (w : List Candidate). length w ≤ 32) e lim.waiting_few in
        let n : length s.waiting ≡ suc (length cs) = ap length e in
        ((every_head h).from, every_tail h, omega arith, omega arith, ⊎_elim (λ k. absurd (omega arith)) (λ k. omega arith))
    source_fits c cs (of_overlap at o z small e q) =
        let f : PlaceFits symbols s.made at = every_in (all_places_fit s.rules lim.rules_fit) z.listed in
        rw (e, q) (none_wait (overlapping at.inner.number at.outer.number at.position) z.idle
        (f.inner_fits.first, f.inner_fits.last, f.outer_fits.first, f.outer_fits.last, f.position_fits))
    source_fits c cs (of_input w a i q) = rw q (none_wait c.origin w (every_in inputs_fit i).from)

    pub taken_fits : (t : Taken) → Takes T s t → TakenFits t
    taken_fits t g =
        let a = source_fits g.of t.waiting g.source in
        record {
          from = subst (OriginFits s.made) (sym g.origin) a.0;
          fits = (taken_has T (HeldPair symbols 16) (HeldPair symbols 16) (HeldPair symbols 32) held_closed s has t g).0;
          waiting_fits = a.1;
          room = a.2;
          waiting_few = a.3;
          behind = a.4;
        }

    entry_fits : (t : Taken) (m k : ℕ) → TakenFits t → s.made ≤ m → (k ≤ m) ⊎ (k ≡ made_put_back) →
        Every (EntryFits m) (s.log ++ (record { origin = t.pair.origin; made = k } ∷ []))
    entry_fits t m k f l h =
        every_append (every_map (later_entry s.made m l) lim.log_fits)
        (every_one (record { from = later_origin s.made m l t.pair.origin f.from; last = h }))

    -- Limits of a state with the same rules and one entry more.
    same_rules_limits : (t : Taken) (made : ℕ) (waiting : List Candidate) (back : ℕ) → TakenFits t → length s.log < 512 →
        (made ≤ s.made) ⊎ (made ≡ made_put_back) → Every (CandidateFits symbols 16 s.made) waiting →
        length waiting ≤ suc (length t.waiting) → back ≤ length waiting →
        Limits symbols (record {
          rules = s.rules;
          made = s.made;
          waiting = waiting;
          log = s.log ++ (record { origin = t.pair.origin; made = made } ∷ []);
          put_back = back;
        })
    same_rules_limits t made waiting back f room h fit few l =
        let logs : length (s.log ++ (record { origin = t.pair.origin; made = made } ∷ [])) ≡ length s.log + 1 =
        length-append s.log (record { origin = t.pair.origin; made = made } ∷ []) in
        record {
          live = lim.live;
          rules_fit = lim.rules_fit;
          ascending = lim.ascending;
          made_few = omega (arith, lim.made_few);
          log_few = omega arith;
          log_fits = entry_fits t s.made made f (omega arith) h;
          waiting_fit = fit;
          waiting_few = omega (arith, f.waiting_few);
          together = omega (arith, f.room);
          put_back_few = l;
        }

    settled_limits : (t : Taken) → TakenFits t → length s.log < 512 → Limits symbols (settled s t)
    unfolding settled
    settled_limits t f room = same_rules_limits t 0 t.waiting 0 f room (inl (omega arith)) f.waiting_fits (omega arith) (omega arith)

    put_back_limits : (t : Taken) → TakenFits t → MayTake s → length s.log < 512 → length (pair_variables t.pair.sides) ≤ 16 →
        Limits symbols (waits_again s t)
    unfolding waits_again
    put_back_limits t f may room few =
        let c : Candidate = record { origin = t.pair.origin; sides = renamed t.pair.sides } in
        let waits : length (t.waiting ++ (c ∷ [])) ≡ length t.waiting + 1 = length-append t.waiting (c ∷ []) in
        same_rules_limits t made_put_back (t.waiting ++ (c ∷ [])) (suc s.put_back) f room (inr refl)
        (every_append f.waiting_fits (every_one {x = c} (record { from = f.from; fits = renamed_held symbols 32 16 t.pair.sides few f.fits })))
        (omega arith) (omega (arith, f.behind may))

    -- Limits of the state with a new rule, whose rules are numbered like the older ones and it, and are held.
    made_limits : (t : Taken) (sides : Pair) (rules : List Rule) → TakenFits t → length s.log < 512 → suc (length (older_rules s sides)) ≤ 32 →
        numbers rules ≡ numbers (older_rules s sides ++ (new_rule s sides ∷ [])) →
        Every (λ (r : Rule). HeldPair symbols 16 r.sides) rules → Limits symbols (next_state s t sides rules)
    made_limits t sides rules f room live same held =
        let new : Rule = new_rule s sides in
        let m : ℕ = suc s.made in
        let older : List Rule = older_rules s sides in
        let older_fit : Every (RuleFits symbols s.made) older = kept_every new lim.rules_fit in
        let count : length rules ≡ length older + 1 = sym (length-map rules (λ (r : Rule). r.number)) ∙ ap length same
        ∙ length-map (older ++ (new ∷ [])) (λ (r : Rule). r.number) ∙ length-append older (new ∷ []) in
        let all : length older + length (removed new s.rules) ≡ length s.rules = kept_removed new s.rules in
        let waits : length (t.waiting ++ removed new s.rules) ≡ length t.waiting + length (removed new s.rules) =
        length-append t.waiting (removed new s.rules) in
        let logs : length (s.log ++ (record { origin = t.pair.origin; made = m } ∷ [])) ≡ length s.log + 1 =
        length-append s.log (record { origin = t.pair.origin; made = m } ∷ []) in
        let place : length s.rules + suc (length t.waiting) ≤ 33 = f.room in
        let made : s.made ≤ length s.log = lim.made_few in
        let numbered : Every (λ k. (1 ≤ k) × (k ≤ m)) (numbers rules) =
        subst (Every (λ k. (1 ≤ k) × (k ≤ m))) (sym same)
        (every_mapped (λ (r : Rule). r.number)
        (every_append (every_map (λ r h. (h.first, (let l : r.number ≤ s.made = h.last in omega arith))) older_fit)
        (every_one {x = new} (omega arith, omega arith)))) in
        record {
          live = omega arith;
          rules_fit = every_map (λ r h. record { first = h.0.0; last = h.0.1; fits = h.1 })
              (every_both (mapped_every (λ (r : Rule). r.number) rules numbered) held);
          ascending =
              rw same (ascending_last symbols s.made 0 older new (omega arith) (omega arith) older_fit (ascending_kept new 0 s.rules lim.ascending));
          made_few = omega arith;
          log_few = omega arith;
          log_fits = entry_fits t m m f (omega arith) (inl (omega arith));
          waiting_fit = every_map (later_candidate symbols 16 s.made m (omega arith)) (every_append f.waiting_fits (removed_fit new lim.rules_fit));
          waiting_few = omega arith;
          together = omega arith;
          put_back_few = omega arith;
        }

    pub next_limits : (s' : State) → Next T s s' → Limits symbols s'
    next_limits s' (settles t g room q e) = rw e (settled_limits t (taken_fits t g) room)
    next_limits s' (puts_back t g room d few n may e) = rw e (put_back_limits t (taken_fits t g) may room few)
    next_limits s' (makes t g room d few sides o live done r e) =
        let h : HasHeld s' =
        next_has T (HeldPair symbols 16) (HeldPair symbols 16) (HeldPair symbols 32) held_closed s s' has (makes t g room d few sides o live done r e) in
        rw e (made_limits t sides (done ++ (new_rule s sides ∷ [])) (taken_fits t g) room live (rights_numbers r)
        (subst (λ (z : State). Every (λ (r : Rule). HeldPair symbols 16 r.sides) z.rules) e h.rules))

  -- Every state of a run keeps the limits.
  pub reachable_limits : {s : State} → Reachable T s → Limits symbols s
  reachable_limits (from_start e) = rw e (initial_limits T ok)
  reachable_limits (by_turn {s} {s'} left {left'} r e) = next_limits s (reachable_limits r) s' (turn_next T s s' left left' e)
