-- `join`, by what a pair's sides come to, and `oldest`. Assumes nothing.
-- Read first: specs/Forms (Walked, PairWalk, OldestIs), joining/specs/Joins (SidesJoined).
use mathlib.Core.Path.{◌≡◌, refl, sym, ◌∙◌, ap, subst}
use mathlib.Core.Bool.{Bool, true, false}
use mathlib.Core.List.{List}
use Prim.Native.Nat.{ℕ}
use native.Mathlib.Omega.{arith}
use Rattle.terms.specs.Term.{Pair, same}
use Rattle.terms.proofs.Flats.{widen}
use Rattle.rewriting.specs.Overlap.{Rule}
use Rattle.rewriting.specs.Rewrite.{End, complete, neither_above, spent, too_large, rules_full, log_full, Paid, done, stop, Paying, return, and_then, ◌>>=◌}
use Rattle.rewriting.specs.Rewrite.{normalise_pair}
use Rattle.completion.specs.Turn.{Origin, Candidate, if_different}
use Rattle.completion.specs.Calls.{origin_bytes}
use Rattle.slots.specs.Slots.{PairAt, slot, mark_of, left_of, right_of, Layout, PutMark}
use Rattle.slots.proofs.Layouts.{layout_put, sides_read}
use Rattle.joining.specs.Joins.{step_by, FoundStops, LastsAre, JoinIs, SidesJoined}
use Rattle.joining.specs.declared.Strategy.TheVariants.{Innermost}
use Rattle.joining.specs.declared.Walk.{Walk}
use Rattle.forms.specs.declared.Taken.{Taken}
use Rattle.forms.specs.Forms.{compared, Walked, found, short, large, on, PairWalk, OldestIs}

-- a pair that is normalised with u units
module _ (rs : List Rule) (o : Origin) (e : Pair) (u : ℕ) where
  -- what the definition does with it, by what its sides come to
  forms_stop : {x : End} {v : ℕ} → normalise_pair rs e u ≡ stop x v → (next : Paying Candidate) → compared rs o e next u ≡ stop x v
  unfolding compared ◌>>=◌ and_then
  forms_stop q next = rw q refl

  module _ {f : Pair} {v : ℕ} (q : normalise_pair rs e u ≡ done f v) where
    forms_agree : same f.left f.right ≡ true → (next : Paying Candidate) → compared rs o e next u ≡ next v
    unfolding compared ◌>>=◌ and_then if_different
    forms_agree s next = rw (q, s) refl

    forms_differ : same f.left f.right ≡ false → (next : Paying Candidate) → compared rs o e next u ≡ done (record { origin = o; sides = f }) v
    unfolding compared ◌>>=◌ and_then return if_different
    forms_differ s next = rw (q, s) refl

  -- what is answered then
  module _ {tab one : List ℕ} {w : Walk} (mk : mark_of (slot one 0) ≡ origin_bytes o) where
    forms_walk : (f : Pair) → normalise_pair rs e u ≡ done f w.units → (b : Bool) → same f.left f.right ≡ b → LastsAre tab one w.found f b →
        Walked tab one (compared rs o e) u w
    forms_walk f q true s h = on h (forms_agree q s)
    forms_walk f q false s h = found (record { origin = o; sides = f }) h.0 (forms_differ q s) (record { sides = h.1; from = mk })

    stop_walk : (x : End) → normalise_pair rs e u ≡ stop x w.units → FoundStops x w.found → Walked tab one (compared rs o e) u w
    stop_walk complete q h = absurd h
    stop_walk neither_above q h = absurd h
    stop_walk spent q h = short h (forms_stop q)
    stop_walk too_large q h = large h (forms_stop q)
    stop_walk rules_full q h = absurd h
    stop_walk log_full q h = absurd h

    joined_walk : (m : Paid Pair) → normalise_pair rs e u ≡ m → JoinIs tab one w m → Walked tab one (compared rs o e) u w
    joined_walk (done f k) q h = forms_walk f (q ∙ ap (done f) (sym h.0)) (same f.left f.right) refl h.1
    joined_walk (stop x k) q h = stop_walk x (q ∙ ap (stop x) (sym h.0)) h.1

-- `join`
pub pair_walk : {tab list : List ℕ} {k : ℕ} {rules : List ℕ} {count : ℕ} {left right one one' : List ℕ} {units : ℕ} {w : Walk} →
    left ≡ left_of (slot list k) → right ≡ right_of (slot list k) → SidesJoined Innermost tab rules count left right one one' units w →
    PairWalk tab list k rules count one one' units w
unfolding step_by
pair_walk {units = units} ql qr J = record {
  room = J.room;
  answer = λ rs st ct o e mk at. joined_walk rs o e units (J.room.kept.mark ∙ mk) _ refl (J.answer rs st ct e (sides_read ql qr at));
}

-- `oldest`: a slot of zeros with the mark of the pair behind the live rules
pub marked_one : {zeros mark one : List ℕ} → Layout zeros 1 → PutMark zeros 0 mark one → Layout one 1
marked_one lay put = layout_put lay put.only (put.short (lay.short 0 (omega arith)))

pub pair_wider : {tab slots : List ℕ} {k : ℕ} {e : Pair} → PairAt 16 tab slots k e → PairAt 32 tab slots k e
pair_wider {tab} {e = e} at =
    let S = at.sides in
    let l = widen 16 32 tab e.left (omega arith) S.left_wf in
    let r = widen 16 32 tab e.right (omega arith) S.right_wf in
    record { sides = record { left_wf = l; right_wf = r; left_bytes = S.left_bytes; right_bytes = S.right_bytes } }

pub oldest_walk : {tab pairs : List ℕ} {live units : ℕ} {zeros mark one one' : List ℕ} {w : Walk} {t : Taken} → Layout zeros 1 →
    mark ≡ mark_of (slot pairs live) → PutMark zeros 0 mark one → PairWalk tab pairs live pairs live one one' units w →
    t ≡ record { found = w.found; units = w.units; pair = one' } → OldestIs tab pairs live units t
oldest_walk {tab} {pairs} {live} {units} lay m put P e = subst (OldestIs tab pairs live units) (sym e) (record {
  layout = P.room.kept.layout (marked_one lay put);
  left_over = P.room.left_over;
  mark = P.room.kept.mark ∙ put.mark_is ∙ m;
  answer = λ rs st ct o p mk at. P.answer rs st ct o p (put.mark_is ∙ m ∙ mk) (pair_wider at);
})
