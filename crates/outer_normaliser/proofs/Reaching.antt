-- `steps` and `normalise` by their turns and returns. Assumes nothing.
-- Read first: specs/Outer (SteppedOuter, ReachedOuter), normaliser/proofs/Whole (unloaded), rewriting/specs/Outermost (normalise_outer).
use mathlib.Core.Path.{◌≡◌, refl, sym, ◌∙◌, ap, subst}
use mathlib.Core.Bool.{Bool, true, false}
use mathlib.Core.List.{List, [], ◌++◌}
use mathlib.Core.Option.{Option, none, some}
use Prim.Native.Nat.{ℕ, zero, suc, ◌-◌, ◌≤◌}
use native.Mathlib.Omega.{arith}
use lib.Dec.{ltb}
use lib.ListN.{length, take, drop, length-append, length-drop}
use lib.Seq.{take_at}
use Rattle.limits.specs.Limits.{most_apart, most_nodes}
use Rattle.std.specs.Prelude.{if◌then◌else◌}
use Rattle.terms.specs.Term.{Term, size, term_bytes}
use Rattle.terms.specs.Flat.{Wf}
use Rattle.terms.proofs.Shape.{zero≢one}
use Rattle.terms.proofs.Places.{size_pos}
use Rattle.rewriting.specs.Overlap.{Rule, sides_of}
use Rattle.rewriting.specs.Rewrite.{Paid, done, stop, too_large, normalise_by}
use Rattle.rewriting.specs.Outermost.{step_outer, normalise_outer}
use Rattle.matching.specs.Cells.{node_bytes}
use Rattle.slots.specs.Slots.{Stored}
use Rattle.redex.specs.declared.Out.{Out}
use Rattle.redex.specs.declared.Step.TheVariants.{Normal, Rewritten, Spent, TooLarge}
use Rattle.redex.specs.Contraction.{CellsSized}
use Rattle.redex.specs.Marks.{Marked}
use Rattle.redex.proofs.Marking.{plain}
use Rattle.normaliser.specs.Settled.{form_after, WholeEnds, Normalised}
use Rattle.std.specs.Prelude.{Result}
use Rattle.normaliser.specs.declared.Stop.{Stop}
use Rattle.normaliser.proofs.Whole.{unloaded}
use Rattle.outer_normaliser.specs.Outer.{HoldsClean, OuterTested, OuterStep, SteppedOuter, ReachedOuter}
use Rattle.outer_normaliser.proofs.Returning.{sized_back}

-- `steps`: the definition goes on from the term that is in the cells
pub record GoesOn (tab : List ℕ) (rs : List Rule) (t : List ℕ) (l clean u : ℕ) (goal : Paid Term) : Type 0 where
  pub term : Term
  pub holds : HoldsClean tab rs t l clean term
  pub same : normalise_outer rs term u ≡ goal

-- from a term in the cells t₁, all of which have their sizes
pub record Going (tab rules : List ℕ) (number : ℕ) (t₁ : List ℕ) (l₁ u₁ : ℕ) (t : List ℕ) (l clean u : ℕ) : Type 0 where
  pub is : (rs : List Rule) → Stored tab rules 0 (sides_of rs) → number ≡ length rs → (x : Term) → HoldsClean tab rs t₁ l₁ 0 x →
      GoesOn tab rs t l clean u (normalise_outer rs x u₁)

pub going_start : (tab rules : List ℕ) (number : ℕ) (t : List ℕ) (l u : ℕ) → Going tab rules number t l u t l 0 u
going_start tab rules number t l u = record { is = λ rs st c x H. record { term = x; holds = H; same = refl } }

-- What the answer r of a step says of the definition's: its end, or where it goes on.
module _ (tab : List ℕ) (rs : List Rule) (t : List ℕ) (r : Out) where
  abbrev After : Paid Term → Type 0
  After p = ((r.step ≡ Rewritten → ⊥) → WholeEnds tab t r p) × (r.step ≡ Rewritten → GoesOn tab rs t r.len r.end r.units p)

  after_test : (y : Term) (u : ℕ) (b : Bool) → OuterTested tab rs t u r y b → After (if b then stop too_large u else normalise_outer rs y u)
  after_test y u true h = (λ n. (h.0, h.1), λ d. absurd (zero≢one (let z : TooLarge ≡ Rewritten = sym h.0 ∙ d in cc)))
  after_test y u false h = (λ n. absurd (n h.0), λ d. record { term = y; holds = h.2; same = ap (normalise_outer rs y) h.1 })

  module _ (x : Term) (w : Wf most_apart tab x) where
    after_none : (u : ℕ) → OuterStep tab rs t x u r none → After (done x u)
    after_none u h = (λ n. (h.0, h.1, h.2, w), λ d. absurd (zero≢one (let z : Normal ≡ Rewritten = sym h.0 ∙ d in cc)))

    after : (o : Option Term) → step_outer rs x ≡ o → (u : ℕ) → OuterStep tab rs t x u r o → After (normalise_outer rs x u)
    unfolding normalise_by
    after none e zero h = rw (e, normalise_by) (after_none zero h)
    after none e (suc u) h = rw (e, normalise_by) (after_none (suc u) h)
    after (some y) e zero h = rw (e, normalise_by) (λ n. (h.0, h.1), λ d. absurd (zero≢one (let z : Spent ≡ Rewritten = sym h.0 ∙ d in cc)))
    after (some y) e (suc u) h = rw (e, normalise_by) (after_test y u (ltb most_nodes (size y)) h)

module _
    {tab rules : List ℕ} {number : ℕ} {t₁ : List ℕ} {l₁ u₁ : ℕ} {t : List ℕ} {l clean u : ℕ} (G : Going tab rules number t₁ l₁ u₁ t l clean u)
    {t' : List ℕ} {r : Out} (S : SteppedOuter tab rules number t l clean u t' r) where
  followed : (rs : List Rule) → Stored tab rules 0 (sides_of rs) → number ≡ length rs → (x : Term) → HoldsClean tab rs t₁ l₁ 0 x →
      After tab rs t' r (normalise_outer rs x u₁)
  followed rs st c x H =
      let g = G.is rs st c x H in
      subst (After tab rs t' r) g.same
      (after tab rs t' r g.term g.holds.wf (step_outer rs g.term) refl u (S.answer rs st c g.term g.holds))

  pub going_more : r.step ≡ Rewritten → Going tab rules number t₁ l₁ u₁ t' r.len r.end r.units
  going_more d = record { is = λ rs st c x H. (followed rs st c x H).1 d }

-- the sizes were put first: the cells came back as Q
sized_holds : {tab : List ℕ} (t₀ : List ℕ) (len : ℕ) (Q : List ℕ) → len ≤ length t₀ → CellsSized tab (take (len - 0) t₀) Q → (rs : List Rule) (x : Term) →
    Wf most_apart tab x → take len t₀ ≡ term_bytes x → HoldsClean tab rs (Q ++ drop (len - 0) t₀) len 0 x
sized_holds t₀ len Q h Z rs x w e = record {
  wf = w;
  text = (sized_back t₀ len Q h Z).1.is x w (subst (λ l. Marked [] l x) (sym e) (plain [] x));
  clean_to = λ q y d k. absurd (omega (arith, size_pos y));
}

pub going_ends : {tab rules : List ℕ} {number : ℕ} (t₀ : List ℕ) (len : ℕ) {units : ℕ} {t : List ℕ} {l clean u : ℕ} (Q : List ℕ) → len ≤ length t₀ →
    CellsSized tab (take (len - 0) t₀) Q → Going tab rules number (Q ++ drop (len - 0) t₀) len units t l clean u → {t' : List ℕ} {r : Out} →
    SteppedOuter tab rules number t l clean u t' r → (r.step ≡ Rewritten → ⊥) → length t ≡ length t₀ → u ≤ units →
    ReachedOuter tab rules number t₀ len units t' r
going_ends t₀ len Q h Z G S n a b = record {
  same = S.same ∙ a;
  small = S.small;
  left_over = omega (arith, S.left_over);
  answer = λ rs st c x w e. (followed G S rs st c x (sized_holds t₀ len Q h Z rs x w e)).0 n;
}

-- `normalise`: the bytes S are loaded into as many cells as a term has at most, t₁, that held z, and the steps made, t₂
module _
    {tab rules : List ℕ} {number : ℕ} (S z : List ℕ) {t₁ t₂ : List ℕ} {units : ℕ} {o : Out} (short : length S ≤ most_nodes) (lz : length z ≡ most_nodes)
    (e₁ : t₁ ≡ S ++ drop (length S) z) (s : ReachedOuter tab rules number t₁ (length S) units t₂ o)
    (out : List ℕ) {out' C : List ℕ} {f : Result ℕ Stop} (room : most_nodes ≤ length out) (eC : C ≡ take o.len t₂)
    (e' : out' ≡ node_bytes C ++ drop (length C) out) (ef : f ≡ form_after o.step o.len) where
  reached_length : length t₂ ≡ most_nodes
  reached_length = s.same ∙ ap length e₁ ∙ length-append S (drop (length S) z) ∙ omega (arith, length-drop (length S) z)

  loaded : take (length S) t₁ ≡ S
  loaded = ap (take (length S)) e₁ ∙ take_at S (drop (length S) z) (length S) refl

  pub whole : Normalised normalise_outer tab rules number S out out' units (record { form = f; paid = units - o.units })
  whole =
      unloaded tab t₂ units o reached_length s.small s.left_over out out' C f room eC e' ef normalise_outer rules number S
      λ rs st m x w b. s.answer rs st m x w (loaded ∙ b)
