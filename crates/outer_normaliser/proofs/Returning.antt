-- `step` by its returns: none is matched, no unit is left, the next term would be too large, or the cells are those of the next term. Assumes nothing.
-- Read first: specs/Outer (SteppedOuter), redex/specs/Contraction (ContractedAt, CellsSized), proofs/Stepping (Ready).
use mathlib.Core.Path.{◌≡◌, refl, sym, ◌∙◌, ap, subst}
use mathlib.Core.Bool.{Bool, true, false}
use mathlib.Core.List.{List, ◌++◌}
use mathlib.Core.Option.{some}
use Prim.Native.Nat.{ℕ, zero, suc, ◌-◌, ◌<◌, ◌≤◌}
use native.Mathlib.Omega.{arith}
use lib.Dec.{ltb}
use borrow.Author.Tests.{lt-ltb, le-ltb}
use lib.ListN.{length, take, drop}
use lib.Seq.{take_at, length-take-le, length_front}
use Rattle.limits.specs.Limits.{most_nodes}
use Rattle.terms.specs.Term.{Term, size}
use Rattle.terms.proofs.Shape.{zero≢one}
use Rattle.rewriting.specs.Overlap.{Rule, sides_of}
use Rattle.rewriting.specs.Outermost.{step_outer}
use Rattle.matching.specs.Held.{Within}
use Rattle.matching.proofs.Replacing.{take_less_zero}
use Rattle.slots.specs.Slots.{slot, right_of, Stored}
use Rattle.redex.specs.Step.{out}
use Rattle.redex.specs.Contraction.{CellsSized, ContractedAt}
use Rattle.redex.specs.declared.Out.{Out}
use Rattle.redex.specs.declared.Step.{Step}
use Rattle.redex.specs.declared.Step.TheVariants.{Normal, Rewritten, Spent, TooLarge}
use Rattle.redex.proofs.Parts.{drop_take}
use Rattle.outer_normaliser.specs.Outer.{FirstRedex, PathOpened, HoldsClean, OuterTested, OuterStep, SteppedOuter}
use Rattle.std.specs.Prelude.{Option as Optional, Some, None}
use Rattle.outer_normaliser.specs.declared.Found.{Found}
use Rattle.outer_normaliser.proofs.Stepping.{Ready, next, next_step, fits, put_size, next_holds}

-- what was answered for the cells that are in use
pub record Sought (rules t : List ℕ) (number len clean : ℕ) (B : List ℕ) (o : Optional Found) : Type 0 where
  pub binds : List ℕ
  pub found : FirstRedex rules (take len t) clean number binds B o
  pub high : len ≤ most_nodes
  pub long : length t ≡ most_nodes

pub sought : {rules t : List ℕ} {number len clean : ℕ} {B₀ B : List ℕ} {o : Optional Found} → FirstRedex rules (take (len - 0) t) clean number B₀ B o →
    (len ≤ most_nodes) × (length t ≡ most_nodes) → Sought rules t number len clean B o
sought {rules} {t} {number} {len} {clean} {B₀} {B} {o} F p = record {
  binds = B₀;
  found = subst (λ l. FirstRedex rules l clean number B₀ B o) (take_less_zero len t) F;
  high = p.0;
  long = p.1;
}

-- the first w cells got their sizes, and came back as Q
pub sized_back : {tab : List ℕ} (t : List ℕ) (w : ℕ) (Q : List ℕ) → w ≤ length t → CellsSized tab (take (w - 0) t) Q →
    (length (Q ++ drop (w - 0) t) ≡ length t) × CellsSized tab (take w t) (take w (Q ++ drop (w - 0) t))
sized_back {tab} t w Q h S =
    let F : CellsSized tab (take w t) Q = subst (λ l. CellsSized tab l Q) (take_less_zero w t) S in
    let front : take w (Q ++ drop (w - 0) t) ≡ Q = take_at Q (drop (w - 0) t) w (F.same ∙ length-take-le w t h) in
    (length_front t Q (w - 0) S.same, subst (CellsSized tab (take w t)) (sym front) F)

module _ {rules t : List ℕ} {number len clean : ℕ} {B : List ℕ} {o : Optional Found} (G : Sought rules t number len clean B o) where
  few : len ≤ length t
  few = let h = G.high in let l = G.long in omega arith

  in_use : length (take len t) ≡ len
  in_use = length-take-le len t few

  -- no step was made: the length stays
  stays : {tab t' : List ℕ} {v : Step} {u units : ℕ} {r : Out} → r ≡ out v u len len → length t' ≡ length t → (v ≡ Rewritten → ⊥) → u ≤ units →
      ((rs : List Rule) → Stored tab rules 0 (sides_of rs) → number ≡ length rs → (x : Term) → HoldsClean tab rs t len clean x →
      OuterStep tab rs t' x units (out v u len len) (step_outer rs x)) → SteppedOuter tab rules number t len clean units t' r
  stays {tab} {t'} {units = units} e s l h a = subst (SteppedOuter tab rules number t len clean units t') (sym e) (record {
    same = s;
    small = G.high;
    left_over = h;
    paid = λ z. absurd (l z);
    answer = a;
  })

pub step_none : {tab rules t : List ℕ} {number len clean : ℕ} {B : List ℕ} {units : ℕ} {r : Out} → Sought rules t number len clean B None →
    r ≡ out Normal units len len → SteppedOuter tab rules number t len clean units t r
step_none {tab} {t = t} {len = len} {units = units} G e = stays G e refl (λ z. zero≢one (cc)) (omega arith) λ rs st c x H.
    let none_is = G.found.found tab rs st c x H.wf H.text H.clean_to in
    subst (OuterStep tab rs t x units (out Normal units len len)) (sym none_is) (refl, refl, H.text)

module _ {rules t : List ℕ} {number len clean : ℕ} {B : List ℕ} {f : Found} (G : Sought rules t number len clean B (Some f)) where
  pub place_low : f.at < len
  place_low = let l = G.found.found.low in omega (arith, in_use G)

  pub places_within : Within (take (len - f.at) (drop f.at t)) B
  places_within = subst (λ l. Within l B) (sym (drop_take f.at len t (let l = place_low in omega arith))) G.found.found.within

  module _ {tab : List ℕ} where
    ready : (rs : List Rule) → Stored tab rules 0 (sides_of rs) → number ≡ length rs → (x : Term) → HoldsClean tab rs t len clean x →
        Ready tab rules t len clean B f.at f.rule rs x
    ready rs st c x H = record {
      few = few G;
      low = place_low;
      holds = H;
      chosen = G.found.found.chosen tab rs st c x H.wf H.text H.clean_to;
    }

    pub step_spent : {units : ℕ} {r : Out} → units ≡ 0 → r ≡ out Spent 0 len len → SteppedOuter tab rules number t len clean units t r
    step_spent {units} z e = stays G e refl (λ z. zero≢one (cc)) (omega arith) λ rs st c x H.
        let g = ready rs st c x H in
        subst (OuterStep tab rs t x units (out Spent 0 len len)) (sym (next_step g))
        (subst (λ m. OuterStep tab rs t x m (out Spent 0 len len) (some (next g))) (sym z) (refl, refl))

    module _ {t' : List ℕ} {o : Optional ℕ} (R : ContractedAt t len f.at (right_of (slot rules f.rule)) B t' o) where
      module _ {rs : List Rule} {x : Term} (g : Ready tab rules t len clean B f.at f.rule rs x) where
        tested : (m : ℕ) (t'' : List ℕ) (r : Out) (b : Bool) → ltb most_nodes (size (next g)) ≡ b → OuterTested tab rs t'' m r (next g) b →
            OuterStep tab rs t'' x (suc m) r (step_outer rs x)
        tested m t'' r b e h =
            subst (OuterStep tab rs t'' x (suc m) r) (sym (next_step g)) (subst (OuterTested tab rs t'' m r (next g)) (sym e) h)

    pub step_large : {t' : List ℕ} {units : ℕ} {r : Out} → ContractedAt t len f.at (right_of (slot rules f.rule)) B t' None → (units ≡ 0 → ⊥) →
        r ≡ out TooLarge (units - 1) len len → SteppedOuter tab rules number t len clean units t' r
    step_large {units = zero} R z e = absurd (z refl)
    step_large {t'} {units = suc m} R z e =
        let q : suc m - 1 ≡ m = omega arith in
        stays G (e ∙ ap (λ m. out TooLarge m len len) q) R.same (λ z. zero≢one (cc)) (omega arith) λ rs st c x H.
        let g = ready rs st c x H in
        tested R g m t' _ true (lt-ltb most_nodes (size (next g)) (omega (arith, (R.put (fits g)).is, put_size g))) (refl, refl)

    fine : {t' t₂ : List ℕ} (t₃ : List ℕ) {w : ℕ} → ContractedAt t len f.at (right_of (slot rules f.rule)) B t' (Some w) → {rs : List Rule} {x : Term} →
        Ready tab rules t len clean B f.at f.rule rs x → (m : ℕ) → PathOpened t' f.at t₂ → CellsSized tab (take w t₂) (take w t₃) →
        OuterStep tab rs t₃ x (suc m) (out Rewritten m w f.at) (step_outer rs x)
    fine {t'} {t₂} t₃ {w} R g m O S =
        let p = (R.put (fits g)).is in
        tested R g m t₃ _ false (le-ltb most_nodes (size (next g)) (omega (arith, p.room, p.next, put_size g)))
        (refl, refl, next_holds g t' t₂ t₃ w p.next p.cells O S)

    pub step_done : {t' t₂ : List ℕ} {w units : ℕ} {r : Out} (Q : List ℕ) →
        ContractedAt t len f.at (right_of (slot rules f.rule)) B t' (Some w) → w ≤ most_nodes → (units ≡ 0 → ⊥) → PathOpened t' f.at t₂ →
        CellsSized tab (take (w - 0) t₂) Q → r ≡ out Rewritten (units - 1) w f.at →
        SteppedOuter tab rules number t len clean units (Q ++ drop (w - 0) t₂) r
    step_done {units = zero} Q R h z O S e = absurd (z refl)
    step_done {t₂ = t₂} {w} {units = suc m} Q R h z O S e =
        let q : suc m - 1 ≡ m = omega arith in
        let l = G.long in
        let s = sized_back t₂ w Q (omega (arith, O.same, R.same)) S in
        subst (SteppedOuter tab rules number t len clean (suc m) (Q ++ drop (w - 0) t₂)) (sym (e ∙ ap (λ m. out Rewritten m w f.at) q)) (record {
          same = s.0 ∙ O.same ∙ R.same;
          small = h;
          left_over = omega arith;
          paid = λ z. omega arith;
          answer = λ rs st c x H. fine (Q ++ drop (w - 0) t₂) R (ready rs st c x H) m O s.1;
        })
