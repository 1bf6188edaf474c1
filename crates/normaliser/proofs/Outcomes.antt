-- What `normalise` answers, taken apart: a normal form of so many bytes, or none and the end with which the definition stops;
-- and two forms compared by their bytes. Assumes nothing.
-- Read first: specs/Settled (Normalised, NormalIs), proofs/Stopping.
use mathlib.Core.Path.{◌≡◌, refl, sym, ◌∙◌, ap, subst}
use mathlib.Core.Bool.{Bool, true, false}
use mathlib.Core.List.{List, [], append-nil}
use Prim.Native.Nat.{ℕ, ◌-◌, ◌≤◌}
use native.Mathlib.Omega.{arith}
use lib.ListN.{length, take, length-take}
use Rattle.terms.specs.Term.{Term, same, size, term_bytes}
use Rattle.terms.specs.Flat.{Wf}
use Rattle.terms.proofs.Flats.{unique}
use Rattle.terms.proofs.Shape.{same_dec}
use Rattle.rewriting.specs.Overlap.{Rule}
use Rattle.rewriting.specs.Rewrite.{End, complete, neither_above, spent, too_large, rules_full, log_full, Paid, done, stop, Paying}
use Rattle.std.specs.Prelude.{Result, Ok, Err}
use Rattle.matching.proofs.Replacing.{take_less_zero}
use Rattle.normaliser.specs.Settled.{FormStops, SmallForm, NormalIs, Normalised}
use Rattle.normaliser.specs.declared.Reached.{Reached}
use Rattle.normaliser.specs.declared.Stop.{Stop}
use Rattle.normaliser.proofs.Stopping.{Stopping, stopping}

pub apart : {f : Result ℕ Stop} {s : Stop} {n : ℕ} → f ≡ Err s → f ≡ Ok n → ⊥
apart e h = cc

pub same_length : {f : Result ℕ Stop} {n m : ℕ} → f ≡ Ok n → f ≡ Ok m → n ≡ m
same_length e h = cc

pub not_stopped : {f : Result ℕ Stop} {n : ℕ} → f ≡ Ok n → (x : End) → FormStops x f → ⊥
not_stopped e complete h = h
not_stopped e neither_above h = h
not_stopped e spent h = apart h e
not_stopped e too_large h = apart h e
not_stopped e rules_full h = h
not_stopped e log_full h = h

-- a side that was normalised, by whichever strategy
module _ {by : List Rule → Term → Paying Term} {tab rules : List ℕ} {count : ℕ} {t out out' : List ℕ} {units : ℕ} {r : Reached}
    (hr : Normalised by tab rules count t out out' units r) where
  -- it came to no normal form
  pub no_form : {A : Type 0} (s : Stop) → r.form ≡ Err s → (p : Paid Term) → NormalIs tab out' units r p →
      ((x : End) (k : ℕ) → p ≡ stop x k → Stopping x s → k ≡ units - r.paid → A) → A
  no_form s g (done y k) h a = absurd (apart g h.0)
  no_form s g (stop x k) h a = a x k refl (stopping x s (subst (FormStops x) g h.0)) (let b = h.1 in omega arith)

  -- it came to a normal form of n bytes
  module _ {n : ℕ} (g : r.form ≡ Ok n) where
    pub few_bytes : n ≤ 120
    few_bytes = subst SmallForm g hr.small

    pub few_taken : length (take (n - 0) out') ≤ 120
    few_taken = let a = few_bytes in omega (arith, length-take (n - 0) out')

    pub normal_form : {A : Type 0} (p : Paid Term) → NormalIs tab out' units r p →
        ((y : Term) (k : ℕ) → p ≡ done y k → k ≡ units - r.paid → take (n - 0) out' ≡ term_bytes y → Wf 32 tab y → A) → A
    normal_form (done y k) h f =
        let z : n ≡ size y = same_length g h.0 in
        f y k refl (let b = h.1 in omega arith) (take_less_zero n out' ∙ ap (λ j. take j out') z ∙ h.2) h.3
    normal_form (stop x k) h f = absurd (not_stopped g x h.0)

-- two forms are the same term exactly if their bytes are the same
pub same_by : (tab : List ℕ) {first second : List ℕ} (l y : Term) → Wf 32 tab l → Wf 32 tab y → first ≡ term_bytes l → second ≡ term_bytes y → (b : Bool) →
    (b ≡ true → first ≡ second) → (first ≡ second → b ≡ true) → same l y ≡ b
same_by tab l y wl wy bl by true agree _ =
    (same_dec l y).1 (unique 32 tab l y [] [] wl wy (append-nil (term_bytes l) ∙ sym bl ∙ agree refl ∙ by ∙ sym (append-nil (term_bytes y)))).0
same_by tab l y wl wy bl by false _ agreed = go (same l y) refl
  where
    go : (s : Bool) → same l y ≡ s → same l y ≡ false
    go true s = s ∙ sym (agreed (bl ∙ ap term_bytes ((same_dec l y).0 s) ∙ sym by))
    go false s = s
