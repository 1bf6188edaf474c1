-- A walk on its way: the whole part from the start comes to the same as the part still to come with the units left. Assumes nothing. So loops and
-- sequences of walks compose.
-- Read first: forms/specs/Forms (ScanPart, Walked), specs/Walk (Walks), forms/proofs/Walking.
use mathlib.Core.Path.{◌≡◌, refl, sym, ◌∙◌, ap}
use mathlib.Core.List.{List}
use Prim.Native.Nat.{ℕ, ◌≤◌}
use native.Mathlib.Omega.{arith}
use Rattle.terms.proofs.Shape.{zero≢one}
use Rattle.rewriting.specs.Rewrite.{Paying}
use Rattle.completion.specs.Turn.{Candidate}
use Rattle.slots.specs.Slots.{PutMark, KeptSlot}
use Rattle.joining.specs.declared.Walk.{Walk}
use Rattle.joining.specs.declared.Joined.TheVariants.{Equal}
use Rattle.joining.specs.declared.Joined.{Joined}
use Rattle.rewriting.specs.declared.End.{End}
use Rattle.std.specs.Prelude.{Result, Ok}
use mathlib.Core.Bool.{Bool, true, false, true≢false, false≢true}
use Rattle.forms.specs.Forms.{ScanPart, Walked, found, short, large, on}
use Rattle.joining.proofs.Rooms.{found_is, units_is}
use Rattle.forms.proofs.Walking.{walked_from}
use Rattle.forms.proofs.Pairs.{marked_one}
use Rattle.scanning.specs.Walk.{Lent, Walks, AllEqual}

-- a slot that was lent, and one that got a mark before
pub lent_none : (one : List ℕ) → Lent one one
lent_none one = record { same = refl; layout = λ y. y }

pub lent_trans : {one one₁ one₂ : List ℕ} → Lent one one₁ → Lent one₁ one₂ → Lent one one₂
lent_trans p q = record { same = q.same ∙ p.same; layout = λ y. q.layout (p.layout y) }

pub lent_mark : {one mark one₁ one₂ : List ℕ} → PutMark one 0 mark one₁ → KeptSlot one₁ one₂ → Lent one one₂
lent_mark p k = record { same = k.same ∙ p.only.same; layout = λ y. k.layout (marked_one y p) }

pub record Going {W : Type 0} (H : W → Type 0) (d : W → ScanPart) (one one' : List ℕ) (units : ℕ) (d' : W → ScanPart) (u : ℕ) : Type 0 where
  pub kept : Lent one one'
  pub within : u ≤ units
  pub reaches : (x : W) → H x → (next : Paying Candidate) → d x next units ≡ d' x next u

-- the part e is d₁ and then d₂
pub record Unrolls {W : Type 0} (H : W → Type 0) (e d₁ d₂ : W → ScanPart) : Type 0 where
  pub is : (x : W) → H x → (next : Paying Candidate) → e x next ≡ d₁ x (d₂ x next)

-- nothing is left of the part e
pub record Over {W : Type 0} (H : W → Type 0) (e : W → ScanPart) : Type 0 where
  pub is : (x : W) → H x → (next : Paying Candidate) → e x next ≡ next

-- a part that stops, and what would follow it
walked_stop : {tab one : List ℕ} {d₁ d₂ : ScanPart} {u : ℕ} {w : Walk} → Walked tab one d₁ u w → (w.found ≡ Ok Equal → ⊥) →
    Walked tab one (λ next. d₁ (d₂ next)) u w
walked_stop {d₂ = d₂} (found c z f s) n = found c z (λ next. f (d₂ next)) s
walked_stop {d₂ = d₂} (short z f) n = short z (λ next. f (d₂ next))
walked_stop {d₂ = d₂} (large z f) n = large z (λ next. f (d₂ next))
walked_stop {d₂ = d₂} (on z f) n = absurd (n z)

-- what the test for equal terms says
pub equal_yes : (f : Result Joined End) (r : Bool) → AllEqual f r → r ≡ true → f ≡ Ok Equal
equal_yes f true h e = h
equal_yes f false h e = absurd (false≢true e)

pub equal_no : (f : Result Joined End) (r : Bool) → AllEqual f r → r ≡ false → f ≡ Ok Equal → ⊥
equal_no f true h e = absurd (true≢false e)
equal_no f false h e = h

walked_on : {tab one : List ℕ} {d : ScanPart} {u : ℕ} {w : Walk} → Walked tab one d u w → w.found ≡ Ok Equal →
    (next : Paying Candidate) → d next u ≡ next w.units
walked_on (found c z f s) n next = absurd (zero≢one (cc))
walked_on (short z f) n next = absurd (zero≢one (cc))
walked_on (large z f) n next = absurd (zero≢one (cc))
walked_on (on z f) n next = f next

pub going_start : {W : Type 0} {H : W → Type 0} {d : W → ScanPart} {one : List ℕ} {units : ℕ} → Going H d one one units d units
going_start {one = one} = record { kept = lent_none one; within = omega arith; reaches = λ x h next. refl }

module _ {W : Type 0} {H : W → Type 0} {d e : W → ScanPart} {tab one one' : List ℕ} {units u : ℕ} (g : Going H d one one' units e u) where
  pub going_then : {one'' : List ℕ} {w : Walk} → Walks H e tab one' one'' u w → Walks H d tab one one'' units w
  going_then k = record {
    kept = lent_trans g.kept k.kept;
    left_over = let a = k.left_over in let b = g.within in omega arith;
    answer = λ x h. walked_from (g.reaches x h) (k.answer x h);
  }

  module _ {d₁ d₂ : W → ScanPart} {one'' : List ℕ} {w : Walk} (r : Unrolls H e d₁ d₂) (k : Walks H d₁ tab one' one'' u w) where
    unrolled : (x : W) → H x → (next : Paying Candidate) → d x next units ≡ d₁ x (d₂ x next) u
    unrolled x h next = g.reaches x h next ∙ ap (λ (f : Paying Candidate). f u) (r.is x h next)

    pub going_on : w.found ≡ Ok Equal → Going H d one one'' units d₂ w.units
    going_on z = record {
      kept = lent_trans g.kept k.kept;
      within = let a = k.left_over in let b = g.within in omega arith;
      reaches = λ x h next. unrolled x h next ∙ walked_on (k.answer x h) z (d₂ x next);
    }

    pub going_stop : (w.found ≡ Ok Equal → ⊥) → Walks H d tab one one'' units w
    going_stop n = record {
      kept = lent_trans g.kept k.kept;
      left_over = let a = k.left_over in let b = g.within in omega arith;
      answer = λ x h. walked_from (unrolled x h) (walked_stop {d₂ = d₂ x} (k.answer x h) n);
    }

  pub going_end : {w : Walk} → Over H e → w ≡ record { found = Ok Equal; units = u } → Walks H d tab one one' units w
  going_end o q = record {
    kept = g.kept;
    left_over = let a = units_is q in let b = g.within in omega arith;
    answer = λ x h. on (found_is q) (λ next. g.reaches x h next ∙ ap (λ (f : Paying Candidate). f u) (o.is x h next) ∙ ap next (sym (units_is q)));
  }
