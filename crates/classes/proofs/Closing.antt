-- Passes over the nodes that join classes until one pass joins nothing: invariant `Closing`, and `left_over`, which every step lowers. Assumes
-- nothing.
-- Read first: specs/Steps (StepIs, ClosedTo, weight), proofs/Walks, proofs/Joining.
use mathlib.Core.Path.{◌≡◌, refl, ap, subst, ◌∙◌}
use mathlib.Core.Bool.{Bool, true, false}
use mathlib.Core.List.{List}
use Prim.Native.Nat.{ℕ, ◌+◌, ◌*◌, ◌-◌, ◌≤◌, ◌<◌}
use native.Mathlib.Omega.{arith}
use lib.ListN.{length}
use Rattle.classes.specs.Steps.{at, arena, Ready, Linked, StepIs, joined, Grown, ClosedTo, weight}
use Rattle.classes.specs.declared.Step.{Step}
use Rattle.classes.specs.declared.Step.TheVariants.{Done, Clash, Join}
use Rattle.classes.proofs.Solution.{never_clash}
use Rattle.classes.proofs.Walks.{ClosedBelow, below_next}
use Rattle.classes.proofs.Joining.{join_ready, join_grown, join_falls, joined_length, grown_start, grown_more}

-- cs were the classes at first, ds are they now; where this pass has joined nothing, the nodes before i are closed
pub record Closing (l tab ends cs ds : List ℕ) (i : ℕ) (again : Bool) : Type 0 where
  pub ready : Ready l tab ends ds
  pub grown : Grown (arena l tab ends) (at cs) (at ds)
  pub long : length ds ≡ length cs
  pub within : i ≤ length l
  pub closed : again ≡ false → ClosedBelow (arena l tab ends) (at ds) i

-- whether one more pass is due, as a number
abbrev pass_due : Bool → ℕ
pass_due true = 1
pass_due false = 0

-- what falls with each step
abbrev pub left_over : List ℕ → List ℕ → ℕ → Bool → ℕ
left_over l ds i again = 1202 * weight l ds + 601 * pass_due again + (600 - i)

pass_due_once : (again : Bool) → pass_due again ≤ 1
pass_due_once true = omega arith
pass_due_once false = omega arith

-- a pass begins
closing_pass : (l tab ends cs ds : List ℕ) → Ready l tab ends ds → Grown (arena l tab ends) (at cs) (at ds) → length ds ≡ length cs →
    Closing l tab ends cs ds 0 false
closing_pass l tab ends cs ds y g e =
    record { ready = y; grown = g; long = e; within = omega arith; closed = λ z j h. absurd (omega arith) }

pub closing_start : (l tab ends cs : List ℕ) → Ready l tab ends cs → Closing l tab ends cs cs 0 false
closing_start l tab ends cs y = closing_pass l tab ends cs cs y (grown_start (arena l tab ends) (at cs)) refl

module _ (l tab ends cs ds : List ℕ) (i : ℕ) (again : Bool) (k : Closing l tab ends cs ds i again) where
  -- the end of a pass
  pub closing_done : length l ≤ i → again ≡ false → Ready l tab ends ds × ClosedTo (arena l tab ends) (at cs) (at ds) true
  closing_done h e = (k.ready, (k.grown, λ j q. k.closed e j (omega arith)))

  pub closing_again : Closing l tab ends cs ds 0 false
  closing_again = closing_pass l tab ends cs ds k.ready k.grown k.long

  pub closing_rounds : again ≡ true → left_over l ds 0 false < left_over l ds i again
  closing_rounds e = let q = ap pass_due e in omega arith

  module _ (h : i < length l) (s : Step) (g : StepIs (arena l tab ends) (at ds) i s) where
    pub closing_next : s ≡ Done → Closing l tab ends cs ds (i + 1) again
    closing_next e = record {
      ready = k.ready;
      grown = k.grown;
      long = k.long;
      within = omega arith;
      closed = λ z. below_next (arena l tab ends) (at ds) i (k.closed z) s g e;
    }

    pub closing_falls : left_over l ds (i + 1) again < left_over l ds i again
    closing_falls = omega (arith, k.ready.small)

    pub closing_clash : s ≡ Clash → Ready l tab ends ds × ClosedTo (arena l tab ends) (at cs) (at ds) false
    closing_clash e = (
      k.ready,
      λ n₁ n₂ c. let (j, q, b, n) = subst (λ z. StepIs (arena l tab ends) (at ds) i z) e g in
          never_clash (arena l tab ends) n₁ n₂ (at ds) k.ready.whole (k.grown.classes n₁ n₂ c) j q b n,
    )

    module _ (a b : ℕ) (e : s ≡ Join a b) where
      abbrev linked : Linked (arena l tab ends) (at ds) a b
      linked = subst (λ z. StepIs (arena l tab ends) (at ds) i z) e g

      pub closing_requires : ((a < length l) × (b < length l) × (length l ≤ 600) × (length l ≤ length ds)) × ((at ds a < length l) × (at ds b < length l))
      closing_requires =
          let y = k.ready in
          ((linked.0, linked.1, y.small, y.classed), (y.within a linked.0, y.within b linked.1))

      module _ (fs : List ℕ) (q : fs ≡ joined l ds a b) where
        pub closing_more : Closing l tab ends cs fs i true
        closing_more =
            record {
              ready = join_ready l tab ends ds k.ready a b linked.0 linked.1 fs q;
              grown =
                  grown_more (arena l tab ends) (at cs) (at ds) (at fs) k.grown
                  (join_grown l tab ends ds k.ready a b linked.0 linked.1 fs q linked);
              long = joined_length l tab ends ds k.ready a b linked.0 linked.1 fs q ∙ k.long;
              within = k.within;
              closed = λ z. absurd (cc);
            }

        pub closing_less : left_over l fs i true < left_over l ds i again
        closing_less = let f = join_falls l tab ends ds k.ready a b linked.0 linked.1 fs q linked.2 in omega (arith, pass_due_once again)
