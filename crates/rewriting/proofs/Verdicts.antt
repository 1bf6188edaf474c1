-- Ends of the code: going on is no end, and ends are told apart by what they are and by their numbers. Assumes nothing.
-- Read first: specs/Ends.
use mathlib.Core.Path.{◌≡◌, refl, sym, ap, ◌∙◌}
use Prim.Native.Nat.{ℕ}
use lib.Dec.{eqb}
use Rattle.std.specs.Prelude.{Option, Some, None, if◌then◌else◌}
use Rattle.terms.proofs.Shape.{zero≢one}
use Rattle.rewriting.specs.Ends.{number_of}
use Rattle.rewriting.specs.declared.End.{End as Ending}
use Rattle.rewriting.specs.declared.End.TheVariants.{Complete, NeitherAbove, Spent, TooLarge, RulesFull, LogFull}

pub goes≢ends : {v : Option Ending} {e : Ending} → v ≡ None → v ≡ Some e → ⊥
goes≢ends p q = zero≢one (cc)

pub same_end : {v : Option Ending} {d e : Ending} → v ≡ Some d → v ≡ Some e → d ≡ e
same_end p q = cc

-- "Say which store was full": no two ends have one number, so that field 10 of a result tells why the run ended.
pub numbers_apart : (d e : Ending) → number_of d ≡ number_of e → d ≡ e
unfolding number_of
numbers_apart d e h = sym (said d) ∙ ap told h ∙ said e
  where
    told : ℕ → Ending
    told n =
        if eqb n 0 then Complete
        else if eqb n 20 then NeitherAbove
        else if eqb n 21 then Spent
        else if eqb n 22 then TooLarge
        else if eqb n 23 then RulesFull
        else LogFull

    said : (a : Ending) → told (number_of a) ≡ a
    said Complete = refl
    said NeitherAbove = refl
    said Spent = refl
    said TooLarge = refl
    said RulesFull = refl
    said LogFull = refl
