-- What is due, case by case: `with_room` and `due_after`; and an entry is due only where the log has room. Assumes nothing.
-- Read first: specs/Forms (with_room, due_after).
use mathlib.Core.Path.{◌≡◌, refl, sym, ap, ap₂, ◌∙◌}
use mathlib.Core.Bool.{Bool, true, false}
use Prim.Native.Nat.{ℕ, ◌<◌, ◌≤◌}
use lib.Dec.{leb}
use borrow.Author.Tests.{leb-true, leb-false, le-leb, lt-leb}
use Rattle.limits.specs.Limits.{most_entries}
use Rattle.std.specs.Prelude.{if◌then◌else◌}
use Rattle.terms.proofs.Shape.{zero≢one}
use Rattle.rewriting.specs.declared.End.{End as Ending}
use Rattle.rewriting.specs.declared.End.TheVariants.{Complete, LogFull}
use Rattle.std.specs.Prelude.{Result, Ok, Err, IsErrAnd}
use Rattle.joining.specs.declared.Joined.{Joined}
use Rattle.joining.specs.declared.Joined.TheVariants.{Equal, Different}
use Rattle.forms.specs.declared.Due.{Due}
use Rattle.forms.specs.declared.Due.TheVariants.{Settle, Make}
use Rattle.forms.specs.Forms.{with_room, due_after}

-- the log is full, or has room
pub data Room (n : ℕ) (due : Due) (d : Result Due Ending) : Type 0 where
  none_left : most_entries ≤ n → d ≡ Err LogFull → Room n due d
  some_left : n < most_entries → d ≡ Ok due → Room n due d

pub room : (n : ℕ) (due : Due) → Room n due (with_room n (Ok due))
unfolding with_room
room n due = go (leb most_entries n) refl
  where
    go : (b : Bool) → leb most_entries n ≡ b → Room n due (if b then Err LogFull else Ok due)
    go true e = none_left (leb-true most_entries n e) refl
    go false e = some_left (leb-false most_entries n e) refl

-- `with_room`
pub no_room : (n : ℕ) (due : Result Due Ending) → most_entries ≤ n → Err LogFull ≡ with_room n due
unfolding with_room
no_room n due h = sym (ap (λ b. if b then Err LogFull else due) (le-leb most_entries n h))

pub has_room : (n : ℕ) (due : Result Due Ending) → n < most_entries → due ≡ with_room n due
unfolding with_room
has_room n due h = sym (ap (λ b. if b then Err LogFull else due) (lt-leb most_entries n h))

-- `due_after`
module _ (f : Result Joined Ending) (w : Bool) (n : ℕ) where
  module _ {j : Joined} (e : f ≡ Ok j) where
    pub due_equal : {r : Result Due Ending} → r ≡ with_room n (Ok Settle) → j ≡ Equal → w ≡ true → r ≡ due_after f w n
    unfolding due_after
    due_equal h q t = h ∙ sym (ap₂ (λ x y. due_after x y n) (e ∙ ap Ok q) t)

    pub due_complete : j ≡ Equal → w ≡ false → Err Complete ≡ due_after f w n
    unfolding due_after
    due_complete q t = sym (ap₂ (λ x y. due_after x y n) (e ∙ ap Ok q) t)

    pub due_different : {r : Result Due Ending} → r ≡ with_room n (Ok Make) → j ≡ Different → r ≡ due_after f w n
    unfolding due_after
    due_different h q = h ∙ sym (ap (λ x. due_after x w n) (e ∙ ap Ok q))

  due_end : {end : Ending} → f ≡ Err end → Err end ≡ due_after f w n
  unfolding due_after
  due_end e = sym (ap (λ x. due_after x w n) e)

  -- an end that is handed on
  pub due_stopped : {end : Ending} (r : Result Due Ending) → IsErrAnd r (λ v. v ≡ end) → f ≡ Err end → r ≡ due_after f w n
  due_stopped (Ok x) h e = absurd h
  due_stopped (Err v) h e = ap Err h ∙ due_end e

-- an entry is due only where there is room
due_room : (n : ℕ) (due : Due) (d : Result Due Ending) (e : Due) → Room n due d → d ≡ Ok e → n < most_entries
due_room n due d e (none_left h q) p = absurd (zero≢one (cc))
due_room n due d e (some_left h q) p = h

entry_room : (f : Result Joined Ending) (w : Bool) (n : ℕ) (e : Due) → due_after f w n ≡ Ok e → n < most_entries
unfolding due_after
entry_room (Ok Equal) true n e p = due_room n Settle _ e (room n Settle) p
entry_room (Ok Equal) false n e p = absurd (zero≢one (cc))
entry_room (Ok Different) w n e p = due_room n Make _ e (room n Make) p
entry_room (Err x) w n e p = absurd (zero≢one (cc))

pub settle_room : (f : Result Joined Ending) (w : Bool) (n : ℕ) {d : Result Due Ending} → d ≡ due_after f w n → d ≡ Ok Settle → n < most_entries
settle_room f w n q p = entry_room f w n Settle (sym q ∙ p)

pub make_room : (f : Result Joined Ending) (w : Bool) (n : ℕ) {d : Result Due Ending} → d ≡ due_after f w n → d ≡ Ok Make → n < most_entries
make_room f w n q p = entry_room f w n Make (sym q ∙ p)
