-- Document 01: "Every equation and rule held is so renamed." In every state that turns reach, renaming a rule or a waiting pair changes nothing; nor
-- does it change an input at the scan. Step 7 and the removed rules do not rename: a rule's left side has all of its variables, so a new right side
-- leaves the numbering as it is. Assumes nothing.
-- Read first: proofs/Closed, terms/proofs/Rename (`renamed_again`, `renamed_by_left`).
use mathlib.Core.Path.{◌≡◌, sym, ap, ◌∙◌}
use mathlib.Core.Bool.{true}
use mathlib.Core.List.{List}
use Prim.Native.Nat.{ℕ}
use Rattle.terms.specs.Term.{Term, Pair, renamed}
use Rattle.terms.proofs.Rename.{renamed_left, renamed_again, renamed_by_left}
use Rattle.terms.proofs.Below.{renaming}
use Rattle.terms.specs.Base.{Every}
use Rattle.terms.proofs.Every.{every_map}
use Rattle.order.specs.Order.{above}
use Rattle.rewriting.specs.Overlap.{Rule, sides_of}
use Rattle.rewriting.proofs.Relations.{Of}
use Rattle.rewriting.proofs.Covers.{of_every}
use Rattle.rewriting.proofs.Holds.{Reached, reached_star}
use Rattle.rewriting.proofs.Variables.{Brings, brings_subst, star_brings}
use Rattle.problem.specs.Problem.{rank_of, Theory}
use Rattle.completion.specs.Turn.{Candidate, scanned_input, State, candidates}
use Rattle.completion.proofs.Reachable.{Reachable}
use Rattle.completion.proofs.Closed.{Closed, candidates_every, reachable_has}
use Rattle.completion.proofs.OverRules.{above_brings}

-- the variables are 0, 1, 2 .. in order of first occurrence
abbrev pub Renamed : Pair → Type 0
Renamed e = renamed e ≡ e

-- and the right side has none of its own
record RenamedRule (e : Pair) : Type 0 where
  unchanged : Renamed e
  brings : Brings e.left e.right

abbrev RenamedRules : List Rule → Type 0
RenamedRules rules = Every (λ (r : Rule). RenamedRule r.sides) rules

oriented_renamed : (rank : ℕ → ℕ) (e : Pair) → above rank e.left e.right ≡ true → RenamedRule (renamed e)
unfolding renamed
oriented_renamed rank e a =
    record { unchanged = renamed_again e; brings = brings_subst (renaming e) e.left e.right (above_brings rank e.left e.right a) }

-- step 7
composed_renamed : (rules : List Rule) → RenamedRules rules → (e : Pair) (r : Term) → Reached rules e.right r → RenamedRule e →
    RenamedRule (record { left = e.left; right = r })
composed_renamed rules h e r s q =
    let b : Brings e.left r =
    λ x i. q.brings x (star_brings {R = Of (sides_of rules)} (λ l r i. (of_every RenamedRule h l r i).brings) (reached_star s) x i) in
    record {
      unchanged = renamed_by_left (record { left = e.left; right = r }) (sym (renamed_left e) ∙ ap (λ (d : Pair). d.left) q.unchanged) b;
      brings = b;
    }

-- All that a state holds.
pub record AllRenamed (s : State) : Type 0 where
  pub rules : Every (λ (r : Rule). Renamed r.sides) s.rules
  pub waiting : Every (λ (c : Candidate). Renamed c.sides) s.waiting

module _ (T : Theory) where
  renamed_closed : Closed T RenamedRule Renamed (λ e. Unit {0})
  renamed_closed =
      record {
        given = λ e i. renamed_again e;
        taken = λ e q. tt;
        overlapped = λ inner outer p o e small a b. tt;
        rewritten = λ rules h e f l r q. tt;
        turned = λ e q. tt;
        oriented = λ e q few a. oriented_renamed (rank_of T.symbols) e a;
        composed = composed_renamed;
        put_off = λ e q. q.unchanged;
        put_again = λ e q few. renamed_again e;
      }

  -- Every state of a run.
  pub reachable_renamed : {s : State} → Reachable T s → AllRenamed s
  reachable_renamed r =
      let h = reachable_has T RenamedRule Renamed (λ e. Unit {0}) renamed_closed r in
      record { rules = every_map (λ rule q. q.unchanged) h.rules; waiting = h.waiting }

  -- The inputs at the scan.
  pub inputs_renamed : Every (λ (c : Candidate). Renamed c.sides) (candidates scanned_input 1 T.equations)
  inputs_renamed = candidates_every Renamed scanned_input 1 T.equations (λ e i. renamed_again e)
