-- Every rule of a run goes down in the order, has variables below 16 and is an equality of the input equations; every waiting pair is such an
-- equality. Assumes nothing.
-- Read first: proofs/Closed, proofs/Words.
use mathlib.Core.Path.{◌≡◌}
use mathlib.Core.Bool.{true}
use mathlib.Core.List.{List}
use mathlib.Core.Option.{some}
use Prim.Native.Nat.{ℕ, ◌≤◌, ◌<◌}
use native.Mathlib.Omega.{arith}
use lib.ListN.{length}
use Rattle.terms.specs.Term.{Term, Pair, pair_variables, renamed}
use Rattle.terms.proofs.Subst.{VarsIn}
use Rattle.terms.proofs.Below.{renaming, renamed_low}
use Rattle.terms.specs.Base.{Every}
use Rattle.order.specs.Order.{above}
use Rattle.order.proofs.Decide.{above_dec}
use Rattle.order.proofs.Closure.{above_subst}
use Rattle.rewriting.specs.Overlap.{Rule, sides_of, Overlap, overlap}
use Rattle.rewriting.proofs.Relations.{Conv, Rules, Step, Of}
use Rattle.rewriting.proofs.Abstract.{chain, star_conv, turn as turned}
use Rattle.rewriting.proofs.Steps.{conv_subst}
use Rattle.rewriting.proofs.Converge.{conv_conv}
use Rattle.rewriting.proofs.Sound.{Sound, sound_itself, simplify}
use Rattle.rewriting.proofs.Overlaps.{overlap_conv}
use Rattle.rewriting.proofs.Lower.{above_lower}
use Rattle.rewriting.proofs.Covers.{of_every}
use Rattle.rewriting.proofs.Holds.{Reached, reached_star}
use Rattle.problem.specs.Problem.{rank_of, Theory}
use Rattle.completion.specs.Turn.{State}
use Rattle.completion.proofs.Reachable.{Reachable}
use Rattle.completion.proofs.Closed.{Closed, reachable_has}

-- A renamed pair goes down where the pair does.
pub renamed_down : (rank : ℕ → ℕ) (e : Pair) → above rank e.left e.right ≡ true → above rank (renamed e).left (renamed e).right ≡ true
unfolding renamed
renamed_down rank e h = (above_dec rank _ _).1 (above_subst rank (renaming e) ((above_dec rank e.left e.right).0 h))

module _ (T : Theory) where
  abbrev pub Input : Rules
  Input = Of T.equations

  -- an equality of the input equations
  abbrev pub Equal : Pair → Type 0
  Equal e = Conv (Step Input) e.left e.right

  pub record Good (e : Pair) : Type 0 where
    pub down : above (rank_of T.symbols) e.left e.right ≡ true
    pub low : VarsIn (λ (x : ℕ). x < 16) e.left
    pub equal : Equal e

  abbrev pub GoodRules : List Rule → Type 0
  GoodRules rules = Every (λ (r : Rule). Good r.sides) rules

  renamed_equal : (e : Pair) → Equal e → Equal (renamed e)
  unfolding renamed
  renamed_equal e c = conv_subst (renaming e) c

  renamed_good : (e : Pair) → Equal e → length (pair_variables e) ≤ 16 → above (rank_of T.symbols) e.left e.right ≡ true → Good (renamed e)
  unfolding renamed
  renamed_good e q h a =
      record {
        down = renamed_down (rank_of T.symbols) e a;
        low = λ x i. omega (arith, renamed_low e x i);
        equal = renamed_equal e q;
      }

  rules_sound : {rules : List Rule} → GoodRules rules → Sound Input (Of (sides_of rules))
  rules_sound h l r i = (of_every Good h l r i).equal

  overlap_equal : (inner outer : Pair) (p : ℕ) (o : Overlap) → overlap inner outer p ≡ some o → Equal inner → Equal outer → Equal o.sides
  overlap_equal inner outer p o e a b = conv_conv {E = Conv (Step Input)} (λ l r c. c) (overlap_conv inner outer p o (Conv (Step Input)) a b e)

  -- a right side rewritten by live rules
  composed_good : (rules : List Rule) → GoodRules rules → (e : Pair) (r : Term) → Reached rules e.right r → Good e →
      Good (record { left = e.left; right = r })
  composed_good rules good e r s q =
      record {
        down = above_lower (rank_of T.symbols) (Of (sides_of rules)) (λ a b i. (of_every Good good a b i).down) e.left e.right r
            (reached_star s) q.down;
        low = q.low;
        equal = chain q.equal (conv_conv (rules_sound good) (star_conv (reached_star s)));
      }

  pub good_closed : Closed T Good Equal Equal
  good_closed =
      record {
        given = λ e i. renamed_equal e (sound_itself Input _ _ i);
        taken = λ e q. q;
        overlapped = λ inner outer p o e small a b. renamed_equal o.sides (overlap_equal inner outer p o e a.equal b.equal);
        rewritten = λ rules good e f l r q. simplify Input (Of (sides_of rules)) (rules_sound good) q (reached_star l) (reached_star r);
        turned = λ e q. turned q;
        oriented = renamed_good;
        composed = composed_good;
        put_off = λ e q. q.equal;
        put_again = λ e q few. renamed_equal e q;
      }

  pub reachable_good : {s : State} → Reachable T s → GoodRules s.rules
  reachable_good r = (reachable_has T Good Equal Equal good_closed r).rules
