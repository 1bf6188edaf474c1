-- What waits as equations and rules, and a turn's steps as transitions: the pair taken enters the equations in its forms, a rule is made of it, rules
-- are removed, right sides are normalised. Assumes nothing.
-- Read first: specs/Systems, proofs/Ends, proofs/Deriving, proofs/Postponed.
use mathlib.Core.Path.{◌≡◌, refl, sym, ap, ap₂, subst, ◌∙◌}
use mathlib.Core.Bool.{Bool, true, false}
use mathlib.Core.List.{List, [], ◌∷◌, ◌++◌, append_assoc, append-nil, map, map-append, Memᴰ}
use mathlib.Core.Option.{some}
use Prim.Native.Nat.{ℕ, suc}
use Rattle.std.specs.Prelude.{if◌then◌else◌}
use Rattle.terms.specs.Base.{Every, of_none, of_cons}
use Rattle.terms.specs.Term.{Term, Pair, renamed}
use Rattle.terms.proofs.Below.{renaming}
use Rattle.terms.proofs.Rename.{renamed_back}
use Rattle.terms.proofs.Every.{every_of, every_in}
use Rattle.order.specs.Order.{above}
use Rattle.rewriting.specs.Overlap.{Rule, sides_of, Overlap, overlap, Place, all_places}
use Rattle.rewriting.proofs.Relations.{Of, Step, Star, stop, move, Normal}
use Rattle.rewriting.proofs.Abstract.{star_map}
use Rattle.rewriting.proofs.Stepping.{StepBy, step_none}
use Rattle.rewriting.proofs.Overlaps.{peak_left, peak_right}
use Rattle.rewriting.proofs.Covers.{BothHold, all_places_hold}
use Rattle.rewriting.proofs.Holds.{Forms, reached_star}
use Rattle.completion.specs.Turn.{waiting_input, removed_rule, Candidate, candidates, rewrites, kept, removed}
use Rattle.completion.specs.Transitions.{Properly, ◌⨾◌, pair, Variants, Reordered, unmoved, behind, moved, collapse, deduce, reorder}
use Rattle.completion.specs.Transitions.{rename_equation, Derivation, written}
use Rattle.completion.specs.Systems.{from_removed, still_rule, waiting_equations, waiting_rules, together}
use Rattle.completion.proofs.Words.{of_item, rule_sides}
use Rattle.completion.proofs.Ends.{Rights, none_yet, one_more, with_right}
use Rattle.completion.proofs.Reorders.{reordered_in, reordered_back, reordered_eq, with_behind, put_back}
use Rattle.completion.proofs.Soundness.{step_rewrites, Falls, derivation_falls}
use Rattle.completion.proofs.Deriving.{step_more, rewrites_more, rewrites_by, rewrites_encompasses, derives, same_as, by_one, none_more}
use Rattle.completion.proofs.Deriving.{simplify_both, compose_right}
use Rattle.completion.proofs.Postponed.{Reduces, IsRule, IsEquation, ReducesRemoved}
use Rattle.completion.proofs.Encompassed.{Free, FreeRemoved}

-- A renamed pair is a variant.
pub renamed_variants : (e : Pair) → Variants e (renamed e)
unfolding renamed
renamed_variants e =
    record { there = renaming e; left_there = refl; right_there = refl; back = _; left_back = sym (renamed_back e).0; right_back = sym (renamed_back e).1 }

pub sides_append : (a b : List Rule) → sides_of (a ++ b) ≡ sides_of a ++ sides_of b
sides_append a b = map-append rule_sides a b

-- What waits, as equations or as rules.
abbrev candidate_sides : Candidate → Pair
candidate_sides c = c.sides

abbrev pub waiting_sides : List Candidate → List Pair
waiting_sides cs = map candidate_sides cs

if_map : {A B : Type 0} (f : A → B) (b : Bool) (x y : A) → (if b then f x else f y) ≡ f (if b then x else y)
if_map f true x y = refl
if_map f false x y = refl

module _ (rank : ℕ → ℕ) where
  -- in two parts
  equations_append : (a b : List Candidate) → waiting_equations rank (a ++ b) ≡ waiting_equations rank a ++ waiting_equations rank b
  unfolding waiting_equations
  equations_append [] b = refl
  equations_append (c ∷ a) b =
      ap (λ l. if still_rule rank c then l else (c.sides ∷ l)) (equations_append a b)
      ∙ if_map (λ l. l ++ waiting_equations rank b) (still_rule rank c) (waiting_equations rank a) (c.sides ∷ waiting_equations rank a)

  rules_append : (a b : List Candidate) → waiting_rules rank (a ++ b) ≡ waiting_rules rank a ++ waiting_rules rank b
  unfolding waiting_rules
  rules_append [] b = refl
  rules_append (c ∷ a) b =
      ap (λ l. if still_rule rank c then (c.sides ∷ l) else l) (rules_append a b)
      ∙ if_map (λ l. l ++ waiting_rules rank b) (still_rule rank c) (c.sides ∷ waiting_rules rank a) (waiting_rules rank a)

  -- equations alone, or rules alone, also behind others
  all_equations : {cs : List Candidate} → Every (IsEquation rank) cs → (waiting_equations rank cs ≡ waiting_sides cs) × (waiting_rules rank cs ≡ [])
  unfolding waiting_equations waiting_rules
  all_equations of_none = (refl, refl)
  all_equations (of_cons {x = c} e h) = let k = all_equations h in rw e (ap (λ l. c.sides ∷ l) k.0, k.1)

  all_rules : {cs : List Candidate} → Every (IsRule rank) cs → (waiting_equations rank cs ≡ []) × (waiting_rules rank cs ≡ waiting_sides cs)
  unfolding waiting_equations waiting_rules
  all_rules of_none = (refl, refl)
  all_rules (of_cons {x = c} e h) = let k = all_rules h in rw e (k.0, ap (λ l. c.sides ∷ l) k.1)

  pub equations_behind : (rules : List Rule) (a b : List Candidate) → Every (IsEquation rank) b →
      together rank rules (a ++ b) ≡ (waiting_equations rank a ++ waiting_sides b ⨾ sides_of rules ++ waiting_rules rank a)
  unfolding together
  equations_behind rules a b h =
      let k = all_equations h in
      ap₂ (λ E W. E ⨾ sides_of rules ++ W)
      (equations_append a b ∙ ap (λ l. waiting_equations rank a ++ l) k.0)
      (rules_append a b ∙ ap (λ l. waiting_rules rank a ++ l) k.1 ∙ append-nil (waiting_rules rank a))

  pub rules_behind : (rules : List Rule) (a b : List Candidate) → Every (IsRule rank) b →
      together rank rules (a ++ b) ≡ (waiting_equations rank a ⨾ sides_of rules ++ (waiting_rules rank a ++ waiting_sides b))
  unfolding together
  rules_behind rules a b h =
      let k = all_rules h in
      ap₂ (λ E W. E ⨾ sides_of rules ++ W)
      (equations_append a b ∙ ap (λ l. waiting_equations rank a ++ l) k.0 ∙ append-nil (waiting_equations rank a))
      (rules_append a b ∙ ap (λ l. waiting_rules rank a ++ l) k.1)

-- Step 6: the removed rules stand behind,
pub kept_removed : (new : Rule) (rules : List Rule) → Reordered (sides_of rules) (sides_of (kept new rules) ++ waiting_sides (removed new rules))
unfolding kept removed
kept_removed new [] = unmoved
kept_removed new (old ∷ rules) = go (rewrites new old) (kept_removed new rules)
  where
    go : (b : Bool) → Reordered (sides_of rules) (sides_of (kept new rules) ++ waiting_sides (removed new rules)) →
        Reordered (old.sides ∷ sides_of rules)
        (sides_of (if b then kept new rules else (old ∷ kept new rules))
        ++ waiting_sides (if b then (record { origin = removed_rule old.number; sides = old.sides } ∷ removed new rules) else removed new rules))
    go true h = moved (behind h) (put_back old.sides (sides_of (kept new rules)) (waiting_sides (removed new rules)))
    go false h = behind h

-- and each that goes down is a rule still.
pub removed_still : (rank : ℕ → ℕ) (old : Rule) → above rank old.sides.left old.sides.right ≡ true →
    IsRule rank (record { origin = removed_rule old.number; sides = old.sides })
unfolding still_rule from_removed
removed_still rank old h = h

module _ (rank : ℕ → ℕ) where
  -- The input equations, renamed.
  pub inputs_derive : (n : ℕ) (es : List Pair) (F R : List Pair) →
      Derivation rank Properly (es ++ F ⨾ R) (waiting_sides (candidates waiting_input n es) ++ F ⨾ R)
  unfolding candidates
  inputs_derive n [] F R = none_more rank
  inputs_derive n (e ∷ es) F R =
      same_as rank (rename_equation (renamed_variants e))
      (same_as rank (reorder (put_back (renamed e) es F) unmoved)
      (derives rank (inputs_derive (suc n) es (renamed e ∷ F) R)
      (written (reorder (reordered_back (put_back (renamed e) (waiting_sides (candidates waiting_input (suc n) es)) F)) (unmoved {l = R})))))

  -- Step 1, a pair that waits: Simplify, behind Collapse where it is a rule still.
  module _ (rules : List Rule) (cs : List Candidate) where
    abbrev equations : List Pair
    equations = waiting_equations rank cs

    abbrev live : List Pair
    live = sides_of rules ++ waiting_rules rank cs

    some_live : (l r : Term) → Of (sides_of rules) l r → Of live l r
    some_live l r i = mathlib.Core.List.Memᴰ.append_left (waiting_rules rank cs) i

    -- by a live rule, of which no left side has an instance of s in it
    collapsed : {s t u v : Term} → Reduces rules s → ((l r : Term) → Of (sides_of rules) l r → Free s l) → Normal (StepBy rules) u →
        Star (StepBy rules) s u → Star (StepBy rules) t v → Derivation rank Properly (equations ⨾ pair s t ∷ live) (pair u v ∷ equations ⨾ live)
    collapsed h f n stop k = absurd (n h.0 h.1)
    collapsed h f n (move w m) k =
        let c = rewrites_more (sides_of rules) live some_live w in
        by_one rank (collapse c (rewrites_encompasses c, f _ _ (rewrites_by (sides_of rules) live some_live w)))
        (simplify_both rank equations (sides_of rules) live some_live m k)

    pub waiting_derives : (c : Candidate) (f : Pair) → ReducesRemoved rank rules c → FreeRemoved rank rules c → Forms rules c.sides f →
        Derivation rank Properly (together rank rules (c ∷ cs)) (f ∷ equations ⨾ live)
    unfolding together waiting_equations waiting_rules
    waiting_derives c f h proper k = go (still_rule rank c) refl
      where
        go : (b : Bool) → still_rule rank c ≡ b →
            Derivation rank Properly
            ((if b then equations else (c.sides ∷ equations)) ⨾ sides_of rules ++ (if b then (c.sides ∷ waiting_rules rank cs) else waiting_rules rank cs))
            (f ∷ equations ⨾ live)
        go true e = same_as rank (reorder unmoved (reordered_back (put_back c.sides (sides_of rules) (waiting_rules rank cs))))
            (collapsed (h e) (proper e) (step_none rules f.left k.left.normal) (reached_star k.left.reached) (reached_star k.right.reached))
        go false e = simplify_both rank equations (sides_of rules) live some_live (reached_star k.left.reached) (reached_star k.right.reached)

  -- Step 1, an overlap: Deduce, then Simplify.
  pub overlap_derives : (rules : List Rule) (R : List Pair) → ((l r : Term) → Of (sides_of rules) l r → Of R l r) → (at : Place) (o : Overlap) →
      Memᴰ at (all_places [] rules) → overlap at.inner.sides at.outer.sides at.position ≡ some o → (E : List Pair)
      (f : Pair) → Forms rules (renamed o.sides) f →
      Derivation rank Properly (E ⨾ R) (f ∷ E ⨾ R)
  overlap_derives rules R sub at o i q E f h =
      let both : BothHold (λ r. Memᴰ r rules) at = every_in (all_places_hold (λ r. Memᴰ r rules) [] rules of_none (every_of rules (λ r j. j))) i in
      let inner : Of R at.inner.sides.left at.inner.sides.right = sub _ _ (of_item rule_sides rules at.inner both.inner_holds) in
      let outer : Of R at.outer.sides.left at.outer.sides.right = sub _ _ (of_item rule_sides rules at.outer both.outer_holds) in
      by_one rank
      (deduce
      (step_rewrites R _ _ (peak_left at.inner.sides at.outer.sides at.position o (Of R) inner outer q))
      (step_rewrites R _ _ (peak_right at.inner.sides at.outer.sides at.position o (Of R) inner outer q)))
      (same_as rank (rename_equation (renamed_variants o.sides))
      (simplify_both rank E (sides_of rules) R sub (reached_star h.left.reached) (reached_star h.right.reached)))

  -- Step 7: Compose.
  module _ (E X : List Pair) (n : Pair) (before later : List Rule) (old : Rule) (r : Term) where
    abbrev others : List Pair
    others = sides_of before ++ sides_of later

    abbrev with_old : Pair → List Pair → List Pair
    with_old o W = sides_of before ++ (o ∷ sides_of later) ++ (n ∷ W)

    to_front : (o : Pair) (W : List Pair) → Reordered (with_old o W) (o ∷ (others ++ (n ∷ W)))
    to_front o W = with_behind (n ∷ W) (reordered_back (put_back o (sides_of before) (sides_of later)))

    one_right : Falls rank (with_old old.sides X) → Star (Step (Of (with_old old.sides []))) old.sides.right r →
        Derivation rank Properly (E ⨾ with_old old.sides X) (E ⨾ with_old (with_right old r).sides X)
    one_right f m =
        let falls : Falls rank (old.sides ∷ (others ++ (n ∷ X))) = λ l r i. f l r (reordered_in (reordered_back (to_front old.sides X)) i) in
        let more : (l r : Term) → Of (others ++ (n ∷ [])) l r → Of (others ++ (n ∷ X)) l r = λ l r i.
        reordered_in (reordered_eq (append_assoc others (n ∷ []) X)) (mathlib.Core.List.Memᴰ.append_left X i) in
        let m' : Star (Step (Of (old.sides ∷ (others ++ (n ∷ []))))) old.sides.right r =
        star_map (λ t. t) (λ a b w. step_more (Of (with_old old.sides [])) _ (λ l r i. reordered_in (to_front old.sides []) i) w) m in
        same_as rank (reorder unmoved (to_front old.sides X))
        (derives rank
        (compose_right rank E (others ++ (n ∷ [])) (others ++ (n ∷ X)) more (λ l r i. falls l r (mathlib.Core.List.Memᴰ.tail (more l r i))) old.sides.left
        old.sides.right (falls _ _ (mathlib.Core.List.Memᴰ.head refl)) m')
        (written (reorder unmoved (reordered_back (to_front (with_right old r).sides X)))))

  pub rights_derive : (E X : List Pair) (new : Rule) {older done later : List Rule} → Rights new older done later →
      Falls rank (sides_of older ++ (new.sides ∷ X)) →
      Derivation rank Properly (E ⨾ sides_of older ++ (new.sides ∷ X)) (E ⨾ sides_of (done ++ later) ++ (new.sides ∷ X))
  rights_derive E X new (none_yet e d) f = rw (e, d) (none_more rank)
  rights_derive E X new {older} (one_more {before} {done} {later} {old} {r} g h e) f =
      let c : Derivation rank Properly (E ⨾ sides_of older ++ (new.sides ∷ X)) (E ⨾ sides_of (before ++ (old ∷ later)) ++ (new.sides ∷ X)) =
      rights_derive E X new g f in
      let q : sides_of (before ++ (old ∷ later)) ≡ sides_of before ++ (old.sides ∷ sides_of later) = sides_append before (old ∷ later) in
      let q' : sides_of (before ++ (old ∷ later) ++ (new ∷ [])) ≡ sides_of before ++ (old.sides ∷ sides_of later) ++ (new.sides ∷ []) =
      sides_append (before ++ (old ∷ later)) (new ∷ []) ∙ ap (λ l. l ++ (new.sides ∷ [])) q in
      let p : sides_of before ++ ((with_right old r).sides ∷ sides_of later) ≡ sides_of (done ++ later) =
      sym (ap (λ l. sides_of (l ++ later)) e ∙ ap sides_of (append_assoc before (with_right old r ∷ []) later) ∙ sides_append before
      (with_right old r ∷ later)) in
      let c' = subst (λ l. Derivation rank Properly (E ⨾ sides_of older ++ (new.sides ∷ X)) (E ⨾ l ++ (new.sides ∷ X))) q c in
      let m = subst (λ l. Star (Step (Of l)) old.sides.right r) q' (reached_star h.reached) in
      derives rank c'
      (subst (λ l. Derivation rank Properly (E ⨾ sides_of before ++ (old.sides ∷ sides_of later) ++ (new.sides ∷ X)) (E ⨾ l ++ (new.sides ∷ X))) p
      (one_right E X new.sides before later old r (derivation_falls rank c' f) m))
