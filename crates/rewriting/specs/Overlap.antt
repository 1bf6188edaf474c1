-- Document 01, "Overlaps", and the order in which they are scanned: section 6 and [9.4] of docs/DEFINITION.md. Assumes nothing.
use Rattle.std.specs.Prelude.{List, [], ◌∷◌, ◌++◌, map, ℕ, ◌+◌, ◌-◌}
use Rattle.std.proofs.Math.Option.{Option, none, some}
use Rattle.limits.specs.Limits.{most_variables}
use Rattle.terms.specs.Base.{count_from}
use Rattle.terms.specs.Term.{Term, var, node, Pair, size, subst_term, subterm_at, replace_at}
use Rattle.unify.specs.Unify.{Binding, mgu, under}

pub record Rule : Type 0 where
  pub number : ℕ
  pub sides : Pair

abbrev pub sides_of : List Rule → List Pair
sides_of rules = map (λ rule. rule.sides) rules

pub record Overlap : Type 0 where
  pub peak : Term
  pub sides : Pair

-- "variables renamed apart": a rule's variables are 0 to 15, and the inner rule's become 16 to 31 [6.2]
unfoldable pub apart : Term → Term
apart t = subst_term (λ x. var (most_variables + x)) t

-- "Inner rule l1 to r1, outer rule l2 to r2, .. l1 and the subterm of l2 at p unifiable with most general unifier m.
-- .. The peak is l2 under m. The pair: left, the peak with the subterm at p replaced by r1 under m; right, r2 under m."
-- (p is a position of l2 and not of the peak, so r1 is put into l2 before m.) [6.6, 6.7]
unfoldable pub overlap_by : Pair → Pair → ℕ → Option (List Binding) → Option Overlap
overlap_by inner outer p none = none
overlap_by inner outer p (some m) =
    some (record {
      peak = under m outer.left;
      sides = record {
        left = under m (replace_at outer.left p (apart inner.right));
        right = under m outer.right;
      };
    })

-- "position p in l2 where no variable stands" [6.1, 6.3]
unfoldable pub overlap_at : Pair → Pair → ℕ → Option Term → Option Overlap
overlap_at inner outer p none = none
overlap_at inner outer p (some (var x)) = none
overlap_at inner outer p (some (node f ts)) = overlap_by inner outer p (mgu (apart inner.left) (node f ts))

unfoldable pub overlap : Pair → Pair → ℕ → Option Overlap
overlap inner outer p = overlap_at inner outer p (subterm_at outer.left p)

-- Where an overlap is looked for.
pub record Place : Type 0 where
  pub inner : Rule
  pub outer : Rule
  pub position : ℕ

unfoldable pub places : Rule → Rule → List ℕ → List Place
places inner outer ps = map (λ p. record { inner = inner; outer = outer; position = p }) ps

unfoldable pub positions : Rule → List ℕ
positions outer = count_from 0 (size outer.sides.left)

-- "first the earlier rule as inner, then the later; positions ascending" [9.4]
unfoldable pub places_with : List Rule → Rule → List Place
places_with [] later = []
places_with (earlier ∷ rules) later =
    places earlier later (positions later) ++ places later earlier (positions earlier) ++ places_with rules later

-- "A rule with itself at p = 0 is left out." [6.5]
unfoldable pub places_self : Rule → List Place
places_self rule = places rule rule (count_from 1 (size rule.sides.left - 1))

-- "pairs of live rules, a rule with itself once, ascending by the later number, then the earlier" [9.4]
unfoldable pub all_places : List Rule → List Rule → List Place
all_places earlier [] = []
all_places earlier (rule ∷ later) =
    places_with earlier rule ++ places_self rule ++ all_places (earlier ++ (rule ∷ [])) later
