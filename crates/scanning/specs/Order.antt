-- The order of the places: what is to come from a place on, and what `next` answers. Assumes nothing.
use Rattle.std.specs.Prelude.{◌≡◌, List, ℕ, ◌+◌, ◌-◌, ◌*◌, ◌<◌, ltb, length, drop, take}
use Rattle.std.specs.Prelude.{if◌then◌else◌}
use Rattle.terms.specs.Base.{count_from}
use Rattle.terms.specs.Term.{size}
use Rattle.rewriting.specs.Overlap.{Rule, places, places_with}
use Rattle.rewriting.specs.Rewrite.{Paying}
use Rattle.slots.specs.Slots.{slot, left_length}
use Rattle.completion.specs.Turn.{Candidate}
use Rattle.forms.specs.Forms.{ScanPart}
use Rattle.scanning.specs.declared.spots.Spot.{Spot}
use Rattle.scanning.specs.Walk.{visits, rule_at, at_place, of_rules}

-- the positions from one on
unfoldable pub at_positions : ℕ → ℕ → ℕ → List Rule → ScanPart
at_positions inner outer from rs = visits rs (places (rule_at rs inner) (rule_at rs outer) (count_from from (size (rule_at rs outer).sides.left - from)))

-- rule b with the earlier rules from a on, then with itself; then the later rules
unfoldable pub with_earlier : ℕ → ℕ → List Rule → ScanPart
with_earlier a b rs next = visits rs (places_with (drop a (take b rs)) (rule_at rs b)) (at_positions b b 1 rs (of_rules (b + 1) rs next))

-- what follows the positions of rule i in rule o, and what is to come from a place on
unfoldable pub behind : ℕ → ℕ → List Rule → ScanPart
behind i o rs next =
    if ltb i o then at_positions o i 0 rs (with_earlier (i + 1) o rs next) else
    if ltb o i then with_earlier (o + 1) i rs next else of_rules (o + 1) rs next

unfoldable pub to_come : Spot → List Rule → ScanPart
to_come at rs next =
    if ltb at.outer (length rs) then at_positions at.inner at.outer at.position rs (behind at.inner at.outer rs next) else next

-- a number that rises along the places: by the later rule, then the earlier, then which of them is inner, then the position
unfoldable pub place_rank : Spot → ℕ
place_rank at = at.position + 256 * ((at.inner - at.outer) + 40 * (at.inner - (at.inner - at.outer)) + 2000 * (at.inner + (at.outer - at.inner)))

-- `next`
pub record Follows (rules : List ℕ) (at r : Spot) : Type 0 where
  pub low : r.position < 256
  pub within : (count : ℕ) → at.inner < count → at.outer < count → r.outer < count → r.inner < count
  pub rises : place_rank at < place_rank r
  pub leads : (rs : List Rule) → ((k : ℕ) → k < length rs → left_length (slot rules k) ≡ size (rule_at rs k).sides.left) → at.inner < length rs →
      at.outer < length rs →
      (next : Paying Candidate) → to_come at rs next ≡ at_place at rs (to_come r rs next)
