-- The loop over the places: what is to come from the place reached, with the units left, comes to what all places come to. Assumes nothing.
-- Read first: specs/Order (to_come, Follows), proofs/Going (Going), proofs/Places.
use mathlib.Core.Path.{◌≡◌, sym, ap, subst, subst₂}
use mathlib.Core.List.{List}
use Prim.Native.Nat.{ℕ, ◌+◌, ◌-◌, ◌<◌, ◌≤◌}
use native.Mathlib.Omega.{arith}
use Rattle.rewriting.specs.Overlap.{Rule}
use Rattle.slots.specs.Slots.{Layout}
use Rattle.slots.proofs.Layouts.{layout_less}
use Rattle.joining.specs.declared.Walk.{Walk}
use Rattle.joining.specs.declared.Joined.TheVariants.{Equal}
use Rattle.std.specs.Prelude.{Ok}
use Rattle.forms.specs.Forms.{ScanPart}
use Rattle.scanning.specs.declared.spots.Spot.{Spot}
use Rattle.scanning.specs.Walk.{Walks, RulesIn, at_place, of_rules}
use Rattle.scanning.specs.Order.{at_positions, behind, to_come, place_rank, Follows}
use Rattle.scanning.proofs.Going.{Going, Unrolls, lent_none, going_on, going_stop, going_end}
use Rattle.scanning.proofs.Placing.{left_size}
use Rattle.scanning.proofs.Places.{from_first, on, come_out}

pub record Reaching (tab rules : List ℕ) (count : ℕ) (one one' : List ℕ) (units : ℕ) (at : Spot) (u : ℕ) : Type 0 where
  pub going : Going (RulesIn tab rules count) (of_rules 0) one one' units (to_come at) u
  pub low : at.position < 256
  pub within : at.outer < count → at.inner < count

-- a number that falls along the places
abbrev pub ahead : Spot → ℕ
ahead at = 20000000 - place_rank at

module _ {tab rules : List ℕ} {count : ℕ} {one : List ℕ} {units : ℕ} {at : Spot} where
  pub reach_first : at ≡ record { inner = 0; outer = 0; position = 1 } → Reaching tab rules count one one units at units
  reach_first e = subst (λ s. Reaching tab rules count one one units s units) (sym e) (record {
    going = record { kept = lent_none one; within = omega arith; reaches = λ rs h next. ap (λ (f : ℕ → _). f units) (from_first rs next) };
    low = omega arith;
    within = λ l. l;
  })

  module _ {one' : List ℕ} {u : ℕ} (g : Reaching tab rules count one one' units at u) where
    pub reach_end : {w : Walk} → count ≤ at.outer → w ≡ record { found = Ok Equal; units = u } →
        Walks (RulesIn tab rules count) (of_rules 0) tab one one' units w
    reach_end l e = going_end g.going (record { is = λ rs h next. let c = h.counted in come_out rs at next (omega arith) }) e

    module _ (lay : Layout rules count × (count ≤ 33)) (lo : at.outer < count) where
      possible_asks : Layout rules (at.inner + 1) × Layout rules (at.outer + 1)
      possible_asks = let i = g.within lo in (layout_less (omega arith) lay.0, layout_less (omega arith) lay.0)

      pub next_asks : (at.inner < 33) × (at.outer < 33) × (at.position < 256) × Layout rules (at.outer + 1)
      next_asks = let i = g.within lo in let f = lay.1 in (omega arith, omega arith, g.low, possible_asks.1)

      bounded : place_rank at < 20000000
      unfolding place_rank
      bounded = let a = next_asks in omega arith

      pub falls : (r : Spot) → Follows rules at r → ahead r < ahead at
      falls r f = let a = bounded in let b = f.rises in omega arith

      module _ {one'' : List ℕ} {w : Walk} (k : Walks (RulesIn tab rules count) (at_place at) tab one' one'' u w) where
        pub reach_stop : (w.found ≡ Ok Equal → ⊥) → Walks (RulesIn tab rules count) (of_rules 0) tab one one'' units w
        reach_stop n =
            let rest : List Rule → ScanPart = λ rs next. at_positions at.inner at.outer (at.position + 1) rs (behind at.inner at.outer rs next) in
            let e : Unrolls (RulesIn tab rules count) (to_come at) (at_place at) rest
            = record { is = λ rs h next. on rs at.inner at.outer at.position next (let c = h.counted in omega arith) } in
            going_stop g.going e k n

        pub reach_next : {x : List ℕ} {v : ℕ} {r : Spot} → x ≡ one'' → v ≡ w.units → w.found ≡ Ok Equal → Follows rules at r →
            Reaching tab rules count one x units r v
        reach_next {r = r} p q z f = subst₂ (λ x v. Reaching tab rules count one x units r v) (sym p) (sym q) (record {
          going = going_on g.going (record {
            is = λ rs h next.
                let c = h.counted in
                let i = g.within lo in
                f.leads rs (λ j l. left_size h lay.0 j (omega arith)) (omega arith) (omega arith) next;
          }) k z;
          low = f.low;
          within = f.within count (g.within lo) lo;
        })
