-- The loops that find a name, add one, collect them all and number by them, step by step. Assumes nothing.
-- Read first: specs/Names, src/lib.rt, proofs/Collecting.
use mathlib.Core.Path.{◌≡◌, refl, sym, ap, ap₂, ◌∙◌}
use mathlib.Core.List.{List, [], ◌∷◌, ◌++◌, map}
use Prim.Native.Nat.{ℕ, ◌+◌, ◌-◌, ◌≤◌, ◌<◌}
use native.Mathlib.Omega.{arith}
use native.Mathlib.Nat.{sub-zero}
use native.Mathlib.Numerals.{add-one}
use lib.Seq.{drop-cons, length-take-le, take-suc-set}
use lib.ListN.{length, get_or, take, drop, set, length-set, drop_of_length-le}
use Rattle.std.proofs.Common.{Bool, true, false, not, ◌==◌, eqb, ltb, cond, Option, Some, None}
use Rattle.std.specs.List.{position, position_or_len}
use Rattle.std.specs.Option.{unwrap_or, is_some}
use Rattle.std.proofs.lemmas.Bool.{eqb-true, eqb-false, ltb-true, ltb-false}
use Rattle.std.proofs.lemmas.List.Recursion.{is_position_or_len}
use Rattle.std.proofs.lemmas.List.Sums.{prefix_len-le-length}
use Rattle.terms.specs.Base.{place_in}
use Rattle.naming.specs.Names.{added, collect, named, renamed_bytes}
use Rattle.naming.proofs.Collecting.{place_first, place_later, place_none, added_symbol, added_old, added_new}
use Rattle.naming.proofs.Renaming.{named_symbol, named_variable}

-- the place of a name is the first at which it stands
place_is : (b : ℕ) (ns : List ℕ) → place_in b ns ≡ position_or_len (λ name. b == name) ns
place_is b = is_position_or_len (place_in b) (λ name. b == name) (place_none b) λ x xs. go x xs (eqb b x) refl
  where
    go : (x : ℕ) (xs : List ℕ) (t : Bool) → eqb b x ≡ t → place_in b (x ∷ xs) ≡ cond t 0 (1 + place_in b xs)
    go x xs true e = place_first b x xs (eqb-true b x e)
    go x xs false e = place_later b x xs (eqb-false b x e) ∙ omega arith

place_within : (b : ℕ) (ns : List ℕ) → place_in b ns ≤ length ns
place_within b ns = omega (arith, place_is b ns, prefix_len-le-length (λ name. not (b == name)) ns)

-- what `place_of` answers, read as a place: the list's length where there is none
is_place : (b : ℕ) (ns : List ℕ) (r : Option ℕ) → r ≡ position (λ name. b == name) ns →
    (unwrap_or r (length ns) ≡ place_in b ns) × (is_some r ≡ ltb (place_in b ns) (length ns))
is_place b ns r e = go (ltb (place_in b ns) (length ns)) refl (e ∙ ap (λ z. cond (ltb z (length ns)) (Some z) None) (sym (place_is b ns)))
  where
    go : (t : Bool) → ltb (place_in b ns) (length ns) ≡ t → r ≡ cond t (Some (place_in b ns)) None →
        (unwrap_or r (length ns) ≡ place_in b ns) × (is_some r ≡ t)
    go true h q = rw q (refl, refl)
    go false h q = rw q (omega (arith, ltb-false _ _ h, place_within b ns), refl)

pub record Added (d : List ℕ) (n b : ℕ) (e : List ℕ) (r : ℕ) : Type 0 where
  pub long : length e ≡ length d
  pub names : take r e ≡ added b (take n d)
  pub few : r ≤ n + 1

pub add_symbol : (d : List ℕ) (n b : ℕ) → b < 128 → Added d n b d n
add_symbol d n b h = record { long = refl; names = sym (added_symbol b (take n d) h); few = omega arith }

module _ (d : List ℕ) (n b : ℕ) (r : Option ℕ) (h : n < length d) (v : 128 ≤ b) (e : r ≡ position (λ name. b == name) (take n d)) (t : Bool)
    (k : t ≡ is_some r) where
  known : t ≡ ltb (place_in b (take n d)) (length (take n d))
  known = k ∙ (is_place b (take n d) r e).1

  pub add_old : t ≡ true → Added d n b d n
  add_old q = record { long = refl; names = sym (added_old b (take n d) v (ltb-true _ _ (sym known ∙ q))); few = omega arith }

  pub add_new : t ≡ false → Added d n b (set d n b) (n + 1)
  add_new q =
      record {
        long = length-set d n b;
        names = ap (λ z. take z (set d n b)) (add-one n) ∙ take-suc-set d n b h ∙ sym (added_new b (take n d) v (ltb-false _ _ (sym known ∙ q)));
        few = omega arith;
      }

pub record Collected (l d e : List ℕ) (i n : ℕ) : Type 0 where
  pub within : i ≤ length l
  pub few : n ≤ i
  pub long : length e ≡ length d
  pub names : collect (take n e) (drop i l) ≡ collect [] l

pub collected_start : (l d : List ℕ) → Collected l d d 0 0
collected_start l d = record { within = omega arith; few = omega arith; long = refl; names = refl }

pub collected_more : (l d e f : List ℕ) (i n r : ℕ) → Collected l d e i n → i < length l → Added e n (get_or l i 0) f r → Collected l d f (i + 1) r
unfolding collect
collected_more l d e f i n r c h a =
    record {
      within = omega arith;
      few = omega (arith, c.few, a.few);
      long = a.long ∙ c.long;
      names = ap₂ collect a.names (ap (λ z. drop z l) (add-one i)) ∙ ap (λ z. collect (take n e) z) (sym (drop-cons l i 0 h)) ∙ c.names;
    }

pub collected_end : (l d e : List ℕ) (i n : ℕ) → length l ≤ length d → Collected l d e i n → length l ≤ i →
    (length e ≡ length d) × (take n e ≡ collect [] l) × (n ≤ length e)
unfolding collect
collected_end l d e i n k c h =
    (c.long, ap (λ z. collect (take n e) z) (sym (drop_of_length-le l h)) ∙ c.names, omega (arith, c.few, c.within, c.long))

pub number_symbol : (ns : List ℕ) (b : ℕ) → b < 128 → b ≡ named ns b
number_symbol ns b h = sym (named_symbol ns b h)

pub number_variable : (ns : List ℕ) (b : ℕ) (r : Option ℕ) (k : ℕ) → 128 ≤ b → r ≡ position (λ name. b == name) ns → k ≡ unwrap_or r (length ns) →
    128 + k ≡ named ns b
number_variable ns b r k h e q = ap (λ z. 128 + z) (q ∙ (is_place b ns r e).0) ∙ sym (named_variable ns b h)

pub count_few : (l e : List ℕ) (n : ℕ) → take n e ≡ collect [] l → length (collect [] l) ≤ 127 → length (take n e) ≤ 127
count_few l e n p k = omega (arith, ap length p)

pub renamed_is : (l e f : List ℕ) (n : ℕ) → take n e ≡ collect [] l → f ≡ map (named (take n e)) l → f ≡ renamed_bytes l
unfolding renamed_bytes
renamed_is l e f n p q = q ∙ ap (λ z. map (named z) l) p

-- `rename_front`: the front that is lent, and how it comes back
module _ (e : ℕ) (out : List ℕ) where
  pub front_is : take (e - 0) (drop 0 out) ≡ take e out
  front_is = ap (λ z. take z out) (sub-zero e)

  pub front_ready : e ≤ length out → e ≤ 240 → length (collect [] (take e out)) ≤ 127 →
      (length (take (e - 0) (drop 0 out)) ≤ 240) × (length (collect [] (take (e - 0) (drop 0 out))) ≤ 127)
  front_ready h k few = rw front_is (omega (arith, length-take-le e out h), few)

  pub front_back : (ys : List ℕ) → ys ≡ renamed_bytes (take (e - 0) (drop 0 out)) →
      take 0 out ++ (ys ++ drop (e - 0) (drop 0 out)) ≡ renamed_bytes (take e out) ++ drop e out
  front_back ys q = ap (λ z. z ++ drop (e - 0) out) q ∙ ap (λ z. renamed_bytes (take z out) ++ drop z out) (sub-zero e)
