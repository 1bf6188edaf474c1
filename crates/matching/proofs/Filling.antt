-- How `contract` fills its buffer: what is put for one byte of a right side, for the whole, and for what follows the redex. Assumes nothing.
-- Read first: specs/Pieces (piece, pieces, Put).
use mathlib.Core.Path.{◌≡◌, refl, sym, ◌∙◌, ap, ap₂, subst}
use mathlib.Core.Bool.{Bool, true, false}
use mathlib.Core.List.{List, [], ◌∷◌, ◌++◌, append_assoc, append-nil}
use Prim.Native.Nat.{ℕ, zero, suc, ◌+◌, ◌-◌, ◌/◌, ◌%◌, ◌<◌, ◌≤◌}
use native.Mathlib.Omega.{arith}
use native.Mathlib.Numerals.{add-one}
use lib.Dec.{ltb}
use borrow.Author.Tests.{lt-ltb, le-ltb, ltb-true}
use lib.ListN.{length, get_or, drop, take, length-append, drop_of_length-le}
use lib.Seq.{drop-cons, length-take-le}
use Rattle.std.specs.Prelude.{if◌then◌else◌, Option as Optional, Some, None}
use Rattle.std.specs.Option.{SomeIff}
use Rattle.terms.proofs.Starts.{from_drop}
use Rattle.matching.specs.Held.{Spot, Within}
use Rattle.matching.specs.Pieces.{before, slot_of, first_cell, piece_at, piece, pieces, Put}

-- `slot`
pub slot_symbol : (B : List ℕ) (b : ℕ) → b < 128 → slot_of B b ≡ None
unfolding slot_of
slot_symbol B b h = rw (lt-ltb b 128 h)

pub slot_high : (B : List ℕ) (b x : ℕ) → 128 ≤ b → x ≡ b - 128 → 16 ≤ x → slot_of B b ≡ None
unfolding slot_of
slot_high B b x h e k = rw (le-ltb b 128 h, ← e, le-ltb x 16 k)

pub slot_variable : (B : List ℕ) (b x : ℕ) → 128 ≤ b → x ≡ b - 128 → x < 16 → slot_of B b ≡ before (get_or B x 0)
unfolding slot_of
slot_variable B b x h e k = rw (le-ltb b 128 h, ← e, lt-ltb x 16 k)

pub one_before : (n : ℕ) (o : Optional ℕ) → SomeIff o (1 ≤ n) (n - 1) → o ≡ before n
one_before zero None s = refl
one_before zero (Some k) s = absurd (let h = s.0 in omega arith)
one_before (suc n) None s = absurd (s (omega arith))
one_before (suc n) (Some k) s = let e : k ≡ n = let q = s.1 in omega arith in ap Some e

-- a place of T whose cell has a size, by which it ends in T
pub record Placed (T : List ℕ) (k : ℕ) : Type 0 where
  pub place : k < length T
  pub sized : 0 < get_or T k 0 / 256
  pub inside : k + get_or T k 0 / 256 ≤ length T

spot_placed : (T : List ℕ) (n k : ℕ) → Spot T n → before n ≡ Some k → Placed T k
spot_placed T zero k s e = absurd (cc)
spot_placed T (suc m) k s e =
    let q : suc m - 1 ≡ k = let r : m ≡ k = cc in omega arith in
    let p = s.place in
    let z : (suc m ≡ 0 → ⊥) = λ z. omega arith in
    let h : 0 < get_or T k 0 / 256 = subst (λ j. 0 < get_or T j 0 / 256) q (s.sized z) in
    let i : k + get_or T k 0 / 256 ≤ length T = subst (λ j. j + get_or T j 0 / 256 ≤ length T) q (s.inside z) in
    record { place = omega arith; sized = h; inside = i }

-- a byte's place is one of those that B holds
pub slot_placed : (T B : List ℕ) (b k : ℕ) → Within T B → Some k ≡ slot_of B b → Placed T k
unfolding slot_of
slot_placed T B b k w e = go (ltb b 128) (ltb (b - 128) 16) refl e
  where
    go : (p q : Bool) → ltb (b - 128) 16 ≡ q → Some k ≡ (if p then None else if q then before (get_or B (b - 128) 0) else None) → Placed T k
    go true q g d = absurd (cc)
    go false false g d = absurd (cc)
    go false true g d = spot_placed T (get_or B (b - 128) 0) k (w (b - 128) (ltb-true (b - 128) 16 g)) (sym d)

-- `first`
pub first_zero : (a c : ℕ) → a ≡ 0 → first_cell a c ≡ c % 256
unfolding first_cell
first_zero zero c e = refl
first_zero (suc a) c e = absurd (omega arith)

pub first_later : (a c : ℕ) → (a ≡ 0 → ⊥) → first_cell a c ≡ c
unfolding first_cell
first_later zero c n = absurd (n refl)
first_later (suc a) c n = refl

-- `put_piece`
pub piece_byte : (T B : List ℕ) (b : ℕ) → None ≡ slot_of B b → b ∷ [] ≡ piece T B b
unfolding piece piece_at
piece_byte T B b e = rw (← e)

pub piece_run : (T B : List ℕ) (b k x n : ℕ) → Some k ≡ slot_of B b → x ≡ first_cell k (get_or T k 0) → n ≡ get_or T k 0 / 256 →
    x ∷ take (k + n - (k + 1)) (drop (k + 1) T) ≡ piece T B b
unfolding piece piece_at
piece_run T B b k x n s q r =
    let g : k + n - (k + 1) ≡ get_or T k 0 / 256 - 1 = omega arith in
    rw (← s) (ap₂ (λ c l. c ∷ l) q (ap₂ (λ m j. take m (drop j T)) g (add-one k)))

-- one cell, and then a run
pub put_over_cell : {out out' : List ℕ} {w most c : ℕ} (p : List ℕ) → Put out out' w most None (c ∷ []) → Put out out' w most None (c ∷ p)
put_over_cell p h = record { same = h.same; is = let o = h.is in omega arith }

pub put_two : {out out' out'' : List ℕ} {w most v c : ℕ} {r : Optional ℕ} {p : List ℕ} → Put out out' w most (Some v) (c ∷ []) →
    Put out' out'' v most r p → Put out out'' w most r (c ∷ p)
put_two {w = w} {v = v} {r = None} h k =
    let n : v ≡ w + 1 = h.is.next in
    record { same = k.same ∙ h.same; is = let o = k.is in omega arith }
put_two {out = out} {w = w} {v = v} {c = c} {r = Some q} {p = p} h k =
    let n : v ≡ w + 1 = h.is.next in
    record {
      same = k.same ∙ h.same;
      is = record {
        room = k.is.room;
        next = let o = k.is.next in omega arith;
        cells = k.is.cells ∙ ap (λ z. z ++ p) h.is.cells ∙ append_assoc (take w out) (c ∷ []) p;
      };
    }

pub put_as : {out out' : List ℕ} {w most : ℕ} {r : Optional ℕ} {p q : List ℕ} → p ≡ q → Put out out' w most r p → Put out out' w most r q
put_as {out = out} {out' = out'} {w = w} {most = most} {r = r} e h = subst (λ l. Put out out' w most r l) e h

-- the loop of `contract`
pub record PutSoFar (T B right out₀ out : List ℕ) (most i w : ℕ) : Type 0 where
  pub in_right : i ≤ length right
  pub room : w ≤ most
  pub same : length out ≡ length out₀
  pub so_far : take w out ++ pieces T B (drop i right) ≡ pieces T B right

pub fill_start : {T B right out : List ℕ} {most : ℕ} → PutSoFar T B right out out most 0 0
fill_start = record { in_right = omega arith; room = omega arith; same = refl; so_far = refl }

pieces_cons : (T B right : List ℕ) (i : ℕ) → i < length right → pieces T B (drop i right) ≡ piece T B (get_or right i 0) ++ pieces T B (drop (suc i) right)
unfolding pieces
pieces_cons T B right i h = rw (drop-cons right i 0 h)

module _ {T B right out₀ out : List ℕ} {most i w : ℕ} (f : PutSoFar T B right out₀ out most i w) (room : most ≤ length out₀) where
  module _ (h : i < length right) {out' : List ℕ} where
    pub fill_on : {r : ℕ} → Put out out' w most (Some r) (piece T B (get_or right i 0)) → PutSoFar T B right out₀ out' most (i + 1) r
    fill_on p = record {
      in_right = omega arith;
      room = p.is.room;
      same = p.same ∙ f.same;
      so_far =
          rw (p.is.cells, add-one i)
          (append_assoc (take w out) (piece T B (get_or right i 0)) (pieces T B (drop (suc i) right)) ∙ rw (← pieces_cons T B right i h) f.so_far);
    }

    pub fill_over : Put out out' w most None (piece T B (get_or right i 0)) → (d : List ℕ) → Put out₀ out' 0 most None (pieces T B right ++ d)
    fill_over p d =
        let a : List ℕ = piece T B (get_or right i 0) in
        let b : List ℕ = pieces T B (drop (suc i) right) in
        let e : pieces T B right ≡ take w out ++ (a ++ b) = sym f.so_far ∙ ap (λ z. take w out ++ z) (pieces_cons T B right i h) in
        let n : length (pieces T B right) ≡ w + (length a + length b) =
        ap length e ∙ length-append (take w out) (a ++ b)
        ∙ ap₂ ◌+◌ (length-take-le w out (let q = f.room in let s = f.same in omega arith)) (length-append a b) in
        record { same = p.same ∙ f.same; is = omega (arith, p.is, length-append (pieces T B right) d, n) }

  pub fill_done : length right ≤ i → (end : ℕ) {out' : List ℕ} {r : Optional ℕ} → Put out out' w most r (take (length T - end) (drop end T)) →
      Put out₀ out' 0 most r (pieces T B right ++ drop end T)
  unfolding pieces
  fill_done h end {out' = out'} {r = r} p = go r p
    where
      d : take (length T - end) (drop end T) ≡ drop end T
      d = from_drop T end

      e : take w out ≡ pieces T B right
      e = sym (append-nil (take w out)) ∙ ap (λ z. take w out ++ pieces T B z) (sym (drop_of_length-le right h)) ∙ f.so_far

      n : length (pieces T B right ++ drop end T) ≡ w + length (take (length T - end) (drop end T))
      n =
          let lw : length (take w out) ≡ w = length-take-le w out (let q = f.room in let s = f.same in omega arith) in
          length-append (pieces T B right) (drop end T) ∙ ap₂ ◌+◌ (sym (ap length e) ∙ lw) (sym (ap length d))

      go : (r : Optional ℕ) → Put out out' w most r (take (length T - end) (drop end T)) → Put out₀ out' 0 most r (pieces T B right ++ drop end T)
      go None p = record { same = p.same ∙ f.same; is = omega (arith, p.is, n) }
      go (Some r) p = record {
        same = p.same ∙ f.same;
        is = record { room = p.is.room; next = omega (arith, p.is.next, n); cells = p.is.cells ∙ ap₂ ◌++◌ e d };
      }
