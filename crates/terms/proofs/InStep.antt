-- The walk of `same_term` over two lists of bytes in step, whose position is i and whose count is n: a lemma for each step and each return of the loop.
-- Assumes nothing.
-- Read first: specs/Owed, specs/Flat (IsSame), proofs/Owing (`inside`).
use mathlib.Core.Path.{◌≡◌, refl, ap, ap₂, sym, ◌∙◌}
use mathlib.Core.Bool.{Bool, true, false}
use mathlib.Core.List.{List, [], ◌∷◌, ◌++◌}
use Prim.Native.Nat.{ℕ, ◌+◌, ◌*◌, ◌-◌, ◌<◌, ◌≤◌, min}
use native.Mathlib.Omega.{arith}
use borrow.Author.Tests.{leb-true, leb-false}
use lib.Dec.{leb}
use lib.ListN.{length, get_or, take, drop, take-append-drop, get_or-append}
use lib.Seq.{take_at}
use Rattle.terms.specs.Term.{Term, term_bytes, size, same}
use Rattle.terms.specs.Scan.{owes}
use Rattle.terms.specs.Flat.{Starts, IsSame}
use Rattle.terms.specs.Owed.{Counted}
use Rattle.terms.proofs.Bytes.{length_bytes}
use Rattle.terms.proofs.Flats.{unique}
use Rattle.terms.proofs.Owing.{inside, starts_fit, one_more, counted_turn}
use Rattle.terms.proofs.Shape.{dec_agree, dec_true, dec_false, same_dec}

pub same_more : (s t : List ℕ) (i : ℕ) → i < length s → i < length t → get_or s i 0 ≡ get_or t i 0 → take i s ≡ take i t → take (i + 1) s ≡ take (i + 1) t
same_more s t i h k e q =
    one_more s i h ∙ ap₂ (λ r b. r ++ (b ∷ [])) q e ∙ sym (one_more t i k)

-- What holds of the walk where it has read i bytes of both and its count is n.
pub record Walked (tab s t : List ℕ) (i n : ℕ) : Type 0 where
  pub counted : Counted tab s i n
  pub alike : take i s ≡ take i t
  pub small : i ≤ length s
  pub few : n ≤ 1 + 256 * i

-- The same, and something is owed: what holds where the loop goes on.
pub record Walking (tab s t : List ℕ) (i n : ℕ) : Type 0 where
  pub walked : Walked tab s t i n
  pub some : 0 < n

module _ (tab s t : List ℕ) (i n : ℕ) (c : Counted tab s i n) where
  -- Nothing is owed: the whole of the one term stands on both sides.
  pub same_ended : n ≤ 0 → take i s ≡ take i t → IsSame tab s t true
  same_ended h q x y b d =
      let z : n ≡ 0 = omega arith in
      let r : take i s ≡ term_bytes x = ap (take i) b.bytes ∙ take_at (term_bytes x) b.rest i (length_bytes x ∙ sym ((c.first_zero x b).1.0 z)) in
      let e : term_bytes x ++ drop i t ≡ term_bytes y ++ d.rest = ap (λ l. l ++ drop i t) (sym r ∙ q) ∙ take-append-drop i t ∙ d.bytes in
      dec_agree true (same x y) (dec_true (unique 32 tab x y (drop i t) d.rest b.wf d.wf e).0) (same_dec x y)

  -- Something is owed, so byte i is one of the term in s: it is there, and if the terms are equal it stands on both sides.
  module _ (p : 0 < n) where
    here : (x : Term) → Starts tab s x → i < size x
    here = inside tab s i n c (λ z. omega arith)

    short_left : length s ≤ i → IsSame tab s t false
    short_left h x y b d = absurd (omega (arith, here x b, starts_fit tab s x b))

    short_right : length t ≤ i → IsSame tab s t false
    short_right h x y b d =
        dec_agree false (same x y) (dec_false (λ e. omega (arith, here x b, starts_fit tab t y d, ap size e))) (same_dec x y)

    -- One of them is read whole.
    pub short : i ≡ min (length s) (length t) → IsSame tab s t false
    short e = go (leb (length s) i) refl
      where
        go : (b : Bool) → leb (length s) i ≡ b → IsSame tab s t false
        go true h = short_left (leb-true _ _ h)
        go false h = let k : i < length s = leb-false _ _ h in short_right (omega arith)

    byte_at : (l : List ℕ) (x : Term) → Starts tab l x → i < size x → get_or l i 0 ≡ get_or (term_bytes x) i 0
    byte_at l x b h = ap (λ m. get_or m i 0) b.bytes ∙ get_or-append (term_bytes x) b.rest 0 i (omega (arith, length_bytes x))

    differs : (get_or s i 0 ≡ get_or t i 0 → ⊥) → IsSame tab s t false
    differs h x y b d =
        dec_agree false (same x y)
        (dec_false (λ e.
        let k : i < size y = omega (arith, here x b, ap size e) in
        h (byte_at s x b (here x b) ∙ ap (λ z. get_or (term_bytes z) i 0) e ∙ sym (byte_at t y d k))))
        (same_dec x y)

-- The bytes at i, as a turn of the loop has them.
abbrev pub Turn : List ℕ → List ℕ → ℕ → ℕ → ℕ → Type 0
Turn s t i b b' = (i < length s) × (i < length t) × ((d : ℕ) → b ≡ get_or s i d) × ((d : ℕ) → b' ≡ get_or t i d)

pub differ : (tab s t : List ℕ) (i n b b' : ℕ) → Walking tab s t i n → Turn s t i b b' → (b ≡ b' → ⊥) → IsSame tab s t false
differ tab s t i n b b' w o d = differs tab s t i n w.walked.counted w.some (λ e. d (o.2 0 ∙ e ∙ sym (o.3 0)))

-- A byte that they share is read.
pub walked_more : (tab s t : List ℕ) (i n b b' m : ℕ) → Walking tab s t i n → Turn s t i b b' → b ≡ b' → (m ≡ owes tab b) × (m < 256) →
    Walked tab s t (i + 1) (n - 1 + m)
walked_more tab s t i n b b' m w o e owed =
    let some = w.some in
    record {
      counted = counted_turn tab s i n m o.0 (λ z. omega arith) (owed.0 ∙ ap (owes tab) (o.2 0)) w.walked.counted;
      alike = same_more s t i o.0 o.1 (sym (o.2 0) ∙ e ∙ o.3 0) w.walked.alike;
      small = omega arith;
      few = omega (arith, w.walked.few);
    }
