-- What `lower_over`, `choose` and `lower` answer. Laws: the term that is handed back is not above the other (`not_above`), and the part is empty
-- exactly if the lent bytes are refused (`choice`). Assumes nothing.
-- Read first: specs/Lower, proofs/Wholes.
use mathlib.Core.Path.{◌≡◌, refl, ap, sym, ◌∙◌}
use mathlib.Core.Bool.{Bool, true, false, not, ◌||◌}
use mathlib.Core.List.{List, [], ◌∷◌}
use mathlib.Core.Option.{Option, none, some}
use Prim.Native.Nat.{ℕ, ◌≤◌}
use native.Mathlib.Omega.{arith}
use lib.Dec.{eqb}
use lib.ListN.{length}
use denote.Ref.{Bor}
use borrow.Author.Tests.{ne_eqb}
use Rattle.std.specs.Prelude.{if◌then◌else◌, Option as Chosen, Some, None}
use Rattle.terms.specs.Base.{is_some}
use Rattle.terms.specs.Term.{Term}
use Rattle.terms.proofs.Shape.{not_some, some_of, either_has, dec_agree, dec_false}
use Rattle.order.specs.Order.{above}
use Rattle.order.specs.Walk.{IsAbove}
use Rattle.order.proofs.Decide.{above_dec}
use Rattle.order.proofs.Fast.{no_cycle}
use Rattle.reading.specs.Answers.{symbols_of, Table}
use Rattle.reading.proofs.Reading.{from_bind, no_ok}
use Rattle.problem.specs.Problem.{Symbol, rank_of, read_term, read_side}
use Rattle.completion.proofs.Ranks.{ranks_are}
use Rattle.lower.specs.Lower.{whole_table, whole_term, lower_of, lower_over, which, bytes_of, lower_call, place_of, lower_refused}
use Rattle.lower.specs.declared.Which.{Which}
use Rattle.lower.specs.declared.Which.TheVariants.{First, Second}
use Rattle.lower.proofs.Wholes.{from_whole, alone}

-- `lower_over`
module _ (Σ : List Symbol) where
  pub no_first : (o p : Option Term) → false ≡ is_some o → None ≡ lower_of Σ o p
  unfolding lower_of
  no_first o p h = rw (not_some o h) refl

  pub no_second : (o p : Option Term) → false ≡ is_some p → None ≡ lower_of Σ o p
  unfolding lower_of
  no_second none p h = refl
  no_second (some x) p h = rw (not_some p h) refl

module _ (tab : List ℕ) (T : Table tab) where
  pub few : (t : List ℕ) → true ≡ is_some (whole_term (symbols_of tab) t) → length t ≤ 65_536
  few t h = let x = some_of _ h in omega (arith, (alone tab T t x.0 x.1).short)

  -- both are whole terms: the order decides
  module _ (f g : List ℕ) (h : true ≡ is_some (whole_term (symbols_of tab) f)) (k : true ≡ is_some (whole_term (symbols_of tab) g)) where
    both : (b : Bool) → IsAbove tab f g b → Some (if b then Second else First) ≡ lower_over (symbols_of tab) f g
    unfolding lower_of
    both b a =
        let x = some_of _ h in
        let y = some_of _ k in
        let z : b ≡ above (rank_of (symbols_of tab)) x.0 y.0 =
        a _ _ (alone tab T f _ x.1).starts (alone tab T g _ y.1).starts
        ∙ ap (λ (r : ℕ → ℕ). above r x.0 y.0) (sym (ranks_are tab T)) in
        rw (x.1, y.1, z) refl

    pub second_lower : IsAbove tab f g true → Some Second ≡ lower_over (symbols_of tab) f g
    second_lower a = both true a

    pub first_lower : IsAbove tab f g false → Some First ≡ lower_over (symbols_of tab) f g
    first_lower a = both false a

-- "the lower": the one that is handed back is not above the other
abbrev pub NotAbove : List Symbol → Term → Term → Chosen Which → Type 0
NotAbove Σ s t (Some First) = above (rank_of Σ) s t ≡ false
NotAbove Σ s t (Some Second) = above (rank_of Σ) t s ≡ false
NotAbove Σ s t None = ⊥

pub not_above : (Σ : List Symbol) (s t : Term) → NotAbove Σ s t (lower_of Σ (some s) (some t))
unfolding lower_of
not_above Σ s t = go (above (rank_of Σ) s t) refl
  where
    go : (b : Bool) → above (rank_of Σ) s t ≡ b → NotAbove Σ s t (lower_of Σ (some s) (some t))
    go true e =
        rw (e, lower_of)
        (dec_agree _ false (above_dec (rank_of Σ) t s) (dec_false (λ k. no_cycle (rank_of Σ) ((above_dec (rank_of Σ) s t).0 e) k)))
    go false e = rw (e, lower_of) e

-- a term has at least a byte
some_bytes : (Σ : List Symbol) (t : List ℕ) (x : Term) → whole_term Σ t ≡ some x → eqb (length t) 0 ≡ false
unfolding read_side read_term
some_bytes Σ [] x h = absurd (let r = from_whole _ x h in from_bind _ _ _ r.read λ p e _. no_ok e)
some_bytes Σ (b ∷ t) x h = ne_eqb (length (b ∷ t)) 0 (λ z. absurd (omega arith))

-- Which one it is, and whether the lent bytes are refused: one of two parts that are not empty, or neither.
pub data Choice (first second : List ℕ) : Chosen Which → Bool → Type 0 where
  is_first : eqb (length first) 0 ≡ false → Choice first second (Some First) false
  is_second : eqb (length second) 0 ≡ false → Choice first second (Some Second) false
  is_refused : Choice first second None true

module _ (first second : List ℕ) where
  abbrev RefusedOver : List Symbol → Bool
  RefusedOver Σ = not (is_some (whole_term Σ first)) || not (is_some (whole_term Σ second))

  choice_over : (Σ : List Symbol) → Choice first second (lower_over Σ first second) (RefusedOver Σ)
  unfolding lower_of is_some
  choice_over Σ = go (whole_term Σ first) refl (whole_term Σ second) refl
    where
      go : (o : Option Term) → whole_term Σ first ≡ o → (p : Option Term) → whole_term Σ second ≡ p →
          Choice first second (lower_over Σ first second) (RefusedOver Σ)
      go none e p q = rw (e, lower_of) is_refused
      go (some x) e none q = rw (e, q, lower_of) is_refused
      go (some x) e (some y) q =
          rw (e, q, lower_of)
          (either_has (λ (w : Which). Choice first second (Some w) false) (above (rank_of Σ) x y) Second First
          (is_second (some_bytes Σ second y q)) (is_first (some_bytes Σ first x e)))

  pub choice : (symbols : List ℕ) → Choice first second (which symbols first second) (lower_refused symbols first second)
  unfolding lower_refused which
  choice symbols = go (whole_table symbols) refl
    where
      go : (o : Option (List Symbol)) → whole_table symbols ≡ o → Choice first second (which symbols first second) (lower_refused symbols first second)
      go none e = rw (e, lower_refused, which) is_refused
      go (some Σ) e = rw (e, lower_refused, which) (choice_over Σ)

  -- "The part is empty exactly if" the lent bytes are refused.
  empty_if : (w : Chosen Which) (r : Bool) → Choice first second w r → eqb (length (bytes_of w first second)) 0 ≡ r
  unfolding bytes_of
  empty_if (Some First) true h = elim h [ ]
  empty_if (Some Second) true h = elim h [ ]
  empty_if None false h = elim h [ ]
  empty_if (Some First) false (is_first h) = h
  empty_if (Some Second) false (is_second h) = h
  empty_if None true is_refused = refl

-- `choose`
module _ (symbols first second : List ℕ) where
  pub no_symbols : whole_table symbols ≡ none → None ≡ which symbols first second
  unfolding which
  no_symbols h = rw (h, which) refl

  pub over_symbols : (Σ : List Symbol) (w : Chosen Which) → whole_table symbols ≡ some Σ → w ≡ lower_over Σ first second → w ≡ which symbols first second
  unfolding which
  over_symbols Σ w h k = rw (h, which) k

-- `lower`: the bytes, the place and the emptiness of the part, where one of the three is chosen
module _ (symbols : List ℕ) (first second : Bor (List ℕ)) where
  abbrev Handed : List ℕ → ℕ × ℕ → Type 0
  Handed bytes place =
      (bytes ≡ lower_call symbols first.now second.now) × ((place ≡ place_of (which symbols first.now second.now) first second)
      × (eqb (length bytes) 0 ≡ lower_refused symbols first.now second.now))

  handed : (w : Chosen Which) → w ≡ which symbols first.now second.now → Handed (bytes_of w first.now second.now) (place_of w first second)
  unfolding lower_call
  handed w h =
      let z : bytes_of w first.now second.now ≡ lower_call symbols first.now second.now =
      ap (λ (v : Chosen Which). bytes_of v first.now second.now) h in
      let empty = empty_if first.now second.now _ _ (choice first.now second.now symbols) in
      (z, (ap (λ (v : Chosen Which). place_of v first second) h, ap (λ (m : List ℕ). eqb (length m) 0) z ∙ empty))

  pub first_handed : Some First ≡ which symbols first.now second.now → Handed first.now first.ref_ptr
  unfolding bytes_of place_of
  first_handed h = handed (Some First) h

  pub second_handed : Some Second ≡ which symbols first.now second.now → Handed second.now second.ref_ptr
  unfolding bytes_of place_of
  second_handed h = handed (Some Second) h

  pub none_handed : None ≡ which symbols first.now second.now → Handed [] first.ref_ptr
  unfolding bytes_of place_of
  none_handed h = handed None h
