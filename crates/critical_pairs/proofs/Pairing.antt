-- The instances of two nodes, written one after the other and renamed, are the renamed pair; their names are few. Assumes nothing.
-- Read first: specs/Placed (PutPair, BothSmall), mgu/specs/Written (WritesTerm), naming/proofs/Pairs (left_cut, right_cut), naming/proofs/Few.
use mathlib.Core.Path.{◌≡◌, sym, ap, ap₂, subst₂, ◌∙◌}
use mathlib.Core.Logic.{⊎_elim}
use mathlib.Core.List.Memᴰ
use mathlib.Core.List.{List, [], ◌++◌, append-nil}
use Prim.Native.Nat.{ℕ, ◌+◌, ◌-◌, ◌≤◌, ◌<◌}
use native.Mathlib.Omega.{arith}
use lib.ListN.{length, take, drop, length-append, length-take}
use Rattle.terms.specs.Term.{Term, Terms, nil, cons, Pair, size, variables, variables_of, term_bytes, terms_bytes, renamed}
use Rattle.terms.proofs.Bytes.{length_bytes}
use Rattle.terms.proofs.Subst.{In}
use Rattle.classes.specs.Arena.{Spells, free, made, SpellsAll, none, more}
use Rattle.classes.specs.Steps.{at, arena, Ready}
use Rattle.naming.specs.Names.{collect, renamed_bytes}
use Rattle.naming.proofs.Renaming.{Lows, length_renamed}
use Rattle.naming.proofs.Pairs.{left_cut, right_cut}
use Rattle.naming.proofs.Few.{terms_few}
use Rattle.mgu.specs.Written.{put, RoomFor, WritesTerm}
use Rattle.classes.specs.Unique.{spells_one}
use Rattle.mgu.proofs.Instance.{spells_lows}
use Rattle.mgu.proofs.Writing.{put_append, put_reads}
use Rattle.slots.specs.Slots.{PutSides}
use Rattle.slots.proofs.Layouts.{kept_put}
use Rattle.critical_pairs.specs.Placed.{VariablesLow, InSlot, BothSmall, PutPair}

-- the variables of what is spelt are those of the arena
module _ {l tab ends cs : List ℕ} (rd : Ready l tab ends cs) (low : VariablesLow l) where
  mutual
    unfolding variables variables_of

    low_variables : {i : ℕ} {t : Term} → Spells (arena l tab ends) (at cs) i t → (x : ℕ) → In x (variables t) → x < 32
    low_variables {i} (free {x = y} h e) x j =
        ⊎_elim (λ q. omega (arith, q, low (at cs i) (rd.within i h))) (λ k. absurd (Memᴰ.not-nil k)) (Memᴰ.cases_cons j)
    low_variables (made h e k r) x j = lows_variables r x j

    lows_variables : {p k : ℕ} {ts : Terms} → SpellsAll (arena l tab ends) (at cs) p k ts → (x : ℕ) → In x (variables_of ts) → x < 32
    lows_variables none x j = absurd (Memᴰ.not-nil j)
    lows_variables (more {t = t} r s) x j = ⊎_elim (λ k. low_variables r x k) (λ k. lows_variables s x k) (Memᴰ.append_cases (variables t) j)

-- what was written up to e and from there to f are the sides of the pair, renamed
pub record Halves (e f : ℕ) (d : List ℕ) (y z : Term) : Type 0 where
  pub order : e ≤ f
  pub inside : f ≤ length d
  pub left : take (e - 0) d ≡ term_bytes (renamed (record { left = y; right = z })).left
  pub right : take (f - e) (drop e d) ≡ term_bytes (renamed (record { left = y; right = z })).right
  pub short : (length (take (e - 0) d) ≤ 120) × (length (take (f - e) (drop e d)) ≤ 120)

module _ {l tab ends cs : List ℕ} (rd : Ready l tab ends cs) (low : VariablesLow l) {a b : ℕ} (s : BothSmall (arena l tab ends) (at cs) a b) where
  abbrev y : Term
  y = s.0

  abbrev z : Term
  z = s.1

  abbrev pair : Pair
  pair = record { left = y; right = z }

  two : SpellsAll (arena l tab ends) (at cs) b 1 (cons z nil)
  two = more s.3 none

  pub pair_room : (m : ℕ) → 240 ≤ m → (u : Term) × Spells (arena l tab ends) (at cs) a u × (size u ≤ 120) × (0 + size u ≤ m)
  pair_room m n = (y, s.2, s.4, omega (arith, s.4))

  module _ {d : List ℕ} (n : 240 ≤ length d) {e : ℕ} {d₁ : List ℕ} (w₁ : WritesTerm (arena l tab ends) (at cs) a 0 d e d₁) where
    first_end : e ≡ size y
    first_end = omega (arith, w₁.ends y s.2)

    pub pair_room_2 : RoomFor (arena l tab ends) (at cs) b e d₁
    pair_room_2 = (z, s.3, s.5, omega (arith, first_end, w₁.long, s.4, s.5))

    module _ {f : ℕ} {d₂ : List ℕ} (w₂ : WritesTerm (arena l tab ends) (at cs) b e d₁ f d₂) where
      second_end : f ≡ size y + size z
      second_end = omega (arith, w₂.ends z s.3, first_end)

      both : length (term_bytes y ++ term_bytes z) ≡ f
      both = length-append (term_bytes y) (term_bytes z) ∙ omega (arith, length_bytes y, length_bytes z, second_end)

      written : take f d₂ ≡ term_bytes y ++ term_bytes z
      written =
          let k : e ≡ 0 + length (term_bytes y) = omega (arith, first_end, length_bytes y) in
          let whole : d₂ ≡ put 0 (term_bytes y ++ term_bytes z) d =
          w₂.bytes z s.3 ∙ ap₂ (λ k m. put k (term_bytes z) m) k (w₁.bytes y s.2) ∙ sym (put_append 0 (term_bytes y) (term_bytes z) d) in
          ap₂ (λ j h. take j h) (sym both) whole ∙ put_reads (term_bytes y ++ term_bytes z) d (omega (arith, both, second_end, s.4, s.5))

      lows_both : Lows (cons y (cons z nil))
      unfolding Lows
      lows_both = ((spells_lows (more {k = 0} s.2 none)).0, spells_lows two)

      pub pair_names : (f ≤ length d₂) × (f ≤ 240) × (length (collect [] (take f d₂)) ≤ 127)
      unfolding variables_of terms_bytes
      pair_names = (
        omega (arith, second_end, w₁.long, w₂.long, s.4, s.5),
        omega (arith, second_end, s.4, s.5),
        omega (
          arith,
          ap (λ k. length (collect [] k)) (written ∙ sym (ap (λ k. term_bytes y ++ k) (append-nil (term_bytes z)))),
          terms_few 32 (cons y (cons z nil)) lows_both
              (λ x i. ⊎_elim (λ j. low_variables rd low s.2 x j) (λ j. lows_variables rd low two x j) (Memᴰ.append_cases (variables y) i)),
        ),
      )

      -- the buffer with its front renamed
      module _ {d₃ : List ℕ} (h : d₃ ≡ renamed_bytes (take f d₂) ++ drop f d₂) where
        renamed_front : d₃ ≡ renamed_bytes (term_bytes y ++ term_bytes z) ++ drop f d₂
        renamed_front = h ∙ ap (λ k. renamed_bytes k ++ drop f d₂) written

        pub pair_halves : Halves e f d₃ y z
        unfolding Lows
        pair_halves =
            let u = lows_both.0 in
            let v = lows_both.1.0 in
            let m = length_renamed (term_bytes y ++ term_bytes z) ∙ length-append (term_bytes y) (term_bytes z) in
            record {
              order = omega (arith, first_end, second_end);
              inside = omega (arith, simp length-append at (ap length renamed_front), m, length_bytes y, length_bytes z, second_end);
              left = left_cut pair u v d₃ (drop f d₂) renamed_front (e - 0) (omega (arith, first_end));
              right = right_cut pair u v d₃ (drop f d₂) renamed_front e (f - e) first_end (omega (arith, first_end, second_end));
              short = (omega (arith, length-take (e - 0) d₃, first_end, s.4), omega (arith, length-take (f - e) (drop e d₃), first_end, second_end, s.5));
            }

  pub pair_put : {e f : ℕ} {d one one' : List ℕ} → Halves e f d y z → PutSides one 0 (take (e - 0) d) (take (f - e) (drop e d)) one' →
      PutPair (arena l tab ends) (at cs) a b one one'
  pair_put {one' = one'} h p =
      record {
        kept = kept_put p;
        bytes = λ y' z' u v.
            let A = arena l tab ends in
            subst₂ (λ m n. InSlot one' (renamed (record { left = m; right = n }))) (spells_one A s.2 u) (spells_one A s.3 v)
            (p.left_is ∙ h.left, p.right_is ∙ h.right);
      }
