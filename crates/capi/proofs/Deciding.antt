-- What the answers of decide and outermost are right about, for C, and that they do not contradict each other: the parts of a number are those of the
-- answer. Assumes nothing.
-- Read first: specs/Codes (CodeDecides, CodesAgree), decide/specs/Answers (AboutEquations, Agrees), proofs/Unpacked.
use mathlib.Core.Path.{◌≡◌, refl, sym, ap, ◌∙◌}
use mathlib.Core.List.{List}
use mathlib.Core.Logic.{◌↔◌, ◌⊎◌, inl, inr}
use Prim.Native.Nat.{ℕ}
use native.Mathlib.Omega.{arith}
use Rattle.problem.specs.Problem.{Reading, ok, refused}
use Rattle.decide.specs.Decide.{Answer, are_same, are_different, numbered, Counted, decide_call, outermost_call}
use Rattle.decide.specs.Answers.{without_units, Leads, AboutEquations, Compares, Agrees}
use Rattle.capi.specs.Codes.{decide_code, outermost_code, kind_in, number_in, value_in, CodeDecides, CodesAgree}
use Rattle.capi.proofs.Unpacked.{UnpacksDecided, decide_unpacks, UnpacksUnits, UnpacksCounted, outermost_unpacks}

-- the code r of an answer: its part `said` is 1 for "same" and 2 for "different"; else its kind is not 1
abbrev Said : (ℕ → ℕ) → ℕ → Reading Answer → Type 0
Said said r (ok are_same) = said r ≡ 1
Said said r (ok are_different) = said r ≡ 2
Said said r (ok (numbered n)) = kind_in r ≡ 3
Said said r (refused number place) = kind_in r ≡ 0

decided_said : (r : ℕ) (d : Reading Answer) → UnpacksDecided r d → Said value_in r d
decided_said r (ok are_same) u = u.value_is
decided_said r (ok are_different) u = u.value_is
decided_said r (ok (numbered n)) u = u.kind_is
decided_said r (refused n at) u = u.kind_is

units_said : (r : ℕ) (a : Answer) (units : ℕ) → UnpacksUnits r a units → Said number_in r (ok a)
units_said r are_same units u = u.number_is
units_said r are_different units u = u.number_is
units_said r (numbered n) units u = u.kind_is

counted_said : (r : ℕ) (d : Reading Counted) → UnpacksCounted r d → Said number_in r (without_units d)
unfolding without_units
counted_said r (ok c) u = units_said r c.answer c.units u
counted_said r (refused n at) u = u.kind_is

-- what holds of that part where the kind is 1
Exactly : Type 0 → ℕ → Type 0
Exactly A said = ((said ≡ 1) ↔ A) × ((said ≡ 2) ↔ (A → ⊥))

said_exactly : (A : Type 0) (said : ℕ → ℕ) (r : ℕ) (d : Reading Answer) → Said said r d →
    ((d ≡ ok are_same) ⊎ (d ≡ ok are_different) → ((d ≡ ok are_same) ↔ A) × ((d ≡ ok are_different) ↔ (A → ⊥))) → kind_in r ≡ 1 → Exactly A (said r)
unfolding Exactly
said_exactly A said r (ok are_same) u h k =
    let e = h (inl refl) in
    ((λ _. e.0.0 refl, λ _. u), (λ z. absurd (omega arith), λ n. absurd (n (e.0.0 refl))))
said_exactly A said r (ok are_different) u h k =
    let e = h (inr refl) in
    ((λ z. absurd (omega arith), λ a. absurd (e.1.0 refl a)), (λ _. e.1.0 refl, λ _. u))
said_exactly A said r (ok (numbered n)) u h k = absurd (omega arith)
said_exactly A said r (refused n at) u h k = absurd (omega arith)

code_decides : (said : ℕ → ℕ) (problem kept : List ℕ) (d : Reading Answer) (r : ℕ) → Said said r d → AboutEquations problem kept d →
    CodeDecides said problem kept r
unfolding Exactly
code_decides said problem kept d r u A = record { exactly = λ w k. said_exactly (Leads w.theory w.asked) said r d u (A.exactly w) k }

-- that part, of "same" and of "different"
abbrev word : Answer → ℕ
word are_same = 1
word are_different = 2
word (numbered n) = 0

spoken : (said : ℕ → ℕ) (r : ℕ) (a : Answer) → Said said r (ok a) → kind_in r ≡ 1 → Compares a × (said r ≡ word a)
spoken said r are_same u k = (tt, u)
spoken said r are_different u k = (tt, u)
spoken said r (numbered n) u k = absurd (omega arith)

module _ (problem kept : List ℕ) where
  -- the answers of the two calls, and their codes
  abbrev inner : Reading Answer
  inner = without_units (decide_call problem kept)

  abbrev outer : Reading Answer
  outer = without_units (outermost_call problem kept)

  abbrev d : ℕ
  d = decide_code inner

  abbrev o : ℕ
  o = outermost_code (outermost_call problem kept)

  inner_said : Said value_in d inner
  inner_said = decided_said d inner (decide_unpacks problem kept)

  outer_said : Said number_in o outer
  outer_said = counted_said o (outermost_call problem kept) (outermost_unpacks problem kept)

  codes_agree : Agrees problem kept → CodesAgree problem kept d o
  unfolding CodesAgree without_units
  codes_agree A w = go (decide_call problem kept) refl inner_said (outermost_call problem kept) refl outer_said
    where
      go : (a : Reading Counted) → decide_call problem kept ≡ a → Said value_in d (without_units a) →
          (b : Reading Counted) → outermost_call problem kept ≡ b → Said number_in o (without_units b) → kind_in d ≡ 1 → kind_in o ≡ 1 →
          value_in d ≡ number_in o
      go (ok a) p u (ok b) q v k l =
          let x = spoken value_in d a.answer u k in
          let y = spoken number_in o b.answer v l in
          x.1 ∙ ap word (A.answers w a b p q x.0 y.0) ∙ sym y.1
      go (ok a) p u (refused n at) q v k l = absurd (omega arith)
      go (refused n at) p u b q v k l = absurd (omega arith)

  -- What the calls for C promise of a number r, by what the calls promise of what they told.
  module _ (t : Reading Counted) (equations : AboutEquations problem kept (without_units t)) (agrees : Agrees problem kept) (r : ℕ) where
    pub decide_promises : t ≡ decide_call problem kept → r ≡ decide_code (without_units t) →
        (r ≡ d) × (CodeDecides value_in problem kept r × CodesAgree problem kept r o)
    decide_promises e q =
        let is : r ≡ d = q ∙ ap (λ (t : Reading Counted). decide_code (without_units t)) e in
        (is, rw is (code_decides value_in problem kept inner d inner_said (rw e at equations), codes_agree agrees))

    pub outermost_promises : t ≡ outermost_call problem kept → r ≡ outermost_code t →
        (r ≡ o) × (CodeDecides number_in problem kept r × CodesAgree problem kept d r)
    outermost_promises e q =
        let is : r ≡ o = q ∙ ap outermost_code e in
        (is, rw is (code_decides number_in problem kept outer o outer_said (rw e at equations), codes_agree agrees))
