-- The limits of a run: live rules, numbers, log, waiting list, sizes and variables, in every state that turns reach; and what each end says. Assumes
-- nothing.
-- Read first: specs/Turn, proofs/Held.
use mathlib.Core.Path.{◌≡◌, refl, ap}
use mathlib.Core.Logic.{◌⊎◌, inl, inr, ⊎_elim}
use mathlib.Core.List.{List, [], ◌∷◌, map}
use Prim.Native.Nat.{ℕ, suc, ◌+◌, ◌≤◌, ◌<◌}
use native.Mathlib.Omega.{arith}
use lib.ListN.{length}
use Rattle.terms.specs.Term.{Pair, renamed}
use Rattle.terms.specs.Base.{Every, of_none, of_cons}
use Rattle.rewriting.specs.Overlap.{Rule}
use Rattle.problem.specs.Problem.{Theory}
use Rattle.completion.specs.Turn.{Origin, waiting_input, removed_rule, scanned_input, overlapping, Candidate, made_put_back, Entry, State, candidates}
use Rattle.completion.specs.Turn.{initial}
use Rattle.completion.proofs.Held.{HeldPair, RuleFits, Accepted, renamed_held, few_variables}

-- Where a pair came from: inputs are numbered 1 to 16, rules 1 to `made`, and a position is below 120.
unfoldable pub OriginFits : ℕ → Origin → Type 0
OriginFits made (waiting_input k) = (1 ≤ k) × (k ≤ 16)
OriginFits made (removed_rule k) = (1 ≤ k) × (k ≤ made)
OriginFits made (scanned_input k) = (1 ≤ k) × (k ≤ 16)
OriginFits made (overlapping i o p) = (1 ≤ i) × (i ≤ made) × (1 ≤ o) × (o ≤ made) × (p < 120)

pub record CandidateFits (n v made : ℕ) (c : Candidate) : Type 0 where
  pub from : OriginFits made c.origin
  pub fits : HeldPair n v c.sides

-- of an entry: the number of a rule that was made, 0 or ffff
pub record EntryFits (made : ℕ) (e : Entry) : Type 0 where
  pub from : OriginFits made e.origin
  pub last : (e.made ≤ made) ⊎ (e.made ≡ made_put_back)

-- strictly ascending, from above lo
unfoldable pub Ascending : ℕ → List ℕ → Type 0
Ascending lo [] = Unit {0}
Ascending lo (k ∷ ks) = (lo < k) × Ascending k ks

abbrev pub numbers : List Rule → List ℕ
numbers rules = map (λ r. r.number) rules

-- What the fixed arrays rely on, n being the count of the symbols.
pub record Limits (n : ℕ) (s : State) : Type 0 where
  pub live : length s.rules ≤ 32
  pub rules_fit : Every (RuleFits n s.made) s.rules
  pub ascending : Ascending 0 (numbers s.rules)
  pub made_few : s.made ≤ length s.log
  pub log_few : length s.log ≤ 512
  pub log_fits : Every (EntryFits s.made) s.log
  pub waiting_fit : Every (CandidateFits n 16 s.made) s.waiting
  pub waiting_few : length s.waiting ≤ 32
  pub together : length s.rules + length s.waiting ≤ 33
  pub put_back_few : s.put_back ≤ length s.waiting

-- More rules made, and the same still fits.
pub later_origin : (a b : ℕ) → a ≤ b → (o : Origin) → OriginFits a o → OriginFits b o
unfolding OriginFits
later_origin a b l (waiting_input k) h = h
later_origin a b l (removed_rule k) h = (h.0, omega arith)
later_origin a b l (scanned_input k) h = h
later_origin a b l (overlapping i o p) h = (h.0, omega arith, h.2, omega arith, h.4)

pub later_candidate : (n v a b : ℕ) → a ≤ b → (c : Candidate) → CandidateFits n v a c → CandidateFits n v b c
later_candidate n v a b l c h = record { from = later_origin a b l c.origin h.from; fits = h.fits }

pub later_entry : (a b : ℕ) → a ≤ b → (e : Entry) → EntryFits a e → EntryFits b e
later_entry a b l e h = record { from = later_origin a b l e.origin h.from; last = ⊎_elim (λ k. inl (omega arith)) inr h.last }

-- The inputs as candidates.
pub length_candidates : (origin : ℕ → Origin) (k : ℕ) (es : List Pair) → length (candidates origin k es) ≡ length es
unfolding candidates
length_candidates origin k [] = refl
length_candidates origin k (e ∷ es) = ap suc (length_candidates origin (suc k) es)

pub candidates_sides : (origin : ℕ → Origin) (k : ℕ) (es : List Pair) →
    map renamed es ≡ map (λ (c : Candidate). c.sides) (candidates origin k es)
unfolding candidates
candidates_sides origin k [] = refl
candidates_sides origin k (e ∷ es) = ap (λ z. renamed e ∷ z) (candidates_sides origin (suc k) es)

pub candidates_fit : (n made : ℕ) (origin : ℕ → Origin) → ((k : ℕ) → 1 ≤ k → k ≤ 16 → OriginFits made (origin k)) →
    (k : ℕ) (es : List Pair) → 1 ≤ k → k + length es ≤ 17 → Every (HeldPair n 16) es →
    Every (CandidateFits n 16 made) (candidates origin k es)
unfolding candidates
candidates_fit n made origin f k [] l m of_none = of_none
candidates_fit n made origin f k (e ∷ es) l m (of_cons q h) =
    of_cons (record { from = f k l (omega arith); fits = renamed_held n 16 16 e (few_variables n 16 e q) q })
    (candidates_fit n made origin f (suc k) es (omega arith) (omega arith) h)

pub initial_limits : (T : Theory) → Accepted T → Limits (length T.symbols) (initial T)
unfolding initial Ascending OriginFits
initial_limits T a =
    let l : length (candidates waiting_input 1 T.equations) ≡ length T.equations = length_candidates waiting_input 1 T.equations in
    let few : length T.equations ≤ 16 = a.equations_few in
    record {
      live = omega arith;
      rules_fit = of_none;
      ascending = tt;
      made_few = omega arith;
      log_few = omega arith;
      log_fits = of_none;
      waiting_fit = candidates_fit _ 0 waiting_input (λ k l m. (l, m)) 1 T.equations (omega arith) (omega arith) a.equations_fit;
      waiting_few = omega arith;
      together = omega arith;
      put_back_few = omega arith;
    }
