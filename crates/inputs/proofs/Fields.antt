-- The loop puts the first k equations into slots 0 to k - 1; and the equation fields of a problem that is accepted stand one behind the other. Assumes
-- nothing.
-- Read first: specs/Inputs (SidesAt, InputsRead), problem/proofs/Laid, slots/proofs/Listing.
use mathlib.Core.Path.{◌≡◌, refl, sym, ap, ◌∙◌, subst}
use mathlib.Core.List.{List, [], ◌∷◌, ◌++◌, map, append_assoc, append-nil}
use Prim.Native.Nat.{ℕ, suc, ◌+◌, ◌-◌, ◌*◌, ◌<◌, ◌≤◌}
use native.Mathlib.Omega.{arith}
use lib.ListN.{length, drop, take, replicate, length-append, length-map}
use lib.Seq.{drop_at, drop-drop}
use Rattle.terms.specs.Term.{Term, Pair, size, term_bytes, renamed}
use Rattle.terms.specs.Base.{Every, of_none, of_cons}
use Rattle.terms.proofs.Bytes.{length_bytes}
use Rattle.problem.specs.Problem.{Equation, sides_all, Problem, theory}
use Rattle.problem.specs.Parser.{Table, ParsedAt}
use Rattle.problem.proofs.Sides.{Both}
use Rattle.problem.proofs.Laid.{Laid, parsed_laid}
use Rattle.completion.specs.Turn.{waiting_input, candidates}
use Rattle.completion.specs.Calls.{origin_bytes}
use Rattle.completion.proofs.Held.{HeldPair}
use Rattle.completion.proofs.Limits.{length_candidates}
use Rattle.completion.proofs.Accepts.{accepts}
use Rattle.slots.specs.Slots.{slot_width, Layout, AllFrom, MarkedAt, Holds}
use Rattle.slots.proofs.Listing.{all_none, all_one, all_join, all_moved, marked_moved}
use Rattle.slots.proofs.Layouts.{zeros_layout, layout_put}
use Rattle.inputs.specs.Inputs.{marked, SidesAt, PutsEquation, InFields, InputsRead}

-- the equation is the candidate in slot k
abbrev pub Input : List ℕ → List ℕ → ℕ → Pair → Type 0
Input tab slots k q = MarkedAt tab slots k (marked (record { origin = waiting_input (k + 1); sides = renamed q }))

inputs_held : (tab slots : List ℕ) (k : ℕ) (es : List Pair) → AllFrom (Input tab slots) k es →
    Holds tab slots k (map marked (candidates waiting_input (k + 1) es))
unfolding AllFrom candidates
inputs_held tab slots k [] h = tt
inputs_held tab slots k (q ∷ es) h =
    let e : suc k + 1 ≡ suc (k + 1) = omega arith in
    (h.0, subst (λ z. Holds tab slots (suc k) (map marked (candidates waiting_input z es))) e (inputs_held tab slots (suc k) es h.1))

-- the first k are in their slots, and the rest is laid out from i on
pub record Split (tab l slots : List ℕ) (k i : ℕ) (es : List Pair) : Type 0 where
  pub first : List Pair
  pub rest : List Pair
  pub is : es ≡ first ++ rest
  pub number : length first ≡ k
  pub held : AllFrom (Input tab slots) 0 first
  pub more : InFields tab l i rest

pub record SoFar (tab l : List ℕ) (at count : ℕ) (slots : List ℕ) (k i : ℕ) : Type 0 where
  pub layout : Layout slots count
  pub split : (es : List Pair) → InFields tab l at es → length es ≡ count → Split tab l slots k i es

pub read_start : (tab l : List ℕ) (at count n : ℕ) → slot_width * count ≤ n → SoFar tab l at count (replicate n 0) 0 at
read_start tab l at count n h = record {
  layout = zeros_layout n count h;
  split = λ es f c. record { first = []; rest = es; is = refl; number = refl; held = all_none (Input tab (replicate n 0)) 0; more = f };
}

module _ (tab l slots slots' : List ℕ) (k i r : ℕ) (q : PutsEquation tab l i slots k slots' r) where
  next : (es first rest : List Pair) → es ≡ first ++ rest → length first ≡ k → AllFrom (Input tab slots) 0 first → InFields tab l i rest →
      k < length es → Split tab l slots' (k + 1) r es
  unfolding InFields origin_bytes
  next es first [] e n s f h = absurd (omega (arith, ap length e, length-append first []))
  next es first (x ∷ rest) e n s f h =
      let a = q.answer f.0 x f.1 f.2 in
      let here : Input tab slots' k x = record { mark = q.mark; pair = a.1 } in
      record {
        first = first ++ (x ∷ []);
        rest = rest;
        is = e ∙ sym (append_assoc first (x ∷ []) rest);
        number = length-append first (x ∷ []) ∙ omega (arith, n);
        held = all_join (Input tab slots') 0 first (x ∷ [])
            (all_moved (Input tab slots) (Input tab slots') 0 0 first (λ j m y z. marked_moved (q.only.others (0 + j) (λ w. omega arith)) z) s)
            (all_one (Input tab slots') (0 + length first) x (let g : k ≡ 0 + length first = omega arith in subst (λ z. Input tab slots' z x) g here));
        more = subst (λ z. InFields tab l z rest) (sym a.0) f.3;
      }

pub read_more : (tab l : List ℕ) (at count : ℕ) (slots slots' : List ℕ) (k i r : ℕ) → SoFar tab l at count slots k i → k < count →
    PutsEquation tab l i slots k slots' r → SoFar tab l at count slots' (k + 1) r
read_more tab l at count slots slots' k i r s h q = record {
  layout = layout_put s.layout q.only (q.short (s.layout.short k h));
  split = λ es f c.
      let t = s.split es f c in
      next tab l slots slots' k i r q es t.first t.rest t.is t.number t.held t.more (omega arith);
}

whole : (tab slots : List ℕ) (es first rest : List Pair) → es ≡ first ++ rest → length first ≡ length es → AllFrom (Input tab slots) 0 first →
    AllFrom (Input tab slots) 0 es
whole tab slots es first [] e n s = subst (AllFrom (Input tab slots) 0) (sym (e ∙ append-nil first)) s
whole tab slots es first (q ∷ rest) e n s = absurd (omega (arith, ap length e, length-append first (q ∷ rest)))

pub read_end : (tab l : List ℕ) (at count : ℕ) (slots : List ℕ) (k i : ℕ) → SoFar tab l at count slots k i → k ≡ count →
    InputsRead tab l at count (record { bytes = slots; count = count })
read_end tab l at count slots k i s n = record {
  layout = s.layout;
  counted = refl;
  held = λ es f c.
      let t = s.split es f c in
      record {
        holds = inputs_held tab slots 0 es (whole tab slots es t.first t.rest t.is (t.number ∙ n ∙ sym c) t.held);
        counted = sym (length_candidates waiting_input 1 es ∙ c);
      };
}

-- The equation fields of a problem.
sides_at : (n : ℕ) (tab : List ℕ) (T : Table tab) (l : List ℕ) (at e : ℕ) (q : Equation) → Both tab T l at e q → HeldPair n 16 q.sides →
    SidesAt tab l (at + 3) q.sides
sides_at n tab T l at e q b h =
    let x : Term = q.sides.left in
    let rest_is : b.left.rest ≡ drop (at + 3 + size x) l =
    sym (drop_at (term_bytes x) b.left.rest (size x) (length_bytes x)) ∙ ap (drop (size x)) (sym b.left.bytes) ∙ drop-drop (size x) (at + 3) l in
    record {
      left_wf = b.left_wf;
      right_wf = b.right_wf;
      left_small = h.left.small;
      right_small = h.right.small;
      rest = b.right.rest;
      bytes = b.left.bytes ∙ ap (λ z. term_bytes x ++ z) (rest_is ∙ b.right.bytes);
    }

laid_fields : (n : ℕ) (tab : List ℕ) (T : Table tab) (l : List ℕ) (at : ℕ) (es : List Equation) →
    Laid tab T l at es → Every (HeldPair n 16) (sides_all es) → InFields tab l at (sides_all es)
unfolding Laid InFields
laid_fields n tab T l at [] h of_none = tt
laid_fields n tab T l at (q ∷ es) h (of_cons k ks) =
    (h.0, h.1, sides_at n tab T l at h.0 q h.4 k, laid_fields n tab T l h.0 es h.5 ks)

pub problem_fields : (l : List ℕ) (e b at n : ℕ) (P : Problem) → ParsedAt l e b at n P →
    InFields (take (e - 3) (drop 3 l)) l at (theory P).equations × (length (theory P).equations ≡ n)
problem_fields l e b at n P A = (
  laid_fields (length P.symbols) _ A.table.table l at P.equations (parsed_laid l e b at n P A) (accepts l P A.is).equations_fit,
  length-map P.equations (λ (e : Equation). e.sides) ∙ A.number,
)
