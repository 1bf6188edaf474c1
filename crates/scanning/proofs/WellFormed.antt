-- The sides of an overlap of well-formed rules are, renamed, well-formed, with variables below 32. Assumes nothing.
-- Read first: rewriting/specs/Overlap (overlap), terms/specs/Flat (Wf), completion/proofs/Over.
use mathlib.Core.Path.{◌≡◌, refl, sym, ◌∙◌, ap, subst}
use mathlib.Core.List.{List, [], ◌∷◌}
use mathlib.Core.Option.{some}
use Prim.Native.Nat.{ℕ, zero, suc, ◌+◌, ◌<◌, ◌≤◌}
use native.Mathlib.Omega.{arith}
use lib.ListN.{length}
use Rattle.terms.specs.Term.{Term, var, node, Terms, nil, cons, Pair, pair_variables, renamed}
use Rattle.terms.specs.Scan.{arity}
use Rattle.terms.specs.Flat.{Wf, Wfs}
use Rattle.terms.proofs.Flats.{wf_made}
use Rattle.terms.proofs.Limits.{Made, MadeAll, made_vars, variables_few, renamed_left_made, renamed_right_made}
use Rattle.rewriting.specs.Overlap.{Overlap, overlap}
use Rattle.rewriting.proofs.Limits.{OverlapMade, MaybeOverlap, overlap_made}
use Rattle.problem.specs.Problem.{Symbol, arity_of}
use Rattle.problem.specs.Over.{Over, OverAll}
use Rattle.problem.proofs.Reading.{below_has}
use Rattle.completion.proofs.Over.{OverPair, over_renamed, over_overlap}

-- the symbols of a table
unfoldable symbols_from : List ℕ → ℕ → ℕ → List Symbol
symbols_from tab k zero = []
symbols_from tab k (suc n) = record { arity = arity tab k; rank = 0 } ∷ symbols_from tab (suc k) n

length_symbols : (tab : List ℕ) (k n : ℕ) → length (symbols_from tab k n) ≡ n
unfolding symbols_from
length_symbols tab k zero = refl
length_symbols tab k (suc n) = ap suc (length_symbols tab (suc k) n)

arity_symbols : (tab : List ℕ) (k n f : ℕ) → f < n → arity_of (symbols_from tab k n) f ≡ arity tab (k + f)
unfolding symbols_from arity_of
arity_symbols tab k zero f h = absurd (omega arith)
arity_symbols tab k (suc n) zero h = ap (arity tab) (omega arith)
arity_symbols tab k (suc n) (suc f) h = arity_symbols tab (suc k) n f (omega arith) ∙ ap (arity tab) (omega arith)

module _ (tab : List ℕ) where
  abbrev symbols : List Symbol
  symbols = symbols_from tab 0 16

  abbrev Low16 : ℕ → Type 0
  Low16 f = f < 16

  arity_here : (f : ℕ) → f < 16 → arity_of symbols f ≡ arity tab f
  arity_here f h = arity_symbols tab 0 16 f h ∙ ap (arity tab) (omega arith)

  mutual
    unfolding Wf Over

    wf_over : (n : ℕ) (t : Term) → Wf n tab t → Over symbols t
    wf_over n (var x) w = tt
    wf_over n (node f ts) w = (
      below_has symbols f (let l : length symbols ≡ 16 = length_symbols tab 0 16 in let h : f < 16 = w.0 in omega arith),
      w.1 ∙ sym (arity_here f w.0),
      wf_overs n ts w.2,
    )

    wf_overs : (n : ℕ) (ts : Terms) → Wfs n tab ts → OverAll symbols ts
    wf_overs n nil w = tt
    wf_overs n (cons t ts) w = (wf_over n t w.0, wf_overs n ts w.1)

  mutual
    unfolding Wf Made Over

    over_wf : (n : ℕ) (t : Term) → Over symbols t → Made Low16 (λ x. x < n) t → Wf n tab t
    over_wf n (var x) o m = m
    over_wf n (node f ts) o m = (m.0, o.1 ∙ arity_here f m.0, over_wfs n ts o.2 m.1)

    over_wfs : (n : ℕ) (ts : Terms) → OverAll symbols ts → MadeAll Low16 (λ x. x < n) ts → Wfs n tab ts
    over_wfs n nil o m = tt
    over_wfs n (cons t ts) o m = (over_wf n t o.0 m.0, over_wfs n ts o.1 m.1)

  abbrev pub WfPair : ℕ → Pair → Type 0
  WfPair n e = Wf n tab e.left × Wf n tab e.right

  renamed_wf : (e : Pair) → OverPair symbols e → Made Low16 (λ x. x < 32) e.left → Made Low16 (λ x. x < 32) e.right → WfPair 32 (renamed e)
  renamed_wf e o l r =
      let few : length (pair_variables e) ≤ 32 = variables_few 32 e (made_vars _ (λ x. x < 32) e.left l) (made_vars _ (λ x. x < 32) e.right r) in
      let v : OverPair symbols (renamed e) = over_renamed symbols e o in
      (over_wf 32 _ v.0 (renamed_left_made Low16 (λ x. x < 32) 32 e few l), over_wf 32 _ v.1 (renamed_right_made Low16 (λ x. x < 32) 32 e few r))

  pub overlap_wf : (inner outer : Pair) (p : ℕ) (o : Overlap) → overlap inner outer p ≡ some o → WfPair 16 inner → WfPair 16 outer →
      WfPair 32 (renamed o.sides)
  overlap_wf inner outer p o e wi wo =
      let h : OverlapMade Low16 o = subst (MaybeOverlap Low16) e (overlap_made Low16 inner outer p
      (wf_made 16 tab _ wi.0, wf_made 16 tab _ wi.1) (wf_made 16 tab _ wo.0, wf_made 16 tab _ wo.1)) in
      let v = over_overlap symbols inner outer p o e (wf_over 16 _ wi.0, wf_over 16 _ wi.1) (wf_over 16 _ wo.0, wf_over 16 _ wo.1) in
      renamed_wf o.sides v.1 h.left_made h.right_made
