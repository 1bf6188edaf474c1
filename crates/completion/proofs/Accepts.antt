-- What is read fits: a problem that is accepted has at most 16 symbols and 16 equations, whose sides have at most 120 nodes and variables below 16;
-- also where compare, unify, subterm and decide read it. Assumes nothing.
-- Read first: problem/proofs/Reading, proofs/Held.
use mathlib.Core.Path.{◌≡◌, ap, subst, ◌∙◌}
use mathlib.Core.Bool.{Bool, true, false, ◌||◌}
use mathlib.Core.List.{List, [], ◌∷◌, ◌++◌}
use Prim.Native.Nat.{ℕ, zero, suc, ◌+◌, ◌*◌, ◌%◌, ◌≤◌}
use native.Mathlib.Omega.{arith}
use lib.Dec.{eqb, ltb}
use lib.ListN.{length, length-map}
use borrow.Author.Tests.{ltb-false}
use Rattle.terms.specs.Base.{number_from, Every, of_none, of_cons}
use Rattle.terms.specs.Term.{Term, size, term_bytes, Pair}
use Rattle.terms.proofs.Every.{every_head, every_mapped, mapped_every}
use Rattle.terms.proofs.Lists.{nothing}
use Rattle.problem.specs.Problem.{ok, ReadField, Symbol, read_symbols, symbol_field, budget_field, ReadPart, read_side, read_pair, Equation, equation_field}
use Rattle.problem.specs.Problem.{equation_fields, Problem, theory, parse, only_equation}
use Rattle.completion.specs.Calls.{Single, parse_single}
use Rattle.problem.specs.Over.{Over}
use Rattle.completion.proofs.Over.{OverPair}
use Rattle.problem.proofs.Reading.{ReadsTo, reads, from_bind, no_ok, ok_injective, passed}
use Rattle.completion.proofs.Held.{HeldTo, HeldPair, Accepted}

last_of : (a b : Bool) → (a || b) ≡ false → b ≡ false
last_of true b h = absurd (let z : ◌≡◌ {A = ℕ} 0 1 = cc in omega arith)
last_of false b h = h

symbols_read : (at : ℕ) (bytes : List ℕ) (Σ : List Symbol) → read_symbols at bytes ≡ ok Σ → 2 * length Σ ≤ length bytes
unfolding read_symbols
symbols_read at [] Σ e = let q : [] ≡ Σ = ok_injective e in rw (← q) (omega arith)
symbols_read at (a ∷ []) Σ e = let q : [] ≡ Σ = ok_injective e in rw (← q) (omega arith)
symbols_read at (a ∷ r ∷ bytes) Σ e =
    from_bind _ _ Σ e λ _ _ e.
    from_bind _ _ Σ e λ _ _ e.
    from_bind _ _ Σ e λ Σ' h e.
    let q : record { arity = a; rank = r } ∷ Σ' ≡ Σ = ok_injective e in
    let k = symbols_read (at + 2) bytes Σ' h in
    rw (← q) (omega arith)

pub symbols_few : (f : ReadField) (Σ : List Symbol) → symbol_field f ≡ ok Σ → length Σ ≤ 16
unfolding symbol_field
symbols_few f Σ e =
    from_bind _ _ Σ e λ u t h.
    let n : ℕ = length f.contents in
    let few : n ≤ 32 = ltb-false 32 n (last_of (eqb n 0 || eqb (n % 2) 1) (ltb 32 n) (passed _ 5 f.first u t)) in
    let k = symbols_read (f.first + 3) f.contents Σ h in
    omega arith

budget_few : (f : ReadField) (b : ℕ) → budget_field f ≡ ok b → b ≤ 1_000_000
unfolding budget_field
budget_few f b e =
    from_bind _ _ b e λ _ _ e.
    from_bind _ _ b e λ u t e.
    let q : number_from 0 f.contents ≡ b = ok_injective e in
    let h = ltb-false 1_000_000 (number_from 0 f.contents) (passed _ 8 f.first u t) in
    omega arith

module _ (Σ : List Symbol) where
  abbrev n : ℕ
  n = length Σ

  record SideFits (bytes : List ℕ) (p : ReadPart Term) : Type 0 where
    held : HeldTo n 16 p.part
    over : Over Σ p.part
    front : bytes ≡ term_bytes p.part ++ p.rest

  side_fits : (at : ℕ) (bytes : List ℕ) (p : ReadPart Term) → read_side Σ at bytes ≡ ok p → SideFits bytes p
  unfolding read_side
  side_fits at bytes p e =
      from_bind _ _ p e λ t a e.
      from_bind _ _ p e λ u b e.
      let r : ReadsTo Σ at bytes t = reads Σ (suc (length bytes)) at bytes t a in
      subst (SideFits bytes) (ok_injective e)
      (record { held = record { small = ltb-false 120 (size t.part) (passed _ 11 at u b); made = r.made }; over = r.over; front = r.front })

  -- two sides that fill the bytes
  pub record PairFits (bytes : List ℕ) (e : Pair) : Type 0 where
    pub held : HeldPair n 16 e
    pub over : OverPair Σ e
    pub filled : bytes ≡ term_bytes e.left ++ (term_bytes e.right ++ [])

  pub pair_fits : (at : ℕ) (bytes : List ℕ) (e : Pair) → read_pair Σ at bytes ≡ ok e → PairFits bytes e
  unfolding read_pair
  pair_fits at bytes e h =
      from_bind _ _ e h λ l a h.
      from_bind _ _ e h λ r b h.
      from_bind _ _ e h λ u c h.
      let x : SideFits bytes l = side_fits at bytes l a in
      let y : SideFits l.rest r = side_fits l.end l.rest r b in
      let none : r.rest ≡ [] = nothing r.rest (omega (arith, ltb-false 0 (length r.rest) (passed _ 10 r.end u c))) in
      subst (PairFits bytes) (ok_injective h)
      (record {
        held = record { left = x.held; right = y.held };
        over = (x.over, y.over);
        filled = x.front ∙ ap (λ (m : List ℕ). term_bytes l.part ++ m) (y.front ∙ ap (λ (m : List ℕ). term_bytes r.part ++ m) none);
      })

  equation_fits : (f : ReadField) (e : Equation) → equation_field Σ f ≡ ok e → HeldPair n 16 e.sides × OverPair Σ e.sides
  unfolding equation_field
  equation_fits f e h =
      from_bind _ _ e h λ d a h.
      let q : record { first = f.first; sides = d } ≡ e = ok_injective h in
      let k : PairFits f.contents d = pair_fits (f.first + 3) f.contents d a in
      rw (← q) (k.held, k.over)

  record EquationsFit (more : ℕ) (es : List Equation) : Type 0 where
    few : length es ≤ more
    fit : Every (λ (e : Equation). HeldPair n 16 e.sides) es
    over : Every (λ (e : Equation). OverPair Σ e.sides) es

  none_fit : (more : ℕ) (es : List Equation) → [] ≡ es → EquationsFit more es
  none_fit more es q = rw (← q) (record { few = omega arith; fit = of_none; over = of_none })

  equations_fit : (more at : ℕ) (bytes : List ℕ) (es : List Equation) → equation_fields Σ more at bytes ≡ ok es → EquationsFit more es
  unfolding equation_fields
  equations_fit zero at [] es e = none_fit zero es (ok_injective e)
  equations_fit zero at (b ∷ bytes) es e = from_bind _ _ es e λ _ _ e. absurd (no_ok e)
  equations_fit (suc more) at [] es e = none_fit (suc more) es (ok_injective e)
  equations_fit (suc more) at (b ∷ bytes) es e =
      from_bind _ _ es e λ f _ e.
      from_bind _ _ es e λ d a e.
      from_bind _ _ es e λ ds c e.
      let q : d ∷ ds ≡ es = ok_injective e in
      let k : EquationsFit more ds = equations_fit more f.end f.rest ds c in
      rw (← q) (record { few = omega (arith, k.few); fit = of_cons (equation_fits f d a).0 k.fit; over = of_cons (equation_fits f d a).1 k.over })

-- A problem that is accepted keeps to the limits: its theory and its budget.
read_fits : (bytes : List ℕ) (P : Problem) → parse bytes ≡ ok P → Accepted (theory P) × (P.budget ≤ 1_000_000)
unfolding parse
read_fits bytes P e =
    from_bind _ _ P e λ _ _ e.
    from_bind _ _ P e λ s _ e.
    from_bind _ _ P e λ Σ a e.
    from_bind _ _ P e λ b _ e.
    from_bind _ _ P e λ budget c e.
    from_bind _ _ P e λ es d e.
    let q : record { symbols = Σ; budget = budget; equations = es } ≡ P = ok_injective e in
    let k : EquationsFit Σ 16 es = equations_fit Σ 16 b.end b.rest es d in
    rw (← q) (
      record {
        symbols_few = symbols_few s Σ a;
        equations_few = omega (arith, k.few, length-map es (λ (e : Equation). e.sides));
        equations_fit = every_mapped (λ (e : Equation). e.sides) k.fit;
        equations_over = every_mapped (λ (e : Equation). e.sides) k.over;
      },
      budget_few b budget c,
    )

pub accepts : (bytes : List ℕ) (P : Problem) → parse bytes ≡ ok P → Accepted (theory P)
accepts bytes P e = (read_fits bytes P e).0

pub budget_accepted : (bytes : List ℕ) (P : Problem) → parse bytes ≡ ok P → P.budget ≤ 1_000_000
budget_accepted bytes P e = (read_fits bytes P e).1

-- So does the equation of a problem that has exactly one.
pub only_fits : (Q : Equation → Type 0) (end : ℕ) (es : List Equation) (e : Equation) → Every Q es → only_equation end es ≡ ok e → Q e
unfolding only_equation
only_fits Q end [] e h q = absurd (no_ok q)
only_fits Q end (d ∷ []) e h q = let r : d ≡ e = cc in rw (← r) (every_head h)
only_fits Q end (d ∷ d' ∷ es) e h q = absurd (no_ok q)

-- what compare, unify, subterm and decide read
pub record SingleFits (S : Single) : Type 0 where
  pub symbols_few : length S.symbols ≤ 16
  pub budget_few : S.budget ≤ 1_000_000
  pub fits : HeldPair (length S.symbols) 16 S.equation.sides
  pub over : OverPair S.symbols S.equation.sides

pub single_fits : (bytes : List ℕ) (S : Single) → parse_single bytes ≡ ok S → SingleFits S
unfolding parse_single
single_fits bytes S q =
    from_bind _ _ S q λ P a q.
    from_bind _ _ S q λ e b q.
    let r : record { symbols = P.symbols; budget = P.budget; equation = e } ≡ S = cc in
    let k : Accepted (theory P) = accepts bytes P a in
    rw (← r)
    (record {
      symbols_few = k.symbols_few;
      budget_few = budget_accepted bytes P a;
      fits = only_fits _ (length bytes) P.equations e (mapped_every (λ (e : Equation). e.sides) P.equations k.equations_fit) b;
      over = only_fits _ (length bytes) P.equations e (mapped_every (λ (e : Equation). e.sides) P.equations k.equations_over) b;
    })
