-- From the answer of unification to that of an overlap: which most general unifier was found does not matter after renaming. Assumes nothing.
-- Read first: specs/Answer (SolvesAt, instances), mgu/specs/Result (Solved, Decided), mgu/proofs/Verdict.
use mathlib.Core.Path.{◌≡◌, refl, sym, ap, subst, ◌∙◌}
use mathlib.Core.Bool.{Bool, true, false, true≢false}
use mathlib.Core.List.{List}
use mathlib.Core.Option.{Option, none, some}
use Prim.Native.Nat.{ℕ, ◌+◌, ◌-◌, ◌≤◌, ◌<◌}
use lib.ListN.{length, take, drop, replicate, length-replicate}
use lib.Seq.{length-take-le}
use native.Mathlib.Omega.{arith}
use native.Mathlib.Nat.{sub-zero}
use lib.Dec.{ltb}
use Rattle.terms.specs.Base.{is_some, Every, of_none}
use Rattle.terms.specs.Term.{Term, Terms, nil, cons, size, terms_bytes, subst_term, subterm_in, renamed}
use Rattle.terms.specs.Flat.{Wfs}
use Rattle.terms.proofs.Every.{every_append, every_at}
use Rattle.terms.proofs.Flats.{widen_all, wf_bytes}
use Rattle.terms.proofs.Positions.{subterm_below, in_first, in_later, in_head}
use Rattle.unify.specs.Unify.{Binding, mgu, under}
use Rattle.classes.specs.Arena.{Spells, same}
use Rattle.classes.specs.Steps.{at, arena}
use Rattle.mgu.specs.Result.{Laid, LaidOut, IsTerms, Solved, Decided}
use Rattle.mgu.proofs.Starting.{laid_at}
use Rattle.mgu.proofs.Verdict.{the_mgu, solved_sizes, solved_renamed, solved_decided}
use Rattle.mgu.proofs.Instance.{spells_instance}
use Rattle.slots.specs.Slots.{KeptSlot}
use Rattle.slots.proofs.Layouts.{kept_none}
use Rattle.critical_pairs.specs.Placed.{VariablesLow, PlacedIf, PairPlaced}
use Rattle.rewriting.specs.Overlap.{Overlap}
use Rattle.overlaps.specs.declared.Roots.{Roots}
use Rattle.overlaps.specs.declared.Met.{Met}
use Rattle.overlaps.specs.declared.Met.TheVariants.{Nothing, TooLarge, Pair as Met-pair}
use Rattle.overlaps.specs.Answer.{PairIs, Says, four, instances, SolvesAt}

-- bytes of terms with variables below 32
terms_low : (tab : List ℕ) (ts : Terms) → Wfs 32 tab ts → Every (λ b. b < 160) (terms_bytes ts)
unfolding terms_bytes Wfs
terms_low tab nil w = of_none
terms_low tab (cons t ts) w = every_append (wf_bytes 32 tab t w.0) (terms_low tab ts w.1)

module _ {l tab : List ℕ} {r : Bool} (g : IsTerms l tab r) where
  pub tested_out : r ≡ true → LaidOut l tab
  tested_out e = let s = g.sound e in (s.0, record { wf = widen_all 32 128 tab s.0 (omega arith) s.1.0; bytes = s.1.1 })

  pub tested_low : r ≡ true → VariablesLow l
  tested_low e =
      let s = g.sound e in
      subst (λ k. VariablesLow k) (sym s.1.1) (λ i h. every_at (terms_low tab s.0 s.1.0) i 0 h)

  pub solve_bad : {roots : Roots} {one : List ℕ} → r ≡ false → SolvesAt l tab roots one one Nothing
  solve_bad {one = one} e =
      record { kept = kept_none one; answer = λ x y z w f h en ea eb t q. absurd (true≢false (sym (g.complete (four x y z w) f h) ∙ e)) }

-- what an answer says depends on sizes and on the renamed pair alone
says_same : (one : List ℕ) (r : Met) (v u : Overlap) → size v.peak ≡ size u.peak → size v.sides.left ≡ size u.sides.left →
    size v.sides.right ≡ size u.sides.right → renamed v.sides ≡ renamed u.sides → Says one r (some v) → Says one r (some u)
says_same one r v u e₁ e₂ e₃ e₄ h = rw (← e₁, ← e₂, ← e₃, ← e₄) h

-- the four terms are laid out, and stand at the roots
record Asked (l tab : List ℕ) (roots : Roots) (x y z w t : Term) : Type 0 where
  laid : Laid l tab (four x y z w)
  inner : subterm_in (four x y z w) roots.inner ≡ some y
  outer : subterm_in (four x y z w) roots.outer ≡ some t
  left : subterm_in (four x y z w) roots.left ≡ some z
  right : subterm_in (four x y z w) roots.right ≡ some w

solves : {l tab : List ℕ} {roots : Roots} {one one' : List ℕ} {r : Met} → KeptSlot one one' →
    ((x y z w t : Term) → Asked l tab roots x y z w t → Says one' r (instances x z w (mgu y t))) → SolvesAt l tab roots one one' r
solves {l} {tab} {roots} k g = record {
  kept = k;
  answer = λ x y z w f h en ea eb t q.
      g x y z w t
      (record {
        laid = record { wf = widen_all 32 128 tab (four x y z w) (omega arith) f; bytes = h };
        inner = in_later x _ roots.inner 0 (omega arith) ∙ in_head y _ 0 refl;
        outer = in_first x _ roots.outer (subterm_below x roots.outer t q) ∙ q;
        left = in_later x _ roots.left (size y) (omega arith) ∙ in_later y _ (size y) 0 (omega arith) ∙ in_head z _ 0 refl;
        right =
            in_later x _ roots.right (size y + size z) (omega arith) ∙ in_later y _ (size y + size z) (size z) refl
            ∙ in_later z _ (size z) 0 (omega arith) ∙ in_head w nil 0 refl;
      });
}

pub solve_never : {l tab : List ℕ} {roots : Roots} {one : List ℕ} {r : Bool} → Decided l tab roots.inner roots.outer r → r ≡ false →
    SolvesAt l tab roots one one Nothing
unfolding is_some
solve_never {one = one} d e = solves (kept_none one) (λ x y z w t a. go x z w (mgu y t) (sym e ∙ d (four x y z w) a.laid y t a.inner a.outer))
  where
    go : (x z w : Term) (o : Option (List Binding)) → false ≡ is_some o → Says one Nothing (instances x z w o)
    go x z w none e = refl
    go x z w (some m) e = absurd (true≢false (sym e))

module _ {l tab : List ℕ} {roots : Roots} {x y z w t : Term} (a : Asked l tab roots x y z w t)
    {ends cs zs : List ℕ} (k : Solved l tab roots.inner roots.outer ends cs zs) where
  -- the instance of a term
  abbrev of : Term → Term
  of u = subst_term (the_mgu l tab roots.inner roots.outer ends cs zs k) u

  spells : (i : ℕ) (u : Term) → subterm_in (four x y z w) i ≡ some u → Spells (arena l tab ends) same i u
  spells i u e = laid_at l tab ends k.ended (four x y z w) a.laid i u e

  found : (i : ℕ) (u : Term) → subterm_in (four x y z w) i ≡ some u → Spells (arena l tab ends) (at cs) i (of u)
  found i u e = spells_instance l tab roots.inner roots.outer ends cs zs k i u (spells i u e)

  solved_says : (one : List ℕ) (r : Met) →
      ((x' y' z' : Term) → Spells (arena l tab ends) (at cs) 0 x' → Spells (arena l tab ends) (at cs) roots.left y' →
      Spells (arena l tab ends) (at cs) roots.right z' → Says one r (some (record { peak = x'; sides = record { left = y'; right = z' } }))) →
      Says one r (instances x z w (mgu y t))
  unfolding is_some
  solved_says one r g =
      go (mgu y t) refl (solved_decided l tab roots.inner roots.outer ends cs zs k (four x y z w) a.laid y t a.inner a.outer)
    where
      go : (o : Option (List Binding)) → mgu y t ≡ o → true ≡ is_some o → Says one r (instances x z w o)
      go none e d = absurd (true≢false d)
      go (some m) e d =
          let n = roots.inner in
          let p = roots.outer in
          let u = spells n y a.inner in
          let v = spells p t a.outer in
          let s = solved_sizes l tab n p ends cs zs k y t u v m e in
          says_same one r (record { peak = of x; sides = record { left = of z; right = of w } })
          (record { peak = under m x; sides = record { left = under m z; right = under m w } }) (sym (s x)) (sym (s z)) (sym (s w))
          (sym (solved_renamed l tab n p ends cs zs k y t u v m e (record { left = z; right = w })))
          (g (of x) (of z) (of w) (found 0 x (in_head x _ 0 refl)) (found roots.left z a.left) (found roots.right w a.right))

-- what `place` answers
abbrev pub met : Bool → Met
met true = Met-pair
met false = TooLarge

placed_says : (one : List ℕ) (s : Bool) (r : Met) → met s ≡ r → (y z : Term) (b c d : Bool) → PlacedIf one s y z b c d →
    PairIs one r (renamed (record { left = y; right = z })) b c d
placed_says one s r e y z true c d h = sym e ∙ ap met h
placed_says one s r e y z false true d h = sym e ∙ ap met h
placed_says one s r e y z false false true h = sym e ∙ ap met h
placed_says one s r e y z false false false h = (sym e ∙ ap met h.0, h.1)

pub solve_placed : {l tab : List ℕ} {roots : Roots} {one one' ends cs zs : List ℕ} {s : Bool} {r : Met} →
    Solved l tab roots.inner roots.outer ends cs zs →
    PairPlaced (arena l tab ends) (at cs) roots.left roots.right one one' s → met s ≡ r → SolvesAt l tab roots one one' r
solve_placed {one' = one'} {s = s} {r} k g e =
    solves g.kept
    (λ x y z w t a.
    solved_says a k one' r
    (λ x' y' z' u v j. placed_says one' s r e y' z' (ltb 120 (size x')) (ltb 120 (size y')) (ltb 120 (size z')) (g.answer x' y' z' u v j)))

-- a part of a buffer of 600
pub part_long : (n : ℕ) → n ≤ 600 → n ≤ length (take (n - 0) (drop 0 (replicate {A = ℕ} 600 0)))
part_long n h =
    let d : List ℕ = replicate 600 0 in
    omega (arith, ap (λ k. length (take k d)) (sub-zero n), length-take-le n d (omega (arith, length-replicate {A = ℕ} 600 0)))
