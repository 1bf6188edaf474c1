-- The sizes of the instances: a sum over arguments, a node's size, and passes until none is found; a size found is the size (`known_size`), and what
-- stays unknown is a circle. Assumes nothing.
-- Read first: specs/Sizes (Total, SizeAt, Sized), classes/specs/Arena (Descends), classes/proofs/Walks.
use mathlib.Core.Path.{◌≡◌, refl, sym, ap, subst, subst₂, ◌∙◌}
use mathlib.Core.Bool.{Bool, true, false}
use mathlib.Core.Logic.{inl, inr}
use Rattle.std.specs.Prelude.{Option, Some, None}
use mathlib.Core.List.{List, [], ◌∷◌}
use Prim.Native.Nat.{ℕ, zero, suc, ◌+◌, ◌*◌, ◌-◌, ◌≤◌, ◌<◌}
use native.Mathlib.Omega.{arith}
use native.Mathlib.Numerals.{add-one}
use native.Mathlib.Nat.{le_of_suc-le-suc}
use native.Mathlib.Decide.{ℕ_discrete}
use lib.ListN.{length, set, length-set}
use lib.Seq.{get_or-set_same, get_or-set_other}
use Rattle.terms.specs.Term.{Term, var, node, Terms, nil, cons, size, sizes}
use Rattle.terms.specs.Scan.{owes}
use Rattle.terms.proofs.Places.{size_pos}
use Rattle.classes.specs.Arena.{Arena, Spells, free, made, SpellsAll, none, more, Among}
use Rattle.classes.specs.Steps.{at, arena, Ready, SpellsSome}
use Rattle.sizing.specs.Sizes.{Sized, Unknown, Total, Lacks, SizeAt, SizesKnown, SizedTo, cap}
use Rattle.classes.proofs.Ranges.{from_less}
use Rattle.classes.proofs.Walks.{rest_spells, some_within, arguments, ready_within}
use Rattle.classes.specs.Unique.{spells_one, spells_within}

-- n arguments from p on are left of k from a on, and the others, and one more, have the sum
pub record Adding (A : Arena) (c z : ℕ → ℕ) (a k p n sum : ℕ) : Type 0 where
  pub ps : SpellsSome A p n
  pub least : 1 ≤ sum
  pub most : sum ≤ 121
  pub lost : Among A (Unknown z) p n → Among A (Unknown z) a k
  pub kept : (us : Terms) → SpellsAll A c p n us → (ws : Terms) × SpellsAll A c a k ws × (cap (suc (sizes ws)) ≡ cap (sum + sizes us))

pub adding_start : (A : Arena) (c z : ℕ → ℕ) (a k : ℕ) → SpellsSome A a k → Adding A c z a k a k 1
adding_start A c z a k s =
    record { ps = s; least = omega arith; most = omega arith; lost = λ h. h; kept = λ us r. (us, r, omega arith) }

pub adding_turn : (A : Arena) (c z : ℕ → ℕ) (a k p n sum p' sum' v : ℕ) → Adding A c z a k p n sum → 0 < n → p' ≡ A.end p → v ≡ z p → (v ≡ 0 → ⊥) →
    (u : Term) × Spells A c p u × (z p ≡ cap (size u)) → sum' ≡ cap (sum + v) → Adding A c z a k p' (n - 1) sum'
unfolding Among sizes
adding_turn A c z a k p zero sum p' sum' v g h ep ev nv m es = absurd (omega arith)
adding_turn A c z a k p (suc n) sum p' sum' v g h ep ev nv m es =
    let q : n ≡ suc n - 1 = omega arith in
    subst₂ (λ x y. Adding A c z a k x y sum') (sym ep) q
    (record {
      ps = rest_spells A p n g.ps;
      least = omega (arith, g.least);
      most = omega arith;
      lost = λ x. g.lost (inr x);
      kept = λ us r. let w = g.kept (cons m.0 us) (more m.1 r) in (w.0, w.1, omega (arith, w.2, m.2, g.most));
    })

pub adding_lacks : (A : Arena) (c z : ℕ → ℕ) (a k p n sum v : ℕ) → Adding A c z a k p n sum → 0 < n → v ≡ z p → v ≡ 0 → Total A c z a k None
unfolding Among
adding_lacks A c z a k p zero sum v g h ev e = absurd (omega arith)
adding_lacks A c z a k p (suc n) sum v g h ev e = g.lost (inl (sym ev ∙ e))

pub adding_end : (A : Arena) (c z : ℕ → ℕ) (a k p n sum : ℕ) → Adding A c z a k p n sum → n ≤ 0 → Total A c z a k (Some sum)
unfolding sizes
adding_end A c z a k p zero sum g h = let w = g.kept nil none in (w.0, w.1, omega (arith, w.2, g.most))
adding_end A c z a k p (suc n) sum g h = absurd (omega arith)

-- a node whose root is a variable has size 1, and of one whose root is a symbol the arguments decide
pub size_free : (A : Arena) (c z : ℕ → ℕ) (i r : ℕ) → i < A.nodes → r ≡ c i → 128 ≤ A.byte r → SizeAt A c z i (Some 1)
unfolding size
size_free A c z i r h e b =
    let x : A.byte (c i) ≡ 128 + (A.byte r - 128) = ap A.byte (sym e) ∙ omega arith in
    (var (A.byte r - 128), free h x, omega arith)

pub size_made : (A : Arena) (c z : ℕ → ℕ) (i r k : ℕ) (o : Option ℕ) → i < A.nodes → r ≡ c i → A.byte r < 128 → k ≡ A.arity (A.byte r) →
    Total A c z (r + 1) k o → SizeAt A c z i o
unfolding size
size_made A c z i r k o h e b ek g =
    at_node o (subst₂ (λ x y. Total A c z (suc x) y o) e (ek ∙ ap (λ x. A.arity (A.byte x)) e) (subst (λ x. Total A c z x k o) (add-one r) g))
  where
    f : A.byte (c i) < 128
    f = subst (λ x. A.byte x < 128) e b

    at_node : (o : Option ℕ) → Total A c z (suc (c i)) (A.arity (A.byte (c i))) o → SizeAt A c z i o
    at_node None t = (f, t)
    at_node (Some n) (us, t, e) = (node (A.byte (c i)) us, made h refl f t, e)

module _ (l tab ends cs zs : List ℕ) (y : Sized l tab ends cs zs) where
  pub sized_at : (p n v : ℕ) → SpellsSome (arena l tab ends) p n → 0 < n → v ≡ at zs p → (v ≡ 0 → ⊥) →
      (u : Term) × Spells (arena l tab ends) (at cs) p u × (at zs p ≡ cap (size u))
  sized_at p n v s h e q = y.measured p (some_within (arena l tab ends) p n (length l) s h (omega arith)) (λ x. q (e ∙ x))

  pub sized_arguments : (i r k : ℕ) → i < length l → r ≡ at cs i → at l r < 128 → k ≡ owes tab (at l r) →
      SpellsSome (arena l tab ends) (r + 1) k
  sized_arguments i r k h e b ek =
      arguments (arena l tab ends) y.ready.whole r (at l r) k (r + 1) (ready_within l tab ends cs y.ready i r h e) refl b ek refl

-- a size that is known is the size, up to 120
pub known_size : (l tab ends cs zs : List ℕ) → Sized l tab ends cs zs → SizesKnown (arena l tab ends) (at zs) true → (i : ℕ) (u : Term) →
    Spells (arena l tab ends) (at cs) i u → at zs i ≡ cap (size u)
known_size l tab ends cs zs y k i u p =
    let h = spells_within (arena l tab ends) p in
    let w = y.measured i h (k i h) in
    w.2 ∙ ap (λ v. cap (size v)) (spells_one (arena l tab ends) w.1 p)

-- how many entries are 0
nought : ℕ → ℕ
nought zero = 1
nought (suc n) = 0

unfoldable pub noughts : List ℕ → ℕ
unfolding nought
noughts [] = 0
noughts (z ∷ zs) = nought z + noughts zs

nought_0 : (v : ℕ) → v ≡ 0 → nought v ≡ 1
unfolding nought
nought_0 zero e = refl
nought_0 (suc v) e = absurd (omega arith)

nought_1 : (v : ℕ) → (v ≡ 0 → ⊥) → nought v ≡ 0
unfolding nought
nought_1 zero e = absurd (e refl)
nought_1 (suc v) e = refl

noughts_set : (zs : List ℕ) (i v : ℕ) → i < length zs → at zs i ≡ 0 → (v ≡ 0 → ⊥) → noughts (set zs i v) < noughts zs
unfolding noughts
noughts_set [] i v h e n = absurd (omega arith)
noughts_set (z ∷ zs) zero v h e n = omega (arith, nought_0 z e, nought_1 v n)
noughts_set (z ∷ zs) (suc i) v h e n = omega (arith, noughts_set zs i v (le_of_suc-le-suc h) e n)

-- a size is above 0
size_above : (u : Term) (k : ℕ) → k ≡ cap (size u) → k ≡ 0 → ⊥
size_above u k e z = let p = size_pos u in omega arith

-- a size that was found
module _ (l tab ends cs zs : List ℕ) (y : Sized l tab ends cs zs) (i k : ℕ) (h : i < length l) (z : at zs i ≡ 0)
    (g : SizeAt (arena l tab ends) (at cs) (at zs) i (Some k))
  where
    above : k ≡ 0 → ⊥
    above e = size_above _ k g.2 e

    sizing_within : i < length zs
    sizing_within = omega (arith, y.long)

    measured_at : (j : ℕ) → j < length l → Dec (j ≡ i) → (at (set zs i k) j ≡ 0 → ⊥) →
        (u : Term) × Spells (arena l tab ends) (at cs) j u × (at (set zs i k) j ≡ cap (size u))
    measured_at j q (yes e) n =
        (g.0, subst (λ x. Spells (arena l tab ends) (at cs) x g.0) (sym e) g.1, ap (at (set zs i k)) e ∙ get_or-set_same zs i k 0 sizing_within ∙ g.2)
    measured_at j q (no e) n =
        let w = y.measured j q (λ x. n (get_or-set_other zs i j k 0 e ∙ x)) in
        (w.0, w.1, get_or-set_other zs i j k 0 e ∙ w.2)

    sizing_more : Sized l tab ends cs (set zs i k)
    sizing_more =
        record {
          ready = y.ready;
          long = omega (arith, y.long, length-set zs i k);
          measured = λ j q. measured_at j q (ℕ_discrete j i);
        }

    sizing_less : noughts (set zs i k) < noughts zs
    sizing_less = noughts_set zs i k sizing_within z above

-- the passes: where this one has found nothing, no node from i on can have a size yet, and where it has lost none, each of them has one
pub record Sizing (l tab ends cs zs₀ zs : List ℕ) (i : ℕ) (found lost : Bool) : Type 0 where
  pub sized : Sized l tab ends cs zs
  pub same : length zs ≡ length zs₀
  pub within : i ≤ length l
  pub lacks : found ≡ false → (j : ℕ) → i ≤ j → j < length l → at zs j ≡ 0 → Lacks (arena l tab ends) (at cs) (at zs) j
  pub known : lost ≡ false → (j : ℕ) → i ≤ j → j < length l → at zs j ≡ 0 → ⊥
  pub missing : found ≡ false → lost ≡ true → (j : ℕ) × (j < length l) × (at zs j ≡ 0)

-- whether one more pass is due, as a number
abbrev pass_due : Bool → ℕ
pass_due true = 1
pass_due false = 0

pass_due_once : (found : Bool) → pass_due found ≤ 1
pass_due_once true = omega arith
pass_due_once false = omega arith

-- what falls with each step
abbrev pub size_left : List ℕ → ℕ → Bool → ℕ
size_left zs i found = 1202 * noughts zs + 601 * pass_due found + i

-- no sizes at first
pub clear_sized : (l tab ends cs zs : List ℕ) → Ready l tab ends cs → length l ≤ length zs → ((i : ℕ) → i < length zs → at zs i ≡ 0) →
    Sized l tab ends cs zs
clear_sized l tab ends cs zs y h z = record { ready = y; long = h; measured = λ i q r. absurd (r (z i (omega arith))) }

-- a pass begins
sizing_pass : (l tab ends cs zs₀ zs : List ℕ) → Sized l tab ends cs zs → length zs ≡ length zs₀ → Sizing l tab ends cs zs₀ zs (length l) false false
sizing_pass l tab ends cs zs₀ zs y e =
    record {
      sized = y;
      same = e;
      within = omega arith;
      lacks = λ z j h k. absurd (omega arith);
      known = λ z j h k. absurd (omega arith);
      missing = λ z n. absurd (cc);
    }

pub sizing_start : (l tab ends cs zs : List ℕ) → Sized l tab ends cs zs → Sizing l tab ends cs zs zs (length l) false false
sizing_start l tab ends cs zs y = sizing_pass l tab ends cs zs zs y refl

module _ (l tab ends cs zs₀ zs : List ℕ) (i : ℕ) (found lost : Bool) (s : Sizing l tab ends cs zs₀ zs i found lost) where
  -- the end of a pass
  pub sizing_all : i ≤ 0 → lost ≡ false → SizedTo l tab ends cs zs true
  sizing_all h e =
      let k : (j : ℕ) → j < length l → at zs j ≡ 0 → ⊥ = λ j q. s.known e j (omega arith) q in
      record { sized = s.sized; descends = λ j q z. absurd (k j q z); known = k }

  pub sizing_circle : i ≤ 0 → found ≡ false → lost ≡ true → SizedTo l tab ends cs zs false
  sizing_circle h e n = record { sized = s.sized; descends = λ j q. s.lacks e j (omega arith) q; known = s.missing e n }

  pub sizing_again : Sizing l tab ends cs zs₀ zs (length l) false false
  sizing_again = sizing_pass l tab ends cs zs₀ zs s.sized s.same

  pub sizing_rounds : found ≡ true → size_left zs (length l) false < size_left zs i found
  sizing_rounds e = let q = ap pass_due e in omega (arith, s.sized.ready.small)

  module _ (h : 0 < i) where
    pub sizing_falls : size_left zs (i - 1) found < size_left zs i found
    sizing_falls = omega arith

    pub sizing_room : i - 1 < length zs
    sizing_room = omega (arith, s.within, s.sized.long)

    pub sizing_requires : Sized l tab ends cs zs × (i - 1 < length l)
    sizing_requires = (s.sized, omega (arith, s.within))

    -- the node has a size already
    pub sizing_old : (at zs (i - 1) ≡ 0 → ⊥) → Sizing l tab ends cs zs₀ zs (i - 1) found lost
    sizing_old n = record {
      sized = s.sized;
      same = s.same;
      within = omega (arith, s.within);
      lacks = λ e. from_less (λ j. at zs j ≡ 0 → Lacks (arena l tab ends) (at cs) (at zs) j) i (length l) (s.lacks e) (λ z. absurd (n z));
      known = λ e. from_less (λ j. at zs j ≡ 0 → ⊥) i (length l) (s.known e) n;
      missing = s.missing;
    }

    module _ (z : at zs (i - 1) ≡ 0) where
      -- it can have none yet
      pub sizing_lost : Lacks (arena l tab ends) (at cs) (at zs) (i - 1) → Sizing l tab ends cs zs₀ zs (i - 1) found true
      sizing_lost g = record {
        sized = s.sized;
        same = s.same;
        within = omega (arith, s.within);
        lacks = λ e. from_less (λ j. at zs j ≡ 0 → Lacks (arena l tab ends) (at cs) (at zs) j) i (length l) (s.lacks e) (λ _. g);
        known = λ e. absurd (cc);
        missing = λ e n. (i - 1, omega (arith, s.within), z);
      }

      -- its size is found
      module _ (k : ℕ) (g : SizeAt (arena l tab ends) (at cs) (at zs) (i - 1) (Some k)) where
        abbrev found_at : ℕ → Type 0
        found_at j = at (set zs (i - 1) k) j ≡ 0 → ⊥

        found_later : lost ≡ false → (j : ℕ) → i ≤ j → j < length l → found_at j
        found_later e j r q x = s.known e j r q (sym (get_or-set_other zs (i - 1) j k 0 (λ w. omega arith)) ∙ x)

        found_here : found_at (i - 1)
        found_here x = size_above _ k g.2 (sym (get_or-set_same zs (i - 1) k 0 sizing_room) ∙ x)

        pub sizing_found : Sizing l tab ends cs zs₀ (set zs (i - 1) k) (i - 1) true lost
        sizing_found =
            record {
              sized = sizing_more l tab ends cs zs s.sized (i - 1) k (omega (arith, s.within)) z g;
              same = length-set zs (i - 1) k ∙ s.same;
              within = omega (arith, s.within);
              lacks = λ e. absurd (cc);
              known = λ e. from_less found_at i (length l) (found_later e) found_here;
              missing = λ e. absurd (cc);
            }

        pub sizing_fewer : size_left (set zs (i - 1) k) (i - 1) true < size_left zs i found
        sizing_fewer = let f = sizing_less l tab ends cs zs s.sized (i - 1) k (omega (arith, s.within)) z g in omega (arith, pass_due_once found)
