-- What `collect` collects is the list of first occurrences of the bytes of variables. Assumes nothing.
-- Read first: specs/Names (added, collect), terms/specs/Base (without, distinct, place_in).
use mathlib.Core.Path.{◌≡◌, refl, sym, ap, subst, ◌∙◌}
use mathlib.Core.Bool.{Bool, true, false}
use mathlib.Core.List.Memᴰ
use mathlib.Core.List.{List, [], ◌∷◌, ◌++◌, append-nil, append_assoc}
use Prim.Native.Nat.{ℕ, zero, suc, ◌≤◌, ◌<◌}
use native.Mathlib.Omega.{arith}
use native.Mathlib.Decide.{dec_lt, ℕ_discrete}
use lib.Dec.{eqb, ltb}
use lib.ListN.{length}
use borrow.Author.Tests.{lt-ltb, le-ltb}
use Rattle.std.specs.Prelude.{if◌then◌else◌}
use Rattle.terms.specs.Base.{without, distinct, place_in}
use Rattle.terms.proofs.Shape.{Says, eqb_says}
use Rattle.terms.proofs.Subst.{In}
use Rattle.terms.proofs.Below.{place_in_below}
use Rattle.naming.specs.Names.{added, collect}

-- what a test chooses, by what it says
yes_if : {A : Type 0} {P : Type 0} (a b : A) (c : Bool) → Says P c → P → (if c then a else b) ≡ a
yes_if a b true h p = refl
yes_if a b false h p = absurd (h p)

no_if : {A : Type 0} {P : Type 0} (a b : A) (c : Bool) → Says P c → (P → ⊥) → (if c then a else b) ≡ b
no_if a b true h p = absurd (p h)
no_if a b false h p = refl

-- the list without x
without_yes : (x z : ℕ) (l : List ℕ) → x ≡ z → without x (z ∷ l) ≡ without x l
unfolding without
without_yes x z l e = yes_if (without x l) (z ∷ without x l) (eqb x z) (eqb_says x z) e

without_no : (x z : ℕ) (l : List ℕ) → (x ≡ z → ⊥) → without x (z ∷ l) ≡ z ∷ without x l
unfolding without
without_no x z l e = no_if (without x l) (z ∷ without x l) (eqb x z) (eqb_says x z) e

without_none : (x : ℕ) → without x [] ≡ []
unfolding without
without_none x = refl

comm_step : (x y z : ℕ) (l : List ℕ) → Dec (x ≡ z) → Dec (y ≡ z) → without x (without y l) ≡ without y (without x l) →
    without x (without y (z ∷ l)) ≡ without y (without x (z ∷ l))
comm_step x y z l (yes p) (yes q) h = ap (without x) (without_yes y z l q) ∙ h ∙ sym (ap (without y) (without_yes x z l p))
comm_step x y z l (yes p) (no q) h = ap (without x) (without_no y z l q) ∙ without_yes x z (without y l) p ∙ h ∙ sym (ap (without y) (without_yes x z l p))
comm_step x y z l (no p) (yes q) h = ap (without x) (without_yes y z l q) ∙ h ∙ sym (ap (without y) (without_no x z l p) ∙ without_yes y z (without x l) q)
comm_step x y z l (no p) (no q) h =
    ap (without x) (without_no y z l q) ∙ without_no x z (without y l) p ∙ ap (◌∷◌ z) h
    ∙ sym (ap (without y) (without_no x z l p) ∙ without_no y z (without x l) q)

without_comm : (x y : ℕ) (l : List ℕ) → without x (without y l) ≡ without y (without x l)
without_comm x y [] = ap (without x) (without_none y) ∙ without_none x ∙ sym (ap (without y) (without_none x) ∙ without_none y)
without_comm x y (z ∷ l) = comm_step x y z l (ℕ_discrete x z) (ℕ_discrete y z) (without_comm x y l)

idem_step : (x z : ℕ) (l : List ℕ) → Dec (x ≡ z) → without x (without x l) ≡ without x l → without x (without x (z ∷ l)) ≡ without x (z ∷ l)
idem_step x z l (yes p) h = ap (without x) (without_yes x z l p) ∙ h ∙ sym (without_yes x z l p)
idem_step x z l (no p) h = ap (without x) (without_no x z l p) ∙ without_no x z (without x l) p ∙ ap (◌∷◌ z) h ∙ sym (without_no x z l p)

without_idem : (x : ℕ) (l : List ℕ) → without x (without x l) ≡ without x l
without_idem x [] = ap (without x) (without_none x)
without_idem x (z ∷ l) = idem_step x z l (ℕ_discrete x z) (without_idem x l)

-- the list without those of ns
abbrev withouts : List ℕ → List ℕ → List ℕ
withouts [] l = l
withouts (x ∷ ns) l = withouts ns (without x l)

withouts_none : (ns : List ℕ) → withouts ns [] ≡ []
withouts_none [] = refl
withouts_none (x ∷ ns) = ap (withouts ns) (without_none x) ∙ withouts_none ns

withouts_without : (ns : List ℕ) (b : ℕ) (l : List ℕ) → withouts ns (without b l) ≡ without b (withouts ns l)
withouts_without [] b l = refl
withouts_without (x ∷ ns) b l = ap (withouts ns) (without_comm x b l) ∙ withouts_without ns b (without x l)

withouts_in : (ns : List ℕ) (b : ℕ) (l : List ℕ) → In b ns → withouts ns (without b l) ≡ withouts ns l
withouts_in [] b l i = absurd (Memᴰ.not-nil i)
withouts_in (x ∷ ns) b l (Memᴰ.head e) = ap (withouts ns) (subst (λ z. without x (without z l) ≡ without x l) (sym e) (without_idem x l))
withouts_in (x ∷ ns) b l (Memᴰ.tail i) = ap (withouts ns) (without_comm x b l) ∙ withouts_in ns b (without x l) i

drop_cons_in : (ns : List ℕ) (b : ℕ) (l : List ℕ) → In b ns → withouts ns (b ∷ l) ≡ withouts ns l
drop_cons_in [] b l i = absurd (Memᴰ.not-nil i)
drop_cons_in (x ∷ ns) b l (Memᴰ.head e) = ap (withouts ns) (without_yes x b l (sym e))
drop_cons_in (x ∷ ns) b l (Memᴰ.tail i) = go (ℕ_discrete x b) (λ k. drop_cons_in ns b k i)
  where
    go : Dec (x ≡ b) → ((k : List ℕ) → withouts ns (b ∷ k) ≡ withouts ns k) → withouts ns (without x (b ∷ l)) ≡ withouts ns (without x l)
    go (yes e) h = ap (withouts ns) (without_yes x b l e)
    go (no e) h = ap (withouts ns) (without_no x b l e) ∙ h (without x l)

keep_cons_out : (ns : List ℕ) (b : ℕ) (l : List ℕ) → (In b ns → ⊥) → withouts ns (b ∷ l) ≡ b ∷ withouts ns l
keep_cons_out [] b l n = refl
keep_cons_out (x ∷ ns) b l n =
    ap (withouts ns) (without_no x b l (λ e. n (Memᴰ.head (sym e)))) ∙ keep_cons_out ns b (without x l) (λ i. n (Memᴰ.tail i))

withouts_snoc : (ns : List ℕ) (b : ℕ) (l : List ℕ) → withouts (ns ++ (b ∷ [])) l ≡ without b (withouts ns l)
withouts_snoc [] b l = refl
withouts_snoc (x ∷ ns) b l = withouts_snoc ns b (without x l)

-- a place in a list
pub place_first : (x y : ℕ) (l : List ℕ) → x ≡ y → place_in x (y ∷ l) ≡ 0
unfolding place_in
place_first x y l e = yes_if zero (suc (place_in x l)) (eqb x y) (eqb_says x y) e

pub place_later : (x y : ℕ) (l : List ℕ) → (x ≡ y → ⊥) → place_in x (y ∷ l) ≡ suc (place_in x l)
unfolding place_in
place_later x y l e = no_if zero (suc (place_in x l)) (eqb x y) (eqb_says x y) e

pub place_none : (x : ℕ) → place_in x [] ≡ 0
unfolding place_in
place_none x = refl

found_step : (b y : ℕ) (l : List ℕ) → Dec (b ≡ y) → (place_in b l < length l → In b l) → place_in b (y ∷ l) < suc (length l) → In b (y ∷ l)
found_step b y l (yes e) f h = Memᴰ.head e
found_step b y l (no e) f h = Memᴰ.tail (f (omega (arith, place_later b y l e)))

place_found : (b : ℕ) (l : List ℕ) → place_in b l < length l → In b l
place_found b [] h = absurd (omega arith)
place_found b (y ∷ l) h = found_step b y l (ℕ_discrete b y) (place_found b l) h

-- the bytes of variables
unfoldable pub variable_bytes : List ℕ → List ℕ
variable_bytes [] = []
variable_bytes (b ∷ l) = if ltb b 128 then variable_bytes l else (b ∷ variable_bytes l)

pub vb_none : variable_bytes [] ≡ []
unfolding variable_bytes
vb_none = refl

pub vb_symbol : (b : ℕ) (l : List ℕ) → b < 128 → variable_bytes (b ∷ l) ≡ variable_bytes l
unfolding variable_bytes
vb_symbol b l h = rw (lt-ltb b 128 h) refl

pub vb_variable : (b : ℕ) (l : List ℕ) → 128 ≤ b → variable_bytes (b ∷ l) ≡ b ∷ variable_bytes l
unfolding variable_bytes
vb_variable b l h = rw (le-ltb b 128 h) refl

pub added_symbol : (b : ℕ) (ns : List ℕ) → b < 128 → added b ns ≡ ns
unfolding added
added_symbol b ns h = rw (lt-ltb b 128 h) refl

pub added_old : (b : ℕ) (ns : List ℕ) → 128 ≤ b → place_in b ns < length ns → added b ns ≡ ns
unfolding added
added_old b ns h k = rw (le-ltb b 128 h, lt-ltb (place_in b ns) (length ns) k) refl

pub added_new : (b : ℕ) (ns : List ℕ) → 128 ≤ b → length ns ≤ place_in b ns → added b ns ≡ ns ++ (b ∷ [])
unfolding added
added_new b ns h k = rw (le-ltb b 128 h, le-ltb (place_in b ns) (length ns) k) refl

-- what is collected is the list of first occurrences
collect_step : (ns : List ℕ) (b : ℕ) (l : List ℕ) → ((ms : List ℕ) → collect ms l ≡ ms ++ withouts ms (distinct (variable_bytes l))) → Dec (b < 128) →
    Dec (place_in b ns < length ns) →
    collect (added b ns) l ≡ ns ++ withouts ns (distinct (variable_bytes (b ∷ l)))
collect_step ns b l f (yes h) d = ap (λ ms. collect ms l) (added_symbol b ns h) ∙ f ns ∙ ap (λ z. ns ++ withouts ns (distinct z)) (sym (vb_symbol b l h))
collect_step ns b l f (no h) (yes k) =
    let v : 128 ≤ b = omega arith in
    let i = place_found b ns k in
    ap (λ ms. collect ms l) (added_old b ns v k) ∙ f ns
    ∙ ap (λ z. ns ++ z)
    (sym (ap (λ z. withouts ns (distinct z)) (vb_variable b l v)
    ∙ unfold distinct in drop_cons_in ns b (without b (distinct (variable_bytes l))) i ∙ withouts_in ns b (distinct (variable_bytes l)) i))
collect_step ns b l f (no h) (no k) =
    let v : 128 ≤ b = omega arith in
    let n : In b ns → ⊥ = λ i. k (place_in_below b ns i) in
    ap (λ ms. collect ms l) (added_new b ns v (omega arith)) ∙ f (ns ++ (b ∷ []))
    ∙ append_assoc ns (b ∷ []) (withouts (ns ++ (b ∷ [])) (distinct (variable_bytes l)))
    ∙ ap (λ z. ns ++ (b ∷ z)) (withouts_snoc ns b (distinct (variable_bytes l)) ∙ sym (withouts_without ns b (distinct (variable_bytes l))))
    ∙ ap (λ z. ns ++ z)
    (sym (ap (λ z. withouts ns (distinct z)) (vb_variable b l v) ∙ unfold distinct in keep_cons_out ns b (without b (distinct (variable_bytes l))) n))

collect_is : (ns l : List ℕ) → collect ns l ≡ ns ++ withouts ns (distinct (variable_bytes l))
unfolding collect variable_bytes distinct
collect_is ns [] = sym (ap (λ z. ns ++ z) (withouts_none ns) ∙ append-nil ns)
collect_is ns (b ∷ l) = collect_step ns b l (λ ms. collect_is ms l) (dec_lt b 128) (dec_lt (place_in b ns) (length ns))

pub collect_distinct : (l : List ℕ) → collect [] l ≡ distinct (variable_bytes l)
collect_distinct l = collect_is [] l
