-- How unification begins: first classes (a variable with its first node), then the two terms joined; where the ends are right, the bytes spell the
-- terms. Assumes nothing.
-- Read first: specs/Result (Laid, EndAt, FirstClass), classes/specs/Arena (Spells, Classes), classes/specs/Unique.
use mathlib.Core.Path.{◌≡◌, sym, ap, subst, ◌∙◌}
use mathlib.Core.List.{List, [], ◌∷◌, ◌++◌, append_assoc, append-nil}
use Prim.Native.Nat.{ℕ, suc, ◌+◌, ◌-◌, ◌≤◌, ◌<◌}
use native.Mathlib.Omega.{arith}
use native.Mathlib.Decide.{dec_lt}
use lib.ListN.{length, drop, set, length-drop}
use lib.Seq.{drop_at, drop-cons, drop-drop}
use mathlib.Core.Option.{some}
use Rattle.terms.specs.Term.{Term, var, node, Terms, nil, cons, size, sizes, term_bytes, terms_bytes, subst_term, subterm_in, count}
use Rattle.terms.specs.Scan.{skip}
use Rattle.terms.specs.Flat.{Wf, Wfs}
use Rattle.terms.proofs.Scans.{owes_symbol}
use Rattle.terms.proofs.Flats.{skip_term, wf_subterm_in}
use Rattle.terms.proofs.Bytes.{length_bytes, length_bytes_all, around_in}
use Rattle.terms.proofs.Subst.{Subst}
use Rattle.classes.specs.Arena.{Spells, free, made, SpellsAll, none, more, same, NodesSpell, Joins, Classes}
use Rattle.classes.specs.Steps.{at, Each, arena, Ready, joined}
use Rattle.mgu.specs.Result.{Laid, LaidOut, EndAt, FirstLike, FirstClass, Firsts, Joined}
use Rattle.classes.specs.Unique.{spells_within, spells_one, unfree}
use Rattle.classes.proofs.Filled.{FilledTo, filled_start, filled_more}
use Rattle.classes.proofs.Joining.{join_ready, join_classes, join_joins}
use Rattle.mgu.proofs.Firsts.{firsts_start, firsts_more}

-- what the loop of `fill_class` keeps
pub record Classing (l class₀ class firsts : List ℕ) (i : ℕ) : Type 0 where
  pub filled : FilledTo (FirstClass l) class₀ class i
  pub seen : Firsts l firsts i

pub classing_start : (l class firsts : List ℕ) → length firsts ≡ 256 → ((b : ℕ) → at firsts b ≡ 0) → Classing l class class firsts 0
classing_start l class firsts h z = record { filled = filled_start (FirstClass l) class; seen = firsts_start l firsts h z }

pub classing_more : (l class₀ class firsts : List ℕ) (i b c : ℕ) → Classing l class₀ class firsts i → i < length class₀ → b ≡ at l i → b < 256 →
    FirstClass l i c × (c ≤ i) →
    Classing l class₀ (set class i c) (set firsts b (c + 1)) (i + 1)
classing_more l class₀ class firsts i b c g h e m f = record {
  filled = filled_more (FirstClass l) class₀ class i c g.filled h f.0;
  seen = firsts_more l firsts i b c g.seen e m f.0 f.1;
}

-- the first classes are right
first_same : (l : List ℕ) (i j r q : ℕ) → at l i ≡ at l j → FirstLike l i r → FirstLike l j q → r ≡ q
first_same l i j r q e f g = go (dec_lt r q) (dec_lt q r)
  where
    go : Dec (r < q) → Dec (q < r) → r ≡ q
    go (yes h) d = absurd (g.first r h (f.alike ∙ e))
    go (no h) (yes k) = absurd (f.first q k (g.alike ∙ sym e))
    go (no h) (no k) = omega arith

module _ (l tab ends cs : List ℕ) (f : Each (FirstClass l) cs (length l)) where
  start_within : (i : ℕ) → i < length l → Dec (at l i < 128) → at cs i < length l
  start_within i h (yes s) = omega (arith, (f i h).symbol s)
  start_within i h (no s) = omega (arith, ((f i h).variable (omega arith)).within)

  pub first_within : (i : ℕ) → i < length l → at cs i < length l
  first_within i h = start_within i h (dec_lt (at l i) 128)

  start_shared : (i j : ℕ) → i < length l → j < length l → 128 ≤ at l i → at l i ≡ at l j → at cs i ≡ at cs j
  start_shared i j hi hj b e = first_same l i j (at cs i) (at cs j) e ((f i hi).variable b) ((f j hj).variable (omega arith))

  start_rooted : (i : ℕ) → i < length l → Dec (at l i < 128) → at cs (at cs i) ≡ at cs i
  start_rooted i h (yes s) = ap (at cs) ((f i h).symbol s)
  start_rooted i h (no s) =
      let g = (f i h).variable (omega arith) in
      start_shared (at cs i) i (first_within i h) h (omega (arith, g.alike)) g.alike

  start_joins : (τ : Subst) (i : ℕ) → i < length l → Dec (at l i < 128) → Joins (arena l tab ends) τ i (at cs i)
  start_joins τ i h (yes b) s t x y =
      ap (subst_term τ) (spells_one (arena l tab ends) x (subst (λ z. Spells (arena l tab ends) same z t) ((f i h).symbol b) y))
  start_joins τ i h (no b) s t x y =
      let g = (f i h).variable (omega arith) in
      let e : at l i ≡ 128 + (at l i - 128) = omega arith in
      ap (subst_term τ) (unfree (arena l tab ends) (at l i - 128) x e ∙ sym (unfree (arena l tab ends) (at l i - 128) y (g.alike ∙ e)))

  start_classes : (n₁ n₂ : ℕ) → Classes (arena l tab ends) n₁ n₂ (at cs)
  start_classes n₁ n₂ =
      record {
        within = first_within;
        rooted = λ i h. start_rooted i h (dec_lt (at l i) 128);
        shared = start_shared;
        headed = λ i h s. subst (λ z. at l z < 128) (sym ((f i h).symbol s)) s;
        respects = λ τ j i s t x y. start_joins τ i (spells_within (arena l tab ends) x) (dec_lt (at l i) 128) s t x y;
      }

-- where the ends are right, the bytes of a term spell it, and each of its nodes spells a term
module _ (l tab ends : List ℕ) (f : Each (EndAt l tab) ends (length l)) where
  drop_head : (p b : ℕ) (r : List ℕ) → drop p l ≡ b ∷ r → (p < length l) × (at l p ≡ b) × (drop (suc p) l ≡ r)
  drop_head p b r e =
      let h : p < length l = omega (arith, ap length e, length-drop p l) in
      let q : at l p ∷ drop (suc p) l ≡ b ∷ r = sym (drop-cons l p 0 h) ∙ e in
      (h, cc, cc)

  drop_more : (p n : ℕ) (u v : List ℕ) → drop p l ≡ u ++ v → length u ≡ n → drop (p + n) l ≡ v
  drop_more p n u v e q = sym (drop-drop n p l) ∙ ap (drop n) e ∙ drop_at u v n q

  end_is : (p : ℕ) (t : Term) (rest : List ℕ) → p < length l → Wf 128 tab t → drop p l ≡ term_bytes t ++ rest → at ends p ≡ p + size t
  end_is p t rest h w e = let k : skip tab (drop p l) 1 ≡ size t = rw e (skip_term 128 tab t w rest) in omega (arith, f p h)

  mutual
    unfolding term_bytes terms_bytes size sizes Wf Wfs count

    pub spelt : (t : Term) → Wf 128 tab t → (p : ℕ) (rest : List ℕ) → drop p l ≡ term_bytes t ++ rest → Spells (arena l tab ends) same p t
    spelt (var x) w p rest e = let h = drop_head p (128 + x) rest e in free h.0 h.1
    spelt (node g ts) w p rest e =
        let h = drop_head p g (terms_bytes ts ++ rest) e in
        made h.0 h.1 (omega (arith, w.0))
        (subst (λ k. SpellsAll (arena l tab ends) same (suc p) k ts) (w.1 ∙ sym (owes_symbol tab g w.0)) (spelts ts w.2 (suc p) rest h.2))

    spelts : (ts : Terms) → Wfs 128 tab ts → (p : ℕ) (rest : List ℕ) → drop p l ≡ terms_bytes ts ++ rest → SpellsAll (arena l tab ends) same p (count ts) ts
    spelts nil w p rest e = none
    spelts (cons t ts) w p rest e =
        let e' : drop p l ≡ term_bytes t ++ (terms_bytes ts ++ rest) = e ∙ append_assoc (term_bytes t) (terms_bytes ts) rest in
        let s = spelt t w.0 p (terms_bytes ts ++ rest) e' in
        let q = end_is p t (terms_bytes ts ++ rest) (spells_within (arena l tab ends) s) w.0 e' in
        more s
        (subst (λ k. SpellsAll (arena l tab ends) same k (count ts) ts) (sym q)
        (spelts ts w.1 (p + size t) rest (drop_more p (size t) (term_bytes t) (terms_bytes ts ++ rest) e' (length_bytes t))))

  abbrev Some : ℕ → Type 0
  Some i = (u : Term) × Spells (arena l tab ends) same i u

  node_some : (p i n : ℕ) → Some p → ((j : ℕ) → suc p ≤ j → j < suc p + n → Some j) → p ≤ i → i < p + suc n → Dec (p < i) → Some i
  node_some p i n s g h k (yes q) = g i q (omega arith)
  node_some p i n s g h k (no q) = let e : p ≡ i = omega arith in subst (λ z. Some z) e s

  cons_some : (p i a b : ℕ) → ((j : ℕ) → p ≤ j → j < p + a → Some j) → ((j : ℕ) → p + a ≤ j → j < p + a + b → Some j) → p ≤ i → i < p + (a + b) →
      Dec (i < p + a) → Some i
  cons_some p i a b g h k q (yes r) = g i k r
  cons_some p i a b g h k q (no r) = h i (omega arith) (omega arith)

  mutual
    unfolding term_bytes terms_bytes size sizes Wf Wfs count

    inside : (t : Term) → Wf 128 tab t → (p : ℕ) (rest : List ℕ) → drop p l ≡ term_bytes t ++ rest → (i : ℕ) → p ≤ i → i < p + size t → Some i
    inside (var x) w p rest e i h k =
        node_some p i 0 ((var x, spelt (var x) w p rest e)) (λ j a b. absurd (omega arith)) h k (dec_lt p i)
    inside (node g ts) w p rest e i h k =
        node_some p i (sizes ts) ((node g ts, spelt (node g ts) w p rest e))
        (λ j a b. insides ts w.2 (suc p) rest (drop_head p g (terms_bytes ts ++ rest) e).2 j a b) h k (dec_lt p i)

    insides : (ts : Terms) → Wfs 128 tab ts → (p : ℕ) (rest : List ℕ) → drop p l ≡ terms_bytes ts ++ rest → (i : ℕ) → p ≤ i → i < p + sizes ts → Some i
    insides nil w p rest e i h k = absurd (omega arith)
    insides (cons t ts) w p rest e i h k =
        let e' : drop p l ≡ term_bytes t ++ (terms_bytes ts ++ rest) = e ∙ append_assoc (term_bytes t) (terms_bytes ts) rest in
        cons_some p i (size t) (sizes ts)
        (λ j a b. inside t w.0 p (terms_bytes ts ++ rest) e' j a b)
        (λ j a b. insides ts w.1 (p + size t) rest (drop_more p (size t) (term_bytes t) (terms_bytes ts ++ rest) e' (length_bytes t)) j a b)
        h k (dec_lt i (p + size t))

  module _ (ts : Terms) (d : Laid l tab ts) where
    laid_all : drop 0 l ≡ terms_bytes ts ++ []
    laid_all = d.bytes ∙ sym (append-nil (terms_bytes ts))

    laid_length : length l ≡ sizes ts
    laid_length = ap length d.bytes ∙ length_bytes_all ts

    laid_whole : NodesSpell (arena l tab ends)
    laid_whole i h = insides ts d.wf 0 [] laid_all i (omega arith) (omega (arith, laid_length))

    -- a node stands for the subterm that begins there
    pub laid_at : (i : ℕ) (u : Term) → subterm_in ts i ≡ some u → Spells (arena l tab ends) same i u
    laid_at i u e =
        let a = around_in ts i u e in
        spelt u (wf_subterm_in 128 tab ts i u d.wf e) i a.after
        (ap (drop i) (d.bytes ∙ a.holds) ∙ drop_at a.before (term_bytes u ++ a.after) i a.begins)

-- the two terms are joined
module _ (l tab : List ℕ) (n₁ n₂ : ℕ) (o : LaidOut l tab) (h : n₁ < length l) (k : n₂ < length l)
    (ends cs : List ℕ) (f : Each (EndAt l tab) ends (length l)) (g : Each (FirstClass l) cs (length l)) where
  pub begin_requires : length l ≤ 600 → length l ≤ length cs →
      ((n₁ < length l) × (n₂ < length l) × (length l ≤ 600) × (length l ≤ length cs)) × ((at cs n₁ < length l) × (at cs n₂ < length l))
  begin_requires a b = ((h, k, a, b), (first_within l tab ends cs g n₁ h, first_within l tab ends cs g n₂ k))

  begin_ready : length l ≤ 600 → length l ≤ length ends → length l ≤ length cs → Ready l tab ends cs
  begin_ready a p q = record { small = a; ended = p; classed = q; whole = laid_whole l tab ends f o.0 o.1; within = first_within l tab ends cs g }

  pub begun : length l ≤ 600 → length l ≤ length ends → length l ≤ length cs → (ds : List ℕ) → ds ≡ joined l cs n₁ n₂ → Joined l tab n₁ n₂ ends ds
  begun a p q ds e =
      let y = begin_ready a p q in
      record {
        ended = f;
        ready = join_ready l tab ends cs y n₁ n₂ h k ds e;
        classes = join_classes l tab ends cs y n₁ n₂ h k ds e n₁ n₂ (start_classes l tab ends cs g n₁ n₂) (λ τ j. j);
        started = join_joins l tab ends cs y n₁ n₂ h k ds e;
      }
