-- Well-formed terms have symbols below 128; the renamed bytes of two sides, also cut from a buffer, are those of the renamed pair, which is
-- well-formed. Assumes nothing.
-- Read first: terms/specs/Flat (Wf), terms/specs/Term (renamed), proofs/Renaming (renamed_terms).
use mathlib.Core.Path.{◌≡◌, sym, ap, ◌∙◌}
use mathlib.Core.List.{List, ◌++◌, append_assoc, append-nil}
use Prim.Native.Nat.{ℕ, ◌≤◌, ◌<◌}
use native.Mathlib.Omega.{arith}
use lib.ListN.{length, drop, take}
use lib.Seq.{take_at, drop_at}
use Rattle.terms.specs.Base.{place_in}
use Rattle.terms.specs.Term.{Term, var, node, Terms, nil, cons, term_bytes, terms_bytes, Pair, pair_variables, renamed, size}
use Rattle.terms.specs.Flat.{Wf, Wfs}
use Rattle.terms.proofs.Flats.{wf_below, wf_subst}
use Rattle.terms.proofs.Subst.{In}
use Rattle.terms.proofs.Below.{place_in_below, in_pair_left, in_pair_right}
use Rattle.terms.proofs.Limits.{variables_few, renamed_left_size, renamed_right_size}
use Rattle.terms.proofs.Bytes.{length_bytes}
use Rattle.terms.proofs.Rename.{renamed_sides}
use Rattle.naming.specs.Names.{renamed_bytes}
use Rattle.naming.proofs.Renaming.{Low, Lows, renamed_terms}

mutual
  unfolding Wf Low

  pub wf_low : (n : ℕ) (tab : List ℕ) (t : Term) → Wf n tab t → Low t
  wf_low n tab (var x) w = tt
  wf_low n tab (node f ts) w = (let h : f < 16 = w.0 in omega arith, wfs_low n tab ts w.2)

  wfs_low : (n : ℕ) (tab : List ℕ) (ts : Terms) → Wfs n tab ts → Lows ts
  wfs_low n tab nil w = tt
  wfs_low n tab (cons t ts) w = (wf_low n tab t w.0, wfs_low n tab ts w.1)

pub renamed_pair : (e : Pair) → Low e.left → Low e.right →
    renamed_bytes (term_bytes e.left ++ term_bytes e.right) ≡ term_bytes (renamed e).left ++ term_bytes (renamed e).right
unfolding terms_bytes Lows
renamed_pair e v w =
    ap (λ z. renamed_bytes (term_bytes e.left ++ z)) (sym (append-nil (term_bytes e.right)))
    ∙ renamed_terms (cons e.left (cons e.right nil)) (v, (w, tt))
    ∙ ap terms_bytes (sym (renamed_sides e))
    ∙ ap (λ z. term_bytes (renamed e).left ++ z) (append-nil (term_bytes (renamed e).right))

-- both sides renamed at the front of a buffer d, and cut from it
module _ (e : Pair) (v : Low e.left) (w : Low e.right) (d rest : List ℕ)
    (r : d ≡ renamed_bytes (term_bytes e.left ++ term_bytes e.right) ++ rest) where
  sides_are : d ≡ term_bytes (renamed e).left ++ (term_bytes (renamed e).right ++ rest)
  sides_are =
      r ∙ ap (λ z. z ++ rest) (renamed_pair e v w) ∙ append_assoc (term_bytes (renamed e).left) (term_bytes (renamed e).right) rest

  left_long : length (term_bytes (renamed e).left) ≡ size e.left
  left_long = length_bytes (renamed e).left ∙ renamed_left_size e

  pub left_cut : (a : ℕ) → a ≡ size e.left → take a d ≡ term_bytes (renamed e).left
  left_cut a p = ap (take a) sides_are ∙ take_at (term_bytes (renamed e).left) (term_bytes (renamed e).right ++ rest) a (left_long ∙ sym p)

  pub right_cut : (a b : ℕ) → a ≡ size e.left → b ≡ size e.right → take b (drop a d) ≡ term_bytes (renamed e).right
  right_cut a b p q =
      ap (λ z. take b (drop a z)) sides_are
      ∙ ap (take b) (drop_at (term_bytes (renamed e).left) (term_bytes (renamed e).right ++ rest) a (left_long ∙ sym p))
      ∙ take_at (term_bytes (renamed e).right) rest b (length_bytes (renamed e).right ∙ renamed_right_size e ∙ sym q)

-- variables below n: at most n different ones
pub wf_few : (n : ℕ) (tab : List ℕ) (e : Pair) → Wf n tab e.left → Wf n tab e.right → length (pair_variables e) ≤ n
wf_few n tab e v w = variables_few n e (wf_below n tab e.left v) (wf_below n tab e.right w)

module _ (m n : ℕ) (tab : List ℕ) (e : Pair) (few : length (pair_variables e) ≤ m) where
  below : (x : ℕ) → In x (pair_variables e) → place_in x (pair_variables e) < m
  below x i = omega (arith, place_in_below x (pair_variables e) i, few)

  pub renamed_left_wf : Wf n tab e.left → Wf m tab (renamed e).left
  unfolding renamed Wf
  renamed_left_wf w = wf_subst n m tab (λ x. var (place_in x (pair_variables e))) e.left w (λ x i. below x (in_pair_left e x i))

  pub renamed_right_wf : Wf n tab e.right → Wf m tab (renamed e).right
  unfolding renamed Wf
  renamed_right_wf w = wf_subst n m tab (λ x. var (place_in x (pair_variables e))) e.right w (λ x i. below x (in_pair_right e x i))
