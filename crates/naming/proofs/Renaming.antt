-- Numbering the variables in the bytes of terms by first occurrence is renaming the terms. Assumes nothing.
-- Read first: specs/Names (named, renamed_bytes), terms/proofs/Rename (renames), proofs/Collecting.
use mathlib.Core.Path.{◌≡◌, refl, sym, ap, ap₂, ◌∙◌}
use mathlib.Core.List.{List, [], ◌∷◌, ◌++◌, map, map-append}
use Prim.Native.Nat.{ℕ, ◌+◌, ◌≤◌, ◌<◌}
use native.Mathlib.Omega.{arith}
use native.Mathlib.Decide.{dec_lt}
use lib.ListN.{length, length-map}
use borrow.Author.Tests.{lt-ltb, le-ltb}
use Rattle.terms.specs.Base.{distinct, place_in}
use Rattle.terms.specs.Term.{Term, var, node, Terms, nil, cons, variables, variables_of, subst_term, subst_terms, term_bytes, terms_bytes}
use Rattle.terms.proofs.Subst.{In}
use Rattle.terms.proofs.Rename.{renames, distinct_map, place_in_map}
use Rattle.naming.specs.Names.{collect, named, renamed_bytes}
use Rattle.naming.proofs.Collecting.{variable_bytes, vb_none, vb_symbol, vb_variable, collect_distinct}

-- the variables in the bytes of terms
vb_append : (l k : List ℕ) → variable_bytes (l ++ k) ≡ variable_bytes l ++ variable_bytes k
unfolding variable_bytes
vb_append [] k = refl
vb_append (b ∷ l) k = go (dec_lt b 128) (vb_append l k)
  where
    go : Dec (b < 128) → variable_bytes (l ++ k) ≡ variable_bytes l ++ variable_bytes k →
        variable_bytes (b ∷ (l ++ k)) ≡ variable_bytes (b ∷ l) ++ variable_bytes k
    go (yes h) e = vb_symbol b (l ++ k) h ∙ e ∙ ap (λ z. z ++ variable_bytes k) (sym (vb_symbol b l h))
    go (no h) e = let v : 128 ≤ b = omega arith in vb_variable b (l ++ k) v ∙ ap (◌∷◌ b) e ∙ ap (λ z. z ++ variable_bytes k) (sym (vb_variable b l v))

-- symbols are below 128
unfoldable mutual
  pub Low : Term → Type 0
  Low (var x) = Unit {0}
  Low (node f ts) = (f < 128) × Lows ts

  pub Lows : Terms → Type 0
  Lows nil = Unit {0}
  Lows (cons t ts) = Low t × Lows ts

mutual
  unfolding term_bytes terms_bytes variables variables_of Low Lows

  vb_term : (t : Term) → Low t → variable_bytes (term_bytes t) ≡ map (λ x. 128 + x) (variables t)
  vb_term (var x) w = vb_variable (128 + x) [] (omega arith) ∙ ap (◌∷◌ (128 + x)) vb_none
  vb_term (node f ts) w = vb_symbol f (terms_bytes ts) w.0 ∙ vb_terms ts w.1

  pub vb_terms : (ts : Terms) → Lows ts → variable_bytes (terms_bytes ts) ≡ map (λ x. 128 + x) (variables_of ts)
  vb_terms nil w = vb_none
  vb_terms (cons t ts) w =
      vb_append (term_bytes t) (terms_bytes ts) ∙ ap₂ ◌++◌ (vb_term t w.0) (vb_terms ts w.1)
      ∙ sym (map-append (λ x. 128 + x) (variables t) (variables_of ts))

pub up_inj : (l : List ℕ) (x y : ℕ) → In x l → In y l → 128 + x ≡ 128 + y → x ≡ y
up_inj l x y i j e = omega arith

pub named_symbol : (ns : List ℕ) (b : ℕ) → b < 128 → named ns b ≡ b
unfolding named
named_symbol ns b h = rw (lt-ltb b 128 h) refl

pub named_variable : (ns : List ℕ) (b : ℕ) → 128 ≤ b → named ns b ≡ 128 + place_in b ns
unfolding named
named_variable ns b h = rw (le-ltb b 128 h) refl

module _ (ds : List ℕ) where
  mutual
    unfolding term_bytes terms_bytes subst_term subst_terms Low Lows

    named_term : (t : Term) → Low t → map (named (map (λ x. 128 + x) ds)) (term_bytes t) ≡ term_bytes (subst_term (λ x. var (place_in x ds)) t)
    named_term (var x) w =
        ap (λ z. z ∷ [])
        (named_variable (map (λ x. 128 + x) ds) (128 + x) (omega arith) ∙ ap (λ z. 128 + z) (place_in_map (λ x. 128 + x) x ds (up_inj (x ∷ ds))))
    named_term (node f ts) w = ap₂ ◌∷◌ (named_symbol (map (λ x. 128 + x) ds) f w.0) (named_terms ts w.1)

    named_terms : (ts : Terms) → Lows ts → map (named (map (λ x. 128 + x) ds)) (terms_bytes ts) ≡ terms_bytes (subst_terms (λ x. var (place_in x ds)) ts)
    named_terms nil w = refl
    named_terms (cons t ts) w =
        map-append (named (map (λ x. 128 + x) ds)) (term_bytes t) (terms_bytes ts) ∙ ap₂ ◌++◌ (named_term t w.0) (named_terms ts w.1)

-- numbering the bytes of terms is renaming the terms
pub renamed_terms : (ts : Terms) → Lows ts → renamed_bytes (terms_bytes ts) ≡ terms_bytes (renames ts)
unfolding renamed_bytes renames
renamed_terms ts w =
    ap (λ z. map (named z) (terms_bytes ts))
    (collect_distinct (terms_bytes ts) ∙ ap distinct (vb_terms ts w) ∙ distinct_map (λ x. 128 + x) (variables_of ts) (up_inj (variables_of ts)))
    ∙ named_terms (distinct (variables_of ts)) ts w

-- a byte for a byte
pub length_renamed : (l : List ℕ) → length (renamed_bytes l) ≡ length l
unfolding renamed_bytes
length_renamed l = length-map l (named (collect [] l))
