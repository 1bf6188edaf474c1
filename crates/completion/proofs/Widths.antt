-- The fields of a result, whatever the rules and the entries: how many bytes of contents each has, and that each is a byte. Assumes nothing.
-- Read first: specs/Calls, terms/proofs/Limits (Bytes).
use mathlib.Core.Path.{◌≡◌, ap, ◌∙◌}
use mathlib.Core.List.{List, [], ◌∷◌, ◌++◌, flat_map}
use Prim.Native.Nat.{ℕ, ◌+◌, ◌≤◌, ◌<◌}
use native.Mathlib.Omega.{arith}
use lib.ListN.{length, length-append}
use Rattle.terms.specs.Base.{number_bytes, Field, field_bytes, Every, of_none, of_cons}
use Rattle.terms.specs.Term.{Pair, size, term_bytes}
use Rattle.terms.proofs.Bytes.{length_bytes}
use Rattle.terms.proofs.Limits.{Bytes, number_bytes_bytes, length_number_bytes, field_bytes_bytes, length_field_bytes, term_bytes_bytes}
use Rattle.terms.proofs.Every.{every_head, every_tail, every_append}
use Rattle.rewriting.specs.Overlap.{Rule}
use Rattle.completion.specs.Turn.{Origin, waiting_input, removed_rule, scanned_input, overlapping, Entry}
use Rattle.completion.specs.Calls.{pair_bytes, rule_field, origin_bytes, entry_field}
use Rattle.completion.proofs.Held.{HeldPair, RuleFits}

-- a field of at most so many bytes of contents, all of them bytes
pub record FieldFits (most : ℕ) (f : Field) : Type 0 where
  pub tag_fits : f.tag < 256
  pub contents_fit : Bytes f.contents
  pub length_fits : length f.contents ≤ most

abbrev pub flat : List Field → List ℕ
flat fs = flat_map field_bytes fs

pub flat_bytes : (most : ℕ) (fs : List Field) → Every (FieldFits most) fs → Bytes (flat fs)
unfolding flat_map
flat_bytes most [] h = of_none
flat_bytes most (f ∷ fs) h =
    let k : FieldFits most f = every_head h in
    every_append (field_bytes_bytes f k.tag_fits k.contents_fit) (flat_bytes most fs (every_tail h))

pub flat_cons : (f : Field) (fs : List Field) → length (flat (f ∷ fs)) ≡ 3 + length f.contents + length (flat fs)
unfolding flat_map
flat_cons f fs = length-append (field_bytes f) (flat fs) ∙ ap (λ k. k + length (flat fs)) (length_field_bytes f)

pub pair_bytes_length : (e : Pair) → length (pair_bytes e) ≡ size e.left + size e.right
unfolding pair_bytes
pair_bytes_length e = length-append (term_bytes e.left) (term_bytes e.right) ∙ omega (arith, length_bytes e.left, length_bytes e.right)

pub pair_bytes_fit : (n : ℕ) → n ≤ 16 → (e : Pair) → HeldPair n 16 e → Bytes (pair_bytes e)
unfolding pair_bytes
pair_bytes_fit n l e h =
    every_append
    (term_bytes_bytes n 16 (omega arith) (omega arith) e.left h.left.made)
    (term_bytes_bytes n 16 (omega arith) (omega arith) e.right h.right.made)

pub rule_length : (r : Rule) → length (rule_field r).contents ≡ 2 + size r.sides.left + size r.sides.right
unfolding rule_field
rule_length r =
    length-append (number_bytes 2 r.number) (pair_bytes r.sides) ∙ omega (arith, length_number_bytes 2 r.number, pair_bytes_length r.sides)

pub rule_field_fits : (n made : ℕ) → n ≤ 16 → (r : Rule) → RuleFits n made r → FieldFits 242 (rule_field r)
unfolding rule_field
rule_field_fits n made l r h =
    record {
      tag_fits = omega arith;
      contents_fit = every_append (number_bytes_bytes 2 r.number) (pair_bytes_fit n l r.sides h.fits);
      length_fits = omega (arith, rule_length r, h.fits.left.small, h.fits.right.small);
    }

three_bytes : (k a b : ℕ) (c : ℕ) → k < 256 → Bytes (k ∷ (number_bytes 2 a ++ number_bytes 2 b ++ number_bytes 1 c))
three_bytes k a b c h =
    of_cons h
    (every_append (every_append (number_bytes_bytes 2 a) (number_bytes_bytes 2 b)) (number_bytes_bytes 1 c))

three_length : (k a b c : ℕ) → length (k ∷ (number_bytes 2 a ++ number_bytes 2 b ++ number_bytes 1 c)) ≡ 6
three_length k a b c =
    let x = length-append (number_bytes 2 a ++ number_bytes 2 b) (number_bytes 1 c) in
    let y = length-append (number_bytes 2 a) (number_bytes 2 b) in
    omega (arith, x, y, length_number_bytes 2 a, length_number_bytes 2 b, length_number_bytes 1 c)

pub origin_bytes_fit : (o : Origin) → Bytes (origin_bytes o)
unfolding origin_bytes
origin_bytes_fit (waiting_input k) = three_bytes 1 k 0 0 (omega arith)
origin_bytes_fit (removed_rule k) = three_bytes 2 k 0 0 (omega arith)
origin_bytes_fit (scanned_input k) = three_bytes 3 k 0 0 (omega arith)
origin_bytes_fit (overlapping i o p) = three_bytes 4 i o p (omega arith)

pub origin_bytes_length : (o : Origin) → length (origin_bytes o) ≡ 6
unfolding origin_bytes
origin_bytes_length (waiting_input k) = three_length 1 k 0 0
origin_bytes_length (removed_rule k) = three_length 2 k 0 0
origin_bytes_length (scanned_input k) = three_length 3 k 0 0
origin_bytes_length (overlapping i o p) = three_length 4 i o p

pub entry_length : (e : Entry) → length (entry_field e).contents ≡ 8
unfolding entry_field
entry_length e =
    length-append (origin_bytes e.origin) (number_bytes 2 e.made) ∙ omega (arith, origin_bytes_length e.origin, length_number_bytes 2 e.made)

pub entry_field_fits : (e : Entry) → FieldFits 242 (entry_field e)
unfolding entry_field
entry_field_fits e =
    record {
      tag_fits = omega arith;
      contents_fit = every_append (origin_bytes_fit e.origin) (number_bytes_bytes 2 e.made);
      length_fits = omega (arith, entry_length e);
    }
