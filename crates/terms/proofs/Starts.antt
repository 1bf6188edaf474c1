-- Bytes that begin with those of terms: their first byte, their first term and what is behind it. Assumes nothing.
-- Read first: specs/Flat, proofs/Flats.
use mathlib.Core.Path.{◌≡◌, refl, ap, sym, ◌∙◌}
use mathlib.Core.List.{List, [], ◌∷◌, ◌++◌, append_assoc}
use mathlib.Core.Option.{some}
use Prim.Native.Nat.{ℕ, ◌+◌, ◌-◌, ◌<◌, ◌≤◌}
use native.Mathlib.Omega.{arith}
use native.Mathlib.Nat.{zero-add}
use lib.ListN.{length, get_or, take, drop, length-drop}
use lib.Seq.{take_all, drop_at}
use Rattle.terms.specs.Term.{Term, var, node, Terms, nil, cons, term_bytes, terms_bytes, size, subterm_at, count}
use Rattle.terms.specs.Scan.{owes, skip}
use Rattle.terms.specs.Flat.{Wf, Starts, StartAll}
use Rattle.terms.proofs.Bytes.{length_bytes, around}
use Rattle.terms.proofs.Scans.{owes_symbol}
use Rattle.terms.proofs.Flats.{wf_subterm}

-- what `term_end` says of the bytes s, from their start
abbrev pub IsEnd : List ℕ → List ℕ → ℕ → Type 0
IsEnd tab s e = (x : Term) → Starts tab (drop 0 s) x → e ≡ 0 + size x

pub ended : (tab s : List ℕ) (e : ℕ) (x : Term) → IsEnd tab s e → Starts tab s x → e ≡ size x
ended tab s e x h b = h x b ∙ zero-add (size x)

-- the part of l from e on, as the code's &l[e..] is
abbrev pub from : List ℕ → ℕ → List ℕ
from l e = take (length l - e) (drop e l)

pub from_drop : (l : List ℕ) (e : ℕ) → from l e ≡ drop e l
from_drop l e = take_all (length l - e) (drop e l) (omega (arith, length-drop e l))

pub starts_some : (tab l : List ℕ) (x : Term) → Starts tab l x → length l ≡ 0 → ⊥
unfolding term_bytes
starts_some tab l (var a) b h = omega (arith, ap length b.bytes)
starts_some tab l (node f ts) b h = omega (arith, ap length b.bytes)

-- the first byte
pub head_var : (tab l : List ℕ) (x : Term) → Starts tab l x → 16 ≤ get_or l 0 0 → (a : ℕ) × (x ≡ var a)
unfolding term_bytes Wf
head_var tab l (var a) b h = (a, refl)
head_var tab l (node f ts) b h = absurd (omega (arith, ap (λ (k : List ℕ). get_or k 0 0) b.bytes, b.wf.0))

pub head_node : (tab l : List ℕ) (x : Term) → Starts tab l x → get_or l 0 0 < 16 →
    (ts : Terms) × (x ≡ node (get_or l 0 0) ts) × StartAll tab (from l 1) (owes tab (get_or l 0 0)) ts
unfolding term_bytes Wf
head_node tab l (var a) b h = absurd (omega (arith, ap (λ (k : List ℕ). get_or k 0 0) b.bytes))
head_node tab l (node f ts) b h =
    let e : get_or l 0 0 ≡ f = ap (λ (k : List ℕ). get_or k 0 0) b.bytes in (
      ts,
      rw e refl,
      record {
        number = rw e (b.wf.1 ∙ sym (owes_symbol tab f b.wf.0));
        wf = b.wf.2;
        rest = b.rest;
        bytes = from_drop l 1 ∙ ap (drop 1) b.bytes;
      },
    )

-- the first of several terms, and the others
pub first : (tab l : List ℕ) (n : ℕ) (xs : Terms) → StartAll tab l n xs → (n ≡ 0 → ⊥) →
    (x : Term) × (ys : Terms) × (xs ≡ cons x ys) × Starts tab l x × ((e : ℕ) → e ≡ size x → StartAll tab (from l e) (n - 1) ys)
unfolding term_bytes Wf count
first tab l n nil b h = absurd (h (sym b.number))
first tab l n (cons x ys) b h =
    let d : l ≡ term_bytes x ++ (terms_bytes ys ++ b.rest) = b.bytes ∙ append_assoc (term_bytes x) (terms_bytes ys) b.rest in (
      x,
      ys,
      refl,
      record { wf = b.wf.0; rest = terms_bytes ys ++ b.rest; bytes = d },
      λ e p. record {
        number = omega (arith, b.number);
        wf = b.wf.1;
        rest = b.rest;
        bytes = from_drop l e ∙ ap (drop e) d ∙ drop_at (term_bytes x) (terms_bytes ys ++ b.rest) e (length_bytes x ∙ sym p);
      },
    )

pub none_left : (tab l : List ℕ) (n : ℕ) (xs : Terms) → StartAll tab l n xs → n ≡ 0 → xs ≡ nil
unfolding count
none_left tab l n nil b h = refl
none_left tab l n (cons x ys) b h = absurd (omega (arith, b.number))

-- a subterm has at least a byte, so the walk goes on
skip_pos : (tab l : List ℕ) → (length l ≡ 0 → ⊥) → 0 < skip tab l 1
unfolding skip
skip_pos tab [] h = absurd (h refl)
skip_pos tab (b ∷ l) h = omega arith

pub end_pos : (tab l : List ℕ) (e : ℕ) → (length l ≡ 0 → ⊥) → e ≡ 0 + skip tab (drop 0 l) 1 → 0 < e
end_pos tab l e h p = omega (arith, skip_pos tab l h)

-- The subterm at p begins p bytes behind its term.
pub starts_inside : (tab l : List ℕ) (x : Term) (p : ℕ) (u : Term) → Starts tab l x → subterm_at x p ≡ some u → Starts tab (drop p l) u
starts_inside tab l x p u b e =
    let r = around x p u e in
    record {
      wf = wf_subterm 32 tab x p u b.wf e;
      rest = r.after ++ b.rest;
      bytes = ap (drop p) (b.bytes ∙ ap (λ (m : List ℕ). m ++ b.rest) r.holds ∙ append_assoc r.before (term_bytes u ++ r.after) b.rest)
          ∙ drop_at r.before ((term_bytes u ++ r.after) ++ b.rest) p r.begins
          ∙ append_assoc (term_bytes u) r.after b.rest;
    }
