-- What a reading comes to: what was read, and what holds of it, or a refusal with a number of at most so many, not 7, at a place of at most e. One law
-- for each reader, beside the others of its crate; `within_bind` composes them through `◌>>=◌`. Assumes nothing.
-- Read first: specs/Forms.
use mathlib.Core.Path.{◌≡◌, refl, ◌∙◌}
use mathlib.Core.Bool.{Bool, true, false, not, ◌&&◌}
use mathlib.Core.List.{List, [], ◌∷◌}
use Prim.Native.Nat.{ℕ, zero, suc, ◌+◌, ◌≤◌}
use native.Mathlib.Omega.{arith}
use lib.Dec.{eqb, ltb, leb}
use lib.ListN.{length, length-take, length-drop}
use borrow.Author.Tests.{ltb-false, leb-true, le-leb}
use Rattle.terms.specs.Base.{number_from}
use Rattle.terms.specs.Term.{Term}
use Rattle.terms.proofs.Shape.{both_true, zero≢one}
use Rattle.reading.specs.Stops.{cut_field, wrong_tag, wrong_arity_or_rank, wrong_term, large_side}
use Rattle.reading.specs.Forms.{Reading, ok, refused, ◌>>=◌, refuse_if, ReadField, read_field, due, Symbol, arity_of, read_symbols}
use Rattle.reading.specs.Forms.{Byte, symbol, variable, neither, byte_of, ReadPart, read_terms, read_term, read_side, read_pair}
use Rattle.reading.proofs.Reading.{no_ok, ok_injective}

-- 1 to so many, and not 7: "Refusal 7 no longer occurs." [4.1 to 4.12]
abbrev pub is_refusal : ℕ → ℕ → Bool
is_refusal most n = leb 1 n && leb n most && not (eqb n 7)

pub refusal_few : (most n : ℕ) → is_refusal most n ≡ true → n ≤ most
refusal_few most n h = leb-true n most (both_true (leb 1 n) (leb n most) (both_true (leb 1 n && leb n most) (not (eqb n 7)) h).0).1

pub data Within {A : Type 0} (most e : ℕ) (Q : A → Type 0) : Reading A → Type 0 where
  reads : {a : A} → Q a → Within most e Q (ok a)
  refuses : (n at : ℕ) → is_refusal most n ≡ true → at ≤ e → Within most e Q (refused n at)

module _ {A : Type 0} {most e : ℕ} {Q : A → Type 0} where
  pub within_bind : {B : Type 0} {R : B → Type 0} (m : Reading A) (next : A → Reading B) → Within most e Q m → ((a : A) → Q a → Within most e R (next a)) →
      Within most e R (m >>= next)
  unfolding ◌>>=◌
  within_bind (ok a) next (reads q) k = k a q
  within_bind (refused n at) next (refuses _ _ p q) k = refuses n at p q

  -- what holds of what was read
  pub was_read : {m : Reading A} {a : A} → Within most e Q m → m ≡ ok a → Q a
  was_read {a = a} (reads {a = b} q) h = let r : b ≡ a = ok_injective h in rw (← r) q
  was_read (refuses n at p q) h = absurd (no_ok h)

  -- something else that holds of what was read
  pub within_also : {R : A → Type 0} {m : Reading A} → Within most e Q m → ((a : A) → m ≡ ok a → Q a → R a) → Within most e R m
  within_also (reads {a = a} q) k = reads (k a refl q)
  within_also (refuses n at p q) k = refuses n at p q

  -- fewer numbers and places are among more
  pub wider : {many f : ℕ} {m : Reading A} → most ≤ many → e ≤ f → Within most e Q m → Within many f Q m
  wider k l (reads q) = reads q
  wider {many = many} k l (refuses n at h p) =
      let a = both_true (leb 1 n && leb n most) (not (eqb n 7)) h in
      let b = both_true (leb 1 n) (leb n most) a.0 in
      refuses n at (rw (b.0, le-leb n many (let c = leb-true n most b.1 in omega arith), a.1) refl) (omega arith)

  pub never_7 : {m : Reading A} {at : ℕ} → Within most e Q m → m ≡ refused 7 at → ⊥
  never_7 (reads q) h = zero≢one (cc)
  never_7 (refuses n at p q) h =
      let r : n ≡ 7 = cc in
      let z : not (eqb n 7) ≡ true = (both_true (leb 1 n && leb n most) (not (eqb n 7)) p).1 in
      zero≢one (let y : false ≡ true = rw r at z in cc)

pub within_test : {most e : ℕ} (b : Bool) (n at : ℕ) → is_refusal most n ≡ true → at ≤ e → Within most e (λ _. b ≡ false) (refuse_if b n at)
unfolding refuse_if
within_test true n at p q = refuses n at p q
within_test false n at p q = reads refl

-- A field that was read: its contents and what stands behind it are parts of the bytes.
pub record FieldWithin (at : ℕ) (bytes : List ℕ) (f : ReadField) : Type 0 where
  pub first : f.first ≡ at
  pub contents : at + 3 + length f.contents ≡ f.end
  pub rest : f.end + length f.rest ≡ at + length bytes

pub field_within : {e : ℕ} (at : ℕ) (bytes : List ℕ) → at ≤ e → Within large_side e (FieldWithin at bytes) (read_field at bytes)
unfolding read_field
field_within at [] h = refuses cut_field at refl h
field_within at (t ∷ []) h = refuses cut_field at refl h
field_within at (t ∷ a ∷ []) h = refuses cut_field at refl h
field_within at (t ∷ a ∷ b ∷ bytes) h =
    let n : ℕ = number_from 0 (a ∷ b ∷ []) in
    within_bind _ _ (within_test (ltb (length bytes) n) cut_field at refl h) λ _ q.
    let few : n ≤ length bytes = ltb-false (length bytes) n q in
    reads (record { first = refl; contents = omega (arith, length-take n bytes); rest = omega (arith, length-drop n bytes) })

pub due_within : {e : ℕ} (tag at : ℕ) (bytes : List ℕ) → at ≤ e → Within large_side e (FieldWithin at bytes) (due tag at bytes)
unfolding due
due_within tag at [] h = refuses wrong_tag at refl h
due_within tag at (b ∷ bytes) h =
    within_bind _ _ (field_within at (b ∷ bytes) h) λ f w.
    within_bind _ _ (within_test _ wrong_tag at refl h) λ _ _. reads w

pub symbols_within : {e : ℕ} (at : ℕ) (bytes : List ℕ) → at + length bytes ≤ e → Within large_side e (λ _. Unit {0}) (read_symbols at bytes)
unfolding read_symbols
symbols_within at [] h = reads tt
symbols_within at (a ∷ []) h = reads tt
symbols_within at (a ∷ r ∷ bytes) h =
    within_bind _ _ (within_test _ wrong_arity_or_rank at refl (omega arith)) λ _ _.
    within_bind _ _ (within_test _ wrong_arity_or_rank (at + 1) refl (omega arith)) λ _ _.
    within_bind _ _ (symbols_within (at + 2) bytes (omega arith)) λ _ _. reads tt

-- a part that was read, and what stands behind it
abbrev pub Behind : {A : Type 0} → ℕ → List ℕ → ReadPart A → Type 0
Behind at bytes p = p.end + length p.rest ≡ at + length bytes

module _ (Σ : List Symbol) (e : ℕ) where
  abbrev TermsWithin : (ℕ → List ℕ → Reading (ReadPart Term)) → Type 0
  TermsWithin one = (at : ℕ) (bytes : List ℕ) → at + length bytes ≤ e → Within large_side e (Behind at bytes) (one at bytes)

  terms_within : (one : ℕ → List ℕ → Reading (ReadPart Term)) → TermsWithin one →
      (n at : ℕ) (bytes : List ℕ) → at + length bytes ≤ e → Within large_side e (Behind at bytes) (read_terms one n at bytes)
  unfolding read_terms
  terms_within one h zero at bytes k = reads refl
  terms_within one h (suc n) at bytes k =
      within_bind _ _ (h at bytes k) λ t q.
      within_bind _ _ (terms_within one h n t.end t.rest (omega arith)) λ ts r. reads (r ∙ q)

  pub term_within : (depth : ℕ) → TermsWithin (read_term Σ depth)
  unfolding read_term
  term_within zero at bytes k = refuses wrong_term at refl (omega arith)
  term_within (suc depth) at [] k = refuses wrong_term at refl (omega arith)
  term_within (suc depth) at (b ∷ bytes) k = go (byte_of Σ b) refl (λ at bytes k. term_within depth at bytes k)
    where
      go : (c : Byte) → byte_of Σ b ≡ c → TermsWithin (λ at bytes. read_term Σ depth at bytes) →
          Within large_side e (Behind at (b ∷ bytes)) (read_term Σ (suc depth) at (b ∷ bytes))
      go (symbol f) q ih =
          rw (q, read_term) (within_bind _ _ (terms_within _ ih (arity_of Σ f) (at + 1) bytes (omega arith)) λ ts r. reads (omega arith))
      go (variable x) q ih = rw (q, read_term) (let r : at + 1 + length bytes ≡ at + length (b ∷ bytes) = omega arith in reads r)
      go neither q ih = rw (q, read_term) (refuses wrong_term at refl (omega arith))

  pub side_within : TermsWithin (read_side Σ)
  unfolding read_side
  side_within at bytes k =
      within_bind _ _ (term_within (suc (length bytes)) at bytes k) λ t q.
      within_bind _ _ (within_test _ large_side at refl (omega arith)) λ _ _. reads q

  pub pair_within : (at : ℕ) (bytes : List ℕ) → at + length bytes ≤ e → Within large_side e (λ _. Unit {0}) (read_pair Σ at bytes)
  unfolding read_pair
  pair_within at bytes k =
      within_bind _ _ (side_within at bytes k) λ l p.
      within_bind _ _ (side_within l.end l.rest (omega arith)) λ r q.
      within_bind _ _ (within_test _ wrong_term r.end refl (omega arith)) λ _ _. reads tt
