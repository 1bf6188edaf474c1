-- What is read from bytes: a term over the symbols, with variables below 16, whose bytes stand at the front. Assumes nothing.
-- Read first: specs/Forms, specs/Over.
use mathlib.Core.Path.{◌≡◌, refl, sym, ap, subst, subst⁻¹, ◌∙◌}
use mathlib.Core.Bool.{Bool, true, false, ◌&&◌}
use mathlib.Core.List.{List, [], ◌∷◌, ◌++◌, append_assoc}
use Prim.Native.Nat.{ℕ, zero, suc, ◌+◌, ◌-◌, ◌≤◌, ◌<◌}
use native.Mathlib.Omega.{arith}
use lib.Dec.{leb}
use lib.ListN.{length}
use borrow.Author.Tests.{ltb-true, ltb-false, leb-true, lt-ltb, le-ltb, le-leb}
use Rattle.terms.proofs.Shape.{zero≢one, both_true}
use Rattle.terms.specs.Term.{Term, var, node, Terms, nil, cons, size, sizes, term_bytes, terms_bytes, count}
use Rattle.terms.proofs.Limits.{Made, MadeAll}
use Rattle.reading.specs.Forms.{Reading, ok, refused, ◌>>=◌, refuse_if, Symbol, has, Has, arity_of, Byte, symbol, variable, neither, byte_of, ReadPart}
use Rattle.reading.specs.Forms.{read_term, read_terms}
use Rattle.reading.specs.Over.{Over, OverAll}

pub no_ok : {A : Type 0} {n at : ℕ} {a : A} → refused n at ≡ ok a → ⊥
no_ok e = zero≢one (cc)

pub ok_injective : {A : Type 0} {a b : A} → ok a ≡ ok b → a ≡ b
ok_injective e = cc

-- A reading that came to its end has read what stands before its last step.
pub from_bind : {A B C : Type 0} (m : Reading A) (next : A → Reading B) (b : B) → (m >>= next) ≡ ok b →
    ((a : A) → m ≡ ok a → next a ≡ ok b → C) → C
unfolding ◌>>=◌
from_bind (ok a) next b e f = f a refl e
from_bind (refused n at) next b e f = absurd (no_ok e)

-- A reading that goes on, and one that does not.
pub bind_ok : {A B : Type 0} {m : Reading A} {a : A} (f : A → Reading B) → m ≡ ok a → (m >>= f) ≡ f a
unfolding ◌>>=◌
bind_ok f e = rw e refl

pub bind_refused : {A B : Type 0} {m : Reading A} {n p : ℕ} (f : A → Reading B) → m ≡ refused n p → (m >>= f) ≡ refused n p
unfolding ◌>>=◌
bind_refused f e = rw e refl

-- What is refused, and what was not.
pub refuses : {A : Type 0} (b : Bool) (n p : ℕ) (f : Unit {0} → Reading A) → b ≡ true → (refuse_if b n p >>= f) ≡ refused n p
unfolding ◌>>=◌ refuse_if
refuses b n p f e = rw e refl

pub passed : (b : Bool) (n at : ℕ) (u : Unit {0}) → refuse_if b n at ≡ ok u → b ≡ false
unfolding refuse_if
passed true n at u e = absurd (no_ok e)
passed false n at u e = refl

-- A table without holes: its symbols are the numbers below its length.
pub has_below : (Σ : List Symbol) (f : ℕ) → Has Σ f → f < length Σ
unfolding has
has_below Σ f h = ltb-true f (length Σ) h

pub below_has : (Σ : List Symbol) (f : ℕ) → f < length Σ → Has Σ f
unfolding has
below_has Σ f h = lt-ltb f (length Σ) h

has_not : (Σ : List Symbol) (f : ℕ) → length Σ ≤ f → has Σ f ≡ false
unfolding has
has_not Σ f h = le-ltb f (length Σ) h

pub not_has : (Σ : List Symbol) (f : ℕ) → has Σ f ≡ false → length Σ ≤ f
unfolding has
not_has Σ f h = ltb-false f (length Σ) h

-- What a byte is: a symbol of the table by its number, or a variable from 0 to 15.
pub ByteIs : List Symbol → ℕ → Byte → Type 0
ByteIs Σ b (symbol f) = (f ≡ b) × Has Σ f
ByteIs Σ b (variable x) = (b ≡ 0x80 + x) × (x < 16)
ByteIs Σ b neither = Unit {0}

pub byte_is : (Σ : List Symbol) (b : ℕ) → ByteIs Σ b (byte_of Σ b)
unfolding ByteIs byte_of
byte_is Σ b = go (has Σ b) (leb 0x80 b && leb b 0x8f) refl refl
  where
    go : (p q : Bool) → has Σ b ≡ p → (leb 0x80 b && leb b 0x8f) ≡ q →
        ByteIs Σ b (byte_of Σ b)
    go true q h k = rw (h, byte_of) (refl, h)
    go false true h k =
        let c = both_true (leb 0x80 b) (leb b 0x8f) k in
        let lo : 0x80 ≤ b = leb-true 0x80 b c.0 in
        let hi : b ≤ 0x8f = leb-true b 0x8f c.1 in
        rw (h, byte_of) (rw k (omega arith, omega arith))
    go false false h k = rw (h, byte_of) (rw k tt)

module _ (Σ : List Symbol) where
  pub record ReadsTo (at : ℕ) (bytes : List ℕ) (p : ReadPart Term) : Type 0 where
    pub front : bytes ≡ term_bytes p.part ++ p.rest
    pub ends : p.end ≡ at + size p.part
    pub over : Over Σ p.part
    pub made : Made (λ f. f < length Σ) (λ x. x < 16) p.part

  pub record ReadsAll (n at : ℕ) (bytes : List ℕ) (p : ReadPart Terms) : Type 0 where
    pub front : bytes ≡ terms_bytes p.part ++ p.rest
    pub ends : p.end ≡ at + sizes p.part
    pub over : OverAll Σ p.part
    pub made : MadeAll (λ f. f < length Σ) (λ x. x < 16) p.part
    pub counted : count p.part ≡ n

  all_nil : (at : ℕ) (bytes : List ℕ) → ReadsAll zero at bytes (record { part = nil; end = at; rest = bytes })
  unfolding term_bytes size Over Made count
  all_nil at bytes = record { front = refl; ends = omega arith; over = tt; made = tt; counted = refl }

  all_cons : (n at : ℕ) (bytes : List ℕ) (t : ReadPart Term) (ts : ReadPart Terms) → ReadsTo at bytes t → ReadsAll n t.end t.rest ts →
      ReadsAll (suc n) at bytes (record { part = cons t.part ts.part; end = ts.end; rest = ts.rest })
  unfolding term_bytes size Over Made count
  all_cons n at bytes t ts r s =
      record {
        front = r.front ∙ ap (λ l. term_bytes t.part ++ l) s.front ∙ simp append_assoc;
        ends = omega (arith, r.ends, s.ends);
        over = (r.over, s.over);
        made = (r.made, s.made);
        counted = ap suc s.counted;
      }

  one_node : (f at : ℕ) (bytes : List ℕ) (ts : ReadPart Terms) → Has Σ f → ReadsAll (arity_of Σ f) (at + 1) bytes ts →
      ReadsTo at (f ∷ bytes) (record { part = node f ts.part; end = ts.end; rest = ts.rest })
  unfolding term_bytes size Over Made count
  one_node f at bytes ts h s =
      record { front = ap (λ l. f ∷ l) s.front; ends = omega (arith, s.ends); over = (h, s.counted, s.over); made = (has_below Σ f h, s.made) }

  one_variable : (x at : ℕ) (bytes : List ℕ) → x < 16 → ReadsTo at ((0x80 + x) ∷ bytes) (record { part = var x; end = at + 1; rest = bytes })
  unfolding term_bytes size Over Made
  one_variable x at bytes l = record { front = refl; ends = refl; over = tt; made = l }

  pub reads_all : (one : ℕ → List ℕ → Reading (ReadPart Term)) → ((at : ℕ) (bytes : List ℕ) (p : ReadPart Term) → one at bytes ≡ ok p → ReadsTo at bytes p) →
      (n at : ℕ) (bytes : List ℕ) (p : ReadPart Terms) → read_terms one n at bytes ≡ ok p → ReadsAll n at bytes p
  unfolding read_terms
  reads_all one h zero at bytes p e = subst (ReadsAll zero at bytes) (ok_injective e) (all_nil at bytes)
  reads_all one h (suc n) at bytes p e =
      from_bind _ _ p e λ t e₁ k.
      from_bind _ _ p k λ ts e₂ e₃.
      subst (ReadsAll (suc n) at bytes) (ok_injective e₃) (all_cons n at bytes t ts (h at bytes t e₁) (reads_all one h n _ _ ts e₂))

  -- A term that is read is a term over the symbols, its bytes are those passed, and its end is the place behind them.
  pub reads : (depth at : ℕ) (bytes : List ℕ) (p : ReadPart Term) → read_term Σ depth at bytes ≡ ok p → ReadsTo at bytes p
  unfolding read_term ByteIs
  reads zero at bytes p e = absurd (no_ok e)
  reads (suc depth) at [] p e = absurd (no_ok e)
  reads (suc depth) at (b ∷ bytes) p e = go (byte_of Σ b) refl (byte_is Σ b) (λ at bytes p e. reads depth at bytes p e)
    where
      go : (k : Byte) → byte_of Σ b ≡ k → ByteIs Σ b (byte_of Σ b) →
          ((at : ℕ) (bytes : List ℕ) (p : ReadPart Term) → read_term Σ depth at bytes ≡ ok p → ReadsTo at bytes p) → ReadsTo at (b ∷ bytes) p
      go (symbol f) k i ih =
          let j : ByteIs Σ b (symbol f) = rw k at i in
          from_bind _ _ p (rw (k, read_term) at e) λ ts e₁ e₂.
          subst⁻¹ (λ (c : ℕ). ReadsTo at (c ∷ bytes) p) (sym j.0)
          (subst (ReadsTo at (f ∷ bytes)) (ok_injective e₂) (one_node f at bytes ts j.1 (reads_all _ ih (arity_of Σ f) (at + 1) bytes ts e₁)))
      go (variable x) k i ih =
          let j : ByteIs Σ b (variable x) = rw k at i in
          subst⁻¹ (λ (c : ℕ). ReadsTo at (c ∷ bytes) p) j.0
          (subst (ReadsTo at ((0x80 + x) ∷ bytes)) (ok_injective (rw (k, read_term) at e)) (one_variable x at bytes j.1))
      go neither k i ih = absurd (no_ok (rw (k, read_term) at e))

module _ (Σ : List Symbol) (few : length Σ ≤ 16) where
  byte_symbol : (f : ℕ) → Has Σ f → byte_of Σ f ≡ symbol f
  unfolding byte_of
  byte_symbol f h = rw h

  byte_variable : (x : ℕ) → x < 16 → byte_of Σ (0x80 + x) ≡ variable x
  unfolding byte_of
  byte_variable x h =
      let lo : leb 0x80 (0x80 + x) ≡ true = le-leb 0x80 (0x80 + x) (omega arith) in
      let hi : leb (0x80 + x) 0x8f ≡ true = le-leb (0x80 + x) 0x8f (omega arith) in
      let no : has Σ (0x80 + x) ≡ false = has_not Σ (0x80 + x) (omega arith) in
      let back : 0x80 + x - 0x80 ≡ x = omega arith in
      rw no (rw lo (rw hi (ap variable back)))

  var_step : (x d at end : ℕ) (rest : List ℕ) → x < 16 → end ≡ at + 1 →
      read_term Σ (suc d) at ((0x80 + x) ∷ rest) ≡ ok (record { part = var x; end = end; rest = rest })
  unfolding read_term
  var_step x d at end rest h e = rw (byte_variable x h, read_term) (rw e refl)

  node_step : (f : ℕ) (ts : Terms) (d at end : ℕ) (bytes rest : List ℕ) → Has Σ f → count ts ≡ arity_of Σ f →
      read_terms (λ at bytes. read_term Σ d at bytes) (count ts) (at + 1) bytes ≡ ok (record { part = ts; end = end; rest = rest }) →
      read_term Σ (suc d) at (f ∷ bytes) ≡ ok (record { part = node f ts; end = end; rest = rest })
  unfolding read_term ◌>>=◌
  node_step f ts d at end bytes rest h c ih = rw (byte_symbol f h, read_term) (rw (← c) (rw ih refl))

  nil_step : (depth at end : ℕ) (rest : List ℕ) → at ≡ end →
      read_terms (λ at bytes. read_term Σ depth at bytes) zero at rest ≡ ok (record { part = nil; end = end; rest = rest })
  unfolding read_terms
  nil_step depth at end rest e = rw e refl

  cons_step : (t : Term) (ts : Terms) (one : ℕ → List ℕ → Reading (ReadPart Term)) (at mid end : ℕ) (bytes more rest : List ℕ) →
      one at (bytes ++ (more ++ rest)) ≡ ok (record { part = t; end = mid; rest = more ++ rest }) →
      read_terms one (count ts) mid (more ++ rest) ≡ ok (record { part = ts; end = end; rest = rest }) →
      read_terms one (suc (count ts)) at ((bytes ++ more) ++ rest) ≡ ok (record { part = cons t ts; end = end; rest = rest })
  unfolding read_terms ◌>>=◌
  cons_step t ts one at mid end bytes more rest h k = rw (append_assoc bytes more rest) (rw h (rw k refl))

  -- Every term over the symbols, its variables 0 to 15, is read back from its bytes, whatever stands behind them.
  mutual
    unfolding term_bytes size Over count Made

    pub read_back : (t : Term) (depth at end : ℕ) (rest : List ℕ) → Over Σ t → Made (λ f. f < length Σ) (λ x. x < 16) t → size t ≤ depth → end ≡ at + size t →
        read_term Σ depth at (term_bytes t ++ rest) ≡ ok (record { part = t; end = end; rest = rest })
    read_back (var x) zero at end rest o n h e = absurd (omega arith)
    read_back (var x) (suc d) at end rest o n h e = var_step x d at end rest n e
    read_back (node f ts) zero at end rest o n h e = absurd (omega arith)
    read_back (node f ts) (suc d) at end rest o n h e =
        node_step f ts d at end (terms_bytes ts ++ rest) rest o.0 o.1 (read_back_all ts d (at + 1) end rest o.2 n.1 (omega arith) (omega arith))

    pub read_back_all : (ts : Terms) (depth at end : ℕ) (rest : List ℕ) → OverAll Σ ts →
        MadeAll (λ f. f < length Σ) (λ x. x < 16) ts → sizes ts ≤ depth → end ≡ at + sizes ts →
        read_terms (λ at bytes. read_term Σ depth at bytes) (count ts) at (terms_bytes ts ++ rest) ≡ ok (record { part = ts; end = end; rest = rest })
    read_back_all nil depth at end rest o n h e = nil_step depth at end rest (omega arith)
    read_back_all (cons t ts) depth at end rest o n h e =
        cons_step t ts (λ at bytes. read_term Σ depth at bytes) at (at + size t) end (term_bytes t) (terms_bytes ts) rest
        (read_back t depth at (at + size t) (terms_bytes ts ++ rest) o.0 n.0 (omega arith) refl)
        (read_back_all ts depth (at + size t) end rest o.1 n.1 (omega arith) (omega arith))
