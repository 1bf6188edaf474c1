-- Document 01, "Terms" and "The problem's fields": what is read from bytes, wherever it stands: a field, one whose tag is due, symbols, a term, a side, a
-- pair. A refusal has its number of "Stops and what they leave" and its place. Assumes nothing.
use Rattle.std.specs.Prelude.{◌≡◌, Bool, true, false, not, ◌&&◌, List, [], ◌∷◌, ℕ, zero, suc, ◌+◌, ◌-◌, eqb, ltb, leb, length, take, drop, get_or}
use Rattle.limits.specs.Limits.{most_arity, most_rank, most_nodes}
use Rattle.std.specs.Prelude.{if◌then◌else◌}
use Rattle.terms.specs.Base.{number_from}
use Rattle.terms.specs.Term.{Term, var, node, Terms, nil, cons, size, Pair}
use Rattle.reading.specs.Stops.{cut_field, wrong_tag, wrong_arity_or_rank, wrong_term, large_side}

-- What was read, or the refusal's number and place [4.13].
pub data Reading (A : Type 0) : Type 0 where
  ok : A → Reading A
  refused : ℕ → ℕ → Reading A

infixl 10 ◌>>=◌
unfoldable pub ◌>>=◌ : {A B : Type 0} → Reading A → (A → Reading B) → Reading B
ok a >>= next = next a
refused n at >>= next = refused n at

unfoldable pub refuse_if : Bool → ℕ → ℕ → Reading (Unit {0})
refuse_if true n at = refused n at
refuse_if false n at = ok tt

-- A field that was read: the place of its first byte, its contents, the place behind it and the bytes there.
pub record ReadField : Type 0 where
  pub first : ℕ
  pub tag : ℕ
  pub contents : List ℕ
  pub end : ℕ
  pub rest : List ℕ

-- "A field is a one-byte tag, a two-byte length (high byte first), contents." [3.1]
-- 3: "field's header or contents pass the end", at the "field's first byte" [4.3]
unfoldable pub read_field : ℕ → List ℕ → Reading ReadField
read_field at [] = refused cut_field at
read_field at (tag ∷ []) = refused cut_field at
read_field at (tag ∷ high ∷ []) = refused cut_field at
read_field at (tag ∷ high ∷ low ∷ bytes) = do
  let n = number_from 0 (high ∷ low ∷ [])
  _ ← refuse_if (ltb (length bytes) n) cut_field at
  ok (record { first = at; tag = tag; contents = take n bytes; end = at + 3 + n; rest = drop n bytes })

-- 4: "tag not the one due, or the problem ends where tag 01 or 02 is due", at the "field's first byte or the end" [4.4, 4.16]
unfoldable pub due : ℕ → ℕ → List ℕ → Reading ReadField
due tag at [] = refused wrong_tag at
due tag at (b ∷ bytes) = do
  f ← read_field at (b ∷ bytes)
  _ ← refuse_if (not (eqb f.tag tag)) wrong_tag at
  ok f

-- "arity 0 to 4 then rank 0 to 15 .. numbered by place" [3.3, 3.4]
pub record Symbol : Type 0 where
  pub arity : ℕ
  pub rank : ℕ

-- the table has a symbol f
unfoldable pub has : List Symbol → ℕ → Bool
has Σ f = ltb f (length Σ)

abbrev pub Has : List Symbol → ℕ → Type 0
Has Σ f = has Σ f ≡ true

unfoldable pub arity_of : List Symbol → ℕ → ℕ
arity_of Σ f = (get_or Σ f (record { arity = 0; rank = 0 })).arity

unfoldable pub rank_of : List Symbol → ℕ → ℕ
rank_of Σ f = (get_or Σ f (record { arity = 0; rank = 0 })).rank

-- 6: "arity above 4 or rank above 15", at "that byte". No length is odd here: 5 refuses it. "Let two symbols hold one rank." [3.5, 4.6, 4.7, 4.17]
unfoldable pub read_symbols : ℕ → List ℕ → Reading (List Symbol)
read_symbols at [] = ok []
read_symbols at (arity ∷ []) = ok []
read_symbols at (arity ∷ rank ∷ bytes) = do
  _ ← refuse_if (ltb most_arity arity) wrong_arity_or_rank at
  _ ← refuse_if (ltb most_rank rank) wrong_arity_or_rank (at + 1)
  Σ ← read_symbols (at + 2) bytes
  ok (record { arity = arity; rank = rank } ∷ Σ)

-- What a byte of a term is.
pub data Byte : Type 0 where
  symbol : ℕ → Byte
  variable : ℕ → Byte
  neither : Byte

-- "Symbol n (0 to 15) is byte n. Variable n (0 to 15) is byte 80 + n." [2.3, 2.4]
unfoldable pub byte_of : List Symbol → ℕ → Byte
byte_of Σ b =
    if has Σ b then symbol b
    else if leb 0x80 b && leb b 0x8f then variable (b - 0x80)
    else neither

-- A part that was read of a field's contents: what it is, the place behind it and the bytes there.
pub record ReadPart (A : Type 0) : Type 0 where
  pub part : A
  pub end : ℕ
  pub rest : List ℕ

-- so many terms, one behind the other [2.6]
unfoldable pub read_terms : (ℕ → List ℕ → Reading (ReadPart Term)) → ℕ → ℕ → List ℕ → Reading (ReadPart Terms)
read_terms one zero at bytes = ok (record { part = nil; end = at; rest = bytes })
read_terms one (suc n) at bytes = do
  t ← one at bytes
  ts ← read_terms one n t.end t.rest
  ok (record { part = cons t.part ts.part; end = ts.end; rest = ts.rest })

-- 10: "byte that is no symbol and no variable; field ends inside a term", at "that byte or the field's end". [2.6, 4.10]
-- The first number bounds the depth: one more than there are bytes, as `read_side` gives, does not run out.
unfoldable pub read_term : List Symbol → ℕ → ℕ → List ℕ → Reading (ReadPart Term)
read_term Σ zero at bytes = refused wrong_term at
read_term Σ (suc depth) at [] = refused wrong_term at
read_term Σ (suc depth) at (b ∷ bytes) =
    elim (byte_of Σ b) [
      | symbol f ↦ do
        ts ← read_terms (λ at bytes. read_term Σ depth at bytes) (arity_of Σ f) (at + 1) bytes
        ok (record { part = node f ts.part; end = ts.end; rest = ts.rest })
      | variable x ↦ ok (record { part = var x; end = at + 1; rest = bytes })
      | neither ↦ refused wrong_term at
    ]

-- 11: "side over 120 nodes", at the "side's first byte" [3.7, 4.11, 4.18]
unfoldable pub read_side : List Symbol → ℕ → List ℕ → Reading (ReadPart Term)
read_side Σ at bytes = do
  t ← read_term Σ (suc (length bytes)) at bytes
  _ ← refuse_if (ltb most_nodes (size t.part)) large_side at
  ok t

-- left side, right side, and nothing behind them; 10: "byte after the right term", at "that byte" [3.7, 4.10, 4.18]
unfoldable pub read_pair : List Symbol → ℕ → List ℕ → Reading Pair
read_pair Σ at bytes = do
  l ← read_side Σ at bytes
  r ← read_side Σ l.end l.rest
  _ ← refuse_if (ltb 0 (length r.rest)) wrong_term r.end
  ok (record { left = l.part; right = r.part })
