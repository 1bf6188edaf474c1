-- The walk over bytes reads what `read_term` reads: a term's end or its refusal; a lemma for each return of `term_at`, `side_at` and `pair_at`.
-- Assumes nothing.
-- Read first: specs/Answers, proofs/Reading, terms/proofs/Scans.
use mathlib.Core.Path.{◌≡◌, refl, ap, ap₂, subst, sym, ◌∙◌}
use mathlib.Core.Bool.{Bool, true, false, ◌&&◌}
use mathlib.Core.List.{List, [], ◌∷◌}
use Prim.Native.Nat.{ℕ, zero, suc, ◌+◌, ◌-◌, ◌<◌, ◌≤◌}
use native.Mathlib.Omega.{arith}
use native.Mathlib.Nat.{zero-add, suc-add}
use lib.Dec.{leb}
use lib.ListN.{length, take, drop, get_or, length-take, length-drop, length-append}
use lib.Seq.{drop_at, drop-drop}
use borrow.Author.Tests.{lt-ltb, le-ltb, leb-true}
use Rattle.terms.proofs.Shape.{both_true}
use Rattle.std.specs.Prelude.{Result, Ok, Err, IsErrAnd}
use Rattle.terms.specs.Term.{Term, node, Terms, cons, size, term_bytes, Pair}
use Rattle.terms.specs.Scan.{owes, is_node, scan}
use Rattle.terms.specs.declared.BadTerm.{BadTerm}
use Rattle.terms.proofs.Bytes.{length_bytes}
use Rattle.terms.proofs.Scans.{owes_symbol, owes_other, scan_none}
use Rattle.reading.specs.Forms.{Reading, ok, refused, ◌>>=◌, refuse_if, Symbol, has, arity_of, rank_of, Byte, symbol, variable, neither, byte_of, ReadPart}
use Rattle.reading.specs.Forms.{read_term, read_terms, read_side, read_pair}
use Rattle.reading.specs.declared.SideError.{SideError}
use Rattle.reading.specs.declared.SideError.TheVariants.{Wrong, Large}
use Rattle.reading.specs.declared.PairError.{PairError}
use Rattle.reading.specs.Answers.{symbols_of, Table, between, TermAt, IsTerm, SideAt, IsSide, PairAt, IsPair, of_pair}
use Rattle.reading.proofs.Reading.{has_below, not_has, reads, bind_ok, bind_refused, refuses}

-- the symbols of a table, by number
module _ (default : Symbol) where
  pub at_symbol : (tab : List ℕ) (f : ℕ) → length (symbols_of tab) + length (symbols_of tab) ≡ length tab →
      ((get_or (symbols_of tab) f default).arity ≡ get_or tab (f + f) default.arity)
      × ((get_or (symbols_of tab) f default).rank ≡ get_or tab (f + f + 1) default.rank)
  unfolding symbols_of
  at_symbol [] f h = (refl, refl)
  at_symbol (a ∷ []) f h = absurd (omega arith)
  at_symbol (a ∷ r ∷ l) zero h = (refl, refl)
  at_symbol (a ∷ r ∷ l) (suc f) h =
      let e : suc f + suc f ≡ suc (suc (f + f)) = omega arith in
      let k : suc (suc (f + f)) + 1 ≡ suc (suc (f + f + 1)) = omega arith in
      let i = at_symbol l f (omega arith) in
      rw (e, k) i

module _ (tab : List ℕ) (T : Table tab) where
  pub arity_is : (f : ℕ) → arity_of (symbols_of tab) f ≡ get_or tab (f + f) 0
  unfolding arity_of
  arity_is f = (at_symbol (record { arity = 0; rank = 0 }) tab f T.even).0

  pub rank_is : (f : ℕ) → rank_of (symbols_of tab) f ≡ get_or tab (f + f + 1) 0
  unfolding rank_of
  rank_is f = (at_symbol (record { arity = 0; rank = 0 }) tab f T.even).1

  -- what a byte is, and what the walk makes of it
  ByteNode : ℕ → Byte → Type 0
  ByteNode b (symbol f) = (is_node tab b ≡ true) × (owes tab b ≡ arity_of (symbols_of tab) f)
  ByteNode b (variable x) = (is_node tab b ≡ true) × (owes tab b ≡ 0)
  ByteNode b neither = is_node tab b ≡ false

  is_variable : (b : ℕ) → length tab ≤ b + b → (leb 0x80 b && leb b 0x8f) ≡ true → is_node tab b ≡ true
  unfolding is_node
  is_variable b h k = rw (le-ltb (b + b) (length tab) h, k) refl

  is_neither : (b : ℕ) → length tab ≤ b + b → (leb 0x80 b && leb b 0x8f) ≡ false → is_node tab b ≡ false
  unfolding is_node
  is_neither b h k = rw (le-ltb (b + b) (length tab) h, k) refl

  byte_node : (b : ℕ) → ByteNode b (byte_of (symbols_of tab) b)
  unfolding ByteNode byte_of is_node
  byte_node b = go (has (symbols_of tab) b) (leb 0x80 b && leb b 0x8f) refl refl
    where
      go : (p q : Bool) → has (symbols_of tab) b ≡ p → (leb 0x80 b && leb b 0x8f) ≡ q → ByteNode b (byte_of (symbols_of tab) b)
      go true q h k =
          let lt : b < length (symbols_of tab) = has_below (symbols_of tab) b h in
          rw (h, byte_of)
          (rw (lt-ltb (b + b) (length tab) (omega (arith, T.even))) refl, owes_symbol tab b (omega (arith, T.even, T.small)) ∙ sym (arity_is b))
      go false true h k =
          let le : length (symbols_of tab) ≤ b = not_has (symbols_of tab) b h in
          let high : 0x80 ≤ b = leb-true 0x80 b (both_true (leb 0x80 b) (leb b 0x8f) k).0 in
          rw (h, byte_of) (rw k (is_variable b (omega (arith, T.even)) k, owes_other tab b (omega arith)))
      go false false h k =
          let le : length (symbols_of tab) ≤ b = not_has (symbols_of tab) b h in
          rw (h, byte_of) (rw k (is_neither b (omega (arith, T.even)) k))

  abbrev bad : ℕ → Result ℕ BadTerm
  bad p = Err (record { place = p })

  same_place : (p q : ℕ) → bad p ≡ bad q → p ≡ q
  same_place p q e = let b : ◌≡◌ {A = BadTerm} (record { place = p }) (record { place = q }) = cc in ap (λ (b : BadTerm). b.place) b

  -- The walk with so many terms owed, where the first n are read as this says.
  abbrev Follow : {A : Type 0} → ℕ → ℕ → ℕ → List ℕ → Reading (ReadPart A) → Type 0
  Follow n m at bytes (ok p) = scan tab bytes at n ≡ scan tab p.rest p.end m
  Follow n m at bytes (refused k q) = (k ≡ 10) × (scan tab bytes at n ≡ bad q)

  module _ (one : ℕ → List ℕ → Reading (ReadPart Term)) (d : ℕ)
      (follow_one : (m at : ℕ) (bytes : List ℕ) → length bytes < d → Follow (suc m) m at bytes (one at bytes))
      (shorter : (at : ℕ) (bytes : List ℕ) (p : ReadPart Term) → one at bytes ≡ ok p → length p.rest ≤ length bytes) where
    follow_all : (n m at : ℕ) (bytes : List ℕ) → length bytes < d → Follow (n + m) m at bytes (read_terms one n at bytes)
    unfolding read_terms ◌>>=◌
    follow_all zero m at bytes h = rw (zero-add m) refl
    follow_all (suc n) m at bytes h = rw (suc-add n m) (go (one at bytes) refl (λ m at bytes h. follow_all n m at bytes h))
      where
        last : (t : ReadPart Term) (r : Reading (ReadPart Terms)) → one at bytes ≡ ok t → Follow (n + m) m t.end t.rest r →
            Follow (suc (n + m)) m at bytes (r >>= λ ts. ok (record { part = cons t.part ts.part; end = ts.end; rest = ts.rest }))
        last t (ok ts) e f = (rw e at (follow_one (n + m) at bytes h)) ∙ f
        last t (refused k q) e f = (f.0, (rw e at (follow_one (n + m) at bytes h)) ∙ f.1)

        go : (r : Reading (ReadPart Term)) → one at bytes ≡ r →
            ((m at : ℕ) (bytes : List ℕ) → length bytes < d → Follow (n + m) m at bytes (read_terms one n at bytes)) →
            Follow (suc (n + m)) m at bytes
            (r >>= λ t. read_terms one n t.end t.rest >>= λ ts. ok (record { part = cons t.part ts.part; end = ts.end; rest = ts.rest }))
        go (ok t) e ih = last t (read_terms one n t.end t.rest) e (ih m t.end t.rest (let s = shorter at bytes t e in omega arith))
        go (refused k q) e ih = rw e at (follow_one (n + m) at bytes h)

  rest_shorter : (d at : ℕ) (bytes : List ℕ) (p : ReadPart Term) → read_term (symbols_of tab) d at bytes ≡ ok p → length p.rest ≤ length bytes
  rest_shorter d at bytes p e = omega (arith, ap length (reads (symbols_of tab) d at bytes p e).front ∙ length-append (term_bytes p.part) p.rest)

  scan_node : (b : ℕ) (bytes : List ℕ) (at m : ℕ) → is_node tab b ≡ true → scan tab (b ∷ bytes) at (suc m) ≡ scan tab bytes (at + 1) (owes tab b + m)
  unfolding scan
  scan_node b bytes at m h = rw h refl

  scan_stop : (b : ℕ) (bytes : List ℕ) (at m : ℕ) → is_node tab b ≡ false → scan tab (b ∷ bytes) at (suc m) ≡ bad at
  unfolding scan
  scan_stop b bytes at m h = rw h refl

  scan_empty : (at m : ℕ) → scan tab [] at (suc m) ≡ bad at
  unfolding scan
  scan_empty at m = refl

  after : (f n m at : ℕ) (b : ℕ) (bytes : List ℕ) (r : Reading (ReadPart Terms)) →
      scan tab (b ∷ bytes) at (suc m) ≡ scan tab bytes (at + 1) n → Follow n m (at + 1) bytes r →
      Follow (suc m) m at (b ∷ bytes) (r >>= λ ts. ok (record { part = node f ts.part; end = ts.end; rest = ts.rest }))
  unfolding ◌>>=◌
  after f n m at b bytes (ok ts) e g = e ∙ g
  after f n m at b bytes (refused k q) e g = (g.0, e ∙ g.1)

  pub follow : (d m at : ℕ) (bytes : List ℕ) → length bytes < d → Follow (suc m) m at bytes (read_term (symbols_of tab) d at bytes)
  unfolding read_term ByteNode
  follow zero m at bytes h = absurd (omega arith)
  follow (suc d) m at [] h = (refl, scan_empty at m)
  follow (suc d) m at (b ∷ bytes) h =
      go (byte_of (symbols_of tab) b) refl (byte_node b)
      (λ n m at l k. follow_all (λ at bytes. read_term (symbols_of tab) d at bytes) d
      (λ m at bytes h. follow d m at bytes h) (λ at bytes p e. rest_shorter d at bytes p e) n m at l k)
    where
      go : (k : Byte) → byte_of (symbols_of tab) b ≡ k → ByteNode b (byte_of (symbols_of tab) b) →
          ((n m at : ℕ) (l : List ℕ) → length l < d → Follow (n + m) m at l (read_terms (λ at bytes. read_term (symbols_of tab) d at bytes) n at l)) →
          Follow (suc m) m at (b ∷ bytes) (read_term (symbols_of tab) (suc d) at (b ∷ bytes))
      go (symbol f) k i ih =
          let j : ByteNode b (symbol f) = rw k at i in
          let e : scan tab (b ∷ bytes) at (suc m) ≡ scan tab bytes (at + 1) (arity_of (symbols_of tab) f + m) =
          scan_node b bytes at m j.0 ∙ ap (λ (n : ℕ). scan tab bytes (at + 1) (n + m)) j.1 in
          rw (k, read_term) (after f (arity_of (symbols_of tab) f + m) m at b bytes _ e (ih (arity_of (symbols_of tab) f) m (at + 1) bytes (omega arith)))
      go (variable x) k i ih =
          let j : ByteNode b (variable x) = rw k at i in
          let z : owes tab b + m ≡ m = ap (λ (n : ℕ). n + m) j.1 ∙ zero-add m in
          rw (k, read_term) (scan_node b bytes at m j.0 ∙ ap (λ (n : ℕ). scan tab bytes (at + 1) n) z)
      go neither k i ih =
          let j : ByteNode b neither = rw k at i in
          rw (k, read_term) (refl, scan_stop b bytes at m j)

  -- `term_at`, `side_at` and `pair_at` return: l are the bytes, and what is read ends at the latest at `end`
  module _ (l : List ℕ) (at end : ℕ) (low : at ≤ end) (inside : end ≤ length l) where
    abbrev reading : Reading (ReadPart Term)
    reading = read_term (symbols_of tab) (suc (length (between l at end))) at (between l at end)

    wrong : (r : Reading (ReadPart Term)) (p : ℕ) → Follow 1 0 at (between l at end) r → bad p ≡ scan tab (between l at end) at 1 → r ≡ refused 10 p
    wrong (ok q) p f e = absurd (let g : Ok q.end ≡ bad p = sym (scan_none tab q.rest q.end) ∙ sym f ∙ sym e in
        let z : ◌≡◌ {A = ℕ} 0 1 = cc in omega arith)
    wrong (refused k q) p f e = let g : bad q ≡ bad p = sym f.1 ∙ sym e in ap₂ refused f.0 (same_place q p g)

    right : (r : Reading (ReadPart Term)) (e : ℕ) → reading ≡ r → Follow 1 0 at (between l at end) r →
        Ok e ≡ scan tab (between l at end) at 1 → (x : Term) × TermAt tab l at end e x
    right (refused k q) e i f s = absurd (let g : bad q ≡ Ok e = sym f.1 ∙ sym s in let z : ◌≡◌ {A = ℕ} 0 1 = cc in omega arith)
    right (ok p) e i f s =
        let g : Ok p.end ≡ Ok e = sym (scan_none tab p.rest p.end) ∙ sym f ∙ sym s in
        let h : p.end ≡ e = cc in
        let R = reads (symbols_of tab) (suc (length (between l at end))) at (between l at end) p i in
        let n = ap length R.front ∙ length-append (term_bytes p.part) p.rest in
        let z : e ≡ at + size p.part = sym h ∙ R.ends in
        let rest_is : p.rest ≡ between l e end =
        sym (drop_at (term_bytes p.part) p.rest (size p.part) (length_bytes p.part)) ∙ ap (drop (size p.part)) (sym R.front)
        ∙ drop-drop (size p.part) at (take end l) ∙ rw z refl in (
          p.part,
          record {
            read = i ∙ ap₂ (λ (e : ℕ) (l : List ℕ). ok (record { part = p.part; end = e; rest = l })) h rest_is;
            ends = z;
            within = omega (arith, n, length-drop at (take end l), length-take end l, length_bytes p.part);
          },
        )

    pub term_is : (r : Result ℕ BadTerm) → r ≡ scan tab (between l at end) at 1 → IsTerm tab l at end r
    term_is r q = go r q (follow (suc (length (between l at end))) 0 at (between l at end) (omega arith))
      where
        go : (r : Result ℕ BadTerm) → r ≡ scan tab (between l at end) at 1 → Follow 1 0 at (between l at end) reading → IsTerm tab l at end r
        go (Ok e) q f = right reading e refl f q
        go (Err b) q f = wrong reading b.place f q

    side_wrong : (p : ℕ) → IsTerm tab l at end (bad p) → read_side (symbols_of tab) at (between l at end) ≡ refused 10 p
    unfolding read_side
    side_wrong p e = bind_refused _ e

    -- a term that is wrong, as `?` hands its refusal on
    pub side_refused : (p : ℕ) → IsTerm tab l at end (bad p) → (r : Result ℕ SideError) → IsErrAnd r (λ e. e ≡ Wrong p) → IsSide tab l at end r
    side_refused p q (Ok e) h = absurd h
    side_refused p q (Err e) h = subst (λ e. IsSide tab l at end (Err e)) (sym h) (side_wrong p q)

    module _ (e : ℕ) (x : Term) (X : TermAt tab l at end e x) where
      pub side_large : 120 < e - at → read_side (symbols_of tab) at (between l at end) ≡ refused 11 at
      unfolding read_side
      side_large h = bind_ok _ X.read ∙ refuses _ _ _ _ (lt-ltb _ (size x) (omega (arith, X.ends)))

      pub side_fine : e - at ≤ 120 → (x : Term) × SideAt tab l at end e x
      unfolding read_side ◌>>=◌ refuse_if
      side_fine h = (
        x,
        record { read = bind_ok _ X.read ∙ rw (le-ltb 120 (size x) (omega (arith, X.ends))) refl; ends = X.ends; within = X.within },
      )

    abbrev Reads : Reading Pair → Type 0
    Reads r = read_pair (symbols_of tab) at (between l at end) ≡ r

    pair_left : (n p : ℕ) → read_side (symbols_of tab) at (between l at end) ≡ refused n p → Reads (refused n p)
    unfolding read_pair
    pair_left n p h = bind_refused _ h

    pub left_refused : (e : SideError) → IsSide tab l at end (Err e) → (r : PairError) → r ≡ of_pair e at → IsPair tab l at end (Err r)
    left_refused e h r q = subst (λ r. IsPair tab l at end (Err r)) (sym q) (go e h)
      where
        go : (e : SideError) → IsSide tab l at end (Err e) → IsPair tab l at end (Err (of_pair e at))
        go (Wrong p) h = pair_left _ p h
        go Large h = pair_left _ at h

    module _ (m : ℕ) (x : Term) (X : SideAt tab l at end m x) where
      pair_right : (n p : ℕ) → read_side (symbols_of tab) m (between l m end) ≡ refused n p → Reads (refused n p)
      unfolding read_pair
      pair_right n p h = bind_ok _ X.read ∙ bind_refused _ h

      pub right_refused : (e : SideError) → IsSide tab l m end (Err e) → (r : PairError) → r ≡ of_pair e m → IsPair tab l at end (Err r)
      right_refused e h r q = subst (λ r. IsPair tab l at end (Err r)) (sym q) (go e h)
        where
          go : (e : SideError) → IsSide tab l m end (Err e) → IsPair tab l at end (Err (of_pair e m))
          go (Wrong p) h = pair_right _ p h
          go Large h = pair_right _ m h

      module _ (k : ℕ) (y : Term) (Y : SideAt tab l m end k y) where
        left_over : length (between l k end) ≡ end - k
        left_over = length-drop k (take end l) ∙ omega (arith, length-take end l)

        pub pair_more : k < end → Reads (refused 10 k)
        unfolding read_pair ◌>>=◌ refuse_if
        pair_more h =
            bind_ok _ X.read ∙ bind_ok _ Y.read ∙ rw (lt-ltb 0 (length (between l k end)) (omega (arith, left_over))) refl

        pub pair_fills : end ≤ k → (p : Pair) × PairAt tab l at end m p
        unfolding read_pair ◌>>=◌ refuse_if
        pair_fills h = (
          record { left = x; right = y },
          record {
            read = bind_ok _ X.read ∙ bind_ok _ Y.read ∙ rw (le-ltb 0 (length (between l k end)) (omega (arith, left_over))) refl;
            middle = X.ends;
            ends = omega (arith, Y.ends, Y.within);
          },
        )
