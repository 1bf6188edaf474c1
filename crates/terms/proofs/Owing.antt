-- The count of the walk to a subterm's end: what it says holds before the first byte and after each. Assumes nothing.
-- Read first: specs/Owed, proofs/Several, proofs/Flats (`unique`).
use mathlib.Core.Path.{◌≡◌, refl, sym, ap, subst, ◌∙◌}
use mathlib.Core.Logic.{inl, inr}
use mathlib.Core.Bool.{Bool, true, false, ◌&&◌, ◌||◌}
use mathlib.Core.List.{List, [], ◌∷◌, ◌++◌, append_assoc, append-nil}
use Prim.Native.Nat.{ℕ, ◌+◌, ◌-◌, ◌≤◌, ◌<◌}
use native.Mathlib.Omega.{arith}
use native.Mathlib.Numerals.{add-one}
use lib.Dec.{ltb, leb}
use lib.ListN.{length, take, drop, get_or, take-append-drop, length-drop, length-append}
use lib.Seq.{take-suc, take_at, take-append-le, length-take-le, get_or-drop}
use borrow.Author.Tests.{ltb-true, ltb-false, leb-true}
use Rattle.terms.specs.Base.{Every, of_none}
use Rattle.terms.specs.Term.{Term, Terms, nil, cons, term_bytes, terms_bytes, size, count}
use Rattle.terms.specs.Scan.{owes, is_node}
use Rattle.terms.specs.Flat.{Wf, Wfs, Starts}
use Rattle.terms.specs.Owed.{IsNode, Completes, Owed, Counted, Tested}
use Rattle.terms.proofs.Bytes.{length_bytes}
use Rattle.terms.proofs.Every.{every_left, every_right, every_head, every_append, every_one}
use Rattle.terms.proofs.Limits.{made_bytes}
use Rattle.terms.proofs.Flats.{unique, wf_made}
use Rattle.terms.proofs.Shape.{both_true}
use Rattle.terms.proofs.Several.{split, join, join_bytes, join_wf, join_count, begins, fill, fill_wf, fill_count, no_bytes}

-- That each list of n terms completes the bytes is enough: a longer one begins with n terms that do, a shorter one begins n that do, and a term's
-- bytes begin those of no other.
abbrev AllComplete : ℕ → List ℕ → List ℕ → ℕ → Type 0
AllComplete v tab read n = (ts : Terms) → Wfs v tab ts → count ts ≡ n → Completes v tab read ts

module _ (v : ℕ) (tab read : List ℕ) where
  none_behind : (ts us vs : Terms) → Completes v tab read ts → Completes v tab read us → terms_bytes us ≡ terms_bytes ts ++ terms_bytes vs → count vs ≡ 0
  none_behind ts us vs c d e =
      let both : term_bytes d.subterm ++ [] ≡ term_bytes c.subterm ++ terms_bytes vs =
      append-nil (term_bytes d.subterm) ∙ d.bytes ∙ ap (λ l. read ++ l) e ∙ sym (append_assoc read (terms_bytes ts) (terms_bytes vs))
      ∙ ap (λ l. l ++ terms_bytes vs) (sym c.bytes) in
      no_bytes vs (sym (unique v tab d.subterm c.subterm [] (terms_bytes vs) d.wf c.wf both).1)

  module _ (some : 0 < v) (n : ℕ) (all : AllComplete v tab read n) where
    not_more : (ts : Terms) → Wfs v tab ts → Completes v tab read ts → n ≤ count ts → count ts ≡ n
    not_more ts w c h =
        let s = split v tab n ts w h in
        omega (arith, s.others, none_behind s.first ts s.rest (all s.first s.first_wf s.number) c s.bytes)

    not_fewer : (ts : Terms) → Wfs v tab ts → Completes v tab read ts → count ts ≤ n → count ts ≡ n
    not_fewer ts w c h =
        let vs : Terms = fill (n - count ts) in
        let k = join_count ts vs in
        let f = fill_count (n - count ts) in
        let d = all (join ts vs) (join_wf v tab ts vs w (fill_wf v tab some (n - count ts))) (omega (arith, k, f)) in
        omega (arith, f, none_behind ts (join ts vs) vs c d (join_bytes ts vs))

    owed_of : Owed v tab read n
    owed_of ts w = (λ c. go c (ltb (count ts) n) refl, λ e. all ts w e)
      where
        go : Completes v tab read ts → (t : Bool) → ltb (count ts) n ≡ t → count ts ≡ n
        go c true h = let l : count ts < n = ltb-true _ _ h in not_fewer ts w c (omega arith)
        go c false h = not_more ts w c (ltb-false _ _ h)

  -- A node's byte is one of the terms owed, and owes its arguments.
  completes_on : (b : ℕ) (ts us : Terms) → b ∷ terms_bytes ts ≡ terms_bytes us → Completes v tab read us → Completes v tab (read ++ (b ∷ [])) ts
  completes_on b ts us e d = record {
    subterm = d.subterm;
    wf = d.wf;
    bytes = d.bytes ∙ ap (λ l. read ++ l) (sym e) ∙ sym (append_assoc read (b ∷ []) (terms_bytes ts));
  }

  complete_turn : (b n m : ℕ) → (n ≡ 0 → ⊥) → m ≡ owes tab b → IsNode v b → AllComplete v tab read n → AllComplete v tab (read ++ (b ∷ [])) (n - 1 + m)
  complete_turn b n m z e h all ts w c =
      let u = begins v tab b ts h w (omega arith) in
      completes_on b ts u.0 u.3 (all u.0 u.1 (omega (arith, u.2)))

complete_start : (v : ℕ) (tab : List ℕ) → AllComplete v tab [] 1
unfolding Wfs count terms_bytes
complete_start v tab nil w c = absurd (omega arith)
complete_start v tab (cons t nil) w c = record { subterm = t; wf = w.0; bytes = sym (append-nil (term_bytes t)) }
complete_start v tab (cons t (cons u ts)) w c = absurd (omega arith)

nodes_of : (tab : List ℕ) (x : Term) → Wf 32 tab x → Every (IsNode 32) (term_bytes x)
nodes_of tab x w = made_bytes (λ f. f < 16) (λ v. v < 32) (IsNode 32) (λ f h. inl h) (λ v h. inr (omega arith, omega arith)) x (wf_made 32 tab x w)

-- Where the bytes begin with a subterm's.
module _ (tab l : List ℕ) (x : Term) (b : Starts tab l x) where
  pub starts_fit : size x ≤ length l
  starts_fit = omega (arith, ap length b.bytes ∙ length-append (term_bytes x) b.rest, length_bytes x)

  module _ (k : ℕ) (h : k ≤ size x) where
    nodes_read : Every (IsNode 32) (take k l)
    nodes_read =
        let m : List ℕ = term_bytes x in
        let e : take k l ≡ take k m = ap (take k) b.bytes ∙ take-append-le k m b.rest (omega (arith, length_bytes x)) in
        subst (Every (IsNode 32)) (sym e) (every_left (take k m) (drop k m) (subst (Every (IsNode 32)) (sym (take-append-drop k m)) (nodes_of tab x b.wf)))

    zero_ends : (n : ℕ) → Owed 32 tab (take k l) n → n ≡ 0 → k ≡ size x
    unfolding Wfs count terms_bytes
    zero_ends n o z =
        let c = (o nil tt).1 (sym z) in
        let r : take k l ≡ term_bytes c.subterm = sym (append-nil (take k l)) ∙ sym c.bytes in
        let e : term_bytes x ++ b.rest ≡ term_bytes c.subterm ++ drop k l =
        sym b.bytes ∙ sym (take-append-drop k l) ∙ ap (λ m. m ++ drop k l) r in
        let q = (unique 32 tab x c.subterm b.rest (drop k l) b.wf c.wf e).0 in
        sym (length-take-le k l (omega (arith, starts_fit))) ∙ ap length r ∙ length_bytes c.subterm ∙ ap size (sym q)

    end_zero : (n : ℕ) → Owed 32 tab (take k l) n → k ≡ size x → n ≡ 0
    unfolding Wfs count terms_bytes
    end_zero n o e =
        let r : take k l ≡ term_bytes x = ap (take k) b.bytes ∙ take_at (term_bytes x) b.rest k (length_bytes x ∙ sym e) in
        sym ((o nil tt).0 (record { subterm = x; wf = b.wf; bytes = sym (append-nil (take k l) ∙ r) }))

-- What the count says follows from the half that each byte keeps and from where the walk stops.
counted : (tab l : List ℕ) (k n : ℕ) → ((v : ℕ) → 0 < v → Every (IsNode v) (take k l) → AllComplete v tab (take k l) n) →
    ((x : Term) → Starts tab l x → k ≤ size x) → Counted tab l k n
counted tab l k n all within =
    let owed : (v : ℕ) → 0 < v → Every (IsNode v) (take k l) → Owed v tab (take k l) n = λ v h e. owed_of v tab (take k l) h n (all v h e) in
    record {
      exactly = owed;
      first_zero = λ x b.
          let h = within x b in
          let o = owed 32 (omega arith) (nodes_read tab l x b k h) in
          (h, (zero_ends tab l x b k h n o, end_zero tab l x b k h n o));
    }

pub counted_start : (tab l : List ℕ) → Counted tab l 0 1
counted_start tab l = counted tab l 0 1 (λ v h e. complete_start v tab) (λ x b. omega arith)

pub inside : (tab l : List ℕ) (k n : ℕ) → Counted tab l k n → (n ≡ 0 → ⊥) → (x : Term) → Starts tab l x → k < size x
inside tab l k n c z x b =
    let f = c.first_zero x b in
    let d : k ≡ size x → ⊥ = λ e. z (f.1.1 e) in
    omega (arith, f.0, d)

pub one_more : (l : List ℕ) (k : ℕ) → k < length l → take (k + 1) l ≡ take k l ++ (get_or l k 0 ∷ [])
one_more l k h = ap (λ j. take j l) (add-one k) ∙ take-suc l k 0 h

pub counted_turn : (tab l : List ℕ) (k n m : ℕ) → k < length l → (n ≡ 0 → ⊥) → m ≡ owes tab (get_or l k 0) → Counted tab l k n →
    Counted tab l (k + 1) (n - 1 + m)
counted_turn tab l k n m h z e c = counted tab l (k + 1) (n - 1 + m) all (λ x b. let i = inside tab l k n c z x b in omega arith)
  where
    all : (v : ℕ) → 0 < v → Every (IsNode v) (take (k + 1) l) → AllComplete v tab (take (k + 1) l) (n - 1 + m)
    all v some nodes =
        let byte : List ℕ = get_or l k 0 ∷ [] in
        let s = one_more l k h in
        let d = subst (Every (IsNode v)) s nodes in
        subst (λ r. AllComplete v tab r (n - 1 + m)) (sym s)
        (complete_turn v tab (take k l) (get_or l k 0) n m z e (every_head (every_right (take k l) byte d))
        (λ ts w. (c.exactly v some (every_left (take k l) byte d) ts w).1))

-- a byte that is tested
is_tested : (tab : List ℕ) (b : ℕ) → length tab ≤ 32 → is_node tab b ≡ true → IsNode 16 b
unfolding is_node
is_tested tab b h e = go (ltb (b + b) (length tab)) refl e
  where
    go : (t : Bool) → ltb (b + b) (length tab) ≡ t → (t || leb 128 b && leb b 143) ≡ true → IsNode 16 b
    go true k e = let l = ltb-true (b + b) (length tab) k in inl (omega arith)
    go false k e =
        let v = both_true (leb 128 b) (leb b 143) e in
        inr (leb-true 128 b v.0, let l = leb-true b 143 v.1 in omega arith)

-- The same from a place of t on, where the position is a place of t.
module _ (tab t : List ℕ) (at : ℕ) where
  none_read : at - at ≡ 0
  none_read = omega arith

  pub from_start : Counted tab (drop at t) (at - at) 1
  from_start = subst (λ k. Counted tab (drop at t) k 1) (sym none_read) (counted_start tab (drop at t))

  pub tested_start : Tested tab (drop at t) (at - at)
  tested_start = subst (Tested tab (drop at t)) (sym none_read) (record { nodes = λ few. of_none })

  module _ (i : ℕ) (a : at ≤ i) (h : i < length t) where
    next : i - at + 1 ≡ i + 1 - at
    next = omega arith

    there : i - at < length (drop at t)
    there = omega (arith, length-drop at t)

    byte : get_or t i 0 ≡ get_or (drop at t) (i - at) 0
    byte = let j : at + (i - at) ≡ i = omega arith in ap (λ p. get_or t p 0) (sym j) ∙ sym (get_or-drop at t (i - at) 0)

    pub from_turn : (n m : ℕ) → (n ≡ 0 → ⊥) → m ≡ owes tab (get_or t i 0) → Counted tab (drop at t) (i - at) n →
        Counted tab (drop at t) (i + 1 - at) (n - 1 + m)
    from_turn n m z e c =
        subst (λ k. Counted tab (drop at t) k (n - 1 + m)) next (counted_turn tab (drop at t) (i - at) n m there z (e ∙ ap (owes tab) byte) c)

    pub tested_turn : is_node tab (get_or t i 0) ≡ true → Tested tab (drop at t) (i - at) → Tested tab (drop at t) (i + 1 - at)
    tested_turn y r = subst (Tested tab (drop at t)) next (record {
      nodes = λ few.
          subst (Every (IsNode 16)) (sym (one_more (drop at t) (i - at) there))
          (every_append (r.nodes few) (every_one (subst (IsNode 16) byte (is_tested tab (get_or t i 0) few y))));
    })

-- what `term_end` answers: where nothing is owed, and where the bytes end
module _ (tab t : List ℕ) (at i n : ℕ) (a : at ≤ i) (c : Counted tab (drop at t) (i - at) n) (x : Term) (b : Starts tab (drop at t) x) where
  pub ends_zero : n ≡ 0 → i ≡ at + size x
  ends_zero z = omega (arith, (c.first_zero x b).1.0 z)

  pub ends_over : length t ≤ i → i ≡ at + size x
  ends_over h = omega (arith, (c.first_zero x b).0, starts_fit tab (drop at t) x b, length-drop at t)
