-- The term that a node spells is written byte by byte. The loop has a list of the nodes whose subterms are still owed: a lemma for each of its steps, and
-- for those of `list`. Assumes nothing.
-- Read first: specs/Written, classes/specs/Arena (Spells), terms/proofs/Several (join).
use mathlib.Core.Path.{◌≡◌, refl, sym, ap, ap₂, subst, subst₂, ◌∙◌}
use mathlib.Core.List.{List, [], ◌∷◌, ◌++◌, append-nil, append_assoc}
use Prim.Native.Nat.{ℕ, zero, suc, ◌+◌, ◌-◌, ◌≤◌, ◌<◌}
use native.Mathlib.Omega.{arith}
use native.Mathlib.Numerals.{add-one}
use lib.ListN.{length, take, drop, set, length-set, length-drop, length-append, drop_of_length-le}
use lib.Seq.{take_at, drop_at, drop-cons, sets-eq, length-sets, length-take-le, get_or-set_same}
use Rattle.terms.specs.Base.{of_none, of_cons}
use Rattle.terms.specs.Term.{Term, Terms, nil, cons, size, sizes, term_bytes, terms_bytes}
use Rattle.terms.specs.Scan.{owes}
use Rattle.terms.proofs.Scans.{owes_other}
use Rattle.terms.proofs.Places.{size_pos}
use Rattle.terms.proofs.Every.{every_head, every_tail}
use Rattle.terms.proofs.Several.{join, join_bytes, join_sizes}
use Rattle.classes.specs.Arena.{Arena, Spells, free, made, SpellsAll, none, more}
use Rattle.classes.specs.Steps.{at, arena, Ready}
use Rattle.classes.specs.Unique.{spells_within, spells_one}
use Rattle.mgu.specs.Written.{put, hops, HopsWithin, RoomFor, WritesTerm}

pub put_append : (to : ℕ) (xs ys d : List ℕ) → put to (xs ++ ys) d ≡ put (to + length xs) ys (put to xs d)
unfolding put
put_append to [] ys d = let e : to + 0 ≡ to = omega arith in rw e refl
put_append to (x ∷ xs) ys d =
    let e : to + suc (length xs) ≡ suc to + length xs = omega arith in
    put_append (suc to) xs ys (set d to x) ∙ ap (λ k. put k ys (put (suc to) xs (set d to x))) (sym e)

-- what was written can be read
pub put_reads : (bs d : List ℕ) → length bs ≤ length d → take (length bs) (put 0 bs d) ≡ bs
unfolding put
put_reads bs d h = ap (take (length bs)) (sets-eq bs d 0 (omega arith)) ∙ take_at bs (drop (0 + length bs) d) (length bs) refl

-- what stands from where it was written on
put_drops : (to : ℕ) (bs d : List ℕ) → to + length bs ≤ length d → drop to (put to bs d) ≡ bs ++ drop (to + length bs) d
unfolding put
put_drops to bs d h =
    ap (drop to) (sets-eq bs d to h ∙ append_assoc (take to d) bs (drop (to + length bs) d))
    ∙ drop_at (take to d) (bs ++ drop (to + length bs) d) to (length-take-le to d (omega arith))

length_put : (to : ℕ) (bs d : List ℕ) → length (put to bs d) ≡ length d
unfolding put
length_put to bs d = length-sets d to bs

hops_length : (ends : List ℕ) (p k : ℕ) → length (hops ends p k) ≡ k
unfolding hops
hops_length ends p zero = refl
hops_length ends p (suc k) = ap suc (hops_length ends (at ends p) k)

-- `list`: the nodes from q on are still to be put, from w + j on
pub record Listing (ends owed₀ : List ℕ) (p k w : ℕ) (owed : List ℕ) (q j : ℕ) : Type 0 where
  pub within : j ≤ k
  pub left : HopsWithin ends q (k - j)
  pub puts : put (w + j) (hops ends q (k - j)) owed ≡ put w (hops ends p k) owed₀
  pub long : length owed ≡ length owed₀

pub list_start : (ends owed : List ℕ) (p k w : ℕ) → HopsWithin ends p k → Listing ends owed p k w owed p 0
list_start ends owed p k w h =
    let e : k - 0 ≡ k = omega arith in
    let z : w + 0 ≡ w = omega arith in
    record { within = omega arith; left = rw e h; puts = rw (e, z) refl; long = refl }

module _ {ends owed₀ : List ℕ} {p k w : ℕ} {owed : List ℕ} {q j : ℕ} (s : Listing ends owed₀ p k w owed q j) where
  pub list_done : k ≤ j → owed ≡ put w (hops ends p k) owed₀
  unfolding put hops
  list_done h = let e : k - j ≡ 0 = omega (arith, s.within) in (rw e at s.puts)

  module _ (h : j < k) where
    one_left : suc (k - suc j) ≡ k - j
    one_left = omega arith

    here : HopsWithin ends q (suc (k - suc j))
    here = subst (HopsWithin ends q) (sym one_left) s.left

    pub list_here : (q < length ends) × (q < 65_536)
    unfolding hops
    list_here = every_head here

    pub list_more : (q' : ℕ) → q' ≡ at ends q → Listing ends owed₀ p k w (set owed (w + j) q) q' (j + 1)
    unfolding put hops
    list_more q' e =
        let a : w + (j + 1) ≡ suc (w + j) = omega arith in
        let b : k - (j + 1) ≡ k - suc j = omega arith in
        subst (λ x. Listing ends owed₀ p k w (set owed (w + j) q) x (j + 1)) (sym e) (record {
          within = omega arith;
          left = subst (HopsWithin ends (at ends q)) (sym b) (every_tail here);
          puts = ap₂ (λ x m. put x (hops ends (at ends q) m) (set owed (w + j) q)) a b ∙ ap (λ m. put (w + j) (hops ends q m) owed) one_left ∙ s.puts;
          long = length-set owed (w + j) q ∙ s.long;
        })

-- the terms that nodes spell, one by one
unfoldable pub SpeltBy : Arena → (ℕ → ℕ) → List ℕ → Terms → Type 0
SpeltBy A c [] nil = Unit {0}
SpeltBy A c [] (cons t ts) = ⊥
SpeltBy A c (p ∷ ps) nil = ⊥
SpeltBy A c (p ∷ ps) (cons t ts) = Spells A c p t × SpeltBy A c ps ts

spelt_join : (A : Arena) (c : ℕ → ℕ) (ps qs : List ℕ) (ts us : Terms) → SpeltBy A c ps ts → SpeltBy A c qs us → SpeltBy A c (ps ++ qs) (join ts us)
unfolding SpeltBy join
spelt_join A c [] qs nil us s t = t
spelt_join A c [] qs (cons x ts) us s t = absurd s
spelt_join A c (p ∷ ps) qs nil us s t = absurd s
spelt_join A c (p ∷ ps) qs (cons x ts) us s t = (s.0, spelt_join A c ps qs ts us s.1 t)

-- each has a byte, so they are at most as many as their bytes
spelt_few : (A : Arena) (c : ℕ → ℕ) (ps : List ℕ) (ts : Terms) → SpeltBy A c ps ts → length ps ≤ sizes ts
unfolding SpeltBy sizes
spelt_few A c [] nil s = omega arith
spelt_few A c [] (cons t ts) s = absurd s
spelt_few A c (p ∷ ps) nil s = absurd s
spelt_few A c (p ∷ ps) (cons t ts) s = omega (arith, size_pos t, spelt_few A c ps ts s.1)

module _ (l tab ends cs : List ℕ) where
  spelt_hops : (p k : ℕ) (ts : Terms) → SpellsAll (arena l tab ends) (at cs) p k ts → SpeltBy (arena l tab ends) (at cs) (hops ends p k) ts
  unfolding SpeltBy hops
  spelt_hops p k ts none = tt
  spelt_hops p k ts (more {k = m} {ts = vs} s r) = (s, spelt_hops (at ends p) m vs r)

  hops_within : Ready l tab ends cs → (p k : ℕ) (ts : Terms) → SpellsAll (arena l tab ends) (at cs) p k ts → HopsWithin ends p k
  unfolding hops
  hops_within y p k ts none = of_none
  hops_within y p k ts (more {k = m} {ts = vs} s r) =
      let h : p < length l = spells_within (arena l tab ends) s in
      of_cons {x = p} (omega (arith, y.ended), omega (arith, y.small)) (hops_within y (at ends p) m vs r)

  -- a node's term is the byte of its class and the arguments there
  pub record Taken (q : ℕ) (t : Term) : Type 0 where
    pub args : Terms
    pub spelt : SpellsAll (arena l tab ends) (at cs) (suc (at cs q)) (owes tab (at l (at cs q))) args
    pub bytes : term_bytes t ≡ at l (at cs q) ∷ terms_bytes args
    pub number : size t ≡ suc (sizes args)

  taken : (q : ℕ) (t : Term) → Spells (arena l tab ends) (at cs) q t → Taken q t
  unfolding term_bytes size
  taken q t (free {x = x} h e) =
      let b : 16 ≤ at l (at cs q) = omega arith in
      record {
        args = nil;
        spelt = subst (λ n. SpellsAll (arena l tab ends) (at cs) (suc (at cs q)) n nil) (sym (owes_other tab (at l (at cs q)) b)) none;
        bytes = ap (λ z. z ∷ []) (sym e);
        number = omega arith;
      }
  taken q t (made {f = f} {ts = ts} h e k r) =
      record {
        args = ts;
        spelt = subst (λ z. SpellsAll (arena l tab ends) (at cs) (suc (at cs q)) (owes tab z) ts) (sym e) r;
        bytes = ap (λ z. z ∷ terms_bytes ts) (sym e);
        number = refl;
      }

-- `write`: the nodes from `first` on spell the terms that are still owed; with these written from i on, e is what is to be left
pub record Writing (l tab ends cs : List ℕ) (p to : ℕ) (d owed : List ℕ) (first : ℕ) (e : List ℕ) (i : ℕ) : Type 0 where
  pub ready : Ready l tab ends cs
  pub whole : Term
  pub spells : Spells (arena l tab ends) (at cs) p whole
  pub fits : to + size whole ≤ length d
  pub terms : Terms
  pub spelt : SpeltBy (arena l tab ends) (at cs) (drop first owed) terms
  pub room : length owed ≡ 120
  pub within : first ≤ 120
  pub few : sizes terms ≤ 120
  pub ends_at : i + sizes terms ≡ to + size whole
  pub bytes : put i (terms_bytes terms) e ≡ put to (term_bytes whole) d
  pub long : length e ≡ length d

pub write_start : (l tab ends cs : List ℕ) (p to : ℕ) (d owed : List ℕ) → Ready l tab ends cs → RoomFor (arena l tab ends) (at cs) p to d →
    length owed ≡ 120 → Writing l tab ends cs p to d (set owed 119 p) 119 d to
unfolding SpeltBy terms_bytes sizes
write_start l tab ends cs p to d owed y r h = record {
  ready = y;
  whole = r.0;
  spells = r.1;
  fits = r.3;
  terms = cons r.0 nil;
  spelt = subst (λ ps. SpeltBy (arena l tab ends) (at cs) ps (cons r.0 nil)) (sym last) (r.1, tt);
  room = length-set owed 119 p ∙ h;
  within = omega arith;
  few = omega (arith, r.2);
  ends_at = omega arith;
  bytes = ap (λ bs. put to bs d) (append-nil (term_bytes r.0));
  long = refl;
}
  where
    last : drop 119 (set owed 119 p) ≡ p ∷ []
    last =
        let k : length (set owed 119 p) ≤ 120 = omega (arith, length-set owed 119 p) in
        drop-cons (set owed 119 p) 119 0 (omega (arith, length-set owed 119 p))
        ∙ ap₂ ◌∷◌ (get_or-set_same owed 119 p 0 (omega arith)) (drop_of_length-le (set owed 119 p) k)

module _ {l tab ends cs : List ℕ} {p to : ℕ} {d owed : List ℕ} {first : ℕ} {e : List ℕ} {i : ℕ} (w : Writing l tab ends cs p to d owed first e i) where
  abbrev A : Arena
  A = arena l tab ends

  none_owed : 120 ≤ first → w.terms ≡ nil
  unfolding SpeltBy
  none_owed h =
      let k : length owed ≤ first = omega (arith, w.room) in
      go w.terms (subst (λ ps. SpeltBy A (at cs) ps w.terms) (drop_of_length-le owed k) w.spelt)
    where
      go : (ts : Terms) → SpeltBy A (at cs) [] ts → ts ≡ nil
      go nil s = refl
      go (cons t ts) s = absurd s

  pub write_done : 120 ≤ first → WritesTerm A (at cs) p to d i e
  unfolding put terms_bytes sizes
  write_done h =
      let z = none_owed h in
      let n : i ≡ to + size w.whole = omega (arith, w.ends_at, ap sizes z) in
      let b : e ≡ put to (term_bytes w.whole) d = sym (ap (λ ts. put i (terms_bytes ts) e) z) ∙ w.bytes in
      record {
        ends = λ v t. n ∙ ap (λ x. to + size x) (spells_one A w.spells t);
        bytes = λ v t. b ∙ ap (λ x. put to (term_bytes x) d) (spells_one A w.spells t);
        long = w.long;
      }

  module _ (h : first < 120) (q : ℕ) (eq : q ≡ at owed first) where
    -- the node that is taken next, its term and the others
    pub record Next : Type 0 where
      pub t : Term
      pub vs : Terms
      pub spells : Spells A (at cs) q t
      pub rest : SpeltBy A (at cs) (drop (suc first) owed) vs
      pub whole : w.terms ≡ cons t vs
      pub taken : Taken l tab ends cs q t
      pub number : sizes w.terms ≡ suc (sizes taken.args + sizes vs)
      -- what the code reads and writes there
      pub node : (q < length l) × (length l ≤ 600)
      pub class : q < length cs
      pub root : (r : ℕ) → r ≡ at cs q → r < length l
      pub byte : i < length e

    pub next : Next
    unfolding SpeltBy sizes
    next = go w.terms refl (subst (λ ps. SpeltBy A (at cs) ps w.terms) stands w.spelt)
      where
        stands : drop first owed ≡ q ∷ drop (suc first) owed
        stands = drop-cons owed first 0 (omega (arith, w.room)) ∙ ap (λ x. x ∷ drop (suc first) owed) (sym eq)

        go : (ts : Terms) → w.terms ≡ ts → SpeltBy A (at cs) (q ∷ drop (suc first) owed) ts → Next
        go nil z s = absurd s
        go (cons t vs) z s =
            let T = taken l tab ends cs q t s.0 in
            let n : q < length l = spells_within A s.0 in
            let m : sizes w.terms ≡ suc (sizes T.args + sizes vs) = ap sizes z ∙ omega (arith, T.number) in
            record {
              t = t;
              vs = vs;
              spells = s.0;
              rest = s.1;
              whole = z;
              taken = T;
              number = m;
              node = (n, w.ready.small);
              class = omega (arith, w.ready.classed);
              root = λ r k. subst (λ x. x < length l) (sym k) (w.ready.within q n);
              byte = omega (arith, m, w.ends_at, w.long, w.fits);
            }

    module _ (r n : ℕ) (er : r ≡ at cs q) (en : n ≡ owes tab (at l r)) where
      abbrev args : Terms
      args = next.taken.args

      abbrev ts : Terms
      ts = join args next.vs

      abbrev hs : List ℕ
      hs = hops ends (r + 1) n

      spelt_args : SpellsAll A (at cs) (r + 1) n args
      spelt_args =
          subst₂ (λ x m. SpellsAll A (at cs) x m args) (ap suc (sym er) ∙ sym (add-one r)) (ap (λ x. owes tab (at l x)) (sym er) ∙ sym en) next.taken.spelt

      listed : SpeltBy A (at cs) (hs ++ drop (suc first) owed) ts
      listed = spelt_join A (at cs) hs (drop (suc first) owed) args next.vs (spelt_hops l tab ends cs (r + 1) n args spelt_args) next.rest

      fewer : sizes ts < 120
      fewer = omega (arith, join_sizes args next.vs, next.number, w.few)

      fewer_owed : n ≤ first + 1
      fewer_owed =
          omega (
            arith,
            spelt_few A (at cs) (hs ++ drop (suc first) owed) ts listed,
            length-append hs (drop (suc first) owed),
            hops_length ends (r + 1) n,
            length-drop (suc first) owed,
            w.room,
            fewer,
          )

      room_left : first + 1 - n + n ≤ length owed
      room_left = omega (arith, fewer_owed, w.room)

      module _ (owed' : List ℕ) (eo : owed' ≡ put (first + 1 - n) hs owed) where
        stands : drop (first + 1 - n) owed' ≡ hs ++ drop (suc first) owed
        stands =
            let k = hops_length ends (r + 1) n in
            let a : first + 1 - n + length hs ≡ suc first = omega (arith, k, fewer_owed) in
            ap (drop (first + 1 - n)) eo ∙ put_drops (first + 1 - n) hs owed (omega (arith, k, room_left)) ∙ ap (λ x. hs ++ drop x owed) a

        now_bytes : put (i + 1) (terms_bytes ts) (set e i (at l r)) ≡ put to (term_bytes w.whole) d
        unfolding put terms_bytes
        now_bytes =
            let B : List ℕ = terms_bytes ts in
            let all : terms_bytes w.terms ≡ at l r ∷ B =
            ap terms_bytes next.whole ∙ ap (λ x. x ++ terms_bytes next.vs) next.taken.bytes
            ∙ ap₂ ◌∷◌ (ap (at l) (sym er)) (sym (join_bytes args next.vs)) in
            ap (λ x. put x B (set e i (at l r))) (add-one i) ∙ ap (λ bs. put i bs e) (sym all) ∙ w.bytes

        write_more : Writing l tab ends cs p to d owed' (first + 1 - n) (set e i (at l r)) (i + 1)
        write_more = record {
          ready = w.ready;
          whole = w.whole;
          spells = w.spells;
          fits = w.fits;
          terms = ts;
          spelt = subst (λ ps. SpeltBy A (at cs) ps ts) (sym stands) listed;
          room = ap length eo ∙ length_put (first + 1 - n) hs owed ∙ w.room;
          within = omega arith;
          few = omega (arith, fewer);
          ends_at = omega (arith, join_sizes args next.vs, next.number, w.ends_at);
          bytes = now_bytes;
          long = length-set e i (at l r) ∙ w.long;
        }

      -- what holds once the byte's arguments are known: they have room in the list, their nodes are there, and with them listed the loop goes on
      pub record Step : Type 0 where
        pub owes_few : n ≤ first + 1
        pub lists : (first + 1 - n + n ≤ length owed) × HopsWithin ends (r + 1) n
        pub goes_on : (owed' : List ℕ) → owed' ≡ put (first + 1 - n) hs owed → Writing l tab ends cs p to d owed' (first + 1 - n) (set e i (at l r)) (i + 1)

      pub step : Step
      step = record {
        owes_few = fewer_owed;
        lists = (room_left, hops_within l tab ends cs w.ready (r + 1) n args spelt_args);
        goes_on = write_more;
      }
