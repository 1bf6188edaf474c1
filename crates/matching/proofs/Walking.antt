-- The loop of `matches`: the patterns and terms still to be matched, with the bindings so far, come to what `matching` does. Assumes nothing.
-- Read first: specs/Held (Rep, Advanced, Matched), proofs/Celled, rewriting/specs/Rewrite (matching).
use mathlib.Core.Path.{◌≡◌, refl, sym, ◌∙◌, ap, subst}
use mathlib.Core.Bool.{Bool, true, false}
use mathlib.Core.List.{List, [], ◌∷◌, ◌++◌, append_assoc, append-nil, nil≢cons}
use mathlib.Core.Option.{Option, none, some}
use Prim.Native.Nat.{ℕ, zero, suc, ◌+◌, ◌*◌, ◌%◌, ◌<◌, ◌≤◌}
use native.Mathlib.Omega.{arith}
use native.Mathlib.Numerals.{add-one}
use lib.Dec.{eqb}
use lib.ListN.{length, get_or, drop, length-append, length-drop, drop_of_length-le}
use lib.Seq.{drop-cons, drop-drop, drop_at}
use Rattle.std.specs.Prelude.{if◌then◌else◌, Option as Optional, Some, None}
use Rattle.terms.specs.Term.{Term, Terms, var, node, nil, cons, term_bytes, terms_bytes, size, sizes, count}
use Rattle.terms.specs.Flat.{Wf, Wfs}
use Rattle.terms.specs.Scan.{arity}
use Rattle.terms.proofs.Several.{join, join_bytes, join_wf, join_count}
use Rattle.terms.proofs.Shape.{Says, eqb_says}
use Rattle.unify.specs.Unify.{Binding}
use Rattle.rewriting.specs.Rewrite.{bound, bind_to, matching, matching_all}
use Rattle.rewriting.proofs.Matching.{after}
use Rattle.matching.specs.Cells.{cells, cells_all, Stands}
use Rattle.matching.specs.Held.{Slot, Rep, Within, Cleared, BoundTo, Advanced, MatchingIs, Matched}
use Rattle.matching.proofs.Celled.{length_cells, cell_byte}
use Rattle.matching.proofs.Clearing.{cleared_within}

after_some : (o : Option (List Binding)) (k : List Binding → Option (List Binding)) → ((bs : List Binding) → k bs ≡ some bs) → after o k ≡ o
after_some none k h = refl
after_some (some bs) k h = h bs

after_after : (o : Option (List Binding)) (j k : List Binding → Option (List Binding)) (l : List Binding → Option (List Binding)) →
    ((bs : List Binding) → l bs ≡ after (j bs) k) → after o l ≡ after (after o j) k
after_after none j k l h = refl
after_after (some bs) j k l h = h bs

join_cells : (ts us : Terms) → cells_all (join ts us) ≡ cells_all ts ++ cells_all us
unfolding join cells_all
join_cells nil us = refl
join_cells (cons t ts) us = ap (λ l. cells t ++ l) (join_cells ts us) ∙ sym (append_assoc (cells t) (cells_all ts) (cells_all us))

matching_join : (ls xs ms ys : Terms) (bs : List Binding) → count ls ≡ count xs →
    matching_all (join ls ms) (join xs ys) bs ≡ after (matching_all ls xs bs) (λ q. matching_all ms ys q)
unfolding join matching_all count
matching_join nil nil ms ys bs e = refl
matching_join nil (cons x xs) ms ys bs e = absurd (omega arith)
matching_join (cons l ls) nil ms ys bs e = absurd (omega arith)
matching_join (cons l ls) (cons x xs) ms ys bs e =
    after_after (matching l x bs) (λ q. matching_all ls xs q) (λ q. matching_all ms ys q) (λ q. matching_all (join ls ms) (join xs ys) q)
    (λ q. matching_join ls xs ms ys q (omega arith))

-- What is left of the left side from i on, and of a term of n cells from j on, with the bindings so far.
pub record Going (tab left T : List ℕ) (n i j : ℕ) (B : List ℕ) (m : Option (List Binding)) : Type 0 where
  pub ls : Terms
  pub xs : Terms
  pub bs : List Binding
  pub rest : List ℕ
  pub wfl : Wfs 16 tab ls
  pub wfx : Wfs 32 tab xs
  pub number : count ls ≡ count xs
  pub pattern : drop i left ≡ terms_bytes ls
  pub subject : drop j T ≡ cells_all xs ++ rest
  pub tail : n + length rest ≡ length T
  pub held : Rep tab T n B bs
  pub answer : matching_all ls xs bs ≡ m

abbrev pub Goes : List ℕ → List ℕ → ℕ → ℕ → List ℕ → Type 0
Goes left T i j B =
    (tab : List ℕ) (l x : Term) → Wf 16 tab l → left ≡ term_bytes l → Stands tab T (size x) 0 x → Going tab left T (size x) i j B (matching l x [])

slot_none : (tab T : List ℕ) (n k : ℕ) → k ≡ 0 → Slot tab T n k none
slot_none tab T n zero e = tt
slot_none tab T n (suc k) e = absurd (omega arith)

rep_none : (tab T : List ℕ) (n : ℕ) (B : List ℕ) → Cleared B → Rep tab T n B []
unfolding bound
rep_none tab T n B c x h = slot_none tab T n (get_or B x 0) (c x h)

pub goes_start : (left T B : List ℕ) → Cleared B → Goes left T 0 0 B
unfolding Wfs terms_bytes cells_all count matching_all
goes_start left T B c tab l x w e s = record {
  ls = cons l nil;
  xs = cons x nil;
  bs = [];
  rest = s.rest;
  wfl = (w, tt);
  wfx = (s.wf, tt);
  number = refl;
  pattern = e ∙ sym (append-nil (term_bytes l));
  subject = s.text ∙ ap (λ z. z ++ s.rest) (sym (append-nil (cells x)));
  tail = sym (ap length s.text ∙ length-append (cells x) s.rest ∙ ap (λ z. z + length s.rest) (length_cells x));
  held = rep_none tab T (size x) B c;
  answer = after_some (matching l x []) (λ q. matching_all nil nil q) (λ q. refl);
}

done_go : (tab T : List ℕ) (n : ℕ) (B : List ℕ) (ls xs : Terms) (bs : List Binding) (m : Option (List Binding)) → [] ≡ terms_bytes ls → count ls ≡ count xs →
    Rep tab T n B bs → matching_all ls xs bs ≡ m → MatchingIs tab T n true B m
unfolding terms_bytes term_bytes count matching_all
done_go tab T n B nil nil bs m e c r a = subst (λ z. MatchingIs tab T n true B z) a (refl, r)
done_go tab T n B nil (cons x xs) bs m e c r a = absurd (omega arith)
done_go tab T n B (cons (var y) ls) xs bs m e c r a = absurd (nil≢cons e)
done_go tab T n B (cons (node f ps) ls) xs bs m e c r a = absurd (nil≢cons e)

pub goes_done : (left T : List ℕ) (i j : ℕ) (B₀ B : List ℕ) → length left ≤ i → length B ≡ length B₀ → Within T B → Goes left T i j B → Matched left T B₀ true B
goes_done left T i j B₀ B h s w g = record {
  same = s;
  within = w;
  answer = λ tab l x u e d. let o = g tab l x u e d in
      let f = sym (drop_of_length-le left h) ∙ o.pattern in
      done_go tab T (size x) B o.ls o.xs o.bs (matching l x []) f o.number o.held o.answer;
}

none_left : (b : ℕ) (p : List ℕ) (ls xs : Terms) (rest : List ℕ) → b ∷ p ≡ terms_bytes ls → count ls ≡ count xs → [] ≡ cells_all xs ++ rest → ⊥
unfolding terms_bytes term_bytes cells_all cells count
none_left b p nil xs rest e n d = nil≢cons (sym e)
none_left b p (cons l ls) nil rest e n d = omega arith
none_left b p (cons l ls) (cons (var y) xs) rest e n d = nil≢cons d
none_left b p (cons l ls) (cons (node f ys) xs) rest e n d = nil≢cons d

pub goes_over : (left T : List ℕ) (i j : ℕ) (B₀ B : List ℕ) → i < length left → length T ≤ j → length B ≡ length B₀ → Within T B → Goes left T i j B →
    Matched left T B₀ false B
goes_over left T i j B₀ B h k s w g = record {
  same = s;
  within = w;
  answer = λ tab l x u e d. let o = g tab l x u e d in
      let f = sym (drop-cons left i 0 h) ∙ o.pattern in
      absurd (none_left (get_or left i 0) (drop (suc i) left) o.ls o.xs o.rest f o.number (sym (drop_of_length-le T k) ∙ o.subject));
}

-- one turn
abbrev Turned : List ℕ → List ℕ → List ℕ → ℕ → ℕ → Optional ℕ → List ℕ → Option (List Binding) → Type 0
Turned tab left T n i r B m = (r ≡ None → m ≡ none) × ((e : ℕ) → r ≡ Some e → Going tab left T n (i + 1) e B m)

module _ (tab left T : List ℕ) (n i j : ℕ) (B : List ℕ) (r : Optional ℕ) (B' : List ℕ) (h : i < length left) (k : j < length T)
    (a : Advanced T (get_or left i 0) j B r B')
    (m : Option (List Binding)) (rest : List ℕ) (tail : n + length rest ≡ length T) where
  var_go : (x : Term) (ls xs : Terms) → Wfs 16 tab ls → Wfs 32 tab xs → count ls ≡ count xs → drop (suc i) left ≡ terms_bytes ls →
      drop j T ≡ cells x ++ (cells_all xs ++ rest) →
      (o : Option (List Binding)) → BoundTo tab T n j x r B' o → after o (λ q. matching_all ls xs q) ≡ m → Turned tab left T n i r B' m
  var_go x ls xs w v c p s none e q = (λ z. sym q, λ d z. absurd (cc (e, z)))
  var_go x ls xs w v c p s (some bs) e q = (
    λ z. absurd (cc (e.0, z)),
    λ d z. let g : d ≡ j + size x = cc (e.0, z) in record {
      ls = ls;
      xs = xs;
      bs = bs;
      rest = rest;
      wfl = w;
      wfx = v;
      number = c;
      pattern = rw (add-one i) p;
      subject = rw (g, ← drop-drop (size x) j T, s) (drop_at (cells x) (cells_all xs ++ rest) (size x) (length_cells x));
      tail = tail;
      held = e.1;
      answer = q;
    },
  )

  node_go : (f g : ℕ) (ps ys ls xs : Terms) (bs : List Binding) → Wf 16 tab (node f ps) → Wf 32 tab (node g ys) → Wfs 16 tab ls → Wfs 32 tab xs →
      count ls ≡ count xs →
      get_or left i 0 ≡ f → drop (suc i) left ≡ terms_bytes ps ++ terms_bytes ls → get_or T j 0 % 256 ≡ g →
      drop (suc j) T ≡ cells_all ys ++ (cells_all xs ++ rest) → Rep tab T n B bs →
      (c : Bool) → Says (f ≡ g) c → after (if c then matching_all ps ys bs else none) (λ q. matching_all ls xs q) ≡ m → Turned tab left T n i r B' m
  unfolding Wf
  node_go f g ps ys ls xs bs wf wg w v c e p d s o false ne q = (
    λ z. sym q,
    λ k z. absurd (ne (sym e ∙ sym (a.symbol k (let l : f < 16 = wf.0 in omega arith) z).0 ∙ d)),
  )
  node_go f g ps ys ls xs bs wf wg w v c e p d s o true eq q =
      let b : get_or left i 0 < 128 = let l : f < 16 = wf.0 in omega arith in
      let ca : count ps ≡ arity tab f = wf.1 in
      let cy : count ys ≡ arity tab g = wg.1 in
      let cs : count ps ≡ count ys = ca ∙ ap (arity tab) eq ∙ sym cy in (
        λ z. absurd (a.differs b z (d ∙ sym eq ∙ sym e)),
        λ k z.
            let y = a.symbol k b z in
            record {
              ls = join ps ls;
              xs = join ys xs;
              bs = bs;
              rest = rest;
              wfl = join_wf 16 tab ps ls wf.2 w;
              wfx = join_wf 32 tab ys xs wg.2 v;
              number = omega (arith, join_count ps ls, join_count ys xs);
              pattern = rw (add-one i) (p ∙ sym (join_bytes ps ls));
              subject = rw (y.1, add-one j) (s ∙ rw (join_cells ys xs) (sym (append_assoc (cells_all ys) (cells_all xs) rest)));
              tail = tail;
              held = subst (λ l. Rep tab T n l bs) (sym y.2) o;
              answer = matching_join ps ys ls xs bs cs ∙ q;
            },
      )

  stands : (x : Term) (xs : Terms) → Wf 32 tab x → drop j T ≡ cells x ++ (cells_all xs ++ rest) → Stands tab T n j x
  stands x xs w e = record {
    wf = w;
    rest = cells_all xs ++ rest;
    text = e;
    inside =
        omega (arith, sym (length-drop j T) ∙ ap length e ∙ length-append (cells x) (cells_all xs ++ rest), length-append (cells_all xs) rest, length_cells x);
  }

  turn_go : (ls xs : Terms) (bs : List Binding) → Wfs 16 tab ls → Wfs 32 tab xs → count ls ≡ count xs → get_or left i 0 ∷ drop (suc i) left ≡ terms_bytes ls →
      get_or T j 0 ∷ drop (suc j) T ≡ cells_all xs ++ rest → drop j T ≡ cells_all xs ++ rest → Rep tab T n B bs → matching_all ls xs bs ≡ m →
      Turned tab left T n i r B' m
  unfolding terms_bytes term_bytes cells_all cells Wfs Wf count matching_all matching
  turn_go nil xs bs w v c p s s' o q = absurd (nil≢cons (sym p))
  turn_go (cons l ls) nil bs w v c p s s' o q = absurd (omega arith)
  turn_go (cons (var y) ls) (cons x xs) bs w v c p s s' o q =
      let st : Stands tab T n j x = stands x xs v.0 (s' ∙ append_assoc (cells x) (cells_all xs) rest) in
      var_go x ls xs w.1 v.1 (omega arith) (cc) (s' ∙ append_assoc (cells x) (cells_all xs) rest) (bind_to y x bs (bound bs y))
      (a.variable y (cc) w.0 tab n x st bs o) q
  turn_go (cons (node f ps) ls) (cons (var y) xs) bs w v c p s s' o q = (
    λ z. sym q,
    λ k z.
        let b : f < 16 = w.0.0 in
        let e : get_or left i 0 ≡ f = cc in
        let d : get_or T j 0 ≡ 128 + y + 256 * 1 = cc in
        let g : y < 32 = v.0 in
        absurd (let u : get_or T j 0 % 256 ≡ get_or left i 0 = (a.symbol k (omega arith) z).0 in omega arith),
  )
  turn_go (cons (node f ps) ls) (cons (node g ys) xs) bs w v c p s s' o q =
      let d : get_or T j 0 ≡ g + 256 * suc (sizes ys) = cc in
      let b : g < 16 = v.0.0 in
      node_go f g ps ys ls xs bs w.0 v.0 w.1 v.1 (omega arith) (cc) (cc) (ap (λ z. z % 256) d ∙ cell_byte g (suc (sizes ys)) (omega arith))
      (ap (drop 1) s ∙ append_assoc (cells_all ys) (cells_all xs) rest) o (eqb f g) (eqb_says f g) q

turn : (tab left T : List ℕ) (n i j : ℕ) (B : List ℕ) (r : Optional ℕ) (B' : List ℕ) → i < length left → j < length T → Advanced T (get_or left i 0) j B r B' →
    (m : Option (List Binding)) → Going tab left T n i j B m → Turned tab left T n i r B' m
turn tab left T n i j B r B' h k a m o =
    turn_go tab left T n i j B r B' h k a m o.rest o.tail o.ls o.xs o.bs o.wfl o.wfx o.number (sym (drop-cons left i 0 h) ∙ o.pattern)
    (sym (drop-cons T j 0 k) ∙ o.subject) o.subject o.held o.answer

module _ (left T : List ℕ) (i j : ℕ) (B : List ℕ) (r : Optional ℕ) (B' : List ℕ) (h : i < length left) (k : j < length T)
    (a : Advanced T (get_or left i 0) j B r B')
    (g : Goes left T i j B) where
  pub goes_on : (d : ℕ) → r ≡ Some d → Goes left T (i + 1) d B'
  goes_on d z tab l x w e s = (turn tab left T (size x) i j B r B' h k a (matching l x []) (g tab l x w e s)).1 d z

  pub goes_wrong : r ≡ None → (B₀ : List ℕ) → length B' ≡ length B₀ → Matched left T B₀ false B'
  goes_wrong z B₀ q = record {
    same = q;
    within = a.within;
    answer = λ tab l x w e s.
        let none_found = (turn tab left T (size x) i j B r B' h k a (matching l x []) (g tab l x w e s)).0 z in
        subst (λ o. MatchingIs tab T (size x) false B' o) (sym none_found) refl;
  }

-- what the loop keeps
pub record Here (left T B₀ B : List ℕ) (i j : ℕ) : Type 0 where
  pub in_left : i ≤ length left
  pub in_term : j ≤ length T
  pub same : length B ≡ length B₀
  pub within : Within T B
  pub goes : Goes left T i j B

pub here_start : (left T B₀ B : List ℕ) → length B ≡ length B₀ → Cleared B → Here left T B₀ B 0 0
here_start left T B₀ B s c = record { in_left = omega arith; in_term = omega arith; same = s; within = cleared_within T B c; goes = goes_start left T B c }

pub here_on : (left T B₀ B : List ℕ) (i j d : ℕ) (r : Optional ℕ) (B' : List ℕ) → i < length left → j < length T → Here left T B₀ B i j →
    Advanced T (get_or left i 0) j B r B' → r ≡ Some d → Here left T B₀ B' (i + 1) d
here_on left T B₀ B i j d r B' h k o a z = record {
  in_left = omega arith;
  in_term = a.place d z;
  same = a.same ∙ o.same;
  within = a.within;
  goes = goes_on left T i j B r B' h k a o.goes d z;
}
